-- The values that a header may have.
-- Source: trace-cmd.dat.v6(5); that the page size is a power of two from 4,096 to 65,536 and that there are at most 1,024
-- processors are limits of this program.
use Rattle.std.specs.Prelude.{◌≡◌, ◌≢◌, ℕ, ◌^◌, ◌<◌, ◌≤◌, ◌⊎◌, List, length, Some, IfSome}
use Rattle.std.specs.List.{All}
use Rattle.dat_options.specs.Options.{IsOption}
use Rattle.dat_header.specs.declared.header.Header.{Header}
use Rattle.dat_header.specs.declared.header.System.{System}
use Rattle.dat_header.specs.declared.header.Body.{Body}
use Rattle.dat_header.specs.declared.header.Body.TheVariants.{Latency, Fly}
use Rattle.dat_header.specs.PageText.{layout_of}

abbrev pub IsLong : ℕ → Type 0
IsLong long = (long ≡ 4) ⊎ (long ≡ 8)

abbrev pub IsPageSize : ℕ → Type 0
IsPageSize page = (power : ℕ) × (12 ≤ power) × (power ≤ 16) × (page ≡ 2 ^ power)

-- a name without NUL
abbrev pub IsSystemName : List ℕ → Type 0
IsSystemName name = All (λ byte. byte ≢ 0) name

-- texts whose sizes and whose number fit the words before them
pub record AreFormats (formats : List (List ℕ)) : Type 0 where
  pub counted : length formats < 2 ^ 32
  pub sized : All (λ text. length text < 2 ^ 64) formats

pub record IsSystem (system : System) : Type 0 where
  pub name : IsSystemName system.name
  pub formats : AreFormats system.formats

pub record AreSystems (systems : List System) : Type 0 where
  pub counted : length systems < 2 ^ 32
  pub each : All IsSystem systems

-- a table has one part a processor
abbrev pub IsBody : ℕ → Body → Type 0
IsBody cpus Latency = Unit {0}
IsBody cpus (Fly parts) = length parts ≡ cpus

-- every value but the header's own length is one that may stand in a file
pub record IsHeader (header : Header) : Type 0 where
  pub long : IsLong header.long
  pub page : IsPageSize header.page
  pub page_text : length header.page_text < 2 ^ 64
  pub layout : layout_of header.order header.long header.page header.page_text ≡ Some header.layout
  pub event_text : length header.event_text < 2 ^ 64
  pub ftrace : AreFormats header.ftrace
  pub systems : AreSystems header.systems
  pub kallsyms : length header.kallsyms < 2 ^ 32
  pub printk : length header.printk < 2 ^ 32
  pub cmdlines : length header.cmdlines < 2 ^ 64
  pub cpus : header.cpus ≤ 1024
  pub options : IfSome header.options (All IsOption)
  pub body : IsBody header.cpus header.body
