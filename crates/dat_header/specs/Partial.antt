-- The header of a partial file: of a recording that broke off, only the descriptions are there. Such a file stops in front of the
-- command lines, which are the fourteenth item of a header, or goes on with them; what follows them is not looked at.
-- Source: trace-cmd-restore(1); trace-cmd.dat.v6(5).
use Rattle.std.specs.Prelude.{◌≡◌, ◌↔◌, ◌≤◌, ◌<◌, ◌⊎◌, ◌==◌, ℕ, List, [], length, Option, None, Result, Ok, Err, if◌then◌else◌}
use Rattle.trace_base.specs.declared.order.Order.{Order}
use Rattle.dat_options.specs.declared.fault.OpenFault.{OpenFault}
use Rattle.dat_options.specs.Answer.{AnswersTold}
use Rattle.dat_options.specs.Place.{AreBytes}
use Rattle.dat_header.specs.declared.header.Header.{Header}
use Rattle.dat_header.specs.declared.header.Body.TheVariants.{Fly}
use Rattle.dat_header.specs.declared.pieces.Opening.{Opening}
use Rattle.dat_header.specs.declared.pieces.Carried.{Carried}
use Rattle.dat_header.specs.Allowed.{IsHeader}
use Rattle.dat_header.specs.Spelling.{BeginsWith, HasHeader}
use Rattle.dat_header.specs.Refusal.{Refuses, front}
use Rattle.dat_header.specs.Found.{Found, ◌>>=◌}
use Rattle.dat_header.specs.ItemsAt.{text_at}
use Rattle.dat_header.specs.Opening.{opening_at, described_at}
use Rattle.dat_header.specs.Header.{joined}

-- it tells of no processor, and has no options and an empty table
pub record IsPartial (header : Header) : Type 0 where
  pub allowed : IsHeader header
  pub cpus : header.cpus ≡ 0
  pub options : header.options ≡ None
  pub body : header.body ≡ Fly []

-- the file has the items in front of the command lines, and nothing else
pub record StopsBefore (header : Header) (file : List ℕ) : Type 0 where
  pub whole : file ≡ front 13 header
  pub none : header.cmdlines ≡ []
  pub ends : header.end ≡ length file

-- the file begins with all items up to the command lines
pub record GoesOn (header : Header) (file : List ℕ) : Type 0 where
  pub begins : BeginsWith file (front 14 header)
  pub ends : header.end ≡ length (front 14 header)

-- the file is one of the two, and no file is both
pub record HasPartial (file : List ℕ) (header : Header) : Type 0 where
  pub is : IsPartial header
  pub spelled : StopsBefore header file ⊎ GoesOn header file

-- One of the first fourteen items is wrong, at its place as in a whole header; it is not the command lines where the file stops
-- in front of them.
pub record RefusesPartial (file : List ℕ) (fault : OpenFault) : Type 0 where
  pub refuses : Refuses file fault
  pub early : refuses.count ≤ 13
  pub goes_on : refuses.count ≡ 13 → length (front 13 refuses.header) < length file

-- the command lines, which are empty where the file stops in front of them
unfoldable pub cmdlines_at : Order → List ℕ → ℕ → Found (List ℕ)
cmdlines_at order file at = if at == length file then Ok ([], at) else text_at 8 order file at

-- the header of these pieces, with no processor, no options and an empty table
abbrev pub partial_header : Opening → Carried → ℕ → Header
partial_header opening carried end = joined opening carried 0 (record { options = None; body = Fly [] }) end

-- the header of a partial file, or what is wrong with it
unfoldable pub partial_of : List ℕ → Result Header OpenFault
partial_of file = do
  (opening, at_event) ← opening_at file 0
  (described, at_cmdlines) ← described_at opening.machine.order file at_event
  (cmdlines, end) ← cmdlines_at opening.machine.order file at_cmdlines
  Ok (partial_header opening (record { described = described; cmdlines = cmdlines }) end)

-- what a call answered that read the header of a partial file, where the file tells its bytes
abbrev pub ReadsPartial : Option (List ℕ) → Result Header OpenFault → Type 0
ReadsPartial told result = AnswersTold partial_of told result

-- a header without what follows the command lines
abbrev pub without_tail : Header → Header
without_tail header = record header { cpus = 0; options = None; body = Fly []; end = length (front 14 header) }

-- A partial file has at most one header.
abbrev pub OnePartial : Type 0
OnePartial = (file : List ℕ) (header other : Header) → HasPartial file header → HasPartial file other → header ≡ other

-- A whole trace file serves as a partial one.
abbrev pub WholeServes : Type 0
WholeServes = (file : List ℕ) (header : Header) → HasHeader file header → HasPartial file (without_tail header)

-- The computed header is the one that the partial file has.
abbrev pub ComputesPartial : Type 0
ComputesPartial = (file : List ℕ) (header : Header) → AreBytes file → partial_of file ≡ Ok header ↔ HasPartial file header

-- The computed fault is the refusal of the partial file.
abbrev pub ComputesPartialRefusal : Type 0
ComputesPartialRefusal = (file : List ℕ) (fault : OpenFault) → AreBytes file → partial_of file ≡ Err fault ↔ RefusesPartial file fault
