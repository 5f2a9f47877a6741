-- The values that the pieces of a header may have, as they are read one after another.
use Rattle.std.specs.Prelude.{◌≡◌, ℕ, ◌^◌, ◌<◌, length, Some, IfSome}
use Rattle.std.specs.List.{All}
use Rattle.dat_options.specs.Options.{IsOption}
use Rattle.dat_header.specs.declared.pieces.Machine.{Machine}
use Rattle.dat_header.specs.declared.pieces.PageText.{PageText}
use Rattle.dat_header.specs.declared.pieces.Opening.{Opening}
use Rattle.dat_header.specs.declared.pieces.Described.{Described}
use Rattle.dat_header.specs.declared.pieces.Carried.{Carried}
use Rattle.dat_header.specs.declared.pieces.Sections.{Sections}
use Rattle.dat_header.specs.Allowed.{IsLong, IsPageSize, AreFormats, AreSystems, IsBody}
use Rattle.dat_header.specs.PageText.{layout_of}

pub record IsMachine (machine : Machine) : Type 0 where
  pub long : IsLong machine.long
  pub page : IsPageSize machine.page

pub record IsPageText (machine : Machine) (page : PageText) : Type 0 where
  pub text : length page.text < 2 ^ 64
  pub layout : layout_of machine.order machine.long machine.page page.text ≡ Some page.layout

pub record IsOpening (opening : Opening) : Type 0 where
  pub machine : IsMachine opening.machine
  pub page : IsPageText opening.machine opening.page

pub record IsDescribed (described : Described) : Type 0 where
  pub event_text : length described.event_text < 2 ^ 64
  pub ftrace : AreFormats described.ftrace
  pub systems : AreSystems described.systems
  pub kallsyms : length described.kallsyms < 2 ^ 32
  pub printk : length described.printk < 2 ^ 32

pub record IsCarried (carried : Carried) : Type 0 where
  pub described : IsDescribed carried.described
  pub cmdlines : length carried.cmdlines < 2 ^ 64

pub record AreSections (cpus : ℕ) (sections : Sections) : Type 0 where
  pub options : IfSome sections.options (All IsOption)
  pub body : IsBody cpus sections.body
