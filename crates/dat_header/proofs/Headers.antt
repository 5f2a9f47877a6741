-- The header of pieces whose values are allowed.
use Rattle.std.proofs.Common.{ℕ, List, ◌+◌, ◌-◌, ◌≤◌, [], None, Result, Ok, Err, IfOk, refl, arith}
use Rattle.std.proofs.Math.Pow.{pow_mono}
use Rattle.trace_outside.specs.Causes.{raised}
use Rattle.trace_outside.specs.Seen.{FileSeen}
use Rattle.trace_base.specs.Allowed.{IsAllowed}
use Rattle.trace_base.proofs.Layouts.{plain_allowed}
use Rattle.dat_options.specs.declared.fault.OpenFault.{OpenFault}
use Rattle.dat_header.specs.declared.header.Header.{Header}
use Rattle.dat_header.specs.declared.header.Body.TheVariants.{Fly}
use Rattle.dat_header.specs.declared.pieces.Opening.{Opening}
use Rattle.dat_header.specs.declared.pieces.Carried.{Carried}
use Rattle.dat_header.specs.declared.pieces.Sections.{Sections}
use Rattle.dat_header.specs.Allowed.{IsHeader, IsLong, IsPageSize}
use Rattle.dat_header.specs.Pieces.{IsOpening, IsCarried, AreSections}
use Rattle.dat_header.specs.Header.{joined}
use Rattle.dat_header.specs.HeaderReads.{HeaderReads}
use Rattle.dat_header.specs.Partial.{IsPartial, partial_header}
use Rattle.dat_header.specs.Steps.{Steps}

abbrev pub found_header : Header → Result Header OpenFault
found_header header = Ok header

pub header_allowed : (opening : Opening) (carried : Carried) (cpus : ℕ) (sections : Sections) (end : ℕ)
    → IsOpening opening → IsCarried carried → cpus ≤ 1024 → AreSections cpus sections → IsHeader (joined opening carried cpus sections end)
header_allowed opening carried cpus sections end o c few s = record {
  long = o.machine.long;
  page = o.machine.page;
  page_text = o.page.text;
  layout = o.page.layout;
  event_text = c.described.event_text;
  ftrace = c.described.ftrace;
  systems = c.described.systems;
  kallsyms = c.described.kallsyms;
  printk = c.described.printk;
  cmdlines = c.cmdlines;
  cpus = few;
  options = s.options;
  body = s.body;
}

pub partial_allowed : (opening : Opening) (carried : Carried) (end : ℕ) → IsOpening opening → IsCarried carried → IsPartial (partial_header opening carried end)
partial_allowed opening carried end o c = record {
  allowed = header_allowed opening carried 0 (record { options = None; body = Fly [] }) end o c (omega arith) (record { options = tt; body = refl });
  cpus = refl;
  options = refl;
  body = refl;
}

pub page_is : (page : ℕ) → IsPageSize page → (4096 ≤ page) × (page ≤ 65536)
page_is page size = (omega (arith, size.3, pow_mono size.1), omega (arith, size.3, pow_mono size.2))

-- a machine's own sub-buffers have a plain layout
pub own_plain : (long page : ℕ) → IsLong long → IsPageSize page → IsAllowed 0 8 long (8 + long) page
own_plain long page sized paged = let size = page_is page paged in plain_allowed long page sized size.0 (omega (arith, size.1))

reads_whole : (result : Result Header OpenFault) (before now : ℕ) → IfOk result (λ header. now ≤ raised before (header.end - 0)) → IfOk result (λ header. now ≤ raised before header.end)
reads_whole (Ok header) before now reads = omega (arith, reads)
reads_whole (Err fault) before now reads = tt

-- what a step from the file's beginning on read was read of the header
pub header_reads : (expected : List ℕ → Result Header OpenFault) (before now : FileSeen) (result : Result Header OpenFault)
    → Steps (λ header. header.end) expected 0 before now result → HeaderReads before now result
header_reads expected before now result steps = record {
  cause = steps.cause;
  kept = steps.kept;
  reads = reads_whole result _ _ steps.reads;
  most = omega (arith, steps.most);
  end_inside = steps.inside;
}
