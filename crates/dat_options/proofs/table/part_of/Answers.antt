use Rattle.std.proofs.Common.{ap, ◌∙◌, take}
use Rattle.std.proofs.lemmas.List.{take_rest}
use Rattle.trace_base.specs.Number.{num}
use Rattle.dat_options.proofs.Entries.{part_spells}
use Rattle.dat_options.proofs.table.part_of.Goals as goal

pub returns : goal.returns
returns c = part_spells c.args.order c.args.bytes.now _ _ c.requires (λ i. (c.type_inv.bytes i).fits) c.read_u64.ensures
    (c.read_u64-2.ensures ∙ ap (λ back. num c.args.order (take 8 back)) (take_rest c.args.bytes.now 8))
