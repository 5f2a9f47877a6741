use Rattle.std.proofs.Common.{◌<◌, ap, ◌∙◌, length, arith}
use Rattle.dat_options.specs.Table.{part_text}
use Rattle.dat_options.proofs.Entries.{entry_put}
use Rattle.dat_options.proofs.table.put_parts.Goals as goal

pub loop-i-preserved : goal.loop-i-preserved
loop-i-preserved c =
    let inside : c.loop-i.i < length c.args.parts.now = omega arith in
    entry_put c.args.order c.args.parts.now c.loop-i.i _ c.loop-i.into c.copy_from_slice.new.self _ inside (omega (arith, c.loop-i.auto.into, c.requires)) c.loop-i.invariant (c.copy_from_slice.ensures.after ∙ c.entry_of.ensures ∙ ap (part_text c.args.order) c.index-parts-i.is)
