use Rattle.std.proofs.Common.{rules, ◌<◌, ◌^◌, ◌∙◌, length, ap}
use Rattle.trace_base.specs.Kept.{held_of}
use Rattle.trace_base.specs.TailView.{kept}
use Rattle.trace_base.proofs.TailFills.{put_is}
use Rattle.trace_base.proofs.TailJoins.{held_put}
use Rattle.trace_base.proofs.tail.Tail.put.Goals as goal

pub returns-clause-value : goal.returns-clause-value
returns-clause-value c =
    let small : length c.args.self.now.into.now < 2 ^ 63 = search rules in
    put_is c.args.self.now.into.now c.args.piece.now c.fill.new.into _ _ _ _ _ _ _ _ small c.min-at.ensures c.saturating_add-self.ensures c.fill.ensures c.note_last.ensures c.note_nul.ensures

pub returns-clause-held : goal.returns-clause-held
returns-clause-held c =
    let small : length c.args.self.now.into.now < 2 ^ 63 = search rules in
    let before = c.args.self.now in
    ap held_of (put_is before.into.now c.args.piece.now c.fill.new.into before.total _ _ before.watches before.last _ before.nul _ small c.min-at.ensures c.saturating_add-self.ensures c.fill.ensures c.note_last.ensures c.note_nul.ensures)
    ∙ held_put (kept before) c.args.piece.now
