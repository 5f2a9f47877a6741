use Rattle.std.proofs.Common.{is_ok, sym, subst}
use Rattle.fmt_literal.specs.Pushed.{GainedFront}
use Rattle.fmt_literal.proofs.Meant.{meant_plain}
use Rattle.fmt_literal.proofs.Pushing.{gained_by}
use Rattle.fmt_literal.proofs.escape.push_meant.Goals as goal

pub returns-then-is_plain-clause-front : goal.returns-then-is_plain-clause-front
returns-then-is_plain-clause-front c =
    let before = c.args.into.now.items in
    let now = c.extend_from_slice.new.self.items in
    subst (GainedFront before now) (sym (meant_plain c.args.bytes.now (sym c.if-is_plain.ensures)))
    (gained_by before now c.args.bytes.now (is_ok c.extend_from_slice.result) c.extend_from_slice.ensures.items)
