use Rattle.std.proofs.Common.{List, ℕ, ap, ◌∙◌}
use Rattle.fmt_eval.specs.Numbers.{Number, pattern}
use Rattle.fmt_eval.specs.Values.{given}
use Rattle.fmt_eval.specs.Flags.{flags_text}
use Rattle.fmt_eval.specs.Entered.{rows_in}
use Rattle.fmt_eval.proofs.FlagSteps.{the_only}
use Rattle.fmt_eval.proofs.flags.only_flag.Goals as goal

pub returns-then-bits-mask-eq0 : goal.returns-then-bits-mask-eq0
returns-then-bits-mask-eq0 c =
    λ (between : List ℕ).
    the_only between (given c.args.rec.now) c.args.entries.now c.loop-entry.entry-index c.entry-item.result c.pattern-bits.result c.mask_of-mask.result c.as_bytes.result.now c.loop-entry-test.true c.entry-item.is c.mask_of-mask.ensures c.as_bytes.ensures c.if-is_flag.ensures c.if-bits-mask-eq0.true c.loop-entry.invariant
    ∙ ap (λ (n : ℕ). flags_text between n (rows_in (given c.args.rec.now) c.args.entries.now)) (c.pattern-bits.ensures ∙ ap (λ (v : Number). pattern v.exact) c.quick_number.ensures)
