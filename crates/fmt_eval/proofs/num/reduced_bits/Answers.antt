use Rattle.std.proofs.Common.{ap, ◌∙◌, ◌^◌, pos, unsigned_abs}
use Rattle.std.specs.Int.{w128, int_rem_euclid}
use Rattle.std.proofs.lemmas.Int.{to_z-of_z}
use Rattle.fmt_eval.proofs.Reductions.{reduced_i32}
use Rattle.fmt_eval.proofs.num.reduced_bits.Goals as goal

pub returns-in-I32 : goal.returns-in-I32
returns-in-I32 c =
    rw c.in-I32.is (reduced_i32 c.args.exact c.low_half.result c.sign_extended.result
    (c.low_half.ensures ∙ ap (λ z. unsigned_abs (int_rem_euclid z (pos (2 ^ 32)))) (to_z-of_z w128 c.args.exact c.ranges.exact))
    c.sign_extended.ensures)
