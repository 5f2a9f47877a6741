use Rattle.std.proofs.Common.{◌≡◌, ℕ, ◌+◌, ◌-◌, ◌≤◌, length, take, drop, ap, ◌∙◌, length-drop, arith}
use Rattle.std.proofs.Math.Seq.{paste}
use Rattle.std.proofs.lemmas.List.Edits.{take-paste}
use Rattle.page_pool.proofs.region.move_bytes.Goals as goal

pub returns-clause-moved : goal.returns-clause-moved
returns-clause-moved c =
    let count : ℕ = c.args.to - c.args.from in
    let within : count ≤ length (drop c.args.from c.args.bytes.now) = omega (arith, length-drop c.args.from c.args.bytes.now, c.requires.1) in
    let whole : count ≡ 0 + count = omega arith in
    ap (take count) c.copy_within.ensures.after ∙ ap (λ (n : ℕ). take n (paste c.args.bytes.now 0 (drop c.args.from c.args.bytes.now) count)) whole ∙ take-paste c.args.bytes.now 0 (drop c.args.from c.args.bytes.now) count (omega arith) within
