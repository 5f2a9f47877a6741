use Rattle.std.proofs.Common.{ℕ, List, [], Bor, get_or, sym, ◌∙◌, arith}
use Rattle.std.specs.Cmp.Lexicographic.{bytes_decides}
use Rattle.filter_truth.proofs.Numbered.{known_at}
use Rattle.filter_truth.proofs.name_numbers.early_number.Goals as goal

pub returns-then-eq : goal.returns-then-eq
returns-then-eq c =
    let d : Bor (List ℕ) = record { ref_ptr = (0, 0); now = [] } in
    let names = c.args.names.now in
    let number = c.loop-number.number in
    known_at names number d c.args.name.now (omega (arith, c.loop-number-test.true, c.min-few.ensures))
    ((bytes_decides (get_or names number d).now c.args.name.now).0 (sym c.eq.ensures ∙ c.if-eq.true))
