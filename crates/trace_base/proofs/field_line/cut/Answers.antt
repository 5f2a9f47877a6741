use Rattle.std.proofs.Common.{◌≡◌, ℕ, ◌-◌, ◌==◌, List, length, take, drop, Some, refl, sym}
use Rattle.std.proofs.lemmas.List.{take_rest, drop-drop}
use Rattle.std.specs.List.{position}
use Rattle.trace_base.specs.FieldReading.{cut_at}
use Rattle.trace_base.proofs.field_line.cut.Goals as goal

cut_is : (text : List ℕ) (at : ℕ) (front back : List ℕ) → Some at ≡ position (λ byte. byte == 59) text → front ≡ take at text → back ≡ drop at text
    → Some (front, take (length back - 1) (drop 1 back)) ≡ cut_at text
unfolding cut_at
cut_is text at front back found before behind =
    rw (sym found, before, take_rest back 1, behind, drop-drop 1 at text) refl

pub returns : goal.returns
returns c = cut_is c.args.text.now c.in_ok-at.at c.split_at.result.0.now c.split_at.result.1.now c.in_ok-at.ensures.value c.split_at.ensures.front c.split_at.ensures.back
