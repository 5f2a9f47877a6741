-- What is left of bytes is their last ones.
use Rattle.std.proofs.Common.{◌≡◌, ℕ, ◌+◌, ◌-◌, ◌≤◌, List, [], ◌++◌, length, drop, Option, Some, None, refl, sym, ap, ◌∙◌, arith}
use Rattle.std.specs.Option.{option_map}
use Rattle.std.proofs.lemmas.List.{drop_at, drop-drop, length-append}
use Rattle.trace_base.specs.declared.order.Order.{Order}
use Rattle.subpage.specs.Element.{ElementData}
use Rattle.subpage.specs.ItemData.{ItemData}
use Rattle.subpage.specs.Reading.{element_at}
use Rattle.subpage.proofs.ElementSound.{element_takes}

pub suffix_whole : (bytes : List ℕ) → bytes ≡ drop (length bytes - length bytes) bytes
suffix_whole bytes = let none : length bytes - length bytes ≡ 0 = omega arith in ap (λ (n : ℕ). drop n bytes) (sym none)

-- a suffix of a suffix
pub suffix_trans : (a b c : List ℕ) → length b ≤ length a → length c ≤ length b → b ≡ drop (length a - length b) a → c ≡ drop (length b - length c) b → c ≡ drop (length a - length c) a
suffix_trans a b c p q e f =
    let n : length a - length b + (length b - length c) ≡ length a - length c = omega arith in
    f ∙ ap (drop (length b - length c)) e ∙ drop-drop (length b - length c) (length a - length b) a ∙ ap (λ (n : ℕ). drop n a) n

abbrev read : ElementData → List ℕ → Option (ElementData × List ℕ)
read e rest = Some (e, rest)

suffix_one : (order : Order) (bytes : List ℕ) (e : ElementData) (rest : List ℕ) → read e rest ≡ element_at order bytes → (rest ≡ drop (length bytes - length rest) bytes) × (length rest ≤ length bytes)
suffix_one order bytes e rest h =
    let t = element_takes order bytes e rest (sym h) in
    let long : length bytes ≡ length t.front + length rest = ap length t.whole ∙ length-append t.front rest in
    let n : length t.front ≡ length bytes - length rest = omega arith in
    (sym (drop_at t.front rest (length bytes - length rest) n) ∙ ap (drop (length bytes - length rest)) (sym t.whole), omega arith)

pub suffix_step : (order : Order) (bytes : List ℕ) (e : ElementData) (rest whole : List ℕ) → read e rest ≡ element_at order bytes
    → bytes ≡ drop (length whole - length bytes) whole → length bytes ≤ length whole → rest ≡ drop (length whole - length rest) whole
suffix_step order bytes e rest whole h s le =
    let one = suffix_one order bytes e rest h in
    suffix_trans whole bytes rest le one.1 s one.0

pub silent_same : (e : List ItemData) (o : Option (List ItemData)) → e ≡ [] → option_map (λ xs. e ++ xs) o ≡ o
silent_same e None h = refl
silent_same e (Some xs) h = ap (λ (ys : List ItemData). Some (ys ++ xs)) h
