-- The identifier that a text ends in.
use Rattle.std.proofs.Common.{◌≡◌, ℕ, ◌-◌, ◌<◌, true, not, ltb, ◌&&◌, List, ◌++◌, length, take, drop, get_or, Some, refl, sym, ap, subst, ◌∙◌, arith}
use Rattle.std.proofs.lemmas.Bool.{ltb-true}
use Rattle.std.proofs.lemmas.List.{take_at, drop_at, take-append-drop, length-append}
use Rattle.std.specs.List.{list_all, suffix_len}
use Rattle.std.specs.Char.{is_ascii_digit}
use Rattle.byte_classes.specs.Bytes.{is_word}
use Rattle.trace_base.specs.FieldLine.{is_identifier, EndsInName}
use Rattle.trace_base.specs.FieldReading.{named_at}
use Rattle.trace_base.proofs.FieldSteps.{both, guarded, some_is}
use Rattle.trace_base.proofs.FieldRuns.{suffix_apart, suffix_again}

pub identifier_words : (name : List ℕ) → is_identifier name ≡ true → (0 < length name) × (list_all is_word name ≡ true)
identifier_words name is =
    let parts = both (ltb 0 (length name) && list_all is_word name) (not (is_ascii_digit (get_or name 0 0))) is in
    let front = both (ltb 0 (length name)) (list_all is_word name) parts.0 in
    (ltb-true _ _ front.0, front.1)

pub name_len : (text before name : List ℕ) → EndsInName text before name → suffix_len is_word text ≡ length name
name_len text before name ends = suffix_again is_word text before name ends.whole (identifier_words name ends.identifier).1 ends.apart

pub named_again : (text before name : List ℕ) → EndsInName text before name → named_at text ≡ Some (before, name)
unfolding named_at
named_again text before name ends =
    let long : length text ≡ length (before ++ name) = ap length ends.whole in
    let run : suffix_len is_word text ≡ length name = name_len text before name ends in
    let start : length text - suffix_len is_word text ≡ length before = omega (arith, long, run, length-append before name) in
    let front : take (length before) text ≡ before = ap (take (length before)) ends.whole ∙ take_at before name (length before) refl in
    let back : drop (length before) text ≡ name = ap (drop (length before)) ends.whole ∙ drop_at before name (length before) refl in
    rw (start, front, back, ends.identifier) refl

pub named_is : (text before name : List ℕ) → named_at text ≡ Some (before, name) → EndsInName text before name
unfolding named_at
named_is text before name is =
    let start = length text - suffix_len is_word text in
    let found = guarded (is_identifier (drop start text)) (Some (take start text, drop start text)) (before, name) is in
    subst (λ (parts : List ℕ × List ℕ). EndsInName text parts.0 parts.1) (some_is (take start text, drop start text) (before, name) found.1) (record {
      whole = sym (take-append-drop start text);
      identifier = found.0;
      apart = suffix_apart is_word text;
    })
