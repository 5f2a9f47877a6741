-- The bytes that pass a test, from the front of a text on and from its end back.
use Rattle.std.proofs.Common.{◌≡◌, ℕ, suc, ◌+◌, ◌-◌, Bool, true, false, cond, List, [], ◌∷◌, ◌++◌, length, take, drop, reverse, refl, sym, ap, subst, ◌∙◌, arith}
use Rattle.std.proofs.lemmas.List.{take_at, drop_at, take-append-drop, length-drop, length-reverse, reverse-reverse, reverse-append}
use Rattle.std.proofs.lemmas.List.Folds.{list_all-append}
use Rattle.std.specs.List.{list_all, prefix_len, suffix_len}
use Rattle.trace_base.specs.FieldLine.{EndsOutside}
use Rattle.trace_base.proofs.FieldSteps.{both}

-- the text is one without a first byte that passes
abbrev pub BeginsOutside : (ℕ → Bool) → List ℕ → Type 0
BeginsOutside test [] = Unit {0}
BeginsOutside test (byte ∷ bytes) = test byte ≡ false

pub run_again : (test : ℕ → Bool) (front back : List ℕ) → list_all test front ≡ true → BeginsOutside test back → prefix_len test (front ++ back) ≡ length front
run_again test [] [] all outside = refl
run_again test [] (byte ∷ back) all outside = rw outside refl
run_again test (byte ∷ front) back all outside =
    let parts = both (test byte) (list_all test front) all in
    rw (parts.0, run_again test front back parts.1 outside) (let more : 1 + length front ≡ suc (length front) = omega arith in more)

pub run_all : (test : ℕ → Bool) (text : List ℕ) → list_all test (take (prefix_len test text) text) ≡ true
run_all test [] = refl
run_all test (byte ∷ text) = by (test byte) (run_all test text) refl
  where
    by : (b : Bool) → list_all test (take (prefix_len test text) text) ≡ true → test byte ≡ b → list_all test (take (cond b (1 + prefix_len test text) 0) (byte ∷ text)) ≡ true
    by true all is = let more : 1 + prefix_len test text ≡ suc (prefix_len test text) = omega arith in rw more (rw (is, all) refl)
    by false all is = refl

pub run_outside : (test : ℕ → Bool) (text : List ℕ) → BeginsOutside test (drop (prefix_len test text) text)
run_outside test [] = tt
run_outside test (byte ∷ text) = by (test byte) (run_outside test text) refl
  where
    by : (b : Bool) → BeginsOutside test (drop (prefix_len test text) text) → test byte ≡ b → BeginsOutside test (drop (cond b (1 + prefix_len test text) 0) (byte ∷ text))
    by true outside is = let more : 1 + prefix_len test text ≡ suc (prefix_len test text) = omega arith in rw more outside
    by false outside is = is

reverse_cons : (byte : ℕ) (text : List ℕ) → reverse (byte ∷ text) ≡ reverse text ++ byte ∷ []
reverse_cons byte text = reverse-append (byte ∷ []) text

list_all_reverse : (test : ℕ → Bool) (text : List ℕ) → list_all test text ≡ true → list_all test (reverse text) ≡ true
list_all_reverse test [] all = refl
list_all_reverse test (byte ∷ text) all =
    let parts = both (test byte) (list_all test text) all in
    ap (list_all test) (reverse_cons byte text) ∙ list_all-append test (reverse text) (byte ∷ []) ∙ rw (list_all_reverse test text parts.1, parts.0) refl

outside_of : (test : ℕ → Bool) (text other : List ℕ) → reverse text ≡ other → EndsOutside test text → BeginsOutside test other
outside_of test text [] is ends = tt
outside_of test text (byte ∷ other) is ends = ends (reverse other) byte (sym (reverse-reverse text) ∙ ap reverse is ∙ reverse_cons byte other)

-- the run at the end of a text, seen from its reverse
abbrev kept : (ℕ → Bool) → List ℕ → List ℕ
kept test text = reverse (drop (suffix_len test text) (reverse text))

abbrev ending : (ℕ → Bool) → List ℕ → List ℕ
ending test text = reverse (take (suffix_len test text) (reverse text))

kept_whole : (test : ℕ → Bool) (text : List ℕ) → text ≡ kept test text ++ ending test text
kept_whole test text =
    sym (reverse-reverse text) ∙ ap reverse (sym (take-append-drop (suffix_len test text) (reverse text)))
    ∙ reverse-append (take (suffix_len test text) (reverse text)) (drop (suffix_len test text) (reverse text))

length-kept : (test : ℕ → Bool) (text : List ℕ) → length (kept test text) ≡ length text - suffix_len test text
length-kept test text = length-reverse (drop (suffix_len test text) (reverse text)) ∙ length-drop (suffix_len test text) (reverse text) ∙ ap (λ n. n - suffix_len test text) (length-reverse text)

kept_is : (test : ℕ → Bool) (text : List ℕ) → take (length text - suffix_len test text) text ≡ kept test text
kept_is test text = ap (take (length text - suffix_len test text)) (kept_whole test text) ∙ take_at (kept test text) (ending test text) (length text - suffix_len test text) (length-kept test text)

ending_is : (test : ℕ → Bool) (text : List ℕ) → drop (length text - suffix_len test text) text ≡ ending test text
ending_is test text = ap (drop (length text - suffix_len test text)) (kept_whole test text) ∙ drop_at (kept test text) (ending test text) (length text - suffix_len test text) (length-kept test text)

pub suffix_all : (test : ℕ → Bool) (text : List ℕ) → list_all test (drop (length text - suffix_len test text) text) ≡ true
suffix_all test text = ap (list_all test) (ending_is test text) ∙ list_all_reverse test (take (suffix_len test text) (reverse text)) (run_all test (reverse text))

pub suffix_apart : (test : ℕ → Bool) (text : List ℕ) → EndsOutside test (take (length text - suffix_len test text) text)
suffix_apart test text front last whole =
    let left = drop (suffix_len test text) (reverse text) in
    let as_reverse : left ≡ last ∷ reverse front =
    sym (reverse-reverse left) ∙ ap reverse (sym (kept_is test text) ∙ whole) ∙ reverse-append front (last ∷ []) in
    subst (BeginsOutside test) as_reverse (run_outside test (reverse text))

pub suffix_again : (test : ℕ → Bool) (text front back : List ℕ) → text ≡ front ++ back → list_all test back ≡ true → EndsOutside test front → suffix_len test text ≡ length back
suffix_again test text front back whole all apart =
    ap (suffix_len test) whole ∙ ap (prefix_len test) (reverse-append front back)
    ∙ run_again test (reverse back) (reverse front) (list_all_reverse test back all) (outside_of test front (reverse front) refl apart)
    ∙ length-reverse back
