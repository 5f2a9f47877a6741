-- The declaration of a field line.
use Rattle.std.proofs.Common.{◌≡◌, ℕ, zero, suc, ◌+◌, ◌-◌, ◌<◌, inl, inr, Bool, true, false, eqb, codes, List, [], ◌∷◌, ◌++◌, length, take, drop, get_or, Some, is_some, refl, sym, ap, subst, ◌∙◌, append_assoc, arith}
use Rattle.std.proofs.lemmas.Bool.{eqb-true, eq-eqb, false_from_ne_true, cases_lt}
use Rattle.std.proofs.lemmas.List.{take_at, drop_at, take-append-drop, take-append-le, length-append, length-take, drop-drop, reverse-append}
use Rattle.std.proofs.lemmas.Slice.Eq.{bytes_eq-Decides}
use Rattle.std.proofs.Math.ListN.{get_or-append}
use Rattle.std.proofs.Math.Seq.{drop-cons, get_or-append_seam}
use Rattle.std.specs.List.{prefix_len, suffix_len}
use Rattle.std.specs.Str.{bytes_eq}
use Rattle.byte_classes.specs.Bytes.{is_word}
use Rattle.trace_base.specs.FieldLine.{Declaration, trimmed, EndsInName, IsPlain, IsArray, Declares}
use Rattle.trace_base.specs.FieldReading.{named_at, opens, greatest_below, plain_at, array_at, declaration_at}
use Rattle.trace_base.proofs.FieldSteps.{bind_some, chosen, some_is, both, option_cases}
use Rattle.trace_base.proofs.FieldNames.{identifier_words, name_len, named_again, named_is}

greatest_again : (test : ℕ → Bool) (bound at : ℕ) → at < bound → test at ≡ true → ((j : ℕ) → at < j → j < bound → test j ≡ false) → greatest_below test bound ≡ Some at
greatest_again test zero at inside passes above = absurd (omega arith)
greatest_again test (suc bound) at inside passes above = elim (cases_lt at bound) [
  | inl below ↦ rw (above bound below (omega arith)) (greatest_again test bound at below passes (λ j over under. above j over (omega arith)))
  | inr last ↦
      let same : bound ≡ at = omega (arith, inside, last) in
      rw (same, passes) refl
]

-- the greatest number that passes, and none above it
pub record IsGreatest (test : ℕ → Bool) (bound at : ℕ) : Type 0 where
  pub inside : at < bound
  pub passes : test at ≡ true
  pub above : (j : ℕ) → at < j → j < bound → test j ≡ false

greatest_is : (test : ℕ → Bool) (bound at : ℕ) → greatest_below test bound ≡ Some at → IsGreatest test bound at
greatest_is test zero at is = absurd cc
greatest_is test (suc bound) at is = elim (chosen (test bound) (Some bound) (greatest_below test bound) (Some at) is) [
  | inl here ↦ subst (λ (n : ℕ). IsGreatest test (suc bound) n) (some_is bound at here.1) (record { inside = omega arith; passes = here.0; above = λ j over under. absurd (omega arith) })
  | inr below ↦
      let found = greatest_is test bound at below.1 in
      record {
        inside = omega (arith, found.inside);
        passes = found.passes;
        above = λ j over under. elim (cases_lt j bound) [
          | inl small ↦ found.above j over small
          | inr last ↦ let same : bound ≡ j = omega (arith, last, under) in subst (λ (n : ℕ). test n ≡ false) same below.0
        ];
      }
]

opens_again : (text : List ℕ) (at : ℕ) (before name : List ℕ) → get_or text at 0 ≡ 91 → EndsInName (take at text) before name → opens text at ≡ true
unfolding opens
opens_again text at before name mark ends =
    let byte : eqb (get_or text at 0) 91 ≡ true = eq-eqb _ _ mark in
    rw (byte, named_again (take at text) before name ends) refl

-- an opening bracket, and the identifier before it
record IsOpening (text : List ℕ) (at : ℕ) : Type 0 where
  mark : get_or text at 0 ≡ 91
  before : List ℕ
  name : List ℕ
  ends : EndsInName (take at text) before name

named_some : (text : List ℕ) → is_some (named_at text) ≡ true → (parts : List ℕ × List ℕ) × (named_at text ≡ Some parts)
named_some text is = elim (option_cases (named_at text)) [
  | inl none ↦ let never : is_some (named_at text) ≡ false = rw none refl in absurd cc
  | inr some ↦ some
]

opens_is : (text : List ℕ) (at : ℕ) → opens text at ≡ true → IsOpening text at
unfolding opens
opens_is text at is =
    let parts = both (eqb (get_or text at 0) 91) (is_some (named_at (take at text))) is in
    let named = named_some (take at text) parts.1 in
    record { mark = eqb-true _ _ parts.0; before = named.0.0; name = named.0.1; ends = named_is (take at text) named.0.0 named.0.1 named.1 }

-- a text in front of its last byte
last_cut : (text inner : List ℕ) (byte : ℕ) → text ≡ inner ++ byte ∷ [] → (take (length text - 1) text ≡ inner) × (drop (length text - 1) text ≡ byte ∷ [])
last_cut text inner byte whole =
    let long : length text ≡ length (inner ++ byte ∷ []) = ap length whole in
    let front : length inner ≡ length text - 1 = omega (arith, long, length-append inner (byte ∷ [])) in
    (ap (take (length text - 1)) whole ∙ take_at inner (byte ∷ []) (length text - 1) front, ap (drop (length text - 1)) whole ∙ drop_at inner (byte ∷ []) (length text - 1) front)

-- a text that ends in a name does not end in a bracket
no_bracket : (text before name : List ℕ) → EndsInName text before name → bytes_eq (drop (length text - 1) text) (codes "]") ≡ false
no_bracket text before name ends = false_from_ne_true _ (λ is.
    let inner = take (length text - 1) text in
    let whole : text ≡ inner ++ codes "]" = sym (take-append-drop (length text - 1) text) ∙ ap (λ back. inner ++ back) ((bytes_eq-Decides (drop (length text - 1) text) (codes "]")).0 is) in
    let run : suffix_len is_word text ≡ 0 = ap (suffix_len is_word) whole ∙ ap (prefix_len is_word) (reverse-append inner (codes "]")) in
    let some = (identifier_words name ends.identifier).0 in
    let long = name_len text before name ends in
    omega (arith, run, some, long))

plain_again : (text : List ℕ) (declaration : Declaration) → IsPlain text declaration → declaration_at text ≡ Some declaration
unfolding declaration_at plain_at
plain_again text declaration plain =
    let other = no_bracket text plain.before declaration.name plain.named in
    rw (other, named_again text plain.before declaration.name plain.named, sym plain.kind_is, sym plain.array_is, sym plain.count_is) refl

plain_is : (text : List ℕ) (declaration : Declaration) → plain_at text ≡ Some declaration → IsPlain text declaration
unfolding plain_at
plain_is text declaration is =
    let named = bind_some (named_at text) (λ named. Some (record { name = named.1; kind_text = trimmed named.0; array = false; count = 0 })) declaration is in
    subst (λ (d : Declaration). IsPlain text d) (some_is _ declaration named.2) (record {
      before = named.0.0;
      named = named_is text named.0.0 named.0.1 named.1;
      kind_is = refl;
      array_is = refl;
      count_is = refl;
    })

-- the text around an opening bracket
split_text : (text inner : List ℕ) (at : ℕ) → text ≡ inner ++ codes "]" → at < length inner → get_or inner at 0 ≡ 91 → text ≡ take at inner ++ (codes "[" ++ (drop (at + 1) inner ++ codes "]"))
split_text text inner at whole inside mark =
    let next : suc at ≡ at + 1 = omega arith in
    let back : drop at inner ≡ 91 ∷ drop (at + 1) inner = drop-cons inner at 0 inside ∙ ap (λ byte. byte ∷ drop (suc at) inner) mark ∙ ap (λ n. 91 ∷ drop n inner) next in
    whole ∙ ap (λ t. t ++ codes "]") (sym (take-append-drop at inner) ∙ ap (λ b. take at inner ++ b) back) ∙ append_assoc (take at inner) (91 ∷ drop (at + 1) inner) (codes "]")

-- no opening bracket stands after the greatest place of one
none_later : (text inner : List ℕ) (at : ℕ) → text ≡ inner ++ codes "]" → IsGreatest (opens inner) (length inner) at → (longer rest other name : List ℕ)
    → text ≡ longer ++ (codes "[" ++ rest) → at < length longer → EndsInName longer other name → ⊥
none_later text inner at whole greatest longer rest other name is over ends = elim (cases_lt (length longer) (length inner)) [
  | inl inside ↦
      let front : take (length longer) inner ≡ longer =
      sym (take-append-le (length longer) inner (codes "]") (omega arith)) ∙ ap (take (length longer)) (sym whole ∙ is) ∙ take_at longer (codes "[" ++ rest) (length longer) refl in
      let mark : get_or inner (length longer) 0 ≡ 91 =
      sym (get_or-append inner (codes "]") 0 (length longer) inside) ∙ ap (λ t. get_or t (length longer) 0) (sym whole ∙ is) ∙ get_or-append_seam longer 91 rest 0 in
      let yes : opens inner (length longer) ≡ true = opens_again inner (length longer) other name mark (subst (λ (t : List ℕ). EndsInName t other name) (sym front) ends) in
      let never = greatest.above (length longer) over inside in
      cc
  | inr past ↦
      let long : length (inner ++ codes "]") ≡ length (longer ++ (codes "[" ++ rest)) = ap length (sym whole ∙ is) in
      let place : length inner ≡ length longer = omega (arith, past, long, length-append inner (codes "]"), length-append longer (codes "[" ++ rest)) in
      let never : 93 ≡ 91 = sym (get_or-append_seam inner 93 [] 0) ∙ ap (λ n. get_or (inner ++ codes "]") n 0) place ∙ ap (λ t. get_or t (length longer) 0) (sym whole ∙ is) ∙ get_or-append_seam longer 91 rest 0 in
      omega (arith, never)
]

array_again : (text : List ℕ) (declaration : Declaration) → IsArray text declaration → declaration_at text ≡ Some declaration
unfolding declaration_at array_at
array_again text declaration array =
    let front = array.front in
    let inside = array.inside in
    let inner = front ++ (codes "[" ++ inside) in
    let whole : text ≡ inner ++ codes "]" = array.whole ∙ sym (append_assoc front (codes "[" ++ inside) (codes "]")) in
    let cut = last_cut text inner 93 whole in
    let bracket : bytes_eq (drop (length text - 1) text) (codes "]") ≡ true = (bytes_eq-Decides (drop (length text - 1) text) (codes "]")).1 cut.1 in
    let at_front : take (length front) inner ≡ front = take_at front (codes "[" ++ inside) (length front) refl in
    let here : opens inner (length front) ≡ true =
    opens_again inner (length front) array.before declaration.name (get_or-append_seam front 91 inside 0) (subst (λ (t : List ℕ). EndsInName t array.before declaration.name) (sym at_front) array.named) in
    let above : (j : ℕ) → length front < j → j < length inner → opens inner j ≡ false = λ j over under. false_from_ne_true _ (λ yes.
    let other = opens_is inner j yes in
    array.last (take j inner) (drop (j + 1) inner ++ codes "]") other.before other.name (split_text text inner j whole under other.mark) (omega (arith, over, under, length-take j inner)) other.ends) in
    let within : length front < length inner = omega (arith, length-append front (codes "[" ++ inside)) in
    let greatest : greatest_below (opens inner) (length inner) ≡ Some (length front) = greatest_again (opens inner) (length inner) (length front) within here above in
    let behind : drop (length front + 1) inner ≡ inside = sym (drop-drop 1 (length front) inner) ∙ ap (drop 1) (drop_at front (codes "[" ++ inside) (length front) refl) in
    rw (bracket, cut.0, greatest, at_front, named_again front array.before declaration.name array.named, behind, sym array.kind_is, sym array.array_is, sym array.count_is) refl

array_is : (text inner : List ℕ) (declaration : Declaration) → text ≡ inner ++ codes "]" → array_at inner ≡ Some declaration → IsArray text declaration
unfolding array_at
array_is text inner declaration whole is =
    let found = bind_some (greatest_below (opens inner) (length inner)) _ declaration is in
    let at = found.0 in
    let named = bind_some (named_at (take at inner)) _ declaration found.2 in
    let greatest = greatest_is (opens inner) (length inner) at found.1 in
    let opening = opens_is inner at greatest.passes in
    subst (λ (d : Declaration). IsArray text d) (some_is _ declaration named.2) (record {
      front = take at inner;
      inside = drop (at + 1) inner;
      whole = split_text text inner at whole greatest.inside opening.mark;
      before = named.0.0;
      named = named_is (take at inner) named.0.0 named.0.1 named.1;
      last = λ longer rest other name is_text over ends. none_later text inner at whole greatest longer rest other name is_text (omega (arith, over, greatest.inside, length-take at inner)) ends;
      kind_is = refl;
      array_is = refl;
      count_is = refl;
    })

pub declares_again : (text : List ℕ) (declaration : Declaration) → Declares text declaration → declaration_at text ≡ Some declaration
declares_again text declaration (inl plain) = plain_again text declaration plain
declares_again text declaration (inr array) = array_again text declaration array

pub declares_is : (text : List ℕ) (declaration : Declaration) → declaration_at text ≡ Some declaration → Declares text declaration
unfolding declaration_at
declares_is text declaration is = elim (chosen (bytes_eq (drop (length text - 1) text) (codes "]")) _ _ _ is) [
  | inl bracket ↦
      let inner = take (length text - 1) text in
      let whole : text ≡ inner ++ codes "]" = sym (take-append-drop (length text - 1) text) ∙ ap (λ back. inner ++ back) ((bytes_eq-Decides (drop (length text - 1) text) (codes "]")).0 bracket.0) in
      inr (array_is text inner declaration whole bracket.1)
  | inr other ↦ inl (plain_is text declaration other.1)
]
