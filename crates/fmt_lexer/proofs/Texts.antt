-- Texts: the length that is computed is that of the relation.
use Rattle.std.proofs.Common.{◌≡◌, ℕ, suc, ◌+◌, ◌≤◌, Bool, true, false, not, ◌&&◌, cond, eqb, List, [], ◌∷◌, ◌++◌, length, take, drop, Option, Some, refl, sym, ap, subst, ◌∙◌, append_assoc, inl, inr, arith}
use Rattle.std.specs.List.{All, AllPass, concat}
use Rattle.std.specs.Option.{option_map}
use Rattle.std.specs.Char.{is_ascii_hexdigit}
use Rattle.std.proofs.lemmas.Bool.{cases_Bool, eqb-true, eqb-false, ne_eqb, and_parts, not-true}
use Rattle.std.proofs.lemmas.Bool.Decides.{nat_tests}
use Rattle.std.proofs.Math.Seq.{take-append-add}
use Rattle.std.proofs.lemmas.List.{length_push, length-append}
use Rattle.std.proofs.lemmas.List.Elements.{All-nil, All-cons, All-head, All-tail, All-weaker}
use Rattle.std.proofs.lemmas.Option.{same_Some}
use Rattle.fmt_lexer.specs.Bytes.{quote, backslash, is_octal}
use Rattle.fmt_lexer.specs.Quoted.{IsEscape, hexadecimal, octal, other, IsItem, escape, byte, IsText}
use Rattle.fmt_lexer.specs.Reading.{text_from, text_len}
use Rattle.fmt_lexer.proofs.Closing.{shifted, shifted_none, shifted_twice}
use Rattle.fmt_lexer.proofs.Steps.{chosen, map_some}

-- the first n bytes of these are the rest of a text
record ClosesAt (bytes : List ℕ) (n : ℕ) : Type 0 where
  within : n ≤ length bytes
  items : List (List ℕ)
  are_items : All (IsItem quote) items
  whole : take n bytes ≡ concat items ++ quote ∷ []

first_is : (b : ℕ) (bytes : List ℕ) → text_from false (b ∷ bytes) ≡ cond (eqb b 34) (Some 1) (option_map (λ n. 1 + n) (text_from (eqb b 92) bytes))
unfolding text_from
first_is b bytes = refl

behind_sign : (b : ℕ) (bytes : List ℕ) → text_from true (b ∷ bytes) ≡ option_map (λ n. 1 + n) (text_from false bytes)
unfolding text_from
behind_sign b bytes = refl

at_mark : (b : ℕ) (bytes : List ℕ) (n : ℕ) → b ≡ 34 → 1 ≡ n → ClosesAt (b ∷ bytes) n
at_mark b bytes n e m =
    subst (ClosesAt (b ∷ bytes)) m (record { within = omega arith; items = []; are_items = All-nil (IsItem quote); whole = ap (λ (c : ℕ). c ∷ []) e })

with_item : (item bytes : List ℕ) (n k : ℕ) → IsItem quote item → length item + k ≡ n → ClosesAt bytes k → ClosesAt (item ++ bytes) n
with_item item bytes n k i e c = record {
  within = omega (arith, e, c.within, length-append item bytes);
  items = item ∷ c.items;
  are_items = All-cons (IsItem quote) item c.items i c.are_items;
  whole = ap (λ (m : ℕ). take m (item ++ bytes)) (sym e) ∙ take-append-add item bytes k ∙ ap (λ (t : List ℕ). item ++ t) c.whole ∙ sym (append_assoc item (concat c.items) (quote ∷ []));
}

nothing_left : (before : Bool) (n : ℕ) → text_from before [] ≡ Some n → ⊥
unfolding text_from
nothing_left true n h = cc
nothing_left false n h = cc

abbrev rest_len : Bool → List ℕ → Option ℕ
rest_len before bytes = option_map (λ n. 1 + n) (text_from before bytes)

closes : (bytes : List ℕ) (n : ℕ) → text_from false bytes ≡ Some n → ClosesAt bytes n
closes [] n h = absurd (nothing_left false n h)
closes (b ∷ []) n h = elim (chosen (eqb b 34) (Some 1) (rest_len (eqb b 92) []) (Some n) (sym (first_is b []) ∙ h)) [
  | inl mark ↦ at_mark b [] n (eqb-true b 34 mark.0) (same_Some 1 n mark.1)
  | inr no_mark ↦ let k = map_some (λ m. 1 + m) (text_from (eqb b 92) []) n no_mark.1 in absurd (nothing_left (eqb b 92) k.0 k.1)
]
closes (b ∷ c ∷ bytes) n h = elim (chosen (eqb b 34) (Some 1) (rest_len (eqb b 92) (c ∷ bytes)) (Some n) (sym (first_is b (c ∷ bytes)) ∙ h)) [
  | inl mark ↦ at_mark b (c ∷ bytes) n (eqb-true b 34 mark.0) (same_Some 1 n mark.1)
  | inr no_mark ↦
      let k = map_some (λ m. 1 + m) (text_from (eqb b 92) (c ∷ bytes)) n no_mark.1 in
      elim (cases_Bool (eqb b 92)) [
        | inl sign ↦
            let after : text_from true (c ∷ bytes) ≡ Some k.0 = subst (λ (t : Bool). text_from t (c ∷ bytes) ≡ Some k.0) sign k.1 in
            let j = map_some (λ m. 1 + m) (text_from false bytes) k.0 (sym (behind_sign c bytes) ∙ after) in
            let item : IsItem quote (b ∷ c ∷ []) = subst (λ (x : ℕ). IsItem quote (x ∷ c ∷ [])) (sym (eqb-true b 92 sign)) (escape (backslash ∷ c ∷ []) (other c)) in
            with_item (b ∷ c ∷ []) bytes n j.0 item (omega (arith, j.2, k.2)) (closes bytes j.0 j.1)
        | inr plain ↦
            let after : text_from false (c ∷ bytes) ≡ Some k.0 = subst (λ (t : Bool). text_from t (c ∷ bytes) ≡ Some k.0) plain k.1 in
            with_item (b ∷ []) (c ∷ bytes) n k.0 (byte b (eqb-false b 34 no_mark.0) (eqb-false b 92 plain)) (omega (arith, k.2)) (closes (c ∷ bytes) k.0 after)
      ]
]

pub text_sound : (bytes : List ℕ) (n : ℕ) → text_len bytes ≡ Some n → (n ≤ length bytes) × IsText (quote ∷ take n bytes)
unfolding text_len
text_sound bytes n h =
    let c = closes bytes n h in
    (c.within, record { items = c.items; are_items = c.are_items; whole = ap (λ (t : List ℕ). quote ∷ t) c.whole })

-- bytes that are neither the mark nor the backslash
abbrev is_plain : ℕ → Bool
is_plain b = not (eqb b 34) && not (eqb b 92)

plain_over : (xs rest : List ℕ) → AllPass is_plain xs → text_from false (xs ++ rest) ≡ shifted (length xs) (text_from false rest)
plain_over [] rest each = sym (shifted_none (text_from false rest))
plain_over (x ∷ xs) rest each =
    let plain = and_parts (not (eqb x 34)) (not (eqb x 92)) (each 0 0 (omega arith)) in
    let step : text_from false (x ∷ (xs ++ rest)) ≡ shifted 1 (text_from false (xs ++ rest)) = first_is x (xs ++ rest) ∙ rw (not-true _ plain.0, not-true _ plain.1) refl in
    step ∙ ap (shifted 1) (plain_over xs rest (All-tail (λ b. is_plain b ≡ true) x xs each)) ∙ shifted_twice 1 (length xs) (text_from false rest)
    ∙ ap (λ (n : ℕ). shifted n (text_from false rest)) (omega arith)

sign_over : (b : ℕ) (rest : List ℕ) → text_from false (backslash ∷ b ∷ rest) ≡ shifted 2 (text_from false rest)
sign_over b rest = first_is backslash (b ∷ rest) ∙ ap (shifted 1) (behind_sign b rest) ∙ shifted_twice 1 1 (text_from false rest)

then_plain : (b : ℕ) (xs rest : List ℕ) → AllPass is_plain xs → text_from false (backslash ∷ b ∷ (xs ++ rest)) ≡ shifted (suc (suc (length xs))) (text_from false rest)
then_plain b xs rest each =
    sign_over b (xs ++ rest) ∙ ap (shifted 2) (plain_over xs rest each) ∙ shifted_twice 2 (length xs) (text_from false rest) ∙ ap (λ (n : ℕ). shifted n (text_from false rest)) (omega arith)

octal_plain : (b : ℕ) → is_octal b ≡ true → is_plain b ≡ true
octal_plain b h = grind (arith, nat_tests)

hex_plain : (b : ℕ) → is_ascii_hexdigit b ≡ true → is_plain b ≡ true
hex_plain b h = grind (arith, nat_tests)

escape_over : (bytes rest : List ℕ) → IsEscape bytes → text_from false (bytes ++ rest) ≡ shifted (length bytes) (text_from false rest)
escape_over _ rest (hexadecimal h l hh hl) =
    then_plain 120 (h ∷ l ∷ []) rest (All-cons (λ b. is_plain b ≡ true) h (l ∷ []) (hex_plain h hh) (All-cons (λ b. is_plain b ≡ true) l [] (hex_plain l hl) (All-nil (λ b. is_plain b ≡ true))))
escape_over _ rest (octal [] some few each) = absurd (omega arith)
escape_over _ rest (octal (d ∷ digits) some few each) =
    then_plain d digits rest (All-weaker (λ b. is_octal b ≡ true) (λ b. is_plain b ≡ true) octal_plain digits (All-tail (λ b. is_octal b ≡ true) d digits each))
escape_over _ rest (other b) = sign_over b rest

item_over : (bytes rest : List ℕ) → IsItem quote bytes → text_from false (bytes ++ rest) ≡ shifted (length bytes) (text_from false rest)
item_over _ rest (escape bytes e) = escape_over bytes rest e
item_over _ rest (byte b no_mark no_sign) = first_is b rest ∙ rw (ne_eqb b 34 no_mark, ne_eqb b 92 no_sign) refl

items_over : (items : List (List ℕ)) (rest : List ℕ) → All (IsItem quote) items → text_from false (concat items ++ rest) ≡ shifted (length (concat items)) (text_from false rest)
items_over [] rest each = sym (shifted_none (text_from false rest))
items_over (item ∷ items) rest each =
    ap (text_from false) (append_assoc item (concat items) rest) ∙ item_over item (concat items ++ rest) (All-head (IsItem quote) item items each)
    ∙ ap (shifted (length item)) (items_over items rest (All-tail (IsItem quote) item items each)) ∙ shifted_twice (length item) (length (concat items)) (text_from false rest)
    ∙ ap (λ (n : ℕ). shifted n (text_from false rest)) (sym (length-append item (concat items)))

-- a text is read whole, whatever follows it
pub text_complete : (bytes back : List ℕ) → IsText bytes → option_map (λ n. 1 + n) (text_len (drop 1 (bytes ++ back))) ≡ Some (length bytes)
unfolding text_len
text_complete bytes back t =
    let inside : List ℕ = concat t.items in
    let behind : drop 1 (bytes ++ back) ≡ inside ++ 34 ∷ back = ap (λ (x : List ℕ). drop 1 (x ++ back)) t.whole ∙ append_assoc inside (34 ∷ []) back in
    let n : 1 + (length inside + 1) ≡ length bytes = omega (arith, ap length t.whole, length_push inside 34) in
    ap (λ (x : List ℕ). option_map (λ m. 1 + m) (text_from false x)) behind ∙ ap (option_map (λ m. 1 + m)) (items_over t.items (34 ∷ back) t.are_items ∙ ap (shifted (length inside)) (first_is 34 back))
    ∙ ap (λ (m : ℕ). Some m) n
