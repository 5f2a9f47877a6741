-- Letters and texts: the length that is computed is that of the relation.
use Rattle.std.proofs.Common.{◌≡◌, ℕ, zero, suc, ◌+◌, ◌<◌, ◌≤◌, max, Bool, true, false, cond, ◌&&◌, eqb, ltb, leb, List, [], ◌∷◌, ◌++◌, length, take, drop, get_or, Option, Some, None, refl, sym, ap, subst, ◌∙◌, append_assoc, inl, inr, arith}
use Rattle.std.specs.List.{prefix_len, AllPass}
use Rattle.std.specs.Option.{option_map, option_and_then}
use Rattle.std.specs.Char.{is_ascii_hexdigit}
use Rattle.std.proofs.lemmas.Bool.{cases_Bool, eqb-true, eqb-false, ne_eqb, le-leb, leb-true, lt-ltb, ltb-true, and_parts, and_left, and_right}
use Rattle.std.proofs.lemmas.List.{take_more, length_push, length-append, get_or_at, length-take, length-take-le}
use Rattle.std.proofs.lemmas.List.Sums.{prefix_len-le-length}
use Rattle.std.proofs.lemmas.Option.{cond_some, same_Some}
use Rattle.fmt_lexer.specs.Bytes.{apostrophe, backslash, is_octal}
use Rattle.fmt_lexer.specs.Quoted.{IsEscape, hexadecimal, octal, other, IsItem, escape, byte, IsLetter}
use Rattle.fmt_lexer.specs.Reading.{is_hexadecimal, escape_len, item_len, closed, letter_len}
use Rattle.fmt_lexer.proofs.Steps.{chosen, bind_some, map_some}
use Rattle.fmt_lexer.proofs.Runs.{run_passes}

-- the first n bytes of these, after a backslash, are an escape
record EscapeOf (bytes : List ℕ) (n : ℕ) : Type 0 where
  within : n ≤ length bytes
  escape_is : IsEscape (backslash ∷ take n bytes)

hex_tests : (bytes : List ℕ) → is_hexadecimal bytes ≡ true → (3 ≤ length bytes) × (get_or bytes 0 0 ≡ 120) × (is_ascii_hexdigit (get_or bytes 1 0) ≡ true) × (is_ascii_hexdigit (get_or bytes 2 0) ≡ true)
unfolding is_hexadecimal
hex_tests bytes h =
    let low = and_parts ((leb 3 (length bytes) && eqb (get_or bytes 0 0) 120) && is_ascii_hexdigit (get_or bytes 1 0)) (is_ascii_hexdigit (get_or bytes 2 0)) h in
    let high = and_parts (leb 3 (length bytes) && eqb (get_or bytes 0 0) 120) (is_ascii_hexdigit (get_or bytes 1 0)) low.0 in
    let first = and_parts (leb 3 (length bytes)) (eqb (get_or bytes 0 0) 120) high.0 in
    (leb-true _ _ first.0, eqb-true _ _ first.1, high.1, low.1)

hex_escape : (bytes : List ℕ) → is_hexadecimal bytes ≡ true → EscapeOf bytes 3
hex_escape [] h = absurd (let t = (hex_tests [] h).0 in omega arith)
hex_escape (a ∷ []) h = absurd (let t = (hex_tests (a ∷ []) h).0 in omega arith)
hex_escape (a ∷ b ∷ []) h = absurd (let t = (hex_tests (a ∷ b ∷ []) h).0 in omega arith)
hex_escape (a ∷ b ∷ c ∷ bytes) h =
    let t = hex_tests (a ∷ b ∷ c ∷ bytes) h in
    record { within = omega arith; escape_is = subst (λ (x : ℕ). IsEscape (backslash ∷ x ∷ b ∷ c ∷ [])) (sym t.1) (hexadecimal b c t.2 t.3) }

abbrev octals : List ℕ → ℕ
octals bytes = prefix_len is_octal (take 3 bytes)

take_in : (n m : ℕ) (bytes : List ℕ) → n ≤ m → take n (take m bytes) ≡ take n bytes
take_in zero m bytes le = refl
take_in (suc n) zero bytes le = absurd (omega arith)
take_in (suc n) (suc m) [] le = refl
take_in (suc n) (suc m) (b ∷ bytes) le = ap (λ (t : List ℕ). b ∷ t) (take_in n m bytes (omega arith))

octals_within : (bytes : List ℕ) → (octals bytes ≤ 3) × (octals bytes ≤ length bytes)
octals_within bytes =
    let h = prefix_len-le-length is_octal (take 3 bytes) in
    let l = length-take 3 bytes in
    (omega arith, omega arith)

-- one to three octal digits, or any byte
short_escape : (b : ℕ) (bytes : List ℕ) (n : ℕ) → octals (b ∷ bytes) ≡ n → EscapeOf (b ∷ bytes) (max n 1)
short_escape b bytes zero e = record { within = omega arith; escape_is = other b }
short_escape b bytes (suc n) e =
    let few = octals_within (b ∷ bytes) in
    let digits : AllPass is_octal (take (suc n) (b ∷ bytes)) =
    subst (AllPass is_octal) (ap (λ (k : ℕ). take k (take 3 (b ∷ bytes))) e ∙ take_in (suc n) 3 (b ∷ bytes) (omega arith)) (run_passes is_octal (take 3 (b ∷ bytes))) in
    let l : length (take (suc n) (b ∷ bytes)) ≡ suc n = length-take-le (suc n) (b ∷ bytes) (omega arith) in
    let is_max : suc n ≡ max (suc n) 1 = omega arith in
    subst (EscapeOf (b ∷ bytes)) is_max (record { within = omega arith; escape_is = octal (take (suc n) (b ∷ bytes)) (omega arith) (omega arith) digits })

abbrev short_len : List ℕ → Option ℕ
short_len bytes = Some (max (octals bytes) 1)

len_is : (b : ℕ) (bytes : List ℕ) → escape_len (b ∷ bytes) ≡ cond (is_hexadecimal (b ∷ bytes)) (Some 3) (short_len (b ∷ bytes))
unfolding escape_len
len_is b bytes = let some : eqb (length (b ∷ bytes)) 0 ≡ false = ne_eqb _ 0 (λ e. omega arith) in rw some refl

escape_sound : (bytes : List ℕ) (n : ℕ) → escape_len bytes ≡ Some n → EscapeOf bytes n
unfolding escape_len
escape_sound [] n h = absurd cc
escape_sound (b ∷ bytes) n h = elim (chosen (is_hexadecimal (b ∷ bytes)) (Some 3) (short_len (b ∷ bytes)) (Some n) (sym (len_is b bytes) ∙ h)) [
  | inl hex ↦ subst (EscapeOf (b ∷ bytes)) (same_Some 3 n hex.1) (hex_escape (b ∷ bytes) hex.0)
  | inr short ↦ subst (EscapeOf (b ∷ bytes)) (same_Some _ n short.1) (short_escape b bytes (octals (b ∷ bytes)) refl)
]

-- the first n bytes of these are an item of a letter
record ItemOf (bytes : List ℕ) (n : ℕ) : Type 0 where
  within : n ≤ length bytes
  item_is : IsItem apostrophe (take n bytes)

escaped_len : List ℕ → Option ℕ
escaped_len bytes = option_map (λ n. 1 + n) (escape_len bytes)

item_len_is : (b : ℕ) (bytes : List ℕ) → item_len (b ∷ bytes) ≡ cond (eqb b 39) None (cond (eqb b 92) (escaped_len bytes) (Some 1))
unfolding item_len escaped_len
item_len_is b bytes = let some : eqb (length (b ∷ bytes)) 0 ≡ false = ne_eqb _ 0 (λ e. omega arith) in rw some refl

escaped_item : (b : ℕ) (bytes : List ℕ) (n : ℕ) → b ≡ 92 → escaped_len bytes ≡ Some n → ItemOf (b ∷ bytes) n
unfolding escaped_len
escaped_item b bytes n e h =
    let k = map_some (λ m. 1 + m) (escape_len bytes) n h in
    let x = escape_sound bytes k.0 k.1 in
    let more : suc k.0 ≡ n = omega (arith, k.2) in
    let item : IsItem apostrophe (take (suc k.0) (b ∷ bytes)) = subst (λ (c : ℕ). IsItem apostrophe (c ∷ take k.0 bytes)) (sym e) (escape (backslash ∷ take k.0 bytes) x.escape_is) in
    subst (ItemOf (b ∷ bytes)) more (record { within = omega (arith, x.within); item_is = item })

item_sound : (bytes : List ℕ) (n : ℕ) → item_len bytes ≡ Some n → ItemOf bytes n
unfolding item_len
item_sound [] n h = absurd cc
item_sound (b ∷ bytes) n h = elim (chosen (eqb b 39) None (cond (eqb b 92) (escaped_len bytes) (Some 1)) (Some n) (sym (item_len_is b bytes) ∙ h)) [
  | inl mark ↦ absurd (let e : None ≡ Some n = mark.1 in cc)
  | inr no_mark ↦ elim (chosen (eqb b 92) (escaped_len bytes) (Some 1) (Some n) no_mark.1) [
    | inl sign ↦ escaped_item b bytes n (eqb-true b 92 sign.0) sign.1
    | inr plain ↦ subst (ItemOf (b ∷ bytes)) (same_Some 1 n plain.1) (record { within = omega arith; item_is = byte b (eqb-false b 39 no_mark.0) (eqb-false b 92 plain.0) })
  ]
]

-- a letter after its first mark
pub letter_sound : (bytes : List ℕ) (n : ℕ) → letter_len bytes ≡ Some n → (n ≤ length bytes) × IsLetter (apostrophe ∷ take n bytes)
unfolding letter_len closed
letter_sound bytes n h =
    let item = bind_some (item_len bytes) (closed bytes) n h in
    let k : ℕ = item.0 in
    let i = item_sound bytes k item.1 in
    let close = cond_some (ltb k (length bytes) && eqb (get_or bytes k 0) apostrophe) (k + 1) n item.2 in
    let tests = and_parts (ltb k (length bytes)) (eqb (get_or bytes k 0) apostrophe) close.0 in
    let lt : k < length bytes = ltb-true _ _ tests.0 in
    let front : take n bytes ≡ take k bytes ++ apostrophe ∷ [] =
    ap (λ (m : ℕ). take m bytes) (sym close.1) ∙ take_more bytes k 0 lt ∙ ap (λ (b : ℕ). take k bytes ++ b ∷ []) (eqb-true _ _ tests.1) in
    (omega (arith, close.1), record { item = take k bytes; is_item = i.item_is; whole = ap (λ (t : List ℕ). apostrophe ∷ t) front })

no_hexadecimal : (b : ℕ) (bytes : List ℕ) → eqb b 120 ≡ false → is_hexadecimal (b ∷ bytes) ≡ false
unfolding is_hexadecimal
no_hexadecimal b bytes h = and_left _ _ (and_left _ _ (and_right _ _ h))

escaped : (bytes : List ℕ) (n : ℕ) → escape_len bytes ≡ Some n → item_len (backslash ∷ bytes) ≡ Some (suc n)
unfolding escaped_len
escaped bytes n h = item_len_is backslash bytes ∙ ap (option_map (λ m. 1 + m)) h ∙ ap (λ (m : ℕ). Some m) (omega arith)

hex_again : (high low : ℕ) (bytes : List ℕ) → is_ascii_hexdigit high ≡ true → is_ascii_hexdigit low ≡ true → escape_len (120 ∷ high ∷ low ∷ bytes) ≡ Some 3
unfolding is_hexadecimal
hex_again high low bytes h l =
    let long : leb 3 (length (120 ∷ high ∷ low ∷ bytes)) ≡ true = le-leb _ _ (omega arith) in
    let yes : is_hexadecimal (120 ∷ high ∷ low ∷ bytes) ≡ true = rw (long, h, l) refl in
    len_is 120 (high ∷ low ∷ bytes) ∙ ap (λ (t : Bool). cond t (Some 3) (short_len (120 ∷ high ∷ low ∷ bytes))) yes

octal_no_x : (b : ℕ) → is_octal b ≡ true → eqb b 120 ≡ false
octal_no_x b h = ne_eqb b 120 (λ e. let q : is_octal 120 ≡ true = ap is_octal (sym e) ∙ h in absurd cc)

octal_again : (digits back : List ℕ) → 1 ≤ length digits → length digits ≤ 3 → AllPass is_octal digits → escape_len (digits ++ 39 ∷ back) ≡ Some (length digits)
octal_again [] back some few each = absurd (omega arith)
octal_again (a ∷ []) back some few each =
    let first : is_octal a ≡ true = each 0 0 (omega arith) in
    len_is a (39 ∷ back) ∙ rw (no_hexadecimal a (39 ∷ back) (octal_no_x a first), first) refl
octal_again (a ∷ b ∷ []) back some few each =
    let first : is_octal a ≡ true = each 0 0 (omega arith) in
    let second : is_octal b ≡ true = each 1 0 (omega arith) in
    len_is a (b ∷ 39 ∷ back) ∙ rw (no_hexadecimal a (b ∷ 39 ∷ back) (octal_no_x a first), first, second) refl
octal_again (a ∷ b ∷ c ∷ []) back some few each =
    let first : is_octal a ≡ true = each 0 0 (omega arith) in
    let second : is_octal b ≡ true = each 1 0 (omega arith) in
    let third : is_octal c ≡ true = each 2 0 (omega arith) in
    len_is a (b ∷ c ∷ 39 ∷ back) ∙ rw (no_hexadecimal a (b ∷ c ∷ 39 ∷ back) (octal_no_x a first), first, second, third) refl
octal_again (a ∷ b ∷ c ∷ d ∷ digits) back some few each = absurd (omega arith)

other_again : (b : ℕ) (back : List ℕ) → escape_len (b ∷ 39 ∷ back) ≡ Some 1
unfolding is_hexadecimal
other_again b back =
    let no : is_hexadecimal (b ∷ 39 ∷ back) ≡ false = and_left _ _ (and_right _ (is_ascii_hexdigit 39) refl) in
    len_is b (39 ∷ back) ∙ ap (λ (t : Bool). cond t (Some 3) (short_len (b ∷ 39 ∷ back))) no
    ∙ (elim (cases_Bool (is_octal b)) [ inl is_one ↦ rw is_one refl | inr none ↦ rw none refl ])

-- what is an item is read whole, since the mark after it is no digit
escape_again : (bytes back : List ℕ) → IsEscape bytes → item_len (bytes ++ 39 ∷ back) ≡ Some (length bytes)
escape_again _ back (hexadecimal h l hh hl) = escaped (120 ∷ h ∷ l ∷ 39 ∷ back) 3 (hex_again h l (39 ∷ back) hh hl)
escape_again _ back (octal digits some few each) = escaped (digits ++ 39 ∷ back) (length digits) (octal_again digits back some few each)
escape_again _ back (other b) = escaped (b ∷ 39 ∷ back) 1 (other_again b back)

item_again : (item back : List ℕ) → IsItem apostrophe item → item_len (item ++ 39 ∷ back) ≡ Some (length item)
item_again _ back (escape bytes e) = escape_again bytes back e
item_again _ back (byte b no_mark no_sign) = item_len_is b (39 ∷ back) ∙ rw (ne_eqb b 39 no_mark, ne_eqb b 92 no_sign) refl

letter_again : (item back : List ℕ) → IsItem apostrophe item → letter_len (item ++ 39 ∷ back) ≡ Some (length item + 1)
unfolding letter_len closed
letter_again item back i =
    let within : ltb (length item) (length (item ++ 39 ∷ back)) ≡ true = lt-ltb _ _ (omega (arith, length-append item (39 ∷ back))) in
    ap (option_and_then (closed (item ++ 39 ∷ back))) (item_again item back i) ∙ rw (within, get_or_at item 39 back 0 (length item) refl) refl

-- a letter is read whole, whatever follows it
pub letter_complete : (bytes back : List ℕ) → IsLetter bytes → option_map (λ n. 1 + n) (letter_len (drop 1 (bytes ++ back))) ≡ Some (length bytes)
letter_complete bytes back l =
    let behind : drop 1 (bytes ++ back) ≡ l.item ++ 39 ∷ back = ap (λ (t : List ℕ). drop 1 (t ++ back)) l.whole ∙ append_assoc l.item (39 ∷ []) back in
    let n : 1 + (length l.item + 1) ≡ length bytes = omega (arith, ap length l.whole, length_push l.item 39) in
    ap (λ (t : List ℕ). option_map (λ m. 1 + m) (letter_len t)) behind ∙ ap (option_map (λ m. 1 + m)) (letter_again l.item back l.is_item) ∙ ap (λ (m : ℕ). Some m) n
