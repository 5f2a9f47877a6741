-- What is computed of escapes is what they stand for.
use Rattle.std.proofs.Common.{◌≡◌, ◌≢◌, ℕ, zero, suc, ◌+◌, ◌*◌, ◌%◌, ◌≤◌, true, false, ◌&&◌, eqb, leb, List, [], ◌∷◌, length, None, refl, sym, ap, subst, ◌∙◌, arith, inl, inr, ◌⊎◌}
use Rattle.std.specs.Char.{is_ascii_hexdigit, digit_value}
use Rattle.std.proofs.lemmas.Bool.{cases_Bool, eqb-true, eqb-false, ne_eqb, le-leb, and_parts}
use Rattle.fmt_lexer.specs.Bytes.{backslash, is_octal}
use Rattle.fmt_literal.specs.Escape.{named, octal, NoOctal, hexadecimal_in, three_in, two_in, one_in, StandsFor, ended, itself, hexadecimal, three_digits, two_digits, one_digit, by_name, alone, Item, spelled, escape, item, meant}

-- rows that are long enough
one_long : (n : ℕ) → leb 1 (suc n) ≡ true
one_long n = le-leb 1 (suc n) (omega arith)

two_long : (n : ℕ) → leb 2 (suc (suc n)) ≡ true
two_long n = le-leb 2 (suc (suc n)) (omega arith)

three_long : (n : ℕ) → leb 3 (suc (suc (suc n))) ≡ true
three_long n = le-leb 3 (suc (suc (suc n))) (omega arith)

-- `x` is no octal digit
octal_no_x : (a : ℕ) → is_octal a ≡ true → eqb a 120 ≡ false
octal_no_x a h = ne_eqb a 120 (λ e. let f = ap is_octal e in cc)

no_hex : (a : ℕ) (rest : List ℕ) → is_octal a ≡ true → hexadecimal_in (a ∷ rest) ≡ None
unfolding hexadecimal_in
no_hex a [] h = refl
no_hex a (b ∷ []) h = refl
no_hex a (b ∷ c ∷ rest) h = rw (three_long (length rest), octal_no_x a h) refl

escape_hex : (high low : ℕ) (rest : List ℕ) → is_ascii_hexdigit high ≡ true → is_ascii_hexdigit low ≡ true → escape (120 ∷ high ∷ low ∷ rest) ≡ spelled (16 * digit_value high + digit_value low) 3
unfolding escape hexadecimal_in
escape_hex high low rest h l = rw (three_long (length rest), h, l) refl

escape_three : (a b c : ℕ) (rest : List ℕ) → is_octal a ≡ true → is_octal b ≡ true → is_octal c ≡ true → escape (a ∷ b ∷ c ∷ rest) ≡ spelled ((64 * octal a + 8 * octal b + octal c) % 256) 3
unfolding escape three_in
escape_three a b c rest ha hb hc = rw (no_hex a (b ∷ c ∷ rest) ha, three_long (length rest), ha, hb, hc) refl

escape_two : (a b : ℕ) (rest : List ℕ) → is_octal a ≡ true → is_octal b ≡ true → NoOctal rest → escape (a ∷ b ∷ rest) ≡ spelled (8 * octal a + octal b) 2
unfolding escape three_in two_in
escape_two a b [] ha hb n = rw (no_hex a (b ∷ []) ha, ha, hb) refl
escape_two a b (c ∷ rest) ha hb n = rw (no_hex a (b ∷ c ∷ rest) ha, three_long (length rest), two_long (suc (length rest)), ha, hb, n) refl

escape_one : (a : ℕ) (rest : List ℕ) → is_octal a ≡ true → NoOctal rest → escape (a ∷ rest) ≡ spelled (octal a) 1
unfolding escape three_in two_in one_in
escape_one a [] ha n = rw (no_hex a [] ha, ha) refl
escape_one a (b ∷ []) ha n = rw (no_hex a (b ∷ []) ha, ha, n) refl
escape_one a (b ∷ c ∷ rest) ha n = rw (no_hex a (b ∷ c ∷ rest) ha, three_long (length rest), two_long (suc (length rest)), one_long (suc (suc (length rest))), ha, n) refl

escape_named : (b : ℕ) (rest : List ℕ) → is_octal b ≡ false → hexadecimal_in (b ∷ rest) ≡ None → escape (b ∷ rest) ≡ spelled (named b) 1
unfolding escape three_in two_in one_in
escape_named b [] hb n = rw (n, hb) refl
escape_named b (c ∷ []) hb n = rw (n, hb) refl
escape_named b (c ∷ d ∷ rest) hb n = rw (n, three_long (length rest), two_long (suc (length rest)), one_long (suc (suc (length rest))), hb) refl

escape_none : escape [] ≡ spelled backslash 0
unfolding escape hexadecimal_in three_in two_in one_in
escape_none = refl

plain : (b : ℕ) (rest : List ℕ) → b ≢ backslash → item b rest ≡ spelled b 0
unfolding item
plain b rest never = rw (ne_eqb b backslash never) refl

escaped : (rest : List ℕ) → item backslash rest ≡ escape rest
unfolding item
escaped rest = refl

-- by what the first item is
steps : (b : ℕ) (rest : List ℕ) (i : Item) → item b rest ≡ i → meant 0 (b ∷ rest) ≡ i.byte ∷ meant i.len rest
unfolding meant
steps b rest i e = ap (λ (j : Item). j.byte ∷ meant j.len rest) e

pub meant_complete : {bytes out : List ℕ} → StandsFor bytes out → meant 0 bytes ≡ out
unfolding meant
meant_complete ended = refl
meant_complete (itself {b = b} {rest = rest} never r) = steps b rest _ (plain b rest never) ∙ ap (λ (o : List ℕ). b ∷ o) (meant_complete r)
meant_complete (hexadecimal {high = high} {low = low} {rest = rest} h l r) =
    steps backslash (120 ∷ high ∷ low ∷ rest) _ (escaped (120 ∷ high ∷ low ∷ rest) ∙ escape_hex high low rest h l) ∙ ap (λ (o : List ℕ). (16 * digit_value high + digit_value low) ∷ o) (meant_complete r)
meant_complete (three_digits {a = a} {b = b} {c = c} {rest = rest} ha hb hc r) =
    steps backslash (a ∷ b ∷ c ∷ rest) _ (escaped (a ∷ b ∷ c ∷ rest) ∙ escape_three a b c rest ha hb hc) ∙ ap (λ (o : List ℕ). ((64 * octal a + 8 * octal b + octal c) % 256) ∷ o) (meant_complete r)
meant_complete (two_digits {a = a} {b = b} {rest = rest} ha hb n r) =
    steps backslash (a ∷ b ∷ rest) _ (escaped (a ∷ b ∷ rest) ∙ escape_two a b rest ha hb n) ∙ ap (λ (o : List ℕ). (8 * octal a + octal b) ∷ o) (meant_complete r)
meant_complete (one_digit {a = a} {rest = rest} ha n r) =
    steps backslash (a ∷ rest) _ (escaped (a ∷ rest) ∙ escape_one a rest ha n) ∙ ap (λ (o : List ℕ). octal a ∷ o) (meant_complete r)
meant_complete (by_name {b = b} {rest = rest} hb n r) =
    steps backslash (b ∷ rest) _ (escaped (b ∷ rest) ∙ escape_named b rest hb n) ∙ ap (λ (o : List ℕ). named b ∷ o) (meant_complete r)
meant_complete alone = steps backslash [] _ (escaped [] ∙ escape_none)

-- whether a hexadecimal escape is there
hex_there : (b c d : ℕ) (rest : List ℕ) → (hexadecimal_in (b ∷ c ∷ d ∷ rest) ≡ None) ⊎ ((b ≡ 120) × (is_ascii_hexdigit c ≡ true) × (is_ascii_hexdigit d ≡ true))
unfolding hexadecimal_in
hex_there b c d rest = elim (cases_Bool (eqb b 120 && (is_ascii_hexdigit c && is_ascii_hexdigit d))) [
  | inl is ↦ inr (let p = and_parts (eqb b 120) (is_ascii_hexdigit c && is_ascii_hexdigit d) is in let q = and_parts (is_ascii_hexdigit c) (is_ascii_hexdigit d) p.1 in (eqb-true b 120 p.0, q.0, q.1))
  | inr never ↦ inl (rw (three_long (length rest), never) refl)
]

no_hex_one : (b : ℕ) → hexadecimal_in (b ∷ []) ≡ None
unfolding hexadecimal_in
no_hex_one b = refl

no_hex_two : (b c : ℕ) → hexadecimal_in (b ∷ c ∷ []) ≡ None
unfolding hexadecimal_in
no_hex_two b c = refl

abbrev Some_out : List ℕ → Type 0
Some_out bytes = (out : List ℕ) × StandsFor bytes out

-- a name after a backslash, or a hexadecimal escape
from_name : (n : ℕ) → ((bytes : List ℕ) → length bytes ≤ n → Some_out bytes) → (b : ℕ) (rest : List ℕ) → length rest ≤ n → is_octal b ≡ false → Some_out (backslash ∷ b ∷ rest)
from_name n more b [] le h = let r = more [] le in (named b ∷ r.0, by_name h (no_hex_one b) r.1)
from_name n more b (c ∷ []) le h = let r = more (c ∷ []) le in (named b ∷ r.0, by_name h (no_hex_two b c) r.1)
from_name n more b (c ∷ d ∷ rest) le h = elim (hex_there b c d rest) [
  | inl none ↦ (let r = more (c ∷ d ∷ rest) le in (named b ∷ r.0, by_name h none r.1))
  | inr is ↦ (
      let r = more rest (omega arith) in
      let there : StandsFor (backslash ∷ 120 ∷ c ∷ d ∷ rest) ((16 * digit_value c + digit_value d) ∷ r.0) = hexadecimal is.1 is.2 r.1 in
      ((16 * digit_value c + digit_value d) ∷ r.0, subst (λ (x : ℕ). StandsFor (backslash ∷ x ∷ c ∷ d ∷ rest) ((16 * digit_value c + digit_value d) ∷ r.0)) (sym is.0) there))
]

from_two : (n : ℕ) → ((bytes : List ℕ) → length bytes ≤ n → Some_out bytes) → (a b : ℕ) (rest : List ℕ) → length rest ≤ n → is_octal a ≡ true → is_octal b ≡ true → Some_out (backslash ∷ a ∷ b ∷ rest)
from_two n more a b [] le ha hb = let r = more [] le in ((8 * octal a + octal b) ∷ r.0, two_digits ha hb tt r.1)
from_two n more a b (c ∷ rest) le ha hb = elim (cases_Bool (is_octal c)) [
  | inl hc ↦ (let r = more rest (omega arith) in (((64 * octal a + 8 * octal b + octal c) % 256) ∷ r.0, three_digits ha hb hc r.1))
  | inr never ↦ (let r = more (c ∷ rest) le in ((8 * octal a + octal b) ∷ r.0, two_digits ha hb never r.1))
]

from_one : (n : ℕ) → ((bytes : List ℕ) → length bytes ≤ n → Some_out bytes) → (a : ℕ) (rest : List ℕ) → length rest ≤ n → is_octal a ≡ true → Some_out (backslash ∷ a ∷ rest)
from_one n more a [] le ha = let r = more [] le in (octal a ∷ r.0, one_digit ha tt r.1)
from_one n more a (b ∷ rest) le ha = elim (cases_Bool (is_octal b)) [
  | inl hb ↦ from_two n more a b rest (omega arith) ha hb
  | inr never ↦ (let r = more (b ∷ rest) le in (octal a ∷ r.0, one_digit ha never r.1))
]

from_sign : (n : ℕ) → ((bytes : List ℕ) → length bytes ≤ n → Some_out bytes) → (rest : List ℕ) → length rest ≤ n → Some_out (backslash ∷ rest)
from_sign n more [] le = (backslash ∷ [], alone)
from_sign n more (b ∷ rest) le = elim (cases_Bool (is_octal b)) [
  | inl hb ↦ from_one n more b rest (omega arith) hb
  | inr never ↦ from_name n more b rest (omega arith) never
]

-- every row of bytes stands for something
from : (n : ℕ) (bytes : List ℕ) → length bytes ≤ n → Some_out bytes
from n [] le = ([], ended)
from zero (b ∷ bytes) le = absurd (omega arith)
from (suc n) (b ∷ bytes) le = elim (cases_Bool (eqb b backslash)) [
  | inl is ↦ (
      let r = from_sign n (from n) bytes (omega arith) in
      (r.0, subst (λ (x : ℕ). StandsFor (x ∷ bytes) r.0) (sym (eqb-true b backslash is)) r.1))
  | inr never ↦ (let r = from n bytes (omega arith) in (b ∷ r.0, itself (eqb-false b backslash never) r.1))
]

pub meant_sound : (bytes : List ℕ) → StandsFor bytes (meant 0 bytes)
meant_sound bytes = let r = from (length bytes) bytes (omega arith) in subst (StandsFor bytes) (sym (meant_complete r.1)) r.1
