-- The token at the front: what is computed is what the relation says.
use Rattle.std.proofs.Common.{◌≡◌, ℕ, ◌<◌, true, false, ◌||◌, eqb, List, [], ◌∷◌, ◌++◌, length, get_or, refl, sym, ap, subst, ◌∙◌, inl, inr, arith}
use Rattle.std.specs.List.{AllPass}
use Rattle.std.specs.Char.{is_digit, is_ascii_digit}
use Rattle.std.proofs.lemmas.Bool.{cases_Bool, eqb-true, ne_eqb, or_parts, or_from, false_from_ne_true}
use Rattle.std.proofs.lemmas.Bool.Decides.{nat_tests}
use Rattle.std.proofs.lemmas.List.Elements.{All-append, All-nil, All-cons, All-weaker}
use Rattle.fmt_lexer.specs.declared.number.Base.{Base}
use Rattle.fmt_lexer.specs.declared.number.Base.TheVariants.{Decimal, Hexadecimal, Octal}
use Rattle.fmt_lexer.specs.declared.token.TokenKind.{TokenKind}
use Rattle.fmt_lexer.specs.declared.token.TokenKind.TheVariants.{Name, Number, Letter, Text, Mark}
use Rattle.byte_classes.specs.Bytes.{is_word}
use Rattle.fmt_lexer.specs.Number.{radix_of, prefix_of, IsSuffix, IsNumber, unsigned_first, unsigned_last, signed}
use Rattle.fmt_lexer.specs.Reading.{kind_from}
use Rattle.fmt_lexer.proofs.Suffixes.{unsigned_word, longs_word}
use Rattle.fmt_lexer.proofs.Marks.{begins_other}

-- the bytes that begin each kind
pub data Begins : ℕ → TokenKind → Type 0 where
  letter : Begins 39 Letter
  text : Begins 34 Text
  number : (b : ℕ) → is_ascii_digit b ≡ true → Begins b Number
  name : (b : ℕ) → is_ascii_digit b ≡ false → is_word b ≡ true → Begins b Name
  mark : (b : ℕ) → begins_other b ≡ false → Begins b Mark

digit_word : (b : ℕ) → is_ascii_digit b ≡ true → is_word b ≡ true
digit_word b h = grind (arith, nat_tests)

no_word : (b : ℕ) → is_word b ≡ false → is_ascii_digit b ≡ false
no_word b h = false_from_ne_true (is_ascii_digit b) (λ digit. let word : is_word b ≡ true = digit_word b digit in absurd cc)

word_apart : (b : ℕ) → is_word b ≡ true → (eqb b 39 ≡ false) × (eqb b 34 ≡ false)
word_apart b h = (
  ne_eqb b 39 (λ e. let word : is_word 39 ≡ true = ap is_word (sym e) ∙ h in absurd cc),
  ne_eqb b 34 (λ e. let word : is_word 34 ≡ true = ap is_word (sym e) ∙ h in absurd cc),
)

pub kind_is : (b : ℕ) (kind : TokenKind) → Begins b kind → kind_from b ≡ kind
unfolding kind_from
kind_is _ _ letter = refl
kind_is _ _ text = refl
kind_is _ _ (number b digit) = let apart = word_apart b (digit_word b digit) in rw (apart.0, apart.1, digit) refl
kind_is _ _ (name b no_digit word) = let apart = word_apart b word in rw (apart.0, apart.1, word, no_digit) refl
kind_is _ _ (mark b none) =
    let front = or_parts (is_word b || eqb b 39) (eqb b 34) none in
    let word = or_parts (is_word b) (eqb b 39) front.0 in
    let digit = no_word b word.0 in
    rw (word.1, front.1, word.0, digit) refl

classified : (b : ℕ) → (kind : TokenKind) × Begins b kind
classified b = elim (cases_Bool (eqb b 39)) [
  | inl is_letter ↦ (Letter, subst (λ (x : ℕ). Begins x Letter) (sym (eqb-true b 39 is_letter)) letter)
  | inr no_letter ↦ elim (cases_Bool (eqb b 34)) [
    | inl is_text ↦ (Text, subst (λ (x : ℕ). Begins x Text) (sym (eqb-true b 34 is_text)) text)
    | inr no_text ↦ elim (cases_Bool (is_word b)) [
      | inl word ↦ elim (cases_Bool (is_ascii_digit b)) [
        | inl digit ↦ (Number, number b digit)
        | inr no_digit ↦ (Name, name b no_digit word)
      ]
      | inr none ↦ (Mark, mark b (or_from _ _ (or_from _ _ none no_letter) no_text))
    ]
  ]
]

pub begins : (b : ℕ) → Begins b (kind_from b)
begins b = let k = classified b in subst (Begins b) (sym (kind_is b k.0 k.1)) k.1

-- a number is of letters, digits and `_`, and begins with a digit
digits_word : (base : Base) (b : ℕ) → is_digit b (radix_of base) ≡ true → is_word b ≡ true
digits_word Decimal b h = grind (arith, nat_tests)
digits_word Hexadecimal b h = grind (arith, nat_tests)
digits_word Octal b h = grind (arith, nat_tests)

decimal_digit : (b : ℕ) → is_digit b 10 ≡ true → is_ascii_digit b ≡ true
decimal_digit b h = grind (arith, nat_tests)

abbrev IsWord : ℕ → Type 0
IsWord b = is_word b ≡ true

suffix_word : (suffix : List ℕ) → IsSuffix suffix → AllPass is_word suffix
suffix_word _ (unsigned_first u longs h a) = All-cons IsWord u longs (unsigned_word u h) (longs_word longs a)
suffix_word _ (unsigned_last longs u a h) = All-append IsWord longs (u ∷ []) (longs_word longs a) (All-cons IsWord u [] (unsigned_word u h) (All-nil IsWord))
suffix_word _ (signed longs a) = longs_word longs a

prefix_word : (base : Base) → AllPass is_word (prefix_of base)
prefix_word Decimal = All-nil IsWord
prefix_word Hexadecimal = All-cons IsWord 48 (120 ∷ []) refl (All-cons IsWord 120 [] refl (All-nil IsWord))
prefix_word Octal = All-cons IsWord 48 [] refl (All-nil IsWord)

pub number_word : (bytes : List ℕ) (base : Base) (digits suffix : List ℕ) → IsNumber bytes base digits suffix → AllPass is_word bytes
number_word bytes base digits suffix n =
    subst (AllPass is_word) (sym n.whole) (All-append IsWord (prefix_of base) (digits ++ suffix) (prefix_word base)
    (All-append IsWord digits suffix (All-weaker (λ b. is_digit b (radix_of base) ≡ true) IsWord (digits_word base) digits n.each) (suffix_word suffix n.suffix_is)))

pub number_first : (bytes : List ℕ) (base : Base) (digits suffix : List ℕ) → IsNumber bytes base digits suffix → (0 < length bytes) × (is_ascii_digit (get_or bytes 0 0) ≡ true)
number_first bytes Decimal [] suffix n = absurd (let some = n.some.0 in omega arith)
number_first bytes Decimal (d ∷ digits) suffix n = (omega (arith, ap length n.whole), ap (λ (t : List ℕ). is_ascii_digit (get_or t 0 0)) n.whole ∙ decimal_digit d (n.each 0 0 (omega arith)))
number_first bytes Hexadecimal digits suffix n = (omega (arith, ap length n.whole), ap (λ (t : List ℕ). is_ascii_digit (get_or t 0 0)) n.whole)
number_first bytes Octal digits suffix n = (omega (arith, ap length n.whole), ap (λ (t : List ℕ). is_ascii_digit (get_or t 0 0)) n.whole)
