-- Marks: the length that is computed is that of the longest mark.
use Rattle.std.proofs.Common.{◌≡◌, ℕ, zero, suc, ◌<◌, ◌≤◌, Bool, true, false, not, cond, ◌||◌, ◌&&◌, eqb, leb, List, [], ◌∷◌, length, take, get_or, Option, Some, None, refl, sym, ap, subst, ◌∙◌, inl, inr, arith}
use Rattle.std.specs.List.{Contains, list_any, list_all}
use Rattle.std.proofs.lemmas.Bool.{cases_Bool, eqb-true, eq-eqb, le-leb, and_parts, and_from, or_cases, or_left, or_right, not-true}
use Rattle.std.proofs.lemmas.List.Sums.{AllPass-from_list_all}
use Rattle.std.proofs.lemmas.List.Elements.{All-contains}
use Rattle.std.proofs.lemmas.Option.{cond_some, same_Some}
use Rattle.fmt_lexer.proofs.Steps.{chosen}
use Rattle.byte_classes.specs.Bytes.{is_blank, is_word}
use Rattle.fmt_lexer.specs.Mark.{long_marks, short_marks, IsMark}
use Rattle.fmt_lexer.specs.Reading.{is_long_mark, is_short_mark, mark_len}

-- a byte that is among others
among : (xs : List ℕ) (b : ℕ) → list_any (λ m. eqb m b) xs ≡ true → Contains xs b
among [] b h = absurd cc
among (x ∷ xs) b h = elim (or_cases (eqb x b) (list_any (λ m. eqb m b) xs) h) [
  | inl e ↦ (0, omega arith, eqb-true x b e)
  | inr rest ↦ let c = among xs b rest in (suc c.0, omega (arith, c.1), c.2)
]

is_among : (xs : List ℕ) (b k : ℕ) → k < length xs → get_or xs k b ≡ b → list_any (λ m. eqb m b) xs ≡ true
is_among [] b k lt e = absurd (omega arith)
is_among (x ∷ xs) b zero lt e = or_left _ _ (eq-eqb x b e)
is_among (x ∷ xs) b (suc k) lt e = or_right _ _ (is_among xs b k (omega arith) e)

abbrev same : ℕ → ℕ → List ℕ → Bool
same a b mark = eqb a (get_or mark 0 0) && eqb b (get_or mark 1 0)

same_is : (a b : ℕ) (mark : List ℕ) → eqb (length mark) 2 ≡ true → same a b mark ≡ true → mark ≡ a ∷ b ∷ []
same_is a b [] two h = absurd (let e : 0 ≡ 2 = eqb-true 0 2 two in omega arith)
same_is a b (x ∷ []) two h = absurd (let e : 1 ≡ 2 = eqb-true 1 2 two in omega arith)
same_is a b (x ∷ y ∷ []) two h =
    let p = and_parts (eqb a x) (eqb b y) h in
    let e : a ≡ x = eqb-true a x p.0 in
    let f : b ≡ y = eqb-true b y p.1 in
    cc
same_is a b (x ∷ y ∷ z ∷ mark) two h = absurd (let e : length (x ∷ y ∷ z ∷ mark) ≡ 2 = eqb-true _ _ two in omega arith)

-- two bytes that are among others
pair_among : (ms : List (List ℕ)) (a b : ℕ) → list_all (λ m. eqb (length m) 2) ms ≡ true → list_any (same a b) ms ≡ true → Contains ms (a ∷ b ∷ [])
pair_among [] a b twos h = absurd cc
pair_among (m ∷ ms) a b twos h =
    let two = and_parts (eqb (length m) 2) (list_all (λ x. eqb (length x) 2) ms) twos in
    elim (or_cases (same a b m) (list_any (same a b) ms) h) [
      | inl e ↦ (0, omega arith, same_is a b m two.0 e)
      | inr rest ↦ let c = pair_among ms a b two.1 rest in (suc c.0, omega (arith, c.1), c.2)
    ]

is_pair_among : (ms : List (List ℕ)) (a b k : ℕ) → k < length ms → get_or ms k (a ∷ b ∷ []) ≡ a ∷ b ∷ [] → list_any (same a b) ms ≡ true
is_pair_among [] a b k lt e = absurd (omega arith)
is_pair_among (m ∷ ms) a b zero lt e =
    or_left _ _ (and_from _ _ (eq-eqb a _ (ap (λ (t : List ℕ). get_or t 0 0) (sym e))) (eq-eqb b _ (ap (λ (t : List ℕ). get_or t 1 0) (sym e))))
is_pair_among (m ∷ ms) a b (suc k) lt e = or_right _ _ (is_pair_among ms a b k (omega arith) e)

long_sound : (a b : ℕ) → is_long_mark a b ≡ true → IsMark (a ∷ b ∷ [])
unfolding is_long_mark
long_sound a b h = pair_among long_marks a b refl h

long_complete : (a b : ℕ) → IsMark (a ∷ b ∷ []) → is_long_mark a b ≡ true
unfolding is_long_mark
long_complete a b c = is_pair_among long_marks a b c.0 c.1 c.2

short_sound : (a : ℕ) → is_short_mark a ≡ true → IsMark (a ∷ [])
unfolding is_short_mark
short_sound a h = among short_marks a h

short_complete : (a : ℕ) → IsMark (a ∷ []) → is_short_mark a ≡ true
unfolding is_short_mark
short_complete a c = is_among short_marks a c.0 c.1 c.2

abbrev short_len : ℕ → Option ℕ
short_len a = cond (is_short_mark a) (Some 1) None

len_one : (a : ℕ) → mark_len (a ∷ []) ≡ short_len a
unfolding mark_len
len_one a = refl

len_more : (a b : ℕ) (bytes : List ℕ) → mark_len (a ∷ b ∷ bytes) ≡ cond (is_long_mark a b) (Some 2) (short_len a)
unfolding mark_len
len_more a b bytes =
    let two : leb 2 (length (a ∷ b ∷ bytes)) ≡ true = le-leb _ _ (omega arith) in
    let one : leb 1 (length (a ∷ b ∷ bytes)) ≡ true = le-leb _ _ (omega arith) in
    rw (two, one) refl

record MarkOf (bytes : List ℕ) (n : ℕ) : Type 0 where
  within : n ≤ length bytes
  mark : IsMark (take n bytes)

short_mark : (a : ℕ) (bytes : List ℕ) (n : ℕ) → short_len a ≡ Some n → MarkOf (a ∷ bytes) n
short_mark a bytes n h =
    let short = cond_some (is_short_mark a) 1 n h in
    subst (MarkOf (a ∷ bytes)) short.1 (record { within = omega arith; mark = short_sound a short.0 })

-- what is computed is the length of a mark
pub mark_sound : (bytes : List ℕ) (n : ℕ) → mark_len bytes ≡ Some n → (n ≤ length bytes) × IsMark (take n bytes)
unfolding mark_len
mark_sound [] n h = absurd cc
mark_sound (a ∷ []) n h = let m = short_mark a [] n (sym (len_one a) ∙ h) in (m.within, m.mark)
mark_sound (a ∷ b ∷ bytes) n h =
    elim (chosen (is_long_mark a b) (Some 2) (short_len a) (Some n) (sym (len_more a b bytes) ∙ h)) [
      | inl long ↦
          let m : MarkOf (a ∷ b ∷ bytes) n = subst (MarkOf (a ∷ b ∷ bytes)) (same_Some 2 n long.1) (record { within = omega arith; mark = long_sound a b long.0 }) in
          (m.within, m.mark)
      | inr short ↦ let m = short_mark a (b ∷ bytes) n short.1 in (m.within, m.mark)
    ]

-- no mark at the front is longer
pub mark_longest : (bytes : List ℕ) (m : ℕ) → m ≤ length bytes → IsMark (take m bytes) → (n : ℕ) × (mark_len bytes ≡ Some n) × (m ≤ n)
mark_longest bytes zero le mark = absurd mark
mark_longest [] (suc m) le mark = absurd (omega arith)
mark_longest (a ∷ []) (suc zero) le mark = (1, len_one a ∙ ap (λ (t : Bool). cond t (Some 1) None) (short_complete a mark), omega arith)
mark_longest (a ∷ []) (suc (suc m)) le mark = absurd (omega arith)
mark_longest (a ∷ b ∷ bytes) (suc zero) le mark =
    let short : short_len a ≡ Some 1 = ap (λ (t : Bool). cond t (Some 1) None) (short_complete a mark) in
    elim (cases_Bool (is_long_mark a b)) [
      | inl long ↦ (2, len_more a b bytes ∙ ap (λ (t : Bool). cond t (Some 2) (short_len a)) long, omega arith)
      | inr none ↦ (1, len_more a b bytes ∙ ap (λ (t : Bool). cond t (Some 2) (short_len a)) none ∙ short, omega arith)
    ]
mark_longest (a ∷ b ∷ bytes) (suc (suc zero)) le mark = (2, len_more a b bytes ∙ ap (λ (t : Bool). cond t (Some 2) (short_len a)) (long_complete a b mark), omega arith)
mark_longest (a ∷ b ∷ []) (suc (suc (suc m))) le mark = absurd (omega arith)
mark_longest (a ∷ b ∷ c ∷ bytes) (suc (suc (suc m))) le mark = absurd mark

-- the bytes that begin other tokens
abbrev pub begins_other : ℕ → Bool
begins_other b = (is_word b || eqb b 39) || eqb b 34

-- what holds of the first byte of each mark of the tables holds of any mark's
all_marks : (p : ℕ → Bool) → list_all p short_marks ≡ true → list_all (λ (m : List ℕ). p (get_or m 0 0)) long_marks ≡ true → (b : ℕ) (bytes : List ℕ) → IsMark (b ∷ bytes) → p b ≡ true
all_marks p short long b [] mark = All-contains (λ m. p m ≡ true) short_marks b (AllPass-from_list_all p short_marks short) mark
all_marks p short long b (c ∷ []) mark =
    All-contains (λ (m : List ℕ). p (get_or m 0 0) ≡ true) long_marks (b ∷ c ∷ []) (AllPass-from_list_all (λ (m : List ℕ). p (get_or m 0 0)) long_marks long) mark
all_marks p short long b (c ∷ d ∷ bytes) mark = absurd mark

-- no mark begins with one of them, nor with a blank
pub mark_first : (b : ℕ) (bytes : List ℕ) → IsMark (b ∷ bytes) → begins_other b ≡ false
mark_first b bytes mark = not-true (begins_other b) (all_marks (λ m. not (begins_other m)) refl refl b bytes mark)

pub mark_no_blank : (b : ℕ) (bytes : List ℕ) → IsMark (b ∷ bytes) → is_blank b ≡ false
mark_no_blank b bytes mark = not-true (is_blank b) (all_marks (λ m. not (is_blank m)) refl refl b bytes mark)
