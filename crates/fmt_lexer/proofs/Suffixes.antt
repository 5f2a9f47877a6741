-- The suffix of a number: what is computed of it is what the relation says.
use Rattle.std.proofs.Common.{◌≡◌, ℕ, ◌+◌, ◌-◌, ◌<◌, Bool, true, false, ◌||◌, ◌&&◌, eqb, leb, List, [], ◌∷◌, ◌++◌, length, take, drop, get_or, refl, sym, ap, subst, ◌∙◌, inl, inr, ◌⊎◌, arith}
use Rattle.std.specs.List.{AllPass, list_all}
use Rattle.std.proofs.lemmas.Bool.{cases_Bool, eqb-true, leb-true, le-leb, and_parts, and_from, or_cases}
use Rattle.std.proofs.lemmas.List.{take_more, take_all, take_at, length_push, get_or_push}
use Rattle.std.proofs.lemmas.List.Sums.{AllPass-from_list_all, list_all-from_AllPass}
use Rattle.std.proofs.lemmas.List.Elements.{All-weaker}
use Rattle.byte_classes.specs.Bytes.{is_word}
use Rattle.fmt_lexer.specs.Number.{is_unsigned, is_long, AreLongs, IsSuffix, unsigned_first, unsigned_last, signed}
use Rattle.fmt_lexer.specs.Reading.{longs_of, is_suffix}

pub long_is : (b : ℕ) → is_long b ≡ true → (b ≡ 108) ⊎ (b ≡ 76)
long_is b h = elim (or_cases (eqb b 108) (eqb b 76) h) [ inl e ↦ inl (eqb-true b 108 e) | inr e ↦ inr (eqb-true b 76 e) ]

pub unsigned_is : (b : ℕ) → is_unsigned b ≡ true → (b ≡ 117) ⊎ (b ≡ 85)
unsigned_is b h = elim (or_cases (eqb b 117) (eqb b 85) h) [ inl e ↦ inl (eqb-true b 117 e) | inr e ↦ inr (eqb-true b 85 e) ]

long_not_unsigned : (b : ℕ) → is_long b ≡ true → is_unsigned b ≡ false
long_not_unsigned b h = elim (long_is b h) [ inl e ↦ ap is_unsigned e | inr e ↦ ap is_unsigned e ]

-- what is left without a `u` is told by the three rows
are_longs : (longs : List ℕ) → (leb (length longs) 2 && list_all is_long longs) ≡ true → AreLongs longs
are_longs longs h =
    let p = and_parts (leb (length longs) 2) (list_all is_long longs) h in
    record { few = leb-true _ _ p.0; each = AllPass-from_list_all is_long longs p.1 }

longs_pass : (longs : List ℕ) → AreLongs longs → (leb (length longs) 2 && list_all is_long longs) ≡ true
longs_pass longs a = and_from _ _ (le-leb _ _ a.few) (list_all-from_AllPass is_long longs a.each)

last_apart : (s : List ℕ) → 0 < length s → take (length s - 1) s ++ get_or s (length s - 1) 0 ∷ [] ≡ s
last_apart s some =
    let n : length s - 1 + 1 ≡ length s = omega arith in
    sym (take_more s (length s - 1) 0 (omega arith)) ∙ ap (λ (k : ℕ). take k s) n ∙ take_all (length s) s (omega arith)

not_empty : (s : List ℕ) (i : ℕ) → is_unsigned (get_or s i 0) ≡ true → 0 < length s
not_empty [] i h = absurd cc
not_empty (b ∷ s) i h = omega arith

without_first : (s : List ℕ) → AreLongs (drop 1 s) → is_unsigned (get_or s 0 0) ≡ true → IsSuffix s
without_first [] a h = absurd cc
without_first (u ∷ longs) a h = unsigned_first u longs h a

-- a suffix that passes is one of them
pub suffix_sound : (s : List ℕ) → is_suffix s ≡ true → IsSuffix s
unfolding is_suffix longs_of
suffix_sound s h = elim (cases_Bool (is_unsigned (get_or s 0 0))) [
  | inl first ↦ without_first s (are_longs (drop 1 s) (rw first at h)) first
  | inr other ↦ elim (cases_Bool (is_unsigned (get_or s (length s - 1) 0))) [
    | inl last ↦ subst IsSuffix (last_apart s (not_empty s _ last)) (unsigned_last _ _ (are_longs _ (rw (other, last) at h)) last)
    | inr none ↦ signed s (are_longs s (rw (other, none) at h))
  ]
]

longs_first : (u : ℕ) (longs : List ℕ) → is_unsigned u ≡ true → longs_of (u ∷ longs) ≡ longs
unfolding longs_of
longs_first u longs h = rw h refl

longs_last : (longs : List ℕ) (u : ℕ) → AreLongs longs → is_unsigned u ≡ true → longs_of (longs ++ u ∷ []) ≡ longs
unfolding longs_of
longs_last [] u a h = rw h refl
longs_last (l ∷ longs) u a h =
    let first : is_unsigned l ≡ false = long_not_unsigned l (a.each 0 0 (omega arith)) in
    let n : length ((l ∷ longs) ++ u ∷ []) - 1 ≡ length (l ∷ longs) = omega (arith, length_push (l ∷ longs) u) in
    let last : is_unsigned (get_or ((l ∷ longs) ++ u ∷ []) (length ((l ∷ longs) ++ u ∷ []) - 1) 0) ≡ true =
    ap (λ (k : ℕ). is_unsigned (get_or ((l ∷ longs) ++ u ∷ []) k 0)) n ∙ ap is_unsigned (get_or_push (l ∷ longs) u 0 (length (l ∷ longs)) refl) ∙ h in
    rw (first, last) (ap (λ (k : ℕ). take k ((l ∷ longs) ++ u ∷ [])) n ∙ take_at (l ∷ longs) (u ∷ []) (length (l ∷ longs)) refl)

longs_alone : (longs : List ℕ) → AreLongs longs → longs_of longs ≡ longs
unfolding longs_of
longs_alone [] a = refl
longs_alone (l ∷ longs) a =
    let first : is_unsigned l ≡ false = long_not_unsigned l (a.each 0 0 (omega arith)) in
    let last : is_unsigned (get_or (l ∷ longs) (length (l ∷ longs) - 1) 0) ≡ false = long_not_unsigned (get_or (l ∷ longs) (length (l ∷ longs) - 1) 0) (a.each (length (l ∷ longs) - 1) 0 (omega arith)) in
    rw (first, last) refl

longs_given : (s longs : List ℕ) → longs_of s ≡ longs → AreLongs longs → is_suffix s ≡ true
unfolding is_suffix
longs_given s longs e a = ap (λ (t : List ℕ). leb (length t) 2 && list_all is_long t) e ∙ longs_pass longs a

-- each of them passes
pub suffix_complete : (s : List ℕ) → IsSuffix s → is_suffix s ≡ true
suffix_complete _ (unsigned_first u longs h a) = longs_given (u ∷ longs) longs (longs_first u longs h) a
suffix_complete _ (unsigned_last longs u a h) = longs_given (longs ++ u ∷ []) longs (longs_last longs u a h) a
suffix_complete _ (signed longs a) = longs_given longs longs (longs_alone longs a) a

-- the bytes of a suffix
abbrev pub in_suffix : ℕ → Bool
in_suffix b = is_unsigned b || is_long b

pub in_suffix_is : (b : ℕ) (P : ℕ → Type 0) → P 117 → P 85 → P 108 → P 76 → in_suffix b ≡ true → P b
in_suffix_is b P u u' l l' h = elim (or_cases (is_unsigned b) (is_long b) h) [
  | inl x ↦ elim (unsigned_is b x) [ inl e ↦ subst P (sym e) u | inr e ↦ subst P (sym e) u' ]
  | inr x ↦ elim (long_is b x) [ inl e ↦ subst P (sym e) l | inr e ↦ subst P (sym e) l' ]
]

pub unsigned_word : (b : ℕ) → is_unsigned b ≡ true → is_word b ≡ true
unsigned_word b h = elim (unsigned_is b h) [ inl e ↦ ap is_word e | inr e ↦ ap is_word e ]

long_word : (b : ℕ) → is_long b ≡ true → is_word b ≡ true
long_word b h = elim (long_is b h) [ inl e ↦ ap is_word e | inr e ↦ ap is_word e ]

pub longs_word : (longs : List ℕ) → AreLongs longs → AllPass is_word longs
longs_word longs a = All-weaker (λ b. is_long b ≡ true) (λ b. is_word b ≡ true) long_word longs a.each
