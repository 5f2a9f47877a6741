-- The least of cuts.
use Rattle.std.proofs.Common.{◌≡◌, ℕ, zero, suc, ◌+◌, ◌<◌, ◌≤◌, Bool, true, false, ◌&&◌, ◌||◌, ltb, eqb, List, [], ◌∷◌, length, Option, Some, None, refl, sym, ap, subst, ◌∙◌, ◌⊎◌, inl, inr, arith}
use Rattle.std.specs.Option.{IfSome, IfNone}
use Rattle.std.specs.Prelude.{slice_index_or}
use Rattle.std.specs.List.{fold, Contains, All}
use Rattle.std.proofs.lemmas.Bool.{ltb-false, eq-eqb, ne_eqb, lt-ltb, le-ltb, cases_Bool, cases_order}
use Rattle.subpage.specs.Cut.{Cut, is_before, is_earlier, earlier, IsLeast}

-- the very start stands before every key
abbrev rank : Option ℕ → ℕ
rank None = 0
rank (Some key) = key + 1

-- pairs of numbers in order
abbrev NotAfter : ℕ → ℕ → ℕ → ℕ → Type 0
NotAfter x c y d = (x < y) ⊎ ((x ≡ y) × (c ≤ d))

abbrev before : ℕ → ℕ → ℕ → ℕ → Bool
before x c y d = ltb x y || (eqb x y && ltb c d)

before-false : (x c y d : ℕ) → NotAfter x c y d → before y d x c ≡ false
before-false x c y d p = elim p [
  | inl lt ↦
      let a : ltb y x ≡ false = le-ltb _ _ (omega arith) in
      let b : eqb y x ≡ false = ne_eqb _ _ (λ e. omega arith) in
      rw (a, b) refl
  | inr q ↦
      let a : ltb y x ≡ false = le-ltb _ _ (omega (arith, q.0)) in
      let b : eqb y x ≡ true = eq-eqb _ _ (sym q.0) in
      let e : ltb d c ≡ false = le-ltb _ _ q.1 in
      rw (a, b, e) refl
]

not_after-total : (x c y d : ℕ) → NotAfter x c y d ⊎ NotAfter y d x c
not_after-total x c y d = elim (cases_order x y) [
  | inl e ↦ elim (cases_order c d) [
    | inl same ↦ inl (inr (e, omega arith))
    | inr o ↦ elim o [ inl lt ↦ inl (inr (e, omega arith)) | inr gt ↦ inr (inr (sym e, omega arith)) ]
  ]
  | inr o ↦ elim o [ inl lt ↦ inl (inl lt) | inr gt ↦ inr (inl gt) ]
]

not_after : (x c y d : ℕ) → before y d x c ≡ false → NotAfter x c y d
not_after x c y d h = elim (cases_order x y) [
  | inl e ↦
      let a : ltb y x ≡ false = le-ltb _ _ (omega arith) in
      let b : eqb y x ≡ true = eq-eqb _ _ (sym e) in
      let rest : ltb d c ≡ false = rw (a, b) at h in
      inr (e, ltb-false d c rest)
  | inr o ↦ elim o [
    | inl lt ↦ inl lt
    | inr gt ↦
        let a : ltb y x ≡ true = lt-ltb y x gt in
        let never : true ≡ false = rw a at h in
        absurd cc
  ]
]

is_before-at : (x : Option ℕ) (c : ℕ) (y : Option ℕ) (d : ℕ) → is_before x c y d ≡ before (rank x) c (rank y) d
is_before-at None c None d = refl
is_before-at None c (Some y) d = let ahead : ltb 0 (y + 1) ≡ true = lt-ltb _ _ (omega arith) in rw ahead refl
is_before-at (Some x) c None d = sym (before-false 0 d (x + 1) c (inl (omega arith)))
is_before-at (Some x) c (Some y) d = elim (cases_order x y) [
  | inl e ↦ ap (λ z. before x c z d) (sym e) ∙ same_key x c d ∙ sym (same_key (x + 1) c d) ∙ ap (λ z. before (x + 1) c (z + 1) d) e
  | inr o ↦ elim o [
    | inl lt ↦
        let a : ltb x y ≡ true = lt-ltb _ _ lt in
        let b : ltb (x + 1) (y + 1) ≡ true = lt-ltb _ _ (omega arith) in
        rw (a, b) refl
    | inr gt ↦ before-false y d x c (inl gt) ∙ sym (before-false (y + 1) d (x + 1) c (inl (omega arith)))
  ]
]
  where
    same_key : (z c d : ℕ) → before z c z d ≡ ltb c d
    same_key z c d =
        let a : ltb z z ≡ false = le-ltb _ _ (omega arith) in
        let b : eqb z z ≡ true = eq-eqb _ _ refl in
        rw (a, b) refl

abbrev NoLater : Cut → Cut → Type 0
NoLater a b = NotAfter (rank a.key) a.cpu (rank b.key) b.cpu

no_later-self : (a : Cut) → NoLater a a
no_later-self a = inr (refl, omega arith)

no_later-trans : (a b c : Cut) → NoLater a b → NoLater b c → NoLater a c
no_later-trans a b c p q = elim p [
  | inl x ↦ elim q [ inl y ↦ inl (omega arith) | inr y ↦ inl (omega (arith, y.0)) ]
  | inr x ↦ elim q [ inl y ↦ inl (omega (arith, x.0)) | inr y ↦ inr (x.0 ∙ y.0, omega (arith, x.1, y.1)) ]
]

not_earlier : (a b : Cut) → NoLater a b → is_earlier b a ≡ false
not_earlier a b p = is_before-at b.key b.cpu a.key a.cpu ∙ before-false (rank a.key) a.cpu (rank b.key) b.cpu p

no_later-false : (a b : Cut) → is_earlier b a ≡ false → NoLater a b
no_later-false a b h = not_after (rank a.key) a.cpu (rank b.key) b.cpu (sym (is_before-at b.key b.cpu a.key a.cpu) ∙ h)

no_later-true : (a b : Cut) → is_earlier a b ≡ true → NoLater a b
no_later-true a b h = elim (not_after-total (rank a.key) a.cpu (rank b.key) b.cpu) [
  | inl p ↦ p
  | inr q ↦ let never : true ≡ false = sym h ∙ not_earlier b a q in absurd cc
]

module _ {X : Type 0} where
  all_cons : (P : X → Type 0) (x : X) (xs : List X) → P x → All P xs → All P (x ∷ xs)
  all_cons P x xs p ps zero d lt = p
  all_cons P x xs p ps (suc k) d lt = ps k d (omega arith)

  contains_behind : (x y : X) (xs : List X) → Contains xs y → Contains (x ∷ xs) y
  contains_behind x y xs c = (suc c.0, omega (arith, c.1), c.2)

  at_place : (a b y : X) (bs : List X) (k : ℕ) → k < length (a ∷ bs) → slice_index_or (a ∷ bs) k y ≡ y → Contains (a ∷ b ∷ bs) y
  at_place a b y bs zero lt e = (zero, omega arith, e)
  at_place a b y bs (suc k) lt e = (suc (suc k), omega arith, e)

  contains_between : (a b y : X) (bs : List X) → Contains (a ∷ bs) y → Contains (a ∷ b ∷ bs) y
  contains_between a b y bs c = at_place a b y bs c.0 c.1 c.2

record Least (first : Cut) (others : List Cut) : Type 0 where
  cut : Cut
  is : fold earlier (Some first) others ≡ Some cut
  one : Contains (first ∷ others) cut
  no_later : All (λ other. NoLater cut other) (first ∷ others)

least_of : (a : Cut) (bs : List Cut) → Least a bs
least_of a [] = record { cut = a; is = refl; one = (zero, omega arith, refl); no_later = all_cons (λ other. NoLater a other) a [] (no_later-self a) (λ k d lt. absurd (omega arith)) }
least_of a (b ∷ bs) = elim (cases_Bool (is_earlier b a)) [
  | inl t ↦
      let l = least_of b bs in
      let here : NoLater l.cut b = l.no_later zero b (omega arith) in
      record {
        cut = l.cut;
        is = rw t l.is;
        one = contains_behind a l.cut (b ∷ bs) l.one;
        no_later = all_cons (λ other. NoLater l.cut other) a (b ∷ bs) (no_later-trans l.cut b a here (no_later-true b a t)) l.no_later;
      }
  | inr f ↦
      let l = least_of a bs in
      let here : NoLater l.cut a = l.no_later zero a (omega arith) in
      let behind : All (λ other. NoLater l.cut other) bs = λ k d lt. l.no_later (suc k) d (omega arith) in
      record {
        cut = l.cut;
        is = rw f l.is;
        one = contains_between a b l.cut bs l.one;
        no_later = all_cons (λ other. NoLater l.cut other) a (b ∷ bs) here (all_cons (λ other. NoLater l.cut other) b bs (no_later-trans l.cut a b here (no_later-false a b f)) behind);
      }
]

pub when_some : (cuts : List Cut) → IfSome (fold earlier None cuts) (λ cut. IsLeast cuts cut)
when_some [] = tt
when_some (c ∷ cs) =
    let l = least_of c cs in
    subst (λ (o : Option Cut). IfSome o (λ cut. IsLeast (c ∷ cs) cut)) (sym l.is) (record {
      one = l.one;
      least = λ k d lt t. let never : false ≡ true = sym (not_earlier l.cut (slice_index_or (c ∷ cs) k d) (l.no_later k d lt)) ∙ t in absurd cc;
    })

pub when_none : (cuts : List Cut) → IfNone (fold earlier None cuts) (cuts ≡ [])
when_none [] = refl
when_none (c ∷ cs) = subst (λ (o : Option Cut). IfNone o (c ∷ cs ≡ [])) (sym (least_of c cs).is) tt
