-- The items up to a cut are the first of the arranged ones.
use Rattle.std.proofs.Common.{◌≡◌, ℕ, ◌<◌, ◌≤◌, Bool, true, false, cond, ◌&&◌, ◌||◌, ltb, leb, eqb, List, [], ◌∷◌, Option, Some, None, refl, sym, ap, subst, ◌∙◌, ◌⊎◌, inl, inr, arith}
use Rattle.std.specs.List.{filter, take_while}
use Rattle.std.proofs.lemmas.Bool.{leb-true, eqb-true, eqb-false, eq-eqb, ne_eqb, lt-ltb, le-ltb, le-leb, cases_Bool, cases_order}
use Rattle.std.proofs.lemmas.List.Sums.{take_while-cons}
use Rattle.trace_base.specs.declared.layout.Layout.{Layout}
use Rattle.trace_base.specs.declared.part.Part.{Part}
use Rattle.subpage.specs.Arrangement.{Keyed, key_of, cpu_of, CpusRise, IsRising, with_key, arranged}
use Rattle.subpage.specs.Cut.{Cut, is_up_to, cut_of, lists_of, reached_of}
use Rattle.subpage.proofs.Arranging.{rising_tail, with_key-same, with_key-other}
use Rattle.subpage.proofs.Filters.{filter-yes, filter-not}
use Rattle.subpage.proofs.Arranged.{arranged_is}

-- an item is not after another
abbrev NotAfter : Keyed → Keyed → Type 0
NotAfter x y = (x.key < y.key) ⊎ ((x.key ≡ y.key) × (x.cpu ≤ y.cpu))

abbrev pub reaches : ℕ → ℕ → ℕ → ℕ → Bool
reaches x c y d = ltb x y || (eqb x y && leb c d)

pub reaches-true : (x c y d : ℕ) → (x < y) ⊎ ((x ≡ y) × (c ≤ d)) → reaches x c y d ≡ true
reaches-true x c y d p = elim p [
  | inl lt ↦ let a : ltb x y ≡ true = lt-ltb _ _ lt in rw a refl
  | inr q ↦
      let a : ltb x y ≡ false = le-ltb _ _ (omega (arith, q.0)) in
      let b : eqb x y ≡ true = eq-eqb _ _ q.0 in
      let e : leb c d ≡ true = le-leb _ _ q.1 in
      rw (a, b, e) refl
]

true-reaches : (x c y d : ℕ) → reaches x c y d ≡ true → (x < y) ⊎ ((x ≡ y) × (c ≤ d))
true-reaches x c y d h = elim (cases_order x y) [
  | inl e ↦
      let a : ltb x y ≡ false = le-ltb _ _ (omega arith) in
      let b : eqb x y ≡ true = eq-eqb _ _ e in
      let rest : leb c d ≡ true = rw (a, b) at h in
      inr (e, leb-true _ _ rest)
  | inr o ↦ elim o [
    | inl lt ↦ inl lt
    | inr gt ↦
        let a : ltb x y ≡ false = le-ltb _ _ (omega arith) in
        let b : eqb x y ≡ false = ne_eqb _ _ (λ e. omega arith) in
        let never : false ≡ true = rw (a, b) at h in
        absurd cc
  ]
]

through : (a b c d e f : ℕ) → (a < c) ⊎ ((a ≡ c) × (b ≤ d)) → (c < e) ⊎ ((c ≡ e) × (d ≤ f)) → (a < e) ⊎ ((a ≡ e) × (b ≤ f))
through a b c d e f p q = elim p [
  | inl x ↦ elim q [ inl y ↦ inl (omega arith) | inr y ↦ inl (omega (arith, y.0)) ]
  | inr x ↦ elim q [ inl y ↦ inl (omega (arith, x.0)) | inr y ↦ inr (x.0 ∙ y.0, omega (arith, x.1, y.1)) ]
]

at_key : (key : Option ℕ) (cpu page : ℕ) (x y : Keyed) → NotAfter x y → is_up_to (Some (record { key = key; cpu = cpu; page = page })) y ≡ true → is_up_to (Some (record { key = key; cpu = cpu; page = page })) x ≡ true
at_key None cpu page x y p h = absurd cc
at_key (Some key) cpu page x y p h = reaches-true x.key x.cpu key cpu (through x.key x.cpu y.key y.cpu key cpu p (true-reaches y.key y.cpu key cpu h))

-- what stands before an item up to a cut is up to it too
up_to_before : (cut : Option Cut) (x y : Keyed) → NotAfter x y → is_up_to cut y ≡ true → is_up_to cut x ≡ true
up_to_before None x y p h = refl
up_to_before (Some cut) x y p h = at_key cut.key cut.cpu cut.page x y p h

record Ordered (xs : List Keyed) : Type 0 where
  by_keys : IsRising key_of xs
  by_processors : (k : ℕ) → IsRising cpu_of (with_key key_of k xs)

ordered_tail : (x : Keyed) (xs : List Keyed) → Ordered (x ∷ xs) → Ordered xs
ordered_tail x xs o = record {
  by_keys = rising_tail key_of x xs o.by_keys;
  by_processors = λ k. elim (cases_Bool (eqb x.key k)) [
    | inl b ↦ rising_tail cpu_of x (with_key key_of k xs) (subst (IsRising cpu_of) (with_key-same key_of x xs k (eqb-true _ _ b)) (o.by_processors k))
    | inr b ↦ subst (IsRising cpu_of) (with_key-other key_of x xs k (eqb-false _ _ b)) (o.by_processors k)
  ];
}

ordered_front : (x y : Keyed) (ys : List Keyed) → Ordered (x ∷ y ∷ ys) → NotAfter x y
ordered_front x y ys o = elim (cases_order x.key y.key) [
  | inl e ↦
      let both : with_key key_of x.key (x ∷ y ∷ ys) ≡ x ∷ y ∷ with_key key_of x.key ys =
      with_key-same key_of x (y ∷ ys) x.key refl ∙ ap (λ (zs : List Keyed). x ∷ zs) (with_key-same key_of y ys x.key (sym e)) in
      let rising : IsRising cpu_of (x ∷ y ∷ with_key key_of x.key ys) = subst (IsRising cpu_of) both (o.by_processors x.key) in
      inr (e, rising.0)
  | inr d ↦ elim d [
    | inl lt ↦ inl lt
    | inr gt ↦ let le : x.key ≤ y.key = o.by_keys.0 in absurd (omega arith)
  ]
]

none_behind : (cut : Option Cut) (x : Keyed) (xs : List Keyed) → Ordered (x ∷ xs) → is_up_to cut x ≡ false → filter (is_up_to cut) xs ≡ []
none_behind cut x [] o h = refl
none_behind cut x (y ∷ ys) o h = elim (cases_Bool (is_up_to cut y)) [
  | inl t ↦ let never : false ≡ true = sym h ∙ up_to_before cut x y (ordered_front x y ys o) t in absurd cc
  | inr f ↦ filter-not (is_up_to cut) y ys f ∙ none_behind cut y ys (ordered_tail x (y ∷ ys) o) f
]

abbrev if_up_to : Bool → Keyed → List Keyed → List Keyed
if_up_to b x xs = cond b (x ∷ xs) []

first_ones : (cut : Option Cut) (xs : List Keyed) → Ordered xs → filter (is_up_to cut) xs ≡ take_while (is_up_to cut) xs
first_ones cut [] o = refl
first_ones cut (x ∷ xs) o = elim (cases_Bool (is_up_to cut x)) [
  | inl t ↦ filter-yes (is_up_to cut) x xs t ∙ ap (λ (ys : List Keyed). x ∷ ys) (first_ones cut xs (ordered_tail x xs o)) ∙ ap (λ b. if_up_to b x (take_while (is_up_to cut) xs)) (sym t) ∙ sym (take_while-cons (is_up_to cut) x xs)
  | inr f ↦ filter-not (is_up_to cut) x xs f ∙ none_behind cut x xs o f ∙ ap (λ b. if_up_to b x (take_while (is_up_to cut) xs)) (sym f) ∙ sym (take_while-cons (is_up_to cut) x xs)
]

pub lists_rise : (layout : Layout) (file : List ℕ) (parts : List (ℕ × Part)) → CpusRise parts → CpusRise (lists_of layout file parts)
lists_rise layout file [] r = tt
lists_rise layout file (p ∷ []) r = tt
lists_rise layout file (p ∷ q ∷ ps) r = (r.0, lists_rise layout file (q ∷ ps) r.1)

pub reached_first : (layout : Layout) (file : List ℕ) (parts : List (ℕ × Part)) → CpusRise parts
    → reached_of layout file parts ≡ take_while (is_up_to (cut_of layout file parts)) (arranged (lists_of layout file parts))
unfolding reached_of
reached_first layout file parts r =
    let a = arranged_is (lists_of layout file parts) (lists_rise layout file parts r) in
    first_ones (cut_of layout file parts) (arranged (lists_of layout file parts)) (record { by_keys = a.by_keys; by_processors = a.by_processors })
