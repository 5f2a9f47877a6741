-- The least of the cuts of several files.
use Rattle.std.proofs.Common.{◌≡◌, ℕ, zero, suc, ◌+◌, ◌<◌, ◌≤◌, Bool, true, false, ltb, eqb, ◌||◌, ◌&&◌, List, [], ◌∷◌, ◌++◌, length, map, get_or, Option, Some, None, refl, sym, ap, subst, ◌∙◌, ◌⊎◌, inl, inr, arith}
use Rattle.std.specs.Prelude.{slice_index_or}
use Rattle.std.specs.Option.{IfSome, IfNone}
use Rattle.std.specs.List.{All, Contains, filter_map, flat_map}
use Rattle.std.proofs.lemmas.Bool.{cases_Bool, cases_order, eqb-true, ltb-true, eq-eqb, lt-ltb, le-ltb, and_parts}
use Rattle.std.proofs.lemmas.List.Elements.{All-nil, All-head, All-tail, All-append, All-map, Contains-append_left, Contains-append_right}
use Rattle.subpage.specs.Cut.{Cut, is_before, is_earlier, IsLeast as IsLeastOne, cut_of, cuts_of}
use Rattle.subpage.proofs.Cuts.{when_none, when_some}
use Rattle.time_merge.specs.Rows.{rank}
use Rattle.multi_report.specs.Order.{ShownFile, FileCut, IsLeast, all_cuts, cut_in, cut_of_files, are_together, is_sooner, numbered, own_cut, own_cut_in, sooner}
use Rattle.multi_report.proofs.Merging.{Fits, FitsFile, after, after_is, fits_of, folded}

contains_mapped : {X Y : Type 0} (f : X → Y) (x : X) (xs : List X) → Contains xs x → Contains (map f xs) (f x)
contains_mapped {X = X} {Y = Y} f x xs c = at xs c.0 c.1 c.2
  where
    at : (xs : List X) (k : ℕ) → k < length xs → slice_index_or xs k x ≡ x → Contains (map f xs) (f x)
    at [] k lt e = absurd (omega (arith, lt))
    at (y ∷ xs) zero lt e = (zero, omega arith, ap f e)
    at (y ∷ xs) (suc k) lt e = let rest = at xs k (omega (arith, lt)) e in (suc rest.0, omega (arith, rest.1), rest.2)

-- one of the files has this as its own least cut
abbrev Has : FileCut → List (ℕ × ShownFile) → Type 0
Has a [] = ⊥
Has a (p ∷ files) = ((cut_in p.0 a.cut ≡ a) × (own_cut p.1 ≡ Some a.cut)) ⊎ Has a files

after_one : (o : Option FileCut) (n : ℕ) (c : Cut) → (sooner o (cut_in n c) ≡ Some (cut_in n c)) ⊎ (sooner o (cut_in n c) ≡ o)
after_one None n c = inl refl
after_one (Some a) n c = elim (cases_Bool (is_before c.key n a.cut.key a.file)) [ inl t ↦ rw t (inl refl) | inr t ↦ rw t (inr refl) ]

some_is : {x y : FileCut} → Some x ≡ Some y → x ≡ y
some_is e = cc

folded_has : (a : FileCut) (o : Option FileCut) (files : List (ℕ × ShownFile)) → folded o files ≡ Some a → (o ≡ Some a) ⊎ Has a files
folded_has a o [] e = inl e
folded_has a o (p ∷ files) e = by (own_cut p.1) refl (folded_has a (after o p.0 (own_cut p.1)) files (sym (after_is o p.0 (own_cut p.1) (filter_map own_cut_in files)) ∙ e))
  where
    by : (own : Option Cut) → own_cut p.1 ≡ own → (after o p.0 (own_cut p.1) ≡ Some a) ⊎ Has a files → (o ≡ Some a) ⊎ Has a (p ∷ files)
    by None is h = elim h [
      | inl here ↦ inl (sym (ap (after o p.0) is) ∙ here)
      | inr rest ↦ inr (inr rest)
    ]
    by (Some c) is h = elim h [
      | inl here ↦
          let next : sooner o (cut_in p.0 c) ≡ Some a = sym (ap (after o p.0) is) ∙ here in
          elim (after_one o p.0 c) [
            | inl one ↦
                let same : cut_in p.0 c ≡ a = some_is (sym one ∙ next) in
                let cut : c ≡ a.cut = ap (λ (x : FileCut). x.cut) same in
                inr (inl (ap (cut_in p.0) (sym cut) ∙ same, is ∙ ap Some cut))
            | inr old ↦ inl (sym old ∙ next)
          ]
      | inr rest ↦ inr (inr rest)
    ]

abbrev cuts_in : ℕ × ShownFile → List FileCut
cuts_in p = map (cut_in p.0) (cuts_of p.1.layout p.1.bytes p.1.parts)

own_least : (g : ShownFile) (c : Cut) → own_cut g ≡ Some c → IsLeastOne (cuts_of g.layout g.bytes g.parts) c
unfolding cut_of
own_least g c is = subst (λ (o : Option Cut). IfSome o (λ cut. IsLeastOne (cuts_of g.layout g.bytes g.parts) cut)) is (when_some (cuts_of g.layout g.bytes g.parts))

own_none : (g : ShownFile) → own_cut g ≡ None → cuts_of g.layout g.bytes g.parts ≡ []
unfolding cut_of
own_none g is = subst (λ (o : Option Cut). IfNone o (cuts_of g.layout g.bytes g.parts ≡ [])) is (when_none (cuts_of g.layout g.bytes g.parts))

has_contains : (a : FileCut) (files : List (ℕ × ShownFile)) → Has a files → Contains (flat_map cuts_in files) a
has_contains a [] h = absurd h
has_contains a (p ∷ files) h = elim h [
  | inl here ↦
      let one : Contains (cuts_in p) (cut_in p.0 a.cut) = contains_mapped (cut_in p.0) a.cut (cuts_of p.1.layout p.1.bytes p.1.parts) (own_least p.1 a.cut here.1).one in
      Contains-append_left (cuts_in p) (flat_map cuts_in files) a (subst (Contains (cuts_in p)) here.0 one)
  | inr rest ↦ Contains-append_right (cuts_in p) (flat_map cuts_in files) a (has_contains a files rest)
]

-- which of two cuts is the sooner, in numbers
before_less : (x : Option ℕ) (f : ℕ) (y : Option ℕ) (g : ℕ) → is_before x f y g ≡ true → (rank x < rank y) ⊎ ((rank x ≡ rank y) × (f < g))
before_less None f None g e = inr (refl, ltb-true f g e)
before_less None f (Some y) g e = inl (omega arith)
before_less (Some x) f None g e = absurd cc
before_less (Some x) f (Some y) g e = elim (cases_Bool (ltb x y)) [
  | inl a ↦ let lt = ltb-true x y a in inl (omega (arith, lt))
  | inr a ↦
      let both : (eqb x y && ltb f g) ≡ true = rw a at e in
      let parts = and_parts _ _ both in
      let same : x ≡ y = eqb-true x y parts.0 in
      inr (ap (λ (k : ℕ). k + 1) same, ltb-true f g parts.1)
]

not_before : (x : Option ℕ) (f : ℕ) (y : Option ℕ) (g : ℕ) → (is_before x f y g ≡ true → ⊥) → (rank y < rank x) ⊎ ((rank y ≡ rank x) × (g ≤ f))
not_before None f None g h = elim (cases_order f g) [
  | inl same ↦ inr (refl, omega (arith, same))
  | inr o ↦ elim o [ inl lt ↦ absurd (h (lt-ltb f g lt)) | inr gt ↦ inr (refl, omega (arith, gt)) ]
]
not_before None f (Some y) g h = absurd (h refl)
not_before (Some x) f None g h = inl (omega arith)
not_before (Some x) f (Some y) g h = elim (cases_order x y) [
  | inl same ↦
      let a : ltb x y ≡ false = le-ltb _ _ (omega (arith, same)) in
      let b : eqb x y ≡ true = eq-eqb _ _ same in
      elim (cases_order f g) [
        | inl e ↦ inr (omega (arith, same), omega (arith, e))
        | inr o ↦ elim o [
          | inl lt ↦ let c : ltb f g ≡ true = lt-ltb _ _ lt in absurd (h (rw (a, b, c) refl))
          | inr gt ↦ inr (omega (arith, same), omega (arith, gt))
        ]
      ]
  | inr o ↦ elim o [
    | inl lt ↦ let a : ltb x y ≡ true = lt-ltb _ _ lt in absurd (h (rw a refl))
    | inr gt ↦ inl (omega (arith, gt))
  ]
]

-- no cut of a file is sooner than one that fits the file
not_sooner_than : (a : FileCut) (n : ℕ) (w c : Cut) → Fits (Some a) n (Some w) → (is_earlier c w ≡ true → ⊥) → is_sooner (cut_in n c) a ≡ true → ⊥
not_sooner_than a n w c fits not_earlier e = elim (or_parts _ _ e) [
  | inl first ↦ elim (before_less c.key n a.cut.key a.file first) [
    | inl less ↦ elim fits.no_later [
      | inl p ↦ elim own [ inl q ↦ omega (arith, less, p, q) | inr q ↦ omega (arith, less, p, q.0) ]
      | inr p ↦ elim own [ inl q ↦ omega (arith, less, p.0, q) | inr q ↦ omega (arith, less, p.0, q.0) ]
    ]
    | inr same ↦ elim fits.no_later [
      | inl p ↦ elim own [ inl q ↦ omega (arith, same.0, p, q) | inr q ↦ omega (arith, same.0, p, q.0) ]
      | inr p ↦ omega (arith, same.1, p.1)
    ]
  ]
  | inr second ↦
      let parts = and_parts _ _ second in
      let rest = and_parts _ _ parts.1 in
      let same_file : n ≡ a.file = eqb-true n a.file rest.0 in
      let less : c.cpu < a.cut.cpu = ltb-true c.cpu a.cut.cpu rest.1 in
      let is : w ≡ a.cut = some_one (fits.same same_file) in
      let keys : rank c.key ≡ rank a.cut.key = together c.key a.cut.key parts.0 in
      let key : rank w.key ≡ rank a.cut.key = ap (λ (x : Cut). rank x.key) is in
      let cpu : w.cpu ≡ a.cut.cpu = ap (λ (x : Cut). x.cpu) is in
      elim own [ inl q ↦ omega (arith, q, keys, key) | inr q ↦ omega (arith, q.1, less, cpu) ]
]
  where
    own : (rank w.key < rank c.key) ⊎ ((rank w.key ≡ rank c.key) × (w.cpu ≤ c.cpu))
    own = not_before c.key c.cpu w.key w.cpu not_earlier

    some_one : Some w ≡ Some a.cut → w ≡ a.cut
    some_one e = cc

    or_parts : (x y : Bool) → (x || y) ≡ true → (x ≡ true) ⊎ (y ≡ true)
    or_parts true y e = inl refl
    or_parts false y e = inr e

    together : (x y : Option ℕ) → are_together x y ≡ true → rank x ≡ rank y
    together None None e = refl
    together None (Some y) e = absurd cc
    together (Some x) None e = absurd cc
    together (Some x) (Some y) e = ap (λ (k : ℕ). k + 1) (eqb-true x y e)

abbrev IsNoSooner : FileCut → FileCut → Type 0
IsNoSooner a c = is_sooner c a ≡ true → ⊥

none_sooner : (a : FileCut) (files : List (ℕ × ShownFile)) → All (FitsFile (Some a)) files → All (IsNoSooner a) (flat_map cuts_in files)
none_sooner a [] h = All-nil (IsNoSooner a)
none_sooner a (p ∷ files) h =
    All-append (IsNoSooner a) (cuts_in p) (flat_map cuts_in files) (by (own_cut p.1) refl (All-head (FitsFile (Some a)) p files h)) (none_sooner a files (All-tail (FitsFile (Some a)) p files h))
  where
    cuts : List Cut
    cuts = cuts_of p.1.layout p.1.bytes p.1.parts

    by : (own : Option Cut) → own_cut p.1 ≡ own → Fits (Some a) p.0 (own_cut p.1) → All (IsNoSooner a) (cuts_in p)
    by None is fits = subst (λ (cs : List Cut). All (IsNoSooner a) (map (cut_in p.0) cs)) (sym (own_none p.1 is)) (All-nil (IsNoSooner a))
    by (Some w) is fits = All-map (IsNoSooner a) (cut_in p.0) cuts (λ i d lt.
        not_sooner_than a p.0 w (get_or cuts i d) (subst (Fits (Some a) p.0) is fits) ((own_least p.1 w is).least i d lt))

pub least_is : (files : List ShownFile) → IfSome (cut_of_files files) (IsLeast (all_cuts files))
unfolding cut_of_files
least_is files = by (cut_of_files files) refl
  where
    found : (a : FileCut) → cut_of_files files ≡ Some a → Has a (numbered files)
    found a is = elim (folded_has a None (numbered files) is) [ inl never ↦ absurd cc | inr has ↦ has ]

    by : (o : Option FileCut) → cut_of_files files ≡ o → IfSome o (IsLeast (all_cuts files))
    by None is = tt
    by (Some a) is = record {
      one = has_contains a (numbered files) (found a is);
      least = none_sooner a (numbered files) (subst (λ (o : Option FileCut). All (FitsFile o) (numbered files)) is (fits_of files));
    }

pub none_cut : (files : List ShownFile) → cut_of_files files ≡ None → all_cuts files ≡ []
none_cut files is = all_none (numbered files) (subst (λ (o : Option FileCut). All (FitsFile o) (numbered files)) is (fits_of files))
  where
    all_none : (files : List (ℕ × ShownFile)) → All (FitsFile None) files → flat_map cuts_in files ≡ []
    all_none [] h = refl
    all_none (p ∷ files) h =
        ap (λ (cs : List Cut). map (cut_in p.0) cs ++ flat_map cuts_in files) (own_none p.1 (All-head (FitsFile None) p files h).none)
        ∙ all_none files (All-tail (FitsFile None) p files h)
