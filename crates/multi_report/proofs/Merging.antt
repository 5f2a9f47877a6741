-- The reached items of all files are the reached items of each, merged.
use Rattle.std.proofs.Common.{◌≡◌, ℕ, ◌+◌, ◌<◌, ◌≤◌, Bool, true, false, ltb, leb, eqb, ◌&&◌, List, [], ◌∷◌, ◌++◌, map, get_or, Option, Some, None, refl, sym, ap, subst, ◌∙◌, ◌⊎◌, inl, inr, arith}
use Rattle.std.specs.Option.{IfSome, IfNone, option_map}
use Rattle.std.specs.List.{All, filter, filter_map, fold, cons_option, flat_map}
use Rattle.std.proofs.lemmas.Bool.{lt-ltb, le-ltb, le-leb, lt-leb, eq-eqb, ne_eqb, ltb-false, cases_Bool, cases_order}
use Rattle.std.proofs.lemmas.List.Elements.{All-nil, All-cons, All-head, All-tail, filter_agree}
use Rattle.subpage.specs.Arrangement.{Keyed, key_of, with_key, by_key, all_keyed, arranged as arranged_one}
use Rattle.subpage.specs.Cut.{Cut, is_before, earlier, is_up_to as is_up_to_one, lists_of, reached_of}
use Rattle.subpage.proofs.Arranging.{one_rising, by_key-rising, by_key-with_key}
use Rattle.subpage.proofs.Filters.{filter-yes, filter-not, filter-filter, filter-append, filter-rising}
use Rattle.time_merge.specs.Rows.{Row, rank, up_to, up_to_key, least_cut, together}
use Rattle.multi_report.specs.Order.{ShownFile, FileItem, FileCut, in_file, cut_in, key_in, file_in, numbered, numbered_from, items_of, arranged, own_cut, own_cut_in, sooner, cut_of_files, is_up_to, reached}
use Rattle.multi_report.specs.Merge.{row_cut, file_row, merged}

-- filters of lists that were made by a function, or joined
pub filter_mapped : {X Y : Type 0} (p : Y → Bool) (f : X → Y) (xs : List X) → filter p (map f xs) ≡ map f (filter (λ x. p (f x)) xs)
filter_mapped p f [] = refl
filter_mapped p f (x ∷ xs) = elim (cases_Bool (p (f x))) [
  | inl a ↦ filter-yes p (f x) (map f xs) a ∙ ap (λ ys. f x ∷ ys) (filter_mapped p f xs) ∙ ap (map f) (sym (filter-yes (λ x. p (f x)) x xs a))
  | inr a ↦ filter-not p (f x) (map f xs) a ∙ filter_mapped p f xs ∙ ap (map f) (sym (filter-not (λ x. p (f x)) x xs a))
]

filter_flat : {X Y : Type 0} (p : Y → Bool) (f : X → List Y) (xs : List X) → filter p (flat_map f xs) ≡ flat_map (λ x. filter p (f x)) xs
filter_flat p f [] = refl
filter_flat p f (x ∷ xs) = filter-append p (f x) (flat_map f xs) ∙ ap (λ ys. filter p (f x) ++ ys) (filter_flat p f xs)

filter_twice : {X : Type 0} (p q : X → Bool) (xs : List X) → filter p (filter q xs) ≡ filter (λ x. p x && q x) xs
filter_twice p q [] = refl
filter_twice p q (x ∷ xs) = elim (cases_Bool (q x)) [
  | inl b ↦ elim (cases_Bool (p x)) [
    | inl a ↦
        let both : (p x && q x) ≡ true = rw (a, b) refl in
        ap (filter p) (filter-yes q x xs b) ∙ filter-yes p x (filter q xs) a ∙ ap (λ ys. x ∷ ys) (filter_twice p q xs) ∙ sym (filter-yes (λ x. p x && q x) x xs both)
    | inr a ↦
        let both : (p x && q x) ≡ false = rw a refl in
        ap (filter p) (filter-yes q x xs b) ∙ filter-not p x (filter q xs) a ∙ filter_twice p q xs ∙ sym (filter-not (λ x. p x && q x) x xs both)
  ]
  | inr b ↦
      let both : (p x && q x) ≡ false = elim (cases_Bool (p x)) [ inl a ↦ rw (a, b) refl | inr a ↦ rw a refl ] in
      ap (filter p) (filter-not q x xs b) ∙ filter_twice p q xs ∙ sym (filter-not (λ x. p x && q x) x xs both)
]

flat_same : {X Y : Type 0} (f g : X → List Y) (xs : List X) → All (λ x. f x ≡ g x) xs → flat_map f xs ≡ flat_map g xs
flat_same f g [] h = refl
flat_same f g (x ∷ xs) h =
    ap (λ ys. ys ++ flat_map f xs) (All-head (λ y. f y ≡ g y) x xs h)
    ∙ ap (λ ys. g x ++ ys) (flat_same f g xs (All-tail (λ y. f y ≡ g y) x xs h))

-- which of two cuts of two files is the sooner
before_true : (x : Option ℕ) (f : ℕ) (y : Option ℕ) (g : ℕ) → g < f → is_before x f y g ≡ true → rank x < rank y
before_true None f None g lt e = let a : ltb f g ≡ false = le-ltb f g (omega arith) in let never : false ≡ true = sym a ∙ e in absurd cc
before_true None f (Some y) g lt e = omega arith
before_true (Some x) f None g lt e = absurd cc
before_true (Some x) f (Some y) g lt e = elim (cases_order x y) [
  | inl same ↦
      let a : ltb x y ≡ false = le-ltb x y (omega arith) in
      let b : ltb f g ≡ false = le-ltb f g (omega arith) in
      let c : eqb x y ≡ true = eq-eqb x y same in
      let never : false ≡ true = rw (a, c, b) at e in
      absurd cc
  | inr o ↦ elim o [
    | inl less ↦ omega arith
    | inr more ↦
        let a : ltb x y ≡ false = le-ltb x y (omega arith) in
        let c : eqb x y ≡ false = ne_eqb x y (λ s. omega arith) in
        let never : false ≡ true = rw (a, c) at e in
        absurd cc
  ]
]

before_false : (x : Option ℕ) (f : ℕ) (y : Option ℕ) (g : ℕ) → is_before x f y g ≡ false → rank y ≤ rank x
before_false None f None g e = omega arith
before_false None f (Some y) g e = absurd cc
before_false (Some x) f None g e = omega arith
before_false (Some x) f (Some y) g e = elim (cases_Bool (ltb x y)) [
  | inl a ↦ let never : true ≡ false = rw a at e in absurd cc
  | inr a ↦ let le = ltb-false x y a in omega arith
]

-- A cut that is the least fits each file: where there is none the file has none, it is not after the file's own, and it
-- is the file's own where it is of that file.
pub record Fits (o : Option FileCut) (n : ℕ) (own : Option Cut) : Type 0 where
  pub none : IfNone o (own ≡ None)
  pub no_later : IfSome o (λ a. IfSome own (λ c. (rank a.cut.key < rank c.key) ⊎ ((rank a.cut.key ≡ rank c.key) × (a.file ≤ n))))
  pub same : IfSome o (λ a. n ≡ a.file → own ≡ Some a.cut)

abbrev pub FitsFile : Option FileCut → ℕ × ShownFile → Type 0
FitsFile o p = Fits o p.0 (own_cut p.1)

abbrev Below : ℕ → Option FileCut → Type 0
Below n o = IfSome o (λ a. a.file < n)

abbrev pub after : Option FileCut → ℕ → Option Cut → Option FileCut
after o n None = o
after o n (Some c) = sooner o (cut_in n c)

pub after_is : (o : Option FileCut) (n : ℕ) (own : Option Cut) (xs : List FileCut) → fold sooner o (cons_option (option_map (cut_in n) own) xs) ≡ fold sooner (after o n own) xs
after_is o n None xs = refl
after_is o n (Some c) xs = refl

below_after : (o : Option FileCut) (n : ℕ) (own : Option Cut) → Below n o → Below (n + 1) (after o n own)
below_after None n None b = tt
below_after (Some a) n None b = omega arith
below_after None n (Some c) b = omega arith
below_after (Some a) n (Some c) b = elim (cases_Bool (is_before c.key n a.cut.key a.file)) [ inl t ↦ rw t (omega arith) | inr t ↦ rw t (omega arith) ]

-- the file that a cut comes from
fits_here : (o : Option FileCut) (n : ℕ) (own : Option Cut) → Below n o → Fits (after o n own) n own
fits_here None n None b = record { none = refl; no_later = tt; same = tt }
fits_here (Some a) n None b = record { none = tt; no_later = tt; same = λ e. absurd (omega arith) }
fits_here None n (Some c) b = record { none = tt; no_later = inr (refl, omega arith); same = λ e. refl }
fits_here (Some a) n (Some c) b = elim (cases_Bool (is_before c.key n a.cut.key a.file)) [
  | inl t ↦ rw t (record { none = tt; no_later = inr (refl, omega arith); same = λ e. refl })
  | inr t ↦ rw t (record {
    none = tt;
    no_later = no_later (before_false c.key n a.cut.key a.file t);
    same = λ e. absurd (omega arith);
  })
]
  where
    no_later : rank a.cut.key ≤ rank c.key → (rank a.cut.key < rank c.key) ⊎ ((rank a.cut.key ≡ rank c.key) × (a.file ≤ n))
    no_later le = elim (cases_order (rank a.cut.key) (rank c.key)) [
      | inl e ↦ inr (e, omega arith)
      | inr o ↦ elim o [ inl lt ↦ inl lt | inr gt ↦ absurd (omega arith) ]
    ]

-- a file before
fits_still : (o : Option FileCut) (n m : ℕ) (own_n own : Option Cut) → m < n → Below n o → Fits o m own → Fits (after o n own_n) m own
fits_still o n m None own lt b f = f
fits_still None n m (Some c) own lt b f = record { none = tt; no_later = subst (λ (w : Option Cut). IfSome w (λ d. (rank c.key < rank d.key) ⊎ ((rank c.key ≡ rank d.key) × (n ≤ m)))) (sym f.none) tt; same = λ e. absurd (omega arith) }
fits_still (Some a) n m (Some c) own lt b f = elim (cases_Bool (is_before c.key n a.cut.key a.file)) [
  | inl t ↦ rw t (record { none = tt; no_later = sooner_still own f.no_later (before_true c.key n a.cut.key a.file b t); same = λ e. absurd (omega arith) })
  | inr t ↦ rw t f
]
  where
    sooner_still : (w : Option Cut) → IfSome w (λ d. (rank a.cut.key < rank d.key) ⊎ ((rank a.cut.key ≡ rank d.key) × (a.file ≤ m))) → rank c.key < rank a.cut.key
        → IfSome w (λ d. (rank c.key < rank d.key) ⊎ ((rank c.key ≡ rank d.key) × (n ≤ m)))
    sooner_still None h lt = tt
    sooner_still (Some d) h lt = inl (elim h [ inl less ↦ omega arith | inr same ↦ omega (arith, same.0) ])

abbrev pub folded : Option FileCut → List (ℕ × ShownFile) → Option FileCut
folded o files = fold sooner o (filter_map own_cut_in files)

-- the least of the files' cuts fits each of them
record FitTo (r : Option FileCut) (n : ℕ) (o : Option FileCut) (files : List ShownFile) : Type 0 where
  here : All (FitsFile r) (numbered_from n files)
  still : (m : ℕ) (own : Option Cut) → m < n → Fits o m own → Fits r m own

fit_all : (n : ℕ) (o : Option FileCut) (files : List ShownFile) → Below n o → FitTo (folded o (numbered_from n files)) n o files
fit_all n o [] b = record { here = All-nil (FitsFile o); still = λ m own lt f. f }
fit_all n o (g ∷ files) b =
    let own = own_cut g in
    let next = after o n own in
    let rest = fit_all (n + 1) next files (below_after o n own b) in
    let same : folded next (numbered_from (n + 1) files) ≡ folded o (numbered_from n (g ∷ files)) = sym (after_is o n own (filter_map own_cut_in (numbered_from (n + 1) files))) in
    subst (λ (r : Option FileCut). FitTo r n o (g ∷ files)) same (record {
      here = All-cons (FitsFile (folded next (numbered_from (n + 1) files))) (n, g) (numbered_from (n + 1) files) (rest.still n own (omega arith) (fits_here o n own b)) rest.here;
      still = λ m w lt f. rest.still m w (omega arith) (fits_still o n m own w lt b f);
    })

-- the same cut over rows
abbrev pub mark : FileCut → Cut
mark a = row_cut a.file a.cut

folded_rows : (o : Option FileCut) (files : List (ℕ × ShownFile)) → fold earlier (option_map mark o) (filter_map (λ (r : Row FileItem). r.cut) (map file_row files)) ≡ option_map mark (folded o files)
folded_rows o [] = refl
folded_rows o (p ∷ files) = one (own_cut p.1) (λ w. folded_rows w files)
  where
    rows : List Cut
    rows = filter_map (λ (r : Row FileItem). r.cut) (map file_row files)

    both : (o : Option FileCut) (c : Cut) → earlier (option_map mark o) (row_cut p.0 c) ≡ option_map mark (sooner o (cut_in p.0 c))
    both None c = refl
    both (Some a) c = elim (cases_Bool (is_before c.key p.0 a.cut.key a.file)) [ inl t ↦ rw t refl | inr t ↦ rw t refl ]

    one : (own : Option Cut) → ((w : Option FileCut) → fold earlier (option_map mark w) rows ≡ option_map mark (folded w files)) → fold earlier (option_map mark o) (cons_option (option_map (row_cut p.0) own) rows) ≡ option_map mark (fold sooner o (cons_option (option_map (cut_in p.0) own) (filter_map own_cut_in files)))
    one None rest = rest o
    one (Some c) rest = ap (λ (w : Option Cut). fold earlier w rows) (both o c) ∙ rest (sooner o (cut_in p.0 c))

-- An item of a file is reached where it is reached in its file, and where the merge reaches it.
same_reach : (o : Option FileCut) (n : ℕ) (own : Option Cut) (x : Keyed) → Fits o n own
    → is_up_to o (in_file n x) ≡ (up_to (option_map mark o) (key_of x) n && is_up_to_one own x)
same_reach None n own x f = subst (λ (w : Option Cut). true ≡ is_up_to_one w x) (sym f.none) refl
same_reach (Some a) n own x f = at a.cut.key a.cut.cpu a.cut.page a.file own f
  where
    cut_at : Option ℕ → ℕ → ℕ → ℕ → FileCut
    cut_at key cpu page file = record { file = file; cut = record { key = key; cpu = cpu; page = page } }

    -- the item is before the cut of another file
    own_yes : (own : Option Cut) (key : ℕ) → x.key ≤ key → IfSome own (λ c. key + 1 < rank c.key) → is_up_to_one own x ≡ true
    own_yes None key le h = refl
    own_yes (Some c) key le h = by c.key c.cpu c.page h
      where
        by : (k : Option ℕ) (cpu page : ℕ) → key + 1 < rank k → is_up_to_one (Some (record { key = k; cpu = cpu; page = page })) x ≡ true
        by None cpu page h = absurd (omega arith)
        by (Some k) cpu page h = let a : ltb x.key k ≡ true = lt-ltb x.key k (omega arith) in rw a refl

    own_below : (own : Option Cut) (key file : ℕ) → x.key < key → IfSome own (λ c. (key + 1 < rank c.key) ⊎ ((key + 1 ≡ rank c.key) × (file ≤ n))) → is_up_to_one own x ≡ true
    own_below None key file lt h = refl
    own_below (Some c) key file lt h = by c.key c.cpu c.page (elim h [ inl q ↦ omega arith | inr q ↦ omega (arith, q.0) ])
      where
        by : (k : Option ℕ) (cpu page : ℕ) → key + 1 ≤ rank k → is_up_to_one (Some (record { key = k; cpu = cpu; page = page })) x ≡ true
        by None cpu page h = absurd (omega arith)
        by (Some k) cpu page h = let a : ltb x.key k ≡ true = lt-ltb x.key k (omega arith) in rw a refl

    later : (own : Option Cut) (key file : ℕ) → n < file → IfSome own (λ c. (key + 1 < rank c.key) ⊎ ((key + 1 ≡ rank c.key) × (file ≤ n))) → IfSome own (λ c. key + 1 < rank c.key)
    later None key file lt h = tt
    later (Some c) key file lt h = elim h [ inl q ↦ q | inr q ↦ absurd (omega (arith, q.1)) ]

    at : (key : Option ℕ) (cpu page file : ℕ) (own : Option Cut) → Fits (Some (cut_at key cpu page file)) n own
        → is_up_to (Some (cut_at key cpu page file)) (in_file n x) ≡ (up_to_key key file x.key n && is_up_to_one own x)
    at None cpu page file own f = refl
    at (Some key) cpu page file own f = elim (cases_order x.key key) [
      | inl e ↦
          let a : ltb x.key key ≡ false = le-ltb _ _ (omega arith) in
          let b : eqb x.key key ≡ true = eq-eqb _ _ e in
          elim (cases_order n file) [
            | inl same ↦
                let c : ltb n file ≡ false = le-ltb _ _ (omega arith) in
                let d : eqb n file ≡ true = eq-eqb _ _ same in
                let g : leb n file ≡ true = le-leb _ _ (omega arith) in
                let own_is : own ≡ Some (record { key = Some key; cpu = cpu; page = page }) = f.same same in
                rw (own_is, a, b, c, d, g) refl
            | inr o ↦ elim o [
              | inl lt ↦
                  let c : ltb n file ≡ true = lt-ltb _ _ lt in
                  let g : leb n file ≡ true = le-leb _ _ (omega arith) in
                  let yes : is_up_to_one own x ≡ true = own_yes own key (omega arith) (later own key file lt f.no_later) in
                  rw (yes, a, b, c, g) refl
              | inr gt ↦
                  let c : ltb n file ≡ false = le-ltb _ _ (omega arith) in
                  let d : eqb n file ≡ false = ne_eqb _ _ (λ e. omega arith) in
                  let g : leb n file ≡ false = lt-leb _ _ gt in
                  rw (a, b, c, d, g) refl
            ]
          ]
      | inr o ↦ elim o [
        | inl lt ↦
            let a : ltb x.key key ≡ true = lt-ltb _ _ lt in
            let yes : is_up_to_one own x ≡ true = own_below own key file lt f.no_later in
            rw (yes, a) refl
        | inr gt ↦
            let a : ltb x.key key ≡ false = le-ltb _ _ (omega arith) in
            let b : eqb x.key key ≡ false = ne_eqb _ _ (λ e. omega arith) in
            rw (a, b) refl
      ]
    ]

-- the reached items of the rows
abbrev row_items : ℕ × ShownFile → List FileItem
row_items p = map (in_file p.0) (reached_of p.1.layout p.1.bytes p.1.parts)

together_rows : (files : List (ℕ × ShownFile)) → together (map file_row files) ≡ flat_map row_items files
together_rows [] = refl
together_rows (p ∷ files) = ap (λ xs. row_items p ++ xs) (together_rows files)

-- those of a key in one file
module _ (o : Option FileCut) (k : ℕ) where
  abbrev reaches : FileItem → Bool
  reaches x = up_to (option_map mark o) (key_in x) (file_in x)

  one_file : (p : ℕ × ShownFile) → Fits o p.0 (own_cut p.1)
      → filter (is_up_to o) (with_key key_in k (items_of p)) ≡ filter reaches (with_key key_in k (row_items p))
  unfolding reached_of arranged_one
  one_file p f =
      let n = p.0 in
      let all = all_keyed (lists_of p.1.layout p.1.bytes p.1.parts) in
      let own = own_cut p.1 in
      let here = with_key key_of k all in
      let left : filter (is_up_to o) (with_key key_in k (map (in_file n) all)) ≡ map (in_file n) (filter (λ x. is_up_to o (in_file n x)) here) =
      ap (filter (is_up_to o)) (filter_mapped (λ x. eqb (key_in x) k) (in_file n) all) ∙ filter_mapped (is_up_to o) (in_file n) here in
      let right : filter reaches (with_key key_in k (map (in_file n) (filter (is_up_to_one own) (by_key key_of all)))) ≡ map (in_file n) (filter (λ x. up_to (option_map mark o) (key_of x) n && is_up_to_one own x) here) =
      ap (filter reaches) (filter_mapped (λ x. eqb (key_in x) k) (in_file n) (filter (is_up_to_one own) (by_key key_of all)))
      ∙ filter_mapped reaches (in_file n) (with_key key_of k (filter (is_up_to_one own) (by_key key_of all)))
      ∙ ap (λ xs. map (in_file n) (filter (λ x. up_to (option_map mark o) (key_of x) n) xs)) (filter-filter (λ x. eqb (key_of x) k) (is_up_to_one own) (by_key key_of all) ∙ ap (filter (is_up_to_one own)) (by_key-with_key key_of k all))
      ∙ ap (map (in_file n)) (filter_twice (λ x. up_to (option_map mark o) (key_of x) n) (is_up_to_one own) here) in
      left
      ∙ ap (map (in_file n)) (filter_agree (λ x. is_up_to o (in_file n x)) (λ x. up_to (option_map mark o) (key_of x) n && is_up_to_one own x) (λ x. same_reach o n own x f) here)
      ∙ sym right

  all_files : (files : List (ℕ × ShownFile)) → All (FitsFile o) files
      → filter (is_up_to o) (with_key key_in k (flat_map items_of files)) ≡ filter reaches (with_key key_in k (flat_map row_items files))
  all_files files h =
      ap (filter (is_up_to o)) (filter_flat (λ x. eqb (key_in x) k) items_of files)
      ∙ filter_flat (is_up_to o) (λ p. with_key key_in k (items_of p)) files
      ∙ flat_same (λ p. filter (is_up_to o) (with_key key_in k (items_of p))) (λ p. filter reaches (with_key key_in k (row_items p))) files (λ i d lt. one_file (get_or files i d) (h i d lt))
      ∙ sym (filter_flat reaches (λ p. with_key key_in k (row_items p)) files)
      ∙ ap (filter reaches) (sym (filter_flat (λ x. eqb (key_in x) k) row_items files))

  of_key : (test : FileItem → Bool) (xs : List FileItem) → with_key key_in k (filter test (by_key key_in xs)) ≡ filter test (with_key key_in k xs)
  of_key test xs = filter-filter (λ x. eqb (key_in x) k) test (by_key key_in xs) ∙ ap (filter test) (by_key-with_key key_in k xs)

pub cut_of_rows : (files : List ShownFile) → least_cut (map file_row (numbered files)) ≡ option_map mark (cut_of_files files)
unfolding cut_of_files
cut_of_rows files = folded_rows None (numbered files)

pub fits_of : (files : List ShownFile) → All (FitsFile (cut_of_files files)) (numbered files)
unfolding cut_of_files
fits_of files = (fit_all 0 None files tt).here

-- The items of all files up to the least cut are those that each file reaches, merged up to the least cut.
pub reached_merged : (files : List ShownFile) → reached files ≡ merged files
unfolding reached arranged
reached_merged files =
    let ps = numbered files in
    let o = cut_of_files files in
    let test : FileItem → Bool = λ x. up_to (option_map mark o) (key_in x) (file_in x) in
    let fits : All (FitsFile o) ps = fits_of files in
    let all = flat_map items_of ps in
    let rows = flat_map row_items ps in
    one_rising key_in (filter (is_up_to o) (by_key key_in all)) (filter test (by_key key_in rows))
    (filter-rising key_in (is_up_to o) (by_key key_in all) (by_key-rising key_in all))
    (filter-rising key_in test (by_key key_in rows) (by_key-rising key_in rows))
    (λ z. of_key o (key_in z) (is_up_to o) all ∙ all_files o (key_in z) ps fits ∙ sym (of_key o (key_in z) test rows))
    ∙ ap (λ xs. filter test (by_key key_in xs)) (sym (together_rows ps))
    ∙ ap (λ (w : Option Cut). filter (λ x. up_to w (key_in x) (file_in x)) (by_key key_in (together (map file_row ps)))) (sym (cut_of_rows files))
