-- An empty part has no sub-buffer, so that a processor with one adds nothing to what is told of many.
use Rattle.std.proofs.Common.{◌≡◌, ℕ, zero, suc, ◌+◌, ◌<◌, Bool, true, false, List, [], ◌∷◌, ◌++◌, Option, None, refl, sym, ap, ◌∙◌, inl, inr, arith}
use Rattle.std.specs.Prelude.{filter, count_by, sum_by, fold, is_none, cond}
use Rattle.std.specs.Int.{div_ceil}
use Rattle.std.specs.List.{position_from, range_with_len}
use Rattle.std.specs.Option.{option_map}
use Rattle.std.proofs.lemmas.Bool.{cases_Bool, ltb-false}
use Rattle.std.proofs.lemmas.List.Sums.{sum_by-cons}
use Rattle.trace_base.specs.declared.layout.Layout.{Layout}
use Rattle.trace_base.specs.declared.part.Part.{Part}
use Rattle.subpage.specs.Processor.{joined, page_count, pages_from, list_of, bad_of}
use Rattle.subpage.specs.Arrangement.{Keyed, keyed_from, all_keyed, key_of, by_key, arranged, CpusRise}
use Rattle.subpage.specs.Cut.{Cut, last_key, own_cut, cuts_of, cut_of, earlier, is_up_to, lists_of, reached_of}
use Rattle.subpage.specs.WithBytes.{has_bytes, with_bytes}
use Rattle.subpage.proofs.Filters.{filter-yes, filter-not}

no_pages : (page : ℕ) → div_ceil 0 page ≡ 0
no_pages zero = refl
no_pages (suc page) = omega arith

empty : (part : ℕ × Part) → has_bytes part ≡ false → part.1.size ≡ 0
empty part e = omega (arith, ltb-false 0 part.1.size e)

module _ (layout : Layout) (file : List ℕ) where
  pub none_counted : (part : Part) → part.size ≡ 0 → page_count layout part ≡ 0
  none_counted part none = ap (λ (n : ℕ). div_ceil n layout.page) none ∙ no_pages layout.page

  no_page : (part : Part) → part.size ≡ 0 → pages_from layout file part 0 (page_count layout part) ≡ []
  no_page part none = ap (pages_from layout file part 0) (none_counted part none)

  no_item : (part : Part) → part.size ≡ 0 → list_of layout file part ≡ []
  unfolding list_of
  no_item part none = ap joined (no_page part none)

  none_malformed : (part : Part) → part.size ≡ 0 → bad_of layout file part ≡ None
  unfolding bad_of
  none_malformed part none = ap (position_from is_none 0) (no_page part none)

  no_cut : (part : ℕ × Part) → has_bytes part ≡ false → own_cut layout file part ≡ None
  no_cut part e =
      ap (option_map (λ (page : ℕ). record { key = last_key (list_of layout file part.1); cpu = part.0; page = page })) (none_malformed part.1 (empty part e))

  no_key : (part : ℕ × Part) → has_bytes part ≡ false → keyed_from part.0 0 (list_of layout file part.1) ≡ []
  no_key part e = ap (keyed_from part.0 0) (no_item part.1 (empty part e))

  pub cuts_same : (parts : List (ℕ × Part)) → cuts_of layout file (with_bytes parts) ≡ cuts_of layout file parts
  cuts_same [] = refl
  cuts_same (part ∷ parts) = elim (cases_Bool (has_bytes part)) as (λ _. cuts_of layout file (with_bytes (part ∷ parts)) ≡ cuts_of layout file (part ∷ parts)) [
    | inl some ↦ ap (cuts_of layout file) (filter-yes has_bytes part parts some) ∙ cuts_of_front part (with_bytes parts) parts (cuts_same parts)
    | inr none ↦ ap (cuts_of layout file) (filter-not has_bytes part parts none) ∙ cuts_same parts ∙ cuts_without part parts (no_cut part none)
  ]
    where
      cuts_of_front : (part : ℕ × Part) (xs ys : List (ℕ × Part)) → cuts_of layout file xs ≡ cuts_of layout file ys → cuts_of layout file (part ∷ xs) ≡ cuts_of layout file (part ∷ ys)
      cuts_of_front part xs ys e = rw e refl

      cuts_without : (part : ℕ × Part) (xs : List (ℕ × Part)) → own_cut layout file part ≡ None → cuts_of layout file xs ≡ cuts_of layout file (part ∷ xs)
      cuts_without part xs e = rw e refl

  pub keyed_same : (parts : List (ℕ × Part)) → all_keyed (lists_of layout file (with_bytes parts)) ≡ all_keyed (lists_of layout file parts)
  keyed_same [] = refl
  keyed_same (part ∷ parts) = elim (cases_Bool (has_bytes part)) as (λ _. all_keyed (lists_of layout file (with_bytes (part ∷ parts))) ≡ all_keyed (lists_of layout file (part ∷ parts))) [
    | inl some ↦
        ap (λ (ps : List (ℕ × Part)). all_keyed (lists_of layout file ps)) (filter-yes has_bytes part parts some)
        ∙ ap (λ (xs : List Keyed). keyed_from part.0 0 (list_of layout file part.1) ++ xs) (keyed_same parts)
    | inr none ↦
        ap (λ (ps : List (ℕ × Part)). all_keyed (lists_of layout file ps)) (filter-not has_bytes part parts none) ∙ keyed_same parts
        ∙ ap (λ (xs : List Keyed). xs ++ all_keyed (lists_of layout file parts)) (sym (no_key part none))
  ]

  pub cut_same : (parts : List (ℕ × Part)) → cut_of layout file (with_bytes parts) ≡ cut_of layout file parts
  unfolding cut_of
  cut_same parts = ap (fold earlier None) (cuts_same parts)

  arranged_same : (parts : List (ℕ × Part)) → arranged (lists_of layout file (with_bytes parts)) ≡ arranged (lists_of layout file parts)
  unfolding arranged
  arranged_same parts = ap (by_key key_of) (keyed_same parts)

  pub reached_same : (parts : List (ℕ × Part)) → reached_of layout file (with_bytes parts) ≡ reached_of layout file parts
  unfolding reached_of
  reached_same parts =
      ap (λ (cut : Option Cut). filter (is_up_to cut) (arranged (lists_of layout file (with_bytes parts)))) (cut_same parts)
      ∙ ap (filter (is_up_to (cut_of layout file parts))) (arranged_same parts)

abbrev Above : {X : Type 0} → ℕ → List (ℕ × X) → Type 0
Above n [] = Unit {0}
Above n (x ∷ xs) = n < x.0

module _ {X : Type 0} (p : ℕ × X → Bool) where
  first_above : (x : ℕ × X) (xs : List (ℕ × X)) → CpusRise (x ∷ xs) → Above x.0 xs
  first_above x [] r = tt
  first_above x (y ∷ ys) r = r.0

  behind_first : (x : ℕ × X) (xs : List (ℕ × X)) → CpusRise (x ∷ xs) → CpusRise xs
  behind_first x [] r = tt
  behind_first x (y ∷ ys) r = r.1

  in_front : (x : ℕ × X) (xs : List (ℕ × X)) → Above x.0 xs → CpusRise xs → CpusRise (x ∷ xs)
  in_front x [] above r = tt
  in_front x (y ∷ ys) above r = (above, r)

  lower : (n m : ℕ) (xs : List (ℕ × X)) → n < m → Above m xs → Above n xs
  lower n m [] lt above = tt
  lower n m (x ∷ xs) lt above = omega (arith, lt, above)

  left_rise : (n : ℕ) (xs : List (ℕ × X)) → Above n xs → CpusRise xs → Above n (filter p xs) × CpusRise (filter p xs)
  left_rise n [] above r = (tt, tt)
  left_rise n (x ∷ xs) above r = by_test (p x) (left_rise x.0 xs (first_above x xs r) (behind_first x xs r))
    where
      by_test : (b : Bool) → Above x.0 (filter p xs) × CpusRise (filter p xs) → Above n (cond b (x ∷ filter p xs) (filter p xs)) × CpusRise (cond b (x ∷ filter p xs) (filter p xs))
      by_test true rest = (above, in_front x (filter p xs) rest.0 rest.1)
      by_test false rest = (lower n x.0 (filter p xs) above rest.0, rest.1)

  -- the numbers of those that are left rise
  pub filter-rise : (xs : List (ℕ × X)) → CpusRise xs → CpusRise (filter p xs)
  filter-rise [] r = tt
  filter-rise (x ∷ xs) r = by_test (p x) (left_rise x.0 xs (first_above x xs r) (behind_first x xs r))
    where
      by_test : (b : Bool) → Above x.0 (filter p xs) × CpusRise (filter p xs) → CpusRise (cond b (x ∷ filter p xs) (filter p xs))
      by_test true rest = in_front x (filter p xs) rest.0 rest.1
      by_test false rest = rest.1

pub rise_same : (parts : List (ℕ × Part)) → CpusRise parts → CpusRise (with_bytes parts)
rise_same parts r = filter-rise has_bytes parts r

-- what no empty part has is had by all together as by the others
pub sum_same : (f : ℕ × Part → ℕ) (parts : List (ℕ × Part)) → ((part : ℕ × Part) → part.1.size ≡ 0 → f part ≡ 0) → sum_by f (with_bytes parts) ≡ sum_by f parts
sum_same f [] none = refl
sum_same f (part ∷ parts) none = elim (cases_Bool (has_bytes part)) as (λ _. sum_by f (with_bytes (part ∷ parts)) ≡ sum_by f (part ∷ parts)) [
  | inl some ↦
      ap (sum_by f) (filter-yes has_bytes part parts some) ∙ sum_by-cons f part (with_bytes parts) ∙ ap (λ (n : ℕ). f part + n) (sum_same f parts none)
      ∙ sym (sum_by-cons f part parts)
  | inr e ↦
      let here : f part ≡ 0 = none part (empty part e) in
      ap (sum_by f) (filter-not has_bytes part parts e) ∙ omega (arith, sum_same f parts none, sum_by-cons f part parts, here)
]

-- how many sub-buffers pass a test that depends on the reached items
pub passing_same : {X : Type 0} (layout : Layout) (file : List ℕ) (seen : List Keyed → X) (test : X → ℕ × Part → ℕ → Bool) (parts : List (ℕ × Part))
    → sum_by (λ part. count_by (test (seen (reached_of layout file (with_bytes parts))) part) (range_with_len 0 (page_count layout part.1))) (with_bytes parts)
    ≡ sum_by (λ part. count_by (test (seen (reached_of layout file parts)) part) (range_with_len 0 (page_count layout part.1))) parts
passing_same layout file seen test parts =
    let count : List Keyed → ℕ × Part → ℕ = λ xs part. count_by (test (seen xs) part) (range_with_len 0 (page_count layout part.1)) in
    ap (λ (xs : List Keyed). sum_by (count xs) (with_bytes parts)) (reached_same layout file parts)
    ∙ sum_same (count (reached_of layout file parts)) parts (λ part none. ap (λ (n : ℕ). count_by (test (seen (reached_of layout file parts)) part) (range_with_len 0 n)) (none_counted layout file part.1 none))
