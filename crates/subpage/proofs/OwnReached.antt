-- All items of the cut's own processor are reached.
use Rattle.std.proofs.Common.{◌≡◌, ℕ, zero, suc, ◌<◌, ◌≤◌, ◌⊎◌, max, true, eqb, List, [], ◌∷◌, length, map, Option, Some, None, refl, sym, ap, subst, ◌∙◌, inl, inr, arith}
use Rattle.std.specs.Prelude.{slice_index_or}
use Rattle.std.specs.Option.{IfSome}
use Rattle.std.specs.List.{filter, fold, Contains, cons_option}
use Rattle.std.proofs.lemmas.Bool.{cases_order}
use Rattle.trace_base.specs.declared.layout.Layout.{Layout}
use Rattle.trace_base.specs.declared.part.Part.{Part}
use Rattle.subpage.specs.ItemData.{ItemData, item_time}
use Rattle.subpage.specs.Processor.{list_of, bad_of}
use Rattle.subpage.specs.Arrangement.{Keyed, cpu_of, keyed_from, all_keyed, CpusRise, with_key, arranged}
use Rattle.subpage.specs.Cut.{Cut, last_key, own_cut, cuts_of, is_up_to, cut_of, lists_of, reached_of, IsLeast}
use Rattle.subpage.proofs.Steps.{option_cases, option_map_some}
use Rattle.subpage.proofs.Filters.{filter-yes, filter-filter}
use Rattle.subpage.proofs.Arranged.{Above, above_next, rise_next, above_further, with_cpu-own, with_cpu-other, arranged_is}
use Rattle.subpage.proofs.Cuts.{when_some}
use Rattle.subpage.proofs.Reaching.{reaches-true, lists_rise}

fold-max : (high : ℕ) (ns : List ℕ) → high ≤ fold max high ns
fold-max high [] = omega arith
fold-max high (n ∷ ns) = let further : max high n ≤ fold max (max high n) ns = fold-max (max high n) ns in omega arith

abbrev cut_at : Option ℕ → ℕ → ℕ → Cut
cut_at key cpu page = record { key = key; cpu = cpu; page = page }

not_past : (x y : ℕ) → x ≤ y → (cpu : ℕ) → (x < y) ⊎ ((x ≡ y) × (cpu ≤ cpu))
not_past x y le cpu = elim (cases_order x y) [
  | inl e ↦ inr (e, omega arith)
  | inr o ↦ elim o [ inl lt ↦ inl lt | inr gt ↦ absurd (omega arith) ]
]

-- keys that do not pass the greatest time
up_to_greatest : (cpu page high key : ℕ) (xs : List ItemData) → fold max high (map item_time xs) ≤ key
    → filter (is_up_to (Some (cut_at (Some key) cpu page))) (keyed_from cpu high xs) ≡ keyed_from cpu high xs
up_to_greatest cpu page high key [] le = refl
up_to_greatest cpu page high key (x ∷ xs) le =
    let first : Keyed = record { key = max high (item_time x); cpu = cpu; item = x } in
    let further : max high (item_time x) ≤ fold max (max high (item_time x)) (map item_time xs) = fold-max (max high (item_time x)) (map item_time xs) in
    let reached : is_up_to (Some (cut_at (Some key) cpu page)) first ≡ true = reaches-true (max high (item_time x)) cpu key cpu (not_past (max high (item_time x)) key (omega arith) cpu) in
    filter-yes (is_up_to (Some (cut_at (Some key) cpu page))) first (keyed_from cpu (max high (item_time x)) xs) reached
    ∙ ap (λ (ys : List Keyed). first ∷ ys) (up_to_greatest cpu page (max high (item_time x)) key xs le)

up_to_last : (cpu page : ℕ) (xs : List ItemData) → filter (is_up_to (Some (cut_at (last_key xs) cpu page))) (keyed_from cpu 0 xs) ≡ keyed_from cpu 0 xs
up_to_last cpu page [] = refl
up_to_last cpu page (x ∷ xs) =
    let first : max 0 (item_time x) ≡ item_time x = omega arith in
    let same : fold max 0 (map item_time (x ∷ xs)) ≡ fold max (item_time x) (map item_time xs) = ap (λ n. fold max n (map item_time xs)) first in
    up_to_greatest cpu page 0 (fold max (item_time x) (map item_time xs)) (x ∷ xs) (omega arith)

contains_cases : (d cut : Cut) (ds : List Cut) (k : ℕ) → k < length (d ∷ ds) → slice_index_or (d ∷ ds) k cut ≡ cut → (d ≡ cut) ⊎ Contains ds cut
contains_cases d cut ds zero lt e = inl e
contains_cases d cut ds (suc k) lt e = inr (k, omega arith, e)

module _ (layout : Layout) (file : List ℕ) where
  -- a cut of the first processor, or of a later one
  abbrev OfFirst : ℕ × Part → Cut → Type 0
  OfFirst p cut = (page : ℕ) × (cut_at (last_key (list_of layout file p.1)) p.0 page ≡ cut)

  whose_cut : (p : ℕ × Part) (ps : List (ℕ × Part)) (cut : Cut) → Contains (cuts_of layout file (p ∷ ps)) cut → OfFirst p cut ⊎ Contains (cuts_of layout file ps) cut
  whose_cut p ps cut c = elim (option_cases (own_cut layout file p)) [
    | inl none ↦ inr (subst (λ (o : Option Cut). Contains (cons_option o (cuts_of layout file ps)) cut) none c)
    | inr some ↦
        let d : Contains (some.0 ∷ cuts_of layout file ps) cut = subst (λ (o : Option Cut). Contains (cons_option o (cuts_of layout file ps)) cut) some.1 c in
        let made = option_map_some (cut_at (last_key (list_of layout file p.1)) p.0) (bad_of layout file p.1) some.0 some.1 in
        elim (contains_cases some.0 cut (cuts_of layout file ps) d.0 d.1 d.2) [
          | inl e ↦ inl (made.0, made.2 ∙ e)
          | inr behind ↦ inr behind
        ]
  ]

  cut_above : (c : ℕ) (ps : List (ℕ × Part)) (cut : Cut) → Above c ps → CpusRise ps → Contains (cuts_of layout file ps) cut → c < cut.cpu
  cut_above c [] cut a r k = absurd (omega (arith, k.1))
  cut_above c (p ∷ ps) cut a r k = elim (whose_cut p ps cut k) [
    | inl own ↦ let same : p.0 ≡ cut.cpu = ap (λ (x : Cut). x.cpu) own.1 in omega arith
    | inr later ↦ cut_above c ps cut (above_further c p ps a r) (rise_next p ps r) later
  ]

  abbrev own_items : Cut → List (ℕ × Part) → List Keyed
  own_items cut parts = with_key cpu_of cut.cpu (all_keyed (lists_of layout file parts))

  own_up_to : (parts : List (ℕ × Part)) (cut : Cut) → CpusRise parts → Contains (cuts_of layout file parts) cut → filter (is_up_to (Some cut)) (own_items cut parts) ≡ own_items cut parts
  own_up_to [] cut r k = refl
  own_up_to (p ∷ ps) cut r k =
      let list = list_of layout file p.1 in
      elim (whose_cut p ps cut k) [
        | inl own ↦
            let whole = with_cpu-own (p.0, list) (lists_of layout file ps) (lists_rise layout file (p ∷ ps) r) in
            let here : filter (is_up_to (Some (cut_at (last_key list) p.0 own.0))) (own_items (cut_at (last_key list) p.0 own.0) (p ∷ ps)) ≡ own_items (cut_at (last_key list) p.0 own.0) (p ∷ ps) =
            ap (filter (is_up_to (Some (cut_at (last_key list) p.0 own.0)))) whole ∙ up_to_last p.0 own.0 list ∙ sym whole in
            subst (λ (x : Cut). filter (is_up_to (Some x)) (own_items x (p ∷ ps)) ≡ own_items x (p ∷ ps)) own.1 here
        | inr later ↦
            let above : p.0 < cut.cpu = cut_above p.0 ps cut (above_next p ps r) (rise_next p ps r) later in
            let skip = with_cpu-other cut.cpu (p.0, list) (lists_of layout file ps) (λ e. omega arith) in
            ap (filter (is_up_to (Some cut))) skip ∙ own_up_to ps cut (rise_next p ps r) later ∙ sym skip
      ]

pub own_reached : (layout : Layout) (file : List ℕ) (parts : List (ℕ × Part)) → CpusRise parts
    → IfSome (cut_of layout file parts) (λ cut. with_key cpu_of cut.cpu (reached_of layout file parts) ≡ with_key cpu_of cut.cpu (all_keyed (lists_of layout file parts)))
unfolding reached_of cut_of
own_reached layout file parts r = by_cut (cut_of layout file parts) (when_some (cuts_of layout file parts))
  where
    by_cut : (o : Option Cut) → IfSome o (λ cut. IsLeast (cuts_of layout file parts) cut)
        → IfSome o (λ cut. with_key cpu_of cut.cpu (filter (is_up_to o) (arranged (lists_of layout file parts))) ≡ with_key cpu_of cut.cpu (all_keyed (lists_of layout file parts)))
    by_cut None l = tt
    by_cut (Some cut) l =
        filter-filter (λ x. eqb (cpu_of x) cut.cpu) (is_up_to (Some cut)) (arranged (lists_of layout file parts))
        ∙ ap (filter (is_up_to (Some cut))) ((arranged_is (lists_of layout file parts) (lists_rise layout file parts r)).by_positions cut.cpu)
        ∙ own_up_to layout file parts cut r l.one
