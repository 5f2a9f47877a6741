-- Lanes that are numbered one after another.
use Rattle.std.proofs.Common.{◌≡◌, ℕ, ◌+◌, ◌<◌, ◌≤◌, List, [], ◌∷◌, ◌++◌, length, get_or, set, take, sym, ap, ◌∙◌, inl, inr, refl, zero, suc, arith, get_or-set_same, get_or-set_other}
use Rattle.std.specs.List.{All, enumerate_from}
use Rattle.std.proofs.lemmas.Bool.{cases_lt}
use Rattle.std.proofs.lemmas.List.Elements.{All-nil, All-cons}
use Rattle.trace_base.specs.declared.part.Part.{Part}
use Rattle.subpage.specs.Arrangement.{CpusRise}
use Rattle.page_pool.specs.declared.lane.Lane.{Lane}
use Rattle.time_merge.specs.LaneRows.{parts_of}

abbrev pub AreNumbered : ℕ → ℕ → List Lane → Type 0
AreNumbered from count lanes = (j : ℕ) (d : Lane) → j < count → (get_or lanes j d).cpu ≡ from + j

pub set_numbered : (from i : ℕ) (lanes : List Lane) (a : Lane) → i < length lanes → a.cpu ≡ from + i → AreNumbered from i lanes → AreNumbered from (i + 1) (set lanes i a)
set_numbered from i lanes a inside is before j d lt = elim (cases_lt j i) [
  | inl less ↦
      let other : j ≡ i → ⊥ = λ e. omega (arith, e, less) in
      ap (λ (b : Lane). b.cpu) (get_or-set_other lanes i j a d other) ∙ before j d less
  | inr le ↦
      let e : j ≡ i = omega (arith, le, lt) in
      ap (λ (k : ℕ). (get_or (set lanes i a) k d).cpu) e
      ∙ ap (λ (b : Lane). b.cpu) (get_or-set_same lanes i a d inside)
      ∙ is
      ∙ ap (λ (k : ℕ). from + k) (sym e)
]

pub numbered_rise : (from : ℕ) (lanes : List Lane) → AreNumbered from (length lanes) lanes → CpusRise (parts_of lanes)
numbered_rise from [] numbered = tt
numbered_rise from (a ∷ []) numbered = tt
numbered_rise from (a ∷ b ∷ lanes) numbered =
    let one : a.cpu ≡ from + 0 = numbered 0 a (omega arith) in
    let two : b.cpu ≡ from + 1 = numbered 1 a (omega arith) in
    let more : AreNumbered (from + 1) (length (b ∷ lanes)) (b ∷ lanes) = λ j d lt. numbered (suc j) d (omega (arith, lt)) ∙ omega arith in
    (omega (arith, one, two), numbered_rise (from + 1) (b ∷ lanes) more)

-- PARTS THAT ARE NUMBERED

pub numbered_push : (from i : ℕ) (parts : List Part) (d : Part) → i < length parts → enumerate_from from (take (i + 1) parts) ≡ enumerate_from from (take i parts) ++ (from + i, get_or parts i d) ∷ []
numbered_push from i [] d lt = absurd (omega (arith, lt))
numbered_push from zero (p ∷ parts) d lt = ap (λ (n : ℕ). (n, p) ∷ []) (omega arith)
numbered_push from (suc i) (p ∷ parts) d lt =
    let further : suc i + 1 ≡ suc (i + 1) = omega arith in
    ap (λ (n : ℕ). enumerate_from from (take n (p ∷ parts))) further
    ∙ ap (λ (ps : List (ℕ × Part)). (from, p) ∷ ps) (numbered_push (from + 1) i parts d (omega (arith, lt)))
    ∙ ap (λ (n : ℕ). (from, p) ∷ enumerate_from (from + 1) (take i parts) ++ (n, get_or parts i d) ∷ []) (omega arith)

pub parts_rise : (from : ℕ) (parts : List Part) → CpusRise (enumerate_from from parts)
parts_rise from [] = tt
parts_rise from (p ∷ []) = tt
parts_rise from (p ∷ q ∷ parts) = (omega arith, parts_rise (from + 1) (q ∷ parts))

pub parts_below : (from n : ℕ) (parts : List Part) → from + length parts ≤ n → All (λ (part : ℕ × Part). part.0 < n) (enumerate_from from parts)
parts_below from n [] le = All-nil (λ (part : ℕ × Part). part.0 < n)
parts_below from n (p ∷ parts) le = All-cons (λ (part : ℕ × Part). part.0 < n) (from, p) (enumerate_from (from + 1) parts) (omega (arith, le)) (parts_below (from + 1) n parts (omega (arith, le)))

pub parts_length : (from : ℕ) (parts : List Part) → length (enumerate_from from parts) ≡ length parts
parts_length from [] = refl
parts_length from (p ∷ parts) = let more = parts_length (from + 1) parts in omega (arith, more)

pub numbered_on : (from i : ℕ) (parts : List Part) (d : Part) (all pushed : List (ℕ × Part)) → i < length parts → all ≡ enumerate_from from (take i parts) → pushed ≡ all ++ (from + i, get_or parts i d) ∷ [] → pushed ≡ enumerate_from from (take (i + 1) parts)
numbered_on from i parts d all pushed lt so_far is = is ∙ ap (λ (xs : List (ℕ × Part)). xs ++ (from + i, get_or parts i d) ∷ []) so_far ∙ sym (numbered_push from i parts d lt)
