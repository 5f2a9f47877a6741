-- The sub-buffers of a part, one after another.
use Rattle.std.proofs.Common.{◌≡◌, ℕ, suc, ◌+◌, ◌-◌, ◌<◌, List, [], ◌∷◌, ◌++◌, Option, Some, None, sym, ap, ◌∙◌, arith}
use Rattle.std.specs.Option.{is_some, is_none, unwrap_or}
use Rattle.std.specs.List.{flat_map, position_from}
use Rattle.std.proofs.lemmas.List.Sums.{take_while-cons}
use Rattle.trace_base.specs.declared.layout.Layout.{Layout}
use Rattle.trace_base.specs.declared.part.Part.{Part}
use Rattle.subpage.specs.ItemData.{ItemData}
use Rattle.subpage.specs.Processor.{items_at, pages_from, joined}

pub joined-some : (xs : List ItemData) (pages : List (Option (List ItemData))) → joined (Some xs ∷ pages) ≡ xs ++ joined pages
joined-some xs pages = ap (flat_map (λ (items : Option (List ItemData)). unwrap_or items [])) (take_while-cons is_some (Some xs) pages)

pub joined-none : (pages : List (Option (List ItemData))) → joined (None ∷ pages) ≡ []
joined-none pages = ap (flat_map (λ (items : Option (List ItemData)). unwrap_or items [])) (take_while-cons is_some None pages)

-- sub-buffer k, and those from k + 1 on
pages_step : (l : Layout) (file : List ℕ) (part : Part) (k count : ℕ) → k < count → pages_from l file part k (count - k) ≡ items_at l file part k ∷ pages_from l file part (k + 1) (count - (k + 1))
pages_step l file part k count lt = let n : count - k ≡ suc (count - (k + 1)) = omega arith in ap (pages_from l file part k) n

-- at the start
pub begins : (l : Layout) (file : List ℕ) (part : Part) (count total : ℕ) → count ≡ total → pages_from l file part 0 (count - 0) ≡ pages_from l file part 0 total
begins l file part count total e = let n : count - 0 ≡ total = omega arith in ap (pages_from l file part 0) n

-- one more sub-buffer
pub one_more : (l : Layout) (file : List ℕ) (part : Part) (k count : ℕ) (xs : List ItemData) → k < count → Some xs ≡ items_at l file part k
    → (joined (pages_from l file part k (count - k)) ≡ xs ++ joined (pages_from l file part (k + 1) (count - (k + 1))))
    × (position_from is_none k (pages_from l file part k (count - k)) ≡ position_from is_none (k + 1) (pages_from l file part (k + 1) (count - (k + 1))))
one_more l file part k count xs lt h =
    let rest = pages_from l file part (k + 1) (count - (k + 1)) in
    let step = pages_step l file part k count lt ∙ ap (λ (p : Option (List ItemData)). p ∷ rest) (sym h) in
    (ap joined step ∙ joined-some xs rest, ap (position_from is_none k) step)

-- a malformed one
pub stops : (l : Layout) (file : List ℕ) (part : Part) (k count : ℕ) → k < count → None ≡ items_at l file part k
    → (joined (pages_from l file part k (count - k)) ≡ []) × (position_from is_none k (pages_from l file part k (count - k)) ≡ Some k)
stops l file part k count lt h =
    let rest = pages_from l file part (k + 1) (count - (k + 1)) in
    let step = pages_step l file part k count lt ∙ ap (λ (p : Option (List ItemData)). p ∷ rest) (sym h) in
    (ap joined step ∙ joined-none rest, ap (position_from is_none k) step)
