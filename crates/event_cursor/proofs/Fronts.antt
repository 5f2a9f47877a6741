-- The first few of a row of sub-buffers.
use Rattle.std.proofs.Common.{◌≡◌, ℕ, zero, suc, ◌+◌, ◌-◌, ◌≤◌, List, [], ◌∷◌, ◌++◌, map, take, drop, Option, Some, None, refl, sym, ap, ◌∙◌, append_assoc, arith}
use Rattle.std.specs.Option.{IfSome, is_none}
use Rattle.std.specs.List.{position_from, range_with_len}
use Rattle.subpage.specs.ItemData.{ItemData}
use Rattle.subpage.specs.Processor.{joined}
use Rattle.subpage.proofs.Joining.{joined-some}
use Rattle.event_cursor.proofs.Told.{told_map}

-- the first malformed one is none before the first
pub no_sooner : (at : ℕ) (pages : List (Option (List ItemData))) → IfSome (position_from is_none at pages) (λ bad. at ≤ bad)
no_sooner at [] = tt
no_sooner at (None ∷ pages) = omega arith
no_sooner at (Some xs ∷ pages) = told_map (λ bad. at + 1 ≤ bad) (λ bad. at ≤ bad) (position_from is_none (at + 1) pages) (λ bad le. omega (arith, le)) (no_sooner (at + 1) pages)

-- where none of the first few is malformed
pub joined_split : (at k : ℕ) (pages : List (Option (List ItemData))) → IfSome (position_from is_none at pages) (λ bad. at + k ≤ bad) → joined pages ≡ joined (take k pages) ++ joined (drop k pages)
joined_split at zero pages sound = refl
joined_split at (suc k) [] sound = refl
joined_split at (suc k) (None ∷ pages) sound = absurd (omega (arith, sound))
joined_split at (suc k) (Some xs ∷ pages) sound =
    let further : IfSome (position_from is_none (at + 1) pages) (λ bad. at + 1 + k ≤ bad) = told_map (λ bad. at + suc k ≤ bad) (λ bad. at + 1 + k ≤ bad) (position_from is_none (at + 1) pages) (λ bad le. omega (arith, le)) sound in
    joined-some xs pages ∙ ap (λ (ys : List ItemData). xs ++ ys) (joined_split (at + 1) k pages further)
    ∙ sym (append_assoc xs (joined (take k pages)) (joined (drop k pages)))
    ∙ ap (λ (ys : List ItemData). ys ++ joined (drop k pages)) (sym (joined-some xs (take k pages)))

pub drop_range : {X : Type 0} (f : ℕ → X) (at n k : ℕ) → drop k (map f (range_with_len at n)) ≡ map f (range_with_len (at + k) (n - k))
drop_range f at n zero =
    let here : at ≡ at + 0 = omega arith in
    let all : n ≡ n - 0 = omega arith in
    ap (λ (b : ℕ). map f (range_with_len b n)) here ∙ ap (λ (m : ℕ). map f (range_with_len (at + 0) m)) all
drop_range f at zero (suc k) =
    let none : 0 - suc k ≡ 0 = omega arith in
    ap (λ (m : ℕ). map f (range_with_len (at + suc k) m)) (sym none)
drop_range f at (suc n) (suc k) =
    let there : at + 1 + k ≡ at + suc k = omega arith in
    let rest : n - k ≡ suc n - suc k = omega arith in
    drop_range f (at + 1) n k
    ∙ ap (λ (b : ℕ). map f (range_with_len b (n - k))) there
    ∙ ap (λ (m : ℕ). map f (range_with_len (at + suc k) m)) rest
