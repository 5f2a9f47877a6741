-- What the places of a column lead to, while fields are appended to the others.
use Rattle.std.proofs.Common.{◌≡◌, ℕ, ◌<◌, ◌≤◌, List, [], ◌∷◌, ◌++◌, Option, length, map, refl, ap, ap₂, suc, ◌∙◌, arith}
use Rattle.std.specs.List.{All}
use Rattle.std.proofs.lemmas.List.{map-append}
use Rattle.trace_base.specs.declared.field.Field.{Field}
use Rattle.filter_truth.specs.Columns.{field_placed}

same_column : (old new : List Field) (places : List ℕ) → ((p : ℕ) → p ≤ length old → field_placed new p ≡ field_placed old p) → All (λ p. p ≤ length old) places → map (field_placed new) places ≡ map (field_placed old) places
same_column old new [] kept within = refl
same_column old new (p ∷ places) kept within =
    ap₂ (λ o os. o ∷ os) (kept p (within 0 0 (omega arith))) (same_column old new places kept (λ k d lt. within (suc k) d (omega arith)))

pub pushed : (old new : List Field) (places now : List ℕ) (place : ℕ) (field : Option Field) → now ≡ places ++ place ∷ [] → All (λ p. p ≤ length old) places
    → ((p : ℕ) → p ≤ length old → field_placed new p ≡ field_placed old p) → field_placed new place ≡ field → map (field_placed new) now ≡ map (field_placed old) places ++ field ∷ []
pushed old new places now place field are within kept is =
    ap (map (field_placed new)) are ∙ map-append (field_placed new) places (place ∷ []) ∙ ap₂ (λ os o. os ++ o ∷ []) (same_column old new places kept within) is
