-- A map whose keys are the ids of its formats.
use Rattle.std.proofs.Common.{◌≡◌, ℕ, ◌+◌, Bool, not, cond, nat_eq, List, [], ◌∷◌, ◌++◌, map, position, None, is_some, refl, sym, ap, subst, ◌∙◌}
use Rattle.std.proofs.lemmas.List.{map-append, length-map}
use Rattle.std.specs.List.{IsDistinct, list_any, position_or_len}
use Rattle.std.specs.Map.{keys_of, values_of, lookup}
use Rattle.std.proofs.lemmas.Map.Made.{is_some-lookup}
use Rattle.indexmap.specs.IndexMap.{IndexMap, IsUnique, keys, values, get, insert_entry}
use Rattle.indexmap.proofs.CallerLemmas.{insert_entry-new}
use Rattle.format_parse.specs.declared.format.EventFormat.{EventFormat}
use Rattle.format_parse.specs.Table.{has_id, IdsDiffer}

place_in_map : {X Y : Type 0} (p : Y → Bool) (f : X → Y) (xs : List X) → position_or_len p (map f xs) ≡ position_or_len (λ x. p (f x)) xs
place_in_map p f [] = refl
place_in_map p f (x ∷ xs) = ap (λ (n : ℕ). cond (not (p (f x))) (1 + n) 0) (place_in_map p f xs)

position_in_map : {X Y : Type 0} (p : Y → Bool) (f : X → Y) (xs : List X) → position p (map f xs) ≡ position (λ x. p (f x)) xs
position_in_map p f xs = rw (place_in_map p f xs, length-map xs f) refl

any_in_map : {X Y : Type 0} (p : Y → Bool) (f : X → Y) (xs : List X) → list_any p (map f xs) ≡ list_any (λ x. p (f x)) xs
any_in_map p f [] = refl
any_in_map p f (x ∷ xs) = rw (any_in_map p f xs) refl

abbrev id_of : EventFormat → ℕ
id_of format = format.id

pub place_of_id : (es : List (ℕ × EventFormat)) (id : ℕ) → keys_of es ≡ map id_of (values_of es) → position (nat_eq id) (keys_of es) ≡ position (has_id id) (values_of es)
place_of_id es id same = ap (position (nat_eq id)) same ∙ position_in_map (nat_eq id) id_of (values_of es)

pub any_of_id : (es : List (ℕ × EventFormat)) (id : ℕ) → keys_of es ≡ map id_of (values_of es) → is_some (lookup (nat_eq id) es) ≡ list_any (has_id id) (values_of es)
any_of_id es id same = is_some-lookup (nat_eq id) es ∙ ap (list_any (nat_eq id)) same ∙ any_in_map (nat_eq id) id_of (values_of es)

module _ {S : Type 0} (m n : IndexMap ℕ EventFormat S) (format : EventFormat) (none : get nat_eq m format.id ≡ None) (put : n.entries ≡ insert_entry nat_eq m.entries format.id format) where
  pub values_put : values n ≡ values m ++ format ∷ []
  values_put = ap values_of (put ∙ insert_entry-new nat_eq m format.id format none) ∙ map-append (λ e. e.1) m.entries ((format.id, format) ∷ [])

  pub keys_put : keys m ≡ map id_of (values m) → keys n ≡ map id_of (values n)
  keys_put same = ap keys_of (put ∙ insert_entry-new nat_eq m format.id format none) ∙ map-append (λ e. e.0) m.entries ((format.id, format) ∷ [])
      ∙ ap (λ (l : List ℕ). l ++ format.id ∷ []) same ∙ sym (map-append id_of (values m) (format ∷ [])) ∙ ap (map id_of) (sym values_put)

  pub differ_put : keys m ≡ map id_of (values m) → IsUnique nat_eq n → IdsDiffer (values n)
  differ_put same unique = subst (IsDistinct nat_eq) (keys_put same) unique
