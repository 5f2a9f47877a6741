-- What events are, by the place of their format.
use Rattle.std.proofs.Common.{◌≡◌, ℕ, List, map, slice_get, position, Option, Some, None, refl, sym, ap, ◌∙◌}
use Rattle.std.specs.Option.{option_map, option_map_or}
use Rattle.std.proofs.lemmas.Option.{slice_get-map}
use Rattle.format_parse.specs.declared.format.EventFormat.{EventFormat}
use Rattle.format_parse.specs.Table.{has_id, format_at}
use Rattle.format_index.proofs.Formats.{at_its_place, at_no_place}

module _ {R : Type 0} (of : EventFormat → R) (formats : List EventFormat) (id : ℕ) (other : R) where
  pub role_none : None ≡ position (has_id id) formats → other ≡ option_map_or of (format_at id formats) other
  role_none none = sym (ap (λ (o : Option EventFormat). option_map_or of o other) (at_no_place id formats none))

  abbrev role_or : Option R → R
  role_or None = other
  role_or (Some role) = role

  by_role : (o : Option EventFormat) → role_or (option_map of o) ≡ option_map_or of o other
  by_role None = refl
  by_role (Some format) = refl

  role_got : (roles : List R) (i : ℕ) (got : Option R) → roles ≡ map of formats → Some i ≡ position (has_id id) formats → got ≡ slice_get roles i → role_or got ≡ option_map_or of (format_at id formats) other
  role_got roles i got are is read =
      ap role_or (read ∙ ap (λ (l : List R). slice_get l i) are ∙ slice_get-map of formats i ∙ ap (option_map of) (sym (at_its_place id i formats is))) ∙ by_role (format_at id formats)

  pub role_here : (roles : List R) (i : ℕ) (role : R) → roles ≡ map of formats → Some i ≡ position (has_id id) formats → Some role ≡ slice_get roles i → role ≡ option_map_or of (format_at id formats) other
  role_here roles i role are is read = role_got roles i (Some role) are is read

  pub role_past : (roles : List R) (i : ℕ) → roles ≡ map of formats → Some i ≡ position (has_id id) formats → None ≡ slice_get roles i → other ≡ option_map_or of (format_at id formats) other
  role_past roles i are is read = role_got roles i None are is read
