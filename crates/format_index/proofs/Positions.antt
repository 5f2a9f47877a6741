-- The place of a number among formats without equal numbers, and the format there.
use Rattle.std.proofs.Common.{◌≡◌, ℕ, true, ltb, List, length, slice_get, position, Some, None, sym, ap, ◌∙◌, arith}
use Rattle.std.specs.List.{position_or_len}
use Rattle.std.proofs.lemmas.Bool.{cond-true, lt-ltb}
use Rattle.std.proofs.lemmas.Option.{slice_get_within}
use Rattle.format_parse.specs.declared.format.EventFormat.{EventFormat}
use Rattle.format_parse.specs.Table.{has_id, format_at, IdsDiffer}
use Rattle.format_index.proofs.Formats.{at_its_place, at_no_place, format_here, place_here}

pub position_here : (formats : List EventFormat) (i id : ℕ) (format : EventFormat) → IdsDiffer formats → Some format ≡ slice_get formats i → format.id ≡ id → Some i ≡ position (has_id id) formats
position_here formats i id format differ is same =
    let here : position_or_len (has_id id) formats ≡ i = ap (λ (n : ℕ). position_or_len (has_id n) formats) (sym same) ∙ place_here formats i format differ is in
    let inside : ltb (position_or_len (has_id id) formats) (length formats) ≡ true = lt-ltb (position_or_len (has_id id) formats) (length formats) (omega (arith, here, slice_get_within formats i format (sym is))) in
    sym (cond-true (ltb (position_or_len (has_id id) formats) (length formats)) (Some (position_or_len (has_id id) formats)) _ inside ∙ ap Some here)

pub format_found : (formats : List EventFormat) (i id : ℕ) (format : EventFormat) → IdsDiffer formats → Some format ≡ slice_get formats i → format.id ≡ id → Some format ≡ format_at id formats
format_found formats i id format differ is same = sym (ap (λ (n : ℕ). format_at n formats) (sym same) ∙ format_here formats i format differ is)

-- what is at the place of a number
pub format_searched : (formats : List EventFormat) (i id : ℕ) (format : EventFormat) → Some i ≡ position (has_id id) formats → Some format ≡ slice_get formats i → Some format ≡ format_at id formats
format_searched formats i id format is got = got ∙ sym (at_its_place id i formats is)

pub none_there : (formats : List EventFormat) (i id : ℕ) → Some i ≡ position (has_id id) formats → None ≡ slice_get formats i → None ≡ format_at id formats
none_there formats i id is none = none ∙ sym (at_its_place id i formats is)

pub none_searched : (formats : List EventFormat) (id : ℕ) → None ≡ position (has_id id) formats → None ≡ format_at id formats
none_searched formats id none = sym (at_no_place id formats none)
