-- Selection by bound filters.
use Rattle.std.specs.Prelude.{ℕ, Bool, true, false, not, ◌&&◌, ◌||◌, List, Option, Some, None, slice_get}
use Rattle.std.specs.List.{list_any}
use Rattle.format_parse.specs.declared.format.EventFormat.{EventFormat}
use Rattle.filter_lang.specs.FilterView.{filter_of}
use Rattle.filter_truth.specs.Naming.{EventData}
use Rattle.filter_truth.specs.BoundFilter.{BoundCondition, unnamed, always, where_true, bound_holds}
use Rattle.filter_truth.specs.BoundView.{conditions_of}
use Rattle.filter_truth.specs.Selection.{UseData, are_showing}
use Rattle.filter_truth.specs.declared.select.FilterUse.{FilterUse}
use Rattle.filter_truth.specs.declared.select.BoundUse.{BoundUse}

abbrev pub use_of : FilterUse → UseData
use_of u = record { hide = u.hide; filter = filter_of u.filter }

-- the format at a place of a table, if there is a place
abbrev pub format_at_place : List EventFormat → Option ℕ → Option EventFormat
format_at_place formats None = None
format_at_place formats (Some i) = slice_get formats i

abbrev pub option_holds : List BoundCondition → Option ℕ → EventData → Bool
option_holds conditions None e = false
option_holds conditions (Some i) e = bound_holds conditions i e

abbrev pub bound_show : List BoundUse → Option ℕ → EventData → Bool
bound_show uses i e = are_showing (λ u. u.hide) (λ u. option_holds (conditions_of u.bound) i e) uses

-- whether what a filter asks of events depends on the event
abbrev pub is_open : BoundCondition → Bool
is_open unnamed = false
is_open always = false
is_open (where_true t) = true

abbrev pub option_open : Option BoundCondition → Bool
option_open None = false
option_open (Some c) = is_open c

abbrev pub is_open_at : List BoundCondition → Option ℕ → Bool
is_open_at conditions None = false
is_open_at conditions (Some i) = option_open (slice_get conditions i)

-- whether a condition of a filter decides which events of a format are shown
abbrev pub some_open : List BoundUse → Option ℕ → Bool
some_open uses i = list_any (λ u. is_open_at (conditions_of u.bound) i) uses

-- the rest of some filters, after those that hide nothing
abbrev pub rest_shows : Bool → Bool → List BoundUse → Option ℕ → EventData → Bool
rest_shows showing shown uses i e =
    ((shown || list_any (λ u. not u.hide && option_holds (conditions_of u.bound) i e) uses) || not (showing || list_any (λ u. not u.hide) uses)) && not (list_any (λ u. u.hide && option_holds (conditions_of u.bound) i e) uses)
