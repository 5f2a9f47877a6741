-- Which events filters show: trace-cmd-report(1), `-F` and `-v`.
use Rattle.std.specs.Prelude.{◌≡◌, Bool, true, false, not, ◌&&◌, ◌||◌, List, Option}
use Rattle.std.specs.List.{list_any, Any}
use Rattle.format_parse.specs.declared.format.EventFormat.{EventFormat}
use Rattle.filter_lang.specs.Filter.{FilterData}
use Rattle.filter_truth.specs.Naming.{EventData, holds_at}

-- a filter that shows, or one that hides
pub record UseData : Type 0 where
  pub hide : Bool
  pub filter : FilterData

-- Where a filter shows, one that shows holds at the event; and none that hides does.
pub record AreShowing (uses : List UseData) (format : Option EventFormat) (e : EventData) : Type 0 where
  pub shown : Any (λ u. u.hide ≡ false) uses → Any (λ u. (u.hide ≡ false) × (holds_at u.filter format e ≡ true)) uses
  pub hidden : Any (λ u. (u.hide ≡ true) × (holds_at u.filter format e ≡ true)) uses → ⊥

-- the same, computed over filters of any kind by what each says
abbrev pub are_showing : {U : Type 0} → (U → Bool) → (U → Bool) → List U → Bool
are_showing hide holds uses =
    (list_any (λ u. not (hide u) && holds u) uses || not (list_any (λ u. not (hide u)) uses)) && not (list_any (λ u. hide u && holds u) uses)

abbrev pub filters_show : List UseData → Option EventFormat → EventData → Bool
filters_show uses format e = are_showing (λ u. u.hide) (λ u. holds_at u.filter format e) uses
