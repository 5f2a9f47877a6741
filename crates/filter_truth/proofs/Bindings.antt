-- Binding changes no truth.
use Rattle.std.proofs.Common.{◌≡◌, ℕ, zero, suc, Bool, true, false, ◌&&◌, ◌||◌, if◌then◌else◌, List, [], ◌∷◌, map, Option, Some, None, slice_get, refl, ap, ◌∙◌}
use Rattle.trace_base.specs.declared.field.Field.{Field}
use Rattle.format_parse.specs.declared.format.EventFormat.{EventFormat}
use Rattle.filter_lang.specs.Filter.{FilterData}
use Rattle.std.specs.List.{list_any}
use Rattle.filter_lang.specs.declared.filter.EventName.{EventName}
use Rattle.filter_lang.specs.FilterView.{name_of}
use Rattle.filter_lang.specs.Tree.{Tree}
use Rattle.filter_truth.specs.Values.{is_true}
use Rattle.filter_truth.specs.Naming.{EventData, is_named_by, names_format, condition_holds, filter_holds, holds_at}
use Rattle.filter_truth.specs.BoundFilter.{BoundCondition, unnamed, condition_true, bound_holds, bind_cond, bind_format, bind_filter}
use Rattle.filter_truth.proofs.BoundRows.{same_value}

same_cond : (cond : Option Tree) (fields : List Field) (e : EventData) → condition_true (bind_cond cond fields) e ≡ condition_holds cond fields e
same_cond None fields e = refl
same_cond (Some t) fields e = ap is_true (same_value fields e t)

by_name : (b : Bool) (c : BoundCondition) (t : Bool) (e : EventData) → condition_true c e ≡ t → condition_true (if b then c else unnamed) e ≡ (b && t)
by_name true c t e is = is
by_name false c t e is = refl

same_format : (f : FilterData) (format : EventFormat) (e : EventData) → condition_true (bind_format f format) e ≡ filter_holds f format e
same_format f format e = by_name (names_format f.events format) (bind_cond f.cond format.fields) _ e (same_cond f.cond format.fields e)

at_each : (f : FilterData) (formats : List EventFormat) (i : ℕ) (e : EventData) → bound_holds (map (bind_format f) formats) i e ≡ holds_at f (slice_get formats i) e
at_each f [] zero e = refl
at_each f [] (suc i) e = refl
at_each f (x ∷ formats) zero e = same_format f x e
at_each f (x ∷ formats) (suc i) e = at_each f formats i e

pub same_truth : (f : FilterData) (formats : List EventFormat) (i : ℕ) (e : EventData) → bound_holds (bind_filter f formats) i e ≡ holds_at f (slice_get formats i) e
unfolding bind_filter
same_truth f formats i e = at_each f formats i e

pub named_each : (format : EventFormat) (events : List EventName) → list_any (is_named_by format) (map name_of events) ≡ list_any (λ e. is_named_by format (name_of e)) events
named_each format [] = refl
named_each format (x ∷ events) = ap (λ b. is_named_by format (name_of x) || b) (named_each format events)
