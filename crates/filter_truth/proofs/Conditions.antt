-- What a bound filter asks at each format, by the columns of its names.
use Rattle.std.proofs.Common.{◌≡◌, ℕ, zero, suc, ◌+◌, Bool, true, false, ◌&&◌, if◌then◌else◌, List, [], ◌∷◌, map, Option, Some, None, slice_get, refl, ap, sym, subst, ◌∙◌, arith, unwrap_or}
use Rattle.std.specs.Option.{is_some, option_map, option_and_then, option_flatten}
use Rattle.std.proofs.lemmas.Option.{slice_get-map}
use Rattle.std.proofs.Math.Path.{fun_ext}
use Rattle.trace_base.specs.declared.field.Field.{Field}
use Rattle.trace_base.specs.Fields.{field_named}
use Rattle.format_parse.specs.declared.format.EventFormat.{EventFormat}
use Rattle.filter_lang.specs.Filter.{EventNameData, FilterData}
use Rattle.filter_lang.specs.Tree.{Tree}
use Rattle.filter_truth.specs.Naming.{EventData, names_format}
use Rattle.filter_truth.specs.BoundFilter.{BoundCondition, unnamed, condition_true, option_true, bound_holds, bind_cond, bind_format, bind_filter}
use Rattle.filter_truth.specs.BoundView.{asked, condition_at, conditions_from, conditions_of, is_named_at}
use Rattle.filter_truth.specs.Columns.{column_in, field_at, numbered}
use Rattle.filter_truth.specs.NamedView.{named_by}
use Rattle.filter_truth.specs.Numbers.{IsBound}
use Rattle.filter_truth.specs.SelectionView.{is_open, option_open}
use Rattle.filter_truth.specs.declared.bound_expr.BoundExpr.{BoundExpr}
use Rattle.filter_truth.specs.declared.filter.Bound.{Bound}

-- the condition at a place
at_place : (cond : Option BoundExpr) (columns : List (List (Option Field))) (from : ℕ) (named : List Bool) (i : ℕ)
    → slice_get (conditions_from cond columns from named) i ≡ option_map (condition_at cond columns (from + i)) (slice_get named i)
at_place cond columns from [] zero = refl
at_place cond columns from [] (suc i) = refl
at_place cond columns from (n ∷ named) zero =
    let same : from ≡ from + 0 = omega arith in ap (λ k. Some (condition_at cond columns k n)) same
at_place cond columns from (n ∷ named) (suc i) =
    let same : suc from + i ≡ from + suc i = omega arith in
    at_place cond columns (suc from) named i ∙ ap (λ k. option_map (condition_at cond columns k) (slice_get named i)) same

condition_there : (b : Bound) (i : ℕ) → slice_get (conditions_of b) i ≡ option_map (condition_at b.cond b.columns.items i) (slice_get b.named.items i)
condition_there b i =
    let same : 0 + i ≡ i = omega arith in
    at_place b.cond b.columns.items 0 b.named.items i ∙ ap (λ k. option_map (condition_at b.cond b.columns.items k) (slice_get b.named.items i)) same

true_by : (cond : Option BoundExpr) (columns : List (List (Option Field))) (i : ℕ) (named : Option Bool) (e : EventData)
    → option_true (option_map (condition_at cond columns i) named) e ≡ (unwrap_or named false && condition_true (asked cond (field_at columns i)) e)
true_by cond columns i None e = refl
true_by cond columns i (Some true) e = refl
true_by cond columns i (Some false) e = refl

pub true_at : (b : Bound) (i : ℕ) (e : EventData) → bound_holds (conditions_of b) i e ≡ (is_named_at b i && condition_true (asked b.cond (field_at b.columns.items i)) e)
true_at b i e = ap (λ o. option_true o e) (condition_there b i) ∙ true_by b.cond b.columns.items i (slice_get b.named.items i) e

open_by : (cond : Option BoundExpr) (columns : List (List (Option Field))) (i : ℕ) (named : Option Bool) → option_open (option_map (condition_at cond columns i) named) ≡ (unwrap_or named false && is_some cond)
open_by cond columns i None = refl
open_by None columns i (Some true) = refl
open_by (Some c) columns i (Some true) = refl
open_by cond columns i (Some false) = refl

pub open_at : (b : Bound) (i : ℕ) → option_open (slice_get (conditions_of b) i) ≡ (is_named_at b i && is_some b.cond)
open_at b i = ap option_open (condition_there b i) ∙ open_by b.cond b.columns.items i (slice_get b.named.items i)

-- in a format that is named, the columns give what its fields do
in_column : (named : List (Option (List Field))) (name : List ℕ) (i : ℕ) (fields : List Field) → slice_get named i ≡ Some (Some fields) → option_flatten (slice_get (column_in named name) i) ≡ field_named name fields
in_column named name i fields there =
    ap option_flatten (slice_get-map (option_and_then (field_named name)) named i ∙ ap (option_map (option_and_then (field_named name))) there)

by_columns : (named : List (Option (List Field))) (names : List (List ℕ)) (i : ℕ) (fields : List Field) → slice_get named i ≡ Some (Some fields)
    → (number : ℕ) → field_at (map (column_in named) names) i number ≡ numbered fields names number
by_columns named names i fields there number =
    ap (option_and_then (λ (column : List (Option Field)). option_flatten (slice_get column i))) (slice_get-map (column_in named) names number) ∙ by (slice_get names number)
  where
    by : (o : Option (List ℕ)) → option_and_then (λ (column : List (Option Field)). option_flatten (slice_get column i)) (option_map (column_in named) o) ≡ option_and_then (λ name. field_named name fields) o
    by None = refl
    by (Some name) = in_column named name i fields there

module _ (f : FilterData) (cond : Option BoundExpr) (names : List (List ℕ)) (bound : IsBound names (asked cond) (bind_cond f.cond)) (named : List (Option (List Field))) where
  at_format : (i : ℕ) (format : EventFormat) (is : Bool) → names_format f.events format ≡ is → slice_get named i ≡ Some (named_by f.events format)
      → condition_at cond (map (column_in named) names) i (is_some (named_by f.events format)) ≡ bind_format f format
  at_format i format true is there =
      let here : slice_get named i ≡ Some (Some format.fields) = there ∙ ap (λ b. Some (if b then Some format.fields else None)) is in
      ap (λ b. condition_at cond (map (column_in named) names) i (is_some (if b then Some format.fields else None))) is
      ∙ ap (asked cond) (fun_ext (by_columns named names i format.fields here)) ∙ bound format.fields names (λ n name h. h)
      ∙ ap (λ b. if b then bind_cond f.cond format.fields else unnamed) (sym is)
  at_format i format false is there =
      ap (λ b. condition_at cond (map (column_in named) names) i (is_some (if b then Some format.fields else None))) is
      ∙ ap (λ b. if b then bind_cond f.cond format.fields else unnamed) (sym is)

  from_each : (i : ℕ) (formats : List EventFormat) → ((j : ℕ) → slice_get named (i + j) ≡ slice_get (map (named_by f.events) formats) j)
      → conditions_from cond (map (column_in named) names) i (map is_some (map (named_by f.events) formats)) ≡ map (bind_format f) formats
  from_each i [] there = refl
  from_each i (format ∷ formats) there =
      let first : i + 0 ≡ i = omega arith in
      let later : (j : ℕ) → slice_get named (suc i + j) ≡ slice_get (map (named_by f.events) formats) j = λ j.
      let same : suc i + j ≡ i + suc j = omega arith in ap (slice_get named) same ∙ there (suc j) in
      ap (λ c. c ∷ conditions_from cond (map (column_in named) names) (suc i) (map is_some (map (named_by f.events) formats)))
      (at_format i format (names_format f.events format) refl (ap (slice_get named) (sym first) ∙ there 0))
      ∙ ap (λ cs. bind_format f format ∷ cs) (from_each (suc i) formats later)

-- so what is bound asks what the filter does
pub all_bound : (f : FilterData) (formats : List EventFormat) (b : Bound) (names : List (List ℕ)) (named : List (Option (List Field))) → IsBound names (asked b.cond) (bind_cond f.cond)
    → named ≡ map (named_by f.events) formats → b.columns.items ≡ map (column_in named) names → b.named.items ≡ map is_some named → conditions_of b ≡ bind_filter f formats
unfolding bind_filter
all_bound f formats b names named bound named_is columns_are flags_are =
    ap (λ columns. conditions_from b.cond columns 0 b.named.items) columns_are
    ∙ ap (conditions_from b.cond (map (column_in named) names) 0) (flags_are ∙ ap (map is_some) named_is)
    ∙ from_each f b.cond names bound named 0 formats (λ j. ap (slice_get named) (zero_first j) ∙ ap (λ l. slice_get l j) named_is)
  where
    zero_first : (j : ℕ) → 0 + j ≡ j
    zero_first j = omega arith
