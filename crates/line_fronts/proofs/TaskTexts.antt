-- The texts of tasks, and those that are kept.
use Rattle.std.proofs.Common.{◌≡◌, ℕ, ℤ, ◌-◌, ◌≤◌, Bool, false, if◌then◌else◌, List, [], ◌∷◌, ◌++◌, map, length, replicate, slice_get, Option, Some, sym, ap, ◌∙◌, append_assoc, codes, arith}
use Rattle.std.specs.Fmt.{signed_decimal}
use Rattle.std.specs.Option.{option_map}
use Rattle.std.proofs.lemmas.List.{map-append}
use Rattle.std.proofs.lemmas.Option.{slice_get-map}
use Rattle.trace_base.proofs.FieldSteps.{some_is}
use Rattle.symbols.specs.NameMap.{Pair}
use Rattle.symbols.specs.Maps.{task_name, unnamed}
use Rattle.line_columns.specs.Columns.{right, left}
use Rattle.line_fronts.specs.declared.show.Show.{Show}
use Rattle.line_fronts.specs.declared.tasks.TaskFront.{TaskFront}
use Rattle.line_fronts.specs.Tasks.{task_front, task_width, text_of, front_of, IsFront, AreFronts}

-- a name that is wider than its column
pub wide_task : (width : ℕ) (name : List ℕ) → width ≤ length name → name ≡ right width name
wide_task width name le = ap (λ (n : ℕ). replicate n 32 ++ name) (let none : 0 ≡ width - length name = omega (arith, le) in none)

-- a task's name, its dash and its pid in front of another text
pub behind_task : (name pid more : List ℕ) → name ++ (codes "-" ++ (pid ++ more)) ≡ (name ++ (codes "-" ++ pid)) ++ more
behind_task name pid more = sym (append_assoc name (codes "-" ++ pid) more)

-- a task without a name, in columns of the usual widths
pub unnamed_front : (show : Show) (names : List Pair) (pid : ℤ) (behind : List ℕ) → show.line.latency ≡ false → task_name names pid ≡ unnamed
    → (right 16 unnamed ++ codes "-") ++ (left 5 (signed_decimal pid) ++ behind) ≡ task_front show names pid ++ behind
unnamed_front show names pid behind usual none =
    let name : right 16 unnamed ≡ right (task_width show) (task_name names pid) = ap (right 16) (sym none) ∙ ap (λ (narrow : Bool). right (if narrow then 8 else 16) (task_name names pid)) (sym usual) in
    append_assoc (right 16 unnamed) (codes "-") (left 5 (signed_decimal pid) ++ behind)
    ∙ behind_task (right 16 unnamed) (left 5 (signed_decimal pid)) behind
    ∙ ap (λ (task : List ℕ). (task ++ (codes "-" ++ left 5 (signed_decimal pid))) ++ behind) name

module _ (show : Show) (names : List Pair) where
  pub one_more : (fronts : List (Option TaskFront)) (front : Option TaskFront) → AreFronts show names fronts → IsFront show names front → AreFronts show names (fronts ++ front ∷ [])
  one_more fronts front are is =
      map-append (option_map text_of) fronts (front ∷ [])
      ∙ ap (λ (l : List (Option (List ℕ))). l ++ option_map text_of front ∷ []) are
      ∙ ap (λ (o : Option (List ℕ)). map (option_map (front_of show names)) fronts ++ o ∷ []) is
      ∙ sym (map-append (option_map (front_of show names)) fronts (front ∷ []))

  pub one_at : (fronts : List (Option TaskFront)) (place : ℕ) (front : TaskFront) → AreFronts show names fronts → Some (Some front) ≡ slice_get fronts place → front.text ≡ task_front show names front.pid
  one_at fronts place front are got =
      some_is front.text (task_front show names front.pid)
      (some_is (Some front.text) (Some (task_front show names front.pid))
      (ap (option_map (option_map text_of)) got
      ∙ sym (slice_get-map (option_map text_of) fronts place)
      ∙ ap (λ (l : List (Option (List ℕ))). slice_get l place) are
      ∙ slice_get-map (option_map (front_of show names)) fronts place
      ∙ sym (ap (option_map (option_map (front_of show names))) got)))
