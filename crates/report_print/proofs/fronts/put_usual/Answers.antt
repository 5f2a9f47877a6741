use Rattle.std.proofs.Common.{◌++◌, ◌∙◌, ℤ, List, ℕ, length, to_z, of_z, ap}
use Rattle.std.specs.Int.{w32}
use Rattle.std.proofs.lemmas.Int.{to_z-of_z}
use Rattle.trace_base.specs.Kept.{put_held}
use Rattle.trace_base.specs.TailView.{held}
use Rattle.line_fronts.specs.Tasks.{task_front}
use Rattle.line_fronts.specs.When.{usual_when}
use Rattle.line_fronts.proofs.TaskTexts.{unnamed_front}
use Rattle.report_print.proofs.fronts.put_usual.Goals as goal

pub returns-in-Made-clause-value : goal.returns-in-Made-clause-value
returns-in-Made-clause-value c =
    let given = c.args.context.now in
    let behind : List ℕ = usual_when c.args.cpu c.args.time ++ c.args.label.now in
    let task = c.in-Made.ensures ∙ ap (task_front given.show given.symbols.tasks) (to_z-of_z w32 c.args.pid c.ranges.pid) in
    c.put_made.ensures.value
    ∙ ap (λ (l : List ℕ). put_held (held c.args.into.now) (l ++ behind)) task

pub returns-in-Made-clause-len : goal.returns-in-Made-clause-len
returns-in-Made-clause-len c =
    let given = c.args.context.now in
    let behind : List ℕ = usual_when c.args.cpu c.args.time ++ c.args.label.now in
    let task = c.in-Made.ensures ∙ ap (task_front given.show given.symbols.tasks) (to_z-of_z w32 c.args.pid c.ranges.pid) in
    c.put_made.ensures.len
    ∙ ap (λ (l : List ℕ). length (l ++ behind)) task

pub returns-in-Unnamed-clause-value : goal.returns-in-Unnamed-clause-value
returns-in-Unnamed-clause-value c =
    let given = c.args.context.now in
    let pid : ℤ = to_z w32 (of_z w32 c.args.pid) in
    let behind : List ℕ = usual_when c.args.cpu c.args.time ++ c.args.label.now in
    let text = unnamed_front given.show given.symbols.tasks pid behind c.requires.usual.0 c.in-Unnamed.ensures
    ∙ ap (λ (p : ℤ). task_front given.show given.symbols.tasks p ++ behind) (to_z-of_z w32 c.args.pid c.ranges.pid) in
    c.put_unnamed.ensures.value
    ∙ ap (put_held (held c.args.into.now)) text

pub returns-in-Unnamed-clause-len : goal.returns-in-Unnamed-clause-len
returns-in-Unnamed-clause-len c =
    let given = c.args.context.now in
    let pid : ℤ = to_z w32 (of_z w32 c.args.pid) in
    let behind : List ℕ = usual_when c.args.cpu c.args.time ++ c.args.label.now in
    let text = unnamed_front given.show given.symbols.tasks pid behind c.requires.usual.0 c.in-Unnamed.ensures
    ∙ ap (λ (p : ℤ). task_front given.show given.symbols.tasks p ++ behind) (to_z-of_z w32 c.args.pid c.ranges.pid) in
    c.put_unnamed.ensures.len
    ∙ ap length text

pub returns-in-Unknown-clause-value : goal.returns-in-Unknown-clause-value
returns-in-Unknown-clause-value c =
    let given = c.args.context.now in
    let behind : List ℕ = usual_when c.args.cpu c.args.time ++ c.args.label.now in
    c.put_unmade.ensures.value
    ∙ ap (λ (pid : ℤ). put_held (held c.args.into.now) (task_front given.show given.symbols.tasks pid ++ behind)) (to_z-of_z w32 c.args.pid c.ranges.pid)

pub returns-in-Unknown-clause-len : goal.returns-in-Unknown-clause-len
returns-in-Unknown-clause-len c =
    let given = c.args.context.now in
    let behind : List ℕ = usual_when c.args.cpu c.args.time ++ c.args.label.now in
    c.put_unmade.ensures.len
    ∙ ap (λ (pid : ℤ). length (task_front given.show given.symbols.tasks pid ++ behind)) (to_z-of_z w32 c.args.pid c.ranges.pid)
