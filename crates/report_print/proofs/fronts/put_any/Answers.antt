use Rattle.std.proofs.Common.{◌++◌, ◌∙◌, ℤ, List, ℕ, FitsSigned, length, ap, rules}
use Rattle.std.specs.Int.{w32}
use Rattle.std.proofs.lemmas.Int.{to_z-of_z}
use Rattle.trace_base.specs.Kept.{put_held}
use Rattle.trace_base.specs.TailView.{held}
use Rattle.line_fronts.specs.declared.show.Show.{Show}
use Rattle.line_fronts.specs.Tasks.{task_front}
use Rattle.line_fronts.specs.When.{when_of}
use Rattle.report_print.proofs.fronts.put_any.Goals as goal

pub returns-clause-value : goal.returns-clause-value
returns-clause-value c =
    let given = c.args.context.now in
    let when = c.put_when.ensures.value ∙ ap (λ (l : List ℕ). when_of c.show.result.now c.args.cpu c.args.time c.args.common.now ++ l) c.start.ensures
    ∙ ap (λ (show : Show). when_of show c.args.cpu c.args.time c.args.common.now ++ c.args.behind.now) c.show.ensures in
    let in_range : FitsSigned w32 c.args.common.now.pid = search rules in
    c.put_with_task.ensures.value
    ∙ ap (λ (pid : ℤ). put_held (held c.args.into.now) (task_front given.show given.symbols.tasks pid ++ c.put_when.new.front)) (to_z-of_z w32 c.args.common.now.pid in_range)
    ∙ ap (λ (l : List ℕ). put_held (held c.args.into.now) (task_front given.show given.symbols.tasks c.args.common.now.pid ++ l)) when

pub returns-clause-len : goal.returns-clause-len
returns-clause-len c =
    let given = c.args.context.now in
    let when = c.put_when.ensures.value ∙ ap (λ (l : List ℕ). when_of c.show.result.now c.args.cpu c.args.time c.args.common.now ++ l) c.start.ensures
    ∙ ap (λ (show : Show). when_of show c.args.cpu c.args.time c.args.common.now ++ c.args.behind.now) c.show.ensures in
    let in_range : FitsSigned w32 c.args.common.now.pid = search rules in
    c.put_with_task.ensures.len
    ∙ ap (λ (pid : ℤ). length (task_front given.show given.symbols.tasks pid ++ c.put_when.new.front)) (to_z-of_z w32 c.args.common.now.pid in_range)
    ∙ ap (λ (l : List ℕ). length (task_front given.show given.symbols.tasks c.args.common.now.pid ++ l)) when
