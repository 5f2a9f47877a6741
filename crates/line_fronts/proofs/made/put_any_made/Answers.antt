use Rattle.std.proofs.Common.{◌++◌, ◌∙◌, List, ℕ, take, drop, length, length-append, sym, ap, arith}
use Rattle.std.proofs.lemmas.List.{length-take, length-drop, take_all}
use Rattle.trace_base.specs.Kept.{Held, put_held}
use Rattle.trace_base.specs.TailView.{held}
use Rattle.trace_base.proofs.TailJoins.{put_held_twice}
use Rattle.line_fronts.specs.When.{usual_when}
use Rattle.line_fronts.proofs.made.put_any_made.Goals as goal

pub slice_bounds-write_when-end : goal.slice_bounds-write_when-end
slice_bounds-write_when-end c = omega (arith, c.requires.label, length-take 22 c.args.label.now)

pub returns-clause-value : goal.returns-clause-value
returns-clause-value c =
    let task = c.args.task.now in
    let behind : List ℕ = drop 22 c.write_when.new.text in
    let when = take_all 43 behind (omega (arith, length-drop 22 c.write_when.new.text, c.write_when.array_long)) ∙ c.write_when.ensures
    ∙ ap (λ (l : List ℕ). usual_when c.args.cpu c.args.time ++ l) (take_all 22 c.args.label.now (omega (arith, c.requires.label))) in
    c.put.ensures.held
    ∙ ap (λ (h : Held). put_held h (take 43 behind)) c.put_known_length.ensures.value
    ∙ put_held_twice (held c.args.into.now) task (take 43 behind)
    ∙ ap (λ (l : List ℕ). put_held (held c.args.into.now) (task ++ l)) when

pub returns-clause-len : goal.returns-clause-len
returns-clause-len c =
    let task = c.args.task.now in
    let behind : List ℕ = drop 22 c.write_when.new.text in
    let when = take_all 43 behind (omega (arith, length-drop 22 c.write_when.new.text, c.write_when.array_long)) ∙ c.write_when.ensures
    ∙ ap (λ (l : List ℕ). usual_when c.args.cpu c.args.time ++ l) (take_all 22 c.args.label.now (omega (arith, c.requires.label))) in
    sym (length-append task (take 43 behind)) ∙ ap (λ (l : List ℕ). length (task ++ l)) when
