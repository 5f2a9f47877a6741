use Rattle.std.proofs.Common.{◌≡◌, ◌+◌, ◌++◌, ◌∙◌, List, ℕ, length, length-append, replicate, codes, ap, arith}
use Rattle.std.specs.Fmt.{decimal}
use Rattle.std.proofs.lemmas.List.{length-replicate, length-take, take_all}
use Rattle.trace_base.specs.Kept.{Held, put_held}
use Rattle.trace_base.specs.TailView.{held}
use Rattle.trace_base.proofs.TailJoins.{put_held_twice}
use Rattle.symbols.specs.Maps.{unnamed}
use Rattle.line_columns.specs.Columns.{left, right}
use Rattle.line_fronts.specs.When.{usual_when}
use Rattle.line_fronts.proofs.unnamed.put_short.Goals as goal

pub slice_bounds-write_when-end : goal.slice_bounds-write_when-end
slice_bounds-write_when-end c = omega (arith, c.requires.label, length-take 22 c.args.label.now)

pub returns-clause-value : goal.returns-clause-value
returns-clause-value c =
    let text : List ℕ = c.write_unnamed-spaces.new.text in
    let pid : List ℕ = left 5 (decimal c.args.pid) in
    let label = ap (λ (l : List ℕ). usual_when c.args.cpu c.args.time ++ l) (take_all 22 c.args.label.now (omega (arith, c.requires.label))) in
    c.put.ensures.held
    ∙ ap (λ (h : Held). put_held h text) c.put_spaces.ensures.value
    ∙ put_held_twice (held c.args.into.now) (replicate c.write_unnamed-spaces.result 32) text
    ∙ ap (put_held (held c.args.into.now)) (c.write_unnamed-spaces.ensures.value ∙ ap (λ (l : List ℕ). (right 16 unnamed ++ codes "-") ++ (pid ++ l)) (c.write_when.ensures ∙ label))

pub returns-clause-len : goal.returns-clause-len
returns-clause-len c =
    let text : List ℕ = c.write_unnamed-spaces.new.text in
    let pid : List ℕ = left 5 (decimal c.args.pid) in
    let label = ap (λ (l : List ℕ). usual_when c.args.cpu c.args.time ++ l) (take_all 22 c.args.label.now (omega (arith, c.requires.label))) in
    let spaces : ℕ = c.write_unnamed-spaces.result in
    let long : spaces + 65 ≡ length (replicate spaces 32 ++ text) = omega (arith, length-append (replicate spaces 32) text, length-replicate {A = ℕ} spaces 32, c.write_unnamed-spaces.array_long) in
    long ∙ ap length (c.write_unnamed-spaces.ensures.value ∙ ap (λ (l : List ℕ). (right 16 unnamed ++ codes "-") ++ (pid ++ l)) (c.write_when.ensures ∙ label))
