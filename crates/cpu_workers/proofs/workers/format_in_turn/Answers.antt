use Rattle.std.proofs.Common.{◌≡◌, ◌<◌, ◌≤◌, ◌∙◌, ℕ, length, get_or, arith, true, false}
use Rattle.std.proofs.lemmas.List.{get_or_default, length-set}
use Rattle.page_pool.specs.declared.lane.Lane.{Lane}
use Rattle.page_pool.specs.Moved.{IsFirstMark}
use Rattle.cpu_workers.proofs.Together.{all_passed, kept_more, one_more, rest_more}
use Rattle.cpu_workers.proofs.workers.format_in_turn.Goals as goal

pub loop-i-smaller : goal.loop-i-smaller
loop-i-smaller g c =
    let mark : IsFirstMark c.args.moved.now c.loop-i.from c.in-Some.i = c.in-Some.ensures in
    omega (arith, mark.behind, mark.inside)

pub loop-i-preserved : goal.loop-i-preserved
loop-i-preserved g c =
    let text = g.L.LineFormat.text c.args.form.now in
    let first = c.args.lanes.now in
    let moved = c.args.moved.now in
    let now = c.loop-i.lanes in
    let from = c.loop-i.from in
    let i = c.in-Some.i in
    let before = c.loop-i.invariant in
    let marked = c.requires.marked in
    let mark : IsFirstMark moved from i = c.in-Some.ensures in
    let inside : i < length now = omega (arith, mark.inside, marked.marks, before.count) in
    let new = c.format_behind.new.lane in
    let rest : (k : ℕ) (d : Lane) → i ≤ k → get_or now k d ≡ get_or first k d = λ k d behind. before.rest k d (omega (arith, behind, mark.behind)) in
    record {
      within = omega (arith, mark.inside);
      count = length-set now i new ∙ before.count;
      done = λ k d less. one_more text first now i c.index-lanes-i.result new inside
          (all_passed text first now moved from i marked mark.behind (omega (arith, mark.inside)) mark.none before.done before.rest) rest c.format_behind.ensures k d (omega (arith, less));
      rest = λ k d behind. rest_more first now i new rest k d (omega (arith, behind, mark.inside));
      kept = kept_more moved first now i new (get_or_default moved i true false mark.inside ∙ mark.marked) before.kept;
    }

pub returns : goal.returns
returns g c =
    let moved = c.args.moved.now in
    let before = c.loop-i.invariant in
    let marked = c.requires.marked in
    record {
      count = before.count;
      each = λ k d inside. all_passed (g.L.LineFormat.text c.args.form.now) c.args.lanes.now c.loop-i.lanes moved c.loop-i.from (length moved)
          marked before.within (omega arith) c.in_default.ensures before.done before.rest k d (omega (arith, inside, marked.marks));
      unmoved = before.kept;
    }
