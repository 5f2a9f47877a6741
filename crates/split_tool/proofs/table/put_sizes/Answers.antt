use Rattle.std.proofs.Common.{rules, arith, ◌≡◌, ◌*◌, ◌%◌, ◌^◌, ◌<◌, ◌≤◌, ℕ, length, get_or, ap, ◌∙◌}
use Rattle.std.proofs.lemmas.List.{get_or_default, length-set}
use Rattle.page_pool.specs.declared.lane.Lane.{Lane}
use Rattle.split_tool.proofs.Tables.{lane_size, sized_so_far, sized_still}
use Rattle.split_tool.proofs.table.put_sizes.Goals as goal

pub loop-i-preserved : goal.loop-i-preserved
loop-i-preserved c =
    let v = c.loop-i.invariant in
    let i = c.loop-i.i in
    let l = c.args.layout.now in
    let lanes = c.args.lanes.now in
    let tallies = c.args.tallies.now in
    let lt : i < length lanes = search rules in
    let a : Lane = get_or lanes i c.index-lanes-i.result in
    let here : a ≡ get_or lanes i a = get_or_default lanes i c.index-lanes-i.result a lt in
    let t = c.index-tallies-i.result in
    let below = c.requires.inside i c.index-lanes-i.result lt in
    let cpu : a.cpu < length c.loop-i.table = omega (arith, below, v.long) in
    let size : (c.pages.result * c.from.result) % 2 ^ 64 ≡ (c.pages.result * l.page) % 2 ^ 64 = ap (λ (n : ℕ). (c.pages.result * n) % 2 ^ 64) c.from.ensures in
    record {
      long = length-set c.loop-i.table _ _ ∙ v.long;
      keeps = λ xs e counted sized.
          sized_still l xs c.loop-i.table a.cpu e _ cpu
          (size ∙ lane_size l lanes tallies xs i a t c.pages.result lt here c.index-tallies-i.is (c.pages.ensures l) counted) (v.keeps xs e counted sized);
      puts = λ xs j d counted inside.
          let one = size ∙ lane_size l lanes tallies xs i a t c.pages.result lt here c.index-tallies-i.is (c.pages.ensures l) counted in
          sized_so_far l xs lanes c.loop-i.table i j a d _ cpu (get_or_default lanes i c.index-lanes-i.result d lt) one inside (v.puts xs j d counted);
    }

pub returns-clause-puts : goal.returns-clause-puts
returns-clause-puts c = λ xs i d counted lt.
    let over : length c.args.lanes.now ≤ c.loop-i.i = search rules in
    c.loop-i.invariant.puts xs i d counted (omega (arith, lt, over))
