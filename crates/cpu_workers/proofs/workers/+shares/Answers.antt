use Rattle.std.proofs.Common.{◌≡◌, List, ◌++◌, length, arith, rules}
use Rattle.page_pool.specs.declared.lane.Lane.{Lane}
use Rattle.cpu_workers.specs.Formats.{AreFormatted}
use Rattle.cpu_workers.proofs.Together.{both, cut_together}
use Rattle.cpu_workers.proofs.workers.+shares.Goals as goal

pub format_halves-returns : goal.format_halves-returns
format_halves-returns g t c =
    let text = g.L.LineFormat.text c.args.form.now in
    let lanes = c.split_at_mut-front in
    let marks = c.split_at in
    let same : length marks.result.0.now ≡ length lanes.result.0.now = omega (arith, marks.ensures.front_len, lanes.ensures.front_len) in
    let joined : (front back : List Lane) → AreFormatted text marks.result.0.now lanes.result.0.now front
    → AreFormatted text marks.result.1.now lanes.result.1.now back → AreFormatted text c.args.moved.now c.args.lanes.now (front ++ back) =
    λ front back. both text c.args.lanes.now lanes.result.0.now lanes.result.1.now front back c.args.moved.now marks.result.0.now marks.result.1.now lanes.ensures.value
    (cut_together c.args.moved.now marks.result.0.now marks.result.1.now _ marks.ensures.front marks.ensures.back) same in
    search (rules, joined)
