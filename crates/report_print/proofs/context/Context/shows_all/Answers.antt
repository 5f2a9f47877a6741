use Rattle.std.proofs.Common.{ℕ}
use Rattle.subpage.specs.ItemData.{ItemData}
use Rattle.report_print.proofs.Passing.{all_selected}
use Rattle.report_print.proofs.context.Context.shows_all.Goals as goal

pub returns : goal.returns
returns c = λ shows (cpu : ℕ) (item : ItemData).
    let known = c.self.inside in
    let none = c.self.invariant.6 shows in
    all_selected c.args.self.now known.formats known.symbols known.filters.items known.show cpu item c.self.view_is none.0 none.1 none.2
