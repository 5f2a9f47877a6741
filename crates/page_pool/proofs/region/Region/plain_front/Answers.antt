use Rattle.std.proofs.Common.{◌≡◌, drop, List, length, sym, ap, ◌∙◌, length-drop, arith}
use Rattle.std.specs.List.{prefix_len}
use Rattle.page_pool.specs.declared.region.LineEntry.{LineEntry}
use Rattle.page_pool.specs.Lines.{Lines, is_plain, is_plain_up_to}
use Rattle.page_pool.specs.RegionView.{marks_of}
use Rattle.page_pool.proofs.LineEntries.{plain_lines}
use Rattle.page_pool.proofs.region.Region.plain_front.Goals as goal

pub plain_marks-requires : goal.plain_marks-requires
plain_marks-requires c =
    let marks : c.marks_from-marks.result.now ≡ marks_of c.self.inside = c.marks_from-marks.ensures ∙ ap (λ (m : List LineEntry). drop c.self.inside.first m) c.deref.ensures.value in
    omega (arith, ap length marks, length-drop c.self.inside.first c.self.inside.marks.items, c.self.invariant.few, c.self.inside.marks.ok.0)

pub returns : goal.returns
returns c =
    let marks : c.marks_from-marks.result.now ≡ marks_of c.self.inside = c.marks_from-marks.ensures ∙ ap (λ (m : List LineEntry). drop c.self.inside.first m) c.deref.ensures.value in
    c.plain_marks.ensures ∙ ap (prefix_len (is_plain c.args.most)) marks
    ∙ sym (plain_lines c.args.most c.self.inside.text.items c.self.inside.from (marks_of c.self.inside))
    ∙ ap (λ (v : Lines). prefix_len (is_plain_up_to c.args.most) v.kept) c.self.view_is
