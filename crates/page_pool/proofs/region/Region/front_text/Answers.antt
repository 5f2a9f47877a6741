use Rattle.std.proofs.Common.{◌≡◌, ◌≤◌, length, drop, List, ap, ◌∙◌, arith}
use Rattle.page_pool.specs.declared.region.LineEntry.{LineEntry}
use Rattle.page_pool.specs.RegionView.{marks_of}
use Rattle.page_pool.proofs.RegionLaws.{count_in, front_bounds, front_is}
use Rattle.page_pool.proofs.region.Region.front_text.Goals as goal

pub start_of-to-requires : goal.start_of-to-requires
start_of-to-requires c =
    let marks : c.marks_from-marks.result.now ≡ marks_of c.self.inside = c.marks_from-marks.ensures ∙ ap (λ (m : List LineEntry). drop c.self.inside.first m) c.deref.ensures.value in
    omega (arith, c.requires, count_in c.self.inside c.args.self.now c.marks_from-marks.result.now c.self.view_is marks)

pub slice_bounds-result-count : goal.slice_bounds-result-count
slice_bounds-result-count c =
    let marks : c.marks_from-marks.result.now ≡ marks_of c.self.inside = c.marks_from-marks.ensures ∙ ap (λ (m : List LineEntry). drop c.self.inside.first m) c.deref.ensures.value in
    (front_bounds c.self.inside c.marks_from-marks.result.now c.args.count c.start_of-to.result c.self.invariant marks c.start_of-to.ensures).0

pub slice_bounds-result-start : goal.slice_bounds-result-start
slice_bounds-result-start c =
    let marks : c.marks_from-marks.result.now ≡ marks_of c.self.inside = c.marks_from-marks.ensures ∙ ap (λ (m : List LineEntry). drop c.self.inside.first m) c.deref.ensures.value in
    (front_bounds c.self.inside c.marks_from-marks.result.now c.args.count c.start_of-to.result c.self.invariant marks c.start_of-to.ensures).0

pub slice_bounds-result-end : goal.slice_bounds-result-end
slice_bounds-result-end c =
    let marks : c.marks_from-marks.result.now ≡ marks_of c.self.inside = c.marks_from-marks.ensures ∙ ap (λ (m : List LineEntry). drop c.self.inside.first m) c.deref.ensures.value in
    let le : c.start_of-to.result ≤ length c.deref-2.result.now =
    omega (arith, ap length c.deref-2.ensures.value, (front_bounds c.self.inside c.marks_from-marks.result.now c.args.count c.start_of-to.result c.self.invariant marks c.start_of-to.ensures).1) in
    le

pub returns : goal.returns
returns c =
    let marks : c.marks_from-marks.result.now ≡ marks_of c.self.inside = c.marks_from-marks.ensures ∙ ap (λ (m : List LineEntry). drop c.self.inside.first m) c.deref.ensures.value in
    front_is c.self.inside c.args.self.now c.marks_from-marks.result.now c.deref-2.result.now c.args.count c.start_of-to.result c.self.view_is c.self.invariant marks c.deref-2.ensures.value c.start_of-to.ensures
