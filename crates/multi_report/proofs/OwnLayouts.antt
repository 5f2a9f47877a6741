-- Files whose lanes have their layouts.
use Rattle.std.proofs.Common.{List, sym, ◌∙◌, arith}
use Rattle.std.specs.List.{All}
use Rattle.std.proofs.lemmas.List.Elements.{All-get_or, All-weaker}
use Rattle.trace_base.specs.declared.layout.Layout.{Layout}
use Rattle.trace_outside.specs.declared.outside.File as file
use Rattle.page_pool.specs.declared.lane.Lane.{Lane}
use Rattle.time_merge.specs.LaneRows.{HasLayout}
use Rattle.time_merge.specs.Loading.{LoadsLanes}
use Rattle.time_merge.proofs.Advancing.{same_length}
use Rattle.multi_report.specs.Sources.{SourceView, HasOwnLayouts, IsKnown}

-- lanes that were made ready had this layout before
pub own_before : {F : Type 0} (o : file.Ghosts F) (layout : Layout) (first last : F) (before now : List Lane) → LoadsLanes o first last before now → All (HasLayout layout) now → All (HasLayout layout) before
own_before o layout first last before now loads own i d lt =
    sym (loads.advance i d lt).layout ∙ All-get_or (HasLayout layout) now i d (omega (arith, lt, same_length now before loads.parts)) own

-- known ones do
pub known_own : (sources : List SourceView) → All IsKnown sources → All HasOwnLayouts sources
known_own sources known = All-weaker IsKnown HasOwnLayouts (λ source is. is.layouts) sources known
