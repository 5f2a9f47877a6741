-- Lanes that go through items, and then load more.
use Rattle.std.proofs.Common.{◌≡◌, ℕ, ◌-◌, ◌<◌, ◌≤◌, List, length, get_or, ◌∙◌}
use Rattle.trace_outside.specs.declared.outside.File as file
use Rattle.trace_outside.specs.Causes.{raised}
use Rattle.trace_outside.specs.Keeping.{KeepsFile}
use Rattle.trace_outside.proofs.Keeping.{file_kept}
use Rattle.page_pool.specs.declared.lane.Lane.{Lane}
use Rattle.time_merge.specs.Advancing.{Advances}
use Rattle.time_merge.specs.LaneRows.{parts_of}
use Rattle.time_merge.specs.Loading.{LoadsLanes}
use Rattle.time_merge.specs.Reads.{all_unread}
use Rattle.time_merge.proofs.Advancing.{same_length}
use Rattle.time_merge.proofs.PartReads.{loading_reads}
use Rattle.split_passes.specs.Through.{GoThrough}
use Rattle.split_passes.proofs.Going.{advances_on}

pub through_loaded : {F : Type 0} {f : file.Ghosts F} (a b c : F) (first lanes now : List Lane) → parts_of lanes ≡ parts_of first
    → ((j : ℕ) (d : Lane) → j < length first → Advances (get_or first j d) (get_or lanes j d))
    → f.reads b ≤ raised (f.reads a) (all_unread (f.size a) first - all_unread (f.size a) lanes) → all_unread (f.size a) lanes ≤ all_unread (f.size a) first → KeepsFile f a b
    → LoadsLanes f b c lanes now → GoThrough f a c first now
through_loaded {f} a b c first lanes now parts advance reads unread keeps loads =
    let loaded = loading_reads (f.size a) (f.size b) lanes now _ _ _ _ keeps.size reads unread loads.reads loads.unread in
    record {
      parts = loads.parts ∙ parts;
      advance = advances_on first lanes now (same_length lanes first parts) advance loads.advance;
      reads = loaded.0;
      unread = loaded.1;
      keeps = file_kept keeps loads.keeps;
    }
