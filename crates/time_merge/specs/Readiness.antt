-- Of which lanes it is known what comes next.
use Rattle.std.specs.Prelude.{◌≡◌, All, List, map}
use Rattle.tournament_tree.specs.declared.slot_key.SlotKey.{SlotKey}
use Rattle.page_pool.specs.declared.lane.Lane.{Lane}
use Rattle.time_merge.specs.LaneRows.{IsReady, next_of}
use Rattle.time_merge.specs.Nexts.{IsInStepBut}
use Rattle.time_merge.specs.declared.readiness.Readiness.{Readiness}
use Rattle.time_merge.specs.declared.readiness.Readiness.TheVariants.{Unready, AllBut, Ready}

-- all lanes are ready, and the keys tell what comes next of them
pub record AreInStep (lanes : List Lane) (keys : List SlotKey) : Type 0 where
  pub ready : All IsReady lanes
  pub keys_are : keys ≡ map next_of lanes

-- so it is of those of which it is known
abbrev pub AreKnown : List Lane → List SlotKey → Readiness → Type 0
AreKnown lanes keys Unready = Unit {0}
AreKnown lanes keys (AllBut i) = IsInStepBut lanes keys i
AreKnown lanes keys Ready = AreInStep lanes keys
