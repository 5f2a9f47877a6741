-- Runs of plain records that go from one sub-buffer into another as they stand.
use Rattle.std.specs.Prelude.{◌≡◌, ℕ, ◌<◌, ◌≤◌, ◌⊎◌, true, List, ◌++◌, length, Some}
use Rattle.subpage.specs.declared.mark.Mark.{Mark}
use Rattle.subpage.specs.ItemData.{ItemData, last_time}
use Rattle.subpage.specs.Run.{run_bytes, time_at, IsRunTo}
use Rattle.page_pool.specs.declared.lane.Lane.{Lane}
use Rattle.page_write.specs.Adding.{HasRoom}
use Rattle.page_write.specs.PageBytes.{one_page}
use Rattle.event_cursor.specs.Stepping.{IsSteppedOver}

-- A run at a lane's place, which follows the last item that is held, and for which there is room.
pub record RunFits (lane : Lane) (held : List ItemData) (most : ℕ) (next : Mark) (count : ℕ) : Type 0 where
  pub run : IsRunTo lane.layout lane.page lane.cursor.mark next count
  pub some : 0 < count
  pub few : count ≤ most
  pub last : last_time held ≡ Some (time_at lane.cursor.mark)
  pub room : HasRoom lane.layout held (length (run_bytes lane.page lane.cursor.mark next))

-- its items were packed
pub record RunPacked (before now : Lane) (held held_now : List ItemData) (count : ℕ) : Type 0 where
  pub items : List ItemData
  pub long : length items ≡ count
  pub some : 0 < count
  pub over : IsSteppedOver items before now
  pub held_are : held_now ≡ held ++ items
  pub one : one_page before.layout held_now ≡ true

-- or there is none
abbrev pub IsRunPacked : Lane → Lane → List ItemData → List ItemData → ℕ → Type 0
IsRunPacked before now held held_now count =
    ((count ≡ 0) × ((now ≡ before) × (held_now ≡ held))) ⊎ RunPacked before now held held_now count
