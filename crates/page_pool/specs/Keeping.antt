-- What a call leaves of a lane as it was.
use Rattle.std.specs.Prelude.{◌≡◌, ◌≤◌, Bool, true, false}
use Rattle.page_pool.specs.declared.lane.Lane.{Lane}

-- what a call may change: the lines that the lane keeps; which sub-buffer it holds, if it holds one; the next sub-buffer, to an
-- earlier one; its greatest time; anything of its cursor
pub record MayChange : Type 0 where
  pub region : Bool
  pub page : Bool
  pub back : Bool
  pub high : Bool
  pub cursor : Bool

abbrev pub Unless : Bool → Type 0 → Type 0
Unless true fact = Unit {0}
Unless false fact = fact

-- The lane is still its processor's, has its layout, and has all that may not change.
pub record KeepsLane (may : MayChange) (before now : Lane) : Type 0 where
  pub cpu : now.cpu ≡ before.cpu
  pub layout : now.layout ≡ before.layout
  pub part : now.part ≡ before.part
  pub region : Unless may.region (now.region ≡ before.region)
  pub page : Unless may.page (now.page ≡ before.page)
  pub state : Unless may.page (now.cursor.state ≡ before.cursor.state)
  pub held : Unless may.page (now.cursor.held ≡ before.cursor.held)
  pub next : Unless may.page (now.cursor.next ≡ before.cursor.next)
  pub forward : Unless may.back (before.cursor.next ≤ now.cursor.next)
  pub high : Unless may.high (now.cursor.high ≡ before.cursor.high)
  pub cursor : Unless may.cursor (now.cursor ≡ before.cursor)

-- its next sub-buffers are loaded, and nothing of it is used up
abbrev pub loading : MayChange
loading = record { region = false; page = true; back = false; high = false; cursor = true }

-- it goes to another place
abbrev pub seeking : MayChange
seeking = record { region = false; page = true; back = true; high = true; cursor = true }

-- items of the held sub-buffer are used up
abbrev pub stepping : MayChange
stepping = record { region = false; page = false; back = false; high = true; cursor = true }

-- and become lines
abbrev pub forming : MayChange
forming = record { region = true; page = false; back = false; high = true; cursor = true }

-- lines are printed
abbrev pub printing : MayChange
printing = record { region = true; page = false; back = false; high = false; cursor = false }
