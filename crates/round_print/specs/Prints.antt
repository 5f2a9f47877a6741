-- The lines that a round prints: of each lane those that it keeps up to the horizon, all of them in one order.
use Rattle.std.specs.Prelude.{◌≡◌, ◌≤◌, ℕ, if◌then◌else◌, List, [], ◌∷◌, length, map, take, drop, Option, None}
use Rattle.std.specs.List.{All, flat_map}
use Rattle.tournament_tree.specs.declared.slot_key.SlotKey.{SlotKey}
use Rattle.tournament_tree.specs.declared.slot_key.SlotKey.TheVariants.{Empty, At}
use Rattle.subpage.specs.Arrangement.{IsRising, by_key}
use Rattle.line_holes.specs.Holes.{LineText, line_text, hole_time, filled_bytes, along, last_time}
use Rattle.page_pool.specs.Lines.{Line, Lines}
use Rattle.page_pool.specs.Limits.{most_of}
use Rattle.page_pool.specs.declared.lane.Lane.{Lane}
use Rattle.time_merge.specs.declared.horizons.Horizon.{Horizon}
use Rattle.time_merge.specs.Horizons.{is_due}

-- a line of a processor
pub record CpuLine : Type 0 where
  pub key : ℕ
  pub cpu : ℕ
  pub text : LineText

abbrev pub key_in : CpuLine → ℕ
key_in line = line.key

abbrev pub cpu_in : CpuLine → ℕ
cpu_in line = line.cpu

abbrev pub with_cpu : ℕ → Line → CpuLine
with_cpu cpu line = record { key = line.key; cpu = cpu; text = line.text }

abbrev pub with_cpus : ℕ → List Line → List CpuLine
with_cpus cpu lines = map (with_cpu cpu) lines

-- a processor's lines up to the first that is not due, and the others
abbrev pub due_lines : Horizon → ℕ → List Line → List CpuLine
due_lines h cpu [] = []
due_lines h cpu (line ∷ lines) = if is_due h line.key cpu then with_cpu cpu line ∷ due_lines h cpu lines else []

abbrev pub later_lines : Horizon → ℕ → List Line → List Line
later_lines h cpu [] = []
later_lines h cpu (line ∷ lines) = if is_due h line.key cpu then later_lines h cpu lines else line ∷ lines

-- those of a lane
abbrev pub due_of : Horizon → Lane → List CpuLine
due_of h lane = due_lines h lane.cpu lane.region.kept

abbrev pub later_of : Horizon → Lane → List Line
later_of h lane = later_lines h lane.cpu lane.region.kept

-- what a round prints: the lines that are due, by key, then processor, then position
unfoldable pub printed : Horizon → List Lane → List CpuLine
printed h lanes = by_key key_in (flat_map (due_of h) lanes)

abbrev pub text_of : List CpuLine → List ℕ
text_of lines = flat_map (λ line. line.text.bytes) lines

abbrev pub line_time : CpuLine → Option ℕ
line_time line = hole_time line.text

-- a line that is filled from the last time has no hole any more
abbrev pub fill_line : Option ℕ → CpuLine → CpuLine
fill_line last line = record line { text = line_text (filled_bytes last line.text) None }

-- lines that are filled, one after another, from the last time on
abbrev pub filled : Option ℕ → List CpuLine → List CpuLine
filled last lines = along line_time fill_line last lines

-- their text
abbrev pub filled_text : Option ℕ → List CpuLine → List ℕ
filled_text last lines = text_of (filled last lines)

-- the last time after lines
abbrev pub last_of : Option ℕ → List CpuLine → Option ℕ
last_of last lines = last_time line_time last lines

-- the key of the first line, if there is one
abbrev pub first_key : List CpuLine → SlotKey
first_key [] = Empty
first_key (line ∷ lines) = At line.key

abbrev pub head_due : Horizon → Lane → SlotKey
head_due h lane = first_key (due_of h lane)

-- the key of the first line that a lane keeps, if it keeps one
abbrev pub first_of : List Line → SlotKey
first_of [] = Empty
first_of (line ∷ lines) = At line.key

abbrev pub head_kept : Lane → SlotKey
head_kept lane = first_of lane.region.kept

abbrev pub line_key : Line → ℕ
line_key line = line.key

-- the keys of its kept lines do not fall
abbrev pub KeysRise : Lane → Type 0
KeysRise lane = IsRising line_key lane.region.kept

-- no kept line has a later key
abbrev pub KeysUpTo : ℕ → Lane → Type 0
KeysUpTo last lane = All (λ line. line.key ≤ last) lane.region.kept

-- A region that keeps no line has all bytes free, and as many lines can be put as at first.
pub record IsTidy (lines : Lines) : Type 0 where
  pub used : lines.kept ≡ [] → lines.used ≡ 0
  pub free : lines.kept ≡ [] → length lines.free ≡ lines.room

-- A region keeps no more lines than were put since all bytes were free, and these are not too many.
pub record IsFew (lines : Lines) : Type 0 where
  pub kept : length lines.kept ≤ lines.used
  pub used : lines.used ≤ most_of lines.limit

-- the first few lines are not kept any more, and the region is tidy
pub record IsDropped (count : ℕ) (before now : Lines) : Type 0 where
  pub kept : now.kept ≡ drop count before.kept
  pub room : now.room ≡ before.room
  pub limit : now.limit ≡ before.limit
  pub tidy : IsTidy now
  pub few : IsFew before → IsFew now

-- the first few lines that a lane keeps
abbrev pub front_of : ℕ → Lane → List CpuLine
front_of count lane = with_cpus lane.cpu (take count lane.region.kept)

-- no line has a hole
abbrev pub ArePlain : List Line → Type 0
ArePlain lines = All (λ line. line.text.hole ≡ None) lines
