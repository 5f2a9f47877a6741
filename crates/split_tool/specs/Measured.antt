-- The pieces of a file that were gone through.
use Rattle.std.specs.Prelude.{◌≡◌, ℕ, ◌<◌, Bool, true, false, ◌&&◌, ◌||◌, List, ◌++◌, length, slice_index_or, Option, Some, None}
use Rattle.std.specs.Option.{option_or}
use Rattle.std.specs.List.{All}
use Rattle.subpage.specs.Arrangement.{Keyed}
use Rattle.subpage.specs.declared.cut_place.CutPlace.{CutPlace}
use Rattle.page_pool.specs.declared.lane.Lane.{Lane}
use Rattle.event_cursor.specs.Standing.{Stands, left_of}
use Rattle.time_merge.specs.LaneRows.{rows_of}
use Rattle.split_pieces.specs.declared.rules.Rules.{Rules}
use Rattle.split_pieces.specs.Cuts.{items_of_cpu}
use Rattle.split_pieces.specs.Pieces.{piece, rest, is_some_left, joined_lists, next_file, behind_file}
use Rattle.split_passes.specs.ListSeen.{ListSeen}
use Rattle.split_passes.specs.declared.tally.Tally.{Tally}
use Rattle.split_passes.specs.declared.measuring.PieceEnd.{PieceEnd}
use Rattle.split_passes.specs.declared.measuring.PieceEnd.TheVariants as code
use Rattle.split_passes.specs.Measures.{Passed, Tallied}
use Rattle.split_tool.specs.declared.lists.Ends.{Ends}
use Rattle.split_tool.specs.Lists.{EachList, lanes_of, left_in_rows, bad_in_rows, lists_left, bad_left}

abbrev pub is_full : PieceEnd → Bool
is_full code.Full = true
is_full code.Past = false
is_full code.Done = false
is_full (code.Malformed cut) = false

abbrev pub bad_of_end : PieceEnd → Bool → Option CutPlace
bad_of_end (code.Malformed cut) false = Some cut
bad_of_end (code.Malformed cut) true = None
bad_of_end code.Full closed = None
bad_of_end code.Past closed = None
bad_of_end code.Done closed = None

-- what lanes of one list have left of it
abbrev pub list_left : List ℕ → Rules → List Lane → List Keyed
list_left file rules lanes = left_in_rows rules.stop (rows_of file lanes)

-- the piece of one list was taken, and the rest of the list is left
pub record PieceTaken (file : List ℕ) (rules : Rules) (first now : List Lane) (tallies : List Tally) : Type 0 where
  pub taken : List Keyed
  pub passed : Passed file first now taken
  pub tallied : Tallied first taken tallies
  pub piece : taken ≡ piece rules.unit (list_left file rules first)
  pub left : list_left file rules now ≡ rest rules.unit (list_left file rules first)
  pub bad : rules.repeat ≡ true → bad_in_rows rules (rows_of file now) ≡ bad_in_rows rules (rows_of file first)

-- the lanes of a list, and what is left after the pieces of this list and of those before it
pub record ListsBehind : Type 0 where
  pub lanes : List Lane
  pub ends : Ends

-- The same beside the lists before it: whether one of them goes on, and the first malformed sub-buffer that one of them leads to,
-- of which nothing is said while a list goes on.
pub record ListMeasured (file : List ℕ) (rules : Rules) (before now : ListsBehind) (tallies : List Tally) : Type 0 where
  pub taken : PieceTaken file rules before.lanes now.lanes tallies
  pub more : now.ends.more ≡ (before.ends.more || is_some_left (list_left file rules now.lanes))
  pub bad : (now.ends.more && rules.repeat) ≡ false
      → now.ends.bad ≡ option_or before.ends.bad (bad_in_rows rules (rows_of file before.lanes))

-- what a file takes of lanes
abbrev pub taken_of : List ℕ → Rules → List Lane → List Keyed
taken_of file rules lanes = next_file rules.unit (lists_left file rules lanes)

-- What is left after a file that took its pieces: of each list the rest of it, whether an item is left, and the first malformed
-- sub-buffer that a list leads to, where no further file is made.
pub record FileLeft (file : List ℕ) (rules : Rules) (first now : List Lane) (ends : Ends) : Type 0 where
  pub stands : All (Stands file) now
  pub left : lists_left file rules now ≡ behind_file rules.unit (lists_left file rules first)
  pub more : ends.more ≡ is_some_left (joined_lists (lists_left file rules now))
  pub bad_ends : (ends.more && rules.repeat) ≡ false → ends.bad ≡ bad_left file rules first
  pub bad : rules.repeat ≡ true → bad_left file rules now ≡ bad_left file rules first

-- each lane of a list went on after its own of these items
abbrev pub OwnBehind : List ℕ → List Keyed → List Lane → List Lane → Type 0
OwnBehind file taken first now =
    (i : ℕ) (d : Lane) → i < length first
    → left_of file (slice_index_or first i d)
    ≡ items_of_cpu (slice_index_or first i d).cpu taken ++ left_of file (slice_index_or now i d)

-- the pieces of all lists were taken: each lane went on after its own items of them, and they were tallied
pub record FileMeasured (file : List ℕ) (rules : Rules) (first now : List ListSeen) (ends : Ends) : Type 0 where
  pub left : FileLeft file rules (lanes_of first) (lanes_of now) ends
  pub lefts : EachList (λ before after. OwnBehind file (taken_of file rules (lanes_of first)) before.all after.all) first now
  pub tallied : EachList (λ before after. Tallied before.all (taken_of file rules (lanes_of first)) after.tallies) first now
