-- The lists that a split cuts, as rows of lanes have them left.
use Rattle.std.specs.Prelude.{◌≡◌, ℕ, ◌<◌, Bool, true, false, ◌&&◌, ◌||◌, not, if◌then◌else◌, List, [], ◌∷◌, length, map, filter_map, slice_get, slice_index_or, Option, None, option_map}
use Rattle.std.specs.List.{All, flat_map}
use Rattle.subpage.specs.Arrangement.{Keyed, key_of, cpu_of}
use Rattle.subpage.specs.CutPlaces.{place_of}
use Rattle.subpage.specs.declared.cut_place.CutPlace.{CutPlace}
use Rattle.page_pool.specs.declared.lane.Lane.{Lane}
use Rattle.time_merge.specs.Rows.{Row, coming, least_cut}
use Rattle.time_merge.specs.LaneRows.{rows_of}
use Rattle.word_values.specs.declared.moment.Moment.{Moment}
use Rattle.split_pieces.specs.declared.rules.Rules.{Rules}
use Rattle.split_pieces.specs.Cuts.{is_apart}
use Rattle.split_passes.specs.ListSeen.{ListSeen}
use Rattle.split_pieces.specs.Pieces.{up_to_end, has_end, unit_closes, next_file, behind_file, files_left}

-- FILES OF LISTS THAT ARE LEFT

-- the files after the next one
abbrev pub files_behind : Rules → List (List Keyed) → List (List Keyed)
files_behind rules lists = if rules.repeat then files_left rules.unit (behind_file rules.unit lists) else []

-- those of lists without what start and end leave out
abbrev pub files_of : Rules → List (List Keyed) → List (List Keyed)
files_of rules lists = next_file rules.unit lists ∷ files_behind rules lists

-- LISTS OF ROWS

-- all as one list, or each as one by itself
abbrev pub groups : {X : Type 0} → Rules → List X → List (List X)
groups rules xs = if is_apart rules then map (λ x. x ∷ []) xs else xs ∷ []

-- what rows have to come, and what the end leaves of it
abbrev pub come_of : List (Row Keyed) → List Keyed
come_of rows = coming key_of cpu_of rows

abbrev pub left_in_rows : Option Moment → List (Row Keyed) → List Keyed
left_in_rows stop rows = up_to_end stop (come_of rows)

-- the malformed sub-buffer that a list of rows leads to, since nothing closes the list before
abbrev pub closes_rows : Rules → List (Row Keyed) → Bool
closes_rows rules rows =
    has_end rules.stop (come_of rows) || (not rules.repeat && unit_closes rules.unit (left_in_rows rules.stop rows))

abbrev pub bad_in_rows : Rules → List (Row Keyed) → Option CutPlace
bad_in_rows rules rows =
    if closes_rows rules rows then None else option_map place_of (least_cut rows)

-- what each list of lanes has left
abbrev pub lists_left : List ℕ → Rules → List Lane → List (List Keyed)
lists_left file rules lanes = map (left_in_rows rules.stop) (groups rules (rows_of file lanes))

-- and the first malformed sub-buffer that one of them leads to
abbrev pub bad_left : List ℕ → Rules → List Lane → Option CutPlace
bad_left file rules lanes = slice_get (filter_map (bad_in_rows rules) (groups rules (rows_of file lanes))) 0

-- LISTS OF LANES

-- the lanes of all lists
abbrev pub lanes_of : List ListSeen → List Lane
lanes_of lists = flat_map (λ list. list.all) lists

-- all lanes are one list, or each is one by itself
abbrev pub AreGroups : Bool → List ListSeen → Type 0
AreGroups true lists = All (λ list. length list.all ≡ 1) lists
AreGroups false lists = length lists ≡ 1

-- of each list, before and now
abbrev pub EachList : (ListSeen → ListSeen → Type 0) → List ListSeen → List ListSeen → Type 0
EachList P before now = (i : ℕ) (d : ListSeen) → i < length before → P (slice_index_or before i d) (slice_index_or now i d)
