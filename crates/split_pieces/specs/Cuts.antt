-- What a split makes of the processors' parts of a file, each told by its number and its place.
-- Source: trace-cmd-split(1). Which malformed sub-buffer ends a split is a choice of this project.
use Rattle.std.specs.Prelude.{ℕ, Bool, true, false, ◌&&◌, if◌then◌else◌, List, [], ◌∷◌, map, filter_map, slice_get, Option, None, option_map}
use Rattle.trace_base.specs.declared.layout.Layout.{Layout}
use Rattle.trace_base.specs.declared.part.Part.{Part}
use Rattle.subpage.specs.ItemData.{ItemData}
use Rattle.subpage.specs.Processor.{list_of, bad_of}
use Rattle.subpage.specs.Arrangement.{Keyed, keyed_from, with_key, cpu_of}
use Rattle.subpage.specs.Cut.{cut_of, reached_of}
use Rattle.subpage.specs.CutPlaces.{place_at, place_of}
use Rattle.subpage.specs.declared.cut_place.CutPlace.{CutPlace}
use Rattle.word_values.specs.declared.piece.PieceUnit.{PieceUnit}
use Rattle.word_values.specs.declared.piece.PieceUnit.TheVariants.{All, Nanos, Events}
use Rattle.split_pieces.specs.declared.rules.Rules.{Rules}
use Rattle.split_pieces.specs.Pieces.{files, is_closed}

abbrev pub has_size : PieceUnit → Bool
has_size All = false
has_size (Nanos n) = true
has_size (Events n) = true

-- each processor's items are a list of their own
abbrev pub is_apart : Rules → Bool
is_apart rules = rules.per_cpu && has_size rules.unit

-- one processor's items, with their keys
abbrev pub own_list : Layout → List ℕ → ℕ × Part → List Keyed
own_list layout file part = keyed_from part.0 0 (list_of layout file part.1)

-- the lists that are cut: each processor's, or the one of all reached items
abbrev pub lists_to_cut : Rules → Layout → List ℕ → List (ℕ × Part) → List (List Keyed)
lists_to_cut rules layout file parts =
    if is_apart rules then map (own_list layout file) parts else reached_of layout file parts ∷ []

-- the items of each new file
abbrev pub file_items : Rules → Layout → List ℕ → List (ℕ × Part) → List (List Keyed)
file_items rules layout file parts = files rules (lists_to_cut rules layout file parts)

-- of a file's items, those of one processor
abbrev pub items_of_cpu : ℕ → List Keyed → List ItemData
items_of_cpu cpu xs = map (λ x. x.item) (with_key cpu_of cpu xs)

-- A malformed sub-buffer that a list leads to, since nothing closed the list before.
abbrev pub unless_closed : Rules → List Keyed → Option CutPlace → Option CutPlace
unless_closed rules xs bad = if is_closed rules xs then None else bad

abbrev pub own_bad : Rules → Layout → List ℕ → ℕ × Part → Option CutPlace
own_bad rules layout file part =
    unless_closed rules (own_list layout file part) (option_map (place_at part.0) (bad_of layout file part.1))

abbrev pub cut_bad : Rules → Layout → List ℕ → List (ℕ × Part) → Option CutPlace
cut_bad rules layout file parts =
    unless_closed rules (reached_of layout file parts) (option_map place_of (cut_of layout file parts))

-- the one that the split answers: the lowest processor's, or that of the least cut
abbrev pub bad_reached : Rules → Layout → List ℕ → List (ℕ × Part) → Option CutPlace
bad_reached rules layout file parts =
    if is_apart rules then slice_get (filter_map (own_bad rules layout file) parts) 0 else cut_bad rules layout file parts
