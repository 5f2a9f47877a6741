-- The items of several files in one order, and where malformed sub-buffers end them.
-- Source: trace-cmd-report(1), which takes several `-i` and prints the events of all files in the order of their times.
use Rattle.std.specs.Prelude.{◌≡◌, ℕ, ◌+◌, Bool, true, false, ◌&&◌, ◌||◌, nat_lt, nat_le, ◌==◌, IsTrue, if◌then◌else◌, List, [], ◌∷◌, map, filter, filter_map, fold, flat_map, Option, Some, None, option_map}
use Rattle.std.specs.List.{All, Contains}
use Rattle.trace_base.specs.declared.layout.Layout.{Layout}
use Rattle.trace_base.specs.declared.part.Part.{Part}
use Rattle.line_holes.specs.Holes.{LineText}
use Rattle.subpage.specs.ItemData.{ItemData}
use Rattle.subpage.specs.Arrangement.{Keyed, IsRising, with_key, by_key, all_keyed}
use Rattle.subpage.specs.Cut.{Cut, is_before, cut_of, cuts_of, lists_of}

-- What is shown of one of several files: its name, the number of its processors, the parts of those that are selected, and
-- the line of an item of a processor.
pub record ShownFile : Type 0 where
  pub name : List ℕ
  pub cpus : ℕ
  pub layout : Layout
  pub bytes : List ℕ
  pub parts : List (ℕ × Part)
  pub text : ℕ → ItemData → LineText

-- files with their numbers, which count from 0
abbrev pub numbered_from : {X : Type 0} → ℕ → List X → List (ℕ × X)
numbered_from n [] = []
numbered_from n (x ∷ xs) = (n, x) ∷ numbered_from (n + 1) xs

abbrev pub numbered : {X : Type 0} → List X → List (ℕ × X)
numbered xs = numbered_from 0 xs

-- an item with its file
pub record FileItem : Type 0 where
  pub file : ℕ
  pub item : Keyed

abbrev pub in_file : ℕ → Keyed → FileItem
in_file n x = record { file = n; item = x }

abbrev pub key_in : FileItem → ℕ
key_in x = x.item.key

abbrev pub file_in : FileItem → ℕ
file_in x = x.file

abbrev pub cpu_in : FileItem → ℕ
cpu_in x = x.item.cpu

-- the items of all files, one file and one processor after another
abbrev pub items_of : ℕ × ShownFile → List FileItem
items_of file = map (in_file file.0) (all_keyed (lists_of file.1.layout file.1.bytes file.1.parts))

abbrev pub all_items : List ShownFile → List FileItem
all_items files = flat_map items_of (numbered files)

-- The items of all files: keys rise, those of one key rise by file, those of one key and one file rise by processor, and
-- those of one processor of a file stand as they stand in its list.
pub record IsArranged (files : List ShownFile) (xs : List FileItem) : Type 0 where
  pub by_keys : IsRising key_in xs
  pub by_files : (k : ℕ) → IsRising file_in (with_key key_in k xs)
  pub by_processors : (k f : ℕ) → IsRising cpu_in (with_key file_in f (with_key key_in k xs))
  pub by_positions : (f c : ℕ) → with_key cpu_in c (with_key file_in f xs) ≡ with_key cpu_in c (with_key file_in f (all_items files))

-- the same, computed
unfoldable pub arranged : List ShownFile → List FileItem
arranged files = by_key key_in (all_items files)

-- a cut with its file
pub record FileCut : Type 0 where
  pub file : ℕ
  pub cut : Cut

abbrev pub cut_in : ℕ → Cut → FileCut
cut_in n cut = record { file = n; cut = cut }

-- the cuts of all processors of all files
abbrev pub all_cuts : List ShownFile → List FileCut
all_cuts files = flat_map (λ file. map (cut_in file.0) (cuts_of file.1.layout file.1.bytes file.1.parts)) (numbered files)

-- of one key, or both at the very start
abbrev pub are_together : Option ℕ → Option ℕ → Bool
are_together None None = true
are_together None (Some y) = false
are_together (Some x) None = false
are_together (Some x) (Some y) = x == y

-- by start first, then key, then file, then processor
abbrev pub is_sooner : FileCut → FileCut → Bool
is_sooner a b =
    is_before a.cut.key a.file b.cut.key b.file
    || (are_together a.cut.key b.cut.key && (a.file == b.file && nat_lt a.cut.cpu b.cut.cpu))

-- The least of the cuts of all files: it is one of them, and none is sooner.
pub record IsLeast (cuts : List FileCut) (cut : FileCut) : Type 0 where
  pub one : Contains cuts cut
  pub least : All (λ other. ¬ (IsTrue (is_sooner other cut))) cuts

-- the same, computed: the least of the files' own least cuts, of which each file has at most one
abbrev pub sooner : Option FileCut → FileCut → Option FileCut
sooner None b = Some b
sooner (Some a) b = if is_before b.cut.key b.file a.cut.key a.file then Some b else Some a

abbrev pub own_cut : ShownFile → Option Cut
own_cut file = cut_of file.layout file.bytes file.parts

abbrev pub own_cut_in : ℕ × ShownFile → Option FileCut
own_cut_in file = option_map (cut_in file.0) (own_cut file.1)

unfoldable pub cut_of_files : List ShownFile → Option FileCut
cut_of_files files = fold sooner None (filter_map own_cut_in (numbered files))

-- at or before a cut by key, then file, then processor; any item where there is none
abbrev pub is_up_to : Option FileCut → FileItem → Bool
is_up_to None x = true
is_up_to (Some cut) x = reaches cut.cut.key
  where
    reaches : Option ℕ → Bool
    reaches None = false
    reaches (Some key) = nat_lt x.item.key key || (x.item.key == key && (nat_lt x.file cut.file || (x.file == cut.file && nat_le x.item.cpu cut.cut.cpu)))

-- the arranged items up to the least cut
unfoldable pub reached : List ShownFile → List FileItem
reached files = filter (is_up_to (cut_of_files files)) (arranged files)
