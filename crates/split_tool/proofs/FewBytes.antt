-- A new file is short, so that it reads back: each item of it stands in a sub-buffer at most, and the input has room for few
-- items.
use Rattle.std.proofs.Common.{◌≡◌, ℕ, zero, suc, ◌+◌, ◌*◌, ◌^◌, ◌<◌, ◌≤◌, Bool, true, false, eqb, leb, max, not, if◌then◌else◌, List, [], ◌∷◌, ◌++◌, length, drop, map, get_or, Option, Some, None, Ok, refl, ap, ◌∙◌, inl, inr, arith}
use Rattle.std.specs.List.{All, filter, flat_map, range_with_len}
use Rattle.std.proofs.lemmas.Bool.{cases_Bool, eqb-true, leb-true, leb-false}
use Rattle.std.proofs.lemmas.List.{length-append, length-map, length-replicate}
use Rattle.std.proofs.lemmas.List.Elements.{All-nil, All-cons, All-head, All-tail, All-append, All-drop, All-filter, All-map}
use Rattle.std.proofs.lemmas.Grind.{div_ceil_times}
use Rattle.std.proofs.Math.Nat.{mul-le-mul}
use Rattle.std.proofs.Math.Pow.{pow_mono}
use Rattle.std.proofs.lemmas.List.FromFn.{length-range_with_len}
use Rattle.trace_base.specs.declared.layout.Layout.{Layout}
use Rattle.trace_base.specs.declared.part.Part.{Part}
use Rattle.trace_base.specs.Layout.{IsLayout}
use Rattle.dat_options.specs.Place.{AreBytes}
use Rattle.dat_header.specs.declared.header.Header.{Header}
use Rattle.dat_header.specs.Allowed.{IsHeader, IsPageSize}
use Rattle.dat_header.specs.Header.{header_of}
use Rattle.dat_header.specs.Written.{header_text, without_instances}
use Rattle.trace_base.proofs.Layouts.{carried}
use Rattle.subpage.specs.ItemData.{ItemData, item_time}
use Rattle.subpage.specs.Processor.{list_of}
use Rattle.subpage.specs.Arrangement.{Keyed, cpu_of, with_key, key_of, by_key, keyed_from, all_keyed, arranged}
use Rattle.subpage.specs.Cut.{cut_of, is_up_to, reached_of, lists_of as lists_in}
use Rattle.page_write.specs.PageBytes.{IsPackable, one_page}
use Rattle.page_write.specs.Pack.{packed_behind, packed, pack}
use Rattle.page_write.specs.Placed.{data_of}
use Rattle.page_write.proofs.Lifting.{pack_len}
use Rattle.page_write.proofs.Packable.{IsBytes, list_packable}
use Rattle.word_values.specs.declared.moment.Moment.{Moment}
use Rattle.word_values.specs.declared.piece.PieceUnit.{PieceUnit}
use Rattle.split_pieces.specs.declared.rules.Rules.{Rules}
use Rattle.split_pieces.specs.Moments.{is_before}
use Rattle.split_pieces.specs.Cuts.{is_apart, items_of_cpu, own_list, lists_to_cut, file_items}
use Rattle.split_pieces.specs.Pieces.{piece, joined_lists, next_file, behind_file, files_when, files_within, files_left, files, from_start, left_in}
use Rattle.dat_header.specs.Tables.{blank}
use Rattle.split_tool.specs.NewFile.{front_len, front_text, table_of, file_text}
use Rattle.split_tool.proofs.Laid.{length-front, length-table, reads_back_all}
use Rattle.split_tool.proofs.Placing.{page_some}
use Rattle.split_tool.proofs.ShortHeader.{still_header, text_short}
use Rattle.split_tool.specs.Counted.{lists_of}
use Rattle.split_tool.specs.NewFiles.{ReadBack, files_from, new_files}
use Rattle.split_tool.proofs.FewItems.{Few}
use Rattle.split_pieces.proofs.SideBySide.{len_parts}
use Rattle.split_tool.proofs.Making.{cut_few, left_few}
use Rattle.split_tool.proofs.Owning.{all_piece, all_up}
use Rattle.split_tool.proofs.Tables.{lists_more}
use Rattle.time_merge.proofs.Parting.{all_by_key}
use Rattle.split_passes.proofs.PieceLaws.{filter_few}

abbrev Told : Layout → Keyed → Type 0
Told l x = IsPackable l x.item

-- EACH ITEM IS ONE PROCESSOR'S

abbrev items_in : List (List ItemData) → ℕ
items_in [] = 0
items_in (xs ∷ lists) = length xs + items_in lists

items_push : (lists : List (List ItemData)) (xs : List ItemData) → items_in (lists ++ xs ∷ []) ≡ items_in lists + length xs
items_push [] xs = omega arith
items_push (ys ∷ lists) xs = omega (arith, items_push lists xs)

abbrev from_cpu : ℕ → List Keyed → List Keyed
from_cpu n xs = filter (λ x. leb n x.cpu) xs

one_more : (n : ℕ) (xs : List Keyed) → length (with_key cpu_of n xs) + length (from_cpu (n + 1) xs) ≤ length (from_cpu n xs)
one_more n [] = omega arith
one_more n (x ∷ xs) = by_case (eqb x.cpu n) (leb (n + 1) x.cpu) (leb n x.cpu) refl refl refl (one_more n xs)
  where
    by_case : (own above least : Bool) → eqb x.cpu n ≡ own → leb (n + 1) x.cpu ≡ above → leb n x.cpu ≡ least
        → length (with_key cpu_of n xs) + length (from_cpu (n + 1) xs) ≤ length (from_cpu n xs)
        → length (with_key cpu_of n (x ∷ xs)) + length (from_cpu (n + 1) (x ∷ xs)) ≤ length (from_cpu n (x ∷ xs))
    by_case true true least o a e h = absurd (omega (arith, eqb-true x.cpu n o, leb-true (n + 1) x.cpu a))
    by_case true false true o a e h = rw (o, a, e) (omega (arith, h))
    by_case true false false o a e h = absurd (omega (arith, eqb-true x.cpu n o, leb-false n x.cpu e))
    by_case false true true o a e h = rw (o, a, e) (omega (arith, h))
    by_case false true false o a e h = absurd (omega (arith, leb-true (n + 1) x.cpu a, leb-false n x.cpu e))
    by_case false false true o a e h = rw (o, a, e) (omega (arith, h))
    by_case false false false o a e h = rw (o, a, e) h

owned_few : (n : ℕ) (xs : List Keyed) → items_in (lists_of n xs) + length (from_cpu n xs) ≤ length xs
owned_few zero xs = omega (arith, filter_few (λ x. leb 0 x.cpu) xs)
owned_few (suc n) xs =
    let next : suc n ≡ n + 1 = omega arith in
    let more : items_in (lists_of (suc n) xs) ≡ items_in (lists_of n xs ++ items_of_cpu n xs ∷ []) = ap (λ (k : ℕ). items_in (lists_of k xs)) next ∙ ap items_in (lists_more n xs) in
    let above : length (from_cpu (suc n) xs) ≡ length (from_cpu (n + 1) xs) = ap (λ (k : ℕ). length (from_cpu k xs)) next in
    omega (arith, more, above, items_push (lists_of n xs) (items_of_cpu n xs), length-map (with_key cpu_of n xs) (λ (x : Keyed). x.item), one_more n xs, owned_few n xs)

-- A FILE'S BYTES

few_behind : (l : Layout) (held xs : List ItemData) → length (packed_behind l held xs) ≤ length xs + 1
unfolding packed_behind
few_behind l held [] = omega arith
few_behind l held (x ∷ xs) = elim (cases_Bool (one_page l (held ++ x ∷ []))) [
  | inl more ↦ let h = few_behind l (held ++ x ∷ []) xs in rw more (omega (arith, h))
  | inr full ↦ let h = few_behind l (x ∷ []) xs in rw full (omega (arith, h))
]

-- an item takes at most one sub-buffer
packed_few : (l : Layout) (xs : List ItemData) → length (packed l xs) ≤ length xs
unfolding packed
packed_few l [] = omega arith
packed_few l (x ∷ xs) = omega (arith, few_behind l (x ∷ []) xs)

pack_most : (l : Layout) (xs : List ItemData) → IsLayout l → All (IsPackable l) xs → length (pack l xs) ≤ length xs * l.page
pack_most l xs allowed a =
    let same : l.page ≤ l.page = omega arith in
    let most : length (packed l xs) * l.page ≤ length xs * l.page = mul-le-mul (packed_few l xs) same in
    omega (arith, pack_len l xs allowed a, most)

data_most : (l : Layout) (lists : List (List ItemData)) → IsLayout l → All (All (IsPackable l)) lists → length (data_of l lists) ≤ items_in lists * l.page
unfolding data_of
data_most l [] allowed a = omega arith
data_most l (xs ∷ lists) allowed a =
    grind (arith, length-append (pack l xs) (flat_map (pack l) lists), pack_most l xs allowed (All-head (All (IsPackable l)) xs lists a), data_most l lists allowed (All-tail (All (IsPackable l)) xs lists a))

owned_told : (l : Layout) (from n : ℕ) (xs : List Keyed) → All (Told l) xs → All (All (IsPackable l)) (map (λ cpu. items_of_cpu cpu xs) (range_with_len from n))
owned_told l from zero xs a = All-nil (All (IsPackable l))
owned_told l from (suc n) xs a =
    All-cons (All (IsPackable l)) (items_of_cpu from xs) (map (λ cpu. items_of_cpu cpu xs) (range_with_len (from + 1) n))
    (All-map (IsPackable l) (λ (x : Keyed). x.item) (with_key cpu_of from xs) (All-filter (λ x. eqb x.cpu from) (Told l) xs a)) (owned_told l (from + 1) n xs a)

lists_long : (cpus : ℕ) (xs : List Keyed) → length (lists_of cpus xs) ≡ cpus
lists_long cpus xs = length-map (range_with_len 0 cpus) (λ cpu. items_of_cpu cpu xs) ∙ length-range_with_len 0 cpus

page_most : (page : ℕ) → IsPageSize page → page ≤ 65536
page_most page p = omega (arith, p.3, pow_mono p.2)

front_most : (header : Header) → IsHeader header → front_len header ≤ length (header_text header (blank header.cpus)) + 65536
unfolding front_len
front_most header allowed =
    let long = length (header_text header (blank header.cpus)) in
    omega (arith, (div_ceil_times long header.page (page_some header.page allowed.page)).1, page_most header.page allowed.page)

text_most : (header : Header) (xs : List Keyed) (n : ℕ) → IsHeader header → All (Told header.layout) xs → length xs ≤ n
    → length (file_text header (lists_of header.cpus xs)) ≤ length (header_text header (blank header.cpus)) + 65536 + n * 262144
unfolding file_text
text_most header xs n allowed told few =
    let l = header.layout in
    let layout = carried header.layout in
    let lists = lists_of header.cpus xs in
    let table = table_of header lists in
    let owned : items_in lists ≤ n = omega (arith, owned_few header.cpus xs, few) in
    let most : items_in lists * l.page ≤ n * 262144 = mul-le-mul owned layout.page_most in
    let many : length table ≡ header.cpus = length-table header lists ∙ lists_long header.cpus xs in
    omega (
      arith,
      length-append (front_text header table) (data_of l lists),
      length-front header table allowed many,
      front_most header allowed,
      data_most l lists layout (owned_told l 0 header.cpus xs told),
      most,
    )

-- WHAT A FILE TAKES

record Fits (l : Layout) (most : ℕ) (xs : List Keyed) : Type 0 where
  few : Few (length xs) most
  told : All (Told l) xs

module _ (P : Keyed → Type 0) where
  all_next : (unit : PieceUnit) (lists : List (List Keyed)) → All (All P) lists → All P (next_file unit lists)
  all_next unit [] a = All-nil P
  all_next unit (xs ∷ lists) a =
      All-append P (piece unit xs) (next_file unit lists) (all_piece P unit xs (All-head (All P) xs lists a)) (all_next unit lists (All-tail (All P) xs lists a))

  all_behind : (unit : PieceUnit) (lists : List (List Keyed)) → All (All P) lists → All (All P) (behind_file unit lists)
  all_behind unit [] a = a
  all_behind unit (xs ∷ lists) a =
      let size = length (piece unit xs) in
      All-cons (All P) (drop size xs) (behind_file unit lists) (All-drop P size xs (All-head (All P) xs lists a)) (all_behind unit lists (All-tail (All P) xs lists a))

  all_start : (start : Option Moment) (xs : List Keyed) → All P xs → All P (from_start start xs)
  all_start None xs a = a
  all_start (Some m) xs a = All-filter (λ x. not (is_before m x.key)) P xs a

  all_left : (rules : Rules) (lists : List (List Keyed)) → All (All P) lists → All (All P) (map (left_in rules) lists)
  all_left rules lists a = All-map (All P) (left_in rules) lists (λ i d lt.
      let xs = get_or lists i d in
      all_up P rules.stop (from_start rules.start xs) (all_start rules.start xs (a i d lt)))

all_when : (Q : List Keyed → Type 0) (all : List Keyed) (more : List (List Keyed)) → All Q more → All Q (files_when all more)
all_when Q [] more a = All-nil Q
all_when Q (x ∷ xs) more a = a

next_fits : (l : Layout) (most : ℕ) (unit : PieceUnit) (lists : List (List Keyed)) → All (All (Told l)) lists → Few (length (joined_lists lists)) most → Fits l most (next_file unit lists)
next_fits l most unit lists told few = record { few = omega (arith, len_parts unit lists, few); told = all_next (Told l) unit lists told }

within_fit : (l : Layout) (most : ℕ) (unit : PieceUnit) (n : ℕ) (lists : List (List Keyed)) → All (All (Told l)) lists → Few (length (joined_lists lists)) most → All (Fits l most) (files_within unit n lists)
within_fit l most unit zero lists told few = All-nil (Fits l most)
within_fit l most unit (suc n) lists told few =
    let behind = behind_file unit lists in
    all_when (Fits l most) (joined_lists lists) (next_file unit lists ∷ files_within unit n behind)
    (All-cons (Fits l most) (next_file unit lists) (files_within unit n behind) (next_fits l most unit lists told few)
    (within_fit l most unit n behind (all_behind (Told l) unit lists told) (omega (arith, len_parts unit lists, few))))

files_fit : (l : Layout) (most : ℕ) (rules : Rules) (lists : List (List Keyed)) → All (All (Told l)) lists → Few (length (joined_lists lists)) most → All (Fits l most) (files rules lists)
files_fit l most rules lists told few =
    let left = map (left_in rules) lists in
    let left_told = all_left (Told l) rules lists told in
    let fewer : Few (length (joined_lists left)) most = omega (arith, left_few rules lists, few) in
    let behind = behind_file rules.unit left in
    let more : All (Fits l most) (files_left rules.unit behind) =
    within_fit l most rules.unit (length (joined_lists behind)) behind (all_behind (Told l) rules.unit left left_told) (omega (arith, len_parts rules.unit left, fewer)) in
    All-cons (Fits l most) _ _ (next_fits l most rules.unit left left_told fewer) (by_repeat rules.repeat (files_left rules.unit behind) more)
  where
    by_repeat : (b : Bool) (more : List (List Keyed)) → All (Fits l most) more → All (Fits l most) (if b then more else [])
    by_repeat true more a = a
    by_repeat false more a = All-nil (Fits l most)

-- WHAT THE INPUT TELLS

keyed_told : (l : Layout) (cpu high : ℕ) (xs : List ItemData) → All (IsPackable l) xs → All (Told l) (keyed_from cpu high xs)
keyed_told l cpu high [] a = All-nil (Told l)
keyed_told l cpu high (x ∷ xs) a = All-cons (Told l) _ _ (All-head (IsPackable l) x xs a) (keyed_told l cpu (max high (item_time x)) xs (All-tail (IsPackable l) x xs a))

own_told : (l : Layout) (file : List ℕ) (part : ℕ × Part) → IsLayout l → IsBytes file → All (Told l) (own_list l file part)
own_told l file part allowed bytes = keyed_told l part.0 0 (list_of l file part.1) (list_packable l file part.1 allowed bytes)

all_told : (l : Layout) (file : List ℕ) (parts : List (ℕ × Part)) → IsLayout l → IsBytes file → All (Told l) (all_keyed (lists_in l file parts))
all_told l file [] allowed bytes = All-nil (Told l)
all_told l file (p ∷ parts) allowed bytes =
    All-append (Told l) (own_list l file p) (all_keyed (lists_in l file parts)) (own_told l file p allowed bytes) (all_told l file parts allowed bytes)

reached_told : (l : Layout) (file : List ℕ) (parts : List (ℕ × Part)) → IsLayout l → IsBytes file → All (Told l) (reached_of l file parts)
unfolding reached_of arranged
reached_told l file parts allowed bytes =
    let all = all_keyed (lists_in l file parts) in
    All-filter (is_up_to (cut_of l file parts)) (Told l) (by_key key_of all) (all_by_key key_of (Told l) all (all_told l file parts allowed bytes))

cut_told : (l : Layout) (file : List ℕ) (rules : Rules) (parts : List (ℕ × Part)) → IsLayout l → IsBytes file → All (All (Told l)) (lists_to_cut rules l file parts)
cut_told l file rules parts allowed bytes = by_apart (is_apart rules)
  where
    by_apart : (b : Bool) → All (All (Told l)) (if b then map (own_list l file) parts else reached_of l file parts ∷ [])
    by_apart true = All-map (All (Told l)) (own_list l file) parts (λ i d lt. own_told l file (get_or parts i d) allowed bytes)
    by_apart false = All-cons (All (Told l)) (reached_of l file parts) [] (reached_told l file parts allowed bytes) (All-nil (All (Told l)))

-- ALL NEW FILES

named_back : (header : Header) (base : List ℕ) (number most : ℕ) (lists : List (List Keyed)) → IsHeader header → length (header_text header (blank header.cpus)) ≤ 2 ^ 41 → most ≤ 1024 * 2 ^ 39
    → All (Fits header.layout most) lists → ReadBack header lists (files_from header base number lists)
named_back header base number most [] allowed text few fit = tt
named_back header base number most (xs ∷ lists) allowed text few fit =
    let Fitting : List Keyed → Type 0 = Fits header.layout most in
    let here : Fitting xs = All-head Fitting xs lists fit in
    let items : length xs ≤ 70367670452223 = omega (arith, here.few, few) in
    let short : length (file_text header (lists_of header.cpus xs)) < 2 ^ 64 = omega (arith, text_most header xs 70367670452223 allowed here.told items, text) in (
      reads_back_all header (lists_of header.cpus xs) allowed (lists_long header.cpus xs) (owned_told header.layout 0 header.cpus xs here.told) short,
      named_back header base (number + 1) most lists allowed text few (All-tail Fitting xs lists fit),
    )

are_bytes : (bytes : List ℕ) → AreBytes bytes → IsBytes bytes
are_bytes [] are i = omega arith
are_bytes (b ∷ bytes) are zero = All-head (λ byte. byte < 256) b bytes are
are_bytes (b ∷ bytes) are (suc i) = are_bytes bytes (All-tail (λ byte. byte < 256) b bytes are) i

pub files_back : (rules : Rules) (base : List ℕ) (header : Header) (bytes : List ℕ) (parts : List (ℕ × Part)) → AreBytes bytes → header_of bytes ≡ Ok header → IsHeader header → length bytes ≤ 2 ^ 39 → length parts ≤ 1024
    → ReadBack (without_instances header) (file_items rules header.layout bytes parts) (new_files rules base (without_instances header) bytes parts)
files_back rules base header bytes parts are read is small some =
    let l = header.layout in
    let layout = carried header.layout in
    let lists = lists_to_cut rules l bytes parts in
    named_back (without_instances header) base 1 (length parts * length bytes) (file_items rules l bytes parts) (still_header header is)
    (text_short header bytes (blank header.cpus) read is.cpus (length-replicate header.cpus _) small) (mul-le-mul some small)
    (files_fit l (length parts * length bytes) rules lists (cut_told l bytes rules parts layout (are_bytes bytes are)) (cut_few l bytes rules parts layout))
