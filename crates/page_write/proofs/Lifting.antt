-- The sub-buffers of a processor's items read back, one after another, to these items.
use Rattle.std.proofs.Common.{◌≡◌, ℕ, ◌+◌, ◌-◌, ◌*◌, ◌%◌, ◌^◌, ◌<◌, ◌≤◌, true, leb, List, [], ◌∷◌, ◌++◌, map, length, take, drop, Option, Some, None, refl, sym, ap, subst, ◌∙◌, inl, inr, append_assoc, append-nil, arith}
use Rattle.std.specs.Int.{div_ceil}
use Rattle.std.specs.Option.{is_none}
use Rattle.std.specs.List.{All, flat_map, position_from}
use Rattle.std.proofs.Math.Nat.{mod-eq_of_lt}
use Rattle.std.proofs.lemmas.Bool.{cases_lt, le-leb}
use Rattle.std.proofs.lemmas.List.{length-append, length-replicate, take_at, drop_at}
use Rattle.std.proofs.lemmas.List.Elements.{All-cons, All-nil, All-head, All-tail}
use Rattle.trace_base.specs.declared.layout.Layout.{Layout}
use Rattle.trace_base.specs.declared.part.Part.{Part}
use Rattle.trace_base.specs.Layout.{IsLayout}
use Rattle.trace_base.specs.Parts.{part_of}
use Rattle.subpage.specs.ItemData.{ItemData}
use Rattle.subpage.specs.Page.{items}
use Rattle.subpage.specs.Processor.{is_there, page_bytes, items_at, page_count, pages_from, joined, list_of, bad_of}
use Rattle.subpage.proofs.Joining.{joined-some}
use Rattle.page_write.specs.Record.{zeros}
use Rattle.page_write.specs.PageBytes.{data_text, area_len, front_text, page_of, one_page, IsPackable}
use Rattle.page_write.specs.Pack.{Packed, nothing, begins_with, packed, pack}
use Rattle.page_write.specs.Placed.{IsPlaced, TellsBack, FitsPart, parts_from, data_of}
use Rattle.page_write.proofs.Pages.{front_long, room, page_reads_back}
use Rattle.page_write.proofs.Packing.{is_packed, joined_again}

-- a sub-buffer is as long as the layout says
length-page_of : (l : Layout) (xs : List ItemData) → IsLayout l → one_page l xs ≡ true → length (page_of l xs) ≡ l.page
unfolding page_of
length-page_of l xs allowed one =
    let text = data_text l xs in
    let padding = zeros (area_len l - length text) in
    omega (arith, length-append (front_text l xs) (text ++ padding), length-append text padding, front_long l xs allowed, length-replicate {A = ℕ} (area_len l - length text) 0, room l xs one, allowed.data_in_front, allowed.page_least)

All-front : {X : Type 0} (P : X → Type 0) (xs ys : List X) → All P (xs ++ ys) → All P xs
All-front P [] ys all = All-nil P
All-front P (x ∷ xs) ys all = All-cons P x xs (All-head P x (xs ++ ys) all) (All-front P xs ys (All-tail P x (xs ++ ys) all))

All-back : {X : Type 0} (P : X → Type 0) (xs ys : List X) → All P (xs ++ ys) → All P ys
All-back P [] ys all = all
All-back P (x ∷ xs) ys all = All-back P xs ys (All-tail P x (xs ++ ys) all)

all_tell : (l : Layout) (xs : List ItemData) (pages : List (List ItemData)) → IsLayout l → All (IsPackable l) xs → Packed l xs pages → All (TellsBack l) pages
all_tell l xs pages allowed ok nothing = All-nil (TellsBack l)
all_tell l xs pages allowed ok (begins_with y ys rest others one enough behind) =
    let page = y ∷ ys in
    All-cons (TellsBack l) page others
    (record { long = length-page_of l page allowed one; told = page_reads_back l page allowed (All-front (IsPackable l) page rest ok) one })
    (all_tell l rest others allowed (All-back (IsPackable l) page rest ok) behind)

pub all_pages_tell : (l : Layout) (xs : List ItemData) → IsLayout l → All (IsPackable l) xs → All (TellsBack l) (packed l xs)
all_pages_tell l xs allowed ok = all_tell l xs (packed l xs) allowed ok (is_packed l xs ok)

at_there : (l : Layout) (file : List ℕ) (part : Part) (k : ℕ) → is_there l file part k ≡ true → items_at l file part k ≡ items l (page_bytes l file part k)
unfolding items_at
at_there l file part k there = rw there refl

-- sub-buffers from number k on, after a front that ends where the first of them begins
pages_again : (l : Layout) (file : List ℕ) (part : Part) (pages : List (List ItemData)) (k : ℕ) (front after : List ℕ) → All (TellsBack l) pages → file ≡ front ++ (flat_map (page_of l) pages ++ after) → length front ≡ part.offset + k * l.page
    → (k + length pages) * l.page ≤ part.size → part.offset + part.size ≤ 2 ^ 64
    → pages_from l file part k (length pages) ≡ map (λ page. Some page) pages
pages_again l file part [] k front after tell whole at fits places = refl
pages_again l file part (p ∷ ps) k front after tell whole at fits places =
    let here = All-head (TellsBack l) p ps tell in
    let bytes = page_of l p in
    let rest = flat_map (page_of l) ps ++ after in
    let parted : file ≡ front ++ (bytes ++ rest) = whole ∙ ap (λ (t : List ℕ). front ++ t) (append_assoc bytes (flat_map (page_of l) ps) after) in
    let further : file ≡ (front ++ bytes) ++ rest = parted ∙ sym (append_assoc front bytes rest) in
    let next : length (front ++ bytes) ≡ part.offset + (k + 1) * l.page = grind (arith, length-append front bytes, here.long, at) in
    let whole_long : length file ≡ length (front ++ bytes) + length rest = ap length further ∙ length-append (front ++ bytes) rest in
    let more : (k + 1 + length ps) * l.page ≤ part.size = grind (arith, fits) in
    let within : (k + 1) * l.page ≤ part.size = grind (arith, more) in
    let one : leb ((k + 1) * l.page) part.size ≡ true = le-leb _ _ within in
    let two : leb (part.offset + (k + 1) * l.page) (length file) ≡ true = le-leb _ _ (omega (arith, whole_long, next)) in
    let three : leb (part.offset + (k + 1) * l.page) (2 ^ 64) ≡ true = le-leb _ _ (omega (arith, within, places)) in
    let there : is_there l file part k ≡ true = rw (one, two, three) refl in
    let page_is : page_bytes l file part k ≡ bytes =
    ap (λ (f : List ℕ). take l.page (drop (part.offset + k * l.page) f)) parted
    ∙ ap (take l.page) (drop_at front (bytes ++ rest) (part.offset + k * l.page) at)
    ∙ take_at bytes rest l.page here.long in
    let first : items_at l file part k ≡ Some p = at_there l file part k there ∙ ap (items l) page_is ∙ here.told in
    rw first (ap (λ (ps : List (Option (List ItemData))). Some p ∷ ps) (pages_again l file part ps (k + 1) (front ++ bytes) after (All-tail (TellsBack l) p ps tell) further next more places))

joined_some : (pages : List (List ItemData)) → joined (map (λ page. Some page) pages) ≡ flat_map (λ page. page) pages
joined_some [] = refl
joined_some (p ∷ ps) = joined-some p (map (λ page. Some page) ps) ∙ ap (λ (xs : List ItemData). p ++ xs) (joined_some ps)

none_bad : (pages : List (List ItemData)) (k : ℕ) → position_from is_none k (map (λ page. Some page) pages) ≡ None
none_bad [] k = refl
none_bad (p ∷ ps) k = none_bad ps (k + 1)

whole_pages : (n page : ℕ) → 0 < page → div_ceil (n * page) page ≡ n
whole_pages n page some = grind arith

all_pages : (l : Layout) (file : List ℕ) (part : Part) (xs : List ItemData) → IsLayout l → All (IsPackable l) xs → IsPlaced l file part xs → pages_from l file part 0 (page_count l part) ≡ map (λ page. Some page) (packed l xs)
unfolding pack
all_pages l file part xs allowed ok placed =
    let pages = packed l xs in
    let tell = all_pages_tell l xs allowed ok in
    let count : page_count l part ≡ length pages = ap (λ (n : ℕ). div_ceil n l.page) placed.size ∙ whole_pages (length pages) l.page (omega (arith, allowed.page_least)) in
    ap (pages_from l file part 0) count ∙ pages_again l file part pages 0 placed.before placed.after tell placed.whole (omega (arith, placed.offset)) (omega (arith, placed.size)) placed.places

pub list_again : (l : Layout) (file : List ℕ) (part : Part) (xs : List ItemData) → IsLayout l → All (IsPackable l) xs → IsPlaced l file part xs → list_of l file part ≡ xs
unfolding list_of
list_again l file part xs allowed ok placed =
    ap joined (all_pages l file part xs allowed ok placed) ∙ joined_some (packed l xs) ∙ joined_again l xs (packed l xs) (is_packed l xs ok)

pub none_malformed : (l : Layout) (file : List ℕ) (part : Part) (xs : List ItemData) → IsLayout l → All (IsPackable l) xs → IsPlaced l file part xs → bad_of l file part ≡ None
unfolding bad_of
none_malformed l file part xs allowed ok placed =
    ap (position_from is_none 0) (all_pages l file part xs allowed ok placed) ∙ none_bad (packed l xs) 0

pages_len : (l : Layout) (pages : List (List ItemData)) → All (TellsBack l) pages → length (flat_map (page_of l) pages) ≡ length pages * l.page
pages_len l [] tell = omega arith
pages_len l (p ∷ ps) tell =
    let first : length (page_of l p) ≡ l.page = (All-head (TellsBack l) p ps tell).long in
    let more = pages_len l ps (All-tail (TellsBack l) p ps tell) in
    grind (arith, length-append (page_of l p) (flat_map (page_of l) ps), first, more)

-- the bytes of a processor's sub-buffers are as many as the size says
pub pack_len : (l : Layout) (xs : List ItemData) → IsLayout l → All (IsPackable l) xs → length (pack l xs) ≡ length (packed l xs) * l.page
unfolding pack
pack_len l xs allowed ok = pages_len l (packed l xs) (all_pages_tell l xs allowed ok)

-- where all of them are less than 2^64 bytes, a part can tell each
pub all_fit : (l : Layout) (lists : List (List ItemData)) → length (data_of l lists) < 2 ^ 64 → All (FitsPart l) lists
unfolding data_of
all_fit l [] short = All-nil (FitsPart l)
all_fit l (xs ∷ lists) short =
    let both = length-append (pack l xs) (flat_map (pack l) lists) in
    All-cons (FitsPart l) xs lists (omega (arith, both, short)) (all_fit l lists (omega (arith, both, short)))

-- the part at the end of a front has the sub-buffers that stand there, though no part stands at 2^64 itself
placed_behind : (l : Layout) (file front after : List ℕ) (xs : List ItemData) → length (pack l xs) ≡ length (packed l xs) * l.page → FitsPart l xs
    → file ≡ front ++ (pack l xs ++ after) → length front + length (pack l xs) ≤ 2 ^ 64 → IsPlaced l file (part_of (length front) (length (packed l xs) * l.page)) xs
unfolding part_of
placed_behind l file front after xs long fits whole places =
    let size : (length (packed l xs) * l.page) % 2 ^ 64 ≡ length (packed l xs) * l.page = mod-eq_of_lt (omega (arith, long, fits)) in
    elim (cases_lt (length front) (2 ^ 64)) [
      | inl before ↦
          let at : length front % 2 ^ 64 ≡ length front = mod-eq_of_lt before in
          record { before = front; after = after; whole = whole; offset = sym at; size = size; places = omega (arith, at, size, long, places) }
      | inr end ↦
          let none : pack l xs ≡ [] = no_bytes (pack l xs) (omega (arith, places, end)) in
          let at : length front % 2 ^ 64 ≡ 0 = omega (arith, places, end) in
          record {
            before = [];
            after = file;
            whole = ap (λ (t : List ℕ). t ++ file) (sym none);
            offset = sym at;
            size = size;
            places = omega (arith, at, size, long, places, end);
          }
    ]
  where
    no_bytes : (bytes : List ℕ) → length bytes ≤ 0 → bytes ≡ []
    no_bytes [] few = refl
    no_bytes (b ∷ bytes) few = absurd (omega (arith, few))

-- every processor's part reads back, in a file where the parts follow one another
parts_read : (l : Layout) (file front after : List ℕ) (at : ℕ) (lists : List (List ItemData)) → IsLayout l → All (All (IsPackable l)) lists → All (FitsPart l) lists
    → file ≡ front ++ (data_of l lists ++ after) → length front ≡ at → at + length (data_of l lists) ≤ 2 ^ 64
    → (map (list_of l file) (parts_from l at lists) ≡ lists) × (All (λ part. bad_of l file part ≡ None) (parts_from l at lists))
unfolding parts_from data_of
parts_read l file front after at [] allowed ok fit whole here places = (refl, All-nil (λ part. bad_of l file part ≡ None))
parts_read l file front after at (xs ∷ lists) allowed ok fit whole here places =
    let mine : All (IsPackable l) xs = All-head (All (IsPackable l)) xs lists ok in
    let size = length (packed l xs) * l.page in
    let long : length (pack l xs) ≡ size = pack_len l xs allowed mine in
    let rest = flat_map (pack l) lists in
    let both = length-append (pack l xs) rest in
    let parted : file ≡ front ++ (pack l xs ++ (rest ++ after)) = whole ∙ ap (λ (t : List ℕ). front ++ t) (append_assoc (pack l xs) rest after) in
    let placed : IsPlaced l file (part_of at size) xs =
    subst (λ (at : ℕ). IsPlaced l file (part_of at size) xs) here
    (placed_behind l file front (rest ++ after) xs long (All-head (FitsPart l) xs lists fit) parted (omega (arith, both, here, places))) in
    let further : file ≡ (front ++ pack l xs) ++ (rest ++ after) = parted ∙ sym (append_assoc front (pack l xs) (rest ++ after)) in
    let next : length (front ++ pack l xs) ≡ at + size = omega (arith, length-append front (pack l xs), here, long) in
    let others = parts_read l file (front ++ pack l xs) after (at + size) lists allowed (All-tail (All (IsPackable l)) xs lists ok) (All-tail (FitsPart l) xs lists fit) further next (omega (arith, both, long, places)) in (
      rw (list_again l file (part_of at size) xs allowed mine placed) (ap (λ (ls : List (List ItemData)). xs ∷ ls) others.0),
      All-cons (λ part. bad_of l file part ≡ None) (part_of at size) (parts_from l (at + size) lists) (none_malformed l file (part_of at size) xs allowed mine placed) others.1,
    )

pub file_again : (l : Layout) (front : List ℕ) (lists : List (List ItemData)) → IsLayout l → All (All (IsPackable l)) lists → All (FitsPart l) lists → length front + length (data_of l lists) ≤ 2 ^ 64
    → (map (list_of l (front ++ data_of l lists)) (parts_from l (length front) lists) ≡ lists) × (All (λ part. bad_of l (front ++ data_of l lists) part ≡ None) (parts_from l (length front) lists))
file_again l front lists allowed ok fit places =
    parts_read l (front ++ data_of l lists) front [] (length front) lists allowed ok fit (ap (λ (t : List ℕ). front ++ t) (sym (append-nil (data_of l lists)))) refl places
