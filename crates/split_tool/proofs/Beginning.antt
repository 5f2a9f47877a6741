-- Lanes after the start have left what a split cuts.
use Rattle.std.proofs.Common.{◌≡◌, ℕ, Bool, true, false, ◌||◌, ◌&&◌, not, if◌then◌else◌, List, [], ◌∷◌, ◌++◌, map, Option, Some, None, refl, sym, ap, ◌∙◌}
use Rattle.std.specs.Option.{option_map}
use Rattle.std.specs.List.{All, filter_map, slice_get, cons_option}
use Rattle.std.proofs.lemmas.List.Elements.{All-head, All-tail}
use Rattle.trace_base.specs.declared.layout.Layout.{Layout}
use Rattle.trace_base.specs.declared.part.Part.{Part}
use Rattle.subpage.specs.ItemData.{ItemData}
use Rattle.subpage.specs.Processor.{list_of, bad_of}
use Rattle.subpage.specs.Arrangement.{Keyed}
use Rattle.subpage.specs.Cut.{Cut, own_cut, cut_of, last_key, reached_of}
use Rattle.subpage.specs.CutPlaces.{cut_at, place_at, place_of}
use Rattle.subpage.specs.declared.cut_place.CutPlace.{CutPlace}
use Rattle.page_pool.specs.Fresh.{IsFresh}
use Rattle.page_pool.specs.declared.lane.Lane.{Lane}
use Rattle.event_cursor.specs.Keys.{keyed_behind}
use Rattle.event_cursor.specs.Standing.{left_of}
use Rattle.time_merge.specs.Rows.{Row, least_cut}
use Rattle.time_merge.specs.LaneRows.{HasLayout, parts_of, row_of, rows_of}
use Rattle.time_merge.proofs.Starting.{fresh_stands, fresh_come, cut_of_rows}
use Rattle.word_values.specs.declared.moment.Moment.{Moment}
use Rattle.split_pieces.specs.declared.rules.Rules.{Rules}
use Rattle.split_pieces.specs.Cuts.{is_apart, own_list, lists_to_cut, own_bad, cut_bad, bad_reached}
use Rattle.split_pieces.specs.Pieces.{from_start, up_to_end, left_in, has_end, unit_closes}
use Rattle.split_passes.proofs.OneLane.{one_cut, one_lane}
use Rattle.split_tool.specs.Lists.{groups, come_of, left_in_rows, bad_in_rows, lists_left, bad_left}
use Rattle.split_tool.specs.Started.{Started}

-- A FRESH LANE HAS ALL OF ITS ITEMS LEFT

none_used : (xs : List ItemData) → last_key xs ≡ None → xs ≡ []
none_used [] e = refl
none_used (x ∷ xs) e = absurd cc

fresh_left : (file : List ℕ) (a : Lane) → IsFresh a.cursor → left_of file a ≡ list_of a.layout file a.part
fresh_left file a f =
    let s = fresh_stands file a f in
    let none : s.used ≡ [] = none_used s.used (sym s.high ∙ f.high) in
    sym (s.parted ∙ ap (λ (xs : List ItemData). xs ++ left_of file a) none)

abbrev pub single : {X : Type 0} → X → List X
single x = x ∷ []

fresh_own : (l : Layout) (file : List ℕ) (a : Lane) → a.layout ≡ l → IsFresh a.cursor → come_of (row_of file a ∷ []) ≡ own_list l file (a.cpu, a.part)
fresh_own l file a layout f =
    one_lane file a (fresh_stands file a f)
    ∙ ap (λ (xs : List ItemData). keyed_behind a.cpu a.cursor.high xs) (fresh_left file a f)
    ∙ ap (λ (high : Option ℕ). keyed_behind a.cpu high (list_of a.layout file a.part)) f.high
    ∙ ap (λ (k : Layout). own_list k file (a.cpu, a.part)) layout

each_own : (l : Layout) (file : List ℕ) (lanes : List Lane) → All (HasLayout l) lanes → All (λ (a : Lane). IsFresh a.cursor) lanes → map come_of (map single (rows_of file lanes)) ≡ map (own_list l file) (parts_of lanes)
each_own l file [] same f = refl
each_own l file (a ∷ lanes) same f =
    ap (λ (xs : List Keyed). xs ∷ map come_of (map single (rows_of file lanes))) (fresh_own l file a (All-head (HasLayout l) a lanes same) (All-head (λ (x : Lane). IsFresh x.cursor) a lanes f))
    ∙ ap (λ (xs : List (List Keyed)). own_list l file (a.cpu, a.part) ∷ xs) (each_own l file lanes (All-tail (HasLayout l) a lanes same) (All-tail (λ (x : Lane). IsFresh x.cursor) a lanes f))

pub fresh_lists : (l : Layout) (file : List ℕ) (rules : Rules) (lanes : List Lane) → All (HasLayout l) lanes → All (λ (a : Lane). IsFresh a.cursor) lanes → map come_of (groups rules (rows_of file lanes)) ≡ lists_to_cut rules l file (parts_of lanes)
fresh_lists l file rules lanes same f = by_apart (is_apart rules)
  where
    by_apart : (b : Bool) → map come_of (if b then map single (rows_of file lanes) else rows_of file lanes ∷ []) ≡ (if b then map (own_list l file) (parts_of lanes) else reached_of l file (parts_of lanes) ∷ [])
    by_apart true = each_own l file lanes same f
    by_apart false = ap (λ (xs : List Keyed). xs ∷ []) (fresh_come l file lanes same f)

-- WHAT IS LEFT AFTER THE START

up_map : (stop : Option Moment) (gs : List (List (Row Keyed))) → map (left_in_rows stop) gs ≡ map (up_to_end stop) (map come_of gs)
up_map stop [] = refl
up_map stop (g ∷ gs) = ap (λ (xs : List (List Keyed)). left_in_rows stop g ∷ xs) (up_map stop gs)

left_map : (rules : Rules) (gs : List (List (Row Keyed))) → map (up_to_end rules.stop) (map (λ rows. from_start rules.start (come_of rows)) gs) ≡ map (left_in rules) (map come_of gs)
left_map rules [] = refl
left_map rules (g ∷ gs) = ap (λ (xs : List (List Keyed)). left_in rules (come_of g) ∷ xs) (left_map rules gs)

pub started_lists : (l : Layout) (file : List ℕ) (rules : Rules) (first now : List Lane) → All (HasLayout l) first → All (λ (a : Lane). IsFresh a.cursor) first → Started file rules first now
    → lists_left file rules now ≡ map (left_in rules) (lists_to_cut rules l file (parts_of first))
started_lists l file rules first now same f s =
    up_map rules.stop (groups rules (rows_of file now)) ∙ ap (map (up_to_end rules.stop)) s.come
    ∙ left_map rules (groups rules (rows_of file first)) ∙ ap (map (left_in rules)) (fresh_lists l file rules first same f)

-- THE MALFORMED SUB-BUFFER

abbrev cut_with : Option ℕ → ℕ → ℕ → Cut
cut_with key cpu page = cut_at key (place_at cpu page)

-- of a list of items that are left, and a cut
abbrev bad_with : Rules → List Keyed → Option CutPlace → Option CutPlace
bad_with rules xs bad =
    if has_end rules.stop xs || (not rules.repeat && unit_closes rules.unit (up_to_end rules.stop xs)) then None else bad

page_by : (cpu : ℕ) (key : Option ℕ) (o : Option ℕ) → option_map place_of (option_map (cut_with key cpu) o) ≡ option_map (place_at cpu) o
page_by cpu key None = refl
page_by cpu key (Some page) = refl

own_page : (l : Layout) (file : List ℕ) (p : ℕ × Part) → option_map place_of (own_cut l file p) ≡ option_map (place_at p.0) (bad_of l file p.1)
own_page l file p = page_by p.0 (last_key (list_of l file p.1)) (bad_of l file p.1)

pub one_bad : (o : Option CutPlace) → slice_get (cons_option o []) 0 ≡ o
one_bad None = refl
one_bad (Some bad) = refl

one_lane_bad : (l : Layout) (file : List ℕ) (rules : Rules) (a b : Lane) → a.layout ≡ l → b.layout ≡ l → IsFresh a.cursor → parts_of (b ∷ []) ≡ parts_of (a ∷ []) → come_of (row_of file b ∷ []) ≡ from_start rules.start (come_of (row_of file a ∷ []))
    → bad_in_rows rules (row_of file b ∷ []) ≡ own_bad rules l file (a.cpu, a.part)
one_lane_bad l file rules a b layout layout_now fresh parts come =
    let all : come_of (row_of file b ∷ []) ≡ from_start rules.start (own_list l file (a.cpu, a.part)) = come ∙ ap (from_start rules.start) (fresh_own l file a layout fresh) in
    let part : (b.cpu, b.part) ≡ (a.cpu, a.part) = ap (λ (ps : List (ℕ × Part)). first (a.cpu, a.part) ps) parts in
    let cut : option_map place_of (least_cut (row_of file b ∷ [])) ≡ option_map (place_at a.cpu) (bad_of l file a.part) =
    ap (option_map place_of) (one_cut (own_cut b.layout file (b.cpu, b.part)) (row_of file b) refl ∙ ap (λ (k : Layout). own_cut k file (b.cpu, b.part)) layout_now ∙ ap (own_cut l file) part) ∙ own_page l file (a.cpu, a.part) in
    ap (λ (xs : List Keyed). bad_with rules xs (option_map place_of (least_cut (row_of file b ∷ [])))) all
    ∙ ap (bad_with rules (from_start rules.start (own_list l file (a.cpu, a.part)))) cut
  where
    first : ℕ × Part → List (ℕ × Part) → ℕ × Part
    first d [] = d
    first d (p ∷ ps) = p

each_bad : (l : Layout) (file : List ℕ) (rules : Rules) (first now : List Lane) → All (HasLayout l) first → All (HasLayout l) now → All (λ (a : Lane). IsFresh a.cursor) first → parts_of now ≡ parts_of first
    → map come_of (map single (rows_of file now)) ≡ map (λ rows. from_start rules.start (come_of rows)) (map single (rows_of file first))
    → filter_map (bad_in_rows rules) (map single (rows_of file now)) ≡ filter_map (own_bad rules l file) (parts_of first)
each_bad l file rules [] [] same same_now f parts come = refl
each_bad l file rules [] (b ∷ now) same same_now f parts come = absurd cc
each_bad l file rules (a ∷ first) [] same same_now f parts come = absurd cc
each_bad l file rules (a ∷ first) (b ∷ now) same same_now f parts come =
    let here : come_of (row_of file b ∷ []) ≡ from_start rules.start (come_of (row_of file a ∷ [])) = cc in
    let mine : parts_of (b ∷ []) ≡ parts_of (a ∷ []) = cc in
    let others : parts_of now ≡ parts_of first = cc in
    let comes : map come_of (map single (rows_of file now)) ≡ map (λ rows. from_start rules.start (come_of rows)) (map single (rows_of file first)) = cc in
    ap (λ (o : Option CutPlace). cons_option o (filter_map (bad_in_rows rules) (map single (rows_of file now))))
    (one_lane_bad l file rules a b (All-head (HasLayout l) a first same) (All-head (HasLayout l) b now same_now) (All-head (λ (x : Lane). IsFresh x.cursor) a first f) mine here)
    ∙ ap (cons_option (own_bad rules l file (a.cpu, a.part))) (each_bad l file rules first now (All-tail (HasLayout l) a first same) (All-tail (HasLayout l) b now same_now) (All-tail (λ (x : Lane). IsFresh x.cursor) a first f) others comes)

pub started_bad : (l : Layout) (file : List ℕ) (rules : Rules) (first now : List Lane) → All (HasLayout l) first → All (HasLayout l) now → All (λ (a : Lane). IsFresh a.cursor) first → parts_of now ≡ parts_of first → Started file rules first now
    → bad_left file rules now ≡ bad_reached rules l file (parts_of first)
started_bad l file rules first now same same_now f parts s = by_apart (is_apart rules) s.come
  where
    by_apart : (b : Bool) → map come_of (if b then map single (rows_of file now) else rows_of file now ∷ []) ≡ map (λ rows. from_start rules.start (come_of rows)) (if b then map single (rows_of file first) else rows_of file first ∷ [])
        → slice_get (filter_map (bad_in_rows rules) (if b then map single (rows_of file now) else rows_of file now ∷ [])) 0
        ≡ (if b then slice_get (filter_map (own_bad rules l file) (parts_of first)) 0 else cut_bad rules l file (parts_of first))
    by_apart true come = ap (λ (bads : List CutPlace). slice_get bads 0) (each_bad l file rules first now same same_now f parts come)
    by_apart false come =
        let here : come_of (rows_of file now) ≡ from_start rules.start (come_of (rows_of file first)) = cc in
        let all : come_of (rows_of file now) ≡ from_start rules.start (reached_of l file (parts_of first)) = here ∙ ap (from_start rules.start) (fresh_come l file first same f) in
        let cut : least_cut (rows_of file now) ≡ cut_of l file (parts_of first) = cut_of_rows l file now same_now ∙ ap (cut_of l file) parts in
        one_bad (bad_in_rows rules (rows_of file now))
        ∙ ap (λ (xs : List Keyed). bad_with rules xs (option_map place_of (least_cut (rows_of file now)))) all
        ∙ ap (λ (c : Option Cut). bad_with rules (from_start rules.start (reached_of l file (parts_of first))) (option_map place_of c)) cut
