-- A pass, item by item.
use Rattle.std.proofs.Common.{◌≡◌, ℕ, ◌<◌, List, [], ◌∷◌, ◌++◌, Bool, length, get_or, set, sum_by, Option, Some, None, refl, sym, ap, subst, ◌∙◌, append_assoc, append-nil, arith}
use Rattle.std.specs.Option.{IfSome}
use Rattle.std.specs.List.{All, filter}
use Rattle.std.proofs.lemmas.List.{get_or-set_same, length-set, set-set}
use Rattle.std.proofs.lemmas.List.Sums.{sum_by-set}
use Rattle.std.proofs.lemmas.List.Elements.{All-set, All-get_or, All-weaker}
use Rattle.trace_base.specs.declared.layout.Layout.{Layout}
use Rattle.subpage.specs.ItemData.{ItemData}
use Rattle.subpage.specs.Arrangement.{Keyed, key_of, cpu_of}
use Rattle.subpage.specs.Cut.{Cut, reached_of, cut_of}
use Rattle.subpage.specs.CutPlaces.{place_of}
use Rattle.subpage.proofs.Filters.{filter-append}
use Rattle.page_pool.specs.Fresh.{IsFresh}
use Rattle.page_pool.specs.declared.lane.Lane.{Lane}
use Rattle.event_cursor.specs.Stepping.{IsStepped}
use Rattle.event_cursor.specs.Keys.{first_of}
use Rattle.event_cursor.specs.Standing.{Stands, keyed_held, most_left}
use Rattle.event_cursor.proofs.Standing.{stands_stepped}
use Rattle.time_merge.specs.Rows.{coming, least_cut}
use Rattle.time_merge.specs.LaneRows.{HasLayout, parts_of, rows_of, to_come}
use Rattle.time_merge.specs.Nexts.{IsNextLane}
use Rattle.time_merge.specs.Reads.{all_unread}
use Rattle.time_merge.proofs.Starting.{fresh_stands, fresh_come, cut_of_rows}
use Rattle.time_merge.proofs.LanesKept.{layouts_set}
use Rattle.time_merge.proofs.PartReads.{same_unread, set_unread}
use Rattle.time_merge.specs.Skipping.{IsLaneUsedUp, IsSkipped, by_item}
use Rattle.time_merge.proofs.Skips.{skipped_come, used_parts}
use Rattle.item_pass.specs.Gathering.{and_item, cut_place}

-- one of several lanes
pub a_lane : (lanes : List Lane) (i : ℕ) → i < length lanes → Lane
a_lane [] i lt = absurd (omega (arith, lt))
a_lane (a ∷ lanes) i lt = a

module _ (m : ℕ → ItemData → Bool) (lanes : List Lane) (i : ℕ) (now : List Lane) (lt : i < length lanes) (u : IsLaneUsedUp m lanes i now) where
  -- items that are used up read nothing, and their lane keeps its part
  pub using_unread : (len : ℕ) → all_unread len now ≡ all_unread len lanes
  using_unread len =
      let s = u.used u.lane in
      ap (all_unread len) u.set
      ∙ set_unread len lanes i u.lane u.lane lt (same_unread len (get_or lanes i u.lane) u.lane (s.skipped.layout ∙ s.stepped.page.layout) (s.skipped.part ∙ s.stepped.page.part) (s.skipped.state ∙ s.stepped.page.state) (s.skipped.next ∙ s.stepped.page.next))

  pub using_parts : parts_of now ≡ parts_of lanes
  using_parts = ap parts_of u.set ∙ used_parts m lanes i u.lane u.lane lt (u.used u.lane)

  -- and its layout
  pub using_layouts : (layout : Layout) → All (HasLayout layout) lanes → All (HasLayout layout) now
  using_layouts layout all =
      let s = u.used u.lane in
      layouts_set lanes i u.lane now u.set lt layout (s.skipped.layout ∙ s.stepped.page.layout) all

  -- and are fewer then
  pub using_fewer : sum_by most_left now < sum_by most_left lanes
  using_fewer =
      let same : sum_by most_left now ≡ sum_by most_left (set lanes i u.lane) = ap (sum_by most_left) u.set in
      omega (arith, same, sum_by-set most_left lanes i u.lane u.lane lt, u.most u.lane)

-- These items matter, and were taken from the front of what lanes have to come.
pub record Passed (m : ℕ → ItemData → Bool) (H : List Keyed → Type 0) (file : List ℕ) (first now : List Lane) : Type 0 where
  pub taken : List Keyed
  pub stands : All (Stands file) now
  pub came : filter (by_item m) (to_come file first) ≡ taken ++ filter (by_item m) (to_come file now)
  pub holds : H taken

module _ (m : ℕ → ItemData → Bool) where
  pub begins : (H : List Keyed → Type 0) (file : List ℕ) (lanes : List Lane) → All (λ (a : Lane). IsFresh a.cursor) lanes → H [] → Passed m H file lanes lanes
  begins H file lanes fresh holds = record {
    taken = [];
    stands = All-weaker (λ (a : Lane). IsFresh a.cursor) (Stands file) (fresh_stands file) lanes fresh;
    came = refl;
    holds = holds;
  }

  on_loaded : (H : List Keyed → Type 0) (file : List ℕ) (first lanes lanes1 : List Lane) → rows_of file lanes1 ≡ rows_of file lanes → All (Stands file) lanes1
      → Passed m H file first lanes → Passed m H file first lanes1
  on_loaded H file first lanes lanes1 rows stands p = record {
    taken = p.taken;
    stands = stands;
    came = p.came ∙ ap (λ (xs : List Keyed). p.taken ++ filter (by_item m) xs) (ap (coming key_of cpu_of) (sym rows));
    holds = p.holds;
  }

  pub loaded : (H : List Keyed → Type 0) (told now_told : Option (List ℕ)) (first lanes lanes1 : List Lane) → now_told ≡ told
      → IfSome told (λ file. Passed m H file first lanes)
      → IfSome now_told (λ file. rows_of file lanes1 ≡ rows_of file lanes)
      → IfSome now_told (λ file. All (Stands file) lanes → All (Stands file) lanes1)
      → IfSome told (λ file. Passed m H file first lanes1)
  loaded H None now_told first lanes lanes1 e p rows stands = tt
  loaded H (Some file) now_told first lanes lanes1 e p rows stands =
      let rows_are : rows_of file lanes1 ≡ rows_of file lanes = subst (λ (o : Option (List ℕ)). IfSome o (λ file. rows_of file lanes1 ≡ rows_of file lanes)) e rows in
      let stand : All (Stands file) lanes → All (Stands file) lanes1 = subst (λ (o : Option (List ℕ)). IfSome o (λ file. All (Stands file) lanes → All (Stands file) lanes1)) e stands in
      on_loaded H file first lanes lanes1 rows_are (stand p.stands) p

  -- an item is taken of lane i, and it is used up
  stepped : (H K : List Keyed → Type 0) (file : List ℕ) (first lanes : List Lane) (i : ℕ) (d now : Lane) → Passed m H file first lanes → i < length lanes → IsStepped (get_or lanes i d) now
      → IsNextLane file lanes i → ((xs : List Keyed) (x : Keyed) → first_of (keyed_held (get_or lanes i d)) ≡ Some x → H xs → K (and_item m xs x)) → Passed m K file first (set lanes i now)
  stepped H K file first lanes i d now p lt s next taken =
      let x = next.item in
      let rest = to_come file (set lanes i now) in
      let come : to_come file lanes ≡ x ∷ rest = next.used d now s in
      let parted : filter (by_item m) (x ∷ rest) ≡ filter (by_item m) (x ∷ []) ++ filter (by_item m) rest = filter-append (by_item m) (x ∷ []) rest in
      record {
        taken = and_item m p.taken x;
        stands = All-set (Stands file) lanes i now (stands_stepped file (get_or lanes i d) now s (All-get_or (Stands file) lanes i d lt p.stands)) p.stands;
        came = p.came ∙ ap (λ (xs : List Keyed). p.taken ++ xs) (ap (filter (by_item m)) come ∙ parted) ∙ sym (append_assoc p.taken (filter (by_item m) (x ∷ [])) (filter (by_item m) rest));
        holds = taken p.taken x (next.first d) p.holds;
      }

  -- items that do not matter were used up too
  skipped : (K : List Keyed → Type 0) (file : List ℕ) (first lanes : List Lane) (i : ℕ) (a b : Lane) → Passed m K file first (set lanes i a) → i < length lanes → IsSkipped m a b
      → Passed m K file first (set lanes i b)
  skipped K file first lanes i a b p lt s =
      let here : Stands file a = subst (Stands file) (get_or-set_same lanes i a a lt) (All-get_or (Stands file) (set lanes i a) i a (omega (arith, lt, length-set lanes i a)) p.stands) in
      record {
        taken = p.taken;
        stands = subst (All (Stands file)) (set-set lanes i a b) (All-set (Stands file) (set lanes i a) i b (s.stands file here) p.stands);
        came = p.came ∙ ap (λ (xs : List Keyed). p.taken ++ xs) (skipped_come m file lanes i a b lt s);
        holds = p.holds;
      }

  pub goes_on : (H K : List Keyed → Type 0) (file : List ℕ) (first lanes : List Lane) (i : ℕ) (now : List Lane) → i < length lanes → IsLaneUsedUp m lanes i now
      → ((d : Lane) (xs : List Keyed) (x : Keyed) → first_of (keyed_held (get_or lanes i d)) ≡ Some x → H xs → K (and_item m xs x))
      → IsNextLane file lanes i → Passed m H file first lanes → Passed m K file first now
  goes_on H K file first lanes i now lt u taken next p =
      let s = u.used u.lane in
      subst (Passed m K file first) (sym u.set)
      (skipped K file first lanes i s.mid u.lane (stepped H K file first lanes i u.lane s.mid p lt s.stepped next (taken u.lane)) lt s.skipped)

  -- nothing is to come
  pub all_passed : (H : List Keyed → Type 0) (l : Layout) (file : List ℕ) (first now : List Lane) → All (HasLayout l) first → All (λ (a : Lane). IsFresh a.cursor) first → to_come file now ≡ [] → Passed m H file first now
      → H (filter (by_item m) (reached_of l file (parts_of first)))
  all_passed H l file first now layouts fresh none p =
      let all : filter (by_item m) (to_come file first) ≡ p.taken = p.came ∙ ap (λ (xs : List Keyed). p.taken ++ filter (by_item m) xs) none ∙ append-nil p.taken in
      subst H (sym all ∙ ap (filter (by_item m)) (fresh_come l file first layouts fresh)) p.holds

-- where nothing is left, the cut is the first lanes'
pub no_cut : (l : Layout) (file : List ℕ) (first now : List Lane) → All (HasLayout l) now → parts_of now ≡ parts_of first → least_cut (rows_of file now) ≡ None → None ≡ cut_place (cut_of l file (parts_of first))
no_cut l file first now layouts parts is = ap cut_place (sym is ∙ cut_of_rows l file now layouts ∙ ap (cut_of l file) parts)

pub one_cut : (l : Layout) (file : List ℕ) (first now : List Lane) (cut : Cut) → All (HasLayout l) now → parts_of now ≡ parts_of first
    → least_cut (rows_of file now) ≡ Some cut → Some (place_of cut) ≡ cut_place (cut_of l file (parts_of first))
one_cut l file first now cut layouts parts is = ap cut_place (sym is ∙ cut_of_rows l file now layouts ∙ ap (cut_of l file) parts)
