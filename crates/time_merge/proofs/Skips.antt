-- Items that do not matter may be used up before their turn.
use Rattle.std.proofs.Common.{◌≡◌, ℕ, ◌+◌, ◌<◌, eqb, Bool, false, List, [], ◌∷◌, ◌++◌, length, get_or, set, take, drop, fold, Option, Some, None, refl, sym, ap, ◌∙◌, arith}
use Rattle.std.specs.List.{filter, filter_map, cons_option}
use Rattle.std.proofs.lemmas.List.{map-append}
use Rattle.std.proofs.lemmas.List.Concat.{flat_map-cons}
use Rattle.subpage.specs.ItemData.{ItemData}
use Rattle.subpage.specs.Arrangement.{Keyed, key_of, cpu_of, by_key}
use Rattle.subpage.specs.Cut.{Cut, earlier}
use Rattle.subpage.proofs.Arranging.{one_rising, by_key-rising, by_key-with_key}
use Rattle.subpage.proofs.Filters.{filter-append, filter-filter, filter-not, filter-rising}
use Rattle.page_pool.specs.declared.lane.Lane.{Lane}
use Rattle.page_pool.specs.declared.cursor.LaneState.{LaneState}
use Rattle.page_pool.specs.declared.cursor.LaneState.TheVariants.{Fresh, Held, Ended, Malformed}
use Rattle.event_cursor.specs.Keys.{first_of, key_behind, keyed_behind}
use Rattle.event_cursor.specs.Standing.{held_left, if_held, keyed_held}
use Rattle.event_cursor.specs.Stepping.{IsStepped}
use Rattle.event_cursor.proofs.Standing.{stands_stepped}
use Rattle.time_merge.specs.Rows.{Row, coming, least_cut, together, up_to}
use Rattle.time_merge.specs.LaneRows.{parts_of, row_of, rows_of, to_come}
use Rattle.time_merge.proofs.Choosing.{set_around}
use Rattle.time_merge.proofs.LaneLaws.{stepped_row}
use Rattle.time_merge.proofs.Readying.{set_parts}
use Rattle.time_merge.specs.Skipping.{IsOtherFirst, IsSkipped, IsUsedUp, by_item}

-- a lane with a first item holds a sub-buffer
first_held : (s : LaneState) (cpu : ℕ) (high : Option ℕ) (xs : List ItemData) (x : Keyed) → first_of (keyed_behind cpu high (if_held s xs)) ≡ Some x → (s ≡ Held) × (0 < length (if_held s xs))
first_held Fresh cpu high xs x e = absurd cc
first_held Held cpu high [] x e = absurd cc
first_held Held cpu high (y ∷ ys) x e = (refl, omega arith)
first_held Ended cpu high xs x e = absurd cc
first_held Malformed cpu high xs x e = absurd cc

pub held_of_first : (a : Lane) (x : Keyed) → first_of (keyed_held a) ≡ Some x → (a.cursor.state ≡ Held) × (0 < length (held_left a))
held_of_first a x e = first_held a.cursor.state a.cpu a.cursor.high _ x e

-- a filter of an arrangement
filtered : (q : Keyed → Bool) (xs : List Keyed) → filter q (by_key key_of xs) ≡ by_key key_of (filter q xs)
filtered q xs =
    one_rising key_of (filter q (by_key key_of xs)) (by_key key_of (filter q xs)) (filter-rising key_of q (by_key key_of xs) (by_key-rising key_of xs)) (by_key-rising key_of (filter q xs))
    (λ z. filter-filter (λ x. eqb (key_of x) z.key) q (by_key key_of xs) ∙ ap (filter q) (by_key-with_key key_of z.key xs)
    ∙ filter-filter q (λ x. eqb (key_of x) z.key) xs ∙ sym (by_key-with_key key_of z.key (filter q xs)))

module _ (m : ℕ → ItemData → Bool) where
  module _ (row now : Row Keyed) (after : List (Row Keyed)) (cut : now.cut ≡ row.cut) (same : filter (by_item m) row.items ≡ filter (by_item m) now.items) where
    cuts_same : (before : List (Row Keyed)) → filter_map (λ (r : Row Keyed). r.cut) (before ++ row ∷ after) ≡ filter_map (λ (r : Row Keyed). r.cut) (before ++ now ∷ after)
    cuts_same [] = ap (λ (c : Option Cut). cons_option c (filter_map (λ (r : Row Keyed). r.cut) after)) (sym cut)
    cuts_same (r ∷ before) = ap (cons_option r.cut) (cuts_same before)

    items_same : (before : List (Row Keyed)) → filter (by_item m) (together (before ++ row ∷ after)) ≡ filter (by_item m) (together (before ++ now ∷ after))
    items_same [] =
        ap (filter (by_item m)) (flat_map-cons (λ (r : Row Keyed). r.items) row after) ∙ filter-append (by_item m) row.items (together after)
        ∙ ap (λ (ys : List Keyed). ys ++ filter (by_item m) (together after)) same
        ∙ sym (filter-append (by_item m) now.items (together after)) ∙ ap (filter (by_item m)) (sym (flat_map-cons (λ (r : Row Keyed). r.items) now after))
    items_same (r ∷ before) =
        ap (filter (by_item m)) (flat_map-cons (λ (r : Row Keyed). r.items) r (before ++ row ∷ after)) ∙ filter-append (by_item m) r.items (together (before ++ row ∷ after))
        ∙ ap (λ (ys : List Keyed). filter (by_item m) r.items ++ ys) (items_same before)
        ∙ sym (filter-append (by_item m) r.items (together (before ++ now ∷ after))) ∙ ap (filter (by_item m)) (sym (flat_map-cons (λ (r : Row Keyed). r.items) r (before ++ now ∷ after)))

    abbrev reached : Option Cut → Keyed → Bool
    reached c x = up_to c (key_of x) (cpu_of x)

    pub coming_same : (before : List (Row Keyed)) → filter (by_item m) (coming key_of cpu_of (before ++ row ∷ after)) ≡ filter (by_item m) (coming key_of cpu_of (before ++ now ∷ after))
    coming_same before =
        let old : List (Row Keyed) = before ++ row ∷ after in
        let new : List (Row Keyed) = before ++ now ∷ after in
        filter-filter (by_item m) (reached (least_cut old)) (by_key key_of (together old))
        ∙ ap (filter (reached (least_cut old))) (filtered (by_item m) (together old))
        ∙ ap (λ (cuts : List Cut). filter (reached (fold earlier None cuts)) (by_key key_of (filter (by_item m) (together old)))) (cuts_same before)
        ∙ ap (λ (xs : List Keyed). filter (reached (least_cut new)) (by_key key_of xs)) (items_same before)
        ∙ ap (filter (reached (least_cut new))) (sym (filtered (by_item m) (together new)))
        ∙ sym (filter-filter (by_item m) (reached (least_cut new)) (by_key key_of (together new)))

  rows_set : (file : List ℕ) (lanes : List Lane) (i : ℕ) (now : Lane) → i < length lanes
      → rows_of file (set lanes i now) ≡ rows_of file (take i lanes) ++ row_of file now ∷ rows_of file (drop (i + 1) lanes)
  rows_set file lanes i now lt = ap (rows_of file) (set_around lanes i now lt) ∙ map-append (row_of file) (take i lanes) (now ∷ drop (i + 1) lanes)

  -- in one lane of several
  pub skipped_come : (file : List ℕ) (lanes : List Lane) (i : ℕ) (a b : Lane) → i < length lanes → IsSkipped m a b
      → filter (by_item m) (to_come file (set lanes i a)) ≡ filter (by_item m) (to_come file (set lanes i b))
  skipped_come file lanes i a b lt s =
      let before = rows_of file (take i lanes) in
      let after = rows_of file (drop (i + 1) lanes) in
      ap (λ (rows : List (Row Keyed)). filter (by_item m) (coming key_of cpu_of rows)) (rows_set file lanes i a lt)
      ∙ coming_same (row_of file a) (row_of file b) after (cc (s.cpu, s.layout, s.part)) (s.same file) before
      ∙ ap (λ (rows : List (Row Keyed)). filter (by_item m) (coming key_of cpu_of rows)) (sym (rows_set file lanes i b lt))

  pub skipped_none : (a : Lane) → IsSkipped m a a
  skipped_none a = record { cpu = refl; layout = refl; part = refl; state = refl; next = refl; stands = λ file s. s; same = λ file. refl }

  -- one item more
  pub skipped_more : (a b c : Lane) → IsSkipped m a b → IsOtherFirst m b → IsStepped b c → IsSkipped m a c
  skipped_more a b c s other step =
      let first : Keyed = record { key = key_behind b.cursor.high step.first; cpu = b.cpu; item = step.first } in
      let is_first : first_of (keyed_held b) ≡ Some first = ap (λ (xs : List ItemData). first_of (keyed_behind b.cpu b.cursor.high xs)) step.left in
      record {
        cpu = step.page.cpu ∙ s.cpu;
        layout = step.page.layout ∙ s.layout;
        part = step.page.part ∙ s.part;
        state = step.page.state ∙ s.state;
        next = step.page.next ∙ s.next;
        stands = λ file was. stands_stepped file b c step (s.stands file was);
        same = λ file. s.same file ∙ ap (filter (by_item m)) (stepped_row file b c step) ∙ filter-not (by_item m) first (row_of file c).items (other first is_first);
      }

-- an item that does not matter, where it is a lane's first
pub other_first : (m : ℕ → ItemData → Bool) (a : Lane) (x : Keyed) → Some x ≡ first_of (keyed_held a) → by_item m x ≡ false → IsOtherFirst m a
other_first m a x e other = λ y first. ap (by_item m) (same_of y x (sym first ∙ sym e)) ∙ other
  where
    same_of : (y z : Keyed) → Some y ≡ Some z → y ≡ z
    same_of y z e = cc

-- items that are used up leave their lane its processor and its part
pub used_parts : (m : ℕ → ItemData → Bool) (lanes : List Lane) (i : ℕ) (d now : Lane) → i < length lanes → IsUsedUp m (get_or lanes i d) now → parts_of (set lanes i now) ≡ parts_of lanes
used_parts m lanes i d now lt s = set_parts lanes i d now lt (s.skipped.cpu ∙ s.stepped.page.cpu) (s.skipped.part ∙ s.stepped.page.part)
