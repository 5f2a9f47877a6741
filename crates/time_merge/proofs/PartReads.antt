-- What lanes read: each reads its sub-buffers once, and these are bytes of its part.
use Rattle.std.proofs.Common.{◌≡◌, ℕ, zero, suc, ◌+◌, ◌-◌, ◌*◌, ◌<◌, ◌≤◌, true, List, [], ◌∷◌, length, get_or, set, sum_by, refl, ap, subst, ◌∙◌, arith, ◌⊎◌, inl, inr}
use Rattle.std.specs.List.{All, range_with_len}
use Rattle.std.proofs.lemmas.Bool.{cases_Bool, cases_lt, leb-true, and_parts}
use Rattle.std.proofs.lemmas.List.Elements.{All-head, All-tail}
use Rattle.std.proofs.lemmas.List.Sums.{sum_by-cons, sum_by-set}
use Rattle.trace_base.specs.declared.layout.Layout.{Layout}
use Rattle.trace_base.specs.declared.part.Part.{Part}
use Rattle.trace_base.proofs.Layouts.{carried}
use Rattle.trace_outside.specs.Causes.{raised}
use Rattle.subpage.specs.Processor.{page_count}
use Rattle.page_pool.specs.declared.cursor.LaneState.{LaneState}
use Rattle.page_pool.specs.declared.cursor.LaneState.TheVariants.{Fresh, Held, Ended, Malformed}
use Rattle.page_pool.specs.declared.lane.Lane.{Lane}
use Rattle.page_pool.proofs.Keeping.{by_both}
use Rattle.event_cursor.specs.Unread.{is_there_in, size_there, size_from, first_unread, unread, reading, reading_in}
use Rattle.event_cursor.proofs.UnreadLaws.{size_step}
use Rattle.event_cursor.proofs.UsedItems.{held_counts}
use Rattle.event_cursor.specs.Standing.{held_left}
use Rattle.event_cursor.specs.Stepping.{IsStepped}
use Rattle.time_merge.specs.LaneRows.{IsReady, parts_of}
use Rattle.time_merge.specs.Reads.{all_unread, all_reading}
use Rattle.time_merge.proofs.LaneReads.{ready_reads}

module _ (l : Layout) (len : ℕ) where
  pub size_none : (part : Part) (k : ℕ) → page_count l part ≤ k → size_from l len part k ≡ 0
  unfolding size_from
  size_none part k le = let none : page_count l part - k ≡ 0 = omega (arith, le) in ap (λ (n : ℕ). sum_by (size_there l len part) (range_with_len k n)) none

  -- a sub-buffer that is there stands in its part
  pub there_inside : (part : Part) (k : ℕ) → is_there_in l len part k ≡ true → (k + 1) * l.page ≤ part.size
  there_inside part k there = leb-true _ _ (and_parts _ _ (and_parts _ _ there).0).0

  there_size : (part : Part) (k : ℕ) → size_there l len part k + (part.size - (k + 1) * l.page) ≤ part.size - k * l.page
  there_size part k = elim (cases_Bool (is_there_in l len part k)) as (λ _. size_there l len part k + (part.size - (k + 1) * l.page) ≤ part.size - k * l.page) [
    | inl there ↦ rw there (omega (arith, there_inside part k there))
    | inr not_there ↦ rw not_there (omega arith)
  ]

  pub size_inside : (n : ℕ) (part : Part) (k : ℕ) → page_count l part - k ≤ n → size_from l len part k ≤ part.size - k * l.page
  size_inside zero part k le = omega (arith, size_none part k (omega (arith, le)))
  size_inside (suc n) part k le = elim (cases_le k) as (λ _. size_from l len part k ≤ part.size - k * l.page) [
    | inl lt ↦ omega (arith, size_step l len part k lt, there_size part k, size_inside n part (k + 1) (omega (arith, le)))
    | inr past ↦ omega (arith, size_none part k past)
  ]
    where
      cases_le : (k : ℕ) → (k < page_count l part) ⊎ (page_count l part ≤ k)
      cases_le k = cases_lt k (page_count l part)

  there_from : (part : Part) (k : ℕ) → size_there l len part k ≤ size_from l len part k
  there_from part k = elim (cases_Bool (is_there_in l len part k)) as (λ _. size_there l len part k ≤ size_from l len part k) [
    | inl there ↦ omega (arith, size_step l len part k (held_counts part.size l.page k (omega (arith, (carried l).page_least)) (there_inside part k there)))
    | inr not_there ↦ rw not_there (omega arith)
  ]

  reading_in_unread : (s : LaneState) (part : Part) (k : ℕ) → reading_in s (size_there l len part k) ≤ size_from l len part (first_unread s k)
  reading_in_unread Fresh part k = there_from part k
  reading_in_unread Held part k = omega arith
  reading_in_unread Ended part k = omega arith
  reading_in_unread Malformed part k = omega arith

module _ (len : ℕ) where
  unread_inside : (a : Lane) → unread len a ≤ a.part.size
  unread_inside a =
      let k : ℕ = first_unread a.cursor.state a.cursor.next in
      let inside : unread len a ≤ a.part.size - k * a.layout.page = size_inside a.layout len (page_count a.layout a.part) a.part k (omega arith) in
      omega (arith, inside)

  pub all_inside : (lanes : List Lane) → all_unread len lanes ≤ sum_by (λ part. part.1.size) (parts_of lanes)
  all_inside [] = omega arith
  all_inside (a ∷ lanes) =
      omega (arith, unread_inside a, all_inside lanes, sum_by-cons (unread len) a lanes, sum_by-cons (λ (part : ℕ × Part). part.1.size) (a.cpu, a.part) (parts_of lanes))

  pub all_reading_in : (lanes : List Lane) → all_reading len lanes ≤ all_unread len lanes
  all_reading_in [] = omega arith
  all_reading_in (a ∷ lanes) =
      omega (arith, reading_in_unread a.layout len a.cursor.state a.part a.cursor.next, all_reading_in lanes, sum_by-cons (unread len) a lanes, sum_by-cons (reading len) a lanes)

  -- lanes that are ready read nothing
  pub none_reading : (lanes : List Lane) → All IsReady lanes → all_reading len lanes ≡ 0
  none_reading [] ready = refl
  none_reading (a ∷ lanes) ready =
      let here : reading len a ≡ 0 = ready_reads a.cursor.state (held_left a) _ (All-head IsReady a lanes ready) in
      omega (arith, sum_by-cons (reading len) a lanes, here, none_reading lanes (All-tail IsReady a lanes ready))

  -- a lane reads nothing where it stays at its sub-buffer, and so does a lane among several
  pub same_unread : (a now : Lane) → now.layout ≡ a.layout → now.part ≡ a.part → now.cursor.state ≡ a.cursor.state → now.cursor.next ≡ a.cursor.next → unread len now ≡ unread len a
  same_unread a now layout part state next =
      by_both (λ (l : Layout) (q : Part). size_from l len q (first_unread now.cursor.state now.cursor.next)) layout part
      ∙ ap (λ (t : LaneState). size_from a.layout len a.part (first_unread t now.cursor.next)) state
      ∙ ap (λ (k : ℕ). size_from a.layout len a.part (first_unread a.cursor.state k)) next

  pub set_unread : (lanes : List Lane) (i : ℕ) (d now : Lane) → i < length lanes → unread len now ≡ unread len (get_or lanes i d) → all_unread len (set lanes i now) ≡ all_unread len lanes
  set_unread lanes i d now lt same = omega (arith, sum_by-set (unread len) lanes i now d lt, same)

  -- a step reads nothing
  pub stepping_unread : (lanes : List Lane) (i : ℕ) (d now : Lane) → i < length lanes → IsStepped (get_or lanes i d) now → all_unread len (set lanes i now) ≡ all_unread len lanes
  stepping_unread lanes i d now lt s = set_unread lanes i d now lt (same_unread (get_or lanes i d) now s.page.layout s.page.part s.page.state s.page.next)

-- loading, after what was read before
pub loading_reads : (len now_len : ℕ) (lanes lanes1 : List Lane) (first before after all : ℕ) → now_len ≡ len → before ≤ raised first (all - all_unread len lanes) → all_unread len lanes ≤ all
    → after ≤ raised before (all_unread now_len lanes - all_unread now_len lanes1 + all_reading now_len lanes1) → all_unread now_len lanes1 ≤ all_unread now_len lanes
    → (after ≤ raised first (all - all_unread len lanes1 + all_reading len lanes1)) × (all_unread len lanes1 ≤ all)
loading_reads len now_len lanes lanes1 first before after all same read le more less =
    let more_here = subst (λ (n : ℕ). after ≤ raised before (all_unread n lanes - all_unread n lanes1 + all_reading n lanes1)) same more in
    let less_here = subst (λ (n : ℕ). all_unread n lanes1 ≤ all_unread n lanes) same less in
    (omega (arith, read, le, more_here, less_here), omega (arith, le, less_here))

-- loading, and then what reads nothing
pub going_reads : (len now_len : ℕ) (lanes lanes1 lanes2 : List Lane) (first before after all : ℕ) → now_len ≡ len → all_unread len lanes2 ≡ all_unread len lanes1 → All IsReady lanes1
    → before ≤ raised first (all - all_unread len lanes) → all_unread len lanes ≤ all
    → after ≤ raised before (all_unread now_len lanes - all_unread now_len lanes1 + all_reading now_len lanes1) → all_unread now_len lanes1 ≤ all_unread now_len lanes
    → (after ≤ raised first (all - all_unread len lanes2)) × (all_unread len lanes2 ≤ all)
going_reads len now_len lanes lanes1 lanes2 first before after all same still ready read le more less =
    let loaded = loading_reads len now_len lanes lanes1 first before after all same read le more less in
    let none = none_reading len lanes1 ready in
    (omega (arith, loaded.0, none, still), omega (arith, loaded.1, still))

-- whatever ended the lanes, no more was read than their parts have
pub reads_inside : (len now_len : ℕ) (first_lanes lanes lanes1 : List Lane) (first before after : ℕ) → now_len ≡ len
    → before ≤ raised first (all_unread len first_lanes - all_unread len lanes) → all_unread len lanes ≤ all_unread len first_lanes
    → after ≤ raised before (all_unread now_len lanes - all_unread now_len lanes1 + all_reading now_len lanes1) → all_unread now_len lanes1 ≤ all_unread now_len lanes
    → after ≤ raised first (sum_by (λ part. part.1.size) (parts_of first_lanes))
reads_inside len now_len first_lanes lanes lanes1 first before after same read le more less =
    let r = loading_reads len now_len lanes lanes1 first before after (all_unread len first_lanes) same read le more less in
    omega (arith, r.0, r.1, all_reading_in len lanes1, all_inside len first_lanes)
