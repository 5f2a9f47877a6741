-- What the files of a split read, one after another.
use Rattle.std.proofs.Common.{◌≡◌, ℕ, ◌+◌, ◌-◌, ◌*◌, ◌≤◌, List, [], ◌∷◌, length, get_or, sum_by, lit<, sym, subst, ap, ◌∙◌, arith}
use Rattle.std.specs.List.{All}
use Rattle.std.proofs.lemmas.List.Elements.{All-head, All-tail}
use Rattle.std.proofs.lemmas.List.Sums.{sum_by-append, sum_by-cons}
use Rattle.trace_base.specs.declared.layout.Layout.{Layout}
use Rattle.trace_base.specs.declared.part.Part.{Part}
use Rattle.trace_outside.specs.Causes.{raised}
use Rattle.page_pool.specs.Fresh.{IsFresh}
use Rattle.page_pool.specs.declared.lane.Lane.{Lane}
use Rattle.event_cursor.specs.declared.places.Place.{Place}
use Rattle.time_merge.specs.LaneRows.{parts_of}
use Rattle.time_merge.specs.Reads.{all_reading, all_unread}
use Rattle.time_merge.proofs.Advancing.{same_length}
use Rattle.time_merge.proofs.PartReads.{all_reading_in}
use Rattle.split_passes.specs.ListSeen.{ListSeen}
use Rattle.split_passes.specs.Reads.{all_packing}
use Rattle.split_passes.specs.Tallies.{IsTally}
use Rattle.split_passes.specs.declared.tally.Tally.{Tally}
use Rattle.split_tool.specs.Going.{ListBegun, ListDone, ListGoes}
use Rattle.split_tool.specs.Lists.{EachList, lanes_of}
use Rattle.split_tool.specs.Reads.{Spent, again, all_again, lists_packing, to_read}
use Rattle.split_tool.proofs.Flat.{advance_flat, each_tail, parts_flat}
use Rattle.split_tool.proofs.Spending.{all_advances, all_fresh, all_packed_again}

pub all_done : (len : ℕ) (lanes : List Lane) (first after all : ℕ) → all_unread len lanes ≤ all → after ≤ raised first (all - all_unread len lanes + all_reading len lanes) → after ≤ raised first all
all_done len lanes first after all le read = omega (arith, read, le, all_reading_in len lanes)

pub spent_more : (a b c start mid after : ℕ) → Spent a b start mid → Spent b c mid after → Spent a c start after
spent_more a b c start mid after p q = record { less = omega (arith, p.less, q.less); reads = omega (arith, p.less, q.less, p.reads, q.reads) }

pub spent_stops : (len now_len : ℕ) (first now : List Lane) (start mid after : ℕ) → now_len ≡ len → Spent (to_read len first) (to_read len now) start mid → after ≤ raised mid (to_read now_len now)
    → after ≤ raised start (to_read len first)
spent_stops len now_len first now start mid after same p q =
    let here = subst (λ (n : ℕ). after ≤ raised mid (to_read n now)) same q in
    omega (arith, p.less, p.reads, here)

pub spent_all : (a b start after : ℕ) → Spent a b start after → after ≤ raised start a
spent_all a b start after p = omega (arith, p.less, p.reads)

-- what was packed comes out of what was left for it
spent_packed : (a b packing start mid after : ℕ) → Spent a (b + packing) start mid → after ≤ raised mid packing → Spent a b start after
spent_packed a b packing start mid after p q = record { less = omega (arith, p.less); reads = omega (arith, p.less, p.reads, q) }

-- a file was written, by a file whose length is the same
module _ (len now_len : ℕ) (first : List Lane) (lists : List ListSeen) (start mid after : ℕ) (same : now_len ≡ len)
    (p : Spent (to_read len first) (to_read len (lanes_of lists) + lists_packing len lists) start mid) (read : after ≤ raised mid (lists_packing now_len lists)) where
  read_here : after ≤ raised mid (lists_packing len lists)
  read_here = subst (λ (n : ℕ). after ≤ raised mid (lists_packing n lists)) same read

  pub written_stops : after ≤ raised start (to_read len first)
  written_stops = omega (arith, p.less, p.reads, read_here)

  pub written_spent : (now : List Lane) → to_read now_len now ≡ to_read now_len (lanes_of lists) → Spent (to_read len first) (to_read len now) start after
  written_spent now left =
      let here : to_read len now ≡ to_read len (lanes_of lists) = subst (λ (n : ℕ). to_read n now ≡ to_read n (lanes_of lists)) same left in
      subst (λ (n : ℕ). Spent (to_read len first) n start after) (sym here) (spent_packed (to_read len first) (to_read len (lanes_of lists)) (lists_packing len lists) start mid after p read_here)

-- a file whose length is the same
pub same_spent : (len now_len : ℕ) (first now : List Lane) (before after : ℕ) → now_len ≡ len → Spent (to_read now_len first) (to_read now_len now) before after → Spent (to_read len first) (to_read len now) before after
same_spent len now_len first now before after same p = subst (λ (n : ℕ). Spent (to_read n first) (to_read n now) before after) same p

pub none_tallied : (l : Layout) (t : Tally) → IsTally l t [] → t.items ≡ 0
none_tallied l t none = (none (lit< tt)).count

module _ (len : ℕ) where
  -- lanes that were loaded
  pub loaded_stops : (first lanes : List Lane) (start after : ℕ) → after ≤ raised start (all_unread len first - all_unread len lanes + all_reading len lanes) → all_unread len lanes ≤ all_unread len first → after ≤ raised start (to_read len first)
  loaded_stops first lanes start after read le = omega (arith, read, le, all_reading_in len lanes)

  pub loaded_out : (now_len : ℕ) (first lanes : List Lane) (start mid after : ℕ) → now_len ≡ len
      → mid ≤ raised start (all_unread len first - all_unread len lanes) → all_unread len lanes ≤ all_unread len first → after ≤ raised mid (all_unread now_len lanes) → after ≤ raised start (to_read len first)
  loaded_out now_len first lanes start mid after same read le more =
      let here = subst (λ (n : ℕ). after ≤ raised mid (all_unread n lanes)) same more in
      omega (arith, read, le, here)

  -- lists that passed over items
  pub passed_spent : (first now : List ListSeen) (start after : ℕ) → length now ≡ length first → EachList ListGoes first now
      → after ≤ raised start (all_unread len (lanes_of first) - all_unread len (lanes_of now)) → all_unread len (lanes_of now) ≤ all_unread len (lanes_of first)
      → Spent (to_read len (lanes_of first)) (to_read len (lanes_of now)) start after
  passed_spent first now start after long goes read le =
      let less = all_advances len (lanes_of first) (lanes_of now) (same_length (lanes_of now) (lanes_of first) (parts_flat first now long goes)) (advance_flat first now long goes) in
      record { less = omega (arith, less, le); reads = omega (arith, less, le, read) }

  -- a list that was measured
  list_packed : (before now : ListSeen) → ListBegun before → ListGoes before now → ListDone before now → all_packing len now.all now.fronts now.tallies + all_again len now.all ≤ all_again len before.all
  list_packed before now begun goes done =
      let same = same_length now.all before.all goes.parts in
      all_packed_again len before.all now.all now.fronts now.tallies same (ap length done.fronts ∙ begun.fronts_long) (done.long ∙ same) begun.begun.ready done.ready goes.advance
      (λ j d p lt. ap (λ (ps : List Place). get_or ps j p) done.fronts ∙ begun.begun.noted j d p lt)
      (λ j d t lt o. ap (λ (u : Tally). u.items) (done.over j d t lt o) ∙ none_tallied before.layout (get_or before.tallies j t) (begun.begun.none before.layout j t (omega (arith, lt, begun.tallies_long))))

  lists_packed : (before now : List ListSeen) → length now ≡ length before → All ListBegun before → EachList ListGoes before now → EachList ListDone before now
      → lists_packing len now + all_again len (lanes_of now) ≤ all_again len (lanes_of before)
  lists_packed [] [] long begun goes done = omega arith
  lists_packed [] (b ∷ now) long begun goes done = absurd (omega (arith, long))
  lists_packed (a ∷ before) [] long begun goes done = absurd (omega (arith, long))
  lists_packed (a ∷ before) (b ∷ now) long begun goes done =
      let one = list_packed a b (All-head ListBegun a before begun) (goes 0 a (omega arith)) (done 0 a (omega arith)) in
      let rest = lists_packed before now (omega (arith, long)) (All-tail ListBegun a before begun) (each_tail ListGoes a b before now goes) (each_tail ListDone a b before now done) in
      omega (
        arith,
        sum_by-append (again len) a.all (lanes_of before),
        sum_by-append (again len) b.all (lanes_of now),
        sum_by-cons (λ (x : ListSeen). all_packing len x.all x.fronts x.tallies) b now,
        one,
        rest,
      )

  -- a file that was measured
  pub measured_spent : (now_len : ℕ) (first ready now : List ListSeen) (start mid after : ℕ) → now_len ≡ len → length ready ≡ length first → length now ≡ length ready
      → EachList ListGoes first ready → EachList ListGoes ready now → All ListBegun ready → EachList ListDone ready now
      → mid ≤ raised start (all_unread len (lanes_of first) - all_unread len (lanes_of ready)) → all_unread len (lanes_of ready) ≤ all_unread len (lanes_of first)
      → after ≤ raised mid (all_unread now_len (lanes_of ready) - all_unread now_len (lanes_of now)) → all_unread now_len (lanes_of now) ≤ all_unread now_len (lanes_of ready)
      → Spent (to_read len (lanes_of first)) (to_read len (lanes_of now) + lists_packing len now) start after
  measured_spent now_len first ready now start mid after same long1 long2 goes1 goes2 begun done read1 less1 read2 less2 =
      let read = subst (λ (n : ℕ). after ≤ raised mid (all_unread n (lanes_of ready) - all_unread n (lanes_of now))) same read2 in
      let less = subst (λ (n : ℕ). all_unread n (lanes_of now) ≤ all_unread n (lanes_of ready)) same less2 in
      let further = all_advances len (lanes_of first) (lanes_of ready) (same_length (lanes_of ready) (lanes_of first) (parts_flat first ready long1 goes1)) (advance_flat first ready long1 goes1) in
      let packed = lists_packed ready now long2 begun goes2 done in
      record { less = omega (arith, less1, less, further, packed); reads = omega (arith, read1, less1, read, less, further, packed) }

  pub start_less : (lanes : List Lane) (start after : ℕ) → All (λ (a : Lane). IsFresh a.cursor) lanes → after ≤ raised start (to_read len lanes) → after ≤ raised start (3 * sum_by (λ (p : ℕ × Part). p.1.size) (parts_of lanes))
  start_less lanes start after fresh read = omega (arith, read, all_fresh len lanes fresh)
