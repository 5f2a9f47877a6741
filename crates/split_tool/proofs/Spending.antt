-- What lanes may still read falls by what is read.
use Rattle.std.proofs.Common.{◌≡◌, ℕ, zero, suc, ◌+◌, ◌-◌, ◌*◌, ◌<◌, ◌≤◌, eqb, List, [], ◌∷◌, length, get_or, sum_by, inl, inr, refl, sym, ap, subst, ◌∙◌, arith}
use Rattle.std.specs.List.{All}
use Rattle.std.proofs.lemmas.Bool.{cases_Bool, cond-true, cond-false, eq-eqb}
use Rattle.std.proofs.lemmas.List.Elements.{All-head, All-tail}
use Rattle.std.proofs.lemmas.List.Sums.{sum_by-cons}
use Rattle.trace_base.specs.declared.layout.Layout.{Layout}
use Rattle.trace_base.proofs.Layouts.{carried}
use Rattle.trace_base.specs.declared.part.Part.{Part}
use Rattle.page_pool.specs.Fresh.{IsFresh}
use Rattle.page_pool.specs.declared.lane.Lane.{Lane}
use Rattle.page_pool.proofs.Keeping.{by_both}
use Rattle.page_pool.specs.declared.cursor.LaneState.{LaneState}
use Rattle.page_pool.specs.declared.cursor.LaneState.TheVariants.{Fresh, Held, Ended, Malformed}
use Rattle.event_cursor.specs.Places.{place_in}
use Rattle.event_cursor.specs.Standing.{held_left}
use Rattle.event_cursor.specs.Unread.{first_unread, size_from, unread}
use Rattle.event_cursor.specs.declared.places.Place.{Place}
use Rattle.time_merge.specs.Advancing.{Advances, IsOver}
use Rattle.time_merge.specs.LaneRows.{IsReady, IsReadyIn, parts_of}
use Rattle.split_passes.specs.Reads.{all_packing, between, numbers_of, packing}
use Rattle.split_passes.specs.declared.tally.Tally.{Tally}
use Rattle.split_passes.proofs.Placing.{not_both}
use Rattle.split_passes.proofs.Sizes.{size_less, size_all}
use Rattle.split_tool.specs.Reads.{again, all_again, first_again, to_read}

first_below : (s : LaneState) (next : ℕ) → next - 1 ≤ first_again s next
first_below Fresh next = omega arith
first_below Held next = omega arith
first_below Ended next = omega arith
first_below Malformed next = omega arith

some_page : (l : Layout) → 0 < l.page
some_page l = omega (arith, (carried l).page_least)

module _ (len : ℕ) where
  -- LANES THAT GO ON

  again_less : (l : Layout) (part : Part) (s t : LaneState) (n m : ℕ) → (IsOver s → ⊥) → n ≤ m
      → size_from l len part (first_again t m) + size_from l len part m ≤ size_from l len part (first_again s n) + size_from l len part n
  again_less l part Fresh t n m going le =
      let below : n - 1 ≤ first_again t m = omega (arith, first_below t m, le) in
      omega (arith, size_less l len part (some_page l) n m le, size_less l len part (some_page l) (n - 1) (first_again t m) below)
  again_less l part Held t n m going le =
      let below : n - 1 ≤ first_again t m = omega (arith, first_below t m, le) in
      omega (arith, size_less l len part (some_page l) n m le, size_less l len part (some_page l) (n - 1) (first_again t m) below)
  again_less l part Ended t n m going le = absurd (going tt)
  again_less l part Malformed t n m going le = absurd (going tt)

  again_is : (a : Lane) (l : Layout) (part : Part) → a.layout ≡ l → a.part ≡ part → again len a ≡ size_from l len part (first_again a.cursor.state a.cursor.next) + size_from l len part a.cursor.next
  again_is a l part layout same = by_both (λ k p. size_from k len p (first_again a.cursor.state a.cursor.next) + size_from k len p a.cursor.next) layout same

  pub advances_again : (a b : Lane) → Advances a b → again len b ≤ again len a
  advances_again a b on = by_state a.cursor.state refl
    where
      going_less : (IsOver a.cursor.state → ⊥) → again len b ≤ again len a
      going_less going = omega (arith, again_is b a.layout a.part on.layout on.part, again_less a.layout a.part a.cursor.state b.cursor.state a.cursor.next b.cursor.next going on.forward)

      over_same : IsOver a.cursor.state → again len b ≤ again len a
      over_same over = let same = ap (again len) (on.over over) in omega (arith, same)

      by_state : (s : LaneState) → a.cursor.state ≡ s → again len b ≤ again len a
      by_state Fresh is = going_less (λ over. let never : IsOver Fresh = subst IsOver is over in absurd never)
      by_state Held is = going_less (λ over. let never : IsOver Held = subst IsOver is over in absurd never)
      by_state Ended is = over_same (subst IsOver (sym is) tt)
      by_state Malformed is = over_same (subst IsOver (sym is) tt)

  pub all_advances : (first now : List Lane) → length now ≡ length first → ((j : ℕ) (d : Lane) → j < length first → Advances (get_or first j d) (get_or now j d)) → all_again len now ≤ all_again len first
  all_advances [] [] e on = omega arith
  all_advances [] (b ∷ now) e on = absurd (omega (arith, e))
  all_advances (a ∷ first) [] e on = absurd (omega (arith, e))
  all_advances (a ∷ first) (b ∷ now) e on =
      let rest = all_advances first now (omega (arith, e)) (λ j d lt. on (suc j) d (omega (arith, lt))) in
      omega (arith, sum_by-cons (again len) a first, sum_by-cons (again len) b now, advances_again a b (on 0 a (omega arith)), rest)

  -- A SECOND PASS

  module _ (l : Layout) (part : Part) (page n m : ℕ) (last : n ≡ page + 1) (le : n ≤ m) where
    spent_all : (k : ℕ) → page + 1 ≤ k → k ≤ m → size_from l len part page - size_from l len part m + (size_from l len part k + size_from l len part m) ≤ size_from l len part page + size_from l len part n
    spent_all k at below =
        let same = ap (size_from l len part) last in
        omega (arith, same, size_less l len part (some_page l) page m (omega (arith, last, le)), size_less l len part (some_page l) (page + 1) k at)

    spent_by : (t : LaneState) → (t ≡ Fresh → ⊥) → between t (size_from l len part) page m + (size_from l len part (first_again t m) + size_from l len part m) ≤ size_from l len part page + size_from l len part n
    spent_by Fresh ready = absurd (ready refl)
    spent_by Ended ready = spent_all m (omega (arith, last, le)) (omega arith)
    spent_by Malformed ready = spent_all m (omega (arith, last, le)) (omega arith)
    spent_by Held ready = elim (cases_Bool (eqb (page + 1) m)) [
      | inl b ↦
          let none : between Held (size_from l len part) page m ≡ 0 = cond-true _ _ _ b in
          let less = size_less l len part (some_page l) n m le in
          let less2 = size_less l len part (some_page l) page (m - 1) (omega (arith, last, le)) in
          omega (arith, none, less, less2)
      | inr b ↦
          let all : between Held (size_from l len part) page m ≡ size_from l len part page - size_from l len part m = cond-false _ _ _ b in
          let not : page + 1 ≡ m → ⊥ = λ e. not_both (eqb (page + 1) m) b (eq-eqb (page + 1) m e) in
          let spent = spent_all (m - 1) (omega (arith, not, last, le)) (omega arith) in
          omega (arith, all, spent)
    ]

  pub packed_again : (first now : Lane) (front : Place) (count : ℕ) → IsReady first → IsReady now → Advances first now → front ≡ place_in first → (IsOver first.cursor.state → count ≡ 0)
      → packing len now front count + again len now ≤ again len first
  packed_again first now front zero ready ready_now on place none = omega (arith, advances_again first now on)
  packed_again first now front (suc count) ready ready_now on place none = by_state first.cursor.state refl
    where
      never_fresh : (a : Lane) → IsReady a → a.cursor.state ≡ Fresh → ⊥
      never_fresh a r is = let fresh : IsReadyIn Fresh (held_left a) = subst (λ (s : LaneState). IsReadyIn s (held_left a)) is r in fresh

      over_none : IsOver first.cursor.state → packing len now front (suc count) + again len now ≤ again len first
      over_none over = let zero : suc count ≡ 0 = none over in absurd (omega (arith, zero))

      by_state : (s : LaneState) → first.cursor.state ≡ s → packing len now front (suc count) + again len now ≤ again len first
      by_state Fresh is = absurd (never_fresh first ready is)
      by_state Ended is = over_none (subst IsOver (sym is) tt)
      by_state Malformed is = over_none (subst IsOver (sym is) tt)
      by_state Held is =
          let page = first.cursor.held in
          let last : first.cursor.next ≡ page + 1 = (first.in_order.held is).next in
          let spent = spent_by first.layout first.part page first.cursor.next now.cursor.next last on.forward now.cursor.state (never_fresh now ready_now) in
          let front_page : front.page ≡ page = ap (λ (p : Place). p.page) place in
          let pack : packing len now front (suc count) ≡ between now.cursor.state (size_from first.layout len first.part) page now.cursor.next =
          by_both (λ k p. between now.cursor.state (size_from k len p) front.page now.cursor.next) on.layout on.part
          ∙ ap (λ (k : ℕ). between now.cursor.state (size_from first.layout len first.part) k now.cursor.next) front_page in
          let first_page : first_again first.cursor.state first.cursor.next ≡ page =
          ap (λ (s : LaneState). first_again s first.cursor.next) is ∙ ap (λ (k : ℕ). k - 1) last ∙ omega arith in
          let start = ap (size_from first.layout len first.part) first_page in
          omega (arith, spent, pack, start, again_is now first.layout first.part on.layout on.part)

  pub all_packed_again : (first now : List Lane) (fronts : List Place) (tallies : List Tally) → length now ≡ length first → length fronts ≡ length first → length tallies ≡ length first
      → All IsReady first → All IsReady now → ((j : ℕ) (d : Lane) → j < length first → Advances (get_or first j d) (get_or now j d))
      → ((j : ℕ) (d : Lane) (p : Place) → j < length first → get_or fronts j p ≡ place_in (get_or first j d))
      → ((j : ℕ) (d : Lane) (t : Tally) → j < length first → IsOver (get_or first j d).cursor.state → (get_or tallies j t).items ≡ 0)
      → all_packing len now fronts tallies + all_again len now ≤ all_again len first
  all_packed_again [] [] fronts tallies e1 e2 e3 ready ready_now on noted none = omega arith
  all_packed_again [] (b ∷ now) fronts tallies e1 e2 e3 ready ready_now on noted none = absurd (omega (arith, e1))
  all_packed_again (a ∷ first) [] fronts tallies e1 e2 e3 ready ready_now on noted none = absurd (omega (arith, e1))
  all_packed_again (a ∷ first) (b ∷ now) [] tallies e1 e2 e3 ready ready_now on noted none = absurd (omega (arith, e2))
  all_packed_again (a ∷ first) (b ∷ now) (p ∷ fronts) [] e1 e2 e3 ready ready_now on noted none = absurd (omega (arith, e3))
  all_packed_again (a ∷ first) (b ∷ now) (p ∷ fronts) (t ∷ tallies) e1 e2 e3 ready ready_now on noted none =
      let one = packed_again a b p t.items (All-head IsReady a first ready) (All-head IsReady b now ready_now) (on 0 a (omega arith)) (noted 0 a p (omega arith)) (none 0 a t (omega arith)) in
      let rest = all_packed_again first now fronts tallies (omega (arith, e1)) (omega (arith, e2)) (omega (arith, e3)) (All-tail IsReady a first ready) (All-tail IsReady b now ready_now)
      (λ j d lt. on (suc j) d (omega (arith, lt))) (λ j d q lt. noted (suc j) d q (omega (arith, lt))) (λ j d u lt. none (suc j) d u (omega (arith, lt))) in
      omega (arith, sum_by-cons (again len) a first, sum_by-cons (again len) b now, one, rest)

  -- AT THE START

  fresh_less : (a : Lane) → IsFresh a.cursor → unread len a + again len a ≤ 3 * a.part.size
  fresh_less a fresh =
      let all = size_all a.layout len a.part (some_page a.layout) in
      let first : unread len a ≡ size_from a.layout len a.part 0 =
      ap (λ (s : LaneState). size_from a.layout len a.part (first_unread s a.cursor.next)) fresh.state ∙ ap (size_from a.layout len a.part) fresh.next in
      let begin : first_again a.cursor.state a.cursor.next ≡ 0 =
      ap (λ (s : LaneState). first_again s a.cursor.next) fresh.state ∙ ap (λ (k : ℕ). k - 1) fresh.next in
      let one = ap (size_from a.layout len a.part) begin in
      let two = ap (size_from a.layout len a.part) fresh.next in
      omega (arith, all, first, one, two)

  pub all_fresh : (lanes : List Lane) → All (λ (a : Lane). IsFresh a.cursor) lanes → to_read len lanes ≤ 3 * sum_by (λ (p : ℕ × Part). p.1.size) (parts_of lanes)
  all_fresh [] fresh = omega arith
  all_fresh (a ∷ lanes) fresh =
      let one = fresh_less a (All-head (λ (b : Lane). IsFresh b.cursor) a lanes fresh) in
      let rest = all_fresh lanes (All-tail (λ (b : Lane). IsFresh b.cursor) a lanes fresh) in
      omega (
        arith,
        sum_by-cons (unread len) a lanes,
        sum_by-cons (again len) a lanes,
        sum_by-cons (λ (p : ℕ × Part). p.1.size) (a.cpu, a.part) (parts_of lanes),
        one,
        rest,
      )

-- LANES WITH THE SAME NUMBERS

abbrev unread_at : ℕ → Layout × Part × LaneState × ℕ → ℕ
unread_at len at = size_from at.0 len at.1 (first_unread at.2 at.3)

abbrev again_at : ℕ → Layout × Part × LaneState × ℕ → ℕ
again_at len at = size_from at.0 len at.1 (first_again at.2 at.3) + size_from at.0 len at.1 at.3

by_numbers : (len : ℕ) (lanes : List Lane) → to_read len lanes ≡ sum_by (unread_at len) (numbers_of lanes) + sum_by (again_at len) (numbers_of lanes)
by_numbers len [] = refl
by_numbers len (a ∷ lanes) =
    let at : Layout × Part × LaneState × ℕ = (a.layout, a.part, a.cursor.state, a.cursor.next) in
    omega (
      arith,
      sum_by-cons (unread len) a lanes,
      sum_by-cons (again len) a lanes,
      sum_by-cons (unread_at len) at (numbers_of lanes),
      sum_by-cons (again_at len) at (numbers_of lanes),
      by_numbers len lanes,
    )

pub same_to_read : (len : ℕ) (before now : List Lane) → numbers_of now ≡ numbers_of before → to_read len now ≡ to_read len before
same_to_read len before now same =
    by_numbers len now
    ∙ ap (λ (ns : List (Layout × Part × LaneState × ℕ)). sum_by (unread_at len) ns + sum_by (again_at len) ns) same
    ∙ sym (by_numbers len before)
