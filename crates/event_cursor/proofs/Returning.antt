-- Going back to a place.
use Rattle.std.proofs.Common.{◌≡◌, ℕ, ◌+◌, ◌^◌, ◌<◌, ◌≤◌, true, List, [], ◌++◌, length, drop, Option, Some, None, refl, sym, ap, subst, ◌∙◌, arith}
use Rattle.std.specs.Option.{unwrap_or}
use Rattle.std.proofs.lemmas.Bool.{cond-true}
use Rattle.trace_base.specs.declared.layout.Layout.{Layout}
use Rattle.trace_base.specs.declared.part.Part.{Part}
use Rattle.subpage.specs.declared.mark.Mark.{Mark}
use Rattle.subpage.specs.ItemData.{ItemData}
use Rattle.subpage.specs.Marks.{IsMark, items_from}
use Rattle.subpage.specs.Page.{items}
use Rattle.subpage.specs.Processor.{is_there, items_at, page_bytes}
use Rattle.subpage.proofs.Steps.{some_is}
use Rattle.page_pool.specs.InOrder.{HoldsPage, all_items}
use Rattle.page_pool.specs.declared.lane.Lane.{Lane}
use Rattle.page_pool.specs.declared.cursor.LaneState.TheVariants.{Held, Ended, Malformed}
use Rattle.event_cursor.specs.Fetched.{HoldsItems}
use Rattle.event_cursor.specs.Standing.{HoldsOwn, held_left, left_of, bad_left, Stands}
use Rattle.event_cursor.specs.Places.{HasPlace, IsPlace, place_in, left_behind, bad_behind, HoldsAt, StandsAt}
use Rattle.event_cursor.specs.declared.places.Place.{Place}
use Rattle.event_cursor.proofs.Leaving.{left_is, bad_is}

-- the items of a held sub-buffer are the file's
pub items_held : (file : List ℕ) (a : Lane) → HoldsOwn file a → items_at a.layout file a.part a.cursor.held ≡ items a.layout a.page
unfolding items_at
items_held file a h = cond-true _ _ _ h.there ∙ ap (items a.layout) (sym h.page)

-- the position before its first item, where the buffer is not checked again
pub holds_checked : (l : Layout) (page bytes : List ℕ) (all : List ItemData) (first : Mark) → bytes ≡ page → items l page ≡ Some all → length all < 2 ^ 32
    → IsMark l bytes first → Some (items_from l bytes first) ≡ items l bytes → HoldsItems l page (Some first)
holds_checked l page bytes all first same are few mark exact =
    let there : IsMark l page first = subst (λ (p : List ℕ). IsMark l p first) same mark in
    let told : Some (items_from l page first) ≡ items l page = subst (λ (p : List ℕ). Some (items_from l p first) ≡ items l p) same exact in
    let whole : items_from l page first ≡ all = some_is _ _ (told ∙ are) in
    (there, sym told, omega (arith, ap length whole, few))

-- a sub-buffer with fewer items has no such place
pub never_fewer : (l : Layout) (file : List ℕ) (part old : Part) (place : Place) (xs : List ItemData) → part ≡ old → HasPlace l file old place → items_at l file part place.page ≡ Some xs → length xs < place.at → ⊥
never_fewer l file part old place xs same p is few =
    let both : Some p.all ≡ Some xs = sym p.all_are ∙ ap (λ (q : Part). items_at l file q place.page) (sym same) ∙ is in
    let long : length p.all ≡ length xs = ap (λ (o : Option (List ItemData)). length (unwrap_or o [])) both in
    let within : place.at ≤ length p.all = p.within in
    omega (arith, long, within, few)

-- nor has a malformed one
pub never_none : (l : Layout) (file : List ℕ) (part old : Part) (place : Place) → part ≡ old → HasPlace l file old place → items_at l file part place.page ≡ None → ⊥
never_none l file part old place same p none =
    let no_items : Some p.all ≡ None = sym p.all_are ∙ ap (λ (q : Part). items_at l file q place.page) (sym same) ∙ none in
    cc

pub has_place : (l : Layout) (file : List ℕ) (part old : Part) (place : Place) (xs : List ItemData) → part ≡ old → items_at l file part place.page ≡ Some xs → place.at ≤ length xs → HasPlace l file old place
has_place l file part old place xs same is le =
    record { all = xs; all_are = ap (λ (q : Part). items_at l file q place.page) (sym same) ∙ is; within = le }

pub stands_there : (file : List ℕ) (b : Lane) (old : Part) (place : Place) (all left : List ItemData) → HoldsAt place b → b.part ≡ old
    → (is_there b.layout file b.part place.page ≡ true) × (b.page ≡ page_bytes b.layout file b.part place.page)
    → items_at b.layout file b.part place.page ≡ Some all → held_left b ≡ left → left ≡ drop place.at all
    → IsPlace b.layout file old place → StandsAt file place b
stands_there file b old place all left h same own is held_is left_is2 p0 =
    let p : IsPlace b.layout file b.part place = subst (λ (q : Part). IsPlace b.layout file q place) (sym same) p0 in
    let next : b.cursor.next ≡ place.page + 1 = h.next in
    let here : held_left b ≡ drop place.at (unwrap_or (items_at b.layout file b.part place.page) []) =
    held_is ∙ left_is2 ∙ ap (λ (o : Option (List ItemData)). drop place.at (unwrap_or o [])) (sym is) in
    let left = left_is file b (drop place.at (unwrap_or (items_at b.layout file b.part place.page) [])) b.layout b.part (place.page + 1) here refl refl next in
    let bad = bad_is file b b.layout b.part (place.page + 1) refl refl next in
    record {
      stands = record {
        used = p.used;
        parted = p.parted ∙ ap (λ (xs : List ItemData). p.used ++ xs) (sym left);
        high = h.high ∙ p.high;
        bad = p.bad ∙ sym bad;
        own = λ e. record {
          there = subst (λ (k : ℕ). is_there b.layout file b.part k ≡ true) (sym h.held) own.0;
          page = own.1 ∙ ap (page_bytes b.layout file b.part) (sym h.held);
        };
        ended = λ e. let never : Held ≡ Ended = sym h.state ∙ e in absurd cc;
        malformed = λ e. let never : Held ≡ Malformed = sym h.state ∙ e in absurd cc;
      };
      left = left;
      bad = bad;
    }

-- a lane that holds a sub-buffer of the file stands at a place of it
module _ (file : List ℕ) (a : Lane) (stands : Stands file a) (held : a.cursor.state ≡ Held) where
  here : HoldsPage a.layout a.page a.cursor
  here = a.in_order.held held

  abbrev whole : List ItemData
  whole = all_items a.layout a.page

  items_are : items_at a.layout file a.part a.cursor.held ≡ Some whole
  items_are = items_held file a (stands.own held) ∙ here.all_are

  held_is : held_left a ≡ drop a.cursor.at (unwrap_or (items_at a.layout file a.part a.cursor.held) [])
  held_is = rw held (here.left ∙ ap (λ (o : Option (List ItemData)). drop a.cursor.at (unwrap_or o [])) (sym items_are))

  pub left_is_behind : left_of file a ≡ left_behind a.layout file a.part (place_in a)
  left_is_behind = left_is file a (drop a.cursor.at (unwrap_or (items_at a.layout file a.part a.cursor.held) [])) a.layout a.part (a.cursor.held + 1) held_is refl refl here.next

  pub bad_is_behind : bad_left file a ≡ bad_behind a.layout file a.part (place_in a)
  bad_is_behind = bad_is file a a.layout a.part (a.cursor.held + 1) refl refl here.next

  pub is_place : IsPlace a.layout file a.part (place_in a)
  is_place = record {
    has = record { all = whole; all_are = items_are; within = here.used_up };
    used = stands.used;
    parted = stands.parted ∙ ap (λ (xs : List ItemData). stands.used ++ xs) left_is_behind;
    high = stands.high;
    bad = stands.bad ∙ bad_is_behind;
  }
