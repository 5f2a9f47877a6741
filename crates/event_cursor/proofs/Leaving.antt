-- What is left of a lane while sub-buffers are loaded.
use Rattle.std.proofs.Common.{◌≡◌, ℕ, suc, ◌+◌, ◌-◌, ◌<◌, ◌≤◌, false, List, [], ◌++◌, length, drop, Option, Some, None, refl, sym, ap, ◌∙◌, arith}
use Rattle.std.specs.Option.{is_none, unwrap_or, IfSome}
use Rattle.std.specs.List.{position_from}
use Rattle.trace_base.specs.declared.layout.Layout.{Layout}
use Rattle.trace_base.specs.declared.part.Part.{Part}
use Rattle.subpage.specs.declared.mark.Mark.{Mark}
use Rattle.subpage.specs.ItemData.{ItemData}
use Rattle.subpage.specs.Marks.{items_from, mark_of}
use Rattle.subpage.specs.Processor.{items_at, page_count, pages_from, joined, list_of, bad_of}
use Rattle.subpage.proofs.Joining.{one_more, stops}
use Rattle.page_pool.specs.declared.lane.Lane.{Lane}
use Rattle.page_pool.specs.InOrder.{HoldsPage, TellsAhead, all_items}
use Rattle.page_pool.specs.Keeping.{KeepsLane, loading}
use Rattle.page_pool.proofs.Keeping.{by_both}
use Rattle.page_pool.specs.declared.cursor.Ahead.{Ahead}
use Rattle.page_pool.specs.declared.cursor.Cursor.{Cursor}
use Rattle.page_pool.specs.declared.cursor.LaneState.TheVariants.{Fresh, Held, Ended, Malformed}
use Rattle.event_cursor.specs.Fetched.{HoldsItems}
use Rattle.event_cursor.specs.Standing.{held_left, left_of, bad_left, OwnIfHeld, Stands}
use Rattle.event_cursor.specs.declared.loading.Loaded.{Loaded}
use Rattle.event_cursor.specs.declared.loading.Loaded.TheVariants as loaded
use Rattle.event_cursor.specs.Loading.{KeepsLeft, IsState, IsAnswer}

-- the sub-buffers that are not loaded yet, by the numbers in the lane
abbrev pub left_at : Layout → List ℕ → List ItemData → Part → ℕ → List ItemData
left_at l file held part next = held ++ joined (pages_from l file part next (page_count l part - next))

abbrev pub bad_at : Layout → List ℕ → Part → ℕ → Option ℕ
bad_at l file part next = position_from is_none next (pages_from l file part next (page_count l part - next))

pub left_is : (file : List ℕ) (a : Lane) (held : List ItemData) (l : Layout) (part : Part) (next : ℕ) → held_left a ≡ held → a.layout ≡ l → a.part ≡ part → a.cursor.next ≡ next
    → left_of file a ≡ left_at l file held part next
unfolding left_of
left_is file a held l part next h o p n =
    ap (λ (xs : List ItemData). left_at a.layout file xs a.part a.cursor.next) h
    ∙ by_both (λ (k : Layout) (q : Part). left_at k file held q a.cursor.next) o p ∙ ap (left_at l file held part) n

pub bad_is : (file : List ℕ) (a : Lane) (l : Layout) (part : Part) (next : ℕ) → a.layout ≡ l → a.part ≡ part → a.cursor.next ≡ next → bad_left file a ≡ bad_at l file part next
unfolding bad_left
bad_is file a l part next o p n = by_both (λ (k : Layout) (q : Part). bad_at k file q a.cursor.next) o p ∙ ap (bad_at l file part) n

-- nothing is held, before and after, and no sub-buffer was loaded
pub stays : (file : List ℕ) (a b : Lane) → held_left a ≡ [] → held_left b ≡ [] → b.layout ≡ a.layout → b.part ≡ a.part → b.cursor.next ≡ a.cursor.next → KeepsLeft file a b
stays file a b h k o p n = record {
  left = left_is file b [] a.layout a.part a.cursor.next k o p n ∙ sym (left_is file a [] a.layout a.part a.cursor.next h refl refl refl);
  bad = bad_is file b a.layout a.part a.cursor.next o p n ∙ sym (bad_is file a a.layout a.part a.cursor.next refl refl refl);
}

-- one sub-buffer more
pub one_loaded : (file : List ℕ) (a b : Lane) (k : ℕ) (xs : List ItemData) → held_left a ≡ [] → a.cursor.next ≡ k → k < page_count a.layout a.part
    → items_at a.layout file a.part k ≡ Some xs → held_left b ≡ xs → b.layout ≡ a.layout → b.part ≡ a.part → b.cursor.next ≡ k + 1 → KeepsLeft file a b
one_loaded file a b k xs h at lt is held o p n =
    let t = one_more a.layout file a.part k (page_count a.layout a.part) xs lt (sym is) in
    record {
      left = left_is file b xs a.layout a.part (k + 1) held o p n ∙ sym t.0 ∙ sym (left_is file a [] a.layout a.part k h refl refl at);
      bad = bad_is file b a.layout a.part (k + 1) o p n ∙ sym t.1 ∙ sym (bad_is file a a.layout a.part k refl refl at);
    }

-- a malformed one
pub at_malformed : (file : List ℕ) (b : Lane) (l : Layout) (part : Part) (k : ℕ) → held_left b ≡ [] → b.layout ≡ l → b.part ≡ part → b.cursor.next ≡ k → k < page_count l part → items_at l file part k ≡ None
    → (left_of file b ≡ []) × (bad_left file b ≡ Some k)
at_malformed file b l part k h o p n lt none =
    let t = stops l file part k (page_count l part) lt (sym none) in
    (left_is file b [] l part k h o p n ∙ t.0, bad_is file b l part k o p n ∙ t.1)

-- after the last
pub at_end : (file : List ℕ) (b : Lane) → held_left b ≡ [] → page_count b.layout b.part ≤ b.cursor.next → (left_of file b ≡ []) × (bad_left file b ≡ None)
at_end file b h le =
    let none : page_count b.layout b.part - b.cursor.next ≡ 0 = omega arith in
    let no_pages : pages_from b.layout file b.part b.cursor.next (page_count b.layout b.part - b.cursor.next) ≡ [] = ap (pages_from b.layout file b.part b.cursor.next) none in
    (left_is file b [] b.layout b.part b.cursor.next h refl refl refl ∙ ap joined no_pages, bad_is file b b.layout b.part b.cursor.next refl refl refl ∙ ap (position_from is_none b.cursor.next) no_pages)

pub keeps_trans : (file : List ℕ) (a b c : Lane) → KeepsLeft file a b → KeepsLeft file b c → KeepsLeft file a c
keeps_trans file a b c p q = record { left = q.left ∙ p.left; bad = q.bad ∙ p.bad }

-- a lane that has the same left stands where it stood
pub stands_again : (file : List ℕ) (a b : Lane) → KeepsLeft file a b → b.layout ≡ a.layout → b.part ≡ a.part → b.cursor.high ≡ a.cursor.high → OwnIfHeld file b
    → (b.cursor.state ≡ Ended → (left_of file b ≡ []) × (bad_left file b ≡ None))
    → (b.cursor.state ≡ Malformed → (left_of file b ≡ []) × (bad_left file b ≡ Some b.cursor.next))
    → Stands file a → Stands file b
stands_again file a b keeps layout part high own ended malformed s = record {
  used = s.used;
  parted = by_both (λ (l : Layout). list_of l file) layout part ∙ s.parted ∙ ap (λ (xs : List ItemData). s.used ++ xs) (sym keeps.left);
  high = high ∙ s.high;
  bad = by_both (λ (l : Layout). bad_of l file) layout part ∙ s.bad ∙ sym keeps.bad;
  own = own;
  ended = ended;
  malformed = malformed;
}

pub answers_ended : (file : List ℕ) (b : Lane) (answer : Loaded) → IsState b answer → IsAnswer file b answer → b.cursor.state ≡ Ended → (left_of file b ≡ []) × (bad_left file b ≡ None)
answers_ended file b loaded.Loaded s a e = let h : Held ≡ Ended = sym s.0 ∙ e in absurd cc
answers_ended file b loaded.End s a e = a
answers_ended file b (loaded.Malformed k) s a e = let h : Malformed ≡ Ended = sym s.0 ∙ e in absurd cc

pub answers_malformed : (file : List ℕ) (b : Lane) (answer : Loaded) → IsState b answer → IsAnswer file b answer → b.cursor.state ≡ Malformed → (left_of file b ≡ []) × (bad_left file b ≡ Some b.cursor.next)
answers_malformed file b loaded.Loaded s a e = let h : Held ≡ Malformed = sym s.0 ∙ e in absurd cc
answers_malformed file b loaded.End s a e = let h : Ended ≡ Malformed = sym s ∙ e in absurd cc
answers_malformed file b (loaded.Malformed k) s a e = (a.0, a.1 ∙ ap (λ (n : ℕ). Some n) (sym s.1))

-- where it stands after an answer
pub stands_answered : (told : Option (List ℕ)) (a m b : Lane) (answer : Loaded) → IfSome told (λ file. KeepsLeft file a m) → IfSome told (λ file. KeepsLeft file m b)
    → KeepsLane loading a m → KeepsLane loading m b → IsState b answer → IfSome told (λ file. IsAnswer file b answer) → IfSome told (λ file. OwnIfHeld file b) → IfSome told (λ file. Stands file a → Stands file b)
stands_answered None a m b answer k k2 p q s i own = tt
stands_answered (Some file) a m b answer k k2 p q s i own = λ stands.
    stands_again file a b (keeps_trans file a m b k k2) (q.layout ∙ p.layout) (q.part ∙ p.part) (q.high ∙ p.high) own (answers_ended file b answer s i) (answers_malformed file b answer s i) stands

-- where it stands after a read that failed
pub stands_failed : (told : Option (List ℕ)) (a m b : Lane) → IfSome told (λ file. KeepsLeft file a m) → IfSome told (λ file. KeepsLeft file m b)
    → KeepsLane loading a m → KeepsLane loading m b → b.cursor.state ≡ Fresh → IfSome told (λ file. OwnIfHeld file b) → IfSome told (λ file. Stands file a → Stands file b)
stands_failed None a m b k k2 p q fresh own = tt
stands_failed (Some file) a m b k k2 p q fresh own = λ stands.
    stands_again file a b (keeps_trans file a m b k k2) (q.layout ∙ p.layout) (q.part ∙ p.part) (q.high ∙ p.high) own
    (λ e. let h : Fresh ≡ Ended = sym fresh ∙ e in absurd cc) (λ e. let h : Fresh ≡ Malformed = sym fresh ∙ e in absurd cc) stands

-- an item is ahead where one is told
pub some_ahead : (l : Layout) (page : List ℕ) (mark : Mark) (high : Option ℕ) (ahead : Option Ahead) → TellsAhead l page mark high ahead → is_none ahead ≡ false → 0 < length (items_from l page mark)
some_ahead l page mark high None tells some = absurd cc
some_ahead l page mark high (Some ahead) tells some = let e : length (items_from l page mark) ≡ suc (length (items_from l page (mark_of ahead.behind))) = ap length tells.items in omega (arith, e)

-- a sub-buffer that was just loaded is held at its first item
pub holds_first : (l : Layout) (page : List ℕ) (c : Cursor) → HoldsItems l page (Some c.mark) → c.at ≡ 0 → TellsAhead l page c.mark c.high c.ahead → c.next ≡ c.held + 1 → HoldsPage l page c
holds_first l page c holds at ahead next =
    let all : all_items l page ≡ items_from l page c.mark = ap (λ (o : Option (List ItemData)). unwrap_or o []) holds.1 in
    record {
      all_are = holds.1 ∙ ap (λ (xs : List ItemData). Some xs) (sym all);
      few = omega (arith, ap length all, holds.2);
      used_up = omega (arith, at);
      mark = holds.0;
      left = ap (λ (n : ℕ). drop n (items_from l page c.mark)) (sym at) ∙ ap (drop c.at) (sym all);
      ahead = ahead;
      next = next;
    }
