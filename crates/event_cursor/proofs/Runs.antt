-- Over a run of plain records.
use Rattle.std.proofs.Common.{◌≡◌, ℕ, ◌+◌, ◌<◌, ◌≤◌, max, List, ◌++◌, map, length, drop, Option, Some, refl, sym, ap, ◌∙◌, arith}
use Rattle.std.specs.List.{fold}
use Rattle.std.proofs.lemmas.List.{drop-drop, drop_at, length-drop, length-append}
use Rattle.trace_base.specs.declared.layout.Layout.{Layout}
use Rattle.trace_base.specs.declared.order.Order.{Order}
use Rattle.subpage.specs.ItemData.{ItemData, item_time}
use Rattle.subpage.specs.Marks.{items_from}
use Rattle.subpage.specs.declared.mark.Mark.{Mark}
use Rattle.subpage.specs.Run.{IsRun, nothing, begins_with, IsRunTo}
use Rattle.page_pool.specs.InOrder.{HoldsPage, TellsAhead, all_items}
use Rattle.page_pool.specs.declared.cursor.Ahead.{Ahead}
use Rattle.page_pool.specs.declared.cursor.Cursor.{Cursor}
use Rattle.page_pool.specs.declared.cursor.LaneState.{LaneState}
use Rattle.page_pool.specs.declared.cursor.LaneState.TheVariants.{Held}
use Rattle.event_cursor.specs.Standing.{if_held}

run_from : (order : Order) (high start end : ℕ) (xs : List ItemData) (bytes : List ℕ) → IsRun order start xs bytes end → fold max (max high start) (map item_time xs) ≡ max high end
run_from order high start end xs bytes (nothing time) = refl
run_from order high start end xs bytes (begins_with time delta last payload front back others plain few behind) =
    let later : max (max high time) (time + delta) ≡ max high (time + delta) = omega arith in
    ap (λ (n : ℕ). fold max n (map item_time others)) later ∙ run_from order high (time + delta) last others back behind

-- the greatest time up to the end of a run: its times rise
pub run_high : (order : Order) (high start end : ℕ) (xs : List ItemData) (bytes : List ℕ) → 0 < length xs → IsRun order start xs bytes end → max high end ≡ fold max high (map item_time xs)
run_high order high start end xs bytes some (nothing time) = absurd (omega arith)
run_high order high start end xs bytes some (begins_with time delta last payload front back others plain few behind) = sym (run_from order high (time + delta) last others back behind)

-- the cursor with its place so many items on
abbrev pub moved_over : Cursor → ℕ → Mark → ℕ → Option Ahead → Cursor
moved_over c count mark high next = record c { at = c.at + count; mark = mark; high = Some high; ahead = next }

-- so many are left
pub enough_left : (l : Layout) (page : List ℕ) (c : Cursor) (behind : Mark) (count : ℕ) → HoldsPage l page c → IsRunTo l page c.mark behind count → c.at + count ≤ length (all_items l page)
enough_left l page c behind count h r =
    let rest : drop c.at (all_items l page) ≡ r.items ++ items_from l page behind = sym h.left ∙ r.left in
    omega (arith, ap length rest, length-append r.items (items_from l page behind), r.long, length-drop c.at (all_items l page), h.used_up)

pub over_holds : (l : Layout) (page : List ℕ) (c : Cursor) (behind : Mark) (count high : ℕ) (next : Option Ahead) → HoldsPage l page c → IsRunTo l page c.mark behind count
    → TellsAhead l page behind (Some high) next → HoldsPage l page (moved_over c count behind high next)
over_holds l page c behind count high next h r further =
    let rest : drop c.at (all_items l page) ≡ r.items ++ items_from l page behind = sym h.left ∙ r.left in
    record {
      all_are = h.all_are;
      few = h.few;
      used_up = enough_left l page c behind count h r;
      mark = r.there;
      left = sym (drop_at r.items (items_from l page behind) count r.long) ∙ ap (drop count) (sym rest) ∙ drop-drop count c.at (all_items l page);
      ahead = further;
      next = h.next;
    }

pub held_over : (s : LaneState) (all rest xs : List ItemData) → s ≡ Held → all ≡ xs ++ rest → if_held s all ≡ xs ++ if_held s rest
held_over s all rest xs e parts = ap (λ (t : LaneState). if_held t all) e ∙ parts ∙ ap (λ (t : LaneState). xs ++ if_held t rest) (sym e)
