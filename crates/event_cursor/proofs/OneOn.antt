-- One item on.
use Rattle.std.proofs.Common.{◌≡◌, ℕ, suc, ◌+◌, List, ◌∷◌, length, drop, Option, Some, None, sym, ap, subst, ◌∙◌, arith}
use Rattle.std.specs.Option.{option_map}
use Rattle.std.proofs.lemmas.List.{drop-drop, length-drop}
use Rattle.trace_base.specs.declared.layout.Layout.{Layout}
use Rattle.subpage.specs.declared.item.Item.{Item}
use Rattle.subpage.specs.Arrangement.{Keyed}
use Rattle.subpage.specs.ItemData.{ItemData}
use Rattle.subpage.specs.ItemView.{item_view}
use Rattle.subpage.specs.declared.mark.Mark.{Mark}
use Rattle.subpage.specs.Marks.{IsMark, items_from, mark_of}
use Rattle.page_pool.specs.InOrder.{HasAhead, HoldsPage, TellsAhead, all_items, item_ahead}
use Rattle.page_pool.specs.declared.lane.Lane.{Lane}
use Rattle.page_pool.specs.declared.cursor.Ahead.{Ahead}
use Rattle.page_pool.specs.declared.cursor.Cursor.{Cursor}
use Rattle.page_pool.specs.declared.cursor.LaneState.{LaneState}
use Rattle.page_pool.specs.declared.cursor.LaneState.TheVariants.{Held}
use Rattle.event_cursor.specs.Keys.{first_of, key_behind, keyed_behind}
use Rattle.event_cursor.specs.Stepping.{IsHead, head_view}
use Rattle.event_cursor.specs.Standing.{if_held}

-- the cursor with its place one item on
abbrev pub moved : Cursor → Ahead → Mark → Option Ahead → Cursor
moved c x mark next = record c { at = c.at + 1; mark = mark; high = Some x.key; ahead = next }

-- what a lane that holds a sub-buffer tells of the item at its place
pub ahead_of : (a : Lane) (o : Option Ahead) → a.cursor.state ≡ Held → a.cursor.ahead ≡ o → TellsAhead a.layout a.page a.cursor.mark a.cursor.high o
ahead_of a o held is = subst (TellsAhead a.layout a.page a.cursor.mark a.cursor.high) is (a.in_order.held held).ahead

pub step_holds : (l : Layout) (page : List ℕ) (c : Cursor) (x : Ahead) (mark : Mark) (next : Option Ahead) → HoldsPage l page c → HasAhead l page c.mark c.high x → mark_of x.behind ≡ mark
    → TellsAhead l page mark (Some x.key) next → HoldsPage l page (moved c x mark next)
step_holds l page c x mark next h here same further =
    let first = item_ahead page c.mark x in
    let rest : drop c.at (all_items l page) ≡ first ∷ items_from l page mark = sym h.left ∙ here.items ∙ ap (λ (m : Mark). first ∷ items_from l page m) same in
    let more : length (drop c.at (all_items l page)) ≡ suc (length (items_from l page mark)) = ap length rest in
    record {
      all_are = h.all_are;
      few = h.few;
      used_up = omega (arith, length-drop c.at (all_items l page), h.used_up);
      mark = subst (λ (m : Mark). IsMark l page m) same here.behind;
      left = sym (ap (drop 1) rest) ∙ drop-drop 1 c.at (all_items l page);
      ahead = further;
      next = h.next;
    }

pub held_first : (s : LaneState) (all rest : List ItemData) (x : ItemData) → s ≡ Held → all ≡ x ∷ rest → if_held s all ≡ x ∷ if_held s rest
held_first s all rest x e first =
    ap (λ (t : LaneState). if_held t all) e ∙ first ∙ ap (λ (t : LaneState). x ∷ if_held t rest) (sym e)

-- the first item with its key and processor
pub head_is : (cpu : ℕ) (high : Option ℕ) (items : List ItemData) (r : Option (ℕ × Item)) → IsHead high items r → option_map (λ head. head_view cpu head) r ≡ first_of (keyed_behind cpu high items)
head_is cpu high items None none = sym (ap (λ (xs : List ItemData). first_of (keyed_behind cpu high xs)) none)
head_is cpu high items (Some head) first =
    let x = item_view head.1 in
    let keyed : ℕ → Option Keyed = λ k. Some (record { key = k; cpu = cpu; item = x }) in
    let is : first_of (keyed_behind cpu high items) ≡ keyed (key_behind high x) = ap (λ (xs : List ItemData). first_of (keyed_behind cpu high xs)) first.1.0 in
    ap keyed first.1.1 ∙ sym is
