-- The used items of a lane that holds a sub-buffer: those of the sub-buffers before it, and so many of its own.
use Rattle.std.proofs.Common.{◌≡◌, ℕ, ◌+◌, ◌-◌, ◌*◌, ◌/◌, ◌%◌, min, ◌<◌, ◌≤◌, true, List, [], ◌++◌, length, take, drop, Option, Some, refl, sym, ap, subst, ◌∙◌, append_assoc, arith}
use Rattle.std.specs.Option.{is_none, unwrap_or, IfSome}
use Rattle.std.specs.List.{position_from}
use Rattle.std.proofs.lemmas.Bool.{leb-true, and_parts}
use Rattle.std.proofs.lemmas.List.{take-append-drop, take_at, length-append}
use Rattle.std.proofs.lemmas.List.FromFn.{take-map-range_with_len}
use Rattle.std.proofs.Math.Nat.{le-div_iff_mul-le}
use Rattle.trace_base.specs.declared.layout.Layout.{Layout}
use Rattle.trace_base.specs.declared.part.Part.{Part}
use Rattle.subpage.specs.ItemData.{ItemData}
use Rattle.subpage.specs.Processor.{is_there, items_at, page_count, pages_from, joined, list_of, bad_of}
use Rattle.subpage.proofs.Joining.{one_more}
use Rattle.page_pool.specs.InOrder.{all_items}
use Rattle.page_pool.specs.declared.lane.Lane.{Lane}
use Rattle.page_pool.specs.declared.cursor.LaneState.TheVariants.{Held}
use Rattle.event_cursor.specs.Standing.{left_of, Stands}
use Rattle.event_cursor.proofs.Leaving.{left_is, bad_is}
use Rattle.event_cursor.proofs.Returning.{items_held}
use Rattle.event_cursor.proofs.Told.{told_map}
use Rattle.event_cursor.proofs.Fronts.{no_sooner, joined_split, drop_range}

-- what comes before the same end is the same
same_front : (used front end : List ItemData) → used ++ end ≡ front ++ end → used ≡ front
same_front used front end e =
    let long : length (used ++ end) ≡ length (front ++ end) = ap length e in
    let same : length front ≡ length used = omega (arith, length-append used end, length-append front end) in
    sym (take_at used end (length used) refl) ∙ ap (take (length used)) e ∙ take_at front end (length used) same

pub held_counts : (size page k : ℕ) → 0 < page → (k + 1) * page ≤ size → k < size / page + min 1 (size % page)
held_counts size page k some le = let whole : k + 1 ≤ size / page = (le-div_iff_mul-le some).1 le in omega (arith, whole)

there_counts : (l : Layout) (file : List ℕ) (part : Part) (k : ℕ) → 0 < l.page → is_there l file part k ≡ true → k < page_count l part
there_counts l file part k some there = held_counts part.size l.page k some (leb-true _ _ (and_parts _ _ (and_parts _ _ there).0).0)

pub used_are : (file : List ℕ) (a : Lane) → 0 < a.layout.page → (s : Stands file a) → a.cursor.state ≡ Held
    → s.used ≡ joined (pages_from a.layout file a.part 0 a.cursor.held) ++ take a.cursor.at (unwrap_or (items_at a.layout file a.part a.cursor.held) [])
unfolding list_of bad_of
used_are file a some s held =
    let l = a.layout in
    let here = a.in_order.held held in
    let whole = all_items l a.page in
    let at = a.cursor.at in
    let k = a.cursor.held in
    let part = a.part in
    let count = page_count l part in
    let is : items_at l file part k ≡ Some whole = items_held file a (s.own held) ∙ here.all_are in
    let lt : k < count = there_counts l file part k some (s.own held).there in
    let front = pages_from l file part 0 k in
    let back = pages_from l file part k (count - k) in
    let rest = joined (pages_from l file part (k + 1) (count - (k + 1))) in
    let step = one_more l file part k count whole lt (sym is) in
    let pages = pages_from l file part 0 count in
    let begin : 0 + k ≡ k = omega arith in
    let first : take k pages ≡ front = take-map-range_with_len (items_at l file part) 0 count k (omega (arith, lt)) in
    let last : drop k pages ≡ back =
    drop_range (items_at l file part) 0 count k ∙ ap (λ (n : ℕ). pages_from l file part n (count - k)) begin in
    let bad : position_from is_none 0 pages ≡ position_from is_none k back = s.bad ∙ bad_is file a l part (k + 1) refl refl here.next ∙ sym step.1 in
    let sound : IfSome (position_from is_none 0 pages) (λ bad. 0 + k ≤ bad) =
    told_map (λ bad. k ≤ bad) (λ bad. 0 + k ≤ bad) (position_from is_none 0 pages) (λ bad le. omega (arith, le))
    (subst (λ (o : Option ℕ). IfSome o (λ bad. k ≤ bad)) (sym bad) (no_sooner k back)) in
    let all : list_of l file part ≡ joined front ++ (whole ++ rest) =
    joined_split 0 k pages sound ∙ ap (λ (ps : List (Option (List ItemData))). joined ps ++ joined (drop k pages)) first
    ∙ ap (λ (ps : List (Option (List ItemData))). joined front ++ joined ps) last ∙ ap (λ (ys : List ItemData). joined front ++ ys) step.0 in
    let taken = take at whole in
    let dropped = drop at whole in
    let left : left_of file a ≡ dropped ++ rest = left_is file a dropped l part (k + 1) (rw held here.left) refl refl here.next in
    let parted : whole ++ rest ≡ taken ++ (dropped ++ rest) =
    ap (λ (ys : List ItemData). ys ++ rest) (sym (take-append-drop at whole)) ∙ append_assoc taken dropped rest in
    let both : s.used ++ (dropped ++ rest) ≡ (joined front ++ taken) ++ (dropped ++ rest) =
    ap (λ (ys : List ItemData). s.used ++ ys) (sym left) ∙ sym s.parted ∙ all
    ∙ ap (λ (ys : List ItemData). joined front ++ ys) parted ∙ sym (append_assoc (joined front) taken (dropped ++ rest)) in
    same_front s.used (joined front ++ taken) (dropped ++ rest) both ∙ ap (λ (o : Option (List ItemData)). joined front ++ take at (unwrap_or o [])) (sym is)
