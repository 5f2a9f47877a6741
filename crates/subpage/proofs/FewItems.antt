-- A sub-buffer has room for few items: each takes eight bytes of it.
use Rattle.std.proofs.Common.{◌≡◌, ℕ, ◌+◌, ◌-◌, ◌*◌, ◌^◌, ◌<◌, ◌≤◌, List, ◌++◌, length, Some, ap, inl, inr, arith, length-append, length-drop}
use Rattle.std.proofs.lemmas.Bool.{cases_Bool}
use Rattle.std.proofs.lemmas.List.{length-take}
use Rattle.trace_base.specs.declared.order.Order.{Order}
use Rattle.trace_base.specs.declared.layout.Layout.{Layout}
use Rattle.trace_base.proofs.Layouts.{carried}
use Rattle.subpage.specs.ItemData.{ItemData, told_by, events}
use Rattle.subpage.specs.RunningTime.{time_after}
use Rattle.subpage.specs.Element.{ElementData, Row, short_event, long_event, end, discarded, extend, stamp, Spelled, nothing, begins_with}
use Rattle.subpage.specs.Page.{items, committed, committed_size, commit_word, data_area, page_losses, losses, has_missed, timestamp, behind_committed}
use Rattle.subpage.proofs.PageItems.{items_are}

told_long : (order : Order) (e : ElementData) (front : List ℕ) → Row order e front → (time : ℕ) → length (told_by time e) * 8 ≤ length front
told_long order e front (short_event first payload kind delta f some few long) time = omega (arith, length-append first payload, f.four, some, long)
told_long order e front (long_event first next payload padding delta n f w some long whole) time =
    omega (arith, length-append first (next ++ (payload ++ padding)), length-append next (payload ++ padding), f.four, w.four)
told_long order e front (end first padding f) time = omega arith
told_long order e front (discarded first next content delta n f some w least long) time = omega arith
told_long order e front (extend first next low high f w) time = omega arith
told_long order e front (stamp first next low high f w small) time = omega arith

few_events : (order : Order) (es : List ElementData) (bytes : List ℕ) → Spelled order es bytes → (time : ℕ) → length (events time es) * 8 ≤ length bytes
few_events order es bytes nothing time = omega arith
few_events order es bytes (begins_with e others front back row last behind) time =
    let after = time_after time e in
    omega (
      arith,
      length-append front back,
      length-append (told_by after e) (events after others),
      told_long order e front row after,
      few_events order others back behind after,
    )

one_loss : (l : Layout) (word time : ℕ) (behind : List ℕ) → length (losses l word time behind) ≤ 1
one_loss l word time behind = elim (cases_Bool (has_missed word)) [
  | inl b ↦ rw b (omega arith)
  | inr b ↦ rw b (omega arith)
]

pub few_on_page : (l : Layout) (page : List ℕ) (xs : List ItemData) → items l page ≡ Some xs → length xs * 8 ≤ length page - l.data_at + 8
few_on_page l page xs e =
    let a = items_are l page xs e in
    let bytes = committed l page in
    let whole : length xs ≡ length (page_losses l page ++ events (timestamp l page) a.elements) = ap length a.items_are in
    omega (
      arith,
      whole,
      length-append (page_losses l page) (events (timestamp l page) a.elements),
      one_loss l (commit_word l page) (timestamp l page) (behind_committed l page),
      few_events l.order a.elements bytes a.spelled (timestamp l page),
      length-take (committed_size (commit_word l page)) (data_area l page),
      length-drop l.data_at page,
    )

pub few_items : (l : Layout) (page : List ℕ) (xs : List ItemData) → length page ≡ l.page → items l page ≡ Some xs → length xs < 2 ^ 32
few_items l page xs whole e = omega (arith, few_on_page l page xs e, whole, (carried l).page_most)
