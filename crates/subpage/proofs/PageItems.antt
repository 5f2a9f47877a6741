-- The items that are computed are those that the relation names.
use Rattle.std.proofs.Common.{◌≡◌, ℕ, true, false, cond, ltb, List, ◌++◌, length, Option, Some, None, refl, sym, ap, ◌∙◌}
use Rattle.std.specs.Option.{option_map, IfSome, IfNone}
use Rattle.std.proofs.lemmas.Bool.{ltb-false, le-ltb}
use Rattle.trace_base.specs.declared.order.Order.{Order}
use Rattle.trace_base.specs.declared.layout.Layout.{Layout}
use Rattle.subpage.specs.Element.{ElementData, Spelled}
use Rattle.subpage.specs.RunningTime.{in_time}
use Rattle.subpage.specs.ItemData.{ItemData, events}
use Rattle.subpage.specs.Reading.{elements, walk}
use Rattle.subpage.specs.Page.{timestamp, commit_word, data_area, committed_size, committed, page_losses, AreItems, items}
use Rattle.subpage.proofs.Steps.{bind_some, guarded, guard_some, some_is, option_map_some}
use Rattle.subpage.proofs.Elements.{elements_again, elements_take}

record Walked (order : Order) (time : ℕ) (bytes : List ℕ) (xs : List ItemData) : Type 0 where
  elements : List ElementData
  spelled : Spelled order elements bytes
  in_64_bits : in_time time elements ≡ true
  items_are : xs ≡ events time elements

walked : (order : Order) (time : ℕ) (bytes : List ℕ) (xs : List ItemData) → walk order time bytes ≡ Some xs → Walked order time bytes xs
unfolding walk
walked order time bytes xs e =
    let b = bind_some (elements order bytes) (λ es. cond (in_time time es) (Some (events time es)) None) xs e in
    let g = guarded (in_time time b.0) (Some (events time b.0)) xs b.2 in
    record { elements = b.0; spelled = elements_take order bytes b.0 b.1; in_64_bits = g.0; items_are = sym (some_is _ _ g.1) }

walk_again : (order : Order) (time : ℕ) (bytes : List ℕ) (es : List ElementData) → Spelled order es bytes → in_time time es ≡ true → walk order time bytes ≡ Some (events time es)
unfolding walk
walk_again order time bytes es s t = rw (elements_again order es bytes s, t) refl

pub items_are : (l : Layout) (page : List ℕ) (xs : List ItemData) → items l page ≡ Some xs → AreItems l page xs
unfolding items
items_are l page xs e =
    let g = guard_some (ltb (length (data_area l page)) (committed_size (commit_word l page))) (option_map (λ ys. page_losses l page ++ ys) (walk l.order (timestamp l page) (committed l page))) xs e in
    let o = option_map_some (λ ys. page_losses l page ++ ys) (walk l.order (timestamp l page) (committed l page)) xs g.1 in
    let w = walked l.order (timestamp l page) (committed l page) o.0 o.1 in
    record { inside = ltb-false _ _ g.0; elements = w.elements; spelled = w.spelled; in_64_bits = w.in_64_bits; items_are = sym o.2 ∙ ap (λ (ys : List ItemData). page_losses l page ++ ys) w.items_are }

pub are_items : (l : Layout) (page : List ℕ) (xs : List ItemData) → AreItems l page xs → items l page ≡ Some xs
unfolding items
are_items l page xs a =
    let inside : ltb (length (data_area l page)) (committed_size (commit_word l page)) ≡ false = le-ltb _ _ a.inside in
    rw (inside, walk_again l.order (timestamp l page) (committed l page) a.elements a.spelled a.in_64_bits) (ap (λ (ys : List ItemData). Some ys) (sym a.items_are))

-- what the two answers of a check say
pub when_found : (l : Layout) (page : List ℕ) (r : Option (List ItemData)) → r ≡ items l page → IfSome r (λ xs. AreItems l page xs)
when_found l page None e = tt
when_found l page (Some xs) e = items_are l page xs (sym e)

pub when_none : (l : Layout) (page : List ℕ) (r : Option (List ItemData)) → r ≡ items l page → IfNone r ((xs : List ItemData) → AreItems l page xs → ⊥)
when_none l page None e = λ xs a. let h : None ≡ Some xs = e ∙ are_items l page xs a in absurd cc
when_none l page (Some xs) e = tt
