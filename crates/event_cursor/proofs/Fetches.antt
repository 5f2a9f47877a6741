-- A sub-buffer that is read, or is not there.
use Rattle.std.proofs.Common.{◌≡◌, ℕ, ◌+◌, ◌*◌, ◌^◌, ◌<◌, true, false, List, length, take, drop, Option, Some, None, sym, ap, subst, ◌∙◌, arith}
use Rattle.std.specs.Option.{IfSome, option_map}
use Rattle.std.proofs.lemmas.Bool.{cond-true, cond-false}
use Rattle.std.proofs.lemmas.List.{take_all}
use Rattle.trace_base.specs.declared.layout.Layout.{Layout}
use Rattle.trace_base.specs.declared.part.Part.{Part}
use Rattle.trace_outside.specs.Reading.{GivesBytesAt}
use Rattle.subpage.specs.declared.mark.Mark.{Mark}
use Rattle.subpage.specs.ItemData.{ItemData}
use Rattle.subpage.specs.Marks.{items_from, IsMark}
use Rattle.subpage.specs.Page.{items}
use Rattle.subpage.specs.Processor.{is_there, items_at, page_bytes}
use Rattle.event_cursor.specs.Fetched.{HoldsItems}
use Rattle.event_cursor.specs.Unread.{is_there_in}

pub not_there : (l : Layout) (told : Option (List ℕ)) (part : Part) (k len : ℕ) → IfSome told (λ file. length file ≡ len) → false ≡ is_there_in l len part k
    → IfSome told (λ file. items_at l file part k ≡ None)
unfolding items_at
not_there l None part k len size e = tt
not_there l (Some file) part k len size e =
    let e : is_there l file part k ≡ false = ap (λ (n : ℕ). is_there_in l n part k) size ∙ sym e in
    cond-false _ _ _ e

-- what was told of the buffer once it was opened
pub opened : (l : Layout) (p page : List ℕ) (r : Option Mark) → p ≡ page → option_map (λ mark. items_from l p mark) r ≡ items l p
    → IfSome r (λ mark. IsMark l p mark) → IfSome r (λ mark. length (items_from l p mark) < 2 ^ 32) → HoldsItems l page r
opened l p page None same exact mark few = tt
opened l p page (Some m) same exact mark few = subst (λ (q : List ℕ). HoldsItems l q (Some m)) same (mark, sym exact, few)

-- a sub-buffer that is there, in a buffer that has its bytes
module _ (l : Layout) (file : List ℕ) (part : Part) (k len place : ℕ) (page : List ℕ) (size : length file ≡ len) (e : true ≡ is_there_in l len part k)
    (at : place ≡ part.offset + k * l.page) (long : length page ≡ l.page) (given : take (length page) page ≡ take (length page) (drop place file)) where
  there_is : is_there l file part k ≡ true
  there_is = ap (λ (n : ℕ). is_there_in l n part k) size ∙ sym e

  page_is : page ≡ page_bytes l file part k
  page_is =
      sym (take_all (length page) page (omega arith)) ∙ given ∙ ap (λ (n : ℕ). take n (drop place file)) long ∙ ap (λ (n : ℕ). take l.page (drop n file)) at

if_any : {X P : Type 0} (r : Option X) → P → IfSome r (λ _. P)
if_any None p = tt
if_any (Some x) p = p

pub own_read : (l : Layout) (told : Option (List ℕ)) (part : Part) (k len place : ℕ) (page : List ℕ) (r : Option Mark) → IfSome told (λ file. length file ≡ len)
    → true ≡ is_there_in l len part k → place ≡ part.offset + k * l.page → length page ≡ l.page → GivesBytesAt told place (length page) page
    → IfSome told (λ file. IfSome r (λ mark. (is_there l file part k ≡ true) × (page ≡ page_bytes l file part k)))
own_read l None part k len place page r size e at long given = tt
own_read l (Some file) part k len place page r size e at long given =
    if_any r (there_is l file part k len place page size e at long given, page_is l file part k len place page size e at long given)

pub is_read : (l : Layout) (told : Option (List ℕ)) (part : Part) (k len place : ℕ) (page : List ℕ) (r : Option (List ItemData)) → IfSome told (λ file. length file ≡ len)
    → true ≡ is_there_in l len part k → place ≡ part.offset + k * l.page → length page ≡ l.page → GivesBytesAt told place (length page) page → r ≡ items l page
    → IfSome told (λ file. items_at l file part k ≡ r)
unfolding items_at
is_read l None part k len place page r size e at long given is = tt
is_read l (Some file) part k len place page r size e at long given is =
    cond-true _ _ _ (there_is l file part k len place page size e at long given)
    ∙ ap (items l) (sym (page_is l file part k len place page size e at long given)) ∙ sym is
