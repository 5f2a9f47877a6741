-- Bytes that are left of the bytes from a position on.
use Rattle.std.proofs.Common.{◌≡◌, ℕ, ◌+◌, ◌-◌, ◌<◌, ◌≤◌, true, false, ltb, List, ◌++◌, length, take, drop, Option, Some, None, refl, sym, ap, subst, ◌∙◌, inl, inr, arith}
use Rattle.std.specs.Option.{IsSome, option_map}
use Rattle.std.proofs.lemmas.Bool.{le-ltb, lt-ltb, ltb-false}
use Rattle.trace_base.specs.declared.layout.Layout.{Layout}
use Rattle.subpage.specs.declared.loss.Loss.{Loss}
use Rattle.subpage.specs.declared.mark.Mark.{Mark}
use Rattle.subpage.specs.declared.summary.Summary.{Summary}
use Rattle.subpage.specs.ItemData.{ItemData}
use Rattle.subpage.specs.Reading.{walk}
use Rattle.subpage.specs.Left.{loss_items}
use Rattle.subpage.specs.Summary.{summary_of}
use Rattle.subpage.specs.Page.{timestamp, commit_word, data_area, committed_size, committed, losses, page_losses, items}
use Rattle.subpage.specs.Marks.{items_from, IsMark}
use Rattle.subpage.proofs.Steps.{guard_some, option_cases, option_map_some, some_is}
use Rattle.std.proofs.lemmas.List.{drop-drop, length-drop, length-take, drop-take}

-- the suffix of the bytes between two places, by the place where it begins
pub suffix_at : (page : List ℕ) (from to n : ℕ) (rest : List ℕ) → from ≤ to → to ≤ length page
    → rest ≡ drop (length (drop from (take to page)) - length rest) (drop from (take to page)) → n ≡ to - length rest → (drop n (take to page) ≡ rest) × (length rest ≤ to - from)
suffix_at page from to n rest forward within e is =
    let between = drop from (take to page) in
    let all : length between ≡ to - from = omega (arith, length-drop from (take to page), length-take to page) in
    let size : length rest ≡ length between - (length between - length rest) = ap length e ∙ length-drop (length between - length rest) between in
    let place : from + (length between - length rest) ≡ n = omega arith in
    (sym (e ∙ drop-drop (length between - length rest) from (take to page) ∙ ap (λ (k : ℕ). drop k (take to page)) place), omega arith)

pub between_is : (page : List ℕ) (from size : ℕ) → drop from (take (from + size) page) ≡ take size (drop from page)
between_is page from size = drop-take from size page

made : Option Loss → ℕ → ℕ → ℕ → Mark
made loss time from to = record { loss = loss; time = time; from = from; to = to }

map_none : {A B : Type 0} (f : A → B) (o : Option A) (y : B) → Some y ≡ option_map f o → (x : A) × (o ≡ Some x)
map_none f None y e = absurd cc
map_none f (Some x) y e = (x, refl)

-- the position before the first item of a page
pub opens : (l : Layout) (page : List ℕ) (loss : Option Loss) (time word size : ℕ) (summary : Summary)
    → time ≡ timestamp l page → word ≡ commit_word l page → size ≡ committed_size word → size ≤ length (data_area l page) → l.data_at ≤ length page
    → loss_items loss ≡ losses l word time (drop size (data_area l page))
    → Some summary ≡ option_map (λ xs. summary_of (loss_items loss ++ xs)) (walk l.order time (take size (data_area l page)))
    → (Some (items_from l page (record { loss = loss; time = time; from = l.data_at; to = l.data_at + size })) ≡ items l page)
    × IsMark l page (record { loss = loss; time = time; from = l.data_at; to = l.data_at + size })
unfolding items
opens l page loss time word size summary t w s room front_fits told walked =
    let same : size ≡ committed_size (commit_word l page) = s ∙ ap committed_size w in
    let area = data_area l page in
    let m = map_none (λ xs. summary_of (loss_items loss ++ xs)) (walk l.order time (take size area)) summary walked in
    let inside : ltb (length area) (committed_size (commit_word l page)) ≡ false = le-ltb _ _ (omega arith) in
    let bytes : drop l.data_at (take (l.data_at + size) page) ≡ take size area = between_is page l.data_at size in
    let read : walk l.order time (drop l.data_at (take (l.data_at + size) page)) ≡ Some m.0 = ap (walk l.order time) bytes ∙ m.1 in
    let front : page_losses l page ≡ loss_items loss = sym (told ∙ ap (λ (n : ℕ). losses l n time (drop size area)) w ∙ ap (λ (n : ℕ). losses l (commit_word l page) n (drop size area)) t ∙ ap (λ (n : ℕ). losses l (commit_word l page) (timestamp l page) (drop n area)) same) in
    let there : walk l.order (timestamp l page) (committed l page) ≡ Some m.0 = ap (λ (n : ℕ). walk l.order n (committed l page)) (sym t) ∙ ap (λ (n : ℕ). walk l.order time (take n area)) (sym same) ∙ m.1 in (
      rw (inside, there, read) (ap (λ (ys : List ItemData). Some (ys ++ m.0)) (sym front)),
      record { readable = subst IsSome (sym read) refl; forward = omega arith; within = omega (arith, length-drop l.data_at page) },
    )

-- what is read of a page that was found well formed, and that there is room for it
record WasRead (l : Layout) (page : List ℕ) : Type 0 where
  room : committed_size (commit_word l page) ≤ length (data_area l page)
  found : List ItemData
  walked : walk l.order (timestamp l page) (committed l page) ≡ Some found

read_of : (l : Layout) (page : List ℕ) (all : List ItemData) → items l page ≡ Some all → WasRead l page
unfolding items
read_of l page all e =
    let g = guard_some (ltb (length (data_area l page)) (committed_size (commit_word l page))) (option_map (λ ys. page_losses l page ++ ys) (walk l.order (timestamp l page) (committed l page))) all e in
    let o = option_map_some (λ ys. page_losses l page ++ ys) (walk l.order (timestamp l page) (committed l page)) all g.1 in
    record { room = ltb-false _ _ g.0; found = o.0; walked = o.1 }

was_read : (l : Layout) (page : List ℕ) → IsSome (items l page) → WasRead l page
was_read l page checked = elim (option_cases (items l page)) [
  | inl none ↦ let never = subst (λ (o : Option (List ItemData)). IsSome o) none checked in absurd cc
  | inr some ↦ read_of l page some.0 some.1
]

pub room_checked : (l : Layout) (page area : List ℕ) (word size : ℕ) → word ≡ commit_word l page → size ≡ committed_size word → area ≡ data_area l page → IsSome (items l page)
    → size ≤ length area
room_checked l page area word size w s is checked =
    let same : size ≡ committed_size (commit_word l page) = s ∙ ap committed_size w in
    let room = (was_read l page checked).room in
    omega (arith, room, same, ap length is)

-- the position before its first item
pub opens_checked : (l : Layout) (page : List ℕ) (loss : Option Loss) (time word size : ℕ)
    → time ≡ timestamp l page → word ≡ commit_word l page → size ≡ committed_size word → l.data_at ≤ length page
    → loss_items loss ≡ losses l word time (drop size (data_area l page)) → IsSome (items l page)
    → (Some (items_from l page (record { loss = loss; time = time; from = l.data_at; to = l.data_at + size })) ≡ items l page)
    × IsMark l page (record { loss = loss; time = time; from = l.data_at; to = l.data_at + size })
opens_checked l page loss time word size t w s front_fits told checked =
    let area = data_area l page in
    let same : size ≡ committed_size (commit_word l page) = s ∙ ap committed_size w in
    let read = was_read l page checked in
    let walked : walk l.order time (take size area) ≡ Some read.found =
    ap (λ (n : ℕ). walk l.order n (take size area)) t ∙ ap (λ (n : ℕ). walk l.order (timestamp l page) (take n area)) same ∙ read.walked in
    opens l page loss time word size (summary_of (loss_items loss ++ read.found)) t w s (room_checked l page area word size w s refl checked) front_fits told
    (sym (ap (option_map (λ (xs : List ItemData). summary_of (loss_items loss ++ xs))) walked))

-- more is committed than there is room for
pub overfull : (l : Layout) (page : List ℕ) (word size : ℕ) → word ≡ commit_word l page → size ≡ committed_size word → length (data_area l page) < size → None ≡ items l page
unfolding items
overfull l page word size w s lt =
    let same : size ≡ committed_size (commit_word l page) = s ∙ ap committed_size w in
    let over : ltb (length (data_area l page)) (committed_size (commit_word l page)) ≡ true = lt-ltb _ _ (omega arith) in
    rw over refl

none_mapped : {A B : Type 0} (f : A → B) (o : Option A) → None ≡ option_map f o → o ≡ None
none_mapped f None e = refl
none_mapped f (Some x) e = absurd cc

-- the committed bytes spell nothing
pub unread : (l : Layout) (page : List ℕ) (loss : Option Loss) (time word size : ℕ) → time ≡ timestamp l page → word ≡ commit_word l page → size ≡ committed_size word → size ≤ length (data_area l page)
    → None ≡ option_map (λ xs. summary_of (loss_items loss ++ xs)) (walk l.order time (take size (data_area l page))) → None ≡ items l page
unfolding items
unread l page loss time word size t w s room walked =
    let same : size ≡ committed_size (commit_word l page) = s ∙ ap committed_size w in
    let area = data_area l page in
    let inside : ltb (length area) (committed_size (commit_word l page)) ≡ false = le-ltb _ _ (omega arith) in
    let none = none_mapped (λ xs. summary_of (loss_items loss ++ xs)) (walk l.order time (take size area)) walked in
    let there : walk l.order (timestamp l page) (committed l page) ≡ None = ap (λ (n : ℕ). walk l.order n (committed l page)) (sym t) ∙ ap (λ (n : ℕ). walk l.order time (take n area)) (sym same) ∙ none in
    rw (inside, there) refl

-- how many items there are, and when
pub counted : (l : Layout) (page : List ℕ) (loss : Option Loss) (time size : ℕ) (summary : Summary)
    → Some summary ≡ option_map (λ xs. summary_of (loss_items loss ++ xs)) (walk l.order time (take size (data_area l page)))
    → summary ≡ summary_of (items_from l page (record { loss = loss; time = time; from = l.data_at; to = l.data_at + size }))
counted l page loss time size summary walked =
    let area = data_area l page in
    let m = map_none (λ xs. summary_of (loss_items loss ++ xs)) (walk l.order time (take size area)) summary walked in
    let read : walk l.order time (drop l.data_at (take (l.data_at + size) page)) ≡ Some m.0 = ap (walk l.order time) (between_is page l.data_at size) ∙ m.1 in
    let same : summary ≡ summary_of (loss_items loss ++ m.0) = some_is _ _ (walked ∙ ap (option_map (λ xs. summary_of (loss_items loss ++ xs))) m.1) in
    rw read same
