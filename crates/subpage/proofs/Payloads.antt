-- Where an event's payload stands.
use Rattle.std.proofs.Common.{◌≡◌, ℕ, ◌+◌, ◌-◌, ◌*◌, ◌<◌, ◌≤◌, true, false, ltb, eqb, List, [], ◌∷◌, ◌++◌, length, take, drop, Option, Some, None, refl, sym, ap, subst, ◌∙◌, append_assoc, arith}
use Rattle.std.specs.Option.{IsSome, option_map, unwrap_or}
use Rattle.std.proofs.lemmas.Bool.{lt-ltb, le-ltb, ne_eqb}
use Rattle.std.proofs.lemmas.List.{drop_at, take_at, drop-drop, drop-take, take-take, take-append-drop, take-append-le, length-append, length-drop, length-take, append-nil}
use Rattle.trace_base.specs.declared.layout.Layout.{Layout}
use Rattle.trace_base.specs.declared.order.Order.{Order}
use Rattle.trace_base.specs.Number.{num}
use Rattle.subpage.specs.declared.mark.Mark.{Mark}
use Rattle.subpage.specs.Element.{ElementData, Event, type_len, time_delta, round4, Row, short_event, long_event, end, discarded, extend, stamp}
use Rattle.subpage.specs.ItemData.{ItemData, EventAt}
use Rattle.subpage.specs.Reading.{word_at, short_event_at, rest_at, element_at, walk}
use Rattle.subpage.specs.RunningTime.{in_64_bits}
use Rattle.subpage.specs.declared.loss.Loss.{Loss}
use Rattle.subpage.specs.NextEvent.{IsClaimed, IsShort}
use Rattle.subpage.specs.Marks.{bytes_from, item_by, items_from, IsMark, IsPassed}
use Rattle.subpage.proofs.ElementSound.{element_takes}
use Rattle.subpage.proofs.Walking.{goes_on, walk_none}
use Rattle.subpage.proofs.Settling.{suffix_at}

-- a payload that stands, filled up, at the end of bytes
abbrev pub IsLastIn : List ℕ → List ℕ → Type 0
IsLastIn payload front = (round4 (length payload) ≤ length front) × (payload ≡ take (length payload) (drop (length front - round4 (length payload)) front))

last_in : (before payload padding : List ℕ) → length (payload ++ padding) ≡ round4 (length payload) → IsLastIn payload (before ++ (payload ++ padding))
last_in before payload padding filled =
    let long = length-append before (payload ++ padding) in
    let place : length before ≡ length (before ++ (payload ++ padding)) - round4 (length payload) = omega (arith, long, filled) in (
      omega (arith, long, filled),
      sym (take_at payload padding (length payload) refl) ∙ ap (take (length payload)) (sym (drop_at before (payload ++ padding) _ place)),
    )

row_payload : (order : Order) (e : ElementData) (front : List ℕ) (delta : ℕ) (payload : List ℕ) → Row order e front → e ≡ Event delta payload → IsLastIn payload front
row_payload order e front delta payload (short_event first own kind d f some few long) is =
    let same : own ≡ payload = cc in
    subst (λ (p : List ℕ). IsLastIn p (first ++ own)) same
    (subst (λ (p : List ℕ). IsLastIn own (first ++ p)) (append-nil own) (last_in first own [] (omega (arith, long, length-append own []))))
row_payload order e front delta payload (long_event first next own padding d n f w least len filled) is =
    let same : own ≡ payload = cc in
    subst (λ (p : List ℕ). IsLastIn p (first ++ (next ++ (own ++ padding)))) same
    (subst (λ (p : List ℕ). IsLastIn own p) (append_assoc first next (own ++ padding)) (last_in (first ++ next) own padding (omega (arith, len, filled, least))))
row_payload order e front delta payload (end first padding f) is = absurd cc
row_payload order e front delta payload (discarded first next content d n f some w least filled) is = absurd cc
row_payload order e front delta payload (extend first next low high f w) is = absurd cc
row_payload order e front delta payload (stamp first next low high f w lt) is = absurd cc

abbrev read : ElementData → List ℕ → Option (ElementData × List ℕ)
read e rest = Some (e, rest)

-- the payload of an event at the front of the last bytes of a whole
pub payload_step : (order : Order) (bytes : List ℕ) (e : ElementData) (rest whole : List ℕ) (delta : ℕ) (payload : List ℕ) → read e rest ≡ element_at order bytes → e ≡ Event delta payload
    → bytes ≡ drop (length whole - length bytes) whole → length bytes ≤ length whole
    → (length rest + round4 (length payload) ≤ length whole) × (payload ≡ take (length payload) (drop (length whole - (length rest + round4 (length payload))) whole))
payload_step order bytes e rest whole delta payload h is suffix le =
    let t = element_takes order bytes e rest (sym h) in
    let own = row_payload order e t.front delta payload t.row is in
    let filled = round4 (length payload) in
    let long : length bytes ≡ length t.front + length rest = ap length t.whole ∙ length-append t.front rest in
    let back = length t.front - filled in
    let fits : length payload ≤ filled = omega arith in
    let front : take back t.front ++ drop back t.front ≡ t.front = take-append-drop back t.front in
    let here : drop back bytes ≡ drop back t.front ++ rest =
    ap (drop back) (t.whole ∙ ap (λ (p : List ℕ). p ++ rest) (sym front) ∙ append_assoc (take back t.front) (drop back t.front) rest)
    ∙ drop_at (take back t.front) (drop back t.front ++ rest) back (omega (arith, length-take back t.front)) in
    let size : length payload ≤ length (drop back t.front) = omega (arith, length-drop back t.front, own.0) in
    let place : length whole - length bytes + back ≡ length whole - (length rest + filled) = omega (arith, long, own.0) in (
      omega (arith, long, own.0),
      own.1 ∙ sym (take-append-le (length payload) (drop back t.front) rest size) ∙ ap (take (length payload)) (sym here)
          ∙ ap (λ (b : List ℕ). take (length payload) (drop back b)) suffix ∙ ap (take (length payload)) (drop-drop back (length whole - length bytes) whole ∙ ap (λ (n : ℕ). drop n whole) place),
    )

-- an event whose first word tells its length
pub short_is : (order : Order) (bytes : List ℕ) (word kind delta : ℕ) → word ≡ num order (take 4 bytes) → kind ≡ type_len order word → delta ≡ time_delta order word
    → 4 ≤ length bytes → 1 ≤ kind → kind ≤ 28 → 4 * kind ≤ length bytes - 4
    → read (Event delta (take (4 * kind) (drop 4 bytes))) (drop (4 * kind) (drop 4 bytes)) ≡ element_at order bytes
unfolding element_at word_at rest_at short_event_at
short_is order bytes word kind delta w k d long some few room =
    let kind_is : type_len order (num order (take 4 bytes)) ≡ kind = ap (type_len order) (sym w) ∙ sym k in
    let delta_is : time_delta order (num order (take 4 bytes)) ≡ delta = ap (time_delta order) (sym w) ∙ sym d in
    let enough : ltb (length bytes) 4 ≡ false = le-ltb _ _ long in
    let not_long : eqb kind 0 ≡ false = ne_eqb _ _ (λ (e : kind ≡ 0). omega (arith, e, some)) in
    let small : ltb kind 29 ≡ true = lt-ltb _ _ (omega (arith, few)) in
    let fits : ltb (length (drop 4 bytes)) (4 * kind) ≡ false = le-ltb _ _ (omega (arith, length-drop 4 bytes, room)) in
    rw (enough, kind_is, delta_is, not_long, small, fits) refl

pub short_told : (order : Order) (time : ℕ) (bytes : List ℕ) (word kind delta after : ℕ) → word ≡ num order (take 4 bytes) → kind ≡ type_len order word → delta ≡ time_delta order word
    → 4 ≤ length bytes → 1 ≤ kind → kind ≤ 28 → 4 * kind ≤ length bytes - 4 → Some after ≡ in_64_bits (time + delta)
    → (walk order time bytes ≡ option_map (λ xs. EventAt after (take (4 * kind) (drop 4 bytes)) ∷ xs) (walk order after (drop (4 + 4 * kind) bytes))) × (4 + 4 * kind ≤ length bytes)
short_told order time bytes word kind delta after w k d long some few room is =
    let t = goes_on order time bytes (Event delta (take (4 * kind) (drop 4 bytes))) (drop (4 * kind) (drop 4 bytes)) after (short_is order bytes word kind delta w k d long some few room) is in
    (t.0 ∙ ap (λ (rest : List ℕ). option_map (λ xs. EventAt after (take (4 * kind) (drop 4 bytes)) ∷ xs) (walk order after rest)) (drop-drop (4 * kind) 4 bytes), omega (arith, long, room))

-- an event of which its first word tells more than there is
short_cut : (order : Order) (bytes : List ℕ) (word kind : ℕ) → word ≡ num order (take 4 bytes) → kind ≡ type_len order word
    → 4 ≤ length bytes → 1 ≤ kind → kind ≤ 28 → length bytes < 4 + 4 * kind → element_at order bytes ≡ None
unfolding element_at word_at rest_at short_event_at
short_cut order bytes word kind w k long some few room =
    let kind_is : type_len order (num order (take 4 bytes)) ≡ kind = ap (type_len order) (sym w) ∙ sym k in
    let enough : ltb (length bytes) 4 ≡ false = le-ltb _ _ long in
    let not_long : eqb kind 0 ≡ false = ne_eqb _ _ (λ (e : kind ≡ 0). omega (arith, e, some)) in
    let small : ltb kind 29 ≡ true = lt-ltb _ _ (omega (arith, few)) in
    let past : ltb (length (drop 4 bytes)) (4 * kind) ≡ true = lt-ltb _ _ (omega (arith, length-drop 4 bytes, room)) in
    rw (enough, kind_is, not_long, small, past) refl

-- an event of which its first word tells the length, wherever the bytes end
pub claimed : (order : Order) (time : ℕ) (bytes : List ℕ) (from word kind delta after : ℕ) → word ≡ num order (take 4 (drop from bytes)) → kind ≡ type_len order word
    → delta ≡ time_delta order word → from + 4 ≤ length bytes → 1 ≤ kind → kind ≤ 28 → Some after ≡ in_64_bits (time + delta) → IsClaimed order time bytes from after (from + 4 + 4 * kind)
claimed order time bytes from word kind delta after w k d long some few is =
    let rest = drop from bytes in
    let size : length rest ≡ length bytes - from = length-drop from bytes in
    let len : 4 * kind ≡ from + 4 + 4 * kind - (from + 4) = omega arith in
    let behind : from + (4 + 4 * kind) ≡ from + 4 + 4 * kind = omega arith in
    let own : take (4 * kind) (drop 4 rest) ≡ take (from + 4 + 4 * kind - (from + 4)) (drop (from + 4) bytes) = ap (take (4 * kind)) (drop-drop 4 from bytes) ∙ ap (λ (n : ℕ). take n (drop (from + 4) bytes)) len in
    let after_it : drop (4 + 4 * kind) rest ≡ drop (from + 4 + 4 * kind) bytes = drop-drop (4 + 4 * kind) from bytes ∙ ap (λ (n : ℕ). drop n bytes) behind in
    record {
      inside = long;
      further = omega (arith, some);
      told = λ fits.
          (short_told order time rest word kind delta after w k d (omega (arith, size, long)) some few (omega (arith, size, fits)) is).0
          ∙ ap (λ (p : List ℕ). option_map (λ xs. EventAt after p ∷ xs) (walk order after (drop (4 + 4 * kind) rest))) own
          ∙ ap (λ (r : List ℕ). option_map (λ xs. EventAt after (take (from + 4 + 4 * kind - (from + 4)) (drop (from + 4) bytes)) ∷ xs) (walk order after r)) after_it;
      cut = λ past. walk_none order time rest (omega (arith, size, long)) (short_cut order rest word kind w k (omega (arith, size, long)) some few (omega (arith, size, past)));
    }

some_more : (o p : Option (List ItemData)) (x : ItemData) → IsSome o → o ≡ option_map (λ xs. x ∷ xs) p → (unwrap_or o [] ≡ x ∷ unwrap_or p []) × IsSome p
some_more o None x some is = let none = subst (λ (q : Option (List ItemData)). IsSome q) is some in absurd cc
some_more o (Some xs) x some is = (ap (λ (q : Option (List ItemData)). unwrap_or q []) is, refl)

-- one event on, from a position at which no loss is told
pub one_on : (l : Layout) (page : List ℕ) (mark behind : Mark) (x : ItemData) → mark.loss ≡ None → behind.loss ≡ None → IsMark l page mark
    → walk l.order mark.time (bytes_from page mark) ≡ option_map (λ xs. x ∷ xs) (walk l.order behind.time (bytes_from page behind)) → behind.from ≤ behind.to → behind.to ≤ length page
    → (items_from l page mark ≡ x ∷ items_from l page behind) × IsMark l page behind
one_on l page mark behind x event further here is forward within =
    let t = some_more (walk l.order mark.time (bytes_from page mark)) (walk l.order behind.time (bytes_from page behind)) x here.readable is in
    (rw (event, further) t.0, record { readable = t.1; forward = forward; within = within })

-- a piece of the bytes from a position on is one of the page
pub piece_of : (page : List ℕ) (from to k len : ℕ) → from + k + len ≤ to → take len (drop k (drop from (take to page))) ≡ take len (drop (from + k) page)
piece_of page from to k len fits =
    let at = from + k in
    let more = to - at in
    let whole : to ≡ at + more = omega (arith, fits) in
    ap (take len) (drop-drop k from (take to page)) ∙ ap (λ (n : ℕ). take len (drop at (take n page))) whole ∙ ap (take len) (drop-take at more page) ∙ take-take len more (drop at page) (omega (arith, fits))

-- one event on, by the places of what follows it and of its payload
event_passed : (l : Layout) (page : List ℕ) (m : Mark) (time at len n : ℕ) (payload rest : List ℕ) → m.loss ≡ None → IsMark l page m
    → walk l.order m.time (bytes_from page m) ≡ option_map (λ xs. EventAt time payload ∷ xs) (walk l.order time rest)
    → payload ≡ take len (drop at page) → rest ≡ drop n (take m.to page) → n ≤ m.to → at + len ≤ length page
    → IsPassed l page m (Some (record { time = time; from = n; to = m.to }, record { from = at; len = len }))
event_passed l page m time at len n payload rest event here is own behind forward inside =
    let own_bytes = take len (drop at page) in
    let next : Mark = record { loss = None; time = time; from = n; to = m.to } in
    let walked : walk l.order m.time (bytes_from page m) ≡ option_map (λ xs. EventAt time own_bytes ∷ xs) (walk l.order time (drop n (take m.to page))) =
    is ∙ ap (λ (p : List ℕ). option_map (λ xs. EventAt time p ∷ xs) (walk l.order time rest)) own
    ∙ ap (λ (r : List ℕ). option_map (λ xs. EventAt time own_bytes ∷ xs) (walk l.order time r)) behind in
    let t = one_on l page m next (EventAt time own_bytes) event refl here walked forward here.within in
    (t.0 ∙ ap (λ (o : Option Loss). item_by o time own_bytes ∷ items_from l page next) (sym event), (t.1, inside))

size_behind : (page : List ℕ) (from to : ℕ) → from ≤ to → to ≤ length page → length (drop from (take to page)) ≡ to - from
size_behind page from to forward within = omega (arith, length-drop from (take to page), length-take to page)

pub short_passed : (l : Layout) (page : List ℕ) (m : Mark) (time len : ℕ) → m.loss ≡ None → IsMark l page m → IsShort l.order m.time (bytes_from page m) (Some (time, len))
    → IsPassed l page m (Some (record { time = time; from = m.from + 4 + len; to = m.to }, record { from = m.from + 4; len = len }))
short_passed l page m time len event here short =
    let size = size_behind page m.from m.to here.forward here.within in
    let forward = here.forward in
    let within = here.within in
    let fits : m.from + 4 + len ≤ m.to = omega (arith, size, short.1) in
    let place : m.from + (4 + len) ≡ m.from + 4 + len = omega arith in
    event_passed l page m time (m.from + 4) len (m.from + 4 + len) (take len (drop 4 (bytes_from page m))) (drop (4 + len) (bytes_from page m)) event here short.0
    (piece_of page m.from m.to 4 len fits) (drop-drop (4 + len) m.from (take m.to page) ∙ ap (λ (n : ℕ). drop n (take m.to page)) place) fits (omega (arith, fits, within))

-- what is told of the next event in bytes
pub record Told (l : Layout) (m : Mark) (time : ℕ) (payload rest bytes : List ℕ) : Type 0 where
  pub walked : walk l.order m.time bytes ≡ option_map (λ xs. EventAt time payload ∷ xs) (walk l.order time rest)
  pub suffix : rest ≡ drop (length bytes - length rest) bytes
  pub fits : length rest + round4 (length payload) ≤ length bytes
  pub own : payload ≡ take (length payload) (drop (length bytes - (length rest + round4 (length payload))) bytes)

pub next_passed : (l : Layout) (page : List ℕ) (m : Mark) (time filled : ℕ) (payload rest : List ℕ) → m.loss ≡ None → IsMark l page m → Told l m time payload rest (bytes_from page m)
    → filled ≡ round4 (length payload)
    → IsPassed l page m (Some (record { time = time; from = m.to - length rest; to = m.to }, record { from = m.to - length rest - filled; len = length payload }))
next_passed l page m time filled payload rest event here told f =
    let bytes = bytes_from page m in
    let size = size_behind page m.from m.to here.forward here.within in
    let forward = here.forward in
    let within = here.within in
    let fits = told.fits in
    let behind = suffix_at page m.from m.to (m.to - length rest) rest here.forward here.within told.suffix refl in
    let k = length bytes - (length rest + round4 (length payload)) in
    let few : length payload ≤ round4 (length payload) = omega arith in
    let place : m.from + k ≡ m.to - length rest - filled = omega (arith, size, fits, f) in
    let own : payload ≡ take (length payload) (drop (m.to - length rest - filled) page) =
    told.own ∙ piece_of page m.from m.to k (length payload) (omega (arith, size, fits, few)) ∙ ap (λ (n : ℕ). take (length payload) (drop n page)) place in
    event_passed l page m time (m.to - length rest - filled) (length payload) (m.to - length rest) payload rest event here told.walked own (sym behind.0) (omega arith)
    (omega (arith, size, fits, few, f, within))
