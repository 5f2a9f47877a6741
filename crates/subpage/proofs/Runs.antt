-- Runs of plain records, one record on.
use Rattle.std.proofs.Common.{◌≡◌, ℕ, ◌+◌, ◌-◌, ◌*◌, ◌^◌, ◌<◌, ◌≤◌, min, Bool, true, false, cond, ltb, List, [], ◌∷◌, ◌++◌, length, take, drop, Option, Some, None, refl, sym, ap, subst, ◌∙◌, append_assoc, append-nil, arith}
use Rattle.std.proofs.lemmas.Bool.{lt-ltb, ltb-true, ltb-false}
use Rattle.std.specs.Option.{IsSome}
use Rattle.std.proofs.lemmas.List.{take_at, drop_at, take-take, drop-take, take-append-drop, length-take-le, length-take, length-drop, length-append, drop-drop}
use Rattle.std.proofs.Math.Seq.{take-add}
use Rattle.trace_base.specs.declared.layout.Layout.{Layout}
use Rattle.trace_base.specs.declared.order.Order.{Order}
use Rattle.trace_base.specs.Number.{num}
use Rattle.subpage.specs.declared.loss.Loss.{Loss}
use Rattle.subpage.specs.declared.mark.Mark.{Mark}
use Rattle.subpage.specs.declared.run.Reached.{Reached}
use Rattle.subpage.specs.Element.{Event, type_len, time_delta}
use Rattle.subpage.specs.ItemData.{ItemData, EventAt}
use Rattle.subpage.specs.RunningTime.{in_64_bits}
use Rattle.subpage.specs.NextEvent.{IsShort}
use Rattle.subpage.specs.Marks.{bytes_from, item_by, items_from, IsMark}
use Rattle.subpage.specs.PlainRecord.{IsFurther, IsPlainFront, mark_at}
use Rattle.subpage.specs.Run.{IsPlain, IsRun, nothing, begins_with, run_bytes, IsRunTo, NonePlain}
use Rattle.subpage.proofs.Payloads.{piece_of, short_is, short_passed, short_told}
use Rattle.subpage.proofs.Walking.{walk_late}

some_timed : (b : Bool) (n m : ℕ) → Some m ≡ cond b (Some n) None → (b ≡ true) × (n ≡ m)
some_timed true n m e = (refl, cc)
some_timed false n m e = absurd cc

-- the first word that was read, and the payload after it
pub plain_front : (order : Order) (time : ℕ) (bytes : List ℕ) (word kind delta after : ℕ) → word ≡ num order (take 4 bytes) → kind ≡ type_len order word → delta ≡ time_delta order word
    → 4 ≤ length bytes → 1 ≤ kind → kind ≤ 28 → 4 * kind ≤ length bytes - 4 → Some after ≡ in_64_bits (time + delta)
    → IsPlainFront order time bytes (Some (after, 4 * kind))
plain_front order time bytes word kind delta after w k d long some few room is =
    let t = some_timed (ltb (time + delta) (2 ^ 64)) (time + delta) after is in
    let small : time + delta < 2 ^ 64 = ltb-true _ _ t.0 in
    let payload_long : length (take (4 * kind) (drop 4 bytes)) ≡ 4 * kind = length-take-le (4 * kind) (drop 4 bytes) (omega (arith, length-drop 4 bytes, room)) in
    let plain : IsPlain order delta (take (4 * kind) (drop 4 bytes)) (take (4 + 4 * kind) bytes) = record {
      first = take 4 bytes;
      kind = kind;
      word = record { four = length-take-le 4 bytes long; kind_is = ap (type_len order) (sym w) ∙ sym k; delta_is = ap (time_delta order) (sym w) ∙ sym d };
      least = some;
      most = few;
      long = payload_long;
      whole = take-add 4 (4 * kind) bytes;
    } in
    (delta, (plain, (sym t.1, subst (λ (n : ℕ). n < 2 ^ 64) t.1 small)))

-- one plain record on, from a place at which no loss is told
pub plain_passed : (l : Layout) (page : List ℕ) (m : Mark) (time len : ℕ) → m.loss ≡ None → IsMark l page m
    → IsShort l.order m.time (bytes_from page m) (Some (time, len)) → IsPlainFront l.order m.time (bytes_from page m) (Some (time, len))
    → IsRunTo l page m (record { loss = None; time = time; from = m.from + 4 + len; to = m.to }) 1
plain_passed l page m time len event here short plain =
    let next : Mark = record { loss = None; time = time; from = m.from + 4 + len; to = m.to } in
    let p = short_passed l page m time len event here short in
    let delta = plain.0 in
    let payload = take len (drop 4 (bytes_from page m)) in
    let forward = here.forward in
    let within = here.within in
    let size : length (bytes_from page m) ≡ m.to - m.from = omega (arith, length-drop m.from (take m.to page), length-take m.to page) in
    let fits : m.from + 4 + len ≤ m.to = omega (arith, size, short.1) in
    let own : payload ≡ take len (drop (m.from + 4) page) = piece_of page m.from m.to 4 len fits in
    let step : m.from + 4 + len - m.from ≡ 4 + len = omega arith in
    let here_at : m.from + 0 ≡ m.from = omega arith in
    let bytes_are : take (4 + len) (bytes_from page m) ≡ run_bytes page m next =
    piece_of page m.from m.to 0 (4 + len) (omega (arith, fits)) ∙ ap (λ (n : ℕ). take (4 + len) (drop n page)) here_at ∙ ap (λ (n : ℕ). take n (drop m.from page)) (sym step) in
    let record_is : IsPlain l.order delta payload (run_bytes page m next) = subst (λ (t : List ℕ). IsPlain l.order delta payload t) bytes_are plain.1.0 in
    let small : m.time + delta < 2 ^ 64 = subst (λ (n : ℕ). n < 2 ^ 64) plain.1.1.0 plain.1.1.1 in
    let one : IsRun l.order m.time (EventAt (m.time + delta) payload ∷ []) (run_bytes page m next ++ []) (m.time + delta) =
    begins_with m.time delta (m.time + delta) payload (run_bytes page m next) [] [] record_is small (nothing (m.time + delta)) in
    let timed : IsRun l.order m.time (EventAt time payload ∷ []) (run_bytes page m next ++ []) time =
    subst (λ (n : ℕ). IsRun l.order m.time (EventAt n payload ∷ []) (run_bytes page m next ++ []) n) (sym plain.1.1.0) one in
    record {
      items = EventAt time payload ∷ [];
      long = refl;
      run = subst (λ (t : List ℕ). IsRun l.order m.time (EventAt time payload ∷ []) t time) (append-nil (run_bytes page m next)) timed;
      left = p.0 ∙ ap (λ (o : Option Loss). item_by o time (take len (drop (m.from + 4) page)) ∷ items_from l page next) event
          ∙ ap (λ (q : List ℕ). EventAt time q ∷ items_from l page next) (sym own);
      there = p.1.0;
      event = refl;
      forward = omega arith;
    }

-- a run after a run
runs_join : (order : Order) (start middle end : ℕ) (xs ys : List ItemData) (front back : List ℕ) → IsRun order start xs front middle → IsRun order middle ys back end → IsRun order start (xs ++ ys) (front ++ back) end
runs_join order start middle end xs ys front back (nothing time) more = more
runs_join order start middle end xs ys front back (begins_with time delta last payload one others zs plain few behind) more =
    subst (λ (t : List ℕ). IsRun order time (EventAt (time + delta) payload ∷ zs ++ ys) t end) (sym (append_assoc one others back))
    (begins_with time delta end payload one (others ++ back) (zs ++ ys) plain few (runs_join order (time + delta) middle end zs ys others back behind more))

-- bytes between places, one after another
bytes_join : (page : List ℕ) (a b c : Mark) → a.from ≤ b.from → b.from ≤ c.from → run_bytes page a b ++ run_bytes page b c ≡ run_bytes page a c
bytes_join page a b c first second =
    let n = b.from - a.from in
    let m = c.from - b.from in
    let sum : n + m ≡ c.from - a.from = omega arith in
    let place : a.from + n ≡ b.from = omega arith in
    ap (λ (t : List ℕ). run_bytes page a b ++ take m t) (ap (λ (k : ℕ). drop k page) (sym place) ∙ sym (drop-drop n a.from page))
    ∙ sym (take-add n m (drop a.from page)) ∙ ap (λ (k : ℕ). take k (drop a.from page)) sum

pub run_goes_on : (l : Layout) (page : List ℕ) (mark middle behind : Mark) (count more : ℕ) → IsRunTo l page mark middle count → IsRunTo l page middle behind more → IsRunTo l page mark behind (count + more)
run_goes_on l page mark middle behind count more a b = record {
  items = a.items ++ b.items;
  long = omega (arith, length-append a.items b.items, a.long, b.long);
  run = subst (λ (t : List ℕ). IsRun l.order mark.time (a.items ++ b.items) t behind.time) (bytes_join page mark middle behind a.forward b.forward)
      (runs_join l.order mark.time middle.time behind.time a.items b.items (run_bytes page mark middle) (run_bytes page middle behind) a.run b.run);
  left = a.left ∙ ap (λ (t : List ItemData). a.items ++ t) b.left ∙ sym (append_assoc a.items b.items (items_from l page behind));
  there = b.there;
  event = b.event;
  forward = omega (arith, a.forward, b.forward);
}

-- what a plain record at the front of bytes is
pub record PlainAt (order : Order) (delta : ℕ) (front bytes : List ℕ) : Type 0 where
  pub kind : ℕ
  pub least : 1 ≤ kind
  pub most : kind ≤ 28
  pub kind_is : type_len order (num order (take 4 bytes)) ≡ kind
  pub delta_is : time_delta order (num order (take 4 bytes)) ≡ delta
  pub long : length front ≡ 4 + 4 * kind
  pub fits : length front ≤ length bytes

pub plain_at : (order : Order) (delta : ℕ) (payload front back bytes : List ℕ) → bytes ≡ front ++ back → IsPlain order delta payload front → PlainAt order delta front bytes
plain_at order delta payload front back bytes whole is =
    let first = is.first in
    let parted : bytes ≡ first ++ (payload ++ back) = whole ∙ ap (λ (t : List ℕ). t ++ back) is.whole ∙ append_assoc first payload back in
    let word : take 4 bytes ≡ first = ap (take 4) parted ∙ take_at first (payload ++ back) 4 is.word.four in
    record {
      kind = is.kind;
      least = is.least;
      most = is.most;
      kind_is = ap (λ (t : List ℕ). type_len order (num order t)) word ∙ is.word.kind_is;
      delta_is = ap (λ (t : List ℕ). time_delta order (num order t)) word ∙ is.word.delta_is;
      long = omega (arith, ap length is.whole, length-append first payload, is.word.four, is.long);
      fits = omega (arith, ap length whole, length-append front back);
    }

-- a readable place has no plain record whose time is 2^64 or more
pub plain_in_time : (l : Layout) (page : List ℕ) (m : Mark) (delta : ℕ) (payload front back : List ℕ) → IsMark l page m → bytes_from page m ≡ front ++ back → IsPlain l.order delta payload front → 2 ^ 64 ≤ m.time + delta → ⊥
plain_in_time l page m delta payload front back here whole is late =
    let bytes = bytes_from page m in
    let p = plain_at l.order delta payload front back bytes whole is in
    let read = short_is l.order bytes (num l.order (take 4 bytes)) p.kind delta refl (sym p.kind_is) (sym p.delta_is) (omega (arith, p.fits, p.long)) p.least p.most (omega (arith, p.fits, p.long)) in
    let none = walk_late l.order m.time bytes (Event delta (take (4 * p.kind) (drop 4 bytes))) (drop (4 * p.kind) (drop 4 bytes)) (sym read) late in
    let some = subst (λ (o : Option (List ItemData)). IsSome o) none here.readable in
    absurd cc

-- The one that was found is the only one: where its event is too late, there is none.
pub same_delta : (order : Order) (time after len delta : ℕ) (payload front back bytes : List ℕ) → (f : IsPlainFront order time bytes (Some (after, len))) → bytes ≡ front ++ back
    → IsPlain order delta payload front → delta ≡ f.0
same_delta order time after len delta payload front back bytes f whole is =
    let p = plain_at order delta payload front back bytes whole is in
    let q = plain_at order f.0 (take len (drop 4 bytes)) (take (4 + len) bytes) (drop (4 + len) bytes) bytes (sym (take-append-drop (4 + len) bytes)) f.1.0 in
    sym p.delta_is ∙ q.delta_is

pub plain_too_late : (l : Layout) (page : List ℕ) (m : Mark) (time len bytes until : ℕ) → IsPlainFront l.order m.time (bytes_from page m) (Some (time, len)) → until < time → NonePlain l page m bytes until
plain_too_late l page m time len bytes until found late = λ delta payload front back whole is fits due.
    let same = same_delta l.order m.time time len delta payload front back (bytes_from page m) found whole is in
    omega (arith, same, found.1.1.0, late, due)

-- BYTES UP TO A PLACE

-- they are the first of those from a position on
cut_bytes : (page : List ℕ) (from end to : ℕ) → from ≤ end → end ≤ to → drop from (take end page) ≡ take (end - from) (drop from (take to page))
cut_bytes page from end to forward within =
    let size = end - from in
    let whole : end ≡ from + size = omega arith in
    let here : from + 0 ≡ from = omega arith in
    let fits : from + 0 + size ≤ to = omega arith in
    ap (λ (n : ℕ). drop from (take n page)) whole ∙ drop-take from size page
    ∙ sym (piece_of page from to 0 size fits ∙ ap (λ (n : ℕ). take size (drop n page)) here)

-- a plain record at the front of some bytes is one at the front of more
plain_longer : (order : Order) (time after len n : ℕ) (bytes : List ℕ) → 4 + len ≤ n → IsPlainFront order time (take n bytes) (Some (after, len)) → IsPlainFront order time bytes (Some (after, len))
plain_longer order time after len n bytes room plain =
    let rest = n - 4 in
    let whole : n ≡ 4 + rest = omega arith in
    let fits : len ≤ rest = omega arith in
    let payload : take len (drop 4 (take n bytes)) ≡ take len (drop 4 bytes) =
    ap (λ (k : ℕ). take len (drop 4 (take k bytes))) whole ∙ ap (take len) (drop-take 4 rest bytes) ∙ take-take len rest (drop 4 bytes) fits in
    let front : take (4 + len) (take n bytes) ≡ take (4 + len) bytes = take-take (4 + len) n bytes room in
    let is : IsPlain order plain.0 (take len (drop 4 bytes)) (take (4 + len) bytes) =
    subst (λ (t : List ℕ). IsPlain order plain.0 (take len (drop 4 bytes)) t) front (subst (λ (t : List ℕ). IsPlain order plain.0 t (take (4 + len) (take n bytes))) payload plain.1.0) in
    (plain.0, (is, plain.1.1))

-- all bytes tell a plain record at their front
pub plain_is_short : (order : Order) (time after len : ℕ) (bytes : List ℕ) → 4 + len ≤ length bytes → IsPlainFront order time bytes (Some (after, len)) → IsShort order time bytes (Some (after, len))
plain_is_short order time after len bytes room plain =
    let delta = plain.0 in
    let q = plain_at order delta (take len (drop 4 bytes)) (take (4 + len) bytes) (drop (4 + len) bytes) bytes (sym (take-append-drop (4 + len) bytes)) plain.1.0 in
    let same : 4 * q.kind ≡ len = omega (arith, q.long, length-take-le (4 + len) bytes room) in
    let small : ltb (time + delta) (2 ^ 64) ≡ true = lt-ltb _ _ (subst (λ (n : ℕ). n < 2 ^ 64) plain.1.1.0 plain.1.1.1) in
    let timed : Some after ≡ in_64_bits (time + delta) = ap (λ (n : ℕ). Some n) plain.1.1.0 ∙ sym (ap (λ (b : Bool). cond b (Some (time + delta)) None) small) in
    subst (λ (n : ℕ). IsShort order time bytes (Some (after, n))) same
    (short_told order time bytes (num order (take 4 bytes)) q.kind delta after refl (sym q.kind_is) (sym q.delta_is) (omega (arith, room)) q.least q.most (omega (arith, same, room)) timed)

-- a plain record that was found in the bytes up to a place stands in all bytes from the position on
pub record FoundBefore (l : Layout) (page : List ℕ) (m : Mark) (time len end : ℕ) : Type 0 where
  pub plain : IsPlainFront l.order m.time (bytes_from page m) (Some (time, len))
  pub enough : 4 + len ≤ length (bytes_from page m)
  pub ends : m.from + 4 + len ≤ end

pub found_before : (l : Layout) (page : List ℕ) (m : Mark) (time len end : ℕ) (bytes : List ℕ) → m.from ≤ end → end ≤ m.to → bytes ≡ drop m.from (take end page)
    → 4 + len ≤ length bytes → IsPlainFront l.order m.time bytes (Some (time, len)) → FoundBefore l page m time len end
found_before l page m time len end bytes forward within are room plain =
    let all = bytes_from page m in
    let size = end - m.from in
    let cut : bytes ≡ take size all = are ∙ cut_bytes page m.from end m.to forward within in
    let long : length bytes ≡ min size (length all) = ap length cut ∙ length-take size all in
    let inside : 4 + len ≤ size = omega (arith, room, long) in
    record {
      plain = plain_longer l.order m.time time len size all inside (subst (λ (t : List ℕ). IsPlainFront l.order m.time t (Some (time, len))) cut plain);
      enough = omega (arith, room, long);
      ends = omega (arith, inside, forward);
    }

front_taken : (front back : List ℕ) (n : ℕ) → length front ≤ n → take n (front ++ back) ≡ front ++ take (n - length front) back
front_taken front back n fits =
    let rest = n - length front in
    let whole : n ≡ length front + rest = omega arith in
    ap (λ (k : ℕ). take k (front ++ back)) whole ∙ take-add (length front) rest (front ++ back)
    ∙ ap (λ (head : List ℕ). head ++ take rest (drop (length front) (front ++ back))) (take_at front back (length front) refl)
    ∙ ap (λ (tail : List ℕ). front ++ take rest tail) (drop_at front back (length front) refl)

-- where none was found in the bytes up to a place, none ends there
pub none_before : (l : Layout) (page : List ℕ) (m : Mark) (end until : ℕ) (bytes : List ℕ) → IsMark l page m → m.from ≤ end → end ≤ m.to → bytes ≡ drop m.from (take end page)
    → IsPlainFront l.order m.time bytes None → NonePlain l page m (end - m.from) until
none_before l page m end until bytes here forward within are none = λ delta payload front back whole is fits due.
    let size = end - m.from in
    let cut : bytes ≡ front ++ take (size - length front) back =
    are ∙ cut_bytes page m.from end m.to forward within ∙ ap (take size) whole ∙ front_taken front back size fits in
    absurd (plain_in_time l page m delta payload front back here whole is (none delta payload front (take (size - length front) back) cut is))

-- none ends within so many bytes where none ends before the place after them, or before the end of the committed ones
pub none_within : (l : Layout) (page : List ℕ) (m : Mark) (end bytes until : ℕ) → IsMark l page m → end ≡ min (m.from + bytes) m.to → NonePlain l page m (end - m.from) until → NonePlain l page m bytes until
none_within l page m end bytes until here is none = λ delta payload front back whole plain fits due.
    let forward = here.forward in
    let within = here.within in
    let size : length (bytes_from page m) ≡ m.to - m.from = omega (arith, length-drop m.from (take m.to page), length-take m.to page) in
    let long : length front ≤ m.to - m.from = omega (arith, size, ap length whole, length-append front back) in
    none delta payload front back whole plain (omega (arith, is, fits, long)) due

-- how many bytes a run has
pub run_long : (l : Layout) (page : List ℕ) (mark behind : Mark) (count : ℕ) → IsRunTo l page mark behind count → length (run_bytes page mark behind) ≡ behind.from - mark.from
run_long l page mark behind count r =
    let forward = r.there.forward in
    let within = r.there.within in
    length-take-le (behind.from - mark.from) (drop mark.from page) (omega (arith, length-drop mark.from page, forward, within, r.forward))

none_timed : (b : Bool) (n : ℕ) → None ≡ cond b (Some n) None → b ≡ false
none_timed true n e = absurd cc
none_timed false n e = refl

pub no_time : (time : ℕ) → None ≡ in_64_bits time → 2 ^ 64 ≤ time
no_time time e = ltb-false _ _ (none_timed (ltb time (2 ^ 64)) time e)

-- ONE RECORD FURTHER

-- a plain record at the front after a later running time
plain_later : (order : Order) (time delta len : ℕ) (bytes : List ℕ) → time + delta < 2 ^ 64 → IsPlainFront order 0 bytes (Some (delta, len)) → IsPlainFront order time bytes (Some (time + delta, len))
plain_later order time delta len bytes small plain =
    let own : time + delta ≡ time + plain.0 = omega (arith, plain.1.1.0) in
    (plain.0, (plain.1.0, (own, small)))

pub further_passed : (l : Layout) (page bytes : List ℕ) (until to end : ℕ) (reached next : Reached) → until < 2 ^ 64 → IsMark l page (mark_at until to reached) → bytes ≡ take end page
    → reached.from ≤ end → end ≤ to → reached.left ≤ until → IsFurther l.order bytes reached (Some next)
    → IsRunTo l page (mark_at until to reached) (mark_at until to next) 1
further_passed l page bytes until to end reached next small here are forward within left further =
    let m = mark_at until to reached in
    let f = subst (λ (b : List ℕ). IsFurther l.order b reached (Some next)) are further in
    let delta = f.0 in
    let len = next.from - (reached.from + 4) in
    let past : reached.from + 4 ≤ next.from = f.1.1.0 in
    let time : m.time + delta ≡ until - next.left = omega (arith, f.1.0, left) in
    let in_time : m.time + delta < 2 ^ 64 = omega (arith, time, small) in
    let place : m.from + 4 + len ≡ next.from = omega (arith, past) in
    let room : 4 + len ≤ length (drop m.from (take end page)) = omega (arith, length-drop m.from (take end page), f.1.1.1.0, past) in
    let plain = plain_later l.order m.time delta len (drop m.from (take end page)) in_time f.1.1.1.1 in
    let found = found_before l page m (m.time + delta) len end (drop m.from (take end page)) forward within refl room plain in
    let short = plain_is_short l.order m.time (m.time + delta) len (bytes_from page m) found.enough found.plain in
    let run = plain_passed l page m (m.time + delta) len refl here short found.plain in
    let timed = subst (λ (t : ℕ). IsRunTo l page m (record { loss = None; time = t; from = m.from + 4 + len; to = to }) 1) time run in
    subst (λ (n : ℕ). IsRunTo l page m (record { loss = None; time = until - next.left; from = n; to = to }) 1) place timed

pub further_none : (l : Layout) (page bytes : List ℕ) (until to end : ℕ) (reached : Reached) → bytes ≡ take end page
    → reached.from ≤ end → end ≤ to → reached.left ≤ until → IsFurther l.order bytes reached None
    → NonePlain l page (mark_at until to reached) (end - reached.from) until
further_none l page bytes until to end reached are forward within left none = λ delta payload front back whole is fits due.
    let size = end - reached.from in
    let cut : drop reached.from bytes ≡ front ++ take (size - length front) back =
    ap (drop reached.from) are ∙ cut_bytes page reached.from end to forward within ∙ ap (take size) whole ∙ front_taken front back size fits in
    let late : reached.left < delta = none delta payload front (take (size - length front) back) cut is in
    absurd (omega (arith, late, due, left))

-- a place from which a run is gone over is where the run has come to
pub first_reached : (l : Layout) (page : List ℕ) (mark first : Mark) (until count : ℕ) → IsRunTo l page mark first count → first.time ≤ until
    → IsRunTo l page mark (mark_at until first.to (record { from = first.from; left = until - first.time })) count
first_reached l page mark first until count run in_time =
    let time : first.time ≡ until - (until - first.time) = omega (arith, in_time) in
    subst (λ (t : ℕ). IsRunTo l page mark (record { loss = None; time = t; from = first.from; to = first.to }) count) time
    (subst (λ (m : Mark). IsRunTo l page mark m count) (sym run.event) run)
