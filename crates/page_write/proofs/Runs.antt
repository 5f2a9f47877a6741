-- What packing writes for a run of plain records is their own bytes.
use Rattle.std.proofs.Common.{◌≡◌, ℕ, suc, ◌+◌, ◌-◌, ◌*◌, ◌/◌, ◌%◌, ◌^◌, ◌<◌, ◌≤◌, true, ltb, leb, List, [], ◌∷◌, ◌++◌, map, length, take, drop, reverse, Option, Some, None, refl, sym, ap, subst, ◌∙◌, ◌&&◌, arith}
use Rattle.std.specs.List.{All, last_or}
use Rattle.std.proofs.lemmas.Bool.{lt-ltb, le-leb, leb-true, and_from, and_parts}
use Rattle.std.proofs.lemmas.List.{length-append, length-reverse, reverse-reverse, take_at, drop_at}
use Rattle.std.proofs.lemmas.List.Elements.{All-cons, All-nil, All-append}
use Rattle.trace_base.specs.declared.layout.Layout.{Layout}
use Rattle.trace_base.specs.Layout.{IsLayout}
use Rattle.trace_base.specs.declared.order.Order.{Order}
use Rattle.trace_base.specs.declared.order.Order.TheVariants.{Little, Big}
use Rattle.trace_base.specs.Number.{low_first, num, low_bytes, bytes_of}
use Rattle.subpage.specs.Element.{type_len, time_delta}
use Rattle.subpage.specs.ItemData.{ItemData, EventAt, LossAt, item_time, last_time}
use Rattle.subpage.specs.Run.{IsPlain, IsRun, nothing, begins_with}
use Rattle.page_write.specs.declared.open_page.OpenPage.{OpenPage}
use Rattle.page_write.specs.PageBytes.{put_at, number_text, records, data_text, area_len, follow, one_page, IsPackable}
use Rattle.page_write.specs.declared.fill.Fill.{Fill}
use Rattle.page_write.specs.Fill.{event_len, end_from, IsFill}
use Rattle.page_write.specs.Held.{lost_text, HoldsAll, Holds}
use Rattle.page_write.specs.Adding.{IsRunAfter}
use Rattle.page_write.specs.Record.{is_short, pair_word, first_word, event_text, record_text, records_text}
use Rattle.page_write.proofs.Putting.{near_text}
use Rattle.page_write.proofs.Packable.{IsBytes, bytes-take, bytes-drop, bytes-reverse, num_small, is_short_len, event_packable}
use Rattle.page_write.proofs.Packing.{records_append}
use Rattle.page_write.proofs.Filling.{event_len-short, number_push}
use Rattle.page_write.proofs.Holding.{held_room, written_more}

low_bytes_again : (bytes : List ℕ) → IsBytes bytes → low_bytes (length bytes) (low_first bytes) ≡ bytes
low_bytes_again [] fit = refl
low_bytes_again (b ∷ bytes) fit =
    let n = low_first bytes in
    let small : b < 256 = fit 0 in
    let low : (b + 256 * n) % 256 ≡ b = omega (arith, small) in
    let high : (b + 256 * n) / 256 ≡ n = omega (arith, small) in
    rw (low, high, low_bytes_again bytes (λ i. fit (suc i))) refl

-- the bytes of the number that bytes spell
bytes_again : (order : Order) (bytes : List ℕ) (n : ℕ) → length bytes ≡ n → IsBytes bytes → bytes_of order n (num order bytes) ≡ bytes
bytes_again Little bytes n long fit = subst (λ (k : ℕ). low_bytes k (low_first bytes) ≡ bytes) long (low_bytes_again bytes fit)
bytes_again Big bytes n long fit =
    let back = reverse bytes in
    let size : length back ≡ n = length-reverse bytes ∙ long in
    ap reverse (subst (λ (k : ℕ). low_bytes k (low_first back) ≡ back) size (low_bytes_again back (bytes-reverse bytes fit))) ∙ reverse-reverse bytes

-- the pair of a first word is the word again
pair_again : (order : Order) (word kind delta : ℕ) → word < 2 ^ 32 → type_len order word ≡ kind → time_delta order word ≡ delta → (pair_word order kind delta ≡ word) × (delta < 2 ^ 27)
pair_again Little word kind delta few k d = (omega (arith, few, k, d), omega (arith, few, d))
pair_again Big word kind delta few k d = (omega (arith, few, k, d), omega (arith, few, d))

bytes-front : (front back : List ℕ) → IsBytes (front ++ back) → IsBytes front
bytes-front front back fit = subst (λ (t : List ℕ). IsBytes t) (take_at front back (length front) refl) (bytes-take (length front) (front ++ back) fit)

bytes-back : (front back : List ℕ) → IsBytes (front ++ back) → IsBytes back
bytes-back front back fit = subst (λ (t : List ℕ). IsBytes t) (drop_at front back (length front) refl) (bytes-drop (length front) (front ++ back) fit)

-- a plain record is the record that is written for its event
pub plain_text : (order : Order) (delta : ℕ) (payload bytes : List ℕ) → IsBytes bytes → IsPlain order delta payload bytes → (record_text order delta payload ≡ bytes) × (delta < 2 ^ 27)
unfolding event_text first_word
plain_text order delta payload bytes fit is =
    let first = is.first in
    let fit_first : IsBytes first = bytes-front first payload (subst (λ (t : List ℕ). IsBytes t) is.whole fit) in
    let small : num order first < 2 ^ 32 = num_small order first 4 is.word.four fit_first in
    let pair = pair_again order (num order first) is.kind delta small is.word.kind_is is.word.delta_is in
    let n = length payload in
    let kind : n / 4 ≡ is.kind = omega (arith, is.long) in
    let short : is_short n ≡ true = is_short_len n (omega (arith, is.long, is.least)) (omega (arith, is.long, is.most)) (omega (arith, is.long)) in
    let word : bytes_of order 4 (pair_word order (n / 4) delta) ≡ first =
    ap (λ (k : ℕ). bytes_of order 4 (pair_word order k delta)) kind ∙ ap (bytes_of order 4) pair.0 ∙ bytes_again order first 4 is.word.four fit_first in
    let text : event_text order delta payload ≡ bytes = rw short (ap (λ (t : List ℕ). t ++ payload) word ∙ sym is.whole) in
    (sym (near_text order delta payload pair.1) ∙ text, pair.1)

-- The records of a run's events, after an item of the running time at its start, are the bytes of the run.
pub records_are : (order : Order) (start end : ℕ) (xs : List ItemData) (bytes : List ℕ) → IsBytes bytes → IsRun order start xs bytes end → records_text order start xs ≡ bytes
unfolding records_text
records_are order start end xs bytes fit (nothing time) = refl
records_are order start end xs bytes fit (begins_with time delta last payload front back others plain few behind) =
    let step : time + delta - time ≡ delta = omega arith in
    let first = plain_text order delta payload front (bytes-front front back fit) plain in
    let rest = records_are order (time + delta) last others back (bytes-back front back fit) behind in
    rw step (ap (λ (t : List ℕ). t ++ records_text order (time + delta) others) first.0 ∙ ap (λ (t : List ℕ). front ++ t) rest)

-- the time of a run's last event
pub end_is : (order : Order) (start end : ℕ) (xs : List ItemData) (bytes : List ℕ) → IsRun order start xs bytes end → end_from start xs ≡ end
end_is order start end xs bytes (nothing time) = refl
end_is order start end xs bytes (begins_with time delta last payload front back others plain few behind) = end_is order (time + delta) last others back behind

-- its events follow one another
pub follow_run : (order : Order) (start end : ℕ) (xs : List ItemData) (bytes : List ℕ) → IsBytes bytes → IsRun order start xs bytes end → follow start xs ≡ true
follow_run order start end xs bytes fit (nothing time) = refl
follow_run order start end xs bytes fit (begins_with time delta last payload front back others plain few behind) =
    let step : time + delta - time ≡ delta = omega arith in
    let first = plain_text order delta payload front (bytes-front front back fit) plain in
    let later : leb time (time + delta) ≡ true = le-leb _ _ (omega arith) in
    let near : ltb (time + delta - time) (2 ^ 59) ≡ true = lt-ltb _ _ (omega (arith, step, first.1)) in
    rw (later, near) (follow_run order (time + delta) last others back (bytes-back front back fit) behind)

-- each of them can be packed, where the run has room
pub run_packable : (l : Layout) (start end : ℕ) (xs : List ItemData) (bytes : List ℕ) → length bytes ≤ area_len l → IsRun l.order start xs bytes end → All (IsPackable l) xs
run_packable l start end xs bytes fits (nothing time) = All-nil (IsPackable l)
run_packable l start end xs bytes fits (begins_with time delta last payload front back others plain few behind) =
    let long = length-append front back in
    let whole : length front ≡ length (plain.first ++ payload) = ap length plain.whole in
    let n = length payload in
    let short : is_short n ≡ true = is_short_len n (omega (arith, plain.long, plain.least)) (omega (arith, plain.long, plain.most)) (omega (arith, plain.long)) in
    let size : event_len n ≤ area_len l = omega (arith, event_len-short n short, whole, length-append plain.first payload, plain.word.four, long, fits) in
    All-cons (IsPackable l) (EventAt (time + delta) payload) others (event_packable l (time + delta) payload few size)
    (run_packable l (time + delta) last others back (omega (arith, long, fits)) behind)

end_join : (before : ℕ) (xs ys : List ItemData) → end_from before (xs ++ ys) ≡ end_from (end_from before xs) ys
end_join before [] ys = refl
end_join before (x ∷ xs) ys = end_join (item_time x) xs ys

follow_join : (before : ℕ) (xs ys : List ItemData) → follow before xs ≡ true → follow (end_from before xs) ys ≡ true → follow before (xs ++ ys) ≡ true
follow_join before [] ys f g = g
follow_join before (EventAt t p ∷ xs) ys f g =
    let q = and_parts (leb before t && ltb (t - before) (2 ^ 59)) (follow t xs) f in
    and_from (leb before t && ltb (t - before) (2 ^ 59)) (follow t (xs ++ ys)) q.0 (follow_join t xs ys q.1 g)
follow_join before (LossAt t c ∷ xs) ys f g = absurd cc

-- items that one sub-buffer tells, with a run after them, for which there is room
pub record IsJoined (l : Layout) (y : ItemData) (ys xs : List ItemData) (run : List ℕ) (end : ℕ) : Type 0 where
  pub all : records l (y ∷ ys ++ xs) ≡ records l (y ∷ ys) ++ run
  pub one : one_page l (y ∷ ys ++ xs) ≡ true
  pub long : length (data_text l (y ∷ ys ++ xs)) ≡ length (data_text l (y ∷ ys)) + length run
  pub last : end_from (item_time y) (ys ++ xs) ≡ end

pub run_joined : (l : Layout) (y : ItemData) (ys xs : List ItemData) (run : List ℕ) (end : ℕ) → IsBytes run → IsRun l.order (end_from (item_time y) ys) xs run end → one_page l (y ∷ ys) ≡ true
    → length (data_text l (y ∷ ys)) + length run ≤ area_len l → IsJoined l y ys xs run end
run_joined l y ys xs run end fit is one fits =
    let before = item_time y in
    let middle = end_from before ys in
    let old = records l (y ∷ ys) in
    let all : records l (y ∷ ys ++ xs) ≡ old ++ run = records_append l.order before (y ∷ ys) xs ∙ ap (λ (t : List ℕ). old ++ t) (records_are l.order middle end xs run fit is) in
    let p = and_parts (follow before ys) (leb (length (data_text l (y ∷ ys))) (area_len l)) one in
    let followed : follow before (ys ++ xs) ≡ true = follow_join before ys xs p.0 (follow_run l.order middle end xs run fit is) in
    let number = number_text l (y ∷ ys) in
    let parts : length (data_text l (y ∷ ys ++ xs)) ≡ length ((old ++ run) ++ number) =
    ap length (ap (λ (t : List ℕ). t ++ number_text l (y ∷ ys ++ xs)) all ∙ ap (λ (t : List ℕ). (old ++ run) ++ t) (number_push l y ys xs)) in
    let long : length (data_text l (y ∷ ys ++ xs)) ≡ length (data_text l (y ∷ ys)) + length run =
    omega (arith, parts, length-append (old ++ run) number, length-append old run, length-append old number) in
    record {
      all = all;
      one = and_from (follow before (ys ++ xs)) (leb (length (data_text l (y ∷ ys ++ xs))) (area_len l)) followed (le-leb _ _ (omega (arith, long, fits)));
      long = long;
      last = end_join before ys xs ∙ end_is l.order middle end xs run is;
    }

-- an open sub-buffer with a run after its items, whose bytes were put after its records
pub holds_run : (l : Layout) (page next : OpenPage) (bytes new : List ℕ) (y : ItemData) (ys xs : List ItemData) (run : List ℕ) (end : ℕ) → IsLayout l → HoldsAll l page bytes y ys → length bytes ≡ l.page
    → IsBytes run → IsRun l.order page.time xs run end → page.used + length (lost_text l page.lost) + length run ≤ area_len l
    → new ≡ put_at (l.data_at + page.used) run bytes → next.start ≡ page.start → next.time ≡ end → next.used ≡ page.used + length run → next.lost ≡ page.lost
    → HoldsAll l next new y (ys ++ xs)
holds_run l page next bytes new y ys xs run end allowed h whole fit is fits put start at used lost =
    let before = item_time y in
    let middle = end_from before ys in
    let here : IsRun l.order middle xs run end = subst (λ (n : ℕ). IsRun l.order n xs run end) h.time is in
    let r = held_room l page bytes y ys h in
    let old = records l (y ∷ ys) in
    let joined = run_joined l y ys xs run end fit here h.one (omega (arith, r.0, fits)) in
    record {
      start = start ∙ h.start;
      time = at ∙ sym joined.last;
      lost = lost ∙ h.lost;
      used = omega (arith, used, h.used, ap length joined.all, length-append old run);
      records_are = ap (λ (n : ℕ). take n (drop l.data_at new)) used
          ∙ ap (λ (t : List ℕ). take (page.used + length run) (drop l.data_at t)) put
          ∙ written_more l.data_at page.used run bytes (omega (arith, whole, fits, allowed.data_in_front, allowed.page_least))
          ∙ ap (λ (t : List ℕ). t ++ run) h.records_are
          ∙ sym joined.all;
      one = joined.one;
      packable = All-append (IsPackable l) (y ∷ ys) xs h.packable (run_packable l page.time end xs run (omega (arith, fits)) is);
    }

last_from : (before : ℕ) (xs : List ItemData) → last_or (Some before) (map item_time xs) ≡ Some (end_from before xs)
last_from before [] = refl
last_from before (x ∷ xs) = last_from (item_time x) xs

-- the time of the last item that is held
pub last_held : (l : Layout) (page : OpenPage) (bytes : List ℕ) (held : List ItemData) → Holds l (Some page) bytes held → last_time held ≡ Some page.time
last_held l page bytes [] h = absurd h
last_held l page bytes (y ∷ ys) h = last_from (item_time y) ys ∙ ap (λ (n : ℕ). Some n) (sym h.time)

-- what becomes of the open sub-buffer
abbrev pub AddsRun : Layout → OpenPage → OpenPage → List ℕ → List ℕ → List ℕ → ℕ → Type 0
AddsRun l page next bytes new run end =
    (y : ItemData) (ys xs : List ItemData) → HoldsAll l page bytes y ys → IsRun l.order page.time xs run end → HoldsAll l next new y (ys ++ xs)

run_added : (l : Layout) (page next : OpenPage) (bytes new run : List ℕ) (end : ℕ) (held xs : List ItemData) → Holds l (Some page) bytes held → AddsRun l page next bytes new run end
    → IsRun l.order page.time xs run end → Holds l (Some next) new (held ++ xs)
run_added l page next bytes new run end [] xs h adds is = absurd h
run_added l page next bytes new run end (y ∷ ys) xs h adds is = adds y ys xs h is

-- the same, after the last item that is held
pub holds_after : (l : Layout) (page next : OpenPage) (bytes new run : List ℕ) (end : ℕ) (held xs : List ItemData) → Holds l (Some page) bytes held → AddsRun l page next bytes new run end
    → IsRunAfter l held run end xs → Holds l (Some next) new (held ++ xs)
holds_after l page next bytes new run end held xs h adds behind =
    let same : behind.start ≡ page.time = let e : Some behind.start ≡ Some page.time = sym behind.last ∙ last_held l page bytes held h in cc in
    run_added l page next bytes new run end held xs h adds (subst (λ (n : ℕ). IsRun l.order n xs run end) same behind.run)

pub one_held : (l : Layout) (page : Option OpenPage) (bytes : List ℕ) (held : List ItemData) → Holds l page bytes held → one_page l held ≡ true
one_held l None bytes held h = rw h refl
one_held l (Some page) bytes [] h = absurd h
one_held l (Some page) bytes (y ∷ ys) h = h.one

-- how many bytes the items take
pub taken : (l : Layout) (page : OpenPage) (bytes : List ℕ) (held : List ItemData) → Holds l (Some page) bytes held
    → (page.used + length (lost_text l page.lost) ≡ length (data_text l held)) × (page.used + length (lost_text l page.lost) ≤ area_len l)
taken l page bytes [] h = absurd h
taken l page bytes (y ∷ ys) h = held_room l page bytes y ys h

pub none_taken : (l : Layout) (held : List ItemData) → held ≡ [] → length (data_text l held) ≡ 0
unfolding records_text
none_taken l held is = rw is refl

pub no_last : (held : List ItemData) (start : ℕ) → held ≡ [] → last_time held ≡ Some start → ⊥
no_last held start none is = let e : None ≡ Some start = ap last_time (sym none) ∙ is in absurd cc

-- THE SAME IN NUMBERS

pub no_fill : (l : Layout) (held : List ItemData) → IsFill l None held → held ≡ []
no_fill l [] h = refl
no_fill l (y ∷ ys) h = let e = h.fill_is in absurd cc

pub fill_last : (l : Layout) (fill : Fill) (held : List ItemData) → IsFill l (Some fill) held → last_time held ≡ Some fill.time
fill_last l fill [] h = let e = h.fill_is in absurd cc
fill_last l fill (y ∷ ys) h = let e : fill ≡ record { time = end_from (item_time y) ys; used = length (data_text l (y ∷ ys)) } = let e = h.fill_is in cc in
    last_from (item_time y) ys ∙ ap (λ (f : Fill). Some f.time) (sym e)

pub fill_used : (l : Layout) (fill : Fill) (held : List ItemData) → IsFill l (Some fill) held → (length (data_text l held) ≡ fill.used) × (fill.used ≤ area_len l)
fill_used l fill [] h = let e = h.fill_is in absurd cc
fill_used l fill (y ∷ ys) h =
    let e : fill ≡ record { time = end_from (item_time y) ys; used = length (data_text l (y ∷ ys)) } = let e = h.fill_is in cc in
    let used : fill.used ≡ length (data_text l (y ∷ ys)) = ap (λ (f : Fill). f.used) e in
    let p = and_parts (follow (item_time y) ys) (leb (length (data_text l (y ∷ ys))) (area_len l)) h.one in
    (sym used, omega (arith, used, leb-true _ _ p.1))

-- an open sub-buffer with a run after its items
pub fill_run : (l : Layout) (fill : Fill) (held xs : List ItemData) (run : List ℕ) (end : ℕ) → IsBytes run → IsFill l (Some fill) held → IsRunAfter l held run end xs
    → length (data_text l held) + length run ≤ area_len l → IsFill l (Some (record { time = end; used = fill.used + length run })) (held ++ xs)
fill_run l fill [] xs run end fit h behind fits = let e = h.fill_is in absurd cc
fill_run l fill (y ∷ ys) xs run end fit h behind fits =
    let last : last_time (y ∷ ys) ≡ Some (end_from (item_time y) ys) = last_from (item_time y) ys in
    let same : behind.start ≡ end_from (item_time y) ys = let e : Some behind.start ≡ Some (end_from (item_time y) ys) = sym behind.last ∙ last in cc in
    let joined = run_joined l y ys xs run end fit (subst (λ (n : ℕ). IsRun l.order n xs run end) same behind.run) h.one fits in
    let used : fill.used + length run ≡ length (data_text l (y ∷ ys ++ xs)) = omega (arith, (fill_used l fill (y ∷ ys) h).0, joined.long) in
    record { one = joined.one; fill_is = cc (joined.last, used) }
