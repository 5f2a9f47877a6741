-- The records of events are spelled by elements, and these tell just the events.
use Rattle.std.proofs.Common.{◌≡◌, ℕ, ◌+◌, ◌-◌, ◌*◌, ◌/◌, ◌%◌, ◌^◌, ◌<◌, ◌≤◌, true, false, cond, ltb, leb, eqb, List, [], ◌∷◌, ◌++◌, length, refl, ap, subst, ◌∙◌, ◌&&◌, inl, inr, append_assoc, arith}
use Rattle.std.specs.List.{All}
use Rattle.std.proofs.lemmas.List.Elements.{All-head, All-tail}
use Rattle.std.proofs.lemmas.Bool.{cases_Bool, cases_lt, and_parts, ltb-true, leb-true, eqb-true, lt-ltb, le-ltb}
use Rattle.std.proofs.lemmas.List.{length-append, length-replicate}
use Rattle.trace_base.specs.declared.order.Order.{Order}
use Rattle.trace_base.specs.declared.order.Order.TheVariants.{Little, Big}
use Rattle.trace_base.specs.Number.{num, bytes_of}
use Rattle.subpage.specs.Element.{ElementData, Event, Extend, round4, type_len, time_delta, IsWord, IsFirstWord, Row, short_event, long_event, extend, Spelled, nothing, begins_with}
use Rattle.subpage.specs.RunningTime.{in_time}
use Rattle.subpage.specs.ItemData.{ItemData, EventAt, LossAt, item_time, events}
use Rattle.page_write.specs.Record.{zeros, pair_word, first_word, is_short, event_text, extend_text, record_text, records_text}
use Rattle.page_write.specs.PageBytes.{follow}
use Rattle.page_write.proofs.Numbers.{length-bytes_of, num_again}

pair_kind : (order : Order) (kind delta : ℕ) → kind < 32 → delta < 2 ^ 27 → type_len order (pair_word order kind delta) ≡ kind
pair_kind Little kind delta k d = omega arith
pair_kind Big kind delta k d = omega arith

pair_delta : (order : Order) (kind delta : ℕ) → kind < 32 → delta < 2 ^ 27 → time_delta order (pair_word order kind delta) ≡ delta
pair_delta Little kind delta k d = omega arith
pair_delta Big kind delta k d = omega arith

pair_fits : (order : Order) (kind delta : ℕ) → kind < 32 → delta < 2 ^ 27 → pair_word order kind delta < 256 ^ 4
pair_fits Little kind delta k d = omega arith
pair_fits Big kind delta k d = omega arith

is_first : (order : Order) (kind delta : ℕ) → kind < 32 → delta < 2 ^ 27 → IsFirstWord order (first_word order kind delta) kind delta
unfolding first_word
is_first order kind delta k d =
    let again : num order (bytes_of order 4 (pair_word order kind delta)) ≡ pair_word order kind delta = num_again order 4 _ (pair_fits order kind delta k d) in
    record {
      four = length-bytes_of order 4 (pair_word order kind delta);
      kind_is = ap (type_len order) again ∙ pair_kind order kind delta k d;
      delta_is = ap (time_delta order) again ∙ pair_delta order kind delta k d;
    }

is_word : (order : Order) (n : ℕ) → n < 2 ^ 32 → IsWord order (bytes_of order 4 n) n
is_word order n few = record { four = length-bytes_of order 4 n; number_is = num_again order 4 n few }

row_event : (order : Order) (delta : ℕ) (payload : List ℕ) → delta < 2 ^ 27 → length payload < 2 ^ 31 → Row order (Event delta payload) (event_text order delta payload)
unfolding event_text
row_event order delta payload d few =
    let n = length payload in
    elim (cases_Bool (is_short n)) [
      | inl s ↦
          let p = and_parts (leb 4 n && leb n 112) (eqb (n % 4) 0) s in
          let q = and_parts (leb 4 n) (leb n 112) p.0 in
          let least : 4 ≤ n = leb-true _ _ q.0 in
          let most : n ≤ 112 = leb-true _ _ q.1 in
          let whole : n % 4 ≡ 0 = eqb-true _ _ p.1 in
          rw s (short_event (first_word order (n / 4) delta) payload (n / 4) delta (is_first order (n / 4) delta (omega arith) d) (omega arith) (omega arith) (omega arith))
      | inr s ↦
          let padding = zeros (round4 n - n) in
          rw s (long_event (first_word order 0 delta) (bytes_of order 4 (n + 4)) payload padding delta (n + 4) (is_first order 0 delta (omega arith) d) (is_word order (n + 4) (omega arith)) (omega arith) (omega arith) (omega (arith, length-append payload padding, length-replicate {A = ℕ} (round4 n - n) 0)))
    ]

row_extend : (order : Order) (delta : ℕ) → delta < 2 ^ 59 → Row order (Extend delta) (extend_text order delta)
unfolding extend_text
row_extend order delta few =
    let low = delta % 2 ^ 27 in
    let high = delta / 2 ^ 27 in
    let whole : low + high * 2 ^ 27 ≡ delta = omega arith in
    subst (λ (n : ℕ). Row order (Extend n) (first_word order 30 low ++ bytes_of order 4 high)) whole
    (extend (first_word order 30 low) (bytes_of order 4 high) low high (is_first order 30 low (omega arith) (omega arith)) (is_word order high (omega arith)))

-- the elements of an event that is so much later than what stands before it, before others
abbrev pub step_elements : ℕ → List ℕ → List ElementData → List ElementData
step_elements step payload others = cond (ltb step (2 ^ 27)) (Event step payload ∷ others) (Extend step ∷ Event 0 payload ∷ others)

abbrev pub elements_of : ℕ → List ItemData → List ElementData
elements_of before [] = []
elements_of before (EventAt time payload ∷ xs) = step_elements (time - before) payload (elements_of time xs)
elements_of before (LossAt time count ∷ xs) = elements_of time xs

spelled_step : (order : Order) (step : ℕ) (payload : List ℕ) (others : List ElementData) (back : List ℕ) → step < 2 ^ 59 → length payload < 2 ^ 31 → Spelled order others back → Spelled order (step_elements step payload others) (record_text order step payload ++ back)
unfolding record_text
spelled_step order step payload others back few small rest = elim (cases_lt step (2 ^ 27)) [
  | inl near ↦
      let yes_near : ltb step (2 ^ 27) ≡ true = lt-ltb _ _ near in
      rw yes_near (begins_with (Event step payload) others (event_text order step payload) back (row_event order step payload near small) (λ never. absurd cc) rest)
  | inr far ↦
      let not_near : ltb step (2 ^ 27) ≡ false = le-ltb _ _ far in
      rw (not_near, append_assoc (extend_text order step) (event_text order 0 payload) back)
      (begins_with (Extend step) (Event 0 payload ∷ others) (extend_text order step) (event_text order 0 payload ++ back) (row_extend order step few) (λ never. absurd cc)
      (begins_with (Event 0 payload) others (event_text order 0 payload) back (row_event order 0 payload (omega arith) small) (λ never. absurd cc) rest))
]

event_longer : (order : Order) (delta : ℕ) (payload : List ℕ) → length payload ≤ length (event_text order delta payload)
unfolding event_text
event_longer order delta payload =
    let n = length payload in
    elim (cases_Bool (is_short n)) [
      | inl s ↦ rw s (omega (arith, length-append (first_word order (n / 4) delta) payload))
      | inr s ↦
          let padding = zeros (round4 n - n) in
          rw s (omega (arith, length-append (first_word order 0 delta) (bytes_of order 4 (n + 4) ++ (payload ++ padding)), length-append (bytes_of order 4 (n + 4)) (payload ++ padding), length-append payload padding))
    ]

record_longer : (order : Order) (step : ℕ) (payload : List ℕ) → length payload ≤ length (record_text order step payload)
unfolding record_text
record_longer order step payload = elim (cases_Bool (ltb step (2 ^ 27))) [
  | inl s ↦ rw s (event_longer order step payload)
  | inr s ↦ rw s (omega (arith, length-append (extend_text order step) (event_text order 0 payload), event_longer order 0 payload))
]

pub record Follows (before time : ℕ) (xs : List ItemData) : Type 0 where
  pub later : before ≤ time
  pub near : time - before < 2 ^ 59
  pub others : follow time xs ≡ true

pub follows : (before time : ℕ) (payload : List ℕ) (xs : List ItemData) → follow before (EventAt time payload ∷ xs) ≡ true → Follows before time xs
follows before time payload xs f =
    let p = and_parts (leb before time && ltb (time - before) (2 ^ 59)) (follow time xs) f in
    let q = and_parts (leb before time) (ltb (time - before) (2 ^ 59)) p.0 in
    record { later = leb-true _ _ q.0; near = ltb-true _ _ q.1; others = p.1 }

pub spelled_records : (order : Order) (before : ℕ) (xs : List ItemData) → follow before xs ≡ true → length (records_text order before xs) < 2 ^ 31 → Spelled order (elements_of before xs) (records_text order before xs)
unfolding records_text
spelled_records order before [] f few = nothing
spelled_records order before (EventAt time payload ∷ xs) f few =
    let g = follows before time payload xs f in
    let step = time - before in
    let long = length-append (record_text order step payload) (records_text order time xs) in
    let less = record_longer order step payload in
    spelled_step order step payload (elements_of time xs) (records_text order time xs) g.near (omega (arith, long, less)) (spelled_records order time xs g.others (omega (arith, long)))
spelled_records order before (LossAt time count ∷ xs) f few = absurd cc

events_step : (before time : ℕ) (payload : List ℕ) (others : List ElementData) → before ≤ time → events before (step_elements (time - before) payload others) ≡ EventAt time payload ∷ events time others
events_step before time payload others later =
    let step = time - before in
    let sum : before + step ≡ time = omega arith in
    elim (cases_Bool (ltb step (2 ^ 27))) [
      | inl s ↦ rw (s, sum) refl
      | inr s ↦
          let none : time + 0 ≡ time = omega arith in
          rw (s, sum, none) refl
    ]

pub events_again : (before : ℕ) (xs : List ItemData) → follow before xs ≡ true → events before (elements_of before xs) ≡ xs
events_again before [] f = refl
events_again before (EventAt time payload ∷ xs) f =
    let g = follows before time payload xs f in
    events_step before time payload (elements_of time xs) g.later ∙ ap (λ (ys : List ItemData). EventAt time payload ∷ ys) (events_again time xs g.others)
events_again before (LossAt time count ∷ xs) f = absurd cc

in_time_step : (before time : ℕ) (payload : List ℕ) (others : List ElementData) → before ≤ time → time < 2 ^ 64 → in_time time others ≡ true → in_time before (step_elements (time - before) payload others) ≡ true
in_time_step before time payload others later few rest =
    let step = time - before in
    let sum : before + step ≡ time = omega arith in
    let small : ltb time (2 ^ 64) ≡ true = lt-ltb _ _ few in
    elim (cases_Bool (ltb step (2 ^ 27))) [
      | inl s ↦ rw (s, sum, small) rest
      | inr s ↦
          let none : time + 0 ≡ time = omega arith in
          rw (s, sum, none, small) rest
    ]

abbrev pub InTime : ItemData → Type 0
InTime x = item_time x < 2 ^ 64

pub in_time_again : (before : ℕ) (xs : List ItemData) → follow before xs ≡ true → All InTime xs → in_time before (elements_of before xs) ≡ true
in_time_again before [] f few = refl
in_time_again before (EventAt time payload ∷ xs) f few =
    let g = follows before time payload xs f in
    in_time_step before time payload (elements_of time xs) g.later (All-head InTime (EventAt time payload) xs few) (in_time_again time xs g.others (All-tail InTime (EventAt time payload) xs few))
in_time_again before (LossAt time count ∷ xs) f few = absurd cc
