-- The rule in numbers is the rule on items.
use Rattle.std.proofs.Common.{◌≡◌, ℕ, ◌+◌, ◌-◌, ◌/◌, ◌%◌, ◌^◌, ◌<◌, ◌≤◌, true, false, cond, ltb, leb, List, [], ◌∷◌, ◌++◌, length, Option, Some, None, refl, sym, ap, ◌∙◌, ◌&&◌, inl, inr, append_assoc, append-nil, arith, rules}
use Rattle.std.proofs.lemmas.Bool.{cases_Bool, and_parts, leb-true, lt-ltb}
use Rattle.std.proofs.lemmas.List.{length-append, length-replicate}
use Rattle.trace_base.specs.declared.layout.Layout.{Layout}
use Rattle.trace_base.specs.declared.order.Order.{Order}
use Rattle.trace_base.proofs.Layouts.{carried}
use Rattle.trace_base.specs.Number.{bytes_of}
use Rattle.subpage.specs.Element.{round4}
use Rattle.subpage.specs.ItemData.{ItemData, EventAt, LossAt, item_time}
use Rattle.page_write.specs.Record.{zeros, is_short, first_word, event_text, extend_text, record_text, records_text, pair_word}
use Rattle.page_write.specs.PageBytes.{number_text, records, data_text, area_len, follow, one_page, IsPackable}
use Rattle.page_write.specs.Fill.{event_len, record_len, number_len, opened, gone_on, filled, end_from, fill_of, IsFill}
use Rattle.page_write.specs.declared.fill.Fill.{Fill}
use Rattle.page_write.proofs.Numbers.{length-bytes_of}

pub length-first_word : (order : Order) (kind delta : ℕ) → length (first_word order kind delta) ≡ 4
unfolding first_word
length-first_word order kind delta = length-bytes_of order 4 (pair_word order kind delta)

pub length-event_text : (order : Order) (delta : ℕ) (payload : List ℕ) → length (event_text order delta payload) ≡ event_len (length payload)
unfolding event_text event_len
length-event_text order delta payload =
    let n = length payload in
    elim (cases_Bool (is_short n)) [
      | inl s ↦ rw s (omega (arith, length-append (first_word order (n / 4) delta) payload, length-first_word order (n / 4) delta))
      | inr s ↦
          let padding = zeros (round4 n - n) in
          let long = bytes_of order 4 (n + 4) in
          rw s (omega (arith, length-append (first_word order 0 delta) (long ++ (payload ++ padding)), length-append long (payload ++ padding), length-append payload padding, length-first_word order 0 delta, length-bytes_of order 4 (n + 4), length-replicate {A = ℕ} (round4 n - n) 0))
    ]

pub length-extend_text : (order : Order) (delta : ℕ) → length (extend_text order delta) ≡ 8
unfolding extend_text
length-extend_text order delta =
    let low = first_word order 30 (delta % 2 ^ 27) in
    let high = bytes_of order 4 (delta / 2 ^ 27) in
    omega (arith, length-append low high, length-first_word order 30 (delta % 2 ^ 27), length-bytes_of order 4 (delta / 2 ^ 27))

pub length-record_text : (order : Order) (step : ℕ) (payload : List ℕ) → length (record_text order step payload) ≡ record_len step (length payload)
unfolding record_text record_len
length-record_text order step payload = elim (cases_Bool (ltb step (2 ^ 27))) [
  | inl s ↦ rw s (length-event_text order step payload)
  | inr s ↦ rw s (omega (arith, length-append (extend_text order step) (event_text order 0 payload), length-extend_text order step, length-event_text order 0 payload))
]

pub length-number_text : (layout : Layout) (time : ℕ) (count : Option ℕ) (xs : List ItemData) → length (number_text layout (LossAt time count ∷ xs)) ≡ number_len layout count
length-number_text layout time None xs = refl
length-number_text layout time (Some n) xs = length-bytes_of layout.order layout.commit_size n

-- items with a further event
pub follow_push : (before : ℕ) (xs : List ItemData) (time : ℕ) (payload : List ℕ) → follow before xs ≡ true → follow before (xs ++ EventAt time payload ∷ []) ≡ (leb (end_from before xs) time && ltb (time - end_from before xs) (2 ^ 59) && true)
follow_push before [] time payload f = refl
follow_push before (EventAt t p ∷ xs) time payload f =
    let q = and_parts (leb before t && ltb (t - before) (2 ^ 59)) (follow t xs) f in
    rw q.0 (follow_push t xs time payload q.1)
follow_push before (LossAt t c ∷ xs) time payload f = absurd cc

pub follow_loss : (before : ℕ) (xs : List ItemData) (time : ℕ) (count : Option ℕ) → follow before (xs ++ LossAt time count ∷ []) ≡ false
follow_loss before [] time count = refl
follow_loss before (EventAt t p ∷ xs) time count = rw (follow_loss t xs time count) (search rules)
follow_loss before (LossAt t c ∷ xs) time count = refl

pub records_push : (order : Order) (before : ℕ) (xs : List ItemData) (time : ℕ) (payload : List ℕ) → records_text order before (xs ++ EventAt time payload ∷ []) ≡ records_text order before xs ++ record_text order (time - end_from before xs) payload
unfolding records_text
records_push order before [] time payload = append-nil (record_text order (time - before) payload)
records_push order before (EventAt t p ∷ xs) time payload =
    ap (λ (bytes : List ℕ). record_text order (t - before) p ++ bytes) (records_push order t xs time payload)
    ∙ sym (append_assoc (record_text order (t - before) p) (records_text order t xs) (record_text order (time - end_from t xs) payload))
records_push order before (LossAt t c ∷ xs) time payload = records_push order t xs time payload

pub number_push : (layout : Layout) (y : ItemData) (ys zs : List ItemData) → number_text layout (y ∷ ys ++ zs) ≡ number_text layout (y ∷ ys)
number_push layout (EventAt time payload) ys zs = refl
number_push layout (LossAt time None) ys zs = refl
number_push layout (LossAt time (Some count)) ys zs = refl

-- the records of items that one sub-buffer holds, with a further event
pub records_more : (layout : Layout) (y : ItemData) (ys : List ItemData) (time : ℕ) (payload : List ℕ) → records layout (y ∷ ys ++ EventAt time payload ∷ []) ≡ records layout (y ∷ ys) ++ record_text layout.order (time - end_from (item_time y) ys) payload
records_more layout y ys time payload = records_push layout.order (item_time y) (y ∷ ys) time payload

pub data_len : (layout : Layout) (y : ItemData) (ys : List ItemData) (time : ℕ) (payload : List ℕ) → length (data_text layout (y ∷ ys ++ EventAt time payload ∷ [])) ≡ length (data_text layout (y ∷ ys)) + record_len (time - end_from (item_time y) ys) (length payload)
data_len layout y ys time payload =
    let zs = EventAt time payload ∷ [] in
    let step = time - end_from (item_time y) ys in
    let more = record_text layout.order step payload in
    let number = number_text layout (y ∷ ys) in
    let parts : length (data_text layout (y ∷ ys ++ zs)) ≡ length ((records layout (y ∷ ys) ++ more) ++ number) =
    ap length (ap (λ (bytes : List ℕ). bytes ++ number_text layout (y ∷ ys ++ zs)) (records_more layout y ys time payload) ∙ ap (λ (bytes : List ℕ). (records layout (y ∷ ys) ++ more) ++ bytes) (number_push layout y ys zs)) in
    omega (arith, parts, length-append (records layout (y ∷ ys) ++ more) number, length-append (records layout (y ∷ ys)) more, length-append (records layout (y ∷ ys)) number, length-record_text layout.order step payload)

pub end_push : (before : ℕ) (xs : List ItemData) (x : ItemData) → end_from before (xs ++ x ∷ []) ≡ item_time x
end_push before [] x = refl
end_push before (y ∷ ys) x = end_push (item_time y) ys x

-- what the rule on items says of a further one
abbrev pub told_fill : Layout → List ItemData → Option Fill
told_fill layout xs = cond (one_page layout xs) (fill_of layout xs) None

pub alone_len : (layout : Layout) (x : ItemData) → opened layout x ≡ record { time = item_time x; used = length (data_text layout (x ∷ [])) }
unfolding opened records_text record_text
alone_len layout (EventAt time payload) =
    let none : time - time ≡ 0 = omega arith in
    let len : length (data_text layout (EventAt time payload ∷ [])) ≡ event_len (length payload) =
    rw (append-nil, append-nil, none) (length-event_text layout.order 0 payload) in
    rw len refl
alone_len layout (LossAt time count) = rw (length-number_text layout time count []) refl

gone_on_is : (layout : Layout) (y : ItemData) (ys : List ItemData) (fill : Fill) (x : ItemData) → follow (item_time y) ys ≡ true → fill.time ≡ end_from (item_time y) ys → fill.used ≡ length (data_text layout (y ∷ ys)) → gone_on layout fill x ≡ told_fill layout (y ∷ ys ++ x ∷ [])
unfolding gone_on
gone_on_is layout y ys fill (EventAt time payload) f at len =
    let more = data_len layout y ys time payload in
    rw (at, len, follow_push (item_time y) ys time payload f, more, end_push (item_time y) ys (EventAt time payload)) (search rules)
gone_on_is layout y ys fill (LossAt time count) f at len = rw (follow_loss (item_time y) ys time count) refl

pub filled_is : (layout : Layout) (held : List ItemData) (x : ItemData) → one_page layout held ≡ true → one_page layout (x ∷ []) ≡ true → filled layout (fill_of layout held) x ≡ told_fill layout (held ++ x ∷ [])
unfolding filled
filled_is layout [] x one alone = ap (λ (fill : Fill). Some fill) (alone_len layout x) ∙ sym (rw alone refl)
filled_is layout (y ∷ ys) x one alone =
    let p = and_parts (follow (item_time y) ys) (leb (length (data_text layout (y ∷ ys))) (area_len layout)) one in
    gone_on_is layout y ys (record { time = end_from (item_time y) ys; used = length (data_text layout (y ∷ ys)) }) x p.0 refl refl

-- the record of an event is no shorter than its payload
event_len_least : (n : ℕ) → n ≤ event_len n
unfolding event_len
event_len_least n = elim (cases_Bool (is_short n)) [
  | inl s ↦ rw s (omega arith)
  | inr s ↦ rw s (omega arith)
]

pub alone_room : (layout : Layout) (x : ItemData) → IsPackable layout x → (opened layout x).used ≤ area_len layout
alone_room layout x ok =
    let p = and_parts (follow (item_time x) []) (leb (length (data_text layout (x ∷ []))) (area_len layout)) ok.alone in
    rw (alone_len layout x) (leb-true _ _ p.1)

pub payload_few : (layout : Layout) (time : ℕ) (payload : List ℕ) → IsPackable layout (EventAt time payload) → length payload ≤ 262144
unfolding opened
payload_few layout time payload ok = omega (arith, alone_room layout (EventAt time payload) ok, event_len_least (length payload), (carried layout).page_most)

pub opened_small : (layout : Layout) (x : ItemData) → IsPackable layout x → (opened layout x).used ≤ 262144
opened_small layout x ok = omega (arith, alone_room layout x ok, (carried layout).page_most)

-- the two answers, for the items of the numbers
pub added_in : (layout : Layout) (fill : Option Fill) (held : List ItemData) (x : ItemData) (now : Fill) → IsFill layout fill held → one_page layout (x ∷ []) ≡ true → Some now ≡ filled layout fill x
    → (one_page layout (held ++ x ∷ []) ≡ true) × IsFill layout (Some now) (held ++ x ∷ [])
added_in layout fill held x now is alone e =
    let told : Some now ≡ told_fill layout (held ++ x ∷ []) = e ∙ ap (λ (f : Option Fill). filled layout f x) is.fill_is ∙ filled_is layout held x is.one alone in
    elim (cases_Bool (one_page layout (held ++ x ∷ []))) [
      | inl yes_one ↦ (yes_one, record { one = yes_one; fill_is = told ∙ rw yes_one refl })
      | inr not_one ↦ let never : Some now ≡ None = told ∙ rw not_one refl in absurd cc
    ]

some_fill : (layout : Layout) (held : List ItemData) (x : ItemData) → fill_of layout (held ++ x ∷ []) ≡ None → ⊥
some_fill layout [] x e = absurd cc
some_fill layout (y ∷ ys) x e = absurd cc

pub full_now : (layout : Layout) (fill : Option Fill) (held : List ItemData) (x : ItemData) → IsFill layout fill held → one_page layout (x ∷ []) ≡ true → None ≡ filled layout fill x
    → (one_page layout (held ++ x ∷ []) ≡ false) × IsFill layout fill held
full_now layout fill held x is alone e =
    let told : None ≡ told_fill layout (held ++ x ∷ []) = e ∙ ap (λ (f : Option Fill). filled layout f x) is.fill_is ∙ filled_is layout held x is.one alone in
    elim (cases_Bool (one_page layout (held ++ x ∷ []))) [
      | inl yes_one ↦ absurd (some_fill layout held x (sym (told ∙ rw yes_one refl)))
      | inr not_one ↦ (not_one, is)
    ]

pub event_len-short : (n : ℕ) → is_short n ≡ true → event_len n ≡ 4 + n
unfolding event_len
event_len-short n s = rw s refl

pub event_len-long : (n : ℕ) → is_short n ≡ false → event_len n ≡ 8 + round4 n
unfolding event_len
event_len-long n s = rw s refl

pub record_len-near : (step n : ℕ) → step < 2 ^ 27 → record_len step n ≡ event_len n
unfolding record_len
record_len-near step n near = let b : ltb step (2 ^ 27) ≡ true = lt-ltb _ _ near in rw b refl
