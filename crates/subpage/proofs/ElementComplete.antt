-- The element that bytes at the front spell is the one that is read.
use Rattle.std.proofs.Common.{◌≡◌, ℕ, ◌+◌, ◌-◌, ◌*◌, ◌^◌, ◌<◌, ◌≤◌, true, false, ltb, eqb, List, [], ◌++◌, length, Some, refl, sym, ap, ◌∙◌, append_assoc, arith}
use Rattle.std.proofs.lemmas.Bool.{le-ltb, lt-ltb, ne_eqb}
use Rattle.std.proofs.lemmas.List.{take_at, drop_at, length-append}
use Rattle.trace_base.specs.declared.order.Order.{Order}
use Rattle.subpage.specs.Element.{ElementData, Event, End, Discarded, Extend, Stamp, round4, IsWord, IsFirstWord, Row, short_event, long_event, end, discarded, extend, stamp}
use Rattle.subpage.specs.Reading.{word_at, counted_at, short_event_at, long_event_at, discarded_at, extend_at, stamp_at, rest_at, element_at}
use Rattle.subpage.proofs.ElementSound.{EndsAt}

word_again : (order : Order) (word : List ℕ) (n : ℕ) (rest : List ℕ) → IsWord order word n → word_at order (word ++ rest) ≡ Some (n, rest)
unfolding word_at
word_again order word n rest w =
    let four : length word ≡ 4 = w.four in
    let long : ltb (length (word ++ rest)) 4 ≡ false = le-ltb _ _ (omega (arith, length-append word rest)) in
    rw (long, take_at word rest 4 four, drop_at word rest 4 four, w.number_is) refl

-- the tests of a first word's kind
at_long : (order : Order) (delta : ℕ) (bytes : List ℕ) → rest_at order 0 delta bytes ≡ long_event_at order delta bytes
unfolding rest_at
at_long order delta bytes = refl

at_short : (order : Order) (kind delta : ℕ) (bytes : List ℕ) → 1 ≤ kind → kind ≤ 28 → rest_at order kind delta bytes ≡ short_event_at kind delta bytes
unfolding rest_at
at_short order kind delta bytes some few =
    let not0 : eqb kind 0 ≡ false = ne_eqb kind 0 (λ e. omega arith) in
    let below : ltb kind 29 ≡ true = lt-ltb kind 29 (omega arith) in
    rw (not0, below) refl

at_end : (order : Order) (bytes : List ℕ) → rest_at order 29 0 bytes ≡ Some (End, [])
unfolding rest_at
at_end order bytes = refl

at_discarded : (order : Order) (delta : ℕ) (bytes : List ℕ) → 0 < delta → rest_at order 29 delta bytes ≡ discarded_at order delta bytes
unfolding rest_at
at_discarded order delta bytes some =
    let not0 : eqb delta 0 ≡ false = ne_eqb delta 0 (λ e. omega arith) in
    rw not0 refl

at_extend : (order : Order) (delta : ℕ) (bytes : List ℕ) → rest_at order 30 delta bytes ≡ extend_at order delta bytes
unfolding rest_at
at_extend order delta bytes = refl

at_stamp : (order : Order) (delta : ℕ) (bytes : List ℕ) → rest_at order 31 delta bytes ≡ stamp_at order delta bytes
unfolding rest_at
at_stamp order delta bytes = refl

-- reading goes on after a first word
first_again : (order : Order) (first middle rest : List ℕ) (kind delta : ℕ) → IsFirstWord order first kind delta → element_at order ((first ++ middle) ++ rest) ≡ rest_at order kind delta (middle ++ rest)
unfolding element_at
first_again order first middle rest kind delta f =
    let w : IsWord order first _ = record { four = f.four; number_is = refl } in
    rw (append_assoc first middle rest, word_again order first _ (middle ++ rest) w, f.kind_is, f.delta_is) refl

short_again : (kind delta : ℕ) (payload rest : List ℕ) → length payload ≡ 4 * kind → short_event_at kind delta (payload ++ rest) ≡ Some (Event delta payload, rest)
unfolding short_event_at
short_again kind delta payload rest len =
    let long : ltb (length (payload ++ rest)) (4 * kind) ≡ false = le-ltb _ _ (omega (arith, length-append payload rest)) in
    rw (long, take_at payload rest (4 * kind) len, drop_at payload rest (4 * kind) len) refl

counted_again : (order : Order) (word counted : List ℕ) (n : ℕ) (rest : List ℕ) → IsWord order word n → 4 ≤ n → length counted ≡ round4 n - 4 → counted_at order ((word ++ counted) ++ rest) ≡ Some (n, counted, rest)
unfolding counted_at
counted_again order word counted n rest w least filled =
    let enough : ltb n 4 ≡ false = le-ltb _ _ least in
    let long : ltb (length (counted ++ rest)) (round4 n - 4) ≡ false = le-ltb _ _ (omega (arith, length-append counted rest)) in
    rw (append_assoc word counted rest, word_again order word n (counted ++ rest) w, enough, long, take_at counted rest (round4 n - 4) filled, drop_at counted rest (round4 n - 4) filled) refl

long_again : (order : Order) (delta : ℕ) (word payload padding : List ℕ) (n : ℕ) (rest : List ℕ) → IsWord order word n → 4 ≤ n → length payload ≡ n - 4 → length (payload ++ padding) ≡ round4 n - 4 → long_event_at order delta ((word ++ (payload ++ padding)) ++ rest) ≡ Some (Event delta payload, rest)
unfolding long_event_at
long_again order delta word payload padding n rest w least len filled =
    rw (counted_again order word (payload ++ padding) n rest w least filled, take_at payload padding (n - 4) len) refl

discarded_again : (order : Order) (delta : ℕ) (word content : List ℕ) (n : ℕ) (rest : List ℕ) → IsWord order word n → 4 ≤ n → length content ≡ round4 n - 4 → discarded_at order delta ((word ++ content) ++ rest) ≡ Some (Discarded delta, rest)
unfolding discarded_at
discarded_again order delta word content n rest w least filled = rw (counted_again order word content n rest w least filled) refl

extend_again : (order : Order) (low : ℕ) (word : List ℕ) (high : ℕ) (rest : List ℕ) → IsWord order word high → extend_at order low (word ++ rest) ≡ Some (Extend (low + high * 2 ^ 27), rest)
unfolding extend_at
extend_again order low word high rest w = rw (word_again order word high rest w) refl

stamp_again : (order : Order) (low : ℕ) (word : List ℕ) (high : ℕ) (rest : List ℕ) → IsWord order word high → low + high * 2 ^ 27 < 2 ^ 59 → stamp_at order low (word ++ rest) ≡ Some (Stamp (low + high * 2 ^ 27), rest)
unfolding stamp_at
stamp_again order low word high rest w small =
    let below : ltb (low + high * 2 ^ 27) (2 ^ 59) ≡ true = lt-ltb _ _ small in
    rw (word_again order word high rest w, below) refl

pub element_again : (order : Order) (e : ElementData) (front rest : List ℕ) → Row order e front → EndsAt e rest → element_at order (front ++ rest) ≡ Some (e, rest)
element_again order e front rest (short_event first payload kind delta f some few len) ends =
    first_again order first payload rest kind delta f ∙ at_short order kind delta (payload ++ rest) some few ∙ short_again kind delta payload rest len
element_again order e front rest (long_event first next payload padding delta n f w least len filled) ends =
    let middle = next ++ (payload ++ padding) in
    first_again order first middle rest 0 delta f ∙ at_long order delta (middle ++ rest) ∙ long_again order delta next payload padding n rest w least len filled
element_again order e front rest (end first padding f) ends =
    first_again order first padding rest 29 0 f ∙ at_end order (padding ++ rest) ∙ ap (λ (t : List ℕ). Some (End, t)) (sym (ends refl))
element_again order e front rest (discarded first next content delta n f some w least filled) ends =
    let middle = next ++ content in
    first_again order first middle rest 29 delta f ∙ at_discarded order delta (middle ++ rest) some ∙ discarded_again order delta next content n rest w least filled
element_again order e front rest (extend first next low high f w) ends =
    first_again order first next rest 30 low f ∙ at_extend order low (next ++ rest) ∙ extend_again order low next high rest w
element_again order e front rest (stamp first next low high f w small) ends =
    first_again order first next rest 31 low f ∙ at_stamp order low (next ++ rest) ∙ stamp_again order low next high rest w small
