-- An event's pieces, put one after another.
use Rattle.std.proofs.Common.{◌≡◌, ℕ, ◌+◌, ◌-◌, ◌/◌, ◌%◌, ◌^◌, ◌<◌, ◌≤◌, true, false, ltb, List, ◌++◌, length, refl, ap, ◌∙◌, append_assoc, arith}
use Rattle.std.proofs.lemmas.List.{length-append}
use Rattle.std.proofs.lemmas.Bool.{lt-ltb, le-ltb}
use Rattle.trace_base.specs.declared.order.Order.{Order}
use Rattle.trace_base.specs.Number.{bytes_of}
use Rattle.subpage.specs.Element.{round4}
use Rattle.page_write.specs.Record.{zeros, is_short, first_word, event_text, extend_text, record_text}
use Rattle.page_write.specs.PageBytes.{put_at}
use Rattle.page_write.proofs.Numbers.{length-bytes_of}
use Rattle.page_write.proofs.Places.{put_next}
use Rattle.page_write.proofs.Filling.{length-first_word, length-extend_text}

pub put_short : (order : Order) (delta : ℕ) (payload : List ℕ) (at : ℕ) (bytes : List ℕ) → is_short (length payload) ≡ true → at + 4 ≤ length bytes
    → put_at (at + 4) payload (put_at at (first_word order (length payload / 4) delta) bytes) ≡ put_at at (event_text order delta payload) bytes
unfolding event_text
put_short order delta payload at bytes short fits =
    let first = first_word order (length payload / 4) delta in
    let long = length-first_word order (length payload / 4) delta in
    rw short (put_next at (at + 4) first payload bytes (omega (arith, long)) fits)

-- four pieces
put_four : (at : ℕ) (a b c d bytes : List ℕ) (second third fourth : ℕ) → second ≡ at + length a → third ≡ second + length b → fourth ≡ third + length c → fourth ≤ length bytes
    → put_at fourth d (put_at third c (put_at second b (put_at at a bytes))) ≡ put_at at (a ++ (b ++ (c ++ d))) bytes
put_four at a b c d bytes second third fourth p q r fits =
    let ab : length (a ++ b) ≡ length a + length b = length-append a b in
    let abc : length ((a ++ b) ++ c) ≡ length (a ++ b) + length c = length-append (a ++ b) c in
    ap (λ (t : List ℕ). put_at fourth d (put_at third c t)) (put_next at second a b bytes p (omega (arith, q, r, fits)))
    ∙ ap (put_at fourth d) (put_next at third (a ++ b) c bytes (omega (arith, p, q, ab)) (omega (arith, r, fits)))
    ∙ put_next at fourth ((a ++ b) ++ c) d bytes (omega (arith, p, q, r, ab, abc)) fits
    ∙ ap (λ (t : List ℕ). put_at at t bytes) (append_assoc (a ++ b) c d ∙ append_assoc a b (c ++ d))

pub put_long_event : (order : Order) (delta : ℕ) (payload : List ℕ) (at : ℕ) (bytes : List ℕ) → is_short (length payload) ≡ false → at + 8 + length payload ≤ length bytes
    → put_at (at + 8 + length payload) (zeros (round4 (length payload) - length payload)) (put_at (at + 8) payload (put_at (at + 4) (bytes_of order 4 (length payload + 4)) (put_at at (first_word order 0 delta) bytes))) ≡ put_at at (event_text order delta payload) bytes
unfolding event_text
put_long_event order delta payload at bytes long fits =
    let n = length payload in
    let first = first_word order 0 delta in
    let second = bytes_of order 4 (n + 4) in
    let four = length-first_word order 0 delta in
    let more = length-bytes_of order 4 (n + 4) in
    rw long (put_four at first second payload (zeros (round4 n - n)) bytes (at + 4) (at + 8) (at + 8 + n) (omega (arith, four)) (omega (arith, more)) refl fits)

pub put_extend_text : (order : Order) (delta : ℕ) (at : ℕ) (bytes : List ℕ) → at + 4 ≤ length bytes
    → put_at (at + 4) (bytes_of order 4 (delta / 2 ^ 27)) (put_at at (first_word order 30 (delta % 2 ^ 27)) bytes) ≡ put_at at (extend_text order delta) bytes
unfolding extend_text
put_extend_text order delta at bytes fits =
    put_next at (at + 4) (first_word order 30 (delta % 2 ^ 27)) (bytes_of order 4 (delta / 2 ^ 27)) bytes (omega (arith, length-first_word order 30 (delta % 2 ^ 27))) fits

pub near_text : (order : Order) (step : ℕ) (payload : List ℕ) → step < 2 ^ 27 → event_text order step payload ≡ record_text order step payload
unfolding record_text
near_text order step payload near =
    let is_near : ltb step (2 ^ 27) ≡ true = lt-ltb _ _ near in
    rw is_near refl

pub length-far_text : (order : Order) (step : ℕ) (payload : List ℕ) → 2 ^ 27 ≤ step → length (record_text order step payload) ≡ 8 + length (event_text order 0 payload)
unfolding record_text
length-far_text order step payload far =
    let not_near : ltb step (2 ^ 27) ≡ false = le-ltb _ _ far in
    rw not_near (omega (arith, length-append (extend_text order step) (event_text order 0 payload), length-extend_text order step))

pub put_far : (order : Order) (step : ℕ) (payload : List ℕ) (at : ℕ) (bytes : List ℕ) → 2 ^ 27 ≤ step → at + 8 ≤ length bytes
    → put_at (at + 8) (event_text order 0 payload) (put_at at (extend_text order step) bytes) ≡ put_at at (record_text order step payload) bytes
unfolding record_text
put_far order step payload at bytes far fits =
    let not_near : ltb step (2 ^ 27) ≡ false = le-ltb _ _ far in
    rw not_near (put_next at (at + 8) (extend_text order step) (event_text order 0 payload) bytes (omega (arith, length-extend_text order step)) fits)
