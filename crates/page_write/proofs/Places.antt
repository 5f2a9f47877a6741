-- A piece that was put into bytes is found at its place, and every other place is as it was.
use Rattle.std.proofs.Common.{◌≡◌, ℕ, ◌+◌, ◌-◌, ◌≤◌, List, ◌++◌, length, take, drop, refl, sym, ap, ◌∙◌, ◌⊎◌, inl, inr, append_assoc, arith}
use Rattle.std.proofs.lemmas.List.{length-append, length-take-le, length-drop, take_at, drop_at, take-take, take-append-le, drop-drop, drop-take}
use Rattle.trace_base.specs.declared.order.Order.{Order}
use Rattle.trace_base.specs.Number.{bytes_of}
use Rattle.page_write.specs.PageBytes.{put_at}
use Rattle.page_write.proofs.Numbers.{length-bytes_of}

pub length-put_at : (at : ℕ) (piece bytes : List ℕ) → at + length piece ≤ length bytes → length (put_at at piece bytes) ≡ length bytes
unfolding put_at
length-put_at at piece bytes fits =
    let rest = drop (at + length piece) bytes in
    let front : length (take at bytes) ≡ at = length-take-le at bytes (omega arith) in
    omega (arith, length-append (take at bytes) (piece ++ rest), length-append piece rest, front, length-drop (at + length piece) bytes)

pub found_at : (at : ℕ) (piece bytes : List ℕ) (k : ℕ) → length piece ≡ k → at + k ≤ length bytes → take k (drop at (put_at at piece bytes)) ≡ piece
unfolding put_at
found_at at piece bytes k long fits =
    let rest = drop (at + length piece) bytes in
    let front : length (take at bytes) ≡ at = length-take-le at bytes (omega arith) in
    rw (drop_at (take at bytes) (piece ++ rest) at front) (take_at piece rest k long)

-- a part in front of the piece
before_at : (at : ℕ) (piece bytes : List ℕ) (a k : ℕ) → at + length piece ≤ length bytes → a + k ≤ at → take k (drop a (put_at at piece bytes)) ≡ take k (drop a bytes)
unfolding put_at
before_at at piece bytes a k fits apart =
    let rest = piece ++ drop (at + length piece) bytes in
    let front : length (take at bytes) ≡ at = length-take-le at bytes (omega arith) in
    sym (drop-take a k (take at bytes ++ rest))
    ∙ ap (drop a) (take-append-le (a + k) (take at bytes) rest (omega arith) ∙ take-take (a + k) at bytes apart)
    ∙ drop-take a k bytes

-- a part after it
behind_at : (at : ℕ) (piece bytes : List ℕ) (a k : ℕ) → at + length piece ≤ length bytes → at + length piece ≤ a → take k (drop a (put_at at piece bytes)) ≡ take k (drop a bytes)
unfolding put_at
behind_at at piece bytes a k fits apart =
    let past = at + length piece in
    let rest = drop past bytes in
    let front : length (take at bytes) ≡ at = length-take-le at bytes (omega arith) in
    let both : length (take at bytes ++ piece) ≡ past = omega (arith, length-append (take at bytes) piece, front) in
    let sum : past + (a - past) ≡ a = omega arith in
    ap (take k)
    (ap (λ (n : ℕ). drop n (take at bytes ++ (piece ++ rest))) (sym sum)
    ∙ sym (drop-drop (a - past) past (take at bytes ++ (piece ++ rest)))
    ∙ ap (drop (a - past)) (ap (drop past) (sym (append_assoc (take at bytes) piece rest)) ∙ drop_at (take at bytes ++ piece) rest past both)
    ∙ drop-drop (a - past) past bytes
    ∙ ap (λ (n : ℕ). drop n bytes) sum)

pub other_at : (at : ℕ) (piece bytes : List ℕ) (a k : ℕ) → at + length piece ≤ length bytes → (a + k ≤ at) ⊎ (at + length piece ≤ a) → take k (drop a (put_at at piece bytes)) ≡ take k (drop a bytes)
other_at at piece bytes a k fits (inl apart) = before_at at piece bytes a k fits apart
other_at at piece bytes a k fits (inr apart) = behind_at at piece bytes a k fits apart

-- the same in a front, whatever follows it
pub in_front : (front back : List ℕ) (a k : ℕ) → a + k ≤ length front → take k (drop a (front ++ back)) ≡ take k (drop a front)
in_front front back a k inside =
    sym (drop-take a k (front ++ back)) ∙ ap (drop a) (take-append-le (a + k) front back inside) ∙ drop-take a k front

-- a piece over the rest of the bytes
pub put_behind : (at : ℕ) (bytes piece : List ℕ) (k : ℕ) → length piece ≡ k → take at bytes ++ (piece ++ drop k (drop at bytes)) ≡ put_at at piece bytes
unfolding put_at
put_behind at bytes piece k long = rw (drop-drop, long) refl

-- one piece after another
pub put_more : (at : ℕ) (first second bytes : List ℕ) → at + length first ≤ length bytes → put_at (at + length first) second (put_at at first bytes) ≡ put_at at (first ++ second) bytes
unfolding put_at
put_more at first second bytes fits =
    let past = at + length first in
    let rest = drop past bytes in
    let front = take at bytes ++ first in
    let same : take at bytes ++ (first ++ rest) ≡ front ++ rest = sym (append_assoc (take at bytes) first rest) in
    let long : length front ≡ past = omega (arith, length-append (take at bytes) first, length-take-le at bytes (omega arith)) in
    let begin : take past (front ++ rest) ≡ front = take_at front rest past long in
    let end : drop (past + length second) (front ++ rest) ≡ drop (length second) rest = sym (drop-drop (length second) past (front ++ rest)) ∙ ap (drop (length second)) (drop_at front rest past long) in
    let more : drop (length second) rest ≡ drop (past + length second) bytes = drop-drop (length second) past bytes in
    let sum : past + length second ≡ at + length (first ++ second) = omega (arith, length-append first second) in
    ap (λ (t : List ℕ). take past t ++ (second ++ drop (past + length second) t)) same
    ∙ ap (λ (t : List ℕ). t ++ (second ++ drop (past + length second) (front ++ rest))) begin
    ∙ ap (λ (t : List ℕ). front ++ (second ++ t)) (end ∙ more ∙ ap (λ (n : ℕ). drop n bytes) sum)
    ∙ append_assoc (take at bytes) first (second ++ drop (at + length (first ++ second)) bytes)
    ∙ ap (λ (t : List ℕ). take at bytes ++ t) (sym (append_assoc first second (drop (at + length (first ++ second)) bytes)))

pub put_number : (order : Order) (at : ℕ) (bytes : List ℕ) (k size value : ℕ) → size ≡ k → take at bytes ++ (bytes_of order k value ++ drop k (drop at bytes)) ≡ put_at at (bytes_of order size value) bytes
put_number order at bytes k size value is = rw is (put_behind at bytes (bytes_of order k value) k (length-bytes_of order k value))

pub other_size : (size : ℕ) → (size ≡ 4) ⊎ (size ≡ 8) → (size ≡ 4 → ⊥) → size ≡ 8
other_size size (inl four) never = absurd (never four)
other_size size (inr eight) never = eight

pub put_next : (at place : ℕ) (first second bytes : List ℕ) → place ≡ at + length first → place ≤ length bytes → put_at place second (put_at at first bytes) ≡ put_at at (first ++ second) bytes
put_next at place first second bytes is fits = rw is (put_more at first second bytes (omega arith))
