-- What is read at the front of bytes is what was put there.
use Rattle.std.proofs.Common.{◌≡◌, ℕ, ◌<◌, ◌≤◌, true, false, ltb, List, ◌++◌, length, take, drop, None, Some, refl, arith}
use Rattle.std.proofs.lemmas.Bool.{le-ltb, lt-ltb}
use Rattle.std.proofs.lemmas.List.{take_at, drop_at, length-append}
use Rattle.trace_base.specs.declared.order.Order.{Order}
use Rattle.trace_base.specs.Number.{num, bytes_of}
use Rattle.dat_options.specs.Front.{leading_piece, leading_number}
use Rattle.dat_options.proofs.Numbers.{limit, length-bytes_of, num_again}

pub piece_again : (size : ℕ) (piece rest : List ℕ) → length piece ≡ size → leading_piece size (piece ++ rest) ≡ Some (piece, rest)
unfolding leading_piece
piece_again size piece rest long =
    let enough : ltb (length (piece ++ rest)) size ≡ false = le-ltb _ _ (omega (arith, length-append piece rest)) in
    rw (enough, take_at piece rest size long, drop_at piece rest size long) refl

pub number_again : (order : Order) (width n : ℕ) (rest : List ℕ) → n < limit width → leading_number order width (bytes_of order width n ++ rest) ≡ Some (n, rest)
unfolding leading_number
number_again order width n rest few = rw (piece_again width (bytes_of order width n) rest (length-bytes_of order width n), num_again order width n few) refl

pub piece_short : (size : ℕ) (bytes : List ℕ) → length bytes < size → leading_piece size bytes ≡ None
unfolding leading_piece
piece_short size bytes short =
    let few : ltb (length bytes) size ≡ true = lt-ltb _ _ short in
    rw few refl

pub number_short : (order : Order) (width : ℕ) (bytes : List ℕ) → length bytes < width → leading_number order width bytes ≡ None
unfolding leading_number
number_short order width bytes short = rw (piece_short width bytes short) refl

pub number_long : (order : Order) (width : ℕ) (bytes : List ℕ) → width ≤ length bytes → leading_number order width bytes ≡ Some (num order (take width bytes), drop width bytes)
unfolding leading_number leading_piece
number_long order width bytes long =
    let enough : ltb (length bytes) width ≡ false = le-ltb _ _ long in
    rw enough refl
