-- What the pieces of an option say of it, as far as they were read.
use Rattle.std.proofs.Common.{◌≡◌, ◌≢◌, ℕ, ◌+◌, ◌^◌, ◌<◌, ◌≤◌, List, ◌++◌, length, drop, Option, None, Some, Result, Ok, Err, IfSome, refl, sym, ap, subst, ◌∙◌, arith}
use Rattle.std.proofs.lemmas.List.{length-append, length-drop}
use Rattle.trace_base.specs.declared.order.Order.{Order}
use Rattle.trace_base.specs.Number.{bytes_of}
use Rattle.trace_outside.specs.Reading.{GivesBytesAt}
use Rattle.dat_options.specs.declared.option.Opt.{Opt}
use Rattle.trace_outside.specs.declared.piece.PieceFault.{PieceFault}
use Rattle.trace_outside.specs.declared.piece.PieceFault.TheVariants.{EndsEarly, Read, Memory}
use Rattle.dat_options.specs.Place.{GoesOnWith}
use Rattle.dat_options.specs.Answer.{fault_of_piece}
use Rattle.trace_outside.specs.Piece.{FillsFrom, GivesPiece}
use Rattle.dat_options.specs.Options.{option_text, option_behind, option_at}
use Rattle.dat_options.specs.OneOption.{ReadsFirst}
use Rattle.dat_options.proofs.Numbers.{length-bytes_of}
use Rattle.dat_options.proofs.Fronts.{piece_short, number_short, number_again}
use Rattle.dat_options.proofs.Places.{goes_on, goes_on_more, given_goes_on}
use Rattle.dat_options.proofs.OptionsLaws.{id_again}

-- the file, seen from a place on: what was read there, as a text
abbrev pub HoldsAt : Option (List ℕ) → ℕ → List ℕ → Type 0
HoldsAt told at text = IfSome told (λ bytes. GoesOnWith text at bytes)

-- a fault other than the file's end needs no more
pub faulty : (order : Order) (told : Option (List ℕ)) (size at : ℕ) (fault : PieceFault) (buffer : List ℕ) (place : ℕ)
    → (size < place + length buffer → IfSome told (λ bytes. option_at order (drop at bytes) ≡ None))
    → FillsFrom told size place (Err fault) buffer → ReadsFirst order told size at (Err (fault_of_piece fault))
faulty order told size at (EndsEarly end) buffer place short filled = (filled.0, short filled.1)
faulty order told size at Read buffer place short filled = tt
faulty order told size at Memory buffer place short filled = absurd filled

pub faulty_piece : (order : Order) (told : Option (List ℕ)) (size at : ℕ) (fault : PieceFault) (count place : ℕ)
    → (size < place + count → IfSome told (λ bytes. option_at order (drop at bytes) ≡ None))
    → GivesPiece told size place count (Err fault) → ReadsFirst order told size at (Err (fault_of_piece fault))
faulty_piece order told size at (EndsEarly end) count place short given = (given.0, short given.1)
faulty_piece order told size at Read count place short given = tt
faulty_piece order told size at Memory count place short given = tt

-- no room for an id
pub no_id : (order : Order) (told : Option (List ℕ)) (size at : ℕ) → IfSome told (λ bytes. length bytes ≡ size) → size < at + 2
    → IfSome told (λ bytes. option_at order (drop at bytes) ≡ None)
unfolding option_at
no_id order None size at whole short = tt
no_id order (Some bytes) size at whole short = rw (number_short order 2 (drop at bytes) (omega (arith, whole, short, length-drop at bytes))) refl

-- an id, and no room for a size
pub no_size : (order : Order) (told : Option (List ℕ)) (size at id : ℕ) → IfSome told (λ bytes. length bytes ≡ size)
    → id ≢ 0 → id < 2 ^ 16 → HoldsAt told at (bytes_of order 2 id) → size < at + 2 + 4
    → IfSome told (λ bytes. option_at order (drop at bytes) ≡ None)
unfolding option_behind
no_size order None size at id whole some fits on short = tt
no_size order (Some bytes) size at id whole some fits on short =
    let rest = drop (at + length (bytes_of order 2 id)) bytes in
    let few : length rest < 4 = omega (arith, whole, short, length-bytes_of order 2 id, length-drop (at + length (bytes_of order 2 id)) bytes) in
    ap (option_at order) (goes_on (bytes_of order 2 id) at bytes on) ∙ id_again order id rest some fits ∙ rw (number_short order 4 rest few) refl

-- an id and a size, and no room for so many bytes
pub no_content : (order : Order) (told : Option (List ℕ)) (size at id count : ℕ) → IfSome told (λ bytes. length bytes ≡ size)
    → id ≢ 0 → id < 2 ^ 16 → count < 2 ^ 32 → HoldsAt told at (bytes_of order 2 id) → HoldsAt told (at + 2) (bytes_of order 4 count) → at + 6 ≤ size → size < at + 6 + count
    → IfSome told (λ bytes. option_at order (drop at bytes) ≡ None)
unfolding option_behind
no_content order None size at id count whole some fits small on then room short = tt
no_content order (Some bytes) size at id count whole some fits small on then room short =
    let two = bytes_of order 2 id in
    let four = bytes_of order 4 count in
    let place : at + length two ≡ at + 2 = omega (arith, length-bytes_of order 2 id) in
    let rest = drop (at + 2 + length four) bytes in
    let few : length rest < count = omega (arith, whole, short, length-bytes_of order 4 count, length-drop (at + 2 + length four) bytes) in
    let behind : option_behind order id (four ++ rest) ≡ None = rw (number_again order 4 count rest small, piece_short count rest few) refl in
    ap (option_at order) (goes_on two at bytes on) ∙ id_again order id (drop (at + length two) bytes) some fits
    ∙ ap (λ n. option_behind order id (drop n bytes)) place
    ∙ ap (option_behind order id) (goes_on four (at + 2) bytes then) ∙ behind

pub holds_more : (told : Option (List ℕ)) (at place : ℕ) (one two : List ℕ) → HoldsAt told at one → HoldsAt told place two → place ≡ at + length one → HoldsAt told at (one ++ two)
holds_more None at place one two first then is = tt
holds_more (Some bytes) at place one two first then is = goes_on_more one two at bytes first (subst (λ (n : ℕ). GoesOnWith two n bytes) is then)

-- a whole option
pub option_holds : (order : Order) (told : Option (List ℕ)) (at id count : ℕ) (content : List ℕ) → length content ≡ count
    → HoldsAt told at (bytes_of order 2 id) → HoldsAt told (at + 2) (bytes_of order 4 count) → HoldsAt told (at + 6) content
    → HoldsAt told at (option_text order (record { id = id; bytes = content }))
option_holds order told at id count content long one two three =
    let two' : HoldsAt told (at + 2) (bytes_of order 4 (length content)) = subst (λ (n : ℕ). HoldsAt told (at + 2) (bytes_of order 4 n)) (sym long) two in
    holds_more told at (at + 2) (bytes_of order 2 id) (bytes_of order 4 (length content) ++ content) one
    (holds_more told (at + 2) (at + 6) (bytes_of order 4 (length content)) content two' three (omega (arith, length-bytes_of order 4 (length content))))
    (omega (arith, length-bytes_of order 2 id))

pub length-option_text : (order : Order) (option : Opt) → length (option_text order option) ≡ 6 + length option.bytes
length-option_text order option = omega (
  arith,
  length-append (bytes_of order 2 option.id) (bytes_of order 4 (length option.bytes) ++ option.bytes),
  length-append (bytes_of order 4 (length option.bytes)) option.bytes,
  length-bytes_of order 2 option.id,
  length-bytes_of order 4 (length option.bytes),
)

-- the buffer that was filled is the text of a number
pub filled_holds : (told other : Option (List ℕ)) (size at : ℕ) (buffer text : List ℕ) → other ≡ told → FillsFrom other size at (Ok tt) buffer → text ≡ buffer → HoldsAt told at text
filled_holds told other size at buffer text same filled is =
    subst (λ (t : List ℕ). HoldsAt told at t) (sym is) (subst (λ (o : Option (List ℕ)). HoldsAt o at buffer) same (given_goes_on other at (length buffer) buffer refl filled.1))

-- likewise the bytes that were given
pub given_holds : (told other : Option (List ℕ)) (at count : ℕ) (text : List ℕ) → other ≡ told → length text ≡ count → GivesBytesAt other at count text → HoldsAt told at text
given_holds told other at count text same long given = subst (λ (o : Option (List ℕ)). HoldsAt o at text) same (given_goes_on other at count text long given)

-- a read changes neither the file's bytes nor its size
pub fills_same : (told other : Option (List ℕ)) (size long place : ℕ) (result : Result Unit PieceFault) (buffer : List ℕ) → other ≡ told → long ≡ size
    → FillsFrom other long place result buffer → FillsFrom told size place result buffer
fills_same told other size long place result buffer same as_long filled =
    subst (λ (o : Option (List ℕ)). FillsFrom o size place result buffer) same (subst (λ (n : ℕ). FillsFrom other n place result buffer) as_long filled)

pub gives_same : (told other : Option (List ℕ)) (size long place count : ℕ) (result : Result (List ℕ) PieceFault) → other ≡ told → long ≡ size
    → GivesPiece other long place count result → GivesPiece told size place count result
gives_same told other size long place count result same as_long given =
    subst (λ (o : Option (List ℕ)). GivesPiece o size place count result) same (subst (λ (n : ℕ). GivesPiece other n place count result) as_long given)
