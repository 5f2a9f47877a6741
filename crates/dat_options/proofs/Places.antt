-- A text at a place of a file, seen from that place on.
use Rattle.std.proofs.Common.{◌≡◌, ℕ, ◌+◌, ◌≤◌, List, ◌++◌, length, take, drop, Option, None, Some, sym, ap, ◌∙◌, IfSome, arith}
use Rattle.std.proofs.lemmas.List.{drop_at, take_all, length-append, length-take, take-append-drop, drop-drop}
use Rattle.std.proofs.Math.Seq.{take-add}
use Rattle.trace_outside.specs.Reading.{GivesBytesAt}
use Rattle.dat_options.specs.Place.{StandsAt, GoesOnWith}

pub stands_inside : (text : List ℕ) (at : ℕ) (bytes : List ℕ) (s : StandsAt text at bytes) → length bytes ≡ at + length text + length s.back
stands_inside text at bytes s =
    let whole : length bytes ≡ length (s.front ++ (text ++ s.back)) = ap length s.whole in
    omega (arith, whole, length-append s.front (text ++ s.back), length-append text s.back, s.place)

pub stands_behind : (text : List ℕ) (at : ℕ) (bytes : List ℕ) (s : StandsAt text at bytes) → drop at bytes ≡ text ++ s.back
stands_behind text at bytes s = ap (drop at) s.whole ∙ drop_at s.front (text ++ s.back) at s.place

-- what goes on with a text is the text, and then the bytes after it
pub goes_on : (text : List ℕ) (at : ℕ) (bytes : List ℕ) → GoesOnWith text at bytes → drop at bytes ≡ text ++ drop (at + length text) bytes
goes_on text at bytes on =
    sym (take-append-drop (length text) (drop at bytes))
    ∙ ap (λ front. front ++ drop (length text) (drop at bytes)) on
    ∙ ap (λ back. text ++ back) (drop-drop (length text) at bytes)

pub goes_on_more : (one two : List ℕ) (at : ℕ) (bytes : List ℕ) → GoesOnWith one at bytes → GoesOnWith two (at + length one) bytes → GoesOnWith (one ++ two) at bytes
goes_on_more one two at bytes first then =
    ap (λ count. take count (drop at bytes)) (length-append one two)
    ∙ take-add (length one) (length two) (drop at bytes)
    ∙ ap (λ front. front ++ take (length two) (drop (length one) (drop at bytes))) first
    ∙ ap (λ back. one ++ back) (ap (take (length two)) (drop-drop (length one) at bytes) ∙ then)

pub stands_from : (text : List ℕ) (at : ℕ) (bytes : List ℕ) → at + length text ≤ length bytes → GoesOnWith text at bytes → StandsAt text at bytes
stands_from text at bytes inside on = record {
  front = take at bytes;
  back = drop (at + length text) bytes;
  whole = sym (take-append-drop at bytes) ∙ ap (λ back. take at bytes ++ back) (goes_on text at bytes on);
  place = omega (arith, length-take at bytes);
}

-- a whole buffer that was filled
pub given_goes_on : (told : Option (List ℕ)) (at count : ℕ) (buffer : List ℕ) → length buffer ≡ count → GivesBytesAt told at count buffer → IfSome told (λ bytes. GoesOnWith buffer at bytes)
given_goes_on None at count buffer long given = tt
given_goes_on (Some bytes) at count buffer long given =
    ap (λ n. take n (drop at bytes)) long ∙ sym given ∙ take_all count buffer (omega arith)
