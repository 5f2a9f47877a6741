-- What a buffer holds after one read after another.
use Rattle.std.proofs.Common.{◌≡◌, ℕ, ◌+◌, ◌≤◌, length, arith, List, ◌++◌, take, drop, Option, None, Some, sym, ap, ◌∙◌}
use Rattle.std.proofs.lemmas.List.{take_at, drop_at, take-append-le, length-take, drop-drop}
use Rattle.std.proofs.Math.Seq.{take-add}
use borrow.Rule.Slice.PartMut.{put_mid, post_of}
use Rattle.trace_outside.specs.Reading.{GivesBytesAt}

take-put_mid_front : (done room count : ℕ) (buffer fresh : List ℕ) → done ≤ length buffer → count ≤ length fresh
    → take (done + count) (put_mid done room buffer fresh) ≡ take done buffer ++ take count fresh
take-put_mid_front done room count buffer fresh within few =
    take-add done count (put_mid done room buffer fresh)
    ∙ ap (λ front. front ++ take count (drop done (put_mid done room buffer fresh))) (take_at (take done buffer) (fresh ++ post_of done room buffer) done long)
    ∙ ap (λ back. take done buffer ++ take count back) (drop_at (take done buffer) (fresh ++ post_of done room buffer) done long)
    ∙ ap (λ back. take done buffer ++ back) (take-append-le count fresh (post_of done room buffer) few)
  where
    long : length (take done buffer) ≡ done
    long = rw (length-take done buffer) (omega arith)

-- the next bytes of a range, after those that are there
pub given_more : (told : Option (List ℕ)) (at done count room : ℕ) (buffer fresh : List ℕ) → done ≤ length buffer → count ≤ length fresh
    → GivesBytesAt told at done buffer → GivesBytesAt told (at + done) count fresh → GivesBytesAt told at (done + count) (put_mid done room buffer fresh)
given_more None at done count room buffer fresh within few one two = tt
given_more (Some bytes) at done count room buffer fresh within few one two =
    take-put_mid_front done room count buffer fresh within few
    ∙ ap (λ front. front ++ take count fresh) one
    ∙ ap (λ back. take done (drop at bytes) ++ back) (two ∙ ap (take count) (sym (drop-drop done at bytes)))
    ∙ sym (take-add done count (drop at bytes))
