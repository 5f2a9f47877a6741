-- One byte, put piece by piece.
use Rattle.std.proofs.Common.{◌≡◌, ℕ, ◌-◌, min, List, take, replicate, sym, ap, ◌∙◌, arith}
use Rattle.std.proofs.lemmas.List.{replicate-append-replicate, take-replicate}
use Rattle.trace_base.specs.Kept.{Kept, put}
use Rattle.trace_base.specs.TailView.{kept}
use Rattle.trace_base.specs.declared.tail.Tail.{Tail}
use Rattle.trace_base.proofs.TailJoins.{put_put, put_nothing}

pub repeat_more : (k now : Kept) (block : List ℕ) (left piece byte : ℕ) → block ≡ replicate 64 byte → piece ≡ min left 64 → now ≡ put k (take piece block) → put now (replicate (left - piece) byte) ≡ put k (replicate left byte)
repeat_more k now block left piece byte is_block is_piece is_now =
    ap (λ (m : Kept). put m (replicate (left - piece) byte)) (is_now ∙ ap (λ (b : List ℕ). put k (take piece b)) is_block ∙ ap (put k) (take-replicate piece 64 byte (omega arith)))
    ∙ put_put k (replicate piece byte) (replicate (left - piece) byte)
    ∙ ap (put k) (replicate-append-replicate piece (left - piece) byte ∙ ap (λ (n : ℕ). replicate n byte) (omega arith))

pub repeat_end : (t : Tail) (r : Kept) (left byte : ℕ) → left ≡ 0 → put (kept t) (replicate left byte) ≡ r → kept t ≡ r
repeat_end t r left byte none before = sym (put_nothing t) ∙ ap (λ (n : ℕ). put (kept t) (replicate n byte)) (sym none) ∙ before
