use Rattle.std.proofs.Common.{rules, arith, ◌≡◌, length, subst, ℕ}
use Rattle.trace_outside.proofs.Keeping.{file_kept, sink_kept}
use Rattle.trace_outside.specs.Copies.{Copied}
use Rattle.trace_outside.proofs.Copying.{copied_to, copy_stopped_at}
use Rattle.trace_outside.proofs.copies.copy_rest.Goals as goal

pub returns-in_err-copy_piece-clause-copies : goal.returns-in_err-copy_piece-clause-copies
returns-in_err-copy_piece-clause-copies g c =
    let long : length c.copy_piece.new.piece ≡ c.min-count.result = search rules in
    copy_stopped_at _ _ _ c.loop-place.place (length c.copy_piece.new.piece) _ _ _ _ c.from_residual.result c.loop-place.invariant.above (omega arith)
    c.loop-place.invariant.keeps.bytes c.from_residual.ensures.0 c.loop-place.invariant.copied c.in_err-copy_piece.ensures.copies

pub loop-place-preserved : goal.loop-place-preserved
loop-place-preserved g c =
    let long : length c.copy_piece.new.piece ≡ c.min-count.result = search rules in
    record {
      above = omega arith;
      below = omega arith;
      copied = subst (λ (n : ℕ). Copied (g.F.File.bytes c.args.file.now) c.args.at n (g.O.Sink.written c.args.out.now) (g.O.Sink.written c.copy_piece.new.out)) (omega arith)
          (copied_to _ _ _ c.loop-place.place (length c.copy_piece.new.piece) _ _ _ c.loop-place.invariant.above c.loop-place.invariant.keeps.bytes c.loop-place.invariant.copied c.in_ok-copy_piece.ensures.copies);
      reads = omega (arith, c.in_ok-copy_piece.ensures.reads, c.loop-place.invariant.reads);
      keeps = file_kept c.loop-place.invariant.keeps c.in_ok-copy_piece.ensures.keeps;
      keeps_out = sink_kept c.loop-place.invariant.keeps_out c.in_ok-copy_piece.ensures.keeps_out;
    }
