use Rattle.std.proofs.Common.{◌≡◌, ◌++◌, IfSome}
use Rattle.text_lines.specs.Lines.{lines_of, lines_left}
use Rattle.text_lines.proofs.Splits.{lines_long}
use Rattle.symbols.specs.Names.{spots_view, AreWithin, EndsWith}
use Rattle.symbols.specs.Forms.{pairs_in}
use Rattle.symbols.proofs.read.spots_in.Given as goal

abbrev pub invariant-loop-left : goal.invariant-loop-left
invariant-loop-left l = record {
  inside : AreWithin l.fn.text l.spots.items;
  ends : IfSome l.left (λ lines. EndsWith l.fn.text lines.now);
  left_is : spots_view l.fn.text l.spots.items ++ pairs_in l.fn.form (lines_left l.left) ≡ pairs_in l.fn.form (lines_of l.fn.text);
}

abbrev pub decreases-loop-left : goal.decreases-loop-left
decreases-loop-left l = lines_long l.left
