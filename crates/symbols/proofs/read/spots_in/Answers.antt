use Rattle.std.proofs.Common.{ℕ, List, Option, IfSome, ◌<◌, ◌++◌, ◌∙◌, sym, ap, subst}
use Rattle.text_lines.specs.Lines.{lines_left}
use Rattle.text_lines.proofs.Splits.{lines_long}
use denote.Ref.{Bor}
use Rattle.symbols.specs.Names.{spots_view, EndsWith}
use Rattle.symbols.specs.Forms.{pairs_in}
use Rattle.symbols.proofs.ReadLines.{ends_left, shorter_left, line_more}
use Rattle.symbols.proofs.read.spots_in.Goals as goal

pub loop-left-smaller : goal.loop-left-smaller
loop-left-smaller c =
    let put = c.in_ok-left.ensures.put in
    subst (λ (o : Option (Bor (List ℕ))). lines_long c.in_ok-left.left < lines_long o) (sym c.in-Some.is) (shorter_left c.in-Some.lines.now put.line c.in_ok-left.left put.split)

pub loop-left-preserved : goal.loop-left-preserved
loop-left-preserved c =
    let put = c.in_ok-left.ensures.put in
    let ends : EndsWith c.args.text.now c.in-Some.lines.now =
    subst (λ (o : Option (Bor (List ℕ))). IfSome o (λ lines. EndsWith c.args.text.now lines.now)) c.in-Some.is c.loop-left.invariant.ends in
    record {
      inside = c.in_ok-left.ensures.inside;
      ends = ends_left c.args.text.now c.in-Some.lines.now put.line c.in_ok-left.left ends put.split;
      left_is = line_more c.args.form c.in-Some.lines.now (lines_left c.in_ok-left.left) (spots_view c.args.text.now c.loop-left.spots.items) (spots_view c.args.text.now c.put_first.new.spots.items) _ put
          (ap (λ (o : Option (Bor (List ℕ))). spots_view c.args.text.now c.loop-left.spots.items ++ pairs_in c.args.form (lines_left o)) (sym c.in-Some.is) ∙ c.loop-left.invariant.left_is);
    }
