use Rattle.std.proofs.Common.{◌≡◌, ℕ, ◌+◌, suc, List, ◌++◌, Option, Some, sym, ap, subst, ◌∙◌, append_assoc, rules, arith}
use Rattle.std.specs.Prelude.{slice_get}
use Rattle.trace_outside.specs.Pending.{Holds}
use Rattle.line_holes.specs.Holes.{fill_hole, filled_bytes, later, line_text, time_of}
use Rattle.page_pool.specs.Lines.{Line, line_of}
use Rattle.round_print.specs.Prints.{filled_text, front_of, last_of}
use Rattle.round_print.proofs.FilledTexts.{front_begins, lines_stopped, next_last, next_text}
use Rattle.round_print.proofs.filling.put_each.Goals as goal

pub loop-at-preserved : goal.loop-at-preserved
loop-at-preserved g c =
    let lane = c.args.lane.now in
    let lines : List Line = lane.region.kept in
    let at : ℕ = c.loop-at.at in
    let last : Option ℕ = c.args.last.now in
    let line : Line = line_of c.line-hole.result.1 (line_text c.line-hole.result.0.now c.line-hole.result.2) in
    let there : slice_get lines at ≡ Some line = c.line-hole.ensures.line in
    let more : at + 1 ≡ suc at = omega arith in
    let front : List ℕ = filled_text last (front_of at lane) in
    let own : List ℕ = fill_hole c.loop-at.last c.line-hole.result.0.now c.line-hole.result.2 in
    let own_is : own ≡ filled_bytes (last_of last (front_of at lane)) line.text = ap (λ (o : Option ℕ). filled_bytes o line.text) c.loop-at.invariant.last in
    record {
      inside = omega (arith, c.loop-at-test.true);
      held = λ before text held.
          let P : List ℕ → Type 0 = λ t. Holds before (g.O.Sink.written c.put_filled.new.out) c.put_filled.new.pending t in
          subst P
          (append_assoc text front own ∙ ap (λ (t : List ℕ). text ++ t) (ap (λ (t : List ℕ). front ++ t) own_is ∙ sym (next_text lane.cpu last lines at (at + 1) line more there)))
          (c.in_ok-put_filled.ensures.puts.puts before (text ++ front) (c.loop-at.invariant.held before text held));
      last = c.in_ok-put_filled.ensures.last ∙ ap (λ (o : Option ℕ). later o (time_of c.line-hole.result.2)) c.loop-at.invariant.last
          ∙ next_last lane.cpu last lines at (at + 1) line more there;
      name = c.in_ok-put_filled.ensures.puts.name ∙ c.loop-at.invariant.name;
      faults = c.in_ok-put_filled.ensures.puts.cause.kept ∙ c.loop-at.invariant.faults;
    }

pub returns-in_err-put_filled-clause-puts : goal.returns-in_err-put_filled-clause-puts
returns-in_err-put_filled-clause-puts g c =
    let lane = c.args.lane.now in
    let lines : List Line = lane.region.kept in
    let at : ℕ = c.loop-at.at in
    let last : Option ℕ = c.args.last.now in
    let line : Line = line_of c.line-hole.result.1 (line_text c.line-hole.result.0.now c.line-hole.result.2) in
    let there : slice_get lines at ≡ Some line = c.line-hole.ensures.line in
    let more : at + 1 ≡ suc at = omega arith in
    let front : List ℕ = filled_text last (front_of at lane) in
    let own : List ℕ = fill_hole c.loop-at.last c.line-hole.result.0.now c.line-hole.result.2 in
    let own_is : own ≡ filled_bytes (last_of last (front_of at lane)) line.text = ap (λ (o : Option ℕ). filled_bytes o line.text) c.loop-at.invariant.last in
    let begins = front_begins lane.cpu last lines (at + 1) c.args.count (omega (arith, c.loop-at-test.true)) in
    let whole = ap (λ (t : List ℕ). t ++ begins.0) (ap (λ (t : List ℕ). front ++ t) own_is ∙ sym (next_text lane.cpu last lines at (at + 1) line more there)) ∙ begins.1 in
    record {
      puts = lines_stopped _ front own begins.0 _ _ _ _ _ _ c.from_residual.result whole c.from_residual.ensures.0 c.loop-at.invariant.held c.in_err-put_filled.ensures.puts.puts;
      name = search rules;
      cause = search rules;
    }
