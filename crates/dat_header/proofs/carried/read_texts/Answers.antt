use Rattle.std.proofs.Common.{◌-◌, ◌<◌, ◌^◌, length, suc, refl, arith, rules}
use Rattle.std.proofs.lemmas.Result.{err_from_is_err_and}
use Rattle.dat_header.specs.ItemsAt.{text_at}
use Rattle.dat_header.proofs.Rows.{row_begins, row_more, row_failed, row_ends, goes_on_memory, all_more}
use Rattle.dat_header.proofs.carried.read_texts.Goals as goal

pub loop-done-init : goal.loop-done-init
loop-done-init g c = record {
  goes_on = row_begins (text_at 8 c.args.order) _ _ _ _ _ c.new-texts.ensures.items (omega arith);
  inside = c.requires.inside;
  counted = search rules;
  sized = search rules;
}

pub loop-done-preserved : goal.loop-done-preserved
loop-done-preserved g c = record {
  goes_on = row_more _ (text_at 8 c.args.order) _ _ _ _ _ _ _ _ _ _ _ (omega arith) c.in-Ok.ensures.items c.loop-done.invariant.goes_on c.in_ok-text.ensures.steps;
  inside = omega (arith, c.in_ok-text.ensures.steps.inside, c.in_ok-text.ensures.steps.size);
  counted = search rules;
  sized = all_more (λ text. length text < 2 ^ 64) _ _ _ c.in-Ok.ensures.items c.loop-done.invariant.sized c.in_ok-text.ensures.short;
}

pub returns-in_err-text-clause-steps : goal.returns-in_err-text-clause-steps
returns-in_err-text-clause-steps g c =
    let p = err_from_is_err_and c.from_residual.result c.from_residual.ensures.1 in
    rw (p.1, p.2) (row_failed _ (text_at 8 c.args.order) _ _ (c.args.count - suc c.loop-done._done) _ _ _ _ _ _ (omega arith) c.loop-done.invariant.goes_on c.in_err-text.ensures.steps)

pub returns-in_default-clause-steps : goal.returns-in_default-clause-steps
returns-in_default-clause-steps g c = goes_on_memory _ _ _ _ _ _ (row_more _ (text_at 8 c.args.order) _ _ _ (c.args.count - suc c.loop-done._done) _ _ _ _ _ _ _ (omega arith) refl c.loop-done.invariant.goes_on c.in_ok-text.ensures.steps)

pub returns-clause-steps : goal.returns-clause-steps
returns-clause-steps g c = row_ends _ (text_at 8 c.args.order) _ _ _ _ _ _ _ (omega arith) c.from_vec.ensures c.loop-done.invariant.inside c.loop-done.invariant.goes_on
