use Rattle.std.proofs.Common.{◌-◌, suc, refl, arith, rules}
use Rattle.std.proofs.lemmas.Result.{err_from_is_err_and}
use Rattle.dat_header.specs.Allowed.{IsSystem}
use Rattle.dat_header.specs.ItemsAt.{system_at}
use Rattle.dat_header.proofs.Rows.{row_begins, row_more, row_failed, row_ends, goes_on_memory, all_more}
use Rattle.dat_header.proofs.carried.read_each_system.Goals as goal

pub loop-done-init : goal.loop-done-init
loop-done-init g c = record {
  goes_on = row_begins (system_at c.args.order) _ _ _ _ _ c.new-systems.ensures.items (omega arith);
  inside = c.requires.inside;
  counted = search rules;
  each = search rules;
}

pub loop-done-preserved : goal.loop-done-preserved
loop-done-preserved g c = record {
  goes_on = row_more _ (system_at c.args.order) _ _ _ _ _ _ _ _ _ _ _ (omega arith) c.in-Ok.ensures.items c.loop-done.invariant.goes_on c.in_ok-system.ensures.steps;
  inside = omega (arith, c.in_ok-system.ensures.steps.inside, c.in_ok-system.ensures.steps.size);
  counted = search rules;
  each = all_more IsSystem _ _ _ c.in-Ok.ensures.items c.loop-done.invariant.each c.in_ok-system.ensures.allowed;
}

pub returns-in_err-system-clause-steps : goal.returns-in_err-system-clause-steps
returns-in_err-system-clause-steps g c =
    let p = err_from_is_err_and c.from_residual.result c.from_residual.ensures.1 in
    rw (p.1, p.2) (row_failed _ (system_at c.args.order) _ _ (c.args.count - suc c.loop-done._done) _ _ _ _ _ _ (omega arith) c.loop-done.invariant.goes_on c.in_err-system.ensures.steps)

pub returns-in_default-clause-steps : goal.returns-in_default-clause-steps
returns-in_default-clause-steps g c = goes_on_memory _ _ _ _ _ _ (row_more _ (system_at c.args.order) _ _ _ (c.args.count - suc c.loop-done._done) _ _ _ _ _ _ _ (omega arith) refl c.loop-done.invariant.goes_on c.in_ok-system.ensures.steps)

pub returns-clause-steps : goal.returns-clause-steps
returns-clause-steps g c = row_ends _ (system_at c.args.order) _ _ _ _ _ _ _ (omega arith) c.from_vec.ensures c.loop-done.invariant.inside c.loop-done.invariant.goes_on
