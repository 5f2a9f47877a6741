use Rattle.std.proofs.Common.{◌≢◌, refl, arith, rules}
use Rattle.std.proofs.lemmas.Bool.{ne_eqb, eq-eqb}
use Rattle.std.proofs.lemmas.Result.{err_from_is_err_and}
use Rattle.dat_header.proofs.Rows.{name_begins, name_more, name_failed, name_ends, goes_on_memory, all_more}
use Rattle.dat_header.proofs.items.read_name.Goals as goal

pub loop-name-init : goal.loop-name-init
loop-name-init g c = record {
  goes_on = name_begins _ _ _ c.new-name.ensures.items;
  size = refl;
  inside = c.requires.inside;
  allowed = search rules;
}

pub loop-name-preserved : goal.loop-name-preserved
loop-name-preserved g c =
    let step = c.in_ok-byte.ensures.steps in
    record {
      goes_on = name_more _ _ _ _ _ _ _ _ _ _ (ne_eqb _ 0 c.if-byte-eq0.false) c.in-Ok.ensures.items c.loop-name.invariant.goes_on step;
      size = search rules;
      inside = omega (arith, step.inside, step.size);
      allowed = all_more (λ byte. byte ≢ 0) _ _ _ c.in-Ok.ensures.items c.loop-name.invariant.allowed c.if-byte-eq0.false;
    }

pub returns-in_err-byte-clause-steps : goal.returns-in_err-byte-clause-steps
returns-in_err-byte-clause-steps g c =
    let p = err_from_is_err_and c.from_residual.result c.from_residual.ensures.1 in
    rw (p.1, p.2) (name_failed _ _ _ _ _ _ _ _ c.loop-name.invariant.goes_on c.in_err-byte.ensures.steps)

pub returns-then-byte-eq0-clause-steps : goal.returns-then-byte-eq0-clause-steps
returns-then-byte-eq0-clause-steps g c = name_ends _ _ _ _ _ _ _ _ _ _ (eq-eqb _ 0 c.if-byte-eq0.true) c.from_vec.ensures c.loop-name.invariant.goes_on c.in_ok-byte.ensures.steps

pub returns-in_default-clause-steps : goal.returns-in_default-clause-steps
returns-in_default-clause-steps g c = goes_on_memory _ _ _ _ _ _ (name_more _ _ _ _ _ _ _ _ _ _ (ne_eqb _ 0 c.if-byte-eq0.false) refl c.loop-name.invariant.goes_on c.in_ok-byte.ensures.steps)
