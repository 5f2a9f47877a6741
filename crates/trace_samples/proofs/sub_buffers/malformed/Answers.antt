use Rattle.std.proofs.Common.{List, ℕ, ◌++◌, [], take, ap, arith}
use Rattle.std.proofs.lemmas.List.{length-append}
use Rattle.trace_base.specs.declared.order.Order.TheVariants.{Little}
use Rattle.trace_base.specs.Number.{num}
use Rattle.trace_samples.proofs.Samples.{over_full}
use Rattle.trace_samples.proofs.sub_buffers.malformed.Goals as goal

pub returns-clause-tells : goal.returns-clause-tells
returns-clause-tells c = over_full _ (omega (arith, c.put_u64.auto.into, length-append c.put_u64.new.into [])) (ap (λ (bytes : List ℕ). num Little (take 8 (bytes ++ []))) c.put_u64.ensures)
