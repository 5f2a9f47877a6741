use Rattle.std.proofs.Common.{OnOk, List, ℕ, subst}
use Rattle.std.proofs.lemmas.List.{take-replicate}
use Rattle.trace_outside.specs.Writing.{Gained}
use Rattle.trace_gen.proofs.file.write_zeros.Goals as goal

pub returns : goal.returns
returns g c = subst (λ (t : List ℕ). OnOk c.write_all.result (Gained (g.O.Sink.written c.args.out.now) (g.O.Sink.written c.write_all.new.out) t)) (take-replicate {X = ℕ} c.args.count 4096 0 c.requires) c.write_all.ensures.gained
