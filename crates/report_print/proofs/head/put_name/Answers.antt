use Rattle.std.proofs.Common.{ℕ, List, Bor}
use Rattle.report_print.proofs.RawNames as names
use Rattle.report_print.proofs.head.put_name.Goals as goal

pub returns : goal.returns
returns c =
    λ events are. names.put_name (λ (k : Bor (List ℕ)). k.now) c.args.names.now.keys c.insert.new.self.keys c.args.name events c.in_ok-insert.ensures.keys are
