use Rattle.std.proofs.Common.{length, take, ap, ◌∙◌}
use Rattle.std.proofs.Math.Seq.{take-append_seam}
use Rattle.trace_base.proofs.few_bytes.FewBytes.copy.Goals as goal

pub returns : goal.returns
returns c = ap (take (length c.args.text.now)) c.put_first.ensures ∙ take-append_seam c.args.text.now _
