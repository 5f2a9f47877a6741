use Rattle.std.proofs.Common.{List, ℕ, rules, subst}
use Rattle.std.specs.List.{flat_map}
use Rattle.graph_report.specs.CallText.{call_line}
use Rattle.trace_outside.specs.Pending.{Puts}
use Rattle.trace_outside.proofs.Putting.{put_both, stopped_first}
use Rattle.report_context.specs.Lines.{cpus_line}
use Rattle.file_report.proofs.CallsPrinted.{calls_text}
use Rattle.file_report.proofs.calls.put_all.Goals as goal

pub returns-in_err-put_cpus : goal.returns-in_err-put_cpus
returns-in_err-put_cpus g c = record {
  puts = subst (λ (text : List ℕ). Puts text (g.O.Sink.written c.args.out.now) c.args.pending.now (g.O.Sink.written c.put_cpus.new.out) c.put_cpus.new.pending c.from_residual.result)
      (calls_text c.args.cpus c.args.context.now c.args.calls.now)
      (stopped_first (cpus_line c.args.cpus) (flat_map (call_line c.args.context.now) c.args.calls.now) _ _ _ _
      c.from_residual.result c.from_residual.ensures.0 c.in_err-put_cpus.ensures.puts);
  name = search rules;
  cause = search rules;
}

pub returns : goal.returns
returns g c = record {
  puts = subst (λ (text : List ℕ). Puts text (g.O.Sink.written c.args.out.now) c.args.pending.now (g.O.Sink.written c.put_calls.new.out) c.put_calls.new.pending c.put_calls.result)
      (calls_text c.args.cpus c.args.context.now c.args.calls.now)
      (put_both (cpus_line c.args.cpus) (flat_map (call_line c.args.context.now) c.args.calls.now) _ _ _ _ _ _
      c.put_calls.result c.in_ok-put_cpus.ensures.puts c.put_calls.ensures.puts);
  name = search rules;
  cause = search rules;
}
