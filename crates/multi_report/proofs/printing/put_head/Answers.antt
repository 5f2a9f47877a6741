use Rattle.std.proofs.Common.{rules, ◌≡◌, ◌++◌, ℕ, List, codes, subst}
use Rattle.std.specs.Fmt.{decimal}
use Rattle.trace_outside.specs.Pending.{Puts, PutsText, on_way}
use Rattle.multi_report.specs.Reports.{label}
use Rattle.multi_report.proofs.HeadLines.{front_stopped, puts_both}
use Rattle.multi_report.proofs.printing.put_head.Goals as goal

pub returns-in_err-put_parts : goal.returns-in_err-put_parts
returns-in_err-put_parts g c =
    let way = on_way g.O.Sink.written g.O.Sink.name g.O.Sink.faults in
    let tail : List ℕ = codes "cpus=" ++ (decimal c.args.source.now.cpus ++ codes "\n") in
    record {
      puts = subst (λ (n : List ℕ). Puts (label n ++ tail) (g.O.Sink.written c.args.out.now) c.args.pending.now (g.O.Sink.written c.put_parts.new.out) c.put_parts.new.self c.from_residual.result) c.as_bytes-name.ensures.value
          (front_stopped (label c.as_bytes-name.result.now) tail (way c.args.out.now c.args.pending.now) (way c.put_parts.new.out c.put_parts.new.self) c.from_residual.result c.from_residual.ensures.0 c.in_err-put_parts.ensures.puts);
      name = search rules;
      cause = search rules;
    }

pub returns : goal.returns
returns g c =
    let digits : c.as_bytes-cpus.result.now ≡ decimal c.args.source.now.cpus = search rules in
    let way = on_way g.O.Sink.written g.O.Sink.name g.O.Sink.faults in
    subst (λ (n : List ℕ). PutsText (label n ++ (codes "cpus=" ++ (decimal c.args.source.now.cpus ++ codes "\n"))) (way c.args.out.now c.args.pending.now) (way c.put_parts-2.new.out c.put_parts-2.new.self) c.put_parts-2.result) c.as_bytes-name.ensures.value
    (subst (λ (d : List ℕ). PutsText (label c.as_bytes-name.result.now ++ (codes "cpus=" ++ (d ++ codes "\n"))) (way c.args.out.now c.args.pending.now) (way c.put_parts-2.new.out c.put_parts-2.new.self) c.put_parts-2.result) digits
    (puts_both (label c.as_bytes-name.result.now) (codes "cpus=" ++ (c.as_bytes-cpus.result.now ++ codes "\n")) (way c.args.out.now c.args.pending.now) (way c.put_parts.new.out c.put_parts.new.self) (way c.put_parts-2.new.out c.put_parts-2.new.self) c.put_parts-2.result
    c.in_ok-put_parts.ensures.puts c.put_parts.ensures.name c.in_ok-put_parts.ensures.cause.kept c.put_parts-2.ensures))
