use Rattle.std.proofs.Common.{rules, ap, ◌∙◌, ◌++◌, ◌∷◌, ◌≡◌}
use Rattle.std.specs.Prelude.{codes}
use Rattle.wakeup_pairs.specs.Figures.{average, longest, shortest}
use Rattle.wakeup_lat.specs.Section.{average_line, extreme_line}
use Rattle.trace_outside.proofs.Putting.{put_both, stopped_first}
use Rattle.wakeup_lat.proofs.section.put_figures.Goals as goal

pub returns-in_err-put_average : goal.returns-in_err-put_average
returns-in_err-put_average g c =
    let e = c.in-Some.ensures.cases.0 in
    let first = c.in-Some.first.now in
    let rest = c.in-Some.rest.now in
    let same : c.average.result ≡ average (first ∷ rest) = c.average.ensures ∙ ap average e in
    record {
      puts = rw e (rw (← same)
          (stopped_first (average_line c.average.result) (extreme_line (codes "maximum ") c.args.full (longest first rest) ++ extreme_line (codes "minimum ") c.args.full (shortest first rest)) _ _ _ _
          c.from_residual.result c.from_residual.ensures.0 c.in_err-put_average.ensures.puts));
      name = search rules;
      cause = search rules;
    }

pub returns : goal.returns
returns g c =
    let e = c.in-Some.ensures.cases.0 in
    let first = c.in-Some.first.now in
    let rest = c.in-Some.rest.now in
    let same : c.average.result ≡ average (first ∷ rest) = c.average.ensures ∙ ap average e in
    record {
      puts = rw e (rw (← same)
          (put_both (average_line c.average.result) (extreme_line (codes "maximum ") c.args.full (longest first rest) ++ extreme_line (codes "minimum ") c.args.full (shortest first rest)) _ _ _ _ _ _
          c.put_extremes.result c.in_ok-put_average.ensures.puts c.put_extremes.ensures.puts));
      name = search rules;
      cause = search rules;
    }
