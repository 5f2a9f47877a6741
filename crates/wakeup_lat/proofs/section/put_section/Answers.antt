use Rattle.std.proofs.Common.{rules, ◌++◌, flat_map, length}
use Rattle.wakeup_lat.specs.Section.{pair_line, count_line, figures}
use Rattle.trace_outside.proofs.Putting.{put_both, stopped_first}
use Rattle.wakeup_lat.proofs.section.put_section.Goals as goal

pub returns-in_err-put_count : goal.returns-in_err-put_count
returns-in_err-put_count g c = record {
  puts = stopped_first (count_line (length c.args.pairs.now)) (flat_map (pair_line c.args.context.now) c.args.pairs.now ++ figures c.args.full c.args.pairs.now) _ _ _ _
      c.from_residual.result c.from_residual.ensures.0 c.in_err-put_count.ensures.puts;
  name = search rules;
  cause = search rules;
}

pub returns-in_err-put_lines : goal.returns-in_err-put_lines
returns-in_err-put_lines g c = record {
  puts = put_both (count_line (length c.args.pairs.now)) (flat_map (pair_line c.args.context.now) c.args.pairs.now ++ figures c.args.full c.args.pairs.now) _ _ _ _ _ _
      c.from_residual-in_err-put_lines.result c.in_ok-put_count.ensures.puts
      (stopped_first (flat_map (pair_line c.args.context.now) c.args.pairs.now) (figures c.args.full c.args.pairs.now) _ _ _ _
      c.from_residual-in_err-put_lines.result c.from_residual-in_err-put_lines.ensures.0 c.in_err-put_lines.ensures.puts);
  name = search rules;
  cause = search rules;
}

pub returns : goal.returns
returns g c = record {
  puts = put_both (count_line (length c.args.pairs.now)) (flat_map (pair_line c.args.context.now) c.args.pairs.now ++ figures c.args.full c.args.pairs.now) _ _ _ _ _ _
      c.put_figures.result c.in_ok-put_count.ensures.puts
      (put_both (flat_map (pair_line c.args.context.now) c.args.pairs.now) (figures c.args.full c.args.pairs.now) _ _ _ _ _ _
      c.put_figures.result c.in_ok-put_lines.ensures.puts c.put_figures.ensures.puts);
  name = search rules;
  cause = search rules;
}
