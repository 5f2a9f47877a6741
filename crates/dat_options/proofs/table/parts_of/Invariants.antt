use Rattle.std.proofs.Common.{length, ◌≡◌, ◌++◌, ◌%◌}
use Rattle.dat_options.specs.Table.{table_text}
use Rattle.dat_options.proofs.table.parts_of.Given as goal

abbrev pub invariant-loop-rest : goal.invariant-loop-rest
invariant-loop-rest l = record {
  spelled : l.text ≡ table_text l.order l.parts.items ++ l.rest;
  whole : length l.rest % 16 ≡ 0;
}

abbrev pub decreases-loop-rest : goal.decreases-loop-rest
decreases-loop-rest l = length l.rest
