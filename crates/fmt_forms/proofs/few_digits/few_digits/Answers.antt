use Rattle.std.proofs.Common.{arith}
use Rattle.fmt_forms.proofs.FewDigits.{table_digits, table_least, table_most}
use Rattle.fmt_forms.proofs.few_digits.few_digits.Goals as goal

pub overflow_sub-result : goal.overflow_sub-result
overflow_sub-result c = table_least c.table-table.result.now c.args.n c.table-table.ensures c.requires

pub returns-clause-digits : goal.returns-clause-digits
returns-clause-digits c = table_digits c.table-table.result.now c.args.n c.table-table.ensures c.requires

pub returns-clause-few : goal.returns-clause-few
returns-clause-few c = omega (arith, table_most c.table-table.result.now c.args.n c.table-table.ensures c.requires)
