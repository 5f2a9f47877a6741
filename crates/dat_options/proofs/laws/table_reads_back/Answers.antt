use Rattle.dat_options.proofs.TableLaws.{table_again}
use Rattle.dat_options.proofs.laws.table_reads_back.Goals as goal

pub returns : goal.returns
returns c = table_again
