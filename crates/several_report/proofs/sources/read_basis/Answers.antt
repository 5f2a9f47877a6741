use Rattle.several_report.proofs.sources.read_basis.Goals as goal

pub returns-in-Ok-basis_of-clause-read : goal.returns-in-Ok-basis_of-clause-read
returns-in-Ok-basis_of-clause-read g c = record {
  header = c.in-Ok.header;
  read = c.in-Ok.ensures.answer;
  stands = c.in-Ok-basis_of.ensures;
  reads = c.in-Ok.ensures.file.reads;
}
