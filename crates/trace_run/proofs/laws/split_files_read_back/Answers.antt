use Rattle.std.proofs.Common.{arith}
use Rattle.dat_header.proofs.HeaderLaws.{computes_header}
use Rattle.split_tool.proofs.FewBytes.{files_back}
use Rattle.split_run.specs.Split.{rules_of, taken_of}
use Rattle.split_run.proofs.Taken.{taken_within}
use Rattle.trace_run.proofs.laws.split_files_read_back.Goals as goal

pub returns : goal.returns
returns c = λ words header bytes are read short.
    let has = (computes_header bytes header are).0 read in
    let few = taken_within words.cpu header.cpus header.body has.1.allowed.body in
    files_back (rules_of words) words.base header bytes (taken_of words.cpu header.body) are read has.1.allowed short (omega (arith, few, has.1.allowed.cpus))
