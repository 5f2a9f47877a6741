use Rattle.std.proofs.Common.{sym}
use Rattle.dat_header.specs.Written.{text_before_table}
use Rattle.dat_header.proofs.Written.{table_behind, text_gained}
use Rattle.dat_header.proofs.write.text_before_table.Goals as goal

pub returns-clause-text : goal.returns-clause-text
returns-clause-text c =
    text_gained c.in_ok-out.out.kept.items c.write_before_table.new.out.kept.items c.into_text.result (text_before_table c.args.header.now)
    c.in_ok-out.ensures.empty c.in-Ok.ensures.gained c.into_text.ensures

pub returns-clause-whole : goal.returns-clause-whole
returns-clause-whole c = λ parts. sym (table_behind c.args.header.now parts)

pub returns-in_err-out-clause-whole : goal.returns-in_err-out-clause-whole
returns-in_err-out-clause-whole c = λ parts. sym (table_behind c.args.header.now parts)

pub returns-in_default-clause-whole : goal.returns-in_default-clause-whole
returns-in_default-clause-whole c = λ parts. sym (table_behind c.args.header.now parts)
