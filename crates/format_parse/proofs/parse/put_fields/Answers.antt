use Rattle.text_lines.specs.Lines.{lines_left}
use Rattle.format_parse.proofs.CommonFields.{common_on, line_on}
use Rattle.format_parse.proofs.parse.put_fields.Goals as goal

pub returns-clause-reads : goal.returns-clause-reads
returns-clause-reads c = common_on c.args.lines.now c.in-Some.rest.now c.args.fields.now.items c.put_common.new.fields.items c.in-Some.ensures c.in_ok-put_common.ensures

pub returns-2-clause-reads : goal.returns-2-clause-reads
returns-2-clause-reads c = line_on c.args.lines.now c.first_line.result.0.now (lines_left c.first_line.result.1) c.args.fields.now.items c.put_field.new.fields.items c.first_line.ensures.split c.requires c.in_ok-put_field.ensures
