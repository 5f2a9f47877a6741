use Rattle.std.proofs.Common.{rules}
use Rattle.format_parse.proofs.Tables.{text_more, all_read}
use Rattle.format_parse.proofs.table.FormatTable.with_texts.Goals as goal

pub loop-text-preserved : goal.loop-text-preserved
loop-text-preserved c = text_more c.args.system.now c.args.texts.now c.loop-text.table c.put_text.new.self _ c.loop-text.text-index c.as_bytes.result.now c.loop-text-test.true (search rules) c.loop-text.invariant

pub returns : goal.returns
returns c = all_read c.args.system.now c.args.texts.now c.loop-text.table _ c.loop-text.text-index c.loop-text-test.false c.loop-text.invariant
