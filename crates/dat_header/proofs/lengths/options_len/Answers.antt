use Rattle.std.proofs.Common.{refl, arith}
use Rattle.dat_options.specs.Options.{option_text}
use Rattle.dat_header.proofs.Wrapped.{options_more, row_whole}
use Rattle.dat_header.proofs.lengths.options_len.Goals as goal

pub loop-option-init : goal.loop-option-init
loop-option-init c = λ order. refl

pub loop-option-preserved : goal.loop-option-preserved
loop-option-preserved c = λ order. options_more order c.args.options.now c.loop-option.option-index c.option-item.result c.as_bytes.result.now c.loop-option.total c.loop-option-test.true c.option-item.is c.as_bytes.ensures (c.loop-option.invariant order)

pub returns : goal.returns
returns c = λ order. row_whole (option_text order) c.args.options.now c.loop-option.option-index c.loop-option.total (omega arith) (c.loop-option.invariant order)
