use Rattle.filter_lang.proofs.Computed.{filter_read, read_filter, refusal_read}
use Rattle.filter_lang.proofs.laws.computed_reading.Goals as goal

pub returns-clause-filter : goal.returns-clause-filter
returns-clause-filter c = λ text f. (read_filter text f, filter_read text f)

pub returns-clause-refusal : goal.returns-clause-refusal
returns-clause-refusal c = refusal_read
