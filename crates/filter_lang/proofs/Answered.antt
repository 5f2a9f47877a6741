-- What a reader of all tokens gives is an answer.
use Rattle.std.proofs.Common.{[], drop, Result, Ok, Err}
use Rattle.filter_lang.specs.TokenView.{plain_tokens}
use Rattle.filter_lang.specs.FilterReading.{filter_in}
use Rattle.filter_lang.specs.FilterView.{filter_of, filter_view, Answers}
use Rattle.filter_lang.specs.TakenView.{Gives}
use Rattle.filter_lang.specs.declared.filter.Filter.{Filter}
use Rattle.filter_lang.specs.declared.reader.Reader.{Reader}
use Rattle.filter_lang.specs.declared.parse_fault.ParseFault.{ParseFault}
use Rattle.filter_lang.specs.declared.parse_fault.ParseFault.TheVariants.{Memory, Before}
use Rattle.filter_lang.proofs.Filters.{filter_derived, filter_refused}

pub answered : (r : Reader) (result : Result Filter ParseFault) → Gives r filter_view result (filter_in (plain_tokens r.tokens.now)) → Answers r.tokens.now result
answered r (Ok f) e = (filter_derived (plain_tokens r.tokens.now) (filter_of f) [] e).0
answered r (Err Memory) e = tt
answered r (Err (Before at)) e = filter_refused (plain_tokens r.tokens.now) (drop at (plain_tokens r.tokens.now)) e
