use Rattle.std.proofs.Common.{arith}
use Rattle.symbols.proofs.Addresses.{most_of, is_digit_of, is_none_of}
use Rattle.symbols.proofs.digits.digit_or_none.Goals as goal

pub returns-clause-most : goal.returns-clause-most
returns-clause-most c = most_of c.args.byte (omega arith)

pub returns-clause-digit : goal.returns-clause-digit
returns-clause-digit c = is_digit_of c.args.byte (omega arith)

pub returns-clause-none : goal.returns-clause-none
returns-clause-none c = is_none_of c.args.byte (omega arith)
