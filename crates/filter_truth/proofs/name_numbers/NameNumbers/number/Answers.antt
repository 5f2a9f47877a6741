use Rattle.std.proofs.Common.{rules}
use Rattle.filter_truth.proofs.Numbered.{kept_more, found_more}
use Rattle.filter_truth.proofs.name_numbers.NameNumbers.number.Goals as goal

pub returns-clause-kept : goal.returns-clause-kept
returns-clause-kept c = kept_more c.args.self.now _ _ _ (search rules) c.in_ok-push.ensures.items

pub returns-clause-found : goal.returns-clause-found
returns-clause-found c = found_more _ _ _ _ c.in_ok-push.ensures.items (search rules)
