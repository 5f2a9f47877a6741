use Rattle.std.proofs.Common.{ℕ, []}
use Rattle.trace_base.specs.declared.part.Part.{Part}
use Rattle.subpage.proofs.EmptyParts.{cut_same, none_counted, reached_same, sum_same, rise_same}
use Rattle.subpage.proofs.laws.empty_parts.Goals as goal

pub returns-clause-cut : goal.returns-clause-cut
returns-clause-cut c = cut_same

pub returns-clause-reached : goal.returns-clause-reached
returns-clause-reached c = reached_same

pub returns-clause-rise : goal.returns-clause-rise
returns-clause-rise c = rise_same

pub returns-clause-size : goal.returns-clause-size
returns-clause-size c = λ parts. sum_same (λ (part : ℕ × Part). part.1.size) parts (λ part none. none)

pub returns-clause-pages : goal.returns-clause-pages
returns-clause-pages c = λ layout part none. none_counted layout [] part none
