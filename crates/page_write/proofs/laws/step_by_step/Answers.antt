use Rattle.page_write.proofs.Joined.{nothing_so_far, added_so_far, full_so_far, ends_so_far}
use Rattle.page_write.proofs.laws.step_by_step.Goals as goal

pub returns-clause-nothing : goal.returns-clause-nothing
returns-clause-nothing c = λ layout. nothing_so_far layout

pub returns-clause-added : goal.returns-clause-added
returns-clause-added c = λ layout xs closed held x. added_so_far layout xs closed held x

pub returns-clause-full : goal.returns-clause-full
returns-clause-full c = λ layout xs closed held x. full_so_far layout xs closed held x

pub returns-clause-ends : goal.returns-clause-ends
returns-clause-ends c = λ layout xs closed held. ends_so_far layout xs closed held
