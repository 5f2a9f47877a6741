use Rattle.symbols.proofs.Forms.{when_found, when_none, task_is, task_again}
use Rattle.symbols.specs.LineForms.{IsTaskLine}
use Rattle.symbols.specs.Forms.{task_line}
use Rattle.symbols.proofs.lines.task_line.Goals as goal

pub returns-clause-found : goal.returns-clause-found
returns-clause-found c = when_found IsTaskLine task_line task_is c.args.line.now c.read_task.result c.read_task.ensures.exact

pub returns-clause-none : goal.returns-clause-none
returns-clause-none c = when_none IsTaskLine task_line task_again c.args.line.now c.read_task.result c.read_task.ensures.exact
