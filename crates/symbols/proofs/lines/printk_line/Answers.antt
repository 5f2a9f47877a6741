use Rattle.symbols.proofs.Forms.{when_found, when_none, printk_is, printk_again}
use Rattle.symbols.specs.LineForms.{IsPrintkLine}
use Rattle.symbols.specs.Forms.{printk_line}
use Rattle.symbols.proofs.lines.printk_line.Goals as goal

pub returns-clause-found : goal.returns-clause-found
returns-clause-found c = when_found IsPrintkLine printk_line printk_is c.args.line.now c.read_printk.result c.read_printk.ensures.exact

pub returns-clause-none : goal.returns-clause-none
returns-clause-none c = when_none IsPrintkLine printk_line printk_again c.args.line.now c.read_printk.result c.read_printk.ensures.exact
