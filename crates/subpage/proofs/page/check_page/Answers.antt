use Rattle.subpage.proofs.PageItems.{when_found, when_none}
use Rattle.subpage.proofs.page.check_page.Goals as goal

pub returns-clause-found : goal.returns-clause-found
returns-clause-found c = when_found c.args.layout.now c.args.bytes.now c.read_page.result c.read_page.ensures

pub returns-clause-none : goal.returns-clause-none
returns-clause-none c = when_none c.args.layout.now c.args.bytes.now c.read_page.result c.read_page.ensures
