use Rattle.symbols.proofs.RowLemmas.{rises_rows, found_near, found_within, found_none, found_last, found_no_last}
use Rattle.symbols.proofs.names.Names.row_up_to.Goals as goal

pub place_up_to-requires : goal.place_up_to-requires
place_up_to-requires c = rises_rows c.args.self.now c.deref.result.now c.deref.ensures.value c.requires.rises

pub returns-in-Some-clause-found : goal.returns-in-Some-clause-found
returns-in-Some-clause-found c = found_within c.args.self.now c.deref.result.now c.deref.ensures.value c.requires.rises c.args.address c.in-Some.place (c.row_at.result.0, c.row_at.result.1.now) c.in-Some.ensures.found c.row_at.ensures

pub returns-in-Some-clause-nearest : goal.returns-in-Some-clause-nearest
returns-in-Some-clause-nearest c = found_near c.args.self.now c.deref.result.now c.deref.ensures.value c.requires.rises c.args.address c.in-Some.place (c.row_at.result.0, c.row_at.result.1.now) c.in-Some.ensures.found c.row_at.ensures

pub returns-in-None-clause-none : goal.returns-in-None-clause-none
returns-in-None-clause-none c = found_none c.args.self.now c.deref.result.now c.deref.ensures.value c.requires.rises c.args.address c.in-None.ensures.none

pub returns-in-Some-clause-exact : goal.returns-in-Some-clause-exact
returns-in-Some-clause-exact c = found_last c.args.self.now c.deref.result.now c.deref.ensures.value c.requires.rises c.args.address c.in-Some.place (c.row_at.result.0, c.row_at.result.1.now) c.in-Some.ensures.found c.row_at.ensures

pub returns-in-None-clause-exact : goal.returns-in-None-clause-exact
returns-in-None-clause-exact c = found_no_last c.args.self.now c.deref.result.now c.deref.ensures.value c.requires.rises c.args.address c.in-None.ensures.none
