use Rattle.std.proofs.Common.{rules}
use Rattle.std.proofs.lemmas.Iterator.{YieldsList-from_slice}
use Rattle.std.proofs.lemmas.Iterator.Consumers.{YieldsList-from_filter}
use Rattle.word_values.specs.Sections.{sections}
use Rattle.dump_tool.specs.Dump.{section_text, is_chosen}
use Rattle.dump_tool.proofs.EntriesPut.{entries_put}
use Rattle.dump_tool.proofs.sections.put_chosen.Goals as goal

pub returns : goal.returns
returns g c =
    entries_put (section_text c.args.name.now c.args.header.now) _ _ _
    (YieldsList-from_filter _ (is_chosen c.args.sections.now) (YieldsList-from_slice sections cc) c.filter-chosen.ensures.closure (λ section chosen test called. search rules))
    (λ texts yields. c.put_each.ensures _ texts yields (λ _ _ _ _ _ _ put. search rules))
