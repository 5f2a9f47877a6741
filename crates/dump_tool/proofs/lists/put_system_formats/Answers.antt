use Rattle.std.proofs.Common.{rules}
use Rattle.std.proofs.lemmas.Iterator.{YieldsList-from_slice}
use Rattle.dump_tool.specs.Texts.{stored_text}
use Rattle.dump_tool.proofs.EntriesPut.{entries_put}
use Rattle.dump_tool.proofs.lists.put_system_formats.Goals as goal

pub returns : goal.returns
returns g c =
    entries_put (stored_text c.args.system.now.name) _ _ _ (YieldsList-from_slice c.args.system.now.formats cc)
    (λ texts yields. c.put_each.ensures _ texts yields (λ _ _ _ _ _ _ put. search rules))
