use Rattle.std.proofs.Common.{rules}
use Rattle.std.specs.Prelude.{codes}
use Rattle.std.proofs.lemmas.List.FromFn.{length-enumerate_from}
use Rattle.std.proofs.lemmas.Iterator.{YieldsList-from_slice}
use Rattle.std.proofs.lemmas.Iterator.Consumers.{YieldsList-from_enumerate}
use Rattle.dump_tool.specs.Lists.{part_line}
use Rattle.dump_tool.proofs.EntriesPut.{list_put}
use Rattle.dump_tool.proofs.lists.put_body.Goals as goal

pub returns-in-Fly : goal.returns-in-Fly
returns-in-Fly g c =
    rw c.in-Fly.is
    (list_put (codes "flyrecord") part_line _ _ _ _ (cc (length-enumerate_from 0 c.in-Fly.parts)) (YieldsList-from_enumerate (YieldsList-from_slice c.in-Fly.parts cc) cc)
    (λ texts yields. c.put_list.ensures _ texts yields (λ _ _ _ _ _ _ put. search rules)))
