use Rattle.std.proofs.Common.{◌<◌, arith}
use Rattle.tournament_tree.specs.Nodes.{mark_of}
use Rattle.tournament_tree.specs.declared.slot_key.SlotKey.TheVariants.{At}
use Rattle.tournament_tree.proofs.Beside.{if_some, least_with}
use Rattle.tournament_tree.proofs.trees.TournamentTree.up_to.Goals as goal

pub returns : goal.returns
returns c =
    let e = c.least_beside.ensures in
    if_some c.key_before.result c.key_before.ensures (λ until before key le.
    let mark : mark_of c.args.slot (At key) < c.least_beside.result = omega (arith, before, le) in
    least_with c.args.self.now c.args.slot c.least_beside.result key c.requires e.few e.least mark)
