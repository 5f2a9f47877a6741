use Rattle.std.proofs.Common.{true, false, sym, ◌∙◌}
use Rattle.std.proofs.lemmas.Result.{IfOk-weaker}
use Rattle.split_tool.proofs.NewLists.{alone_cover, are_lists, own_cover}
use Rattle.split_tool.proofs.grouping.lists_over.Goals as goal

pub returns-then-is_apart-clause-lists : goal.returns-then-is_apart-clause-lists
returns-then-is_apart-clause-lists c =
    IfOk-weaker c.own_lists.result _ _ (λ lists own.
    are_lists c.args.rules.now c.args.header.now true c.args.parts.now lists.items (sym c.is_apart.ensures ∙ c.if-is_apart.true) c.requires.rise c.requires.cpus (own_cover c.args.header.now.layout c.args.parts.now lists.items own))
    c.own_lists.ensures

pub returns-then-is_apart-clause-parts : goal.returns-then-is_apart-clause-parts
returns-then-is_apart-clause-parts c =
    IfOk-weaker c.own_lists.result _ _ (λ lists own. (own_cover c.args.header.now.layout c.args.parts.now lists.items own).parts_are) c.own_lists.ensures

pub returns-then-is_apart-clause-fresh : goal.returns-then-is_apart-clause-fresh
returns-then-is_apart-clause-fresh c =
    IfOk-weaker c.own_lists.result _ _ (λ lists own. (own_cover c.args.header.now.layout c.args.parts.now lists.items own).fresh) c.own_lists.ensures

pub returns-else-is_apart-clause-lists : goal.returns-else-is_apart-clause-lists
returns-else-is_apart-clause-lists c =
    IfOk-weaker c.one_list.result _ _ (λ lists one.
    are_lists c.args.rules.now c.args.header.now false c.args.parts.now lists.items (sym c.is_apart.ensures ∙ c.if-is_apart.false) c.requires.rise c.requires.cpus (alone_cover c.args.header.now.layout c.args.parts.now lists.items one))
    c.one_list.ensures

pub returns-else-is_apart-clause-parts : goal.returns-else-is_apart-clause-parts
returns-else-is_apart-clause-parts c =
    IfOk-weaker c.one_list.result _ _ (λ lists one. (alone_cover c.args.header.now.layout c.args.parts.now lists.items one).parts_are) c.one_list.ensures

pub returns-else-is_apart-clause-fresh : goal.returns-else-is_apart-clause-fresh
returns-else-is_apart-clause-fresh c =
    IfOk-weaker c.one_list.result _ _ (λ lists one. (alone_cover c.args.header.now.layout c.args.parts.now lists.items one).fresh) c.one_list.ensures
