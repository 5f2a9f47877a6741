use Rattle.std.proofs.Common.{◌<◌, ◌≤◌, ◌*◌, ℕ, List, subst, sym, ap, ◌∙◌}
use Rattle.std.specs.Prelude.{sum_by}
use Rattle.std.specs.List.{All}
use Rattle.trace_base.specs.declared.part.Part.{Part}
use Rattle.trace_outside.specs.Causes.{raised}
use Rattle.trace_args.specs.Command.{split_view}
use Rattle.dat_header.specs.declared.header.Header.{Header}
use Rattle.subpage.specs.Arrangement.{CpusRise}
use Rattle.page_pool.specs.Fresh.{IsFresh}
use Rattle.page_pool.specs.declared.lane.Lane.{Lane}
use Rattle.time_merge.specs.LaneRows.{parts_of}
use Rattle.split_pieces.specs.Pieces.{IsUnit}
use Rattle.split_pieces.specs.declared.rules.Rules.{Rules}
use Rattle.split_passes.specs.ListSeen.{ListSeen}
use Rattle.split_tool.specs.Lists.{lanes_of}
use Rattle.split_tool.specs.Work.{AreLists}
use Rattle.run_endings.proofs.Faultless.{end_kept}
use Rattle.run_endings.specs.Outside.{folder_seen}
use Rattle.split_run.specs.Split.{taken_of}
use Rattle.split_run.proofs.Requested.{asks_cut, folder_left, unbegun}
use Rattle.split_run.proofs.Splits.{cut}
use Rattle.split_run.proofs.Taken.{taken_below, taken_rise}
use Rattle.split_run.proofs.split.cut_file.Goals as goal

pub lists_over-requires-clause-rise : goal.lists_over-requires-clause-rise
lists_over-requires-clause-rise g c =
    let are = c.deref.ensures.value ∙ c.in-Ok.ensures.taken in
    subst (λ (ps : List (ℕ × Part)). CpusRise ps) (sym are) (taken_rise c.args.words.now.cpu c.args.header.body)

pub lists_over-requires-clause-cpus : goal.lists_over-requires-clause-cpus
lists_over-requires-clause-cpus g c =
    let are = c.deref.ensures.value ∙ c.in-Ok.ensures.taken in
    subst (λ (ps : List (ℕ × Part)). All (λ (part : ℕ × Part). part.0 < c.drop_instances.new.self.cpus) ps) (sym are)
    (subst (λ (n : ℕ). All (λ (part : ℕ × Part). part.0 < n) (taken_of c.args.words.now.cpu c.args.header.body)) (sym (ap (λ (h : Header). h.cpus) c.drop_instances.ensures.dropped))
    (taken_below c.args.words.now.cpu c.args.header.cpus c.args.header.body c.requires.allowed.body))

pub split-requires-clause-fresh : goal.split-requires-clause-fresh
split-requires-clause-fresh g c =
    subst (λ (lists : List ListSeen). All (λ (lane : Lane). IsFresh lane.cursor) (lanes_of lists)) (sym c.as_mut_slice.ensures.value) c.in-Ok-Ok.ensures.fresh

pub split-requires-clause-unit : goal.split-requires-clause-unit
split-requires-clause-unit g c = subst (λ (rules : Rules). IsUnit rules.unit) (sym c.rules_of-rules.ensures) c.requires.words.unit

pub split-requires-clause-lists : goal.split-requires-clause-lists
split-requires-clause-lists g c =
    subst (λ (lists : List ListSeen). AreLists c.rules_of-rules.result c.drop_instances.new.self lists) (sym c.as_mut_slice.ensures.value) c.in-Ok-Ok.ensures.lists

pub returns-clause-makes : goal.returns-clause-makes
returns-clause-makes g c =
    let are = ap (λ (lists : List ListSeen). parts_of (lanes_of lists)) c.as_mut_slice.ensures.value ∙ c.in-Ok-Ok.ensures.parts ∙ c.deref.ensures.value ∙ c.in-Ok.ensures.taken in
    rw c.status_of_end.ensures
    (cut _ (split_view c.args.words.now) c.rules_of-rules.result c.args.header c.drop_instances.new.self _ _ _ _ c.split.result
    c.rules_of-rules.ensures c.drop_instances.ensures.dropped are c.split.ensures.told c.split.ensures.created c.split.ensures.read c.split.ensures.write)

pub returns-clause-kept : goal.returns-clause-kept
returns-clause-kept g c = rw c.status_of_end.ensures (end_kept _ c.split.result)

pub returns-clause-leaves : goal.returns-clause-leaves
returns-clause-leaves g c = rw c.status_of_end.ensures (folder_left c.args.words.now.base.now _ _ _ c.split.result c.split.ensures.leaves)

pub returns-in_default-clause-requested : goal.returns-in_default-clause-requested
returns-in_default-clause-requested g c = unbegun c.args.words.now.base.now _ _

pub returns-in_default-2-clause-requested : goal.returns-in_default-2-clause-requested
returns-in_default-2-clause-requested g c = unbegun c.args.words.now.base.now _ _

pub returns-clause-requested : goal.returns-clause-requested
returns-clause-requested g c =
    let are = ap (λ (lists : List ListSeen). parts_of (lanes_of lists)) c.as_mut_slice.ensures.value ∙ c.in-Ok-Ok.ensures.parts ∙ c.deref.ensures.value ∙ c.in-Ok.ensures.taken in
    asks_cut (split_view c.args.words.now) c.rules_of-rules.result c.args.header c.drop_instances.new.self _ _ _ (folder_seen g.F.Folder c.args.folder.now) (folder_seen g.F.Folder c.split.new.folder) c.split.result
    c.rules_of-rules.ensures c.drop_instances.ensures.dropped are c.split.ensures.requested c.split.ensures.leaves

pub returns-clause-reads : goal.returns-clause-reads
returns-clause-reads g c =
    let are = ap (λ (lists : List ListSeen). parts_of (lanes_of lists)) c.as_mut_slice.ensures.value ∙ c.in-Ok-Ok.ensures.parts ∙ c.deref.ensures.value ∙ c.in-Ok.ensures.taken in
    subst (λ (parts : List (ℕ × Part)). g.F.In.File.reads c.split.new.file ≤ raised (g.F.In.File.reads c.args.file.now) (3 * sum_by (λ part. part.1.size) parts)) are c.split.ensures.reads
