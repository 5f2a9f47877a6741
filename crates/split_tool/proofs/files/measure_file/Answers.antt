use Rattle.std.proofs.Common.{◌≡◌, length, arith, ap, ◌∙◌}
use Rattle.std.proofs.lemmas.List.{take_at}
use Rattle.std.proofs.lemmas.Result.{err_from_is_err_and}
use Rattle.split_tool.specs.Lists.{lanes_of}
use Rattle.split_tool.proofs.Budget.{all_done, loaded_out, loaded_stops, measured_spent}
use Rattle.split_tool.proofs.Flat.{goes_kept, own_layouts, parts_flat}
use Rattle.split_tool.proofs.Making.{still_cut, still_lists}
use Rattle.split_tool.proofs.Preparing.{prepared_told, prepared_back}
use Rattle.split_tool.proofs.files.measure_file.Goals as goal

pub measure_lists-requires : goal.measure_lists-requires
measure_lists-requires g c =
    let go = c.begin_lists.ensures.go in
    still_lists c.args.plan.now.rules c.args.plan.now.header.now c.args.lists.now c.begin_lists.new.lists go.long (goes_kept c.args.lists.now c.begin_lists.new.lists go.each) c.requires.are

pub fill_table-requires : goal.fill_table-requires
fill_table-requires g c =
    let go = c.begin_lists.ensures.go in
    let go2 = c.measure_lists.ensures.go in
    let ready = c.begin_lists.new.lists in
    let now = c.measure_lists.new.lists in
    let rules = c.args.plan.now.rules in
    let header = c.args.plan.now.header.now in
    let first = still_lists rules header c.args.lists.now ready go.long (goes_kept c.args.lists.now ready go.each) c.requires.are in
    let lists = still_lists rules header ready now go2.long (goes_kept ready now go2.each) first in
    λ i d lt. let below = lists.cpus i d lt in omega (arith, below, ap length c.as_mut_slice.ensures.value, c.requires.lent.table)

pub returns-in_err-begin_lists-clause-cut : goal.returns-in_err-begin_lists-clause-cut
returns-in_err-begin_lists-clause-cut g c =
    let go = c.begin_lists.ensures.go in
    let now = c.begin_lists.new.lists in
    still_cut c.args.plan.now.rules c.args.plan.now.header.now c.args.lists.now now c.args.work.now _ go.long (goes_kept c.args.lists.now now go.each) c.requires.lent c.requires

pub returns-in_err-begin_lists-clause-parts : goal.returns-in_err-begin_lists-clause-parts
returns-in_err-begin_lists-clause-parts g c = let go = c.begin_lists.ensures.go in parts_flat c.args.lists.now c.begin_lists.new.lists go.long go.each

pub returns-in_err-ends-clause-cut : goal.returns-in_err-ends-clause-cut
returns-in_err-ends-clause-cut g c =
    let go = c.begin_lists.ensures.go in
    let go2 = c.measure_lists.ensures.go in
    let ready = c.begin_lists.new.lists in
    let now = c.measure_lists.new.lists in
    still_cut c.args.plan.now.rules c.args.plan.now.header.now ready now c.args.work.now _ go2.long (goes_kept ready now go2.each) c.requires.lent
    (still_cut c.args.plan.now.rules c.args.plan.now.header.now c.args.lists.now ready c.args.work.now c.args.work.now go.long (goes_kept c.args.lists.now ready go.each) c.requires.lent c.requires)

pub returns-in_err-ends-clause-parts : goal.returns-in_err-ends-clause-parts
returns-in_err-ends-clause-parts g c =
    let go = c.begin_lists.ensures.go in
    let go2 = c.measure_lists.ensures.go in
    parts_flat c.begin_lists.new.lists c.measure_lists.new.lists go2.long go2.each ∙ parts_flat c.args.lists.now c.begin_lists.new.lists go.long go.each

pub returns-clause-parts : goal.returns-clause-parts
returns-clause-parts g c =
    let go = c.begin_lists.ensures.go in
    let go2 = c.measure_lists.ensures.go in
    parts_flat c.begin_lists.new.lists c.measure_lists.new.lists go2.long go2.each ∙ parts_flat c.args.lists.now c.begin_lists.new.lists go.long go.each

pub returns-clause-cut : goal.returns-clause-cut
returns-clause-cut g c =
    let go = c.begin_lists.ensures.go in
    let go2 = c.measure_lists.ensures.go in
    let ready = c.begin_lists.new.lists in
    let now = c.measure_lists.new.lists in
    let table_long : length c.fill_table.new.table ≡ c.args.work.now.table.len = omega (arith, c.as_mut_slice.ensures.len, c.fill_table.auto.table) in
    let for = c.requires.lent in
    still_cut c.args.plan.now.rules c.args.plan.now.header.now ready now c.args.work.now _ go2.long (goes_kept ready now go2.each)
    (record {
      table = ap length (take_at c.fill_table.new.table _ c.args.work.now.table.len table_long) ∙ omega (arith, c.fill_table.auto.table, ap length c.as_mut_slice.ensures.value, for.table);
      page = for.page;
      before = for.before;
      at = for.at;
    })
    (still_cut c.args.plan.now.rules c.args.plan.now.header.now c.args.lists.now ready c.args.work.now c.args.work.now go.long (goes_kept c.args.lists.now ready go.each) c.requires.lent c.requires)

pub returns-clause-told : goal.returns-clause-told
returns-clause-told g c =
    let header = c.args.plan.now.header.now in
    let rules = c.args.plan.now.rules in
    let work = c.args.work.now in
    let first = c.args.lists.now in
    let ready = c.begin_lists.new.lists in
    let now = c.measure_lists.new.lists in
    let go = c.begin_lists.ensures.go in
    let go2 = c.measure_lists.ensures.go in
    let table_long : length c.fill_table.new.table ≡ work.table.len = omega (arith, c.as_mut_slice.ensures.len, c.fill_table.auto.table) in
    let lists = still_lists rules header ready now go2.long (goes_kept ready now go2.each) (still_lists rules header first ready go.long (goes_kept first ready go.each) c.requires.are) in
    prepared_back header rules first now c.fill_table.new.table _ c.in_ok-ends.ends (g.F.File.bytes c.args.file.now) (take_at c.fill_table.new.table _ work.table.len table_long)
    (prepared_told header rules first ready now c.as_mut_slice.result.now c.fill_table.new.table work.at c.in_ok-ends.ends (g.F.File.bytes c.args.file.now) (g.F.File.bytes c.begin_lists.new.file) go.keeps.bytes
    c.requires.allowed (own_layouts header.layout first c.requires.are.layouts c.in_ok-begin_lists.ensures.layouts) lists go.long go2.long go.each go2.each c.in_ok-begin_lists.ensures.begun c.in_ok-ends.ensures.done c.requires.lent.at (ap length c.as_mut_slice.ensures.value ∙ c.requires.lent.table)
    c.fill_table.ensures c.in_ok-begin_lists.ensures.told c.in_ok-ends.ensures.told)

pub returns-clause-reads : goal.returns-clause-reads
returns-clause-reads g c =
    let size = g.F.File.size c.args.file.now in
    let go = c.begin_lists.ensures.go in
    let go2 = c.measure_lists.ensures.go in
    measured_spent size (g.F.File.size c.begin_lists.new.file) c.args.lists.now c.begin_lists.new.lists c.measure_lists.new.lists _ _ _ go.keeps.size go.long go2.long go.each go2.each
    c.in_ok-begin_lists.ensures.begun c.in_ok-ends.ensures.done c.in_ok-begin_lists.ensures.reads_done go.unread c.in_ok-ends.ensures.reads_done go2.unread

pub returns-in_err-ends-clause-reads : goal.returns-in_err-ends-clause-reads
returns-in_err-ends-clause-reads g c =
    let go = c.begin_lists.ensures.go in
    let go2 = c.measure_lists.ensures.go in
    let p = err_from_is_err_and c.from_residual-in_err-ends.result c.from_residual-in_err-ends.ensures.1 in
    rw p.1 (loaded_out (g.F.File.size c.args.file.now) (g.F.File.size c.begin_lists.new.file) (lanes_of c.args.lists.now) (lanes_of c.begin_lists.new.lists) _ _ _
    go.keeps.size c.in_ok-begin_lists.ensures.reads_done go.unread
    (all_done (g.F.File.size c.begin_lists.new.file) (lanes_of c.measure_lists.new.lists) _ _ _ go2.unread go2.reads))

pub returns-in_err-begin_lists-clause-reads : goal.returns-in_err-begin_lists-clause-reads
returns-in_err-begin_lists-clause-reads g c =
    let go = c.begin_lists.ensures.go in
    let p = err_from_is_err_and c.from_residual.result c.from_residual.ensures.1 in
    rw p.1 (loaded_stops (g.F.File.size c.args.file.now) (lanes_of c.args.lists.now) (lanes_of c.begin_lists.new.lists) _ _ go.reads go.unread)
