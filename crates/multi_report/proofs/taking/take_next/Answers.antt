use Rattle.std.proofs.Common.{refl}
use Rattle.multi_report.specs.Sources.{seen}
use Rattle.multi_report.proofs.Files.{same_one}
use Rattle.multi_report.proofs.TakenItems.{cut_told, taken_item, taken_read, taken_write}
use Rattle.multi_report.proofs.taking.take_next.Goals as goal

pub returns-in-Ok-make_source_ready-clause-taken : goal.returns-in-Ok-make_source_ready-clause-taken
returns-in-Ok-make_source_ready-clause-taken g c =
    let f = seen g.F.File g.L.LineFormat.text in
    taken_item (f c.args.source.now) (f c.use_item.new.source) (f c.make_source_ready.new.source) c.in-Item.i _ _ c.in-Item.ensures.holds.0 (λ known. c.in-Item.ensures.next _ known.stands)
    _ _ c.use_item.ensures c.make_source_ready.ensures.keeps c.in-Ok-make_source_ready.ensures.readied c.in-Ok-make_source_ready.ensures.key c.in-Ok.ensures.puts

pub returns-in-Err-make_source_ready-clause-taken : goal.returns-in-Err-make_source_ready-clause-taken
returns-in-Err-make_source_ready-clause-taken g c =
    let f = seen g.F.File g.L.LineFormat.text in
    taken_read (f c.args.source.now) (f c.use_item.new.source) (f c.make_source_ready.new.source) c.in-Item.i _ _ c.in-Item.ensures.holds.0 (λ known. c.in-Item.ensures.next _ known.stands)
    _ c.use_item.ensures c.make_source_ready.ensures.keeps c.in-Err-make_source_ready.ensures.cause.failed c.in-Ok.ensures.puts

pub returns-in-Err-clause-taken : goal.returns-in-Err-clause-taken
returns-in-Err-clause-taken g c =
    let a = seen g.F.File g.L.LineFormat.text c.args.source.now in
    taken_write a a a c.in-Item.i _ _ c.in-Item.ensures.holds.0 (λ known. c.in-Item.ensures.next _ known.stands) _ c.in-Err.ensures.puts

pub returns-in-Cut-clause-taken : goal.returns-in-Cut-clause-taken
returns-in-Cut-clause-taken g c =
    let a = seen g.F.File g.L.LineFormat.text c.args.source.now in
    record {
      same = same_one a;
      goes = tt;
      read = tt;
      taken = λ known. cut_told a _ c.in-Cut.i c.all-lanes.result.now c.index-lanes-i.result c.index-lanes-i-in-Cut.result c.all-lanes.ensures.value c.in-Cut.ensures.holds (c.in-Cut.ensures.next _ known.stands);
    }

pub returns-in-Done-clause-taken : goal.returns-in-Done-clause-taken
returns-in-Done-clause-taken g c =
    let a = seen g.F.File g.L.LineFormat.text c.args.source.now in
    record {
      same = same_one a;
      goes = tt;
      read = tt;
      taken = λ known. let next = c.in-Done.ensures.next _ known.stands in (record { nothing_put = refl; none = next.0 }, next.1);
    }
