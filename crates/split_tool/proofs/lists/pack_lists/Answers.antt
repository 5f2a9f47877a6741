use Rattle.std.proofs.Common.{rules, refl, arith, Ok, [], ◌+◌, ◌<◌, ◌≤◌, length, get_or, ap, ◌∙◌}
use Rattle.std.proofs.lemmas.List.{get_or-set_other, length-set}
use Rattle.std.proofs.lemmas.Result.{err_from_is_err_and}
use Rattle.trace_outside.proofs.Gains.{gained_nothing}
use Rattle.trace_outside.proofs.Keeping.{file_kept, file_still, sink_kept, sink_still}
use Rattle.trace_base.specs.declared.layout.Layout.{Layout}
use Rattle.time_merge.specs.declared.ending.End.TheVariants as end
use Rattle.time_merge.specs.declared.ending.IoFault.TheVariants as fault
use Rattle.event_cursor.proofs.Told.{told_all, told_again, told_map}
use Rattle.split_passes.proofs.AllPacked.{gains_more}
use Rattle.split_tool.proofs.Gone.{first_more, stands_there}
use Rattle.split_tool.proofs.Packing.{SameNumbers, all_numbers, done_told, fronts_there, held_there, kept_more, layout_at, lists_packed, never_fault, packed_more, packed_none, packing_all, packing_more, same_end, stopped_told}
use Rattle.split_tool.proofs.lists.pack_lists.Goals as goal

pub loop-i-init : goal.loop-i-init
loop-i-init g c = record {
  long = refl;
  kept = λ j d. record { same = refl; parts = refl };
  others = λ j d le. refl;
  whole = c.requires.whole;
  packed = told_all _ (g.F.File.bytes c.args.file.now) (λ file stands taken fronts. packed_none c.args.plan.now.header.now.layout file c.args.lists.now taken (g.O.Sink.written c.args.out.now));
  gains = ([], gained_nothing (g.O.Sink.written c.args.out.now));
  numbers = λ j d lt. absurd (omega (arith, lt));
  reads = omega arith;
  keeps_out = sink_still _ _;
  keeps = file_still _ _;
}

pub returns-clause-told : goal.returns-clause-told
returns-clause-told g c =
    let over : length c.args.lists.now ≤ c.loop-i.i = search rules in
    told_map _ _ (g.F.File.bytes c.args.file.now) (λ file p stands taken fronts.
    lists_packed c.args.plan.now.header.now.layout file c.loop-i.i c.args.lists.now c.loop-i.lists taken _ _ c.loop-i.invariant.long over stands (p stands taken fronts))
    c.loop-i.invariant.packed

pub returns-clause-numbers : goal.returns-clause-numbers
returns-clause-numbers g c =
    let over : length c.args.lists.now ≤ c.loop-i.i = search rules in
    λ done. all_numbers c.loop-i.i c.args.lists.now c.loop-i.lists c.loop-i.invariant.long over c.loop-i.invariant.numbers

pub returns-clause-reads : goal.returns-clause-reads
returns-clause-reads g c =
    packing_all (g.F.File.size c.args.file.now) c.loop-i.i c.args.lists.now _ _ c.loop-i.invariant.reads

pub loop-i-preserved : goal.loop-i-preserved
loop-i-preserved g c =
    let l = c.args.plan.now.header.now.layout in
    let i = c.loop-i.i in
    let d = c.index-lists-i.result in
    let x = get_or c.loop-i.lists i d in
    let new = c.pack.new.self in
    let v = c.loop-i.invariant in
    let lt : i < length c.loop-i.lists = search rules in
    let layout = layout_at l i c.args.lists.now c.loop-i.lists d v.long v.others c.requires.lists.layouts lt in
    record {
      long = length-set c.loop-i.lists i new ∙ v.long;
      kept = kept_more i c.args.lists.now c.loop-i.lists d new lt v.others (record { same = c.pack.ensures.kept; parts = c.pack.ensures.parts }) v.kept;
      others = λ j e le. get_or-set_other c.loop-i.lists i j new e (λ is. omega (arith, le, is)) ∙ v.others j e (omega (arith, le));
      whole = c.pack.ensures.whole ∙ ap (λ (k : Layout). k.page) layout;
      packed = told_again _ _ _ (g.F.File.bytes c.args.file.now) (g.F.File.bytes c.loop-i.file) v.keeps.bytes (λ file p one stands taken fronts.
          packed_more l x.layout file i c.args.lists.now c.loop-i.lists d new taken _ _ _ lt v.long v.others layout
          (done_told x.layout file _ _ _ c.in_ok-end.end c.in-Done.is
          (one (stands_there file i c.args.lists.now c.loop-i.lists d lt v.long v.others stands) _ (fronts_there file i c.args.lists.now c.loop-i.lists d taken lt v.long v.others fronts)))
          (p stands taken fronts))
          v.packed c.in_ok-end.ensures.told;
      gains = gains_more _ _ _ v.gains (c.in_ok-end.ensures.gains (ap Ok c.in-Done.is));
      numbers = first_more SameNumbers i c.args.lists.now c.loop-i.lists d new lt v.others (c.in_ok-end.ensures.numbers (ap Ok c.in-Done.is)) v.numbers;
      reads = packing_more (g.F.File.size c.args.file.now) (g.F.File.size c.loop-i.file) i c.args.lists.now c.loop-i.lists d _ _ _ lt v.long v.others v.keeps.size v.reads c.pack.ensures.reads;
      keeps_out = sink_kept v.keeps_out c.pack.ensures.keeps_out;
      keeps = file_kept v.keeps c.pack.ensures.keeps;
    }

pub returns-in_default-clause-kept : goal.returns-in_default-clause-kept
returns-in_default-clause-kept g c =
    let l = c.args.plan.now.header.now.layout in
    let i = c.loop-i.i in
    let d = c.index-lists-i.result in
    let x = get_or c.loop-i.lists i d in
    let new = c.pack.new.self in
    let v = c.loop-i.invariant in
    let lt : i < length c.loop-i.lists = search rules in
    let layout = layout_at l i c.args.lists.now c.loop-i.lists d v.long v.others c.requires.lists.layouts lt in
    λ j e inside. kept_more i c.args.lists.now c.loop-i.lists d new lt v.others (record { same = c.pack.ensures.kept; parts = c.pack.ensures.parts }) v.kept j e

pub returns-in_default-clause-long : goal.returns-in_default-clause-long
returns-in_default-clause-long g c =
    length-set c.loop-i.lists c.loop-i.i c.pack.new.self ∙ c.loop-i.invariant.long

pub returns-in_default-clause-whole : goal.returns-in_default-clause-whole
returns-in_default-clause-whole g c =
    let l = c.args.plan.now.header.now.layout in
    let i = c.loop-i.i in
    let d = c.index-lists-i.result in
    let x = get_or c.loop-i.lists i d in
    let new = c.pack.new.self in
    let v = c.loop-i.invariant in
    let lt : i < length c.loop-i.lists = search rules in
    let layout = layout_at l i c.args.lists.now c.loop-i.lists d v.long v.others c.requires.lists.layouts lt in
    c.pack.ensures.whole ∙ ap (λ (k : Layout). k.page) layout

pub returns-in_default-clause-told : goal.returns-in_default-clause-told
returns-in_default-clause-told g c =
    let l = c.args.plan.now.header.now.layout in
    let i = c.loop-i.i in
    let d = c.index-lists-i.result in
    let x = get_or c.loop-i.lists i d in
    let new = c.pack.new.self in
    let v = c.loop-i.invariant in
    let lt : i < length c.loop-i.lists = search rules in
    let layout = layout_at l i c.args.lists.now c.loop-i.lists d v.long v.others c.requires.lists.layouts lt in
    told_again _ _ _ (g.F.File.bytes c.args.file.now) (g.F.File.bytes c.loop-i.file) v.keeps.bytes (λ file p one stands taken fronts.
    stopped_told l x.layout file _ _ _ _ _ _ c.in_ok-end.end c.in_default.not-Done
    (one (stands_there file i c.args.lists.now c.loop-i.lists d lt v.long v.others stands) _ (fronts_there file i c.args.lists.now c.loop-i.lists d taken lt v.long v.others fronts)))
    v.packed c.in_ok-end.ensures.told

pub returns-in_default-clause-malformed : goal.returns-in_default-clause-malformed
returns-in_default-clause-malformed g c =
    let l = c.args.plan.now.header.now.layout in
    let i = c.loop-i.i in
    let d = c.index-lists-i.result in
    let x = get_or c.loop-i.lists i d in
    let new = c.pack.new.self in
    let v = c.loop-i.invariant in
    let lt : i < length c.loop-i.lists = search rules in
    let layout = layout_at l i c.args.lists.now c.loop-i.lists d v.long v.others c.requires.lists.layouts lt in
    held_there x.all c.loop-i.lists i new (Ok c.in_ok-end.end) lt c.in_ok-end.ensures.malformed

pub returns-in_default-clause-reads : goal.returns-in_default-clause-reads
returns-in_default-clause-reads g c =
    let l = c.args.plan.now.header.now.layout in
    let i = c.loop-i.i in
    let d = c.index-lists-i.result in
    let x = get_or c.loop-i.lists i d in
    let new = c.pack.new.self in
    let v = c.loop-i.invariant in
    let lt : i < length c.loop-i.lists = search rules in
    let layout = layout_at l i c.args.lists.now c.loop-i.lists d v.long v.others c.requires.lists.layouts lt in
    packing_all (g.F.File.size c.args.file.now) (i + 1) c.args.lists.now _ _
    (packing_more (g.F.File.size c.args.file.now) (g.F.File.size c.loop-i.file) i c.args.lists.now c.loop-i.lists d _ _ _ lt v.long v.others v.keeps.size v.reads c.pack.ensures.reads)

pub returns-in_default-clause-gains : goal.returns-in_default-clause-gains
returns-in_default-clause-gains g c = λ done. absurd (c.in_default.not-Done (same_end c.in_ok-end.end end.Done (Ok c.in_ok-end.end) refl done))

pub returns-in_default-clause-numbers : goal.returns-in_default-clause-numbers
returns-in_default-clause-numbers g c = λ done. absurd (c.in_default.not-Done (same_end c.in_ok-end.end end.Done (Ok c.in_ok-end.end) refl done))

pub returns-in_default-clause-keeps_out : goal.returns-in_default-clause-keeps_out
returns-in_default-clause-keeps_out g c = sink_kept c.loop-i.invariant.keeps_out c.pack.ensures.keeps_out

pub returns-in_default-clause-keeps : goal.returns-in_default-clause-keeps
returns-in_default-clause-keeps g c = file_kept c.loop-i.invariant.keeps c.pack.ensures.keeps

pub returns-in_default-clause-read : goal.returns-in_default-clause-read
returns-in_default-clause-read g c = λ is. absurd (never_fault c.in_ok-end.end fault.Read (Ok c.in_ok-end.end) refl is)

pub returns-in_default-clause-write : goal.returns-in_default-clause-write
returns-in_default-clause-write g c = λ is. absurd (never_fault c.in_ok-end.end fault.Write (Ok c.in_ok-end.end) refl is)

pub returns-in_err-end-clause-kept : goal.returns-in_err-end-clause-kept
returns-in_err-end-clause-kept g c =
    let l = c.args.plan.now.header.now.layout in
    let i = c.loop-i.i in
    let d = c.index-lists-i.result in
    let x = get_or c.loop-i.lists i d in
    let new = c.pack.new.self in
    let v = c.loop-i.invariant in
    let lt : i < length c.loop-i.lists = search rules in
    let layout = layout_at l i c.args.lists.now c.loop-i.lists d v.long v.others c.requires.lists.layouts lt in
    λ j e inside. kept_more i c.args.lists.now c.loop-i.lists d new lt v.others (record { same = c.pack.ensures.kept; parts = c.pack.ensures.parts }) v.kept j e

pub returns-in_err-end-clause-long : goal.returns-in_err-end-clause-long
returns-in_err-end-clause-long g c =
    length-set c.loop-i.lists c.loop-i.i c.pack.new.self ∙ c.loop-i.invariant.long

pub returns-in_err-end-clause-whole : goal.returns-in_err-end-clause-whole
returns-in_err-end-clause-whole g c =
    let l = c.args.plan.now.header.now.layout in
    let i = c.loop-i.i in
    let d = c.index-lists-i.result in
    let x = get_or c.loop-i.lists i d in
    let new = c.pack.new.self in
    let v = c.loop-i.invariant in
    let lt : i < length c.loop-i.lists = search rules in
    let layout = layout_at l i c.args.lists.now c.loop-i.lists d v.long v.others c.requires.lists.layouts lt in
    c.pack.ensures.whole ∙ ap (λ (k : Layout). k.page) layout

pub returns-in_err-end-clause-told : goal.returns-in_err-end-clause-told
returns-in_err-end-clause-told g c =
    let p = err_from_is_err_and c.from_residual.result c.from_residual.ensures.1 in
    rw p.1 (told_all _ (g.F.File.bytes c.args.file.now) (λ file stands taken fronts. tt))

pub returns-in_err-end-clause-reads : goal.returns-in_err-end-clause-reads
returns-in_err-end-clause-reads g c =
    let l = c.args.plan.now.header.now.layout in
    let i = c.loop-i.i in
    let d = c.index-lists-i.result in
    let x = get_or c.loop-i.lists i d in
    let new = c.pack.new.self in
    let v = c.loop-i.invariant in
    let lt : i < length c.loop-i.lists = search rules in
    let layout = layout_at l i c.args.lists.now c.loop-i.lists d v.long v.others c.requires.lists.layouts lt in
    packing_all (g.F.File.size c.args.file.now) (i + 1) c.args.lists.now _ _
    (packing_more (g.F.File.size c.args.file.now) (g.F.File.size c.loop-i.file) i c.args.lists.now c.loop-i.lists d _ _ _ lt v.long v.others v.keeps.size v.reads c.pack.ensures.reads)

pub returns-in_err-end-clause-keeps_out : goal.returns-in_err-end-clause-keeps_out
returns-in_err-end-clause-keeps_out g c = sink_kept c.loop-i.invariant.keeps_out c.pack.ensures.keeps_out

pub returns-in_err-end-clause-keeps : goal.returns-in_err-end-clause-keeps
returns-in_err-end-clause-keeps g c = file_kept c.loop-i.invariant.keeps c.pack.ensures.keeps

pub returns-in_err-end-clause-read : goal.returns-in_err-end-clause-read
returns-in_err-end-clause-read g c =
    let p = err_from_is_err_and c.from_residual.result c.from_residual.ensures.1 in
    rw (p.1, p.2) (λ is. let rose = c.in_err-end.ensures.read is in omega (arith, rose, c.loop-i.invariant.keeps.later))

pub returns-in_err-end-clause-write : goal.returns-in_err-end-clause-write
returns-in_err-end-clause-write g c =
    let p = err_from_is_err_and c.from_residual.result c.from_residual.ensures.1 in
    rw (p.1, p.2) (λ is. let rose = c.in_err-end.ensures.write is in omega (arith, rose, c.loop-i.invariant.keeps_out.later))
