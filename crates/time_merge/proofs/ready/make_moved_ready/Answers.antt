use Rattle.std.proofs.Common.{rules, ◌<◌, length, arith}
use Rattle.trace_outside.proofs.Gains.{on_err}
use Rattle.time_merge.proofs.Advancing.{same_length}
use Rattle.time_merge.proofs.MakingReady.{all_loaded, one_loaded, one_ready, read_failed, up_to_end, up_to_mark}
use Rattle.time_merge.proofs.ready.make_moved_ready.Goals as goal

pub loop-i-preserved : goal.loop-i-preserved
loop-i-preserved g c =
    let first = c.args.lanes.now in
    let now = c.loop-i.lanes in
    let i = c.in-Some.i in
    let mark = c.in-Some.ensures in
    let before = c.loop-i.invariant.so_far in
    let inside : i < length now = omega (arith, mark.inside, c.requires.marks, same_length now first before.parts) in
    let here = up_to_mark g.F.File c.args.file.now first c.loop-i.file now c.args.moved.now c.loop-i.from c.requires.marks c.requires.unmoved before i mark in
    record {
      within = omega (arith, mark.inside);
      so_far = one_ready g.F.File c.args.file.now first c.loop-i.file now i here c.make_ready.new.file c.index-lanes-i.result c.make_ready.new.lane inside
          c.in_ok-make_ready.ensures.loads c.in_ok-make_ready.ensures.kept c.in_ok-make_ready.ensures.ready c.in_ok-make_ready.ensures.cause.kept;
    }

pub returns-in_err-make_ready-clause-makes_ready : goal.returns-in_err-make_ready-clause-makes_ready
returns-in_err-make_ready-clause-makes_ready g c =
    let first = c.args.lanes.now in
    let now = c.loop-i.lanes in
    let i = c.in-Some.i in
    let mark = c.in-Some.ensures in
    let before = c.loop-i.invariant.so_far in
    let inside : i < length now = omega (arith, mark.inside, c.requires.marks, same_length now first before.parts) in
    let here = up_to_mark g.F.File c.args.file.now first c.loop-i.file now c.args.moved.now c.loop-i.from c.requires.marks c.requires.unmoved before i mark in
    let done = one_loaded g.F.File c.args.file.now first c.loop-i.file now i here c.make_ready.new.file c.index-lanes-i.result c.make_ready.new.lane inside
    c.make_ready.ensures.loads c.make_ready.ensures.kept in
    record {
      loads = done.loads;
      ready = search rules;
      each = done.each;
      cause = read_failed _ _ _ c.from_residual.result before.faults c.from_residual.ensures.0 c.in_err-make_ready.ensures.cause.later c.in_err-make_ready.ensures.cause.failed;
      reads_done = search rules;
      stops = on_err c.from_residual.result done.stopped;
    }

pub returns-clause-makes_ready : goal.returns-clause-makes_ready
returns-clause-makes_ready g c =
    let first = c.args.lanes.now in
    let now = c.loop-i.lanes in
    let before = c.loop-i.invariant in
    let done = up_to_end g.F.File c.args.file.now first c.loop-i.file now c.args.moved.now c.loop-i.from c.requires.marks c.requires.unmoved before.so_far before.within c.in_default.ensures in
    record {
      loads = all_loaded g.F.File c.args.file.now first c.loop-i.file now done;
      ready = λ j d less. done.ready j d (omega arith) less;
      each = done.each;
      cause = search rules;
      reads_done = done.reads;
      stops = search rules;
    }
