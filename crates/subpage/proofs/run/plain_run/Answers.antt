use Rattle.std.proofs.Common.{◌-◌, length, arith}
use Rattle.subpage.specs.Run.{run_bytes}
use Rattle.subpage.proofs.Runs.{run_long, none_within}
use Rattle.subpage.proofs.run.plain_run.Goals as goal

pub returns-in_default : goal.returns-in_default
returns-in_default c = λ event some. none_within c.args.layout.now c.args.page.now c.args.mark c.end_within-end.result c.args.limits.now.bytes c.args.limits.now.until c.requires c.end_within-end.ensures c.in_default.ensures.passed

pub returns : goal.returns
returns c =
    let l = c.args.layout.now in
    let page = c.args.page.now in
    let r = c.longest_run.result in
    let e = c.longest_run.ensures in
    let limit = c.end_within-end.ensures in
    let first = c.in-Some.ensures.same in
    let long = run_long l page c.args.mark r.0 r.1 e.run in
    record {
      run = e.run;
      some = e.some;
      few = e.few;
      fits = omega (arith, long, e.end, e.run.forward, limit);
      in_time = e.in_time;
      longest = λ more. none_within l page r.0 c.end_within-end.result (c.args.limits.now.bytes - length (run_bytes page c.args.mark r.0)) c.args.limits.now.until e.run.there (omega (arith, long, e.end, e.run.forward, e.same, first, limit)) (e.longest more);
    }
