use Rattle.std.proofs.Common.{◌-◌, arith}
use Rattle.subpage.specs.Marks.{bytes_from}
use Rattle.subpage.proofs.Runs.{found_before, none_before, plain_is_short, plain_passed, plain_too_late}
use Rattle.subpage.proofs.run.pass_plain.Goals as goal

pub returns-clause-passed : goal.returns-clause-passed
returns-clause-passed c =
    let l = c.args.layout.now in
    let page = c.args.page.now in
    let m = c.args.mark in
    let time = c.in-Some.time in
    let len = c.in-Some.len in
    let found = found_before l page m time len c.args.end c.bytes_behind.result.now c.requires.forward c.requires.within c.bytes_behind.ensures c.in-Some.ensures.told.1 c.in-Some.ensures.plain in
    let short = plain_is_short l.order m.time time len (bytes_from page m) found.enough found.plain in
    (plain_passed l page m time len c.requires.event c.requires.mark short found.plain, (found.ends, omega arith))

pub returns-in_default-clause-passed : goal.returns-in_default-clause-passed
returns-in_default-clause-passed c =
    none_before c.args.layout.now c.args.page.now c.args.mark c.args.end c.args.until c.bytes_behind.result.now c.requires.mark c.requires.forward c.requires.within c.bytes_behind.ensures c.in_default.ensures.plain

pub returns-then-until-time-clause-passed : goal.returns-then-until-time-clause-passed
returns-then-until-time-clause-passed c =
    let l = c.args.layout.now in
    let page = c.args.page.now in
    let m = c.args.mark in
    let found = found_before l page m c.in-Some.time c.in-Some.len c.args.end c.bytes_behind.result.now c.requires.forward c.requires.within c.bytes_behind.ensures c.in-Some.ensures.told.1 c.in-Some.ensures.plain in
    plain_too_late l page m c.in-Some.time c.in-Some.len (c.args.end - m.from) c.args.until found.plain (omega arith)
