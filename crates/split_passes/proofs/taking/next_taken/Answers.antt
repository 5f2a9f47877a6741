use Rattle.std.proofs.Common.{ℕ, List, Option, Some, sym, ap, subst, ◌∙◌}
use Rattle.subpage.specs.declared.run.RunLimits.{RunLimits}
use Rattle.subpage.specs.Marks.{IsMark}
use Rattle.subpage.specs.Run.{IsRunFound}
use Rattle.page_pool.specs.declared.cursor.Ahead.{Ahead}
use Rattle.page_pool.specs.InOrder.{TellsAhead}
use Rattle.split_passes.proofs.TurnLaws.{run_allowed, run_within}
use Rattle.split_passes.proofs.taking.next_taken.Goals as goal

pub plain_run-requires : goal.plain_run-requires
plain_run-requires c =
    let a = c.args.lane.now in
    subst (λ (p : List ℕ). IsMark c.args.lane.now.layout p a.cursor.mark) (sym c.bytes.ensures) (c.args.lane.now.in_order.held c.requires.held).mark

pub returns-in-Some-found_within : goal.returns-in-Some-found_within
returns-in-Some-found_within c =
    let l = c.args.lane.now.layout in
    let a = c.args.lane.now in
    let has : TellsAhead l a.page a.cursor.mark a.cursor.high (Some c.in-Some.ahead) =
    subst (λ (ahead : Option Ahead). TellsAhead l a.page a.cursor.mark a.cursor.high ahead) c.in-Some.is (c.args.lane.now.in_order.held c.requires.held).ahead in
    run_within a c.args.limits.now c.args.tally.now c.in-Some.ahead c.in-Some-found_within.known.0 c.in-Some-found_within.known.1 has c.if-limits-ahead.false
    (λ xs count. sym (c.in-Some-last_time.ensures l xs count) ∙ ap (λ (n : ℕ). Some n) (c.if-time.false ∙ c.time.ensures)) c.in-Some-found_within.ensures

pub returns : goal.returns
returns c =
    let l = c.args.lane.now.layout in
    let a = c.args.lane.now in
    let limits : RunLimits = c.args.limits.now in
    let holds = c.args.lane.now.in_order.held c.requires.held in
    let has : TellsAhead l a.page a.cursor.mark a.cursor.high (Some c.in-Some.ahead) =
    subst (λ (ahead : Option Ahead). TellsAhead l a.page a.cursor.mark a.cursor.high ahead) c.in-Some.is holds.ahead in
    let found : IsRunFound l a.page a.cursor.mark limits c.plain_run.result = subst (λ (bytes : List ℕ). IsRunFound l bytes a.cursor.mark limits c.plain_run.result) c.bytes.ensures c.plain_run.ensures in
    run_allowed a limits c.args.tally.now c.in-Some.ahead c.plain_run.result has c.if-limits-ahead.false
    (λ xs count. sym (c.in-Some-last_time.ensures l xs count) ∙ ap (λ (n : ℕ). Some n) (c.if-time.false ∙ c.time.ensures)) found
