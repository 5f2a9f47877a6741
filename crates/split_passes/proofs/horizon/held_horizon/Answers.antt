use Rattle.std.proofs.Common.{◌-◌, ◌^◌, ℕ, List, refl, sym, subst, arith}
use Rattle.subpage.specs.declared.run.RunLimits.{RunLimits}
use Rattle.subpage.specs.Marks.{IsMark}
use Rattle.subpage.specs.Run.{IsLongestRun}
use Rattle.page_pool.specs.InOrder.{HasAhead, TellsAhead}
use Rattle.split_passes.specs.Rounds.{HasLater, HoldsLater}
use Rattle.split_passes.specs.Takings.{HasRun}
use Rattle.split_passes.proofs.HorizonLaws.{behind_later, below_key, below_run, last_later, next_later}
use Rattle.split_passes.proofs.horizon.held_horizon.Goals as goal

pub plain_run-requires : goal.plain_run-requires
plain_run-requires c =
    let a = c.args.lane.now in
    subst (λ (p : List ℕ). IsMark c.args.lane.now.layout p a.cursor.mark) (sym c.bytes-page.ensures) (c.args.lane.now.in_order.held c.requires.held).mark

pub is_later-requires : goal.is_later-requires
is_later-requires c = c.in-Some-plain_run.ensures.run.there

pub returns-then-until-ahead-clause-holds : goal.returns-then-until-ahead-clause-holds
returns-then-until-ahead-clause-holds c =
    let a = c.args.lane.now in
    let has : HasAhead c.args.lane.now.layout a.page a.cursor.mark a.cursor.high c.in-Some.ahead =
    subst (TellsAhead c.args.lane.now.layout a.page a.cursor.mark a.cursor.high) c.in-Some.is (c.args.lane.now.in_order.held c.requires.held).ahead in
    (omega arith, next_later a c.requires.held c.in-Some.ahead c.args.until c.args.most c.args.until has c.if-until-ahead.true)

pub returns-in_default-plain_run-clause-holds : goal.returns-in_default-plain_run-clause-holds
returns-in_default-plain_run-clause-holds c =
    let a = c.args.lane.now in
    let has : HasAhead c.args.lane.now.layout a.page a.cursor.mark a.cursor.high c.in-Some.ahead =
    subst (TellsAhead c.args.lane.now.layout a.page a.cursor.mark a.cursor.high) c.in-Some.is (c.args.lane.now.in_order.held c.requires.held).ahead in
    below_key c.below.result c.in-Some.ahead.key c.args.until (λ n. HoldsLater n c.args.most a) c.below.ensures.until
    (λ n less. next_later a c.requires.held c.in-Some.ahead c.args.until c.args.most n has less)

pub returns-then-is_later-clause-holds : goal.returns-then-is_later-clause-holds
returns-then-is_later-clause-holds c =
    let l = c.args.lane.now.layout in
    let a = c.args.lane.now in
    let limits : RunLimits = record { bytes = 2 ^ 32 - 1; events = c.args.most; until = c.args.until } in
    let found : IsLongestRun l a.page a.cursor.mark limits c.in-Some-plain_run.next c.in-Some-plain_run.count =
    subst (λ (p : List ℕ). IsLongestRun l p a.cursor.mark limits c.in-Some-plain_run.next c.in-Some-plain_run.count) c.bytes-page.ensures c.in-Some-plain_run.ensures in
    let later : HasLater l a.page c.in-Some-plain_run.next c.args.until = subst (λ (p : List ℕ). HasLater l p c.in-Some-plain_run.next c.args.until) c.bytes-page.ensures (c.if-is_later.ensures refl) in
    (omega arith, behind_later a c.requires.held limits c.in-Some-plain_run.next c.in-Some-plain_run.count c.args.until c.args.most found (omega arith) later)

pub returns-clause-holds : goal.returns-clause-holds
returns-clause-holds c =
    let l = c.args.lane.now.layout in
    let a = c.args.lane.now in
    let limits : RunLimits = record { bytes = 2 ^ 32 - 1; events = c.args.most; until = c.args.until } in
    let found : IsLongestRun l a.page a.cursor.mark limits c.in-Some-plain_run.next c.in-Some-plain_run.count =
    subst (λ (p : List ℕ). IsLongestRun l p a.cursor.mark limits c.in-Some-plain_run.next c.in-Some-plain_run.count) c.bytes-page.ensures c.in-Some-plain_run.ensures in
    below_key c.below-2.result c.time.result c.args.until (λ n. HoldsLater n c.args.most a) c.below-2.ensures.until
    (λ n less. last_later a c.requires.held limits c.in-Some-plain_run.next c.in-Some-plain_run.count n c.args.most found (omega arith) (omega (arith, less, c.time.ensures)))

pub returns-in_default-plain_run-clause-run : goal.returns-in_default-plain_run-clause-run
returns-in_default-plain_run-clause-run c = below_run c.below.result (HasRun c.args.lane.now) c.below.ensures.run

pub returns-then-is_later-clause-run : goal.returns-then-is_later-clause-run
returns-then-is_later-clause-run c =
    let l = c.args.lane.now.layout in
    let a = c.args.lane.now in
    let limits : RunLimits = record { bytes = 2 ^ 32 - 1; events = c.args.most; until = c.args.until } in
    let found : IsLongestRun l a.page a.cursor.mark limits c.in-Some-plain_run.next c.in-Some-plain_run.count =
    subst (λ (p : List ℕ). IsLongestRun l p a.cursor.mark limits c.in-Some-plain_run.next c.in-Some-plain_run.count) c.bytes-page.ensures c.in-Some-plain_run.ensures in
    (found.run, found.some)

pub returns-clause-run : goal.returns-clause-run
returns-clause-run c = below_run c.below-2.result (HasRun c.args.lane.now) c.below-2.ensures.run
