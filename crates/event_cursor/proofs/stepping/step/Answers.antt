use Rattle.std.proofs.Common.{◌∷◌, ℕ, List, Some, refl, sym, ap, subst, ◌∙◌, arith}
use Rattle.subpage.specs.declared.mark.Mark.{Mark}
use Rattle.subpage.specs.Marks.{IsMark, items_from}
use Rattle.page_pool.specs.InOrder.{HasAhead, TellsAhead, item_ahead}
use Rattle.event_cursor.proofs.OneOn.{ahead_of, held_first, step_holds}
use Rattle.event_cursor.proofs.stepping.step.Goals as goal

pub ahead_at-lane-requires : goal.ahead_at-lane-requires
ahead_at-lane-requires c =
    let a = c.args.lane.now in
    let here : HasAhead a.layout a.page a.cursor.mark a.cursor.high c.in-Some.ahead = ahead_of a _ c.requires.held c.in-Some.is in
    let there : IsMark a.layout a.page c.mark-mark.result = subst (λ (m : Mark). IsMark a.layout a.page m) (sym c.mark-mark.ensures) here.behind in
    subst (λ (p : List ℕ). IsMark a.layout p c.mark-mark.result) (sym c.bytes.ensures) there

pub invariant_of-lane : goal.invariant_of-lane
invariant_of-lane c =
    let a = c.args.lane.now in
    let here : HasAhead a.layout a.page a.cursor.mark a.cursor.high c.in-Some.ahead = ahead_of a _ c.requires.held c.in-Some.is in
    let further : TellsAhead a.layout a.page c.mark-mark.result (Some c.in-Some.ahead.key) c.ahead_at-lane.result =
    subst (λ (p : List ℕ). TellsAhead a.layout p c.mark-mark.result (Some c.in-Some.ahead.key) c.ahead_at-lane.result) c.bytes.ensures c.ahead_at-lane.ensures in
    record {
      in_order = record {
        long = a.in_order.long;
        held = λ e. step_holds a.layout a.page a.cursor c.in-Some.ahead c.mark-mark.result _ (a.in_order.held e) here (sym c.mark-mark.ensures) further;
      };
    }

pub returns-in-Some-clause-used : goal.returns-in-Some-clause-used
returns-in-Some-clause-used c =
    let a = c.args.lane.now in
    let here : HasAhead a.layout a.page a.cursor.mark a.cursor.high c.in-Some.ahead = ahead_of a _ c.requires.held c.in-Some.is in
    let first = item_ahead a.page a.cursor.mark c.in-Some.ahead in
    record {
      first = first;
      left = held_first a.cursor.state _ _ _ c.requires.held (here.items ∙ ap (λ (m : Mark). first ∷ items_from a.layout a.page m) (sym c.mark-mark.ensures));
      high = ap (λ (n : ℕ). Some n) here.key;
      at = refl;
      page = record { cpu = refl; layout = refl; part = refl; region = refl; page = refl; state = refl; held = refl; next = refl; forward = omega arith; high = tt; cursor = tt };
    }
