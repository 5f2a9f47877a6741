use Rattle.std.proofs.Common.{◌≡◌, ℕ, ◌+◌, max, List, Some, refl, sym, ap, subst, ◌∙◌, arith}
use Rattle.std.specs.Option.{unwrap_or}
use Rattle.subpage.specs.Marks.{IsMark}
use Rattle.page_pool.specs.InOrder.{TellsAhead}
use Rattle.event_cursor.proofs.Runs.{enough_left, held_over, over_holds, run_high}
use Rattle.event_cursor.proofs.running.step_run.Goals as goal

pub ahead_at-lane-requires : goal.ahead_at-lane-requires
ahead_at-lane-requires c = subst (λ (p : List ℕ). IsMark c.args.lane.now.layout p c.args.next) (sym c.bytes.ensures) c.requires.run.there

pub overflow_add-lane : goal.overflow_add-lane
overflow_add-lane c =
    let a = c.args.lane.now in
    let h = a.in_order.held c.requires.held in
    omega (arith, enough_left a.layout a.page a.cursor c.args.next c.args.count h c.requires.run, h.few)

pub invariant_of-lane : goal.invariant_of-lane
invariant_of-lane c =
    let a = c.args.lane.now in
    let l = a.layout in
    record {
      in_order = record {
        long = a.in_order.long;
        held = λ e. over_holds l a.page a.cursor c.args.next c.args.count c.high_up_to.result _ (a.in_order.held e) c.requires.run
            (subst (λ (p : List ℕ). TellsAhead l p c.args.next (Some c.high_up_to.result) c.ahead_at-lane.result) c.bytes.ensures c.ahead_at-lane.ensures);
      };
    }

pub returns : goal.returns
returns c = record {
  used = λ run.
      let a = c.args.lane.now in
      let l = a.layout in
      let high : c.high_up_to.result ≡ _ = c.high_up_to.ensures ∙ ap (λ (n : ℕ). max (unwrap_or a.cursor.high 0) n) c.time.ensures
      ∙ run_high l.order (unwrap_or a.cursor.high 0) _ _ run.items _ (omega (arith, run.long, c.requires.some)) run.run in
      record {
        left = held_over a.cursor.state _ _ run.items c.requires.held run.left;
        high = ap (λ (n : ℕ). Some n) high;
        at = ap (λ (n : ℕ). a.cursor.at + n) (sym run.long);
        page = record { cpu = refl; layout = refl; part = refl; region = refl; page = refl; state = refl; held = refl; next = refl; forward = omega arith; high = tt; cursor = tt };
      };
}
