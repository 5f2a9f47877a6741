use Rattle.std.proofs.Common.{◌≡◌, ◌≤◌, ℕ, true, List, length, refl, sym, ap, subst, ◌∙◌, inl, inr, arith}
use Rattle.trace_base.specs.declared.layout.Layout.{Layout}
use Rattle.page_pool.specs.declared.lane.Lane.{Lane}
use Rattle.page_pool.specs.Keeping.{KeepsLane, stepping}
use Rattle.page_pool.proofs.Keeping.{lane_still}
use Rattle.subpage.specs.Run.{run_bytes, time_at}
use Rattle.page_write.specs.PageBytes.{one_page}
use Rattle.page_write.specs.Adding.{HasRoom, IsRunAfter}
use Rattle.event_cursor.specs.Stepping.{IsSteppedOver}
use Rattle.split_passes.proofs.Lent.{lane_again}
use Rattle.split_passes.proofs.RunLaws.{run_after}
use Rattle.split_passes.proofs.runs.pack_run.Goals as goal

pub returns-in_default-clause-lane : goal.returns-in_default-clause-lane
returns-in_default-clause-lane c = lane_still stepping c.args.lane.now

pub returns-in_default-clause-run : goal.returns-in_default-clause-run
returns-in_default-clause-run c = inl (refl, (refl, refl))

pub run_between-run-requires : goal.run_between-run-requires
run_between-run-requires c =
    let r = c.in-Some.ensures in
    subst (λ (p : List ℕ). (c.args.lane.now.cursor.mark.from ≤ c.in-Some.next.from) × (c.in-Some.next.from ≤ length p)) (sym c.bytes.ensures)
    (r.run.forward, omega (arith, r.run.there.forward, r.run.there.within))

pub add_run-requires-clause-run : goal.add_run-requires-clause-run
add_run-requires-clause-run c =
    let l = c.args.lane.now.layout in
    let a = c.args.lane.now in
    let p = c.args.packer.now in
    let r = c.in-Some.ensures in
    let bytes : run_bytes a.page a.cursor.mark c.in-Some.next ≡ c.run_between-run.result.now = sym (c.run_between-run.ensures ∙ ap (λ (t : List ℕ). run_bytes t a.cursor.mark c.in-Some.next) c.bytes.ensures) in
    let after : IsRunAfter l p.held (run_bytes a.page a.cursor.mark c.in-Some.next) (time_at c.in-Some.next) r.run.items = run_after a p.held c.args.most c.in-Some.next c.in-Some.count r in
    let here : IsRunAfter p.layout p.held c.run_between-run.result.now c.time.result r.run.items =
    subst (λ (k : Layout). IsRunAfter k p.held c.run_between-run.result.now c.time.result r.run.items) (sym c.requires.same)
    (subst (λ (n : ℕ). IsRunAfter l p.held c.run_between-run.result.now n r.run.items) (sym c.time.ensures)
    (subst (λ (t : List ℕ). IsRunAfter l p.held t (time_at c.in-Some.next) r.run.items) bytes after)) in
    record { items = r.run.items; run = here }

pub add_run-requires-clause-room : goal.add_run-requires-clause-room
add_run-requires-clause-room c =
    let l = c.args.lane.now.layout in
    let a = c.args.lane.now in
    let p = c.args.packer.now in
    let r = c.in-Some.ensures in
    let bytes : run_bytes a.page a.cursor.mark c.in-Some.next ≡ c.run_between-run.result.now = sym (c.run_between-run.ensures ∙ ap (λ (t : List ℕ). run_bytes t a.cursor.mark c.in-Some.next) c.bytes.ensures) in
    subst (λ (k : Layout). HasRoom k p.held (length c.run_between-run.result.now)) (sym c.requires.same)
    (subst (λ (t : List ℕ). HasRoom l p.held (length t)) bytes r.room)

pub step_run-requires-clause-run : goal.step_run-requires-clause-run
step_run-requires-clause-run c = c.in-Some.ensures.run

pub step_run-requires-clause-some : goal.step_run-requires-clause-some
step_run-requires-clause-some c = c.in-Some.ensures.some

pub returns-clause-lane : goal.returns-clause-lane
returns-clause-lane c = subst (λ (b : Lane). KeepsLane stepping b c.step_run.new.lane) (lane_again c.args.lane.now _) (c.step_run.ensures.used c.in-Some.ensures.run).page

pub returns-clause-same : goal.returns-clause-same
returns-clause-same c = c.add_run.ensures.layout ∙ c.requires.same

pub returns-clause-few : goal.returns-clause-few
returns-clause-few c = omega (arith, c.from.ensures, c.in-Some.ensures.few)

pub returns-clause-run : goal.returns-clause-run
returns-clause-run c =
    let l = c.args.lane.now.layout in
    let a = c.args.lane.now in
    let p = c.args.packer.now in
    let r = c.in-Some.ensures in
    let bytes : run_bytes a.page a.cursor.mark c.in-Some.next ≡ c.run_between-run.result.now = sym (c.run_between-run.ensures ∙ ap (λ (t : List ℕ). run_bytes t a.cursor.mark c.in-Some.next) c.bytes.ensures) in
    let after : IsRunAfter l p.held (run_bytes a.page a.cursor.mark c.in-Some.next) (time_at c.in-Some.next) r.run.items = run_after a p.held c.args.most c.in-Some.next c.in-Some.count r in
    let here : IsRunAfter p.layout p.held c.run_between-run.result.now c.time.result r.run.items =
    subst (λ (k : Layout). IsRunAfter k p.held c.run_between-run.result.now c.time.result r.run.items) (sym c.requires.same)
    (subst (λ (n : ℕ). IsRunAfter l p.held c.run_between-run.result.now n r.run.items) (sym c.time.ensures)
    (subst (λ (t : List ℕ). IsRunAfter l p.held t (time_at c.in-Some.next) r.run.items) bytes after)) in
    inr record {
      items = r.run.items;
      long = r.run.long ∙ sym c.from.ensures;
      some = omega (arith, c.from.ensures, r.some);
      over = subst (λ (b : Lane). IsSteppedOver r.run.items b c.step_run.new.lane) (lane_again a _) (c.step_run.ensures.used r.run);
      held_are = c.add_run.ensures.adds r.run.items here;
      one = subst (λ (k : Layout). one_page k c.add_run.new.self.held ≡ true) c.requires.same c.add_run.ensures.one;
    }
