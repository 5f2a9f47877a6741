use Rattle.std.proofs.Common.{◌≡◌, ◌^◌, ◌-◌, ℕ, List, Some, sym, ap, subst, ◌∙◌, arith}
use Rattle.trace_base.proofs.Layouts.{carried}
use Rattle.trace_base.specs.declared.layout.Layout.{Layout}
use Rattle.subpage.specs.ItemData.{last_time}
use Rattle.subpage.specs.declared.run.RunLimits.{RunLimits}
use Rattle.subpage.specs.Marks.{IsMark}
use Rattle.subpage.specs.Run.{time_at, IsRunFound}
use Rattle.page_write.specs.Adding.{HasRoom}
use Rattle.split_passes.proofs.RunLaws.{run_fits}
use Rattle.split_passes.proofs.runs.next_run.Goals as goal

pub overflow_cast-room : goal.overflow_cast-room
overflow_cast-room c =
    let p = c.args.packer.now in
    let page : p.layout.page ≡ c.args.lane.now.layout.page = ap (λ (k : Layout). k.page) c.requires.same in
    omega (arith, c.room-room.ensures, page, (carried c.args.lane.now.layout).page_most)

pub plain_run-requires : goal.plain_run-requires
plain_run-requires c =
    let a = c.args.lane.now in
    subst (λ (p : List ℕ). IsMark c.args.lane.now.layout p a.cursor.mark) (sym c.bytes.ensures) (c.args.lane.now.in_order.held c.requires.held).mark

pub returns : goal.returns
returns c =
    let l = c.args.lane.now.layout in
    let a = c.args.lane.now in
    let p = c.args.packer.now in
    let last : last_time p.held ≡ Some (time_at a.cursor.mark) = sym c.in-Some.ensures ∙ ap (λ (n : ℕ). Some n) (c.if-time.false ∙ c.time.ensures) in
    let has : HasRoom p.layout p.held c.room-room.result = omega (arith, c.room-room.ensures) in
    let limits : RunLimits = record { bytes = c.room-room.result; events = c.min-most.result; until = 2 ^ 64 - 1 } in
    let found : IsRunFound l a.page a.cursor.mark limits c.plain_run.result = subst (λ (bytes : List ℕ). IsRunFound l bytes a.cursor.mark limits c.plain_run.result) c.bytes.ensures c.plain_run.ensures in
    run_fits a p.held c.args.most limits c.plain_run.result found (omega arith) last (subst (λ (k : Layout). HasRoom k p.held c.room-room.result) c.requires.same has)
