use Rattle.std.proofs.Common.{subst, ◌∙◌, sym, ◌≡◌, ◌≢◌, true, false, List, ℕ, []}
use Rattle.subpage.specs.ItemData.{ItemData}
use Rattle.trace_outside.specs.Writing.{Gained, GainedPrefix}
use Rattle.trace_outside.proofs.Gains.{on_err}
use Rattle.page_write.specs.Passes.{HasPages}
use Rattle.page_write.proofs.Steps.{none_left, last_page, failed_last}
use Rattle.page_write.proofs.write.write_last.Goals as goal

pub returns-then-is_empty-clause-ends : goal.returns-then-is_empty-clause-ends
returns-then-is_empty-clause-ends g c = λ before xs h.
    let l = c.args.packer.now.layout in
    none_left l before (g.O.Sink.written c.args.out.now) xs (subst (λ (held : List ItemData). HasPages l before (g.O.Sink.written c.args.out.now) xs held) (c.is_empty.ensures.0 c.if-is_empty.true) h)

pub returns-in_err-write_all-clause-short : goal.returns-in_err-write_all-clause-short
returns-in_err-write_all-clause-short g c = on_err c.from_residual.result (λ before xs h.
    let held = c.args.packer.now.held in
    let some : held ≢ [] = λ e. let never : true ≡ false = sym (c.is_empty.ensures.1 e) ∙ c.if-is_empty.false in absurd cc in
    let prefix = subst (λ (t : List ℕ). GainedPrefix (g.O.Sink.written c.args.out.now) (g.O.Sink.written c.write_all.new.out) t) c.close.ensures.page c.in_err-write_all.ensures.prefix in
    failed_last c.args.packer.now.layout before (g.O.Sink.written c.args.out.now) (g.O.Sink.written c.write_all.new.out) xs held some prefix h)

pub returns-clause-ends : goal.returns-clause-ends
returns-clause-ends g c = λ before xs h.
    let held = c.args.packer.now.held in
    let some : held ≢ [] = λ e. let never : true ≡ false = sym (c.is_empty.ensures.1 e) ∙ c.if-is_empty.false in absurd cc in
    let gained = subst (λ (t : List ℕ). Gained (g.O.Sink.written c.args.out.now) (g.O.Sink.written c.write_all.new.out) t) c.close.ensures.page c.in_ok-write_all.ensures.gained in
    last_page c.args.packer.now.layout before (g.O.Sink.written c.args.out.now) (g.O.Sink.written c.write_all.new.out) xs held some gained h
