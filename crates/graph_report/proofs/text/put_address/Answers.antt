use Rattle.std.proofs.Common.{◌≡◌, ◌-◌, ◌∙◌, false, ap, drop, take, length-drop, arith}
use Rattle.std.proofs.lemmas.List.{take_all}
use Rattle.std.specs.Prelude.{codes}
use Rattle.std.specs.Fmt.{digits}
use Rattle.trace_base.specs.Kept.{Held, put_held}
use Rattle.trace_base.specs.TailView.{held}
use Rattle.trace_base.proofs.TailJoins.{put_held_twice}
use Rattle.graph_report.proofs.text.put_address.Goals as goal

pub returns-clause-value : goal.returns-clause-value
returns-clause-value c =
    let address = digits 16 false c.args.func in
    let start = c.write_digits-start.result in
    let buffer = c.write_digits-start.new.buffer in
    let text : take (64 - start) (drop start buffer) ≡ address =
    take_all (64 - start) (drop start buffer) (omega (arith, length-drop start buffer, c.write_digits-start.array_long)) ∙ c.write_digits-start.ensures.written in
    c.put-2.ensures.held ∙ ap (put_held (held c.put.new.self)) text ∙ ap (λ (h : Held). put_held h address) c.put.ensures.held
    ∙ put_held_twice (held c.args.into.now) (codes "0x") address
