use Rattle.std.proofs.Common.{◌≡◌, ◌%◌, ◌/◌, ◌^◌, ◌+◌, ◌*◌, ap, sym, ◌∙◌, arith, ℕ, List, set, get_or}
use Rattle.trace_gen.specs.Generated.{next_state, state, cpu_at, step_at, pid_at, value_at}
use Rattle.trace_gen.proofs.Drawn.{at_next, event_is, step_drawn, draw0, draw2, draw3}
use Rattle.trace_gen.proofs.generator.Generator.make.Goals as goal

abbrev drawn_of : ℕ → ℕ
drawn_of x = next_state x / 2 ^ 33

pub returns-clause-cpu : goal.returns-clause-cpu
returns-clause-cpu c = λ seed n h.
    ap (λ x. x % 4) (c.draw-cpu.ensures.drawn ∙ ap drawn_of h.state_is ∙ sym (draw0 seed n))

pub returns-clause-at : goal.returns-clause-at
returns-clause-at c = λ seed n h.
    let old = c.args.self.now in
    let k = c.draw-cpu.result % 4 in
    let cpu : k ≡ cpu_at seed n = ap (λ x. x % 4) (c.draw-cpu.ensures.drawn ∙ ap drawn_of h.state_is ∙ sym (draw0 seed n)) in
    let s1 : c.draw-cpu.new.self.state ≡ next_state (state seed (4 * n)) = c.draw-cpu.ensures.state ∙ ap next_state h.state_is in
    let step : c.draw_step-step.result ≡ step_at seed n = step_drawn seed n c.draw-cpu.new.self.made c.draw-cpu.new.self.state c.draw_step-step.result (c.draw-cpu.ensures.made ∙ h.made) s1 c.draw_step-step.ensures.step in
    let states : c.draw-value.new.self.state ≡ next_state (next_state (next_state (next_state old.state))) = c.draw-value.ensures.state ∙ ap next_state (c.draw-pid.ensures.state ∙ ap next_state (c.draw_step-step.ensures.state ∙ ap next_state c.draw-cpu.ensures.state)) in
    let mades : c.draw-value.new.self.made ≡ old.made = c.draw-value.ensures.made ∙ c.draw-pid.ensures.made ∙ c.draw_step-step.ensures.made ∙ c.draw-cpu.ensures.made in
    let times : c.draw-value.new.self.times ≡ old.times = c.draw-value.ensures.times ∙ c.draw-pid.ensures.times ∙ c.draw_step-step.ensures.times ∙ c.draw-cpu.ensures.times in
    at_next seed n old _ k c.draw_step-step.result cpu (omega arith) step states (ap (λ x. x + 1) mades) (ap (λ (ts : List ℕ). set ts k (get_or ts k 0 + c.draw_step-step.result)) times) h

pub returns-clause-event : goal.returns-clause-event
returns-clause-event c = λ seed n h.
    let old = c.args.self.now in
    let k = c.draw-cpu.result % 4 in
    let cpu : k ≡ cpu_at seed n = ap (λ x. x % 4) (c.draw-cpu.ensures.drawn ∙ ap drawn_of h.state_is ∙ sym (draw0 seed n)) in
    let s1 : c.draw-cpu.new.self.state ≡ next_state (state seed (4 * n)) = c.draw-cpu.ensures.state ∙ ap next_state h.state_is in
    let s2 : c.draw_step-step.new.self.state ≡ next_state (next_state (state seed (4 * n))) = c.draw_step-step.ensures.state ∙ ap next_state s1 in
    let s3 : c.draw-pid.new.self.state ≡ next_state (next_state (next_state (state seed (4 * n)))) = c.draw-pid.ensures.state ∙ ap next_state s2 in
    let step : c.draw_step-step.result ≡ step_at seed n = step_drawn seed n c.draw-cpu.new.self.made c.draw-cpu.new.self.state c.draw_step-step.result (c.draw-cpu.ensures.made ∙ h.made) s1 c.draw_step-step.ensures.step in
    let pid : c.draw-pid.result % 100 ≡ pid_at seed n = ap (λ x. x % 100) (c.draw-pid.ensures.drawn ∙ ap drawn_of s2 ∙ sym (draw2 seed n)) in
    let value : c.draw-value.result ≡ value_at seed n = c.draw-value.ensures.drawn ∙ ap drawn_of s3 ∙ sym (draw3 seed n) in
    let times : c.draw-value.new.self.times ≡ old.times = c.draw-value.ensures.times ∙ c.draw-pid.ensures.times ∙ c.draw_step-step.ensures.times ∙ c.draw-cpu.ensures.times in
    event_is seed n old k c.draw_step-step.result (c.draw-pid.result % 100) c.draw-value.result _ c.payload_by.result cpu (omega arith) step pid value (ap (λ (ts : List ℕ). get_or ts k 0 + c.draw_step-step.result) times) c.payload_by.ensures h
