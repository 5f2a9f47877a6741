-- One event more.
use Rattle.std.proofs.Common.{◌≡◌, ℕ, zero, suc, ◌+◌, ◌*◌, ◌/◌, ◌%◌, ◌^◌, ◌<◌, cond, eqb, List, [], ◌∷◌, ◌++◌, length, map, set, get_or, append-nil, ◌≤◌, refl, sym, ap, ◌∙◌, inl, inr, arith}
use Rattle.std.specs.List.{filter, range_with_len, sum_by}
use Rattle.std.proofs.lemmas.List.Sums.{sum_by-append}
use Rattle.std.proofs.lemmas.Bool.{cases_Bool, cases_eq, eq-eqb, ne_eqb}
use Rattle.std.proofs.lemmas.List.{length-set, get_or-set_same, get_or-set_other, map-append}
use Rattle.std.proofs.lemmas.List.Elements.{filter-append}
use Rattle.subpage.specs.ItemData.{EventAt}
use Rattle.trace_gen.specs.declared.generator.Generator.{Generator}
use Rattle.trace_gen.specs.Generated.{next_state, state, draw, cpu_at, step_at, pid_at, value_at, payload_of, numbers_of, time_behind, event_at, events_of}
use Rattle.trace_gen.specs.At.{IsAt}

pub draw0 : (seed n : ℕ) → draw seed (4 * n) ≡ next_state (state seed (4 * n)) / 2 ^ 33
unfolding draw
draw0 seed n = refl

pub draw1 : (seed n : ℕ) → draw seed (4 * n + 1) ≡ next_state (next_state (state seed (4 * n))) / 2 ^ 33
unfolding draw
draw1 seed n = let e : 4 * n + 1 ≡ suc (4 * n) = omega arith in ap (λ k. state seed (suc k) / 2 ^ 33) e

pub draw2 : (seed n : ℕ) → draw seed (4 * n + 2) ≡ next_state (next_state (next_state (state seed (4 * n)))) / 2 ^ 33
unfolding draw
draw2 seed n = let e : 4 * n + 2 ≡ suc (suc (4 * n)) = omega arith in ap (λ k. state seed (suc k) / 2 ^ 33) e

pub draw3 : (seed n : ℕ) → draw seed (4 * n + 3) ≡ next_state (next_state (next_state (next_state (state seed (4 * n))))) / 2 ^ 33
unfolding draw
draw3 seed n = let e : 4 * n + 3 ≡ suc (suc (suc (4 * n))) = omega arith in ap (λ k. state seed (suc k) / 2 ^ 33) e

-- a step of which the draw is known
pub step_drawn : (seed n made from step : ℕ) → made ≡ n → from ≡ next_state (state seed (4 * n)) → step ≡ cond (eqb (made % 1000) 999) 268435456 (next_state from / 2 ^ 33 % 5000) → step ≡ step_at seed n
step_drawn seed n made from step is here drawn =
    drawn
    ∙ ap (λ (m : ℕ). cond (eqb (m % 1000) 999) 268435456 (next_state from / 2 ^ 33 % 5000)) is
    ∙ ap (λ (x : ℕ). cond (eqb (n % 1000) 999) 268435456 (next_state x / 2 ^ 33 % 5000)) here
    ∙ ap (λ (d : ℕ). cond (eqb (n % 1000) 999) 268435456 (d % 5000)) (sym (draw1 seed n))

pub four_on : (seed n : ℕ) → state seed (4 * (n + 1)) ≡ next_state (next_state (next_state (next_state (state seed (4 * n)))))
four_on seed n = let e : 4 * (n + 1) ≡ suc (suc (suc (suc (4 * n)))) = omega arith in ap (state seed) e

pub range_push : (a n : ℕ) → range_with_len a (suc n) ≡ range_with_len a n ++ (a + n) ∷ []
range_push a zero = let e : a ≡ a + 0 = omega arith in ap (λ k. k ∷ []) e
range_push a (suc n) = let e : a + 1 + n ≡ a + suc n = omega arith in ap (λ (ks : List ℕ). a ∷ ks) (range_push (a + 1) n ∙ ap (λ k. range_with_len (a + 1) n ++ k ∷ []) e)

pub numbers_push : (seed cpu n : ℕ) → numbers_of seed cpu (n + 1) ≡ numbers_of seed cpu n ++ cond (eqb (cpu_at seed n) cpu) (n ∷ []) []
numbers_push seed cpu n =
    let e : n + 1 ≡ suc n = omega arith in
    let none : 0 + n ≡ n = omega arith in
    ap (numbers_of seed cpu) e
    ∙ ap (filter (λ i. eqb (cpu_at seed i) cpu)) (range_push 0 n ∙ ap (λ k. range_with_len 0 n ++ k ∷ []) none)
    ∙ filter-append (λ i. eqb (cpu_at seed i) cpu) (range_with_len 0 n) (n ∷ [])

steps_push : (seed cpu n : ℕ) → sum_by (step_at seed) (numbers_of seed cpu (n + 1)) ≡ sum_by (step_at seed) (numbers_of seed cpu n) + sum_by (step_at seed) (cond (eqb (cpu_at seed n) cpu) (n ∷ []) [])
steps_push seed cpu n =
    ap (sum_by (step_at seed)) (numbers_push seed cpu n)
    ∙ sum_by-append (step_at seed) (numbers_of seed cpu n) (cond (eqb (cpu_at seed n) cpu) (n ∷ []) [])

pub time_moves : (seed cpu n : ℕ) → cpu_at seed n ≡ cpu → time_behind seed cpu (n + 1) ≡ time_behind seed cpu n + step_at seed n
unfolding time_behind
time_moves seed cpu n is =
    let own : sum_by (step_at seed) (cond (eqb (cpu_at seed n) cpu) (n ∷ []) []) ≡ sum_by (step_at seed) (n ∷ []) = ap (λ b. sum_by (step_at seed) (cond b (n ∷ []) [])) (eq-eqb _ _ is) in
    omega (arith, steps_push seed cpu n, own)

pub time_stays : (seed cpu n : ℕ) → (cpu_at seed n ≡ cpu → ⊥) → time_behind seed cpu (n + 1) ≡ time_behind seed cpu n
unfolding time_behind
time_stays seed cpu n never =
    let own : sum_by (step_at seed) (cond (eqb (cpu_at seed n) cpu) (n ∷ []) []) ≡ 0 = ap (λ b. sum_by (step_at seed) (cond b (n ∷ []) [])) (ne_eqb _ _ never) in
    omega (arith, steps_push seed cpu n, own)

pub at_start : (seed : ℕ) → IsAt seed (record { state = seed; made = 0; times = 1000000000 ∷ 1000000000 ∷ 1000000000 ∷ 1000000000 ∷ [] }) 0
unfolding time_behind
at_start seed = record { state_is = refl; made = refl; four = refl; times = first }
  where
    first : (cpu : ℕ) → cpu < 4 → get_or {A = ℕ} (1000000000 ∷ 1000000000 ∷ 1000000000 ∷ 1000000000 ∷ []) cpu 0 ≡ 1000000000
    first zero few = refl
    first (suc zero) few = refl
    first (suc (suc zero)) few = refl
    first (suc (suc (suc zero))) few = refl
    first (suc (suc (suc (suc n)))) few = absurd (omega arith)

pub at_next : (seed n : ℕ) (old new : Generator) (k step : ℕ) → k ≡ cpu_at seed n → k < 4 → step ≡ step_at seed n → new.state ≡ next_state (next_state (next_state (next_state old.state))) → new.made ≡ old.made + 1
    → new.times ≡ set old.times k (get_or old.times k 0 + step) → IsAt seed old n → IsAt seed new (n + 1)
at_next seed n old new k step cpu few moved state_is made times h = record {
  state_is = state_is ∙ ap (λ x. next_state (next_state (next_state (next_state x)))) h.state_is ∙ sym (four_on seed n);
  made = made ∙ ap (λ x. x + 1) h.made;
  four = ap length times ∙ length-set old.times k (get_or old.times k 0 + step) ∙ h.four;
  times = λ c c_few. ap (λ ts. get_or ts c 0) times ∙ (elim (cases_eq c k) [
    | inl same ↦ ap (λ i. get_or (set old.times k (get_or old.times k 0 + step)) i 0) same
        ∙ get_or-set_same old.times k (get_or old.times k 0 + step) 0 (omega (arith, few, h.four))
        ∙ ap (λ t. t + step) (h.times k few) ∙ ap (λ s. time_behind seed k n + s) moved
        ∙ sym (time_moves seed k n (sym cpu))
        ∙ ap (λ i. time_behind seed i (n + 1)) (sym same)
    | inr other ↦ get_or-set_other old.times k c (get_or old.times k 0 + step) 0 other ∙ h.times c c_few
        ∙ sym (time_stays seed c n (λ e. other (sym e ∙ sym cpu)))
  ]);
}

pub event_is : (seed n : ℕ) (old : Generator) (k step pid value time : ℕ) (payload : List ℕ) → k ≡ cpu_at seed n → k < 4 → step ≡ step_at seed n → pid ≡ pid_at seed n → value ≡ value_at seed n → time ≡ get_or old.times k 0 + step → payload ≡ payload_of pid value
    → IsAt seed old n → EventAt time payload ≡ event_at seed n
unfolding event_at
event_is seed n old k step pid value time payload cpu few moved pid_is value_is time_is payload_is h =
    let t : time ≡ time_behind seed (cpu_at seed n) (n + 1) = time_is ∙ ap (λ x. x + step) (h.times k few) ∙ ap (λ s. time_behind seed k n + s) moved ∙ sym (time_moves seed k n (sym cpu)) ∙ ap (λ i. time_behind seed i (n + 1)) cpu in
    let p : payload ≡ payload_of (pid_at seed n) (value_at seed n) = payload_is ∙ ap (λ x. payload_of x value) pid_is ∙ ap (payload_of (pid_at seed n)) value_is in
    ap (λ x. EventAt x payload) t ∙ ap (EventAt (time_behind seed (cpu_at seed n) (n + 1))) p

pub events_more : (seed cpu n : ℕ) → cpu_at seed n ≡ cpu → events_of seed cpu (n + 1) ≡ events_of seed cpu n ++ event_at seed n ∷ []
unfolding events_of
events_more seed cpu n is =
    ap (map (event_at seed)) (numbers_push seed cpu n ∙ ap (λ b. numbers_of seed cpu n ++ cond b (n ∷ []) []) (eq-eqb _ _ is)) ∙ map-append (event_at seed) (numbers_of seed cpu n) (n ∷ [])

pub events_same : (seed cpu n : ℕ) → (cpu_at seed n ≡ cpu → ⊥) → events_of seed cpu (n + 1) ≡ events_of seed cpu n
unfolding events_of
events_same seed cpu n never =
    ap (map (event_at seed)) (numbers_push seed cpu n ∙ ap (λ b. numbers_of seed cpu n ++ cond b (n ∷ []) []) (ne_eqb _ _ never) ∙ append-nil (numbers_of seed cpu n))

step_small : (seed n : ℕ) → step_at seed n ≤ 268435456
step_small seed n = elim (cases_Bool (eqb (n % 1000) 999)) [
  | inl s ↦ rw s (omega arith)
  | inr s ↦ rw s (omega arith)
]

first_time : (seed cpu : ℕ) → time_behind seed cpu 0 ≡ 1000000000
unfolding time_behind
first_time seed cpu = refl

pub time_small : (seed cpu n : ℕ) → time_behind seed cpu n ≤ 1000000000 + n * 268435456
time_small seed cpu zero = omega (arith, first_time seed cpu)
time_small seed cpu (suc n) =
    let e : suc n ≡ n + 1 = omega arith in
    let before = time_small seed cpu n in
    elim (cases_eq (cpu_at seed n) cpu) [
      | inl own ↦ rw e (omega (arith, before, time_moves seed cpu n own, step_small seed n))
      | inr other ↦ rw e (omega (arith, before, time_stays seed cpu n other))
    ]

pub times_small : (seed n : ℕ) (g : Generator) → n < 2 ^ 32 → IsAt seed g n → (cpu : ℕ) → cpu < 4 → get_or g.times cpu 0 < 2 ^ 63
times_small seed n g few h cpu small = omega (arith, h.times cpu small, time_small seed cpu n, few)
