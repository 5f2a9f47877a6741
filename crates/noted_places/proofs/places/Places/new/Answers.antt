use Rattle.std.proofs.Common.{◌≡◌, ℕ, ◌+◌, ◌-◌, sym, subst, ◌∙◌, arith}
use Rattle.std.specs.Int.{IsPowerOfTwo, IsNextPowerOfTwo}
use Rattle.noted_places.specs.Noted.{wanted}
use Rattle.noted_places.proofs.NotedLemmas.{long, all_same}
use Rattle.noted_places.proofs.places.Places.new.Goals as goal

pub overflow_sub-mask : goal.overflow_sub-mask
overflow_sub-mask c = omega (arith, c.next_power_of_two-room.ensures.lower_bound, c.wanted.ensures)

pub invariant_of-result : goal.invariant_of-result
invariant_of-result c =
    let room : ℕ = c.next_power_of_two-room.result in
    let is : room ≡ room - 1 + 1 = omega (arith, c.next_power_of_two-room.ensures.lower_bound, c.wanted.ensures) in
    (long c.in_ok-slots.slots.items room c.args.count c.in_ok-slots.ensures ∙ is, subst IsPowerOfTwo is c.next_power_of_two-room.ensures.power)

pub returns-clause-places : goal.returns-clause-places
returns-clause-places c = all_same c.in_ok-slots.slots.items c.next_power_of_two-room.result c.args.count c.in_ok-slots.ensures

pub returns-clause-room : goal.returns-clause-room
returns-clause-room c =
    let room : ℕ = c.next_power_of_two-room.result in
    let next = c.next_power_of_two-room.ensures in
    subst (IsNextPowerOfTwo (wanted c.args.count)) (sym (long c.in_ok-slots.slots.items room c.args.count c.in_ok-slots.ensures))
    (subst (λ (n : ℕ). IsNextPowerOfTwo n room) c.wanted.ensures (next.power, next.lower_bound, next.upper_bound))
