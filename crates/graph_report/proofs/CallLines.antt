-- A line of a call that was put into a slice.
use Rattle.std.proofs.Common.{◌≡◌, ℕ, ◌^◌, ◌<◌, ◌≤◌, min, List, length, take, ap, ◌∙◌, arith}
use Rattle.std.proofs.lemmas.List.{take_all}
use Rattle.trace_base.specs.declared.tail.Tail.{Tail}
use Rattle.trace_base.specs.Kept.{Kept, Held, most, nothing}
use Rattle.trace_base.specs.TailView.{held, kept}
use Rattle.report_print.specs.Ending.{of_held}

-- what was put is what the first bytes hold, where there is room for it
pub first_bytes : (t u : Tail) (text : List ℕ) (room : ℕ) → kept u ≡ nothing room → held t ≡ of_held (held u).room text → length text < 2 ^ 32 → length text ≤ room → take (length text) t.into.now ≡ text
first_bytes t u text room none is_put small fits =
    let total : min t.total most ≡ min (length text) most = ap (λ (h : Held). h.total) is_put in
    let count : length text ≡ t.total = omega (arith, total, small) in
    let room_is : (held u).room ≡ room = ap (λ (k : Kept). k.room) none in
    ap (λ (n : ℕ). take n t.into.now) count ∙ ap (λ (h : Held). h.bytes) is_put ∙ take_all (held u).room text (omega (arith, fits, room_is))
