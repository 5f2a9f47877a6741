-- Events that a piece takes at once.
use Rattle.std.proofs.Common.{◌≡◌, ℕ, suc, zero, ◌-◌, ◌<◌, ◌≤◌, true, ltb, List, [], ◌∷◌, ◌++◌, length, refl, ap, subst, ◌∙◌, arith, rules}
use Rattle.std.specs.List.{All}
use Rattle.std.proofs.lemmas.Bool.{lt-ltb}
use Rattle.std.proofs.lemmas.List.Elements.{All-head, All-tail}
use Rattle.subpage.specs.Arrangement.{Keyed}
use Rattle.split_pieces.specs.declared.gauge.Gauge.{Gauge}
use Rattle.split_pieces.specs.declared.gauge.Gauge.TheVariants as gauges
use Rattle.split_pieces.specs.Allowing.{TakesItems, IsEventUpTo}
use Rattle.split_pieces.specs.Gauging.{TakesItem}
use Rattle.split_pieces.specs.Pieces.{is_event}
use Rattle.split_pieces.proofs.Cutting.{front_yes}

takes_none : (gauge : Gauge) → TakesItems gauge gauge []
takes_none gauge = record { took = λ ys. refl; goes_on = λ ys. refl }

takes_more : (gauge next now : Gauge) (x : Keyed) (xs : List Keyed) → TakesItem gauge next x → TakesItems next now xs → TakesItems gauge now (x ∷ xs)
takes_more gauge next now x xs one rest = record {
  took = λ ys. one.took (xs ++ ys) ∙ ap (λ (zs : List Keyed). x ∷ zs) (rest.took ys);
  goes_on = λ ys. one.goes_on (xs ++ ys) ∙ rest.goes_on ys;
}

one_below : (limit : ℕ) (x : Keyed) → x.key < limit → TakesItem (gauges.Below limit) (gauges.Below limit) x
one_below limit x lt =
    let first = λ (xs : List Keyed). front_yes (λ (y : Keyed). ltb y.key limit) x xs (lt-ltb _ _ lt) in
    record { took = first; goes_on = λ xs. rw (first xs) refl }

one_event : (n : ℕ) (x : Keyed) → is_event x ≡ true → TakesItem (gauges.Events (suc n)) (gauges.Events n) x
one_event n x event = record { took = λ xs. rw event refl; goes_on = λ xs. rw event (search rules) }

pub takes_all : (xs : List Keyed) → TakesItems gauges.All gauges.All xs
takes_all xs = record { took = λ ys. refl; goes_on = λ ys. refl }

pub takes_below : (limit until : ℕ) (xs : List Keyed) → until < limit → All (IsEventUpTo until) xs → TakesItems (gauges.Below limit) (gauges.Below limit) xs
takes_below limit until [] lt all = takes_none (gauges.Below limit)
takes_below limit until (x ∷ xs) lt all =
    let here = All-head (IsEventUpTo until) x xs all in
    takes_more (gauges.Below limit) (gauges.Below limit) (gauges.Below limit) x xs (one_below limit x (omega (arith, here.1, lt)))
    (takes_below limit until xs lt (All-tail (IsEventUpTo until) x xs all))

pub takes_events : (n until : ℕ) (xs : List Keyed) → length xs ≤ n → All (IsEventUpTo until) xs → TakesItems (gauges.Events n) (gauges.Events (n - length xs)) xs
takes_events n until [] few all = subst (λ (m : ℕ). TakesItems (gauges.Events n) (gauges.Events m) []) (let e : n ≡ n - 0 = omega arith in e) (takes_none (gauges.Events n))
takes_events zero until (x ∷ xs) few all = absurd (omega (arith, few))
takes_events (suc n) until (x ∷ xs) few all =
    let here = All-head (IsEventUpTo until) x xs all in
    let e : n - length xs ≡ suc n - length (x ∷ xs) = omega arith in
    subst (λ (m : ℕ). TakesItems (gauges.Events (suc n)) (gauges.Events m) (x ∷ xs)) e
    (takes_more (gauges.Events (suc n)) (gauges.Events n) (gauges.Events (n - length xs)) x xs (one_event n x here.0)
    (takes_events n until xs (omega (arith, few)) (All-tail (IsEventUpTo until) x xs all)))
