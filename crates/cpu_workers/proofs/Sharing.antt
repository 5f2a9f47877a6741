-- What the first few of several workers leave to the others, and how many there are.
use Rattle.std.proofs.Common.{◌≡◌, ℕ, zero, suc, ◌+◌, ◌-◌, ◌*◌, ◌/◌, ◌%◌, ◌<◌, ◌≤◌, false, ap, ◌∙◌, inl, inr, refl, arith}
use Rattle.std.specs.Prelude.{min}
use Rattle.std.proofs.Math.Nat.{mul-add, mul-le-mul_right, suc-mul, zero-mul}
use Rattle.std.proofs.lemmas.Bool.{cases_Bool, leb-false, lt-leb}
use Rattle.std.proofs.lemmas.Nat.{div-add-mod', mod_below}
use Rattle.cpu_workers.specs.Shares.{are_worth, most_counted, share_of, threads_for}

one_each : (q workers r count : ℕ) → q * workers + r ≡ count → r < workers → workers ≤ count → 1 ≤ q
one_each zero workers r count whole less enough = omega (arith, whole, less, enough, zero-mul workers)
one_each (suc q) workers r count whole less enough = omega arith

at_least : (q m : ℕ) → 1 ≤ q → m ≤ q * m
at_least zero m some = omega (arith, some)
at_least (suc q) m some = omega (arith, suc-mul q m)

-- where there is one for each worker, one is left for each of the others
pub left_over : (count workers first : ℕ) → workers ≤ count → first < workers → workers - first + share_of count workers first ≤ count
left_over count workers first enough less =
    let q = count / workers in
    let whole : q * workers + count % workers ≡ count = div-add-mod' count workers in
    let below : count % workers < workers = mod_below count workers (omega (arith, less)) in
    let others : workers ≡ first + (workers - first) = omega (arith, less) in
    let parts : q * workers ≡ q * first + q * (workers - first) = ap (λ (n : ℕ). q * n) others ∙ mul-add q first (workers - first) in
    let one : workers - first ≤ q * (workers - first) = at_least q (workers - first) (one_each q workers (count % workers) count whole below enough) in
    omega (arith, whole, parts, one)

-- one worker is asked for
pub one_asked : (shared_from page busy : ℕ) → threads_for 1 shared_from page busy ≡ 1
one_asked shared_from page busy = elim (cases_Bool (are_worth shared_from page busy)) as (λ _. threads_for 1 shared_from page busy ≡ 1) [
  | inl worth ↦ rw worth (omega arith)
  | inr little ↦ rw little refl
]

-- not even all lanes would be worth several threads
pub few_lanes : (asked shared_from page busy lanes : ℕ) → busy ≤ lanes → are_worth shared_from page lanes ≡ false
    → threads_for asked shared_from page busy ≡ 1
few_lanes asked shared_from page busy lanes inside few =
    let each = min page most_counted in
    let most : busy * each ≤ lanes * each = mul-le-mul_right each inside in
    let little : are_worth shared_from page busy ≡ false = lt-leb shared_from (busy * each) (omega (arith, most, leb-false shared_from (lanes * each) few)) in
    rw little refl
