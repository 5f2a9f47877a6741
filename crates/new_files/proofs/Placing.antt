-- The multiples of a page, and what is missing up to the next.
use Rattle.std.proofs.Common.{◌≡◌, ℕ, ◌+◌, ◌-◌, ◌*◌, ◌/◌, ◌%◌, ◌^◌, ◌<◌, ◌≤◌, min, inl, inr, sym, ap, ◌∙◌, arith}
use Rattle.std.proofs.lemmas.Bool.{cases_eq}
use Rattle.std.proofs.lemmas.Nat.{mod-pow-add, pow_pos}
use Rattle.std.proofs.Math.Nat.{mul-add-mod_self_right, mod-lt, div-add-mod', mod-eq_of_lt}
use Rattle.new_files.specs.Padding.{IsPage, up_to_page}

-- a number modulo 2^64 has the same rest by a page
pub same_rest : (page place whole : ℕ) → IsPage page → place ≡ whole % 2 ^ 64 → place % page ≡ whole % page
same_rest page place whole p is =
    let power = p.0 in
    let high = 64 - power in
    let bits : 64 ≡ high + power = omega (arith, p.1) in
    let parted = ap (λ n. whole % 2 ^ n) bits ∙ mod-pow-add whole high power in
    ap (λ n. place % n) p.2
    ∙ ap (λ n. n % 2 ^ power) (is ∙ parted)
    ∙ mul-add-mod_self_right (whole / 2 ^ power % 2 ^ high) (2 ^ power) (whole % 2 ^ power)
    ∙ mod-eq_of_lt (mod-lt whole (pow_pos power))
    ∙ ap (λ n. whole % n) (sym p.2)

pub page_some : (page : ℕ) → IsPage page → 0 < page
page_some page p = omega (arith, p.2, pow_pos p.0)

-- nothing is missing after a multiple
pub at_page : (page whole : ℕ) → IsPage page → whole % page ≡ 0 → up_to_page page whole ≡ whole
at_page page whole p none =
    let quotient : whole / page + min 1 0 ≡ whole / page = omega arith in
    ap (λ rest. (whole / page + min 1 rest) * page) none ∙ ap (λ n. n * page) quotient ∙ omega (arith, div-add-mod' whole page, none)

pub before_page : (page whole : ℕ) → IsPage page → (whole % page ≡ 0 → ⊥) → up_to_page page whole ≡ whole + (page - whole % page)
before_page page whole p some =
    let one : min 1 (whole % page) ≡ 1 = omega (arith, some) in
    ap (λ n. (whole / page + n) * page) one ∙ omega (arith, div-add-mod' whole page, mod-lt whole (page_some page p))

-- a multiple is not before the place
pub no_less : (page whole : ℕ) → IsPage page → whole ≤ up_to_page page whole
no_less page whole p = elim (cases_eq (whole % page) 0) [
  | inl none ↦ omega (arith, at_page page whole p none)
  | inr some ↦ omega (arith, before_page page whole p some)
]
