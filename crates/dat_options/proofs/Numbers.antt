-- A number and its bytes, each from the other.
use Rattle.std.proofs.Common.{◌≡◌, ℕ, zero, suc, ◌+◌, ◌-◌, ◌*◌, ◌/◌, ◌%◌, ◌<◌, List, [], ◌∷◌, length, take, reverse, get_or, refl, sym, ap, subst, ◌∙◌, inl, inr, arith}
use Rattle.std.proofs.lemmas.List.{take_all, get_or-reverse, get_or_past, length-reverse, reverse-reverse}
use Rattle.std.proofs.lemmas.Nat.{div_below, div-mul-add, mod-mul-add}
use Rattle.std.proofs.lemmas.Bool.{cases_lt}
use Rattle.std.proofs.Math.Nat.{mod-add-div}
use Rattle.trace_base.specs.declared.order.Order.{Order}
use Rattle.trace_base.specs.declared.order.Order.TheVariants.{Little, Big}
use Rattle.trace_base.specs.Number.{low_first, num, low_bytes, bytes_of}
use Rattle.dat_options.specs.Place.{AreBytes}

abbrev pub IsBytes : List ℕ → Type 0
IsBytes bytes = (i : ℕ) → get_or bytes i 0 < 256

-- how many numbers so many bytes have
abbrev pub limit : ℕ → ℕ
limit zero = 1
limit (suc count) = limit count * 256

length-low_bytes : (count n : ℕ) → length (low_bytes count n) ≡ count
length-low_bytes zero n = refl
length-low_bytes (suc count) n = ap suc (length-low_bytes count (n / 256))

pub length-bytes_of : (order : Order) (count n : ℕ) → length (bytes_of order count n) ≡ count
length-bytes_of Little count n = length-low_bytes count n
length-bytes_of Big count n = length-reverse (low_bytes count n) ∙ length-low_bytes count n

low_again : (count n : ℕ) → n < limit count → low_first (low_bytes count n) ≡ n
low_again zero n few = omega arith
low_again (suc count) n few =
    ap (λ high. n % 256 + 256 * high) (low_again count (n / 256) (div_below n 256 (limit count) (omega arith) few)) ∙ mod-add-div n 256

pub num_again : (order : Order) (count n : ℕ) → n < limit count → num order (bytes_of order count n) ≡ n
num_again Little count n few = low_again count n few
num_again Big count n few = ap low_first (reverse-reverse (low_bytes count n)) ∙ low_again count n few

low_back : (bytes : List ℕ) → IsBytes bytes → low_bytes (length bytes) (low_first bytes) ≡ bytes
low_back [] fit = refl
low_back (b ∷ bytes) fit =
    let m = low_first bytes in
    let swap : b + 256 * m ≡ m * 256 + b = omega arith in
    let low : (b + 256 * m) % 256 ≡ b = ap (λ n. n % 256) swap ∙ mod-mul-add m 256 b (fit 0) in
    let high : (b + 256 * m) / 256 ≡ m = ap (λ n. n / 256) swap ∙ div-mul-add m 256 b (fit 0) in
    rw (low, high) (ap (λ rest. b ∷ rest) (low_back bytes (λ i. fit (suc i))))

IsBytes-reverse : (bytes : List ℕ) → IsBytes bytes → IsBytes (reverse bytes)
IsBytes-reverse bytes fit i = elim (cases_lt i (length bytes)) [
  | inl inside ↦ subst (λ (b : ℕ). b < 256) (sym (get_or-reverse bytes i 0 inside)) (fit (length bytes - 1 - i))
  | inr past ↦ subst (λ (b : ℕ). b < 256) (sym (get_or_past (reverse bytes) i 0 (omega (arith, past, length-reverse bytes)))) (omega arith)
]

pub bytes_back : (order : Order) (bytes : List ℕ) → IsBytes bytes → bytes_of order (length bytes) (num order bytes) ≡ bytes
bytes_back Little bytes fit = low_back bytes fit
bytes_back Big bytes fit = ap (λ (count : ℕ). reverse (low_bytes count (low_first (reverse bytes)))) (sym (length-reverse bytes)) ∙ ap reverse (low_back (reverse bytes) (IsBytes-reverse bytes fit)) ∙ reverse-reverse bytes

-- the number that was read of a whole piece spells the piece
pub number_spells : (order : Order) (count n : ℕ) (bytes : List ℕ) → length bytes ≡ count → IsBytes bytes → n ≡ num order (take count bytes) → bytes_of order count n ≡ bytes
number_spells order count n bytes long fit is =
    ap (λ (m : ℕ). bytes_of order count m) (is ∙ ap (num order) (take_all count bytes (omega arith)))
    ∙ ap (λ (k : ℕ). bytes_of order k (num order bytes)) (sym long)
    ∙ bytes_back order bytes fit

pub are_bytes : (bytes : List ℕ) → AreBytes bytes → IsBytes bytes
are_bytes bytes all i = elim (cases_lt i (length bytes)) [
  | inl inside ↦ all i 0 inside
  | inr past ↦ subst (λ (b : ℕ). b < 256) (sym (get_or_past bytes i 0 past)) (omega arith)
]

-- a number fits its bytes
low_fits : (bytes : List ℕ) → IsBytes bytes → low_first bytes < limit (length bytes)
low_fits [] fit = omega arith
low_fits (byte ∷ bytes) fit =
    let first : byte < 256 = fit 0 in
    let rest = low_fits bytes (λ i. fit (suc i)) in
    omega (arith, first, rest)

pub num_fits : (order : Order) (bytes : List ℕ) → IsBytes bytes → num order bytes < limit (length bytes)
num_fits Little bytes fit = low_fits bytes fit
num_fits Big bytes fit = subst (λ (n : ℕ). low_first (reverse bytes) < limit n) (length-reverse bytes) (low_fits (reverse bytes) (IsBytes-reverse bytes fit))
