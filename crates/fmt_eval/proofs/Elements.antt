-- Elements that begin past the bytes of their field.
use Rattle.std.proofs.Common.{◌≡◌, ℕ, zero, suc, ◌+◌, ◌*◌, Bool, true, false, ◌<◌, ◌≤◌, List, length, refl, ap, ◌∙◌, mul-suc, arith, inl, inr}
use Rattle.std.specs.Prelude.{pos}
use Rattle.std.proofs.lemmas.Bool.{cases_Bool, lt-ltb, lt-leb}
use Rattle.std.proofs.lemmas.Bool.Decides.{nat_tests}
use Rattle.trace_base.specs.declared.order.Order.{Order}
use Rattle.trace_base.specs.Fields.{unsigned_in, is_size, half, sized, signed_of}

some_size : (size : ℕ) → is_size size ≡ true → 1 ≤ size
some_size zero e = absurd (grind (arith, e))
some_size (suc n) e = omega arith

zero_past : (order : Order) (bytes : List ℕ) (at size : ℕ) → length bytes ≤ at → unsigned_in order bytes at size ≡ 0
unfolding unsigned_in
zero_past order bytes at size le = elim (cases_Bool (is_size size)) as (λ _. unsigned_in order bytes at size ≡ 0) [
  | inl is ↦ rw is (rw (lt-leb (at + size) (length bytes) (omega (arith, some_size size is))) refl)
  | inr none ↦ rw none refl
]

some_half : (size : ℕ) → 0 < half size
some_half size = grind (arith, nat_tests)

zero_is : (signed : Bool) (size : ℕ) → sized signed size 0 ≡ pos 0
unfolding signed_of
zero_is false size = refl
zero_is true size = rw (lt-ltb 0 (half size) (some_half size)) refl

-- an element that begins past the bytes is 0
pub past_element : (signed : Bool) (order : Order) (bytes : List ℕ) (at size : ℕ) → length bytes ≤ at → sized signed size (unsigned_in order bytes at size) ≡ pos 0
past_element signed order bytes at size le = ap (sized signed size) (zero_past order bytes at size le) ∙ zero_is signed size

pub past_index : (signed : Bool) (order : Order) (bytes : List ℕ) (i size : ℕ) → length bytes ≤ i → sized signed size (unsigned_in order bytes (i * size) size) ≡ pos 0
unfolding unsigned_in
past_index signed order bytes i zero le = zero_is signed 0
past_index signed order bytes i (suc n) le = past_element signed order bytes (i * suc n) (suc n) (omega (arith, mul-suc i n, le))
