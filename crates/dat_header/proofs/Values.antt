-- Numbers that stand for a value.
use Rattle.std.proofs.Common.{◌≡◌, ◌≢◌, ℕ, ◌⊎◌, inl, inr, Option, None, Some, Result, Ok, Err, refl, sym, ap, subst, arith}
use Rattle.std.proofs.lemmas.Bool.{ne_eqb}
use Rattle.trace_base.specs.declared.order.Order.{Order}
use Rattle.dat_options.specs.declared.fault.OpenFault.{OpenFault}
use Rattle.dat_header.specs.Header.{IsRefusal}
use Rattle.dat_header.specs.Found.{Found, ◌>>=◌, or_wrong}
use Rattle.dat_header.specs.ItemsAt.{number_at, value_at, long_of, page_of}
use Rattle.dat_header.specs.Allowed.{IsLong, IsPageSize}
use Rattle.dat_header.specs.Steps.{Steps}
use Rattle.trace_outside.specs.Seen.{FileSeen}
use Rattle.dat_header.proofs.Steps.{steps_then, steps_failed, steps_here, steps_wrong}

abbrev checked : {V : Type 0} → OpenFault → ℕ → Option V → Found V
checked wrong after value = or_wrong wrong value >>= λ v. Ok (v, after)

pub value_found : {V : Type 0} (width : ℕ) (order : Order) (value_of : ℕ → Option V) (wrong : OpenFault) (at number after : ℕ) (value : V) (before now : FileSeen)
    → Steps (λ found. found.1) (λ bytes. number_at width order bytes at) at before now (Ok (number, after)) → value_of number ≡ Some value
    → Steps (λ found. found.1) (λ bytes. value_at width order value_of wrong bytes at) at before now (Ok (value, after))
unfolding value_at
value_found width order value_of wrong at number after value before now steps is =
    steps_then _ _ _ _ _ _ _ _ _ _ steps (steps_here _ _ _ now (value, after) (ap (checked wrong after) is) refl (omega (arith, steps.inside, steps.size)))

pub value_wrong : {V : Type 0} (width : ℕ) (order : Order) (value_of : ℕ → Option V) (wrong : OpenFault) (at number after : ℕ) (before now : FileSeen)
    → Steps (λ found. found.1) (λ bytes. number_at width order bytes at) at before now (Ok (number, after)) → value_of number ≡ None → IsRefusal wrong
    → Steps {V = V × ℕ} (λ found. found.1) (λ bytes. value_at width order value_of wrong bytes at) at before now (Err wrong)
unfolding value_at
value_wrong width order value_of wrong at number after before now steps is refusal =
    steps_then _ _ _ _ _ _ _ _ _ _ steps (steps_wrong _ _ _ now wrong (ap (checked wrong after) is) refusal)

pub value_failed : {V : Type 0} (width : ℕ) (order : Order) (value_of : ℕ → Option V) (wrong : OpenFault) (at : ℕ) (fault : OpenFault) (before now : FileSeen)
    → Steps (λ found. found.1) (λ bytes. number_at width order bytes at) at before now (Err fault)
    → Steps {V = V × ℕ} (λ found. found.1) (λ bytes. value_at width order value_of wrong bytes at) at before now (Err fault)
unfolding value_at
value_failed width order value_of wrong at fault before now steps = steps_failed _ _ _ _ _ _ _ _ steps

pub long_known : (byte : ℕ) → IsLong byte → long_of byte ≡ Some byte
long_known byte (inl four) = subst (λ (n : ℕ). long_of n ≡ Some n) (sym four) refl
long_known byte (inr eight) = subst (λ (n : ℕ). long_of n ≡ Some n) (sym eight) refl

abbrev pub IsListed : ℕ → Type 0
IsListed size = (size ≡ 4096) ⊎ ((size ≡ 8192) ⊎ ((size ≡ 16384) ⊎ ((size ≡ 32768) ⊎ (size ≡ 65536))))

pub page_known : (size : ℕ) → IsListed size → page_of size ≡ Some size
page_known size (inl e) = subst (λ (n : ℕ). page_of n ≡ Some n) (sym e) refl
page_known size (inr (inl e)) = subst (λ (n : ℕ). page_of n ≡ Some n) (sym e) refl
page_known size (inr (inr (inl e))) = subst (λ (n : ℕ). page_of n ≡ Some n) (sym e) refl
page_known size (inr (inr (inr (inl e)))) = subst (λ (n : ℕ). page_of n ≡ Some n) (sym e) refl
page_known size (inr (inr (inr (inr e)))) = subst (λ (n : ℕ). page_of n ≡ Some n) (sym e) refl

pub page_allowed : (size : ℕ) → IsListed size → IsPageSize size
page_allowed size (inl e) = (12, omega arith, omega arith, e)
page_allowed size (inr (inl e)) = (13, omega arith, omega arith, e)
page_allowed size (inr (inr (inl e))) = (14, omega arith, omega arith, e)
page_allowed size (inr (inr (inr (inl e)))) = (15, omega arith, omega arith, e)
page_allowed size (inr (inr (inr (inr e)))) = (16, omega arith, omega arith, e)

pub page_other : (size : ℕ) → size ≢ 4096 → size ≢ 8192 → size ≢ 16384 → size ≢ 32768 → size ≢ 65536 → page_of size ≡ None
page_other size a b c d e = rw (ne_eqb size 4096 a, ne_eqb size 8192 b, ne_eqb size 16384 c, ne_eqb size 32768 d, ne_eqb size 65536 e) refl

pub page_unlisted : (size : ℕ) → (IsListed size → ⊥) → page_of size ≡ None
page_unlisted size never = page_other size (λ e. never (inl e)) (λ e. never (inr (inl e))) (λ e. never (inr (inr (inl e)))) (λ e. never (inr (inr (inr (inl e))))) (λ e. never (inr (inr (inr (inr e)))))

-- a value that is there, and one that is not
pub checked_is : {V W : Type 0} (wrong : OpenFault) (value : Option V) (next : V → Result W OpenFault) (is : V) → value ≡ Some is → (or_wrong wrong value >>= next) ≡ next is
checked_is wrong value next is e = ap (λ v. or_wrong wrong v >>= next) e

pub checked_not : {V W : Type 0} (wrong : OpenFault) (value : Option V) (next : V → Result W OpenFault) → value ≡ None → (or_wrong wrong value >>= next) ≡ Err wrong
checked_not wrong value next e = ap (λ v. or_wrong wrong v >>= next) e
