-- What stands at the front of bytes, and what the bytes after it begin with.
use Rattle.std.proofs.Common.{◌≡◌, ℕ, ◌≤◌, Bool, false, ◌||◌, List, length, take, get_or, Some, refl, subst}
use Rattle.std.specs.Prelude.{◌==◌}
use Rattle.std.proofs.lemmas.Bool.{or_parts}
use Rattle.std.proofs.lemmas.Option.{same_Some}
use Rattle.fmt_directives.specs.Bytes.{is_decimal, is_flag, BeginsOutside}

-- the first n bytes are an a
pub record Front {A : Type 0} (Is : List ℕ → A → Type 0) (bytes : List ℕ) (a : A) (n : ℕ) : Type 0 where
  pub within : n ≤ length bytes
  pub is : Is (take n bytes) a

abbrev pub pair : {A : Type 0} → A → ℕ → A × ℕ
pair a n = (a, n)

-- what was found is this
pub found_is : {A : Type 0} (P : A → ℕ → Type 0) (a b : A) (m n : ℕ) → Some (pair a m) ≡ Some (pair b n) → P a m → P b n
found_is P a b m n e p = subst (λ f. P f.0 f.1) (same_Some (pair a m) (pair b n) e) p

-- bytes that begin a size, a precision, an amount, and any of these or a flag
abbrev pub is_size : ℕ → Bool
is_size b = ((((b == 104 || b == 108) || b == 122) || b == 116) || b == 106) || b == 76

abbrev pub is_amount : ℕ → Bool
is_amount b = b == 42 || is_decimal b

abbrev pub is_precision : ℕ → Bool
is_precision b = b == 46 || is_amount b

abbrev pub before_precision : ℕ → Bool
before_precision b = is_flag b || is_amount b

abbrev pub before_size : ℕ → Bool
before_size b = is_flag b || is_precision b

abbrev pub before_kind : ℕ → Bool
before_kind b = is_size b || before_size b

pub outside_less : (p q : ℕ → Bool) (xs : List ℕ) → ((b : ℕ) → q b ≡ false → p b ≡ false) → BeginsOutside q xs → BeginsOutside p xs
outside_less p q xs less out some = less (get_or xs 0 0) (out some)

-- a test that does not pass, in its parts
pub no_flag : (b : ℕ) → before_precision b ≡ false → is_flag b ≡ false
no_flag b h = (or_parts (is_flag b) (is_amount b) h).0

pub no_amount : (b : ℕ) → before_precision b ≡ false → is_amount b ≡ false
no_amount b h = (or_parts (is_flag b) (is_amount b) h).1

pub no_precision : (b : ℕ) → before_size b ≡ false → is_precision b ≡ false
no_precision b h = (or_parts (is_flag b) (is_precision b) h).1

pub not_before_precision : (b : ℕ) → before_size b ≡ false → before_precision b ≡ false
not_before_precision b h =
    let parts = or_parts (is_flag b) (is_precision b) h in
    let rest = or_parts (b == 46) (is_amount b) parts.1 in
    rw (parts.0, rest.1) refl

pub no_size : (b : ℕ) → before_kind b ≡ false → is_size b ≡ false
no_size b h = (or_parts (is_size b) (before_size b) h).0

pub not_before_size : (b : ℕ) → before_kind b ≡ false → before_size b ≡ false
not_before_size b h = (or_parts (is_size b) (before_size b) h).1
