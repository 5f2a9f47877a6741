-- Steps one after another, joined in one way or in another.
use Rattle.std.proofs.Common.{◌≡◌, ℕ, Result, Ok, Err, refl}
use Rattle.dat_options.specs.declared.fault.OpenFault.{OpenFault}
use Rattle.dat_header.specs.Found.{◌>>=◌}
use Rattle.dat_header.proofs.Grammar.{found_value}

pub bind_more : {V W X : Type 0} (found : Result V OpenFault) (next : V → Result W OpenFault) (last : W → Result X OpenFault) (other : V → Result X OpenFault)
    → ((v : V) → (next v >>= last) ≡ other v) → ((found >>= next) >>= last) ≡ (found >>= other)
bind_more (Ok v) next last other same = same v
bind_more (Err fault) next last other same = refl

pub bind_same : {V W : Type 0} (found : Result V OpenFault) (next other : V → Result W OpenFault) → ((v : V) → next v ≡ other v) → (found >>= next) ≡ (found >>= other)
bind_same (Ok v) next other same = same v
bind_same (Err fault) next other same = refl

-- a word, of which only the place after it counts
pub bind_word : {W : Type 0} (found : Result ℕ OpenFault) (next : (Unit {0}) × ℕ → Result W OpenFault) (other : ℕ → Result W OpenFault)
    → ((n : ℕ) → next (tt, n) ≡ other n) → ((found >>= λ n. found_value tt n) >>= next) ≡ (found >>= other)
bind_word (Ok n) next other same = same n
bind_word (Err fault) next other same = refl
