-- Steps that may find something wrong with the file.
use Rattle.std.specs.Prelude.{Option, None, Some, Result, Ok, Err, ℕ}
use Rattle.dat_options.specs.declared.fault.OpenFault.{OpenFault}

-- a value with the place after it
abbrev pub Found : Type 0 → Type 0
Found V = Result (V × ℕ) OpenFault

-- one step after another, until one is wrong
infixl 10 ◌>>=◌
abbrev pub ◌>>=◌ : {V W : Type 0} → Result V OpenFault → (V → Result W OpenFault) → Result W OpenFault
Ok value >>= next = next value
Err fault >>= next = Err fault

-- the value, or what is wrong where there is none
abbrev pub or_wrong : {V : Type 0} → OpenFault → Option V → Result V OpenFault
or_wrong wrong None = Err wrong
or_wrong wrong (Some value) = Ok value
