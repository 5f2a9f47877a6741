-- What reading one option of a file's list answers.
use Rattle.std.specs.Prelude.{◌≡◌, ℕ, ◌+◌, ◌≤◌, List, length, drop, Option, Some, None, Result, Ok, Err, IfSome}
use Rattle.trace_base.specs.declared.order.Order.{Order}
use Rattle.trace_base.specs.Number.{bytes_of}
use Rattle.dat_options.specs.declared.option.Opt.{Opt}
use Rattle.dat_options.specs.declared.fault.OpenFault.{OpenFault}
use Rattle.dat_options.specs.declared.fault.OpenFault.TheVariants.{Truncated, Read, Memory}
use Rattle.dat_options.specs.Place.{GoesOnWith}
use Rattle.dat_options.specs.Options.{IsOption, option_text, option_at}

-- the text of an option, or of the end of the list
abbrev pub first_text : Order → Option Opt → List ℕ
first_text order None = bytes_of order 2 0
first_text order (Some option) = option_text order option

-- it stands there, and the place is the one after it
pub record IsFirst (order : Order) (told : Option (List ℕ)) (size at : ℕ) (found : Option Opt × ℕ) : Type 0 where
  pub allowed : IfSome found.0 IsOption
  pub behind : found.1 ≡ at + length (first_text order found.0)
  pub inside : found.1 ≤ size
  pub text : IfSome told (λ bytes. GoesOnWith (first_text order found.0) at bytes)

abbrev pub ReadsFirst : Order → Option (List ℕ) → ℕ → ℕ → Result (Option Opt × ℕ) OpenFault → Type 0
ReadsFirst order told size at (Ok found) = IsFirst order told size at found
ReadsFirst order told size at (Err (Truncated place)) = (place ≡ size) × IfSome told (λ bytes. option_at order (drop at bytes) ≡ None)
ReadsFirst order told size at (Err Read) = Unit {0}
ReadsFirst order told size at (Err Memory) = Unit {0}
ReadsFirst order told size at (Err fault) = ⊥
