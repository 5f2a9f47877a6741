-- The options of a trace file: an id, a size and the bytes of each, and the id 0 after the last.
-- Source: trace-cmd.dat.v6(5), `options`.
use Rattle.std.specs.Prelude.{◌≡◌, ◌≢◌, ◌↔◌, ◌+◌, ℕ, zero, suc, ◌^◌, ◌<◌, nat_lt, ◌==◌, if◌then◌else◌, List, [], ◌∷◌, ◌++◌, length, drop, Option, Some, None, Result, Ok, Err, IfSome}
use Rattle.std.specs.Option.{option_map}
use Rattle.std.specs.List.{All, flat_map}
use Rattle.trace_base.specs.declared.order.Order.{Order}
use Rattle.trace_base.specs.Number.{bytes_of}
use Rattle.dat_options.specs.declared.option.Opt.{Opt}
use Rattle.dat_options.specs.declared.fault.OpenFault.{OpenFault}
use Rattle.dat_options.specs.declared.fault.OpenFault.TheVariants.{Truncated}
use Rattle.trace_base.specs.OptionSteps.{◌>>=◌}
use Rattle.dat_options.specs.Front.{leading_piece, leading_number}
use Rattle.dat_options.specs.Place.{StandsAt, AreBytes}
use Rattle.dat_options.specs.Answer.{found_in}

-- the id is not the one that ends the list, and the size is a number of 32 bits
pub record MayBeWritten (option : Opt) : Type 0 where
  pub id_is_some : option.id ≢ 0
  pub size_fits : length option.bytes < 2 ^ 32

-- the same of an option in a file, where the id is a number of 16 bits
pub record IsOption (option : Opt) : Type 0 where
  pub may_be_written : MayBeWritten option
  pub id_fits : option.id < 2 ^ 16

abbrev pub option_text : Order → Opt → List ℕ
option_text order option = bytes_of order 2 option.id ++ (bytes_of order 4 (length option.bytes) ++ option.bytes)

abbrev pub options_text : Order → List Opt → List ℕ
options_text order options = flat_map (option_text order) options ++ bytes_of order 2 0

-- a file has these options at a place
pub record HasOptions (order : Order) (options : List Opt) (at : ℕ) (bytes : List ℕ) : Type 0 where
  pub allowed : All IsOption options
  pub stands : StandsAt (options_text order options) at bytes

-- what was found there is there, and where the file was found to end early nothing is there
abbrev pub FindsOptions : Order → ℕ → Option (List ℕ) → Result (List Opt × ℕ) OpenFault → Type 0
FindsOptions order at told (Ok found) = IfSome told (λ bytes. HasOptions order found.0 at bytes)
FindsOptions order at told (Err (Truncated place)) = IfSome told (λ bytes. (options : List Opt) → HasOptions order options at bytes → ⊥)
FindsOptions order at told (Err fault) = Unit {0}

-- the option after its id
unfoldable pub option_behind : Order → ℕ → List ℕ → Option (Option Opt × List ℕ)
option_behind order id bytes = do
  size ← leading_number order 4 bytes
  content ← leading_piece size.0 size.1
  Some (Some (record { id = id; bytes = content.0 }), content.1)

-- the option that bytes begin with, or none where they begin with the end of the list
unfoldable pub option_at : Order → List ℕ → Option (Option Opt × List ℕ)
option_at order bytes = do
  id ← leading_number order 2 bytes
  if id.0 == 0 then Some (None, id.1) else option_behind order id.0 id.1

abbrev pub with_first : Option Opt → List ℕ → Option (List Opt × List ℕ) → Option (List Opt × List ℕ)
with_first None rest more = Some ([], rest)
with_first (Some option) rest more = option_map (λ others. (option ∷ others.0, others.1)) more

-- fewer than so many options
unfoldable pub options_below : ℕ → Order → List ℕ → Option (List Opt × List ℕ)
options_below zero order bytes = None
options_below (suc n) order bytes = do
  first ← option_at order bytes
  with_first first.0 first.1 (options_below n order first.1)

-- the options that bytes begin with, and the bytes after them
unfoldable pub options_at : Order → List ℕ → Option (List Opt × List ℕ)
options_at order bytes = options_below (length bytes) order bytes

-- the options at a place of a file
unfoldable pub options_from : Order → ℕ → List ℕ → Result (List Opt × ℕ) OpenFault
options_from order at bytes = found_in bytes (if nat_lt (length bytes) at then None else options_at order (drop at bytes))

-- A file has at most one list of options at a place.
abbrev pub OneOptions : Type 0
OneOptions = (order : Order) (options others : List Opt) (at : ℕ) (bytes : List ℕ) → HasOptions order options at bytes → HasOptions order others at bytes → options ≡ others

-- What is written is read again, whatever follows it.
abbrev pub OptionsReadBack : Type 0
OptionsReadBack = (order : Order) (options : List Opt) (rest : List ℕ) → All IsOption options → options_at order (options_text order options ++ rest) ≡ Some (options, rest)

-- The computed options are those that a file has at the place, with the place after them.
abbrev pub ComputesOptions : Type 0
ComputesOptions = (order : Order) (options : List Opt) (at end : ℕ) (bytes : List ℕ) → AreBytes bytes
    → options_from order at bytes ≡ Ok (options, end) ↔ HasOptions order options at bytes × (end ≡ at + length (options_text order options))

-- No options are computed exactly where a file has none at the place, and then the fault is that it ends early.
abbrev pub ComputesNoOptions : Type 0
ComputesNoOptions = (order : Order) (at : ℕ) (fault : OpenFault) (bytes : List ℕ) → AreBytes bytes
    → options_from order at bytes ≡ Err fault ↔ (fault ≡ Truncated (length bytes)) × ((options : List Opt) → HasOptions order options at bytes → ⊥)
