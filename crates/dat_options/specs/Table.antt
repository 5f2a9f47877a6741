-- The table of a trace file: the offset and the size of each processor's data, in order.
-- Source: trace-cmd.dat.v6(5), the entries after `flyrecord`.
use Rattle.std.specs.Prelude.{◌≡◌, ◌↔◌, ◌+◌, ◌*◌, ℕ, zero, suc, nat_lt, if◌then◌else◌, List, [], ◌∷◌, ◌++◌, length, drop, Option, Some, None, Result, Ok, Err, IfSome}
use Rattle.std.specs.Option.{option_map}
use Rattle.std.specs.List.{flat_map}
use Rattle.trace_base.specs.declared.order.Order.{Order}
use Rattle.trace_base.specs.declared.part.Part.{Part}
use Rattle.trace_base.specs.Number.{bytes_of}
use Rattle.trace_base.specs.Parts.{part_of}
use Rattle.dat_options.specs.declared.fault.OpenFault.{OpenFault}
use Rattle.dat_options.specs.declared.fault.OpenFault.TheVariants.{Truncated}
use Rattle.trace_base.specs.OptionSteps.{◌>>=◌}
use Rattle.dat_options.specs.Front.{leading_number}
use Rattle.dat_options.specs.Place.{StandsAt, AreBytes}
use Rattle.dat_options.specs.Answer.{found_in}

abbrev pub part_text : Order → Part → List ℕ
part_text order part = bytes_of order 8 part.offset ++ bytes_of order 8 part.size

abbrev pub table_text : Order → List Part → List ℕ
table_text order parts = flat_map (part_text order) parts

-- a file has these parts, one for each processor, at a place
pub record HasTable (order : Order) (cpus : ℕ) (parts : List Part) (at : ℕ) (bytes : List ℕ) : Type 0 where
  pub count : length parts ≡ cpus
  pub stands : StandsAt (table_text order parts) at bytes

-- what was found there is there, and where the file was found to end early nothing is there
abbrev pub FindsTable : Order → ℕ → ℕ → Option (List ℕ) → Result (List Part × ℕ) OpenFault → Type 0
FindsTable order cpus at told (Ok found) = IfSome told (λ bytes. HasTable order cpus found.0 at bytes)
FindsTable order cpus at told (Err (Truncated place)) = IfSome told (λ bytes. (parts : List Part) → HasTable order cpus parts at bytes → ⊥)
FindsTable order cpus at told (Err fault) = Unit {0}

-- the part that bytes begin with
unfoldable pub part_at : Order → List ℕ → Option (Part × List ℕ)
part_at order bytes = do
  offset ← leading_number order 8 bytes
  size ← leading_number order 8 offset.1
  Some (part_of offset.0 size.0, size.1)

-- the parts of so many processors that bytes begin with, and the bytes after them
unfoldable pub table_at : Order → ℕ → List ℕ → Option (List Part × List ℕ)
table_at order zero bytes = Some ([], bytes)
table_at order (suc cpus) bytes = do
  first ← part_at order bytes
  option_map (λ others. (first.0 ∷ others.0, others.1)) (table_at order cpus first.1)

-- the parts at a place of a file
unfoldable pub table_from : Order → ℕ → ℕ → List ℕ → Result (List Part × ℕ) OpenFault
table_from order cpus at bytes = found_in bytes (if nat_lt (length bytes) at then None else table_at order cpus (drop at bytes))

-- A file has at most one table for so many processors at a place.
abbrev pub OneTable : Type 0
OneTable = (order : Order) (cpus : ℕ) (parts others : List Part) (at : ℕ) (bytes : List ℕ) → HasTable order cpus parts at bytes → HasTable order cpus others at bytes → parts ≡ others

-- What is written is read again, whatever follows it.
abbrev pub TableReadsBack : Type 0
TableReadsBack = (order : Order) (parts : List Part) (rest : List ℕ) → table_at order (length parts) (table_text order parts ++ rest) ≡ Some (parts, rest)

-- The computed table is the one that a file has at the place, with the place after it.
abbrev pub ComputesTable : Type 0
ComputesTable = (order : Order) (cpus : ℕ) (parts : List Part) (at end : ℕ) (bytes : List ℕ) → AreBytes bytes
    → table_from order cpus at bytes ≡ Ok (parts, end) ↔ HasTable order cpus parts at bytes × (end ≡ at + 16 * cpus)

-- No table is computed exactly where a file has none at the place, and then the fault is that it ends early.
abbrev pub ComputesNoTable : Type 0
ComputesNoTable = (order : Order) (cpus at : ℕ) (fault : OpenFault) (bytes : List ℕ) → AreBytes bytes
    → table_from order cpus at bytes ≡ Err fault ↔ (fault ≡ Truncated (length bytes)) × ((parts : List Part) → HasTable order cpus parts at bytes → ⊥)
