-- What the bytes that were read say of a table.
use Rattle.std.proofs.Common.{◌≡◌, ℕ, ◌+◌, ◌*◌, List, length, Option, None, Some, Ok, Err, IfSome, sym, ap, subst, ◌∙◌, arith}
use Rattle.trace_base.specs.declared.order.Order.{Order}
use Rattle.trace_base.specs.declared.part.Part.{Part}
use Rattle.dat_options.specs.declared.fault.OpenFault.{OpenFault}
use Rattle.dat_options.specs.declared.fault.OpenFault.TheVariants.{Truncated, Memory}
use Rattle.dat_options.specs.Place.{GoesOnWith}
use Rattle.dat_options.specs.Answer.{AnswersTold, fault_of_piece}
use Rattle.trace_outside.specs.declared.piece.PieceFault.{PieceFault}
use Rattle.trace_outside.specs.declared.piece.PieceFault.TheVariants as piece
use Rattle.trace_outside.specs.Piece.{GivesPiece}
use Rattle.dat_options.specs.Table.{table_text, HasTable, FindsTable, table_from}
use Rattle.dat_options.proofs.Places.{stands_from, given_goes_on}
use Rattle.dat_options.proofs.TableLaws.{length-table_text, table_has, table_past}

never_found : (order : Order) (cpus at : ℕ) (bytes : List ℕ) (fault : OpenFault) → table_from order cpus at bytes ≡ Err fault → (parts : List Part) → HasTable order cpus parts at bytes → ⊥
never_found order cpus at bytes fault is parts has =
    let found = table_has order cpus parts at bytes has in
    cc

-- what a call answers that could not read the table
pub record Faulty (order : Order) (cpus : ℕ) (told : Option (List ℕ)) (at : ℕ) (fault : OpenFault) : Type 0 where
  pub found : FindsTable order cpus at told (Err fault)
  pub exact : AnswersTold (table_from order cpus at) told (Err fault)

pub faulty : (order : Order) (cpus : ℕ) (told : Option (List ℕ)) (size at : ℕ) (fault : PieceFault) → IfSome told (λ bytes. length bytes ≡ size)
    → GivesPiece told size at (16 * cpus) (Err fault) → Faulty order cpus told at (fault_of_piece fault)
faulty order cpus None size at (piece.EndsEarly end) whole given = record { found = tt; exact = tt }
faulty order cpus (Some bytes) size at (piece.EndsEarly end) whole given =
    let past = table_past order cpus at bytes (omega (arith, whole, given.1)) ∙ ap (λ n. Err (Truncated n)) (whole ∙ sym given.0) in
    record { found = never_found order cpus at bytes (Truncated end) past; exact = past }
faulty order cpus None size at piece.Read whole given = record { found = tt; exact = tt }
faulty order cpus (Some bytes) size at piece.Read whole given = record { found = tt; exact = tt }
faulty order cpus None size at piece.Memory whole given = record { found = tt; exact = tt }
faulty order cpus (Some bytes) size at piece.Memory whole given = record { found = tt; exact = tt }

-- want of memory says nothing
pub wanting : (order : Order) (cpus : ℕ) (told : Option (List ℕ)) (at : ℕ) → Faulty order cpus told at Memory
wanting order cpus None at = record { found = tt; exact = tt }
wanting order cpus (Some bytes) at = record { found = tt; exact = tt }

pub record Found (order : Order) (cpus : ℕ) (told : Option (List ℕ)) (at : ℕ) (parts : List Part) : Type 0 where
  pub found : FindsTable order cpus at told (Ok (parts, at + 16 * cpus))
  pub exact : AnswersTold (table_from order cpus at) told (Ok (parts, at + 16 * cpus))
  pub count : length parts ≡ cpus

pub all_found : (order : Order) (cpus : ℕ) (told : Option (List ℕ)) (size at : ℕ) (parts : List Part) (text : List ℕ) → IfSome told (λ bytes. length bytes ≡ size)
    → table_text order parts ≡ text → GivesPiece told size at (16 * cpus) (Ok text) → Found order cpus told at parts
all_found order cpus None size at parts text whole is given =
    let long : length (table_text order parts) ≡ length text = ap length is in
    record { found = tt; exact = tt; count = omega (arith, long, given.0, length-table_text order parts) }
all_found order cpus (Some bytes) size at parts text whole is given =
    let long : length (table_text order parts) ≡ length text = ap length is in
    let count : length parts ≡ cpus = omega (arith, long, given.0, length-table_text order parts) in
    let holds : GoesOnWith (table_text order parts) at bytes = subst (λ (t : List ℕ). GoesOnWith t at bytes) (sym is) (given_goes_on (Some bytes) at (16 * cpus) text given.0 given.2) in
    let has : HasTable order cpus parts at bytes = record { count = count; stands = stands_from (table_text order parts) at bytes (omega (arith, long, given.0, given.1, whole)) holds } in
    record { found = has; exact = table_has order cpus parts at bytes has; count = count }
