-- What a call that reads a file's header, or a part of it, may answer.
use Rattle.std.specs.Prelude.{Option, Some, None, Result, Ok, Err, ◌≡◌, ℕ, ◌-◌, List, length, IfSome, MatchResult}
use Rattle.dat_options.specs.declared.fault.OpenFault.{OpenFault}
use Rattle.dat_options.specs.declared.fault.OpenFault.TheVariants.{Truncated, Read, Memory}
use Rattle.trace_outside.specs.declared.piece.PieceFault.{PieceFault}
use Rattle.trace_outside.specs.declared.piece.PieceFault.TheVariants as piece

-- the call answered just this, unless a read failed or there was no memory
abbrev pub AnswersUnlessFaulty : {T : Type 0} → Result T OpenFault → Result T OpenFault → Type 0
AnswersUnlessFaulty (Ok value) expected = expected ≡ Ok value
AnswersUnlessFaulty (Err Read) expected = Unit {0}
AnswersUnlessFaulty (Err Memory) expected = Unit {0}
AnswersUnlessFaulty (Err fault) expected = expected ≡ Err fault

-- the call answered what is said of the file's bytes, where the file tells them
abbrev pub AnswersTold : {T : Type 0} → (List ℕ → Result T OpenFault) → Option (List ℕ) → Result T OpenFault → Type 0
AnswersTold expected told result = IfSome told (λ bytes. AnswersUnlessFaulty result (expected bytes))

-- what was found with the place after it, or the length of a file that has none there
abbrev pub found_in : {X : Type 0} → List ℕ → Option (X × List ℕ) → Result (X × ℕ) OpenFault
found_in bytes None = Err (Truncated (length bytes))
found_in bytes (Some found) = Ok (found.0, length bytes - length found.1)

-- the file ended early, and was that long, or a read failed, or there was no memory
abbrev pub IsEnd : ℕ → OpenFault → Type 0
IsEnd size (Truncated place) = place ≡ size
IsEnd size Read = Unit {0}
IsEnd size Memory = Unit {0}
IsEnd size fault = ⊥

-- a piece of the file was not read
abbrev pub fault_of_piece : PieceFault → OpenFault
fault_of_piece (piece.EndsEarly len) = Truncated len
fault_of_piece piece.Read = Read
fault_of_piece piece.Memory = Memory

-- this fault leaves the count of faults as it was, if it is no failed read
abbrev pub KeptAt : ℕ → ℕ → OpenFault → Type 0
KeptAt before now Read = Unit {0}
KeptAt before now fault = now ≡ before

-- the count of faults is as it was, but where a read failed
abbrev pub KeptUnlessRead : {T : Type 0} → ℕ → ℕ → Result T OpenFault → Type 0
KeptUnlessRead before now result = MatchResult result (λ _. now ≡ before) (KeptAt before now)
