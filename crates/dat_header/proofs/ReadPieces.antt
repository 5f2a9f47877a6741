-- Bytes and numbers read of a file.
use Rattle.std.proofs.Common.{◌≡◌, ℕ, ◌+◌, ◌-◌, ◌<◌, ◌≤◌, true, false, ltb, List, length, take, drop, Option, None, Some, Result, Ok, Err, IfSome, refl, sym, ap, subst, ◌∙◌, arith}
use Rattle.std.proofs.lemmas.Bool.{le-ltb, lt-ltb}
use Rattle.std.proofs.lemmas.List.{length-drop, take_all}
use Rattle.trace_outside.specs.Causes.{Rose, raised}
use Rattle.trace_base.specs.Number.{num}
use Rattle.trace_outside.specs.Reading.{GivesBytesAt}
use Rattle.trace_base.specs.declared.order.Order.{Order}
use Rattle.dat_options.specs.declared.fault.OpenFault.TheVariants.{Truncated}
use Rattle.trace_outside.specs.declared.piece.PieceFault.{PieceFault}
use Rattle.trace_outside.specs.declared.piece.PieceFault.TheVariants as piece
use Rattle.dat_options.specs.Answer.{AnswersTold, fault_of_piece}
use Rattle.trace_outside.specs.Piece.{FillsFrom, GivesPiece}
use Rattle.trace_outside.specs.Piece as pieces
use Rattle.trace_outside.specs.Seen.{FileSeen}
use Rattle.dat_options.proofs.Pieces.{read_of_piece, kept_piece}
use Rattle.dat_header.specs.Found.{Found}
use Rattle.dat_header.specs.ItemsAt.{bytes_at, number_at}
use Rattle.dat_header.specs.Steps.{Steps}
use Rattle.dat_header.proofs.Steps.{erring_is, steps_then, steps_here, steps_failed}

abbrev found_ok : {V : Type 0} → V → ℕ → Found V
found_ok value at = Ok (value, at)

pub bytes_found : (size at : ℕ) (file : List ℕ) → at + size ≤ length file → bytes_at size file at ≡ Ok (take size (drop at file), at + size)
unfolding bytes_at
bytes_found size at file within =
    let enough : ltb (length (drop at file)) size ≡ false = le-ltb _ _ (omega (arith, length-drop at file)) in
    rw enough refl

pub bytes_short : (size at : ℕ) (file : List ℕ) → at ≤ length file → length file < at + size → bytes_at size file at ≡ Err (Truncated (length file))
unfolding bytes_at
bytes_short size at file within short =
    let few : ltb (length (drop at file)) size ≡ true = lt-ltb _ _ (omega (arith, length-drop at file)) in
    rw few refl

-- the fault of a read from inside the file that did not give so many bytes
abbrev pub FailsAt : ℕ → ℕ → ℕ → PieceFault → Type 0
FailsAt total at size (piece.EndsEarly len) = (len ≡ total) × (total < at + size)
FailsAt total at size piece.Read = Unit {0}
FailsAt total at size piece.Memory = Unit {0}

pub failed_fill : (told : Option (List ℕ)) (total at size : ℕ) (buffer : List ℕ) (fault : PieceFault) → length buffer ≡ size → FillsFrom told total at (Err fault) buffer → FailsAt total at size fault
failed_fill told total at size buffer (piece.EndsEarly len) long fills = (fills.0, omega (arith, fills.1, long))
failed_fill told total at size buffer piece.Read long fills = tt
failed_fill told total at size buffer piece.Memory long fills = tt

pub failed_piece : (told : Option (List ℕ)) (total at size : ℕ) (fault : PieceFault) → GivesPiece told total at size (Err fault) → FailsAt total at size fault
failed_piece told total at size (piece.EndsEarly len) gives = gives
failed_piece told total at size piece.Read gives = tt
failed_piece told total at size piece.Memory gives = tt

told_found : (told : Option (List ℕ)) (total at size : ℕ) (text : List ℕ) → length text ≡ size → at + size ≤ total → IfSome told (λ file. length file ≡ total)
    → GivesBytesAt told at size text → AnswersTold (λ bytes. bytes_at size bytes at) told (Ok (text, at + size))
told_found None total at size text long within is given = tt
told_found (Some file) total at size text long within is given =
    bytes_found size at file (omega (arith, is, within))
    ∙ ap (λ (t : List ℕ). found_ok t (at + size)) (sym given ∙ take_all size text (omega (arith, long)))

told_short : (told : Option (List ℕ)) (total at size : ℕ) (fault : PieceFault) → at ≤ total → IfSome told (λ file. length file ≡ total)
    → FailsAt total at size fault → AnswersTold {T = List ℕ × ℕ} (λ bytes. bytes_at size bytes at) told (Err (fault_of_piece fault))
told_short None total at size fault within is fails = tt
told_short (Some file) total at size (piece.EndsEarly len) within is fails =
    bytes_short size at file (omega (arith, is, within)) (omega (arith, is, fails.1)) ∙ ap (λ n. Err (Truncated n)) (is ∙ sym fails.0)
told_short (Some file) total at size piece.Read within is fails = tt
told_short (Some file) total at size piece.Memory within is fails = tt

pub content_found : (size at : ℕ) (text : List ℕ) (before now : FileSeen) → length text ≡ size → at + size ≤ before.size → GivesBytesAt before.bytes at size text
    → IfSome before.bytes (λ file. length file ≡ before.size) → now.bytes ≡ before.bytes → now.size ≡ before.size → now.faults ≡ before.faults → now.reads ≡ raised before.reads size
    → Steps (λ found. found.1) (λ bytes. bytes_at size bytes at) at before now (Ok (text, at + size))
content_found size at text before now long within given is bytes same kept reads = record {
  answer = told_found before.bytes before.size at size text long within is given;
  bytes = bytes;
  size = same;
  later = omega (arith, kept);
  cause = λ e. cc;
  kept = kept;
  reads = omega (arith, reads);
  most = omega (arith, reads, within);
  forward = omega arith;
  inside = within;
}

abbrev failing : (X : Type 0) → PieceFault → Result X PieceFault
failing X fault = Err fault

pub content_failed : (X : Type 0) (size at : ℕ) (fault : PieceFault) (before now : FileSeen) → FailsAt before.size at size fault → at ≤ before.size
    → IfSome before.bytes (λ file. length file ≡ before.size) → now.bytes ≡ before.bytes → now.size ≡ before.size → before.faults ≤ now.faults
    → (failing X fault ≡ failing X piece.Read → Rose before.faults now.faults) → pieces.KeptAt before.faults now.faults fault → now.reads ≤ raised before.reads (before.size - at)
    → Steps {V = List ℕ × ℕ} (λ found. found.1) (λ bytes. bytes_at size bytes at) at before now (Err (fault_of_piece fault))
content_failed X size at fault before now fails within is bytes same later cause kept most = record {
  answer = told_short before.bytes before.size at size fault within is fails;
  bytes = bytes;
  size = same;
  later = later;
  cause = λ e. cause (ap (failing X) (read_of_piece fault (erring_is _ _ _ e)));
  kept = kept_piece before.faults now.faults fault kept;
  reads = tt;
  most = most;
  forward = tt;
  inside = tt;
}

pub number_found : (width : ℕ) (order : Order) (at value : ℕ) (buffer : List ℕ) (before now : FileSeen) → length buffer ≡ width → value ≡ num order (take width buffer)
    → FillsFrom before.bytes before.size at (Ok tt) buffer
    → IfSome before.bytes (λ file. length file ≡ before.size) → now.bytes ≡ before.bytes → now.size ≡ before.size → now.faults ≡ before.faults → now.reads ≡ raised before.reads (length buffer)
    → Steps (λ found. found.1) (λ bytes. number_at width order bytes at) at before now (Ok (value, at + width))
unfolding number_at
number_found width order at value buffer before now long number fills is bytes same kept reads =
    let content = content_found width at buffer before now long (omega (arith, fills.0, long)) (subst (λ (n : ℕ). GivesBytesAt before.bytes at n buffer) long fills.1) is bytes same kept (omega (arith, reads, long)) in
    let whole : num order buffer ≡ value = ap (num order) (sym (take_all width buffer (omega (arith, long)))) ∙ sym number in
    steps_then _ _ _ _ _ _ _ _ _ _ content (steps_here (λ found. found.1) (Ok (num order buffer, at + width)) (at + width) now (value, at + width) (ap (λ (n : ℕ). found_ok n (at + width)) whole) refl (omega (arith, fills.0, same, long)))

pub number_failed : (X : Type 0) (width : ℕ) (order : Order) (at : ℕ) (buffer : List ℕ) (fault : PieceFault) (before now : FileSeen) → length buffer ≡ width
    → FillsFrom before.bytes before.size at (Err fault) buffer → at ≤ before.size
    → IfSome before.bytes (λ file. length file ≡ before.size) → now.bytes ≡ before.bytes → now.size ≡ before.size → before.faults ≤ now.faults
    → (failing X fault ≡ failing X piece.Read → Rose before.faults now.faults) → pieces.KeptAt before.faults now.faults fault → now.reads ≤ raised before.reads (before.size - at)
    → Steps {V = ℕ × ℕ} (λ found. found.1) (λ bytes. number_at width order bytes at) at before now (Err (fault_of_piece fault))
unfolding number_at
number_failed X width order at buffer fault before now long fills within is bytes same later cause kept most =
    steps_failed _ _ _ _ _ _ _ _ (content_failed X width at fault before now (failed_fill before.bytes before.size at width buffer fault long fills) within is bytes same later cause kept most)
