-- A table of parts is read as it is spelled.
use Rattle.std.proofs.Common.{◌≡◌, ℕ, zero, suc, ◌+◌, ◌-◌, ◌*◌, ◌<◌, ◌≤◌, true, false, ltb, List, [], ◌∷◌, ◌++◌, length, take, drop, None, Some, Ok, Err, refl, sym, ap, ◌∙◌, append_assoc, inl, inr, arith}
use Rattle.std.proofs.lemmas.Bool.{le-ltb, lt-ltb, cases_lt}
use Rattle.std.proofs.lemmas.List.{length-append, length-drop, drop-drop}
use Rattle.std.proofs.lemmas.List.Concat.{flat_map-cons}
use Rattle.trace_base.specs.declared.order.Order.{Order}
use Rattle.trace_base.specs.declared.part.Part.{Part}
use Rattle.trace_base.specs.Number.{num, bytes_of}
use Rattle.trace_base.specs.Parts.{part_of}
use Rattle.trace_base.proofs.PartNumbers.{part_is}
use Rattle.dat_options.specs.declared.fault.OpenFault.TheVariants.{Truncated}
use Rattle.dat_options.specs.Table.{part_text, table_text, HasTable, part_at, table_at, table_from}
use Rattle.dat_options.proofs.Steps.{ok_is}
use Rattle.dat_options.proofs.Numbers.{length-bytes_of}
use Rattle.dat_options.proofs.Fronts.{number_again, number_short, number_long}
use Rattle.dat_options.proofs.Places.{stands_inside, stands_behind}

part_again : (order : Order) (part : Part) (rest : List ℕ) → part_at order (part_text order part ++ rest) ≡ Some (part, rest)
unfolding part_at
part_again order part rest =
    rw (
      append_assoc (bytes_of order 8 part.offset) (bytes_of order 8 part.size) rest,
      number_again order 8 part.offset (bytes_of order 8 part.size ++ rest) part.words.offset_fits,
      number_again order 8 part.size rest part.words.size_fits,
    ) (ap (λ (p : Part). Some (p, rest)) (part_is part))

pub table_again : (order : Order) (parts : List Part) (rest : List ℕ) → table_at order (length parts) (table_text order parts ++ rest) ≡ Some (parts, rest)
unfolding table_at
table_again order [] rest = refl
table_again order (part ∷ parts) rest =
    rw (
      flat_map-cons (part_text order) part parts,
      append_assoc (part_text order part) (table_text order parts) rest,
      part_again order part (table_text order parts ++ rest),
      table_again order parts rest,
    ) refl

pub length-part_text : (order : Order) (part : Part) → length (part_text order part) ≡ 16
length-part_text order part = omega (arith, length-append (bytes_of order 8 part.offset) (bytes_of order 8 part.size), length-bytes_of order 8 part.offset, length-bytes_of order 8 part.size)

pub length-table_text : (order : Order) (parts : List Part) → length (table_text order parts) ≡ 16 * length parts
length-table_text order [] = refl
length-table_text order (part ∷ parts) =
    let whole : length (table_text order (part ∷ parts)) ≡ length (part_text order part ++ table_text order parts) = ap length (flat_map-cons (part_text order) part parts) in
    omega (arith, whole, length-append (part_text order part) (table_text order parts), length-part_text order part, length-table_text order parts)

part_short : (order : Order) (bytes : List ℕ) → length bytes < 16 → part_at order bytes ≡ None
unfolding part_at
part_short order bytes short = elim (cases_lt (length bytes) 8) [
  | inl few ↦ rw (number_short order 8 bytes few) refl
  | inr some ↦ rw (number_long order 8 bytes some, number_short order 8 (drop 8 bytes) (omega (arith, some, length-drop 8 bytes))) refl
]

part_long : (order : Order) (bytes : List ℕ) → 16 ≤ length bytes → (part : Part) × (part_at order bytes ≡ Some (part, drop 16 bytes))
unfolding part_at
part_long order bytes long = (
  part_of (num order (take 8 bytes)) (num order (take 8 (drop 8 bytes))),
  rw (number_long order 8 bytes (omega arith), number_long order 8 (drop 8 bytes) (omega (arith, length-drop 8 bytes)), drop-drop 8 8 bytes) refl,
)

pub table_short : (order : Order) (cpus : ℕ) (bytes : List ℕ) → length bytes < 16 * cpus → table_at order cpus bytes ≡ None
unfolding table_at
table_short order zero bytes short = absurd (omega arith)
table_short order (suc cpus) bytes short = elim (cases_lt (length bytes) 16) [
  | inl few ↦ rw (part_short order bytes few) refl
  | inr some ↦
      let first = part_long order bytes some in
      rw (first.1, table_short order cpus (drop 16 bytes) (omega (arith, some, length-drop 16 bytes))) refl
]

-- what a file has is what it is read as
pub table_has : (order : Order) (cpus : ℕ) (parts : List Part) (at : ℕ) (bytes : List ℕ) → HasTable order cpus parts at bytes
    → table_from order cpus at bytes ≡ Ok (parts, at + 16 * cpus)
unfolding table_from
table_has order cpus parts at bytes has =
    let long = stands_inside (table_text order parts) at bytes has.stands in
    let inside : ltb (length bytes) at ≡ false = le-ltb _ _ (omega (arith, long)) in
    let place : length bytes - length has.stands.back ≡ at + 16 * cpus = omega (arith, long, length-table_text order parts, has.count) in
    let read : table_at order cpus (table_text order parts ++ has.stands.back) ≡ Some (parts, has.stands.back) =
    ap (λ count. table_at order count (table_text order parts ++ has.stands.back)) (sym has.count) ∙ table_again order parts has.stands.back in
    rw (inside, stands_behind (table_text order parts) at bytes has.stands, read, place) refl

pub table_past : (order : Order) (cpus at : ℕ) (bytes : List ℕ) → length bytes < at + 16 * cpus → table_from order cpus at bytes ≡ Err (Truncated (length bytes))
unfolding table_from
table_past order cpus at bytes past = elim (cases_lt (length bytes) at) [
  | inl before ↦
      let outside : ltb (length bytes) at ≡ true = lt-ltb _ _ before in
      rw outside refl
  | inr behind ↦
      let inside : ltb (length bytes) at ≡ false = le-ltb _ _ behind in
      rw (inside, table_short order cpus (drop at bytes) (omega (arith, past, behind, length-drop at bytes))) refl
]

pub one_list : (order : Order) (cpus : ℕ) (parts others : List Part) (at : ℕ) (bytes : List ℕ) → HasTable order cpus parts at bytes → HasTable order cpus others at bytes → parts ≡ others
one_list order cpus parts others at bytes one two =
    ap (λ (found : List Part × ℕ). found.0) (ok_is (table_from order cpus at bytes) _ _ (table_has order cpus parts at bytes one) (table_has order cpus others at bytes two))
