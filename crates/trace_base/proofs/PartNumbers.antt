-- Parts of the same numbers are the same.
use Rattle.std.proofs.Common.{◌≡◌, ℕ, ◌%◌, ◌^◌}
use Rattle.std.proofs.Props.{props}
use mathlib.Core.HLevel.{is_prop→PathP}
use Rattle.std.proofs.Math.Nat.{mod-eq_of_lt}
use Rattle.trace_base.specs.declared.part.Part.{Part}
use Rattle.trace_base.specs.Words.{AreWords}
use Rattle.trace_base.specs.Parts.{part_of}

pub same_part : (a b : Part) → a.offset ≡ b.offset → a.size ≡ b.size → a ≡ b
same_part a b offset size = λ i. record {
  offset = offset i;
  size = size i;
  words = is_prop→PathP (λ j. AreWords (offset j) (size j)) (λ j. hlevel props) a.words b.words i;
}

-- a part is the one of its numbers
pub part_is : (part : Part) → part_of part.offset part.size ≡ part
unfolding part_of
part_is part = same_part (part_of part.offset part.size) part (mod-eq_of_lt part.words.offset_fits) (mod-eq_of_lt part.words.size_fits)
