use Rattle.std.proofs.Common.{◌≡◌, ◌+◌, ◌^◌, ◌<◌, ◌≤◌, ◌++◌, ◌∷◌, ℕ, [], length}
use Rattle.trace_base.specs.declared.part.Part.{Part}
use Rattle.subpage.specs.Arrangement.{CpusRise}
use Rattle.round_tests.proofs.tests.reports.pages.parts_of.Given as goal

abbrev pub invariant-loop-i : goal.invariant-loop-i
invariant-loop-i l = record {
  count : length l.parts.items ≡ l.i;
  place : l.offset < 2 ^ 64;
  rise : (part : ℕ × Part) → 3 + l.i ≤ part.0 → CpusRise (l.parts.items ++ part ∷ []);
}
