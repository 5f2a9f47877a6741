use Rattle.std.proofs.Common.{◌≤◌, length}
use Rattle.field_names.proofs.Firsts.{KeepsFrom}
use Rattle.field_names.proofs.names.first_places.Given as goal

abbrev pub invariant-loop-place : goal.invariant-loop-place
invariant-loop-place l = (l.place ≤ length l.fields) × KeepsFrom l.fields l.place l.places

-- proposed from the loop's first test
abbrev pub decreases-loop-place : goal.decreases-loop-place
decreases-loop-place l = l.place
