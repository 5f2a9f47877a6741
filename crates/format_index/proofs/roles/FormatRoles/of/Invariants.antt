use Rattle.std.proofs.Common.{◌≡◌, map, take}
use Rattle.format_index.proofs.roles.FormatRoles.of.Given as goal

abbrev pub invariant-loop-i : goal.invariant-loop-i
invariant-loop-i g l = l.roles.items ≡ map g.R.FormatRole.role_of (take l.i l.formats)
