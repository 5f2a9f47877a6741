use Rattle.std.proofs.Common.{◌≡◌, take}
use Rattle.filter_truth.specs.NamedView.{formats_of}
use Rattle.filter_truth.proofs.named.named_formats.Given as goal

abbrev pub invariant-loop-i : goal.invariant-loop-i
invariant-loop-i l = formats_of l.named.items ≡ take l.i l.formats
