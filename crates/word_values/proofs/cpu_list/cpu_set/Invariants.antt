use Rattle.std.proofs.Common.{◌≡◌, [], option_map, length, ◌+◌}
use Rattle.std.specs.List.{slice_split}
use Rattle.std.specs.Option.{option_map_or}
use Rattle.word_values.specs.CpuList.{cpu_set, is_separator, ranges_of}
use Rattle.word_values.proofs.CpuLaws.{added}
use Rattle.word_values.proofs.cpu_list.cpu_set.Given as goal

abbrev pub invariant-loop-rest : goal.invariant-loop-rest
invariant-loop-rest l =
    option_map (added l.set) (ranges_of (option_map_or (λ rest. slice_split is_separator rest.now) l.rest [])) ≡ cpu_set l.fn.text

abbrev pub decreases-loop-rest : goal.decreases-loop-rest
decreases-loop-rest l = option_map_or (λ rest. length rest.now + 1) l.rest 0
