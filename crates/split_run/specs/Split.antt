-- A split of a file with a header: the new files that it makes, and how it ends.
-- Source: trace-cmd-split(1).
use Rattle.std.specs.Prelude.{ℕ, Option, List, [], ◌*◌, Ok}
use Rattle.trace_base.specs.declared.part.Part.{Part}
use Rattle.trace_args.specs.Command.{SplitData}
use Rattle.dat_header.specs.declared.header.Header.{Header}
use Rattle.dat_header.specs.declared.header.Body.{Body}
use Rattle.dat_header.specs.declared.header.Body.TheVariants.{Latency, Fly}
use Rattle.dat_header.specs.Written.{without_instances}
use Rattle.time_merge.specs.declared.ending.End.{End}
use Rattle.split_pieces.specs.declared.rules.Rules.{Rules}
use Rattle.split_pieces.specs.Cuts.{file_items}
use Rattle.subpage.specs.Arrangement.{Keyed}
use Rattle.split_tool.specs.NewFiles.{new_files, end_of}
use Rattle.new_files.specs.Stored.{NewFile}
use Rattle.run_endings.specs.Selection.{chosen, one_or_all}
use Rattle.run_endings.specs.Ends.{status_of_end}
use Rattle.run_endings.specs.Meaning.{Meaning}
use Rattle.run_endings.specs.Progress.{parts_size}

-- the processors that a split takes; a latency file has data of none
abbrev pub taken_of : Option ℕ → Body → List (ℕ × Part)
taken_of one Latency = []
taken_of one (Fly parts) = chosen (one_or_all one) parts

-- how the words cut a trace
abbrev pub rules_of : SplitData → Rules
rules_of words = record {
  unit = words.unit;
  repeat = words.repeat;
  per_cpu = words.per_cpu;
  start = words.start;
  stop = words.stop;
}

-- new files say nothing of further instances, whose data they do not have
abbrev pub split_files : SplitData → Header → List ℕ → List NewFile
split_files words header bytes =
    new_files (rules_of words) words.base (without_instances header) bytes (taken_of words.cpu header.body)

abbrev pub split_end : SplitData → Header → List ℕ → End
split_end words header bytes = end_of (rules_of words) (without_instances header) bytes (taken_of words.cpu header.body)

-- the items of each new file, in order
abbrev pub split_items : SplitData → Header → List ℕ → List (List Keyed)
split_items words header bytes = file_items (rules_of words) header.layout bytes (taken_of words.cpu header.body)

-- nothing is printed: the file is cut into new ones
abbrev pub split_by : SplitData → Header → List ℕ → Meaning
split_by words header bytes = record {
  pieces = [];
  status = status_of_end (Ok (split_end words header bytes));
  files = split_files words header bytes;
}

-- a split reads the parts of the processors that it takes at most three times: to measure its pieces, and to pack of each
-- sub-buffer the piece that ends in it and the one that begins there
abbrev pub split_share : Option ℕ → Body → ℕ
split_share one body = 3 * parts_size (taken_of one body)
