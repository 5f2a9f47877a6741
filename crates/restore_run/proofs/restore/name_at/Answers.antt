use Rattle.std.proofs.Common.{◌<◌, ◌≤◌, length, rules, arith}
use Rattle.std.proofs.lemmas.List.{length-map}
use Rattle.trace_args.specs.Command.{restore_view}
use Rattle.run_endings.proofs.Names.{behind_one}
use Rattle.restore_run.proofs.RestoreNames.{data_at, past_data}
use Rattle.restore_run.proofs.restore.name_at.Goals as goal

pub returns-then-place-len : goal.returns-then-place-len
returns-then-place-len c =
    let input = c.args.words.now.input.now in
    let names = c.args.words.now.files.items in
    let lt : c.args.place < length names = search rules in
    record {
      one = behind_one (λ name. name.now) input names c.args.place c.index.result.now lt c.index.ensures;
      there = λ inside. data_at (λ name. name.now) input names c.args.place c.index.result.now lt c.index.ensures;
    }

pub returns-else-place-len : goal.returns-else-place-len
returns-else-place-len c =
    let names = c.args.words.now.files.items in
    let past : length names ≤ c.args.place = search rules in
    past_data (restore_view c.args.words.now) c.args.place (omega (arith, past, length-map names (λ name. name.now)))
