use Rattle.std.proofs.Common.{rules, arith, ◌-◌, ◌<◌, length, map}
use Rattle.std.proofs.lemmas.List.{length-map}
use Rattle.run_endings.proofs.Names.{behind_one}
use Rattle.several_report.proofs.InputNames.{behind_there, past_there}
use Rattle.several_report.proofs.sources.input_at.Goals as goal

pub returns-then-behind-len-clause-named : goal.returns-then-behind-len-clause-named
returns-then-behind-len-clause-named c =
    let names = c.args.words.now.more.items in
    let lt : c.args.place - 1 < length names = search rules in
    behind_one (λ name. name.now) c.args.words.now.input.now names (c.args.place - 1) c.index.result.now lt c.index.ensures

pub returns-then-behind-len-clause-there : goal.returns-then-behind-len-clause-there
returns-then-behind-len-clause-there c =
    let names = c.args.words.now.more.items in
    let lt : c.args.place - 1 < length names = search rules in
    behind_there (λ name. name.now) c.args.words.now.input.now names c.args.place (c.args.place - 1) c.index.result.now (omega arith) lt c.index.ensures

pub returns-else-behind-len-clause-there : goal.returns-else-behind-len-clause-there
returns-else-behind-len-clause-there c =
    let names = c.args.words.now.more.items in
    past_there c.args.words.now.input.now (map (λ name. name.now) names) c.args.place (omega (arith, length-map names (λ name. name.now)))
