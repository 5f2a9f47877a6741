use Rattle.std.proofs.Common.{◌≡◌, ◌<◌, ◌≤◌, false, List, [], Ok, length, get_or, map, ap, sym, rules}
use Rattle.trace_args.specs.Command.{filter_view}
use Rattle.filter_truth.specs.SelectionView.{use_of}
use Rattle.filter_truth.specs.declared.select.FilterUse.{FilterUse}
use Rattle.trace_args.specs.declared.command.FilterWord.{FilterWord}
use Rattle.run_words.specs.Usage.{filters_read}
use Rattle.run_words.specs.UsageView.{IsFaultOf}
use Rattle.run_words.proofs.Usages.{all_read, one_more, one_none}
use Rattle.run_words.proofs.usage.read_filters.Goals as goal

pub loop-filter-init : goal.loop-filter-init
loop-filter-init c =
    ap (λ (uses : List FilterUse). Ok (map use_of uses)) (sym c.new-uses.ensures.items)

pub loop-filter-preserved : goal.loop-filter-preserved
loop-filter-preserved c =
    let l = c.loop-filter in
    let filters = c.args.filters.now in
    let inside : l.filter-index < length filters = search rules in
    let none : FilterWord = record { word = 0; hide = false; text = record { ref_ptr = (0, 0); now = [] } } in
    let w = get_or filters l.filter-index none in
    let there : w ≡ get_or filters l.filter-index w = search rules in
    one_more filters l.filter-index w l.uses.items c.push.new.self.items c.in_ok-read.read inside there c.in_ok-push.ensures.items c.in_ok-read.ensures.read l.invariant

pub returns-clause-read : goal.returns-clause-read
returns-clause-read c =
    let l = c.loop-filter in
    let past : length c.args.filters.now ≤ l.filter-index = search rules in
    all_read c.args.filters.now l.filter-index l.uses.items past l.invariant

pub returns-in_err-read-clause-fault : goal.returns-in_err-read-clause-fault
returns-in_err-read-clause-fault c =
    let l = c.loop-filter in
    let filters = c.args.filters.now in
    let inside : l.filter-index < length filters = search rules in
    let none : FilterWord = record { word = 0; hide = false; text = record { ref_ptr = (0, 0); now = [] } } in
    let w = get_or filters l.filter-index none in
    let there : w ≡ get_or filters l.filter-index w = search rules in
    let fault : IsFaultOf (filters_read (map filter_view filters)) c.in_err-read.field-0.0 = one_none filters l.filter-index w l.uses.items c.in_err-read.field-0.0 inside there c.in_err-read.ensures.fault l.invariant in
    search (rules, fault)
