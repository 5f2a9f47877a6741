use Rattle.std.proofs.Common.{◌≡◌, ◌∙◌, ℕ, List, Ok, map, refl, subst, sym}
use Rattle.trace_base.specs.declared.part.Part.{Part}
use Rattle.subpage.specs.Arrangement.{CpusRise}
use Rattle.trace_args.specs.declared.command.FilterWord.{FilterWord}
use Rattle.trace_args.specs.Command.{filter_view}
use Rattle.filter_truth.specs.SelectionView.{use_of}
use Rattle.run_words.specs.Usage.{filters_read}
use Rattle.run_words.proofs.Usages.{uses_known}
use Rattle.several_report.proofs.Opening.{with_bytes_rise}
use Rattle.several_report.proofs.sources.basis_of.Goals as goal

pub context_of-requires : goal.context_of-requires
context_of-requires c = record {
  filters = uses_known (map filter_view c.args.words.now.filters.items) (map use_of c.in-Ok.filters.items)
      (subst (λ (words : List FilterWord). filters_read (map filter_view words) ≡ Ok (map use_of c.in-Ok.filters.items)) c.as_slice.ensures.value c.in-Ok.ensures.read);
}

pub new-requires-clause-rise : goal.new-requires-clause-rise
new-requires-clause-rise c =
    subst (λ (parts : List (ℕ × Part)). CpusRise parts) (sym (c.as_slice-2.ensures.value ∙ c.in_ok-shown.ensures.parts)) (with_bytes_rise c.args.words.now.cpus c.args.header.body)

pub returns : goal.returns
returns c = record {
  layout = c.in_ok-lanes.ensures.layout;
  cpus = refl;
  context = c.in_ok-context.ensures;
  parts = c.in_ok-lanes.ensures.parts ∙ c.as_slice-2.ensures.value ∙ c.in_ok-shown.ensures.parts;
  unused = c.in_ok-lanes.ensures.unused;
}
