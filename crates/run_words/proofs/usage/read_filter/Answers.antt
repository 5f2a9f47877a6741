use Rattle.std.proofs.Common.{ℕ, List, Ok, ◌∙◌, ap, sym, subst}
use Rattle.trace_args.specs.Command.{filter_view}
use Rattle.filter_lang.specs.FaultView.{IsRefusedAt, IsPlaceIn}
use Rattle.filter_lang.specs.FilterView.{filter_of}
use Rattle.filter_lang.specs.Texts.{IsFilterText}
use Rattle.run_words.proofs.Usages.{fault_asked, text_read}
use Rattle.run_words.proofs.usage.read_filter.Goals as goal

pub returns-in-Ok-clause-read : goal.returns-in-Ok-clause-read
returns-in-Ok-clause-read c =
    text_read (filter_view c.args.filter.now) (filter_of c.in-Ok.parsed)
    (subst (λ (text : List ℕ). IsFilterText text (filter_of c.in-Ok.parsed)) c.as_bytes.ensures.value c.in-Ok.ensures.found)
    ∙ ap Ok (sym c.use_with.ensures)

pub returns-in-Err-clause-fault : goal.returns-in-Err-clause-fault
returns-in-Err-clause-fault c =
    rw c.ask_fault.ensures
    (fault_asked (filter_view c.args.filter.now) c.in-Err.fault
    (subst (λ (text : List ℕ). IsRefusedAt text c.in-Err.fault) c.as_bytes.ensures.value c.in-Err.ensures.refused)
    (subst (λ (text : List ℕ). IsPlaceIn text c.in-Err.fault) c.as_bytes.ensures.value c.in-Err.ensures.within))
