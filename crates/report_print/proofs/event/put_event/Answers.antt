use Rattle.std.proofs.Common.{◌∙◌, sym, ap, refl}
use Rattle.std.specs.Int.{w32}
use Rattle.std.specs.Option.{option_map}
use Rattle.std.proofs.lemmas.Int.{to_z-of_z}
use Rattle.trace_base.specs.TailView.{held}
use Rattle.report_print.specs.HeadView.{known_view}
use Rattle.report_print.specs.Line.{unknown_text}
use Rattle.report_print.proofs.FrontLemmas.{known_put, unknown_put}
use Rattle.report_print.proofs.TimeEnds.{end_is}
use Rattle.report_print.proofs.event.put_event.Goals as goal

pub put_front-until-requires : goal.put_front-until-requires
put_front-until-requires c = to_z-of_z w32 c.id_and_pid-id.result.1 c.id_and_pid-id.ensures.range ∙ c.id_and_pid-id.ensures.pid

pub put_unknown-requires : goal.put_unknown-requires
put_unknown-requires c = to_z-of_z w32 c.id_and_pid-id.result.1 c.id_and_pid-id.ensures.range ∙ c.id_and_pid-id.ensures.pid

pub returns-in-Some-clause-value : goal.returns-in-Some-clause-value
returns-in-Some-clause-value c =
    known_put c.args.context.now c.args.cpu c.args.time c.args.payload.now c.id_and_pid-id.result.0 c.id_and_pid-id.ensures.id
    (held c.args.into.now) (held c.put_front-until.new.into) (held c.put_body.new.into) c.as_bytes-label.result.now (known_view c.in-Some.known) c.as_bytes-label.ensures
    (ap (option_map known_view) (sym c.in-Some.is) ∙ c.known.ensures) c.put_front-until.ensures.value c.put_body.ensures.value

pub returns-in-Some-clause-until : goal.returns-in-Some-clause-until
returns-in-Some-clause-until c =
    end_is c.args.context.now c.args.cpu c.args.time c.args.payload.now c.put_front-until.result c.put_front-until.ensures.until

pub returns-in-None-clause-value : goal.returns-in-None-clause-value
returns-in-None-clause-value c =
    unknown_put c.args.context.now c.args.cpu c.args.time c.args.payload.now c.id_and_pid-id.result.0 c.id_and_pid-id.ensures.id
    (held c.args.into.now) (held c.put_unknown.new.into) (unknown_text c.id_and_pid-id.result.0) refl
    (ap (option_map known_view) (sym c.in-None.is) ∙ c.known.ensures) c.put_unknown.ensures.value

pub returns-in-None-clause-until : goal.returns-in-None-clause-until
returns-in-None-clause-until c =
    end_is c.args.context.now c.args.cpu c.args.time c.args.payload.now c.put_unknown.result c.put_unknown.ensures.until
