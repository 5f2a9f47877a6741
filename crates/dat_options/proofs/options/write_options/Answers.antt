use Rattle.std.proofs.Common.{◌<◌, ◌≡◌, ◌++◌, [], ◌∷◌, ap, subst, length, take, arith}
use Rattle.std.proofs.lemmas.List.{take_all}
use Rattle.std.proofs.lemmas.Result.{on_err_weaker}
use Rattle.std.specs.List.{flat_map}
use Rattle.trace_base.specs.Number.{bytes_of}
use Rattle.trace_outside.specs.Writing.{Gained, GainedPrefix}
use Rattle.trace_outside.proofs.Gains.{prefix_of_parts, prefix_behind, on_err}
use Rattle.dat_options.specs.declared.option.Opt.{Opt}
use Rattle.dat_options.specs.Options.{option_text, options_text}
use Rattle.dat_options.proofs.Writes.{prefix_in_front, end_bytes}
use Rattle.dat_options.proofs.options.write_options.Goals as goal

pub returns-in_err-write_option-clause-prefix : goal.returns-in_err-write_option-clause-prefix
returns-in_err-write_option-clause-prefix g c =
    let options = c.args.options.now in
    let inside : c.loop-option.option-index < length options = omega arith in
    let part = subst (λ (option : Opt). GainedPrefix (g.O.Sink.written c.loop-option.out) (g.O.Sink.written c.write_option.new.out) (option_text c.args.order option)) c.option-item.is c.in_err-write_option.ensures.prefix in
    on_err c.from_residual.result (prefix_in_front _ _ (flat_map (option_text c.args.order) options) (bytes_of c.args.order 2 0)
    (prefix_of_parts (option_text c.args.order) options c.loop-option.option-index c.option-item.result _ _ _ inside c.loop-option.invariant.gained part))

pub returns-clause-prefix : goal.returns-clause-prefix
returns-clause-prefix g c =
    let order = c.args.order in
    let options = c.args.options.now in
    let all : take c.loop-option.option-index options ≡ options = take_all c.loop-option.option-index options (omega arith) in
    let gained : Gained (g.O.Sink.written c.args.out.now) (g.O.Sink.written c.loop-option.out) (flat_map (option_text order) options) = rw all at c.loop-option.invariant.gained in
    on_err_weaker c.write_all.result (prefix_behind _ _ _ (flat_map (option_text order) options) (0 ∷ 0 ∷ []) [] (options_text order options)
    (ap (λ end. flat_map (option_text order) options ++ end) (end_bytes order)) gained) c.write_all.ensures.prefix
