use Rattle.std.proofs.Common.{◌+◌, ◌++◌, ap, ◌∙◌}
use Rattle.fmt_expr.specs.Types.{spaced, spaced_names}
use Rattle.fmt_expr.specs.SourceView.{source}
use Rattle.fmt_expr.proofs.TypeRows.{words_turn, words_done}
use Rattle.fmt_expr.proofs.reader.Reader.spaced_names.Goals as goal

pub loop-place-preserved : goal.loop-place-preserved
loop-place-preserved c =
    let s = source c.args.self.now in
    let l = c.loop-place in
    let more = c.in_ok-push_name.ensures ∙ ap (λ o. l.words.items ++ spaced o) c.name.ensures.value in
    words_turn s l.place (c.args.at + c.args.names) l.words.items c.push_name.new.into.items (spaced_names s c.args.names c.args.at) c.loop-place-test.true more l.invariant

pub returns : goal.returns
returns c =
    let s = source c.args.self.now in
    let l = c.loop-place in
    words_done s l.place (c.args.at + c.args.names) l.words.items (spaced_names s c.args.names c.args.at) c.loop-place-test.false l.invariant
