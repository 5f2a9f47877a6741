use Rattle.std.proofs.Common.{◌<◌, ◌≤◌, ◌++◌, [], List, ℕ, length, arith, ap, ◌∙◌}
use Rattle.std.specs.Prelude.{codes}
use Rattle.std.specs.List.{flat_map}
use Rattle.dat_header.specs.declared.header.System.{System}
use Rattle.format_parse.specs.Table.{formats_in, with_formats}
use Rattle.report_context.proofs.Formats.{system_formats, formats_begun, formats_more, formats_all}
use Rattle.report_context.proofs.context.read_formats.Goals as goal

pub loop-system-init : goal.loop-system-init
loop-system-init c =
    formats_begun _ (formats_in (codes "ftrace") c.args.header.now.ftrace) (flat_map system_formats c.as_slice-systems.result.now) c.new-empty.result c.new-empty.ensures
    (c.in_ok-table.ensures ∙ ap (λ (texts : List (List ℕ)). with_formats c.new-empty.result (formats_in (codes "ftrace") texts)) c.as_slice-own.ensures)
    ∙ ap (λ (systems : List System). with_formats [] (formats_in (codes "ftrace") c.args.header.now.ftrace ++ flat_map system_formats systems)) c.as_slice-systems.ensures

pub loop-system-preserved : goal.loop-system-preserved
loop-system-preserved c =
    let inside : c.loop-system.system-index < length c.as_slice-systems.result.now = omega arith in
    formats_more c.as_slice-systems.result.now _ _ _ c.loop-system.system-index c.system-item.result inside c.in_ok-longer.ensures c.system-item.is c.loop-system.invariant

pub returns : goal.returns
returns c =
    let all : length c.as_slice-systems.result.now ≤ c.loop-system.system-index = omega arith in
    formats_all c.as_slice-systems.result.now _ _ c.loop-system.system-index all c.loop-system.invariant
