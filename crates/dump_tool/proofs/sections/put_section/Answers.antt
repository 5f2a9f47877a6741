use Rattle.std.proofs.Common.{rules}
use Rattle.std.specs.Prelude.{codes}
use Rattle.std.proofs.lemmas.Iterator.{YieldsList-from_slice}
use Rattle.dump_tool.specs.Texts.{stored_text}
use Rattle.dump_tool.specs.Lists.{system_line, options_of, option_line}
use Rattle.dump_tool.proofs.EntriesPut.{list_put}
use Rattle.dump_tool.proofs.sections.put_section.Goals as goal

pub returns-in-HeadPage : goal.returns-in-HeadPage
returns-in-HeadPage g c = rw (c.in-HeadPage.is, ← c.as_bytes.ensures) c.put_text.ensures

pub returns-in-Events : goal.returns-in-Events
returns-in-Events g c = rw (c.in-Events.is, ← c.as_slice-in-Events.ensures) c.put_events.ensures

pub returns-in-CmdLines : goal.returns-in-CmdLines
returns-in-CmdLines g c = rw (c.in-CmdLines.is, ← c.as_bytes-in-CmdLines.ensures) c.put_text-in-CmdLines.ensures

pub returns-in-FtraceEvents : goal.returns-in-FtraceEvents
returns-in-FtraceEvents g c =
    rw c.in-FtraceEvents.is
    (list_put (codes "ftrace formats") (stored_text (codes "format")) _ _ _ _ (cc) (YieldsList-from_slice c.args.header.now.ftrace cc)
    (λ texts yields. c.put_list.ensures _ texts yields (λ _ _ _ _ _ _ put. search rules)))

pub returns-in-Systems : goal.returns-in-Systems
returns-in-Systems g c =
    rw c.in-Systems.is
    (list_put (codes "systems") system_line _ _ _ _ (cc) (YieldsList-from_slice c.args.header.now.systems cc)
    (λ texts yields. c.put_list-in-Systems.ensures _ texts yields (λ _ _ _ _ _ _ put. put)))

pub returns-in-Options : goal.returns-in-Options
returns-in-Options g c =
    rw c.in-Options.is
    (list_put (codes "options") option_line _ _ _ _ (cc) (YieldsList-from_slice (options_of c.args.header.now.options) cc)
    (λ texts yields. c.put_list-in-Options.ensures _ texts yields (λ _ _ _ _ _ _ put. put)))

pub returns-in-Printk : goal.returns-in-Printk
returns-in-Printk g c = rw (c.in-Printk.is, ← c.as_bytes-in-Printk.ensures) c.put_text-in-Printk.ensures
