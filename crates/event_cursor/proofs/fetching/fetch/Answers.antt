use Rattle.std.proofs.Common.{rules, ◌≡◌, ℕ, List, subst}
use Rattle.std.specs.Option.{option_map}
use Rattle.subpage.specs.Page.{items}
use Rattle.subpage.specs.Marks.{items_from}
use Rattle.event_cursor.proofs.Fetches.{not_there, opened, own_read, is_read}
use Rattle.event_cursor.proofs.UnreadLaws.{read_there}
use Rattle.event_cursor.proofs.fetching.fetch.Goals as goal

pub returns-in_default-clause-told : goal.returns-in_default-clause-told
returns-in_default-clause-told g c =
    not_there c.args.layout.now (g.F.File.bytes c.args.file.now) c.args.part c.args.number c.len.result
    (search (rules, g.met.F.File.size_is c.args.file.now)) c.in_default.ensures.there

pub returns-clause-holds : goal.returns-clause-holds
returns-clause-holds g c =
    opened c.args.layout.now _ c.read_buffer.new.page c.open_page.result c.bytes.ensures c.open_page.ensures.exact c.open_page.ensures.mark c.open_page.ensures.few

pub returns-clause-told : goal.returns-clause-told
returns-clause-told g c =
    is_read c.args.layout.now (g.F.File.bytes c.args.file.now) c.args.part c.args.number c.len.result c.in-Some.place c.read_buffer.new.page _
    (search (rules, g.met.F.File.size_is c.args.file.now)) c.in-Some.ensures.there c.in-Some.ensures.place (search rules) c.in_ok-read_buffer.ensures.given
    (subst (λ (p : List ℕ). option_map (λ mark. items_from c.args.layout.now p mark) c.open_page.result ≡ items c.args.layout.now p) c.bytes.ensures c.open_page.ensures.exact)

pub returns-clause-own : goal.returns-clause-own
returns-clause-own g c =
    own_read c.args.layout.now (g.F.File.bytes c.args.file.now) c.args.part c.args.number c.len.result c.in-Some.place c.read_buffer.new.page c.open_page.result
    (search (rules, g.met.F.File.size_is c.args.file.now)) c.in-Some.ensures.there c.in-Some.ensures.place (search rules) c.in_ok-read_buffer.ensures.given

pub returns-clause-reads : goal.returns-clause-reads
returns-clause-reads g c =
    read_there c.args.layout.now c.len.result (g.F.File.size c.args.file.now) c.args.part c.args.number (g.F.File.reads c.args.file.now) _ _
    c.len.ensures c.in-Some.ensures.there c.requires.long c.in_ok-read_buffer.ensures.reads

pub returns-in_err-read_buffer-clause-reads : goal.returns-in_err-read_buffer-clause-reads
returns-in_err-read_buffer-clause-reads g c =
    read_there c.args.layout.now c.len.result (g.F.File.size c.args.file.now) c.args.part c.args.number (g.F.File.reads c.args.file.now) _ _
    c.len.ensures c.in-Some.ensures.there c.requires.long c.in_err-read_buffer.ensures.reads
