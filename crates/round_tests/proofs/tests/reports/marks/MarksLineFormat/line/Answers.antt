use Rattle.std.proofs.Common.{◌%◌, ◌+◌, ◌∙◌, ap, ℕ, List, [], ◌∷◌, length, take}
use Rattle.std.specs.Prelude.{◌==◌, if◌then◌else◌}
use Rattle.subpage.specs.ItemData.{item_time}
use Rattle.subpage.specs.ItemView.{item_view}
use Rattle.trace_base.specs.Kept.{held_of, of_text}
use Rattle.trace_base.specs.TailView.{held}
use Rattle.cpu_workers.proofs.LineKept.{put_first}
use Rattle.round_tests.proofs.tests.reports.marks.MarksLineFormat.line.Goals as goal

abbrev shown : ℕ → ℕ
shown time = if time % 10 == 7 then 0 else 2

abbrev mark_of : ℕ → ℕ → List ℕ
mark_of cpu time = (97 + cpu % 26) ∷ (48 + time % 10) ∷ []

pub returns-clause-line : goal.returns-clause-line
returns-clause-line c =
    let room : ℕ = length c.args.into.now.into.now in
    let time : ℕ = item_time (item_view c.args.item.now) in
    put_first (held c.args.into.now) (held c.put.new.self) _ c.requires.empty c.put.ensures.held
    ∙ ap (λ (n : ℕ). held_of (of_text room (take n c.mark-text.result))) (c.len_of-len.ensures ∙ ap shown c.time_of-time.ensures)
    ∙ ap (λ (text : List ℕ). held_of (of_text room (take (shown time) text))) (c.mark-text.ensures ∙ ap (mark_of c.args.cpu) c.time_of-time.ensures)
