use Rattle.std.proofs.Common.{List, ℕ, refl, ap, ◌∙◌, subst}
use Rattle.subpage.specs.Marks.{bytes_from, mark_of}
use Rattle.subpage.proofs.Payloads.{Told, next_passed}
use Rattle.subpage.proofs.mark.pass_next.Goals as goal

pub returns-in-Event : goal.returns-in-Event
returns-in-Event c =
    let l = c.args.layout in
    let m = mark_of c.args.start in
    let time = c.in-Event.time in
    let payload = c.in-Event.payload.now in
    let rest = c.in-Event.rest.now in
    next_passed l c.args.page.now m time c.filled_up-filled.result payload rest refl c.requires
    (subst (λ (bytes : List ℕ). Told l m time payload rest bytes) (c.bytes_behind.ensures ∙ ap (bytes_from c.args.page.now) c.mark.ensures)
    (record { walked = c.in-Event.ensures.next.0; suffix = c.in-Event.ensures.suffix; fits = c.in-Event.ensures.payload.0; own = c.in-Event.ensures.payload.1 }))
    c.filled_up-filled.ensures
