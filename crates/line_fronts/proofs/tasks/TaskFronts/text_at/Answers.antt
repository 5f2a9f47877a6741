use Rattle.std.proofs.Common.{◌≡◌, ◌∙◌, Some, ap, length, refl, subst, sym, rules, arith}
use Rattle.std.proofs.lemmas.Bool.{ltb-true}
use Rattle.std.proofs.lemmas.Grind.{common_steps}
use Rattle.std.proofs.lemmas.Int.{ints, to_z-of_z}
use Rattle.std.proofs.lemmas.Option.{slice_get_read}
use Rattle.line_fronts.specs.Tasks.{task_front, AreFronts}
use Rattle.line_fronts.proofs.TaskTexts.{one_at}
use Rattle.line_fronts.proofs.tasks.TaskFronts.text_at.Goals as goal

pub returns-then-front-pid : goal.returns-then-front-pid
returns-then-front-pid c = λ show names are.
    let fronts = c.deref.result.now in
    let place = c.args.place in
    let lookup = c.in_ok-front.ensures.lookup in
    let read = slice_get_read fronts (length fronts) place c.in_ok-front.field-0.now refl (ltb-true place (length fronts) (sym lookup.0)) lookup.1 in
    let same_pid : c.in-Some.front.pid ≡ c.args.pid = first_of (search rules, grind (arith, ints), grind (arith, common_steps), search (rules, to_z-of_z)) in
    c.as_bytes.ensures
    ∙ one_at show names fronts place c.in-Some.front (subst (AreFronts show names) (sym c.deref.ensures.value) are) (ap Some (sym c.in-Some.is) ∙ sym read)
    ∙ ap (task_front show names) same_pid
