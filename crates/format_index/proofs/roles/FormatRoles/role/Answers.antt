use Rattle.std.proofs.Common.{sym, ◌∙◌, ◌≡◌, refl, length, slice_get, Some}
use Rattle.std.proofs.lemmas.Option.{slice_get_read}
use Rattle.format_index.proofs.RolePlaces.{role_here}
use Rattle.format_index.proofs.roles.FormatRoles.role.Goals as goal

pub returns-in-Some-get : goal.returns-in-Some-get
returns-in-Some-get g c =
    let found = c.in-Some-get.ensures.lookup in
    let got : slice_get c.deref.result.now c.in-Some.place ≡ Some c.in-Some-get.role.now =
    slice_get_read c.deref.result.now (length c.deref.result.now) c.in-Some.place c.in-Some-get.role.now refl found.3.0 found.1 in
    role_here g.R.FormatRole.role_of c.args.formats.now c.args.id c.args.other c.deref.result.now c.in-Some.place c.in-Some-get.role.now (c.deref.ensures.value ∙ cc (c.self.view_is, c.requires)) (sym c.in-Some.is ∙ c.place.ensures) (sym got)
