-- Integers whose texts are put at once.
use Rattle.std.specs.Prelude.{ℕ, Bool, true, false, not, ◌&&◌, ◌||◌, ◌==◌, nat_le, List, [], codes, is_none}
use Rattle.fmt_directives.specs.declared.directive.Base.{Base}
use Rattle.fmt_forms.specs.declared.form.Form.{Form}
use Rattle.fmt_forms.specs.Integers.{is_decimal}

-- no width, no precision and no mark but a minus
abbrev pub is_plain : Base → Form → Bool
is_plain base form = (((is_decimal base && (form.width == 0)) && is_none form.precision) && not form.plus) && not form.space

abbrev pub minus : Bool → List ℕ
minus true = codes "-"
minus false = []

-- no precision and no mark, and no width or one of at most 16 digits that zeros fill
abbrev pub is_zeroed : Form → Bool
is_zeroed form = (is_none form.precision && not form.alternate) && ((form.width == 0) || ((form.zero && not form.left) && nat_le form.width 16))
