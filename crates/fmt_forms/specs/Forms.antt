-- How a conversion shows its argument: its flags, its width and its precision (C11 7.21.6.1).
use Rattle.std.specs.Prelude.{ℕ, ℤ, pos, negsuc, Bool, true, false, ◌||◌, min, Option, Some, None, unsigned_abs}
use Rattle.fmt_directives.specs.declared.directive.Spec.{Spec}
use Rattle.fmt_forms.specs.declared.form.Form.{Form}

-- a negative width is the flag `-`; a negative precision is none
abbrev pub goes_left : Option ℤ → Bool
goes_left None = false
goes_left (Some (pos n)) = false
goes_left (Some (negsuc n)) = true

abbrev pub width_of : Option ℤ → ℕ
width_of None = 0
width_of (Some z) = min (unsigned_abs z) 65535

abbrev pub precision_of : Option ℤ → Option ℕ
precision_of None = None
precision_of (Some (pos n)) = Some (min n 65535)
precision_of (Some (negsuc n)) = None

abbrev pub form_of : Spec → Option ℤ → Option ℤ → Form
form_of spec width precision = record { left = spec.left || goes_left width; zero = spec.zero; plus = spec.plus; space = spec.space; alternate = spec.alternate; width = width_of width; precision = precision_of precision }
