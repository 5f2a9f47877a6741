-- What a conversion takes of the arguments: a width and a precision that stand for `*`, and what is shown, in this order.
use Rattle.std.specs.Prelude.{ℕ, ℤ, pos, List, [], ◌∷◌, Option, Some, None, option_and_then}
use Rattle.std.specs.Option.{option_map}
use Rattle.fmt_directives.specs.declared.directive.Amount.{Amount}
use Rattle.fmt_directives.specs.declared.directive.Amount.TheVariants.{Absent, Fixed, FromArgument}
use Rattle.fmt_directives.specs.declared.directive.Spec.{Spec}
use Rattle.fmt_expr.specs.Tree.{Tree}
use Rattle.fmt_eval.specs.Values.{RecData, number_of}
use Rattle.fmt_forms.specs.declared.form.Form.{Form}
use Rattle.fmt_forms.specs.Forms.{form_of}

-- the first argument, and those after it
abbrev pub first_of : List Tree → Option (Tree × List Tree)
first_of [] = None
first_of (t ∷ ts) = Some (t, ts)

-- an amount, and the arguments after it
abbrev pub amount_of : RecData → Amount → List Tree → Option (Option ℤ × List Tree)
amount_of g Absent args = Some (None, args)
amount_of g (Fixed n) args = Some (Some (pos n), args)
amount_of g FromArgument args = option_map (λ a. (Some (number_of g a.0).exact, a.1)) (first_of args)

-- the form of a conversion, its argument, and the arguments after it
abbrev pub Taken : Type 0
Taken = Form × Tree × List Tree

unfoldable pub taken : RecData → Spec → List Tree → Option Taken
taken g spec args = option_and_then (λ w. option_and_then (λ p. option_map (λ a. (form_of spec w.0 p.0, a.0, a.1)) (first_of p.1)) (amount_of g spec.precision w.1)) (amount_of g spec.width args)

-- a conversion without an argument prints nothing
abbrev pub by : (Form → Tree → List ℕ) → Option Taken → List ℕ × List Tree
by f None = ([], [])
by f (Some t) = (f t.0 t.1, t.2)
