-- Directives by how they are shown. Most conversions are plain: they have no flag, no width and no precision.
use Rattle.std.specs.Prelude.{◌≡◌, ℕ, false, List, [], ◌++◌, length, take, drop, replicate, slice_range, Option, Some, None, IfSome}
use Rattle.std.specs.Option.{option_map, option_to_list}
use Rattle.fmt_directives.specs.declared.directive.Amount.TheVariants.{Absent}
use Rattle.fmt_directives.specs.declared.directive.Base.TheVariants.{Signed, Unsigned}
use Rattle.fmt_directives.specs.declared.directive.Length.{Length}
use Rattle.fmt_directives.specs.declared.directive.Length.TheVariants.{Usual}
use Rattle.fmt_directives.specs.declared.directive.PointerForm.TheVariants as pointer
use Rattle.fmt_directives.specs.declared.directive.Spec.{Spec}
use Rattle.fmt_directives.specs.declared.directive.Directive.{Directive}
use Rattle.fmt_directives.specs.declared.directive.Directive.TheVariants as directive
use Rattle.fmt_directives.specs.Directives.{IsWithin}
use Rattle.fmt_expr.specs.Tree.{Tree}
use Rattle.fmt_print.specs.Contents.{directive_of}
use Rattle.fmt_print.specs.declared.step.Literal.{Literal}
use Rattle.fmt_print.specs.declared.step.Shown.{Shown}
use Rattle.fmt_print.specs.declared.step.Shown.TheVariants as shown
use Rattle.fmt_print.specs.declared.step.Step.{Step}
use Rattle.fmt_print.specs.Printed.{Source, printed_one}

abbrev pub plain_spec : Length → Spec
plain_spec length = record { left = false; zero = false; plus = false; space = false; alternate = false; width = Absent; precision = Absent; length = length }

abbrev pub a_literal : Literal → Directive
a_literal l = directive.Literal l.start l.end

-- the directives that a step shows: a literal or none, and one after it or none
abbrev pub literal_directive : Option Literal → Option Directive
literal_directive l = option_map a_literal l

abbrev pub shown_directive : Shown → Option Directive
shown_directive shown.Nothing = None
shown_directive (shown.Again l) = Some (a_literal l)
shown_directive (shown.Signed length) = Some (directive.Number (plain_spec length) Signed)
shown_directive (shown.Unsigned length) = Some (directive.Number (plain_spec length) Unsigned)
shown_directive shown.Text = Some (directive.Text (plain_spec Usual))
shown_directive shown.Name = Some (directive.Pointer (plain_spec Usual) pointer.Name)
shown_directive (shown.Pointer form) = Some (directive.Pointer (plain_spec Usual) form)
shown_directive (shown.Formed what spec) = Some (directive_of what spec)

abbrev pub directives_of : Step → List Directive
directives_of s = option_to_list (literal_directive s.literal) ++ option_to_list (shown_directive s.shown)

-- the sixteen bytes that stand at a place of a text, with zeros for those after its end
abbrev pub first_sixteen : List ℕ → List ℕ
first_sixteen bytes = bytes ++ drop (length bytes) (replicate 16 0)

abbrev pub sixteen_at : ℕ → List ℕ → List ℕ
sixteen_at place text = first_sixteen (take 16 (drop place text))

abbrev pub literal_start : Option Literal → ℕ
literal_start None = 0
literal_start (Some l) = l.start

-- the first bytes of the literal of a step, as it keeps them, and as they stand in a text
abbrev pub front_of : Step → List ℕ
front_of s = s.front

abbrev pub front_in : List ℕ → Step → List ℕ
front_in text s = sixteen_at (literal_start s.literal) text

-- both directives lie within a text, and the front of the literal was copied from it
abbrev pub IsPlaced : List ℕ → Step → Type 0
IsPlaced text s = (IfSome (literal_directive s.literal) (IsWithin (length text)) × IfSome (shown_directive s.shown) (IsWithin (length text))) × (front_of s ≡ front_in text s)

-- the text of a literal or none
abbrev pub literal_text : List ℕ → Option Literal → List ℕ
literal_text text None = []
literal_text text (Some l) = slice_range text l.start l.end

-- the text of one directive or none, and the arguments after it
abbrev pub printed_some : Source → Option Directive → List Tree → List ℕ × List Tree
printed_some s None args = ([], args)
printed_some s (Some d) args = printed_one s d args

-- the text of a step, and the arguments after it
abbrev pub printed_step : Source → Step → List Tree → List ℕ × List Tree
printed_step s step args = let behind = printed_some s (shown_directive step.shown) args in (literal_text s.text step.literal ++ behind.0, behind.1)
