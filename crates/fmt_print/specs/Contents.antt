-- What the conversions of the code show of an argument.
use Rattle.std.specs.Prelude.{ℕ, List}
use Rattle.fmt_directives.specs.declared.directive.Directive.{Directive}
use Rattle.fmt_directives.specs.declared.directive.Directive.TheVariants as directive
use Rattle.fmt_directives.specs.declared.directive.Length.{Length}
use Rattle.fmt_directives.specs.declared.directive.Spec.{Spec}
use Rattle.fmt_expr.specs.Tree.{Tree}
use Rattle.fmt_forms.specs.declared.form.Form.{Form}
use Rattle.fmt_print.specs.declared.step.Content.{Content}
use Rattle.fmt_print.specs.declared.step.Content.TheVariants.{Number, Letter, Text, Pointer}
use Rattle.fmt_print.specs.Addresses.{pointer_text}
use Rattle.fmt_print.specs.Printed.{Source, number_text}
use Rattle.fmt_print.specs.Strings.{letter_text, string_text}

abbrev pub content_text : Source → Content → Length → Form → Tree → List ℕ
content_text s (Number base) size = number_text s.given s.long size base
content_text s Letter size = letter_text s.given
content_text s Text size = string_text s.given s.maps
content_text s (Pointer pointer) size = pointer_text pointer s.given s.maps

-- the directive that shows it
abbrev pub directive_of : Content → Spec → Directive
directive_of (Number base) spec = directive.Number spec base
directive_of Letter spec = directive.Letter spec
directive_of Text spec = directive.Text spec
directive_of (Pointer pointer) spec = directive.Pointer spec pointer
