-- That a literal lies within a text is a proposition.
use Rattle.std.proofs.Common.{ℕ}
use Rattle.std.proofs.Props.{props}
use Rattle.fmt_directives.specs.declared.directive.Directive.{Directive}
use Rattle.fmt_directives.specs.declared.directive.Directive.TheVariants as directive
use Rattle.fmt_directives.specs.Directives.{IsWithin}

pub within_prop : (len : ℕ) (d : Directive) → IsProp (IsWithin len d)
within_prop len (directive.Literal start end) = hlevel props
within_prop len (directive.Number spec base) = hlevel props
within_prop len (directive.Letter spec) = hlevel props
within_prop len (directive.Text spec) = hlevel props
within_prop len (directive.Pointer spec f) = hlevel props
