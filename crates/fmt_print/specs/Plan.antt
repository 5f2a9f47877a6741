-- A print fmt whose format text was read.
use Rattle.std.specs.Prelude.{◌≡◌, ℕ, ◌^◌, ◌≤◌, ◌⊎◌, nat_lt, if◌then◌else◌, List, length, Option, None}
use Rattle.std.specs.Option.{option_map}
use Rattle.fmt_directives.specs.declared.directive.Directive.{Directive}
use Rattle.fmt_directives.specs.Directives.{AreDirectives, IsUnlisted}
use Rattle.fmt_directives.specs.Reading.{directives_of}
use Rattle.fmt_expr.specs.Tree.{Tree}
use Rattle.fmt_expr.specs.Parsing.{FmtData}

pub record Plan : Type 0 where
  pub text : List ℕ
  pub directives : List Directive
  pub args : List Tree
  pub long : ℕ

-- the plan is that of the print fmt: its text, arguments and long size, with directives that spell the text
pub record IsPlanOf (fmt : FmtData) (plan : Plan) : Type 0 where
  pub text : plan.text ≡ fmt.text
  pub args : plan.args ≡ fmt.args
  pub long : plan.long ≡ fmt.long
  pub spelled : AreDirectives plan.text plan.directives

-- a text that no directives spell, or whose places are no numbers of 32 bits
abbrev pub IsUnread : List ℕ → Type 0
IsUnread text = (2 ^ 32 ≤ length text) ⊎ IsUnlisted text

-- the plan, computed
abbrev pub plan_with : FmtData → List Directive → Plan
plan_with fmt directives = record { text = fmt.text; directives = directives; args = fmt.args; long = fmt.long }

unfoldable pub plan_of : FmtData → Option Plan
plan_of fmt = if nat_lt (length fmt.text) (2 ^ 32) then option_map (plan_with fmt) (directives_of fmt.text) else None
