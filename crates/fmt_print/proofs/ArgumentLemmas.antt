-- The first of the arguments.
use Rattle.std.proofs.Common.{◌≡◌, ◌∙◌, ◌<◌, List, [], ◌∷◌, length, map, drop, get_or, Option, Some, None, refl, ap, arith}
use Rattle.fmt_print.specs.declared.argument.Argument.{Argument}
use Rattle.fmt_expr.specs.Tree.{Tree}
use Rattle.fmt_print.specs.ArgumentView.{argument_tree}
use Rattle.fmt_directives.specs.declared.directive.Length.{Length}
use Rattle.fmt_eval.specs.Values.{RecData}
use Rattle.fmt_forms.specs.Forms.{form_of}
use Rattle.fmt_print.specs.Arguments.{Taken, first_of, taken}
use Rattle.fmt_print.specs.Steps.{plain_spec}

abbrev pair : Tree → List Tree → Tree × List Tree
pair t ts = (t, ts)

pub first_none : (args : List Argument) → length args ≡ 0 → first_of (map argument_tree args) ≡ None
first_none [] none = refl
first_none (e ∷ es) none = absurd (omega arith)

pub first_some : (args : List Argument) (d : Argument) → 0 < length args → first_of (map argument_tree args) ≡ Some (pair (argument_tree (get_or args 0 d)) (map argument_tree (drop 1 args)))
first_some [] d some = absurd (omega arith)
first_some (e ∷ es) d some = refl

-- a plain conversion takes one argument, whatever its length
abbrev plain_taken : Length → Option (Tree × List Tree) → Option Taken
plain_taken length None = None
plain_taken length (Some a) = Some (form_of (plain_spec length) None None, a.0, a.1)

takes_one : (g : RecData) (length : Length) (args : List Tree) → plain_taken length (first_of args) ≡ taken g (plain_spec length) args
unfolding taken
takes_one g length [] = refl
takes_one g length (t ∷ ts) = refl

pub plain_some : (g : RecData) (length : Length) (args : List Tree) (a : Tree × List Tree) → Some a ≡ first_of args → Some (form_of (plain_spec length) None None, a.0, a.1) ≡ taken g (plain_spec length) args
plain_some g length args a is = ap (plain_taken length) is ∙ takes_one g length args

pub plain_none : (g : RecData) (length : Length) (args : List Tree) → None ≡ first_of args → None ≡ taken g (plain_spec length) args
plain_none g length args is = ap (plain_taken length) is ∙ takes_one g length args
