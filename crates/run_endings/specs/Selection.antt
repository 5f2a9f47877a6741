-- Which processors a command takes: all of them, one, or those of a set.
-- Source: trace-cmd-report(1), `--cpu`; trace-cmd-split(1), `-C`.
use Rattle.std.specs.Prelude.{Option, None, Some, ℕ, ◌==◌, Bool, true, false, List, filter}
use Rattle.std.specs.List.{enumerate_from, slice_index_or}
use Rattle.trace_base.specs.declared.part.Part.{Part}
use Rattle.run_endings.specs.declared.selection.Selection.{Selection as CodeSelection}
use Rattle.run_endings.specs.declared.selection.Selection.TheVariants as code

pub data Selection : Type 0 where
  Every : Selection
  One : ℕ → Selection
  Members : List Bool → Selection

abbrev pub has : Selection → ℕ → Bool
has Every cpu = true
has (One one) cpu = cpu == one
has (Members cpus) cpu = slice_index_or cpus cpu false

-- the processors of these parts that it takes, with their numbers
abbrev pub chosen : Selection → List Part → List (ℕ × Part)
chosen selection parts = filter (λ part. has selection part.0) (enumerate_from 0 parts)

-- what words choose that may name a set, or one processor
abbrev pub set_or_all : Option (List Bool) → Selection
set_or_all None = Every
set_or_all (Some cpus) = Members cpus

abbrev pub one_or_all : Option ℕ → Selection
one_or_all None = Every
one_or_all (Some one) = One one

abbrev pub selection_of : CodeSelection → Selection
selection_of code.Every = Every
selection_of (code.One one) = One one
selection_of (code.Members cpus) = Members cpus.now
