use Rattle.std.proofs.Common.{◌%◌, ◌==◌, ◌∙◌, ap, ℕ, List, [], ◌∷◌, length, if◌then◌else◌}
use Rattle.trace_base.specs.Kept.{held_of, of_text}
use Rattle.trace_base.specs.TailView.{held}
use Rattle.cpu_workers.proofs.LineKept.{put_first}
use Rattle.round_tests.proofs.tests.workers.LettersLineFormat.line.Goals as goal

abbrev letters : ℕ → List ℕ
letters time = if time % 3 == 0 then [] else if time % 3 == 1 then 97 ∷ [] else 98 ∷ 99 ∷ []

pub returns-clause-line : goal.returns-clause-line
returns-clause-line c =
    put_first (held c.args.into.now) (held c.put.new.self) c.letters_of-text.result.now c.requires.empty c.put.ensures.held
    ∙ ap (λ (text : List ℕ). held_of (of_text (length c.args.into.now.into.now) text)) (c.letters_of-text.ensures.text ∙ ap letters c.time_of.ensures)
