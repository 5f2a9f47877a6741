use Rattle.std.proofs.Common.{rules, arith, ◌≡◌, ◌+◌, ◌∙◌, [], ◌∷◌, Some, ap, ap₂}
use Rattle.filter_lang.specs.PlainToken.{name, slash}
use Rattle.filter_lang.specs.ReaderView.{from}
use Rattle.filter_lang.specs.Filter.{named}
use Rattle.filter_lang.specs.FilterView.{closing_with}
use Rattle.filter_lang.proofs.EventSteps.{two_names_there}
use Rattle.filter_lang.proofs.reader.Reader.event.Goals as goal

pub returns-clause-value : goal.returns-clause-value
returns-clause-value c =
    let s = c.args.self.now in
    let at = c.args.at in
    let a = c.in_ok-first.first.now in
    let b = c.in_ok-second.second.now in
    let one : from s at ≡ name a ∷ from s (at + 1) = search rules in
    let mark' : from s (at + 1) ≡ slash ∷ from s (at + 1 + 1) = search rules in
    let there : from s (at + 2) ≡ name b ∷ from s (at + 2 + 1) = search rules in
    let two : at + 1 + 1 ≡ at + 2 = omega arith in
    let three : at + 2 + 1 ≡ at + 3 = omega arith in
    let copied : a ≡ c.in_ok-first-2.first = search rules in
    let again : b ≡ c.in_ok-copy.field-0 = search rules in
    two_names_there (from s at) (from s (at + 1)) (from s (at + 2)) (from s (at + 3)) a b one (mark' ∙ ap (λ k. slash ∷ from s k) two) (there ∙ ap (λ k. name b ∷ from s k) three)
    ∙ ap₂ (λ x y. closing_with (named x (Some y) ∷ []) (from s (at + 3))) copied again
