use Rattle.std.proofs.Common.{◌≡◌, ◌∙◌, ℕ, ◌+◌, None, Some, Ok, Err, List, ◌++◌, ◌∷◌, [], length, subst, sym, arith}
use Rattle.std.proofs.lemmas.Result.{err_from_is_err_and}
use Rattle.std.specs.List.{All, flat_map}
use Rattle.trace_outside.proofs.Keeping.{file_kept}
use Rattle.dat_options.specs.declared.option.Opt.{Opt}
use Rattle.dat_options.specs.Answer.{KeptAt}
use Rattle.dat_options.specs.Options.{IsOption, option_text}
use Rattle.dat_options.proofs.FirstLaws.{HoldsAt}
use Rattle.dat_options.proofs.OptionsFound.{Faulty, faulty, Found, all_found, first_same, as_first, behind_one_more, holds_one_more, All-push}
use Rattle.dat_options.proofs.options.read_options.Given as given
use Rattle.dat_options.proofs.options.read_options.Goals as goal

at_fault : (g : given.Over) (c : goal.After-drop-options g) → Faulty c.args.order (g.F.File.bytes c.args.file.now) (g.F.File.size c.args.file.now) c.args.at c.in_err-option.field-0.0
at_fault g c =
    faulty c.args.order _ _ c.args.at c.loop-options.place c.loop-options.options.items c.in_err-option.field-0.0 (g.met.F.File.size_is c.args.file.now)
    c.loop-options.invariant.allowed c.loop-options.invariant.behind c.loop-options.invariant.holds
    (first_same c.args.order _ _ _ _ c.loop-options.place (Err c.in_err-option.field-0.0) c.loop-options.invariant.keeps.bytes c.loop-options.invariant.keeps.size c.in_err-option.ensures.first)

pub returns-in_err-option-clause-found : goal.returns-in_err-option-clause-found
returns-in_err-option-clause-found g c = let p = err_from_is_err_and c.from_residual.result c.from_residual.ensures.1 in rw (p.1, p.2) (at_fault g c).found

pub returns-in_err-option-clause-exact : goal.returns-in_err-option-clause-exact
returns-in_err-option-clause-exact g c = let p = err_from_is_err_and c.from_residual.result c.from_residual.ensures.1 in rw (p.1, p.2) (at_fault g c).exact

pub returns-in_err-option-clause-kept : goal.returns-in_err-option-clause-kept
returns-in_err-option-clause-kept g c =
    let p = err_from_is_err_and c.from_residual.result c.from_residual.ensures.1 in
    rw (p.1, p.2) (subst (λ (count : ℕ). KeptAt count (g.F.File.faults c.read_option.new.file) c.in_err-option.field-0.0) c.loop-options.invariant.faults c.in_err-option.ensures.kept)

at_end : (g : given.Over) (c : goal.After-from_vec g) → Found c.args.order (g.F.File.bytes c.args.file.now) (g.F.File.size c.args.file.now) c.args.at c.loop-options.options.items c.in_ok-option.behind
at_end g c =
    let told = g.F.File.bytes c.args.file.now in
    let first = as_first c.args.order told _ _ _ _ None c.in_default.is (first_same c.args.order told _ _ _ c.loop-options.place (Ok (c.in_ok-option.option, c.in_ok-option.behind)) c.loop-options.invariant.keeps.bytes c.loop-options.invariant.keeps.size c.in_ok-option.ensures.first) in
    all_found c.args.order told _ c.args.at c.loop-options.place c.in_ok-option.behind c.loop-options.options.items (g.met.F.File.size_is c.args.file.now)
    c.loop-options.invariant.allowed c.loop-options.invariant.behind c.loop-options.invariant.holds first

pub returns-in_default-clause-found : goal.returns-in_default-clause-found
returns-in_default-clause-found g c = rw c.from_vec.ensures (at_end g c).found

pub returns-in_default-clause-exact : goal.returns-in_default-clause-exact
returns-in_default-clause-exact g c = rw c.from_vec.ensures (at_end g c).exact

pub loop-options-preserved : goal.loop-options-preserved
loop-options-preserved g c =
    let order = c.args.order in
    let at = c.args.at in
    let told = g.F.File.bytes c.args.file.now in
    let options = c.loop-options.options.items in
    let option = c.in-Some.option in
    let first = as_first order told _ _ _ _ (Some option) c.in-Some.is (first_same order told _ _ _ c.loop-options.place (Ok (c.in_ok-option.option, c.in_ok-option.behind)) c.loop-options.invariant.keeps.bytes c.loop-options.invariant.keeps.size c.in_ok-option.ensures.first) in
    let pushed : options ++ option ∷ [] ≡ c.push.new.self.items = sym c.in-Ok.ensures.items in
    record {
      allowed = subst (λ (all : List Opt). All IsOption all) pushed (All-push options option c.loop-options.invariant.allowed first.allowed);
      behind = subst (λ (all : List Opt). c.in_ok-option.behind ≡ at + length (flat_map (option_text order) all)) pushed (behind_one_more order at c.loop-options.place c.in_ok-option.behind options option c.loop-options.invariant.behind first.behind);
      holds = subst (λ (all : List Opt). HoldsAt told at (flat_map (option_text order) all)) pushed (holds_one_more order told at c.loop-options.place options option c.loop-options.invariant.behind c.loop-options.invariant.holds first.text);
      inside = omega (arith, first.inside);
      reads = omega (arith, c.in_ok-option.ensures.reads, c.loop-options.invariant.reads, first.behind, c.loop-options.invariant.behind);
      keeps = file_kept c.loop-options.invariant.keeps c.in_ok-option.ensures.keeps;
      faults = c.in_ok-option.ensures.kept ∙ c.loop-options.invariant.faults;
    }
