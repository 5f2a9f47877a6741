-- The processors that a split takes.
use Rattle.std.proofs.Common.{◌≡◌, ℕ, ◌+◌, ◌<◌, ◌≤◌, Bool, true, false, cond, List, [], ◌∷◌, length, Option, Result, Ok, Err, IfOk, ap, ◌∙◌, sym, arith}
use Rattle.std.specs.Prelude.{filter}
use Rattle.std.specs.List.{All, enumerate_from}
use Rattle.std.proofs.lemmas.List.Elements.{All-nil, All-cons}
use Rattle.trace_base.specs.declared.part.Part.{Part}
use Rattle.dat_header.specs.declared.header.Body.{Body}
use Rattle.dat_header.specs.declared.header.Body.TheVariants.{Latency, Fly}
use Rattle.dat_header.specs.Allowed.{IsBody}
use Rattle.subpage.specs.Arrangement.{CpusRise}
use Rattle.run_endings.specs.Selection.{Selection, chosen, has, one_or_all}
use Rattle.split_run.specs.Split.{taken_of}
use Rattle.run_endings.proofs.Chosen.{chosen_few, chosen_rise}

-- their numbers rise
pub taken_rise : (one : Option ℕ) (body : Body) → CpusRise (taken_of one body)
taken_rise one Latency = tt
taken_rise one (Fly parts) = (chosen_rise (λ part. has (one_or_all one) part.0) 0 parts).1

-- what was chosen of the body's parts
pub taken_is : {V E : Type 0} (items : V → List (ℕ × Part)) (one : Option ℕ) (own slice : List Part) (body : Body) (selection : Selection) (result : Result V E)
    → body ≡ Fly own → slice ≡ own → selection ≡ one_or_all one
    → IfOk result (λ found. items found ≡ chosen selection slice) → IfOk result (λ found. items found ≡ taken_of one body)
taken_is items one own slice body selection (Err error) of same is all = tt
taken_is items one own slice body selection (Ok found) of same is all =
    all ∙ ap (λ (by : Selection). chosen by slice) is ∙ ap (chosen (one_or_all one)) same ∙ ap (taken_of one) (sym of)

pub taken_within : (one : Option ℕ) (cpus : ℕ) (body : Body) → IsBody cpus body → length (taken_of one body) ≤ cpus
taken_within one cpus Latency allowed = omega arith
taken_within one cpus (Fly parts) allowed = omega (arith, chosen_few (λ (part : ℕ × Part). has (one_or_all one) part.0) 0 parts, allowed)

-- and each is one of them
chosen_below : {X : Type 0} (p : ℕ × X → Bool) (n end : ℕ) (xs : List X) → n + length xs ≤ end → All (λ (x : ℕ × X). x.0 < end) (filter p (enumerate_from n xs))
chosen_below p n end [] within = All-nil (λ x. x.0 < end)
chosen_below p n end (x ∷ xs) within = by_test (p (n, x)) (chosen_below p (n + 1) end xs (omega (arith, within)))
  where
    by_test : (b : Bool) → All (λ y. y.0 < end) (filter p (enumerate_from (n + 1) xs))
        → All (λ y. y.0 < end) (cond b ((n, x) ∷ filter p (enumerate_from (n + 1) xs)) (filter p (enumerate_from (n + 1) xs)))
    by_test true rest = All-cons (λ y. y.0 < end) (n, x) (filter p (enumerate_from (n + 1) xs)) (omega (arith, within)) rest
    by_test false rest = rest

pub taken_below : (one : Option ℕ) (cpus : ℕ) (body : Body) → IsBody cpus body → All (λ (part : ℕ × Part). part.0 < cpus) (taken_of one body)
taken_below one cpus Latency allowed = All-nil (λ (part : ℕ × Part). part.0 < cpus)
taken_below one cpus (Fly parts) allowed = chosen_below (λ (part : ℕ × Part). has (one_or_all one) part.0) 0 cpus parts (omega (arith, allowed))
