-- The names of a report's inputs, and the one that a message names.
use Rattle.std.proofs.Common.{◌≡◌, ◌<◌, ◌+◌, ℕ, suc, List, ◌∷◌, length, get_or, map, Option, Result, IfSome, refl, sym, ap, ◌∙◌, subst, arith}
use Rattle.std.specs.Prelude.{Contains, slice_get}
use Rattle.std.proofs.lemmas.List.{get_or-map, length-map}
use Rattle.std.proofs.lemmas.Option.{slice_get-get_or, slice_get_past}
use Rattle.trace_outside.specs.Names.{NamedFiles}
use Rattle.trace_args.specs.Command.{ReportData}
use Rattle.run_endings.specs.declared.status.Status.{Status}
use Rattle.several_report.specs.Inputs.{NamedInput, WrongInput, inputs_in, names_in}
use Rattle.several_report.specs.Naming.{IsInputOf, IsNameIn}
use Rattle.run_endings.proofs.Endings.{if_known}

-- one of the inputs, of an answer that may be of any
pub named_any : (words : ReportData) (told : Option NamedFiles) (name : List ℕ) (status : Status) → Contains (names_in words) name
    → ((inputs : Result (List NamedInput) WrongInput) → IsInputOf words inputs status name) → IsNameIn words told status name
named_any words told name status has any =
    (has, if_known (λ files. IsInputOf words (inputs_in files (names_in words)) status name) told (λ files. any (inputs_in files (names_in words))))

pub first_of : (words : ReportData) → Contains (names_in words) words.input
first_of words = (0, omega arith, refl)

-- THE INPUT OF A PLACE

pub first_there : (input : List ℕ) (names : List (List ℕ)) (place : ℕ) → place ≡ 0 → IfSome (slice_get (input ∷ names) place) (λ name. name ≡ input)
first_there input names place is = subst (λ (k : ℕ). IfSome (slice_get (input ∷ names) k) (λ name. name ≡ input)) (sym is) refl

pub past_there : (input : List ℕ) (names : List (List ℕ)) (place : ℕ) → length names < place → IfSome (slice_get (input ∷ names) place) (λ name. name ≡ input)
past_there input names place past =
    subst (λ (found : Option (List ℕ)). IfSome found (λ name. name ≡ input)) (sym (slice_get_past (input ∷ names) place (omega (arith, past)))) tt

pub behind_there : {N : Type 0} (now : N → List ℕ) (input : List ℕ) (names : List N) (place i : ℕ) (name : N) → place ≡ i + 1 → i < length names → name ≡ get_or names i name
    → IfSome (slice_get (input ∷ map now names) place) (λ n. n ≡ now name)
behind_there now input names place i name is lt there =
    let at : place ≡ suc i = omega (arith, is) in
    let inside : i < length (map now names) = omega (arith, lt, length-map names now) in
    subst (λ (k : ℕ). IfSome (slice_get (input ∷ map now names) k) (λ n. n ≡ now name)) (sym at)
    (subst (λ (found : Option (List ℕ)). IfSome found (λ n. n ≡ now name)) (sym (slice_get-get_or (map now names) i input inside))
    (get_or-map now names i name input lt ∙ ap now (sym there)))
