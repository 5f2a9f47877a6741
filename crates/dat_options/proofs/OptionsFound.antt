-- What the options that were read so far say of a file.
use Rattle.std.proofs.Common.{◌≡◌, ℕ, ◌+◌, true, false, ltb, List, [], ◌∷◌, ◌++◌, length, drop, Option, None, Some, Result, Ok, Err, IfSome, refl, sym, ap, subst, ◌∙◌, append-nil, inl, inr, arith}
use Rattle.std.proofs.lemmas.Bool.{le-ltb, lt-ltb, cases_lt}
use Rattle.std.proofs.lemmas.List.{length-append}
use Rattle.std.proofs.lemmas.List.Concat.{flat_map-cons}
use Rattle.std.proofs.lemmas.Grind.{flat_map-append}
use Rattle.std.proofs.lemmas.List.Elements.{All-nil, All-cons, All-append}
use Rattle.std.specs.List.{All, flat_map}
use Rattle.trace_base.specs.declared.order.Order.{Order}
use Rattle.trace_base.specs.Number.{bytes_of}
use Rattle.dat_options.specs.declared.option.Opt.{Opt}
use Rattle.dat_options.specs.declared.fault.OpenFault.{OpenFault}
use Rattle.dat_options.specs.declared.fault.OpenFault.TheVariants.{Truncated, Read, Memory}
use Rattle.dat_options.specs.Place.{GoesOnWith}
use Rattle.dat_options.specs.Answer.{AnswersTold, IsEnd}
use Rattle.dat_options.specs.Options.{IsOption, option_text, options_text, HasOptions, FindsOptions, option_at, options_at, options_from}
use Rattle.dat_options.specs.OneOption.{IsFirst, ReadsFirst}
use Rattle.dat_options.proofs.Numbers.{length-bytes_of}
use Rattle.dat_options.proofs.Places.{goes_on, stands_from}
use Rattle.dat_options.proofs.OptionsLaws.{options_short, options_has, length-options_text}
use Rattle.dat_options.proofs.FirstLaws.{HoldsAt, holds_more}

abbrev texts : Order → List Opt → List ℕ
texts order options = flat_map (option_text order) options

ends_early : (order : Order) (options : List Opt) (at place : ℕ) (bytes : List ℕ) → All IsOption options → GoesOnWith (texts order options) at bytes
    → place ≡ at + length (texts order options) → option_at order (drop place bytes) ≡ None → options_from order at bytes ≡ Err (Truncated (length bytes))
unfolding options_from
ends_early order options at place bytes are on is none = elim (cases_lt (length bytes) at) [
  | inl before ↦
      let outside : ltb (length bytes) at ≡ true = lt-ltb _ _ before in
      rw outside refl
  | inr behind ↦
      let inside : ltb (length bytes) at ≡ false = le-ltb _ _ behind in
      let short : options_at order (drop at bytes) ≡ None =
      ap (options_at order) (goes_on (texts order options) at bytes on ∙ ap (λ n. texts order options ++ drop n bytes) (sym is)) ∙ options_short order options (drop place bytes) are none in
      rw (inside, short) refl
]

never_found : (order : Order) (at : ℕ) (bytes : List ℕ) (fault : OpenFault) → options_from order at bytes ≡ Err fault → (options : List Opt) → HasOptions order options at bytes → ⊥
never_found order at bytes fault is options has =
    let found = options_has order options at bytes has in
    cc

-- what a call answers that met a fault after these options
pub record Faulty (order : Order) (told : Option (List ℕ)) (size at : ℕ) (fault : OpenFault) : Type 0 where
  pub found : FindsOptions order at told (Err fault)
  pub exact : AnswersTold (options_from order at) told (Err fault)
  pub ends : IsEnd size fault

pub faulty : (order : Order) (told : Option (List ℕ)) (size at place : ℕ) (options : List Opt) (fault : OpenFault) → IfSome told (λ bytes. length bytes ≡ size)
    → All IsOption options → place ≡ at + length (texts order options) → HoldsAt told at (texts order options)
    → ReadsFirst order told size place (Err fault) → Faulty order told size at fault
faulty order None size at place options (Truncated end) whole are is on first = record { found = tt; exact = tt; ends = first.0 }
faulty order (Some bytes) size at place options (Truncated end) whole are is on first =
    let early = ends_early order options at place bytes are on is first.1 ∙ ap (λ n. Err (Truncated n)) (whole ∙ sym first.0) in
    record { found = never_found order at bytes (Truncated end) early; exact = early; ends = first.0 }
faulty order None size at place options Read whole are is on first = record { found = tt; exact = tt; ends = tt }
faulty order (Some bytes) size at place options Read whole are is on first = record { found = tt; exact = tt; ends = tt }
faulty order None size at place options Memory whole are is on first = record { found = tt; exact = tt; ends = tt }
faulty order (Some bytes) size at place options Memory whole are is on first = record { found = tt; exact = tt; ends = tt }
faulty order told size at place options fault whole are is on first = absurd first

pub record Found (order : Order) (told : Option (List ℕ)) (size at : ℕ) (options : List Opt) (end : ℕ) : Type 0 where
  pub found : FindsOptions order at told (Ok (options, end))
  pub exact : AnswersTold (options_from order at) told (Ok (options, end))
  pub behind : end ≡ at + length (options_text order options)

pub all_found : (order : Order) (told : Option (List ℕ)) (size at place end : ℕ) (options : List Opt) → IfSome told (λ bytes. length bytes ≡ size)
    → All IsOption options → place ≡ at + length (texts order options) → HoldsAt told at (texts order options)
    → IsFirst order told size place (None, end) → Found order told size at options end
all_found order None size at place end options whole are is on first =
    record { found = tt; exact = tt; behind = omega (arith, first.behind, is, length-options_text order options, length-bytes_of order 2 0) }
all_found order (Some bytes) size at place end options whole are is on first =
    let behind : end ≡ at + length (options_text order options) = omega (arith, first.behind, is, length-options_text order options, length-bytes_of order 2 0) in
    let holds : GoesOnWith (options_text order options) at bytes = holds_more (Some bytes) at place (texts order options) (bytes_of order 2 0) on first.text is in
    let has : HasOptions order options at bytes = record { allowed = are; stands = stands_from (options_text order options) at bytes (omega (arith, behind, first.inside, whole)) holds } in
    record { found = has; exact = options_has order options at bytes has ∙ ap (λ n. Ok (options, n)) (sym behind); behind = behind }

-- one more option after those that were read
pub texts_more : (order : Order) (options : List Opt) (option : Opt) → texts order (options ++ option ∷ []) ≡ texts order options ++ option_text order option
texts_more order options option = flat_map-append (option_text order) options (option ∷ []) ∙ ap (λ last. texts order options ++ last) (flat_map-cons (option_text order) option [] ∙ append-nil (option_text order option))

pub behind_one_more : (order : Order) (at place end : ℕ) (options : List Opt) (option : Opt) → place ≡ at + length (texts order options)
    → end ≡ place + length (option_text order option) → end ≡ at + length (texts order (options ++ option ∷ []))
behind_one_more order at place end options option is behind =
    let whole : length (texts order (options ++ option ∷ [])) ≡ length (texts order options ++ option_text order option) = ap length (texts_more order options option) in
    omega (arith, is, behind, whole, length-append (texts order options) (option_text order option))

pub holds_one_more : (order : Order) (told : Option (List ℕ)) (at place : ℕ) (options : List Opt) (option : Opt) → place ≡ at + length (texts order options)
    → HoldsAt told at (texts order options) → HoldsAt told place (option_text order option) → HoldsAt told at (texts order (options ++ option ∷ []))
holds_one_more order told at place options option is one two =
    subst (λ (text : List ℕ). HoldsAt told at text) (sym (texts_more order options option)) (holds_more told at place (texts order options) (option_text order option) one two is)

-- a read changes neither the file's bytes nor its size
pub first_same : (order : Order) (told other : Option (List ℕ)) (size long place : ℕ) (result : Result (Option Opt × ℕ) OpenFault) → other ≡ told → long ≡ size
    → ReadsFirst order other long place result → ReadsFirst order told size place result
first_same order told other size long place result same as_long first =
    subst (λ (o : Option (List ℕ)). ReadsFirst order o size place result) same (subst (λ (n : ℕ). ReadsFirst order other n place result) as_long first)

-- which of the two it is
pub as_first : (order : Order) (told : Option (List ℕ)) (size place end : ℕ) (option other : Option Opt) → option ≡ other → IsFirst order told size place (option, end) → IsFirst order told size place (other, end)
as_first order told size place end option other is first = subst (λ (o : Option Opt). IsFirst order told size place (o, end)) is first

pub All-push : (options : List Opt) (option : Opt) → All IsOption options → IsOption option → All IsOption (options ++ option ∷ [])
All-push options option are is = All-append IsOption options (option ∷ []) are (All-cons IsOption option [] is (All-nil IsOption))
