-- A list of options is read as it is spelled.
use Rattle.std.proofs.Common.{◌≡◌, ◌≢◌, ℕ, zero, suc, ◌+◌, ◌-◌, ◌^◌, ◌<◌, ◌≤◌, false, ltb, eqb, List, [], ◌∷◌, ◌++◌, length, None, Some, Ok, refl, ap, ◌∙◌, append_assoc, arith}
use Rattle.std.proofs.lemmas.Bool.{le-ltb, ne_eqb}
use Rattle.std.proofs.lemmas.List.{length-append}
use Rattle.std.proofs.lemmas.List.Concat.{flat_map-cons}
use Rattle.std.proofs.lemmas.List.Elements.{All-head, All-tail}
use Rattle.std.specs.List.{All, flat_map}
use Rattle.std.specs.Option.{option_map}
use Rattle.trace_base.specs.declared.order.Order.{Order}
use Rattle.trace_base.specs.Number.{bytes_of}
use Rattle.dat_options.specs.declared.option.Opt.{Opt}
use Rattle.dat_options.specs.Options.{IsOption, option_text, options_text, HasOptions, option_behind, option_at, options_below, options_at, options_from}
use Rattle.dat_options.proofs.Steps.{ok_is}
use Rattle.dat_options.proofs.Numbers.{length-bytes_of}
use Rattle.dat_options.proofs.Fronts.{piece_again, number_again}
use Rattle.dat_options.proofs.Places.{stands_inside, stands_behind}

pub end_again : (order : Order) (rest : List ℕ) → option_at order (bytes_of order 2 0 ++ rest) ≡ Some (None, rest)
unfolding option_at
end_again order rest = rw (number_again order 2 0 rest (omega arith)) refl

pub behind_again : (order : Order) (id : ℕ) (content rest : List ℕ) → length content < 2 ^ 32
    → option_behind order id (bytes_of order 4 (length content) ++ (content ++ rest)) ≡ Some (Some (record { id = id; bytes = content }), rest)
unfolding option_behind
behind_again order id content rest fits = rw (number_again order 4 (length content) (content ++ rest) fits, piece_again (length content) content rest refl) refl

pub id_again : (order : Order) (id : ℕ) (rest : List ℕ) → id ≢ 0 → id < 2 ^ 16 → option_at order (bytes_of order 2 id ++ rest) ≡ option_behind order id rest
unfolding option_at
id_again order id rest some fits =
    let not0 : eqb id 0 ≡ false = ne_eqb id 0 some in
    rw (number_again order 2 id rest fits, not0) refl

pub option_again : (order : Order) (option : Opt) (rest : List ℕ) → IsOption option → option_at order (option_text order option ++ rest) ≡ Some (Some option, rest)
option_again order option rest is =
    ap (option_at order) (append_assoc (bytes_of order 2 option.id) (bytes_of order 4 (length option.bytes) ++ option.bytes) rest
    ∙ ap (λ back. bytes_of order 2 option.id ++ back) (append_assoc (bytes_of order 4 (length option.bytes)) option.bytes rest))
    ∙ id_again order option.id (bytes_of order 4 (length option.bytes) ++ (option.bytes ++ rest)) is.may_be_written.id_is_some is.id_fits
    ∙ behind_again order option.id option.bytes rest is.may_be_written.size_fits

-- the options of a list in front of other bytes
below_cons : (order : Order) (n : ℕ) (option : Opt) (rest : List ℕ) → IsOption option
    → options_below (suc n) order (option_text order option ++ rest) ≡ option_map (λ others. (option ∷ others.0, others.1)) (options_below n order rest)
unfolding options_below
below_cons order n option rest is = rw (option_again order option rest is) refl

below_end : (order : Order) (n : ℕ) (rest : List ℕ) → options_below (suc n) order (bytes_of order 2 0 ++ rest) ≡ Some ([], rest)
unfolding options_below
below_end order n rest = rw (end_again order rest) refl

below_none : (order : Order) (n : ℕ) (rest : List ℕ) → option_at order rest ≡ None → options_below n order rest ≡ None
unfolding options_below
below_none order zero rest none = refl
below_none order (suc n) rest none = rw none refl

front_cons : (order : Order) (option : Opt) (options : List Opt) (rest : List ℕ)
    → flat_map (option_text order) (option ∷ options) ++ rest ≡ option_text order option ++ (flat_map (option_text order) options ++ rest)
front_cons order option options rest =
    ap (λ front. front ++ rest) (flat_map-cons (option_text order) option options) ∙ append_assoc (option_text order option) (flat_map (option_text order) options) rest

below_again : (order : Order) (options : List Opt) (n : ℕ) (rest : List ℕ) → All IsOption options → length options < n
    → options_below n order (flat_map (option_text order) options ++ (bytes_of order 2 0 ++ rest)) ≡ Some (options, rest)
below_again order options zero rest are few = absurd (omega arith)
below_again order [] (suc n) rest are few = below_end order n rest
below_again order (option ∷ options) (suc n) rest are few =
    ap (options_below (suc n) order) (front_cons order option options (bytes_of order 2 0 ++ rest))
    ∙ below_cons order n option (flat_map (option_text order) options ++ (bytes_of order 2 0 ++ rest)) (All-head IsOption option options are)
    ∙ ap (option_map (λ others. (option ∷ others.0, others.1))) (below_again order options n rest (All-tail IsOption option options are) (omega arith))

below_short : (order : Order) (options : List Opt) (n : ℕ) (rest : List ℕ) → All IsOption options → option_at order rest ≡ None
    → options_below n order (flat_map (option_text order) options ++ rest) ≡ None
unfolding options_below
below_short order options zero rest are none = refl
below_short order [] (suc n) rest are none = below_none order (suc n) rest none
below_short order (option ∷ options) (suc n) rest are none =
    ap (options_below (suc n) order) (front_cons order option options rest)
    ∙ below_cons order n option (flat_map (option_text order) options ++ rest) (All-head IsOption option options are)
    ∙ ap (option_map (λ others. (option ∷ others.0, others.1))) (below_short order options n rest (All-tail IsOption option options are) none)

few_options : (order : Order) (options : List Opt) → length options ≤ length (flat_map (option_text order) options)
few_options order [] = omega arith
few_options order (option ∷ options) =
    let whole : length (flat_map (option_text order) (option ∷ options)) ≡ length (option_text order option ++ flat_map (option_text order) options) = ap length (flat_map-cons (option_text order) option options) in
    omega (
      arith,
      whole,
      few_options order options,
      length-append (option_text order option) (flat_map (option_text order) options),
      length-append (bytes_of order 2 option.id) (bytes_of order 4 (length option.bytes) ++ option.bytes),
      length-bytes_of order 2 option.id,
    )

pub length-options_text : (order : Order) (options : List Opt) → length (options_text order options) ≡ length (flat_map (option_text order) options) + 2
length-options_text order options = omega (arith, length-append (flat_map (option_text order) options) (bytes_of order 2 0), length-bytes_of order 2 0)

pub options_again : (order : Order) (options : List Opt) (rest : List ℕ) → All IsOption options → options_at order (options_text order options ++ rest) ≡ Some (options, rest)
unfolding options_at
options_again order options rest are =
    let text = options_text order options ++ rest in
    let few : length options < length text = omega (arith, length-append (options_text order options) rest, length-options_text order options, few_options order options) in
    ap (options_below (length text) order) (append_assoc (flat_map (option_text order) options) (bytes_of order 2 0) rest)
    ∙ below_again order options (length text) rest are few

pub options_short : (order : Order) (options : List Opt) (rest : List ℕ) → All IsOption options → option_at order rest ≡ None
    → options_at order (flat_map (option_text order) options ++ rest) ≡ None
unfolding options_at
options_short order options rest are none = below_short order options _ rest are none

-- what a file has is what it is read as
pub options_has : (order : Order) (options : List Opt) (at : ℕ) (bytes : List ℕ) → HasOptions order options at bytes
    → options_from order at bytes ≡ Ok (options, at + length (options_text order options))
unfolding options_from
options_has order options at bytes has =
    let long = stands_inside (options_text order options) at bytes has.stands in
    let inside : ltb (length bytes) at ≡ false = le-ltb _ _ (omega (arith, long)) in
    let place : length bytes - length has.stands.back ≡ at + length (options_text order options) = omega (arith, long) in
    rw (inside, stands_behind (options_text order options) at bytes has.stands, options_again order options has.stands.back has.allowed, place) refl

pub one_list : (order : Order) (options others : List Opt) (at : ℕ) (bytes : List ℕ) → HasOptions order options at bytes → HasOptions order others at bytes → options ≡ others
one_list order options others at bytes one two =
    ap (λ (found : List Opt × ℕ). found.0) (ok_is (options_from order at bytes) _ _ (options_has order options at bytes one) (options_has order others at bytes two))
