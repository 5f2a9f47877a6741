-- What is computed at a place of a file is what stands there.
use Rattle.std.proofs.Common.{◌≡◌, ℕ, ◌+◌, ◌-◌, ◌*◌, ◌<◌, ◌≤◌, Bool, cond, ltb, List, ◌++◌, length, take, drop, Option, None, Some, Result, Ok, Err, refl, sym, ap, subst, ◌∙◌, ◌⊎◌, inl, inr, arith}
use Rattle.std.proofs.lemmas.Bool.{cases_Bool, ltb-false}
use Rattle.std.proofs.lemmas.List.{length-append, length-drop, length-take, take-append-drop}
use Rattle.std.proofs.lemmas.List.Elements.{All-drop}
use Rattle.std.specs.List.{All}
use Rattle.trace_base.specs.declared.order.Order.{Order}
use Rattle.trace_base.specs.declared.part.Part.{Part}
use Rattle.dat_options.specs.declared.option.Opt.{Opt}
use Rattle.dat_options.specs.declared.fault.OpenFault.{OpenFault}
use Rattle.dat_options.specs.declared.fault.OpenFault.TheVariants.{Truncated}
use Rattle.dat_options.specs.Answer.{found_in}
use Rattle.dat_options.specs.Place.{StandsAt, AreBytes}
use Rattle.dat_options.specs.Options.{IsOption, options_text, HasOptions, options_at, options_from, ComputesOptions, ComputesNoOptions}
use Rattle.dat_options.specs.Table.{table_text, HasTable, table_at, table_from, ComputesTable, ComputesNoTable}
use Rattle.dat_options.proofs.Steps.{ok_is}
use Rattle.dat_options.proofs.OptionsLaws.{options_has}
use Rattle.dat_options.proofs.TableLaws.{table_has, length-table_text}
use Rattle.dat_options.proofs.Sound.{Front, AreParts, options_sound, table_sound}

abbrev Places : Type 0 → Type 0
Places X = Result (X × ℕ) OpenFault

-- what is at the front of the bytes from a place on, with the place after it
abbrev from : {X : Type 0} → (List ℕ → Option (X × List ℕ)) → List ℕ → ℕ → Places X
from at_front bytes at = found_in bytes (cond (ltb (length bytes) at) None (at_front (drop at bytes)))

abbrev placed : {X : Type 0} → X → ℕ → Places X
placed value end = Ok (value, end)

-- a value that is allowed and stands at a place
record Computed {X : Type 0} (spell : X → List ℕ) (allowed : X → Type 0) (bytes : List ℕ) (at : ℕ) (value : X) (end : ℕ) : Type 0 where
  is : allowed value
  stands : StandsAt (spell value) at bytes
  place : end ≡ at + length (spell value)

-- a value was found from inside the file on, or the file ends early
from_cases : {X : Type 0} (at_front : List ℕ → Option (X × List ℕ)) (bytes : List ℕ) (at : ℕ)
    → ((found : X × List ℕ) × (at ≤ length bytes) × (at_front (drop at bytes) ≡ Some found) × (from at_front bytes at ≡ placed found.0 (length bytes - length found.1)))
    ⊎ (from at_front bytes at ≡ Err (Truncated (length bytes)))
from_cases {X} at_front bytes at = elim (cases_Bool (ltb (length bytes) at)) [
  | inl outside ↦ inr (ap (λ (b : Bool). found_in bytes (cond b None (at_front (drop at bytes)))) outside)
  | inr inside ↦
      let within : at ≤ length bytes = ltb-false (length bytes) at inside in
      let here : from at_front bytes at ≡ found_in bytes (at_front (drop at bytes)) = ap (λ (b : Bool). found_in bytes (cond b None (at_front (drop at bytes)))) inside in
      elim (at_front (drop at bytes)) as (λ o. at_front (drop at bytes) ≡ o → ((found : X × List ℕ) × (at ≤ length bytes) × (at_front (drop at bytes) ≡ Some found) × (from at_front bytes at ≡ placed found.0 (length bytes - length found.1)))
      ⊎ (from at_front bytes at ≡ Err (Truncated (length bytes)))) [
        | None ↦ λ e. inr (here ∙ ap (found_in bytes) e)
        | Some found ↦ λ e. inl (found, within, e, here ∙ ap (found_in bytes) e)
      ] refl
]

never_both : {X : Type 0} (found : Places X) (value : X × ℕ) (fault : OpenFault) → found ≡ Ok value → found ≡ Err fault → ⊥
never_both found value fault one two = let e = sym one ∙ two in cc

from_found : {X : Type 0} (spell : X → List ℕ) (allowed : X → Type 0) (at_front : List ℕ → Option (X × List ℕ))
    → ((bytes : List ℕ) (found : X × List ℕ) → AreBytes bytes → at_front bytes ≡ Some found → Front spell allowed bytes found.0 found.1)
    → (bytes : List ℕ) (at : ℕ) (value : X) (end : ℕ) → AreBytes bytes → from at_front bytes at ≡ Ok (value, end) → Computed spell allowed bytes at value end
from_found {X} spell allowed at_front sound bytes at value end fit e = elim (from_cases at_front bytes at) [
  | inr early ↦ absurd (never_both _ (value, end) (Truncated (length bytes)) e early)
  | inl found ↦
      let front = sound (drop at bytes) found.0 (All-drop (λ byte. byte < 256) at bytes fit) found.2 in
      let same = ok_is (from at_front bytes at) (found.0.0, length bytes - length found.0.1) (value, end) found.3 e in
      let long : length (drop at bytes) ≡ length (spell found.0.0 ++ found.0.1) = ap length front.whole in
      let P : X × ℕ → Type 0 = λ f. Computed spell allowed bytes at f.0 f.1 in
      let all : P (found.0.0, length bytes - length found.0.1) = record {
        is = front.is;
        stands = record {
          front = take at bytes;
          back = found.0.1;
          whole = sym (take-append-drop at bytes) ∙ ap (λ back. take at bytes ++ back) front.whole;
          place = omega (arith, found.1, length-take at bytes);
        };
        place = omega (arith, found.1, long, length-drop at bytes, length-append (spell found.0.0) found.0.1);
      } in
      subst P same all
]

from_fault : {X : Type 0} (at_front : List ℕ → Option (X × List ℕ)) (bytes : List ℕ) (at : ℕ) (fault : OpenFault) → from at_front bytes at ≡ Err fault → fault ≡ Truncated (length bytes)
from_fault at_front bytes at fault e = elim (from_cases at_front bytes at) [
  | inr early ↦ let same = sym e ∙ early in cc
  | inl found ↦ absurd (never_both _ (found.0.0, length bytes - length found.0.1) fault found.3 e)
]

result_cases : {X : Type 0} (found : Places X) → ((value : X) × (end : ℕ) × (found ≡ Ok (value, end))) ⊎ ((fault : OpenFault) × (found ≡ Err fault))
result_cases (Ok found) = inl (found.0, found.1, refl)
result_cases (Err fault) = inr (fault, refl)

-- options

options_found : (order : Order) (at : ℕ) (options : List Opt) (end : ℕ) (bytes : List ℕ) → AreBytes bytes → options_from order at bytes ≡ Ok (options, end)
    → Computed (options_text order) (All IsOption) bytes at options end
unfolding options_from
options_found order at options end bytes fit e = from_found (options_text order) (All IsOption) (options_at order) (λ more found fits is. options_sound order more found fits is) bytes at options end fit e

pub options_fault : (order : Order) (at : ℕ) (fault : OpenFault) (bytes : List ℕ) → options_from order at bytes ≡ Err fault → fault ≡ Truncated (length bytes)
unfolding options_from
options_fault order at fault bytes e = from_fault (options_at order) bytes at fault e

options_there : (order : Order) (at : ℕ) (options : List Opt) (end : ℕ) (bytes : List ℕ) → AreBytes bytes → options_from order at bytes ≡ Ok (options, end) → HasOptions order options at bytes
options_there order at options end bytes fit e = let found = options_found order at options end bytes fit e in record { allowed = found.is; stands = found.stands }

pub computes_options : ComputesOptions
computes_options order options at end bytes fit = (
  λ e. (options_there order at options end bytes fit e, (options_found order at options end bytes fit e).place),
  λ has. options_has order options at bytes has.0 ∙ ap (λ (n : ℕ). placed options n) (sym has.1),
)

pub computes_no_options : ComputesNoOptions
computes_no_options order at fault bytes fit = (
  λ e. (options_fault order at fault bytes e, λ options has. never_both _ (options, at + length (options_text order options)) fault (options_has order options at bytes has) e),
  λ none. elim (result_cases (options_from order at bytes)) [
    | inl found ↦ absurd (none.1 found.0 (options_there order at found.0 found.1 bytes fit found.2))
    | inr wrong ↦ wrong.1 ∙ ap (λ (f : OpenFault). Err f) (options_fault order at wrong.0 bytes wrong.1 ∙ sym none.0)
  ],
)

-- a table

table_found : (order : Order) (cpus at : ℕ) (parts : List Part) (end : ℕ) (bytes : List ℕ) → AreBytes bytes → table_from order cpus at bytes ≡ Ok (parts, end)
    → Computed (table_text order) (AreParts cpus) bytes at parts end
unfolding table_from
table_found order cpus at parts end bytes fit e = from_found (table_text order) (AreParts cpus) (table_at order cpus) (λ more found fits is. table_sound order cpus more found fits is) bytes at parts end fit e

pub table_fault : (order : Order) (cpus at : ℕ) (fault : OpenFault) (bytes : List ℕ) → table_from order cpus at bytes ≡ Err fault → fault ≡ Truncated (length bytes)
unfolding table_from
table_fault order cpus at fault bytes e = from_fault (table_at order cpus) bytes at fault e

table_there : (order : Order) (cpus at : ℕ) (parts : List Part) (end : ℕ) (bytes : List ℕ) → AreBytes bytes → table_from order cpus at bytes ≡ Ok (parts, end) → HasTable order cpus parts at bytes
table_there order cpus at parts end bytes fit e = let found = table_found order cpus at parts end bytes fit e in record { count = found.is; stands = found.stands }

pub computes_table : ComputesTable
computes_table order cpus parts at end bytes fit = (
  λ e. let found = table_found order cpus at parts end bytes fit e in (table_there order cpus at parts end bytes fit e, omega (arith, found.place, found.is, length-table_text order parts)),
  λ has. table_has order cpus parts at bytes has.0 ∙ ap (λ (n : ℕ). placed parts n) (sym has.1),
)

pub computes_no_table : ComputesNoTable
computes_no_table order cpus at fault bytes fit = (
  λ e. (table_fault order cpus at fault bytes e, λ parts has. never_both _ (parts, at + 16 * cpus) fault (table_has order cpus parts at bytes has) e),
  λ none. elim (result_cases (table_from order cpus at bytes)) [
    | inl found ↦ absurd (none.1 found.0 (table_there order cpus at found.0 found.1 bytes fit found.2))
    | inr wrong ↦ wrong.1 ∙ ap (λ (f : OpenFault). Err f) (table_fault order cpus at wrong.0 bytes wrong.1 ∙ sym none.0)
  ],
)
