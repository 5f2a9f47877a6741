-- Options that words may give a few times: words that have a reading give no more of their values.
use Rattle.std.proofs.Common.{◌≡◌, ℕ, ◌+◌, ◌<◌, ◌≤◌, List, [], ◌∷◌, ◌++◌, length, get_or, Option, Some, None, option_map, refl, ap, sym, subst, ◌∙◌, arith, ◌⊎◌, inl, inr, append_assoc}
use Rattle.std.specs.List.{filter_map, slice_get}
use Rattle.std.specs.Option.{option_or}
use Rattle.std.proofs.lemmas.List.{append-nil, length-append, length-map}
use Rattle.std.proofs.lemmas.List.Elements.{filter_map-append}
use Rattle.std.proofs.lemmas.Option.{slice_get_cases}
use Rattle.trace_args.specs.declared.option.ValuedOption.{ValuedOption}
use Rattle.trace_args.specs.Faults.{fault_of, IsClean}
use Rattle.trace_args.specs.Given.{texts_of, value_for, values_of}
use Rattle.trace_args.specs.Setting.{Text, Setting}

pub first_none : {X : Type 0} (a b : Option X) → option_or a b ≡ None → a ≡ None
first_none None b h = refl
first_none (Some x) b h = cc

pub second_none : {X : Type 0} (a b : Option X) → option_or a b ≡ None → b ≡ None
second_none None b h = h
second_none (Some x) b h = cc

pub mapped_none : {A B : Type 0} (f : A → B) (o : Option A) → option_map f o ≡ None → o ≡ None
mapped_none f None h = refl
mapped_none f (Some x) h = cc

never : (text : Text) (count most : ℕ) → Some text ≡ None → count ≤ most
never text count most h = cc

short_by : (texts : List Text) (most : ℕ) → slice_get texts most ≡ None
    → ((x : Text) × (most < length texts) × (slice_get texts most ≡ Some x) × (get_or texts most x ≡ x)) ⊎ ((length texts ≤ most) × (slice_get texts most ≡ None)) → length texts ≤ most
short_by texts most none (inl found) = never found.0 (length texts) most (sym found.2 ∙ none)
short_by texts most none (inr past) = past.0

-- where there is none of this place, there are no more
pub short_of : (texts : List Text) (most : ℕ) → slice_get texts most ≡ None → length texts ≤ most
short_of texts most none = short_by texts most none (slice_get_cases texts most).1

module _ (option : ValuedOption) (most : ℕ)
    (room : (done : List Setting) (at : Setting) → length (values_of option done) ≤ most → fault_of done at ≡ None → length (values_of option done) + length (filter_map (value_for option) (at ∷ [])) ≤ most) where
  one_more : (done : List Setting) (at : Setting) → length (values_of option done) ≤ most → fault_of done at ≡ None → length (values_of option (done ++ (at ∷ []))) ≤ most
  one_more done at few h =
      let one = filter_map (value_for option) (at ∷ []) in
      let long = ap length (filter_map-append (value_for option) done (at ∷ [])) ∙ length-append (values_of option done) one in
      omega (arith, long, room done at few h)

  all_few : (done rest : List Setting) → length (values_of option done) ≤ most
      → ((earlier : List Setting) (at : Setting) (later : List Setting) → done ++ rest ≡ earlier ++ (at ∷ later) → fault_of earlier at ≡ None) → length (values_of option (done ++ rest)) ≤ most
  all_few done [] few clean = subst (λ (settings : List Setting). length (values_of option settings) ≤ most) (sym (append-nil done)) few
  all_few done (at ∷ rest) few clean =
      let same = append_assoc done (at ∷ []) rest in
      let more = one_more done at few (clean done at rest refl) in
      subst (λ (settings : List Setting). length (values_of option settings) ≤ most) same
      (all_few (done ++ (at ∷ [])) rest more (λ earlier one later is. clean earlier one later (sym same ∙ is)))

  pub values_few : (settings : List Setting) → IsClean settings → length (texts_of option settings) ≤ most
  values_few settings clean = omega (arith, all_few [] settings (omega arith) clean, length-map (values_of option settings) (λ (value : Text). value.bytes))
