-- The letters of conversions: what is computed is what stands there.
use Rattle.std.proofs.Common.{◌≡◌, ℕ, suc, ◌+◌, ◌<◌, ◌≤◌, true, ◌||◌, List, [], ◌∷◌, ◌++◌, length, take, drop, Some, refl, sym, ap, subst, arith, inl, inr}
use Rattle.std.specs.Prelude.{◌==◌, ◌&&◌, codes}
use Rattle.std.specs.List.{prefix_len, AllPass}
use Rattle.std.proofs.lemmas.Bool.{cases_Bool, eqb-true, or_cases, and_parts}
use Rattle.std.proofs.lemmas.List.{take_at}
use Rattle.std.proofs.lemmas.List.Elements.{All-nil, All-cons}
use Rattle.std.proofs.lemmas.List.Sums.{prefix_len-le-length}
use Rattle.std.proofs.lemmas.Option.{none-some, same_Some, option_and_then_some}
use Rattle.fmt_directives.specs.declared.directive.Base.TheVariants as base
use Rattle.fmt_directives.specs.declared.directive.PointerForm.{PointerForm}
use Rattle.fmt_directives.specs.declared.directive.PointerForm.TheVariants as form
use Rattle.fmt_directives.specs.declared.directive.Spec.{Spec}
use Rattle.fmt_directives.specs.declared.directive.Directive.{Directive}
use Rattle.fmt_directives.specs.declared.directive.Directive.TheVariants as directive
use Rattle.fmt_directives.specs.Bytes.{is_alphanumeric, BeginsOutside}
use Rattle.fmt_directives.specs.Directives as rel
use Rattle.fmt_directives.specs.Directives.{IsForm, IsKind, Ends}
use Rattle.fmt_directives.specs.Reading.{one_letter_form, pointer_form, letter_kind, kind_of}
use Rattle.fmt_directives.proofs.Runs.{run_exact, run_stops}
use Rattle.fmt_directives.proofs.Fronts.{pair, found_is, before_kind}

-- ---- forms of pointers

form_is : (a b : ℕ) (f g : PointerForm) → (a == b) ≡ true → Some f ≡ Some g → IsForm (b ∷ []) f → IsForm (a ∷ []) g
form_is a b f g e found is = subst (λ x. IsForm (x ∷ []) g) (sym (eqb-true a b e)) (subst (IsForm (b ∷ [])) (same_Some f g found) is)

one_form : (a : ℕ) (f : PointerForm) → one_letter_form a ≡ Some f → IsForm (a ∷ []) f
one_form a f h = elim (cases_Bool (a == 115 || a == 102)) [
  | inl is ↦
      let found = rw is at h in
      elim (or_cases (a == 115) (a == 102) is) [ inl e ↦ form_is a 115 form.Name f e found rel.name | inr e ↦ form_is a 102 form.Name f e found rel.function_name ]
  | inr no_name ↦
      let h1 = rw no_name at h in
      elim (cases_Bool (a == 83 || a == 70)) [
        | inl is ↦
            let found = rw is at h1 in
            elim (or_cases (a == 83) (a == 70) is) [ inl e ↦ form_is a 83 form.NameOffset f e found rel.name_offset | inr e ↦ form_is a 70 form.NameOffset f e found rel.function_name_offset ]
        | inr no_offset ↦
            let h2 = rw no_offset at h1 in
            elim (cases_Bool (a == 77)) [
              | inl is ↦ let found = rw is at h2 in form_is a 77 form.Mac f is found rel.mac
              | inr none ↦ absurd (none-some f (rw none at h2))
            ]
      ]
]

form_sound : (run : List ℕ) (f : PointerForm) → pointer_form run ≡ Some f → IsForm run f
form_sound [] f h = subst (IsForm []) (same_Some form.Plain f h) rel.plain
form_sound (a ∷ []) f h = one_form a f h
form_sound (a ∷ b ∷ []) f h = elim (cases_Bool (a == 73 && b == 52)) [
  | inl is ↦
      let parts = and_parts (a == 73) (b == 52) is in
      let found = rw is at h in
      subst (λ x. IsForm (x ∷ b ∷ []) f) (sym (eqb-true a 73 parts.0)) (subst (λ x. IsForm (73 ∷ x ∷ []) f) (sym (eqb-true b 52 parts.1)) (subst (IsForm (codes "I4")) (same_Some form.Ip4 f found) rel.ip4))
  | inr none ↦ absurd (none-some f (rw none at h))
]
form_sound (a ∷ b ∷ c ∷ rest) f h = absurd (none-some f h)

form_complete : (run : List ℕ) (f : PointerForm) → IsForm run f → pointer_form run ≡ Some f
form_complete run f rel.plain = refl
form_complete run f rel.name = refl
form_complete run f rel.function_name = refl
form_complete run f rel.name_offset = refl
form_complete run f rel.function_name_offset = refl
form_complete run f rel.ip4 = refl
form_complete run f rel.mac = refl

one_passes : (a : ℕ) → is_alphanumeric a ≡ true → AllPass is_alphanumeric (a ∷ [])
one_passes a is = All-cons (λ y. is_alphanumeric y ≡ true) a [] is (All-nil (λ y. is_alphanumeric y ≡ true))

form_passes : (run : List ℕ) (f : PointerForm) → IsForm run f → AllPass is_alphanumeric run
form_passes run f rel.plain = All-nil (λ y. is_alphanumeric y ≡ true)
form_passes run f rel.name = one_passes 115 refl
form_passes run f rel.function_name = one_passes 102 refl
form_passes run f rel.name_offset = one_passes 83 refl
form_passes run f rel.function_name_offset = one_passes 70 refl
form_passes run f rel.ip4 = All-cons (λ y. is_alphanumeric y ≡ true) 73 (52 ∷ []) refl (one_passes 52 refl)
form_passes run f rel.mac = one_passes 77 refl

-- ---- letters

record Lettered (spec : Spec) (a : ℕ) (d : Directive) : Type 0 where
  is : IsKind spec (a ∷ []) d
  ends : (rest : List ℕ) → Ends d rest

lettered : (spec : Spec) (a b : ℕ) (e d : Directive) → (a == b) ≡ true → Some e ≡ Some d → IsKind spec (b ∷ []) e → ((rest : List ℕ) → Ends e rest) → Lettered spec a d
lettered spec a b e d same found is ends =
    let is_d : e ≡ d = same_Some e d found in
    record { is = subst (λ x. IsKind spec (x ∷ []) d) (sym (eqb-true a b same)) (subst (IsKind spec (b ∷ [])) is_d is); ends = λ rest. subst (λ x. Ends x rest) is_d (ends rest) }

letter_sound : (spec : Spec) (a : ℕ) (d : Directive) → letter_kind spec a ≡ Some d → Lettered spec a d
letter_sound spec a d h = elim (cases_Bool (a == 100 || a == 105)) [
  | inl is ↦
      let found = rw is at h in
      elim (or_cases (a == 100) (a == 105) is) [
        | inl e ↦ lettered spec a 100 (directive.Number spec base.Signed) d e found rel.decimal (λ rest. tt)
        | inr e ↦ lettered spec a 105 (directive.Number spec base.Signed) d e found rel.integer (λ rest. tt)
      ]
  | inr no0 ↦ let h0 = rw no0 at h in elim (cases_Bool (a == 117)) [
    | inl e ↦ let found = rw e at h0 in lettered spec a 117 (directive.Number spec base.Unsigned) d e found rel.unsigned (λ rest. tt)
    | inr no1 ↦ let h1 = rw no1 at h0 in elim (cases_Bool (a == 120)) [
      | inl e ↦ let found = rw e at h1 in lettered spec a 120 (directive.Number spec base.Hex) d e found rel.hexadecimal (λ rest. tt)
      | inr no2 ↦ let h2 = rw no2 at h1 in elim (cases_Bool (a == 88)) [
        | inl e ↦ let found = rw e at h2 in lettered spec a 88 (directive.Number spec base.UpperHex) d e found rel.upper_hexadecimal (λ rest. tt)
        | inr no3 ↦ let h3 = rw no3 at h2 in elim (cases_Bool (a == 111)) [
          | inl e ↦ let found = rw e at h3 in lettered spec a 111 (directive.Number spec base.Octal) d e found rel.octal (λ rest. tt)
          | inr no4 ↦ let h4 = rw no4 at h3 in elim (cases_Bool (a == 99)) [
            | inl e ↦ let found = rw e at h4 in lettered spec a 99 (directive.Letter spec) d e found rel.letter (λ rest. tt)
            | inr no5 ↦ let h5 = rw no5 at h4 in elim (cases_Bool (a == 115)) [
              | inl e ↦ let found = rw e at h5 in lettered spec a 115 (directive.Text spec) d e found rel.string (λ rest. tt)
              | inr none ↦ absurd (none-some d (rw none at h5))
            ]
          ]
        ]
      ]
    ]
  ]
]

-- ---- the kind at the front

pub record KindAt (spec : Spec) (bytes : List ℕ) (d : Directive) (n : ℕ) : Type 0 where
  pub some : 0 < n
  pub within : n ≤ length bytes
  pub is : IsKind spec (take n bytes) d
  pub ends : Ends d (drop n bytes)

letter_at : (spec : Spec) (a : ℕ) (bytes : List ℕ) (d : Directive) → Lettered spec a d → KindAt spec (a ∷ bytes) d 1
letter_at spec a bytes d l = record { some = omega arith; within = omega arith; is = l.is; ends = l.ends bytes }

pointer_at : (spec : Spec) (a : ℕ) (bytes : List ℕ) (f : PointerForm) → a ≡ 112 → IsForm (take (prefix_len is_alphanumeric bytes) bytes) f → KindAt spec (a ∷ bytes) (directive.Pointer spec f) (1 + prefix_len is_alphanumeric bytes)
pointer_at spec a bytes f e is =
    let run = prefix_len is_alphanumeric bytes in
    let at_p : KindAt spec (112 ∷ bytes) (directive.Pointer spec f) (suc run) = record {
      some = omega arith;
      within = omega (arith, prefix_len-le-length is_alphanumeric bytes);
      is = rel.pointer (take run bytes) f is;
      ends = run_stops is_alphanumeric bytes;
    } in
    subst (λ x. KindAt spec (x ∷ bytes) (directive.Pointer spec f) (1 + run)) (sym e) (subst (λ m. KindAt spec (112 ∷ bytes) (directive.Pointer spec f) m) (omega arith) at_p)

pub kind_sound : (spec : Spec) (bytes : List ℕ) (d : Directive) (n : ℕ) → kind_of spec bytes ≡ Some (pair d n) → KindAt spec bytes d n
unfolding kind_of
kind_sound spec [] d n h = absurd (none-some (pair d n) h)
kind_sound spec (a ∷ bytes) d n h = elim (cases_Bool (a == 112)) [
  | inl is ↦ option_and_then_some (λ f. Some (pair (directive.Pointer spec f) (1 + prefix_len is_alphanumeric bytes))) (pointer_form (take (prefix_len is_alphanumeric bytes) bytes)) (pair d n) (rw is at h)
      (λ f e found. found_is (KindAt spec (a ∷ bytes)) (directive.Pointer spec f) d (1 + prefix_len is_alphanumeric bytes) n found (pointer_at spec a bytes f (eqb-true a 112 is) (form_sound _ f e)))
  | inr other ↦ option_and_then_some (λ e. Some (pair e 1)) (letter_kind spec a) (pair d n) (rw other at h)
      (λ e is found. found_is (KindAt spec (a ∷ bytes)) e d 1 n found (letter_at spec a bytes e (letter_sound spec a e is)))
]

pointer_complete : (spec : Spec) (run : List ℕ) (f : PointerForm) (rest : List ℕ) → IsForm run f → BeginsOutside is_alphanumeric rest → kind_of spec (112 ∷ (run ++ rest)) ≡ Some (pair (directive.Pointer spec f) (length (112 ∷ run)))
unfolding kind_of
pointer_complete spec run f rest is out =
    let len : prefix_len is_alphanumeric (run ++ rest) ≡ length run = run_exact is_alphanumeric run rest (form_passes run f is) out in
    rw (len, take_at run rest (length run) refl, form_complete run f is) (ap (λ n. Some (pair (directive.Pointer spec f) n)) (omega arith))

pub kind_complete : (spec : Spec) (text : List ℕ) (d : Directive) (rest : List ℕ) → IsKind spec text d → Ends d rest → kind_of spec (text ++ rest) ≡ Some (pair d (length text))
unfolding kind_of
kind_complete spec text d rest rel.decimal ends = refl
kind_complete spec text d rest rel.integer ends = refl
kind_complete spec text d rest rel.unsigned ends = refl
kind_complete spec text d rest rel.hexadecimal ends = refl
kind_complete spec text d rest rel.upper_hexadecimal ends = refl
kind_complete spec text d rest rel.octal ends = refl
kind_complete spec text d rest rel.letter ends = refl
kind_complete spec text d rest rel.string ends = refl
kind_complete spec text d rest (rel.pointer run f is) ends = pointer_complete spec run f rest is ends

pub kind_begins : (spec : Spec) (text : List ℕ) (d : Directive) (rest : List ℕ) → IsKind spec text d → BeginsOutside before_kind (text ++ rest)
kind_begins spec text d rest rel.decimal = λ some. refl
kind_begins spec text d rest rel.integer = λ some. refl
kind_begins spec text d rest rel.unsigned = λ some. refl
kind_begins spec text d rest rel.hexadecimal = λ some. refl
kind_begins spec text d rest rel.upper_hexadecimal = λ some. refl
kind_begins spec text d rest rel.octal = λ some. refl
kind_begins spec text d rest rel.letter = λ some. refl
kind_begins spec text d rest rel.string = λ some. refl
kind_begins spec text d rest (rel.pointer run f is) = λ some. refl
