-- Places that are kept from the last field on.
use Rattle.std.proofs.Common.{◌≡◌, ℕ, zero, suc, ◌≤◌, ◌<◌, Bool, true, false, cond, List, [], ◌∷◌, drop, length, get_or, slice_get, Option, Some, None, Vec, BTreeMap, refl, sym, ap, subst, ◌∙◌, arith, ⊎_elim}
use Rattle.std.specs.Option.{option_and_then}
use Rattle.std.specs.Ordering.{is_eq, nat_cmp}
use Rattle.std.specs.Cmp.{eq_by_cmp_equiv}
use Rattle.std.specs.Cmp.Lexicographic.{slice_cmp, bytes_decides, nat_list_cmp_total, nat_list_eq_equiv}
use Rattle.std.specs.Str.{bytes_eq}
use Rattle.std.specs.BTreeMap.{UpdatesBy}
use Rattle.std.specs.Map.{lookup, IsKeyTest, AreApart, KeepsOthers}
use Rattle.std.proofs.lemmas.Bool.{cases_Bool, cond-true, cond-false}
use Rattle.std.proofs.lemmas.Map.Text.{is_eq-slice_cmp}
use Rattle.trace_base.specs.declared.field.Field.{Field}
use Rattle.trace_base.specs.Fields.{field_named}
use Rattle.field_names.specs.Places.{place_of}

apart : (bs cs ks : List ℕ) → bytes_eq bs cs ≡ false → is_eq (slice_cmp nat_cmp bs ks) ≡ true → is_eq (slice_cmp nat_cmp cs ks) ≡ false
apart bs cs ks n y =
    let same : bytes_eq bs ks ≡ true = sym (is_eq-slice_cmp bs ks) ∙ y in
    is_eq-slice_cmp cs ks ∙ nat_list_eq_equiv.symm cs ks ∙ sym (nat_list_eq_equiv.congr bs ks cs same) ∙ n

other_entries : {K X : Type 0} (eq : K → K → Bool) (test : K → Bool) (old new : List (K × X)) → KeepsOthers eq test old new → (other : K → Bool) → IsKeyTest eq other → AreApart test other → lookup other new ≡ lookup other old
unfolding KeepsOthers
other_entries eq test old new h = h

-- a place is put under a name
put_place : {Z : Type 0} (bs : List ℕ) (m n : BTreeMap (Vec ℕ Z) ℕ) (w : Option ℕ) → UpdatesBy (λ x y. slice_cmp nat_cmp x.items y.items) (λ k. slice_cmp nat_cmp bs k.items) m n w
    → (cs : List ℕ) → place_of n cs ≡ cond (bytes_eq bs cs) w (place_of m cs)
put_place bs m n w h cs =
    ⊎_elim
    (λ y. subst (λ l. place_of n l ≡ w) ((bytes_decides bs cs).0 y) h.1 ∙ sym (cond-true (bytes_eq bs cs) w (place_of m cs) y))
    (λ e. other_entries _ _ _ _ h.3 _ (λ x y. (eq_by_cmp_equiv nat_list_cmp_total).congr cs x.items y.items) (λ k. apart bs cs k.items e) ∙ sym (cond-false (bytes_eq bs cs) w (place_of m cs) e))
    (cases_Bool (bytes_eq bs cs))

-- the first of this name, of the fields from a place on
abbrev pub KeepsFrom : {Z : Type 0} → List Field → ℕ → BTreeMap (Vec ℕ Z) ℕ → Type 0
KeepsFrom fields place places = (name : List ℕ) → option_and_then (slice_get fields) (place_of places name) ≡ field_named name (drop place fields)

one_more : (fields : List Field) (i : ℕ) (d : Field) (name : List ℕ) → i < length fields → field_named name (drop i fields) ≡ cond (bytes_eq (get_or fields i d).name name) (slice_get fields i) (field_named name (drop (suc i) fields))
one_more [] i d name lt = absurd (omega (arith, lt))
one_more (f ∷ fs) zero d name lt = refl
one_more (f ∷ fs) (suc i) d name lt = one_more fs i d name (omega (arith, lt))

picked : {A B : Type 0} (g : A → Option B) (b : Bool) (x y : Option A) → option_and_then g (cond b x y) ≡ cond b (option_and_then g x) (option_and_then g y)
picked g true x y = refl
picked g false x y = refl

pub keeps_one : {Z : Type 0} (fields : List Field) (before place : ℕ) (d : Field) (bs : List ℕ) (m n : BTreeMap (Vec ℕ Z) ℕ) → before ≡ suc place → before ≤ length fields → bs ≡ (get_or fields place d).name
    → KeepsFrom fields before m → UpdatesBy (λ x y. slice_cmp nat_cmp x.items y.items) (λ k. slice_cmp nat_cmp bs k.items) m n (Some place) → KeepsFrom fields place n
keeps_one fields before place d bs m n next le is kept put = λ name.
    ap (option_and_then (slice_get fields)) (put_place bs m n (Some place) put name)
    ∙ picked (slice_get fields) (bytes_eq bs name) (Some place) (place_of m name)
    ∙ ap (λ o. cond (bytes_eq bs name) (slice_get fields place) o) (kept name ∙ ap (λ i. field_named name (drop i fields)) next)
    ∙ ap (λ b. cond (bytes_eq b name) (slice_get fields place) (field_named name (drop (suc place) fields))) is
    ∙ sym (one_more fields place d name (omega (arith, next, le)))

pub keeps_none : {Z : Type 0} (fields : List Field) (m : BTreeMap (Vec ℕ Z) ℕ) → m.entries ≡ [] → KeepsFrom fields (length fields) m
keeps_none {Z = Z} fields m none = λ name. ap (λ (es : List (Vec ℕ Z × ℕ)). option_and_then (slice_get fields) (lookup (λ k. is_eq (slice_cmp nat_cmp name k.items)) es)) none ∙ past fields name
  where
    past : (fields : List Field) (name : List ℕ) → None ≡ field_named name (drop (length fields) fields)
    past [] name = refl
    past (f ∷ fs) name = past fs name
