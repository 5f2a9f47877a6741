-- Several files in a slice, one after another.
use Rattle.std.proofs.Common.{◌≡◌, ◌≢◌, ℕ, ◌+◌, ◌<◌, ◌≤◌, List, [], ◌∷◌, length, get_or, set, map, refl, sym, ap, subst, ◌∙◌, arith, inl, inr, get_or-set_same, get_or-set_other}
use Rattle.std.specs.List.{All}
use Rattle.std.proofs.lemmas.Bool.{cases_eq, cases_lt}
use Rattle.std.proofs.lemmas.List.{ext_get_or, get_or-map, length-map, map-set}
use Rattle.std.proofs.lemmas.List.Elements.{All-from_get_or, All-get_or}
use Rattle.tournament_tree.specs.declared.slot_key.SlotKey.{SlotKey}
use Rattle.tournament_tree.specs.declared.slot_key.SlotKey.TheVariants.{Empty}
use Rattle.trace_outside.specs.Causes.{Rose}
use Rattle.multi_report.specs.Sources.{SourceView, HasOwnLayouts, IsKnown, IsPrepared, IsReadied, Keeps, next_key}
use Rattle.multi_report.specs.Turns.{AreReadied}
use Rattle.multi_report.proofs.Files.{Tied, same_one}

pub keeps_self : (s : SourceView) → Keeps s s
keeps_self s = record { same = same_one s; most = omega arith; rows = λ known. refl; known = λ known. known }

pub tied_self : (first : List SourceView) → Tied Keeps first first
tied_self first i d lt = keeps_self (get_or first i d)

pub as_long : {S : Type 0} (f : S → SourceView) (xs ys : List S) → length xs ≡ length ys → length (map f xs) ≡ length (map f ys)
as_long f xs ys e = length-map xs f ∙ e ∙ sym (length-map ys f)

-- a file that is ready, with the key of what comes next of it
pub record IsBegun (first now : SourceView) (key : SlotKey) : Type 0 where
  pub readied : IsReadied first now
  pub key_is : IsKnown now → key ≡ next_key now
  pub layouts : HasOwnLayouts first

abbrev pub AreBegun : List SourceView → List SourceView → List SlotKey → ℕ → Type 0
AreBegun first now keys j = (i : ℕ) (d : SourceView) → i < j → IsBegun (get_or first i d) (get_or now i d) (get_or keys i Empty)

less_by : (i j : ℕ) → i < j + 1 → (i ≡ j → ⊥) → i < j
less_by i j le differ = elim (cases_lt i j) [ inl lt ↦ lt | inr ge ↦ absurd (differ (omega (arith, le, ge))) ]

-- those from a place on are as they were
abbrev pub AreStill : List SourceView → List SourceView → ℕ → Type 0
AreStill first now j = (i : ℕ) (d : SourceView) → j ≤ i → get_or now i d ≡ get_or first i d

module _ {S : Type 0} (f : S → SourceView) (first xs : List S) (j : ℕ) (d new : S) (long : length xs ≡ length first) (lt : j < length xs) where
  inside : j < length (map f xs)
  inside = omega (arith, length-map xs f, lt)

  here : (e : SourceView) → get_or (map f (set xs j new)) j e ≡ f new
  here e = ap (λ (ss : List SourceView). get_or ss j e) (map-set f xs j new) ∙ get_or-set_same (map f xs) j (f new) e inside

  other : (i : ℕ) (e : SourceView) → i ≢ j → get_or (map f (set xs j new)) i e ≡ get_or (map f xs) i e
  other i e differ = ap (λ (ss : List SourceView). get_or ss i e) (map-set f xs j new) ∙ get_or-set_other (map f xs) j i (f new) e differ

  -- the element that is changed is the first one
  was : (e : SourceView) → AreStill (map f first) (map f xs) j → f (get_or xs j d) ≡ get_or (map f first) j e
  was e still = sym (get_or-map f xs j d e lt) ∙ still j e (omega arith)

  pub tied_set : AreStill (map f first) (map f xs) j → Keeps (f (get_or xs j d)) (f new) → Tied Keeps (map f first) (map f xs) → Tied Keeps (map f first) (map f (set xs j new))
  tied_set still keeps tied i e le = elim (cases_eq i j) as (λ _. Keeps (get_or (map f first) i e) (get_or (map f (set xs j new)) i e)) [
    | inl same ↦
        let at : Keeps (get_or (map f first) j e) (get_or (map f (set xs j new)) j e) =
        subst (λ (s : SourceView). Keeps (get_or (map f first) j e) s) (sym (here e)) (subst (λ (s : SourceView). Keeps s (f new)) (was e still) keeps) in
        subst (λ (k : ℕ). Keeps (get_or (map f first) k e) (get_or (map f (set xs j new)) k e)) (sym same) at
    | inr differ ↦ subst (λ (s : SourceView). Keeps (get_or (map f first) i e) s) (sym (other i e differ)) (tied i e le)
  ]

  pub still_set : AreStill (map f first) (map f xs) j → AreStill (map f first) (map f (set xs j new)) (j + 1)
  still_set still i e le = other i e (λ same. omega (arith, same, le)) ∙ still i e (omega (arith, le))

  pub begun_set : (keys : List SlotKey) (key : SlotKey) → j < length keys → AreStill (map f first) (map f xs) j
      → IsReadied (f (get_or xs j d)) (f new) → (IsKnown (f new) → key ≡ next_key (f new)) → HasOwnLayouts (f (get_or xs j d))
      → AreBegun (map f first) (map f xs) keys j → AreBegun (map f first) (map f (set xs j new)) (set keys j key) (j + 1)
  begun_set keys key room still readied key_is layouts begun i e le = elim (cases_eq i j) as (λ _. IsBegun (get_or (map f first) i e) (get_or (map f (set xs j new)) i e) (get_or (set keys j key) i Empty)) [
    | inl same ↦
        let one : IsBegun (get_or (map f first) j e) (f new) key = record { readied = subst (λ (s : SourceView). IsReadied s (f new)) (was e still) readied; key_is = key_is; layouts = subst HasOwnLayouts (was e still) layouts } in
        let at : IsBegun (get_or (map f first) j e) (get_or (map f (set xs j new)) j e) (get_or (set keys j key) j Empty) =
        subst (λ (s : SourceView). IsBegun (get_or (map f first) j e) s (get_or (set keys j key) j Empty)) (sym (here e))
        (subst (λ (k : SlotKey). IsBegun (get_or (map f first) j e) (f new) k) (sym (get_or-set_same keys j key Empty room)) one) in
        subst (λ (k : ℕ). IsBegun (get_or (map f first) k e) (get_or (map f (set xs j new)) k e) (get_or (set keys j key) k Empty)) (sym same) at
    | inr differ ↦
        subst (λ (s : SourceView). IsBegun (get_or (map f first) i e) s (get_or (set keys j key) i Empty)) (sym (other i e differ))
        (subst (λ (k : SlotKey). IsBegun (get_or (map f first) i e) (get_or (map f xs) i e) k) (sym (get_or-set_other keys j i key Empty differ)) (begun i e (less_by i j le differ)))
  ]

  pub rose_set : AreStill (map f first) (map f xs) j → Rose (f (get_or xs j d)).faults (f new).faults
      → (j < length first) × ((e : SourceView) → Rose (get_or (map f first) j e).faults (get_or (map f (set xs j new)) j e).faults)
  rose_set still rose = (
    omega (arith, long, lt),
    λ e.
        subst (λ (s : SourceView). Rose (get_or (map f first) j e).faults s.faults) (sym (here e))
        (subst (λ (s : SourceView). Rose s.faults (f new).faults) (was e still) rose),
  )

-- all were made ready
module _ (first now : List SourceView) (keys : List SlotKey) (j : ℕ) (long : length now ≡ length first) (end : length first ≤ j) (begun : AreBegun first now keys j) where
  pub all_readied : AreReadied first now
  all_readied = record {
    prepared = prepared now (λ i d lt. (begun i d (omega (arith, lt, long, end))).readied.prepared);
    due = λ i d lt. (begun i d (omega (arith, lt, end))).readied.due;
  }
    where
      prepared : (xs : List SourceView) → ((i : ℕ) (d : SourceView) → i < length xs → IsPrepared (get_or xs i d)) → All IsPrepared xs
      prepared [] each = λ i d lt. absurd (omega (arith, lt))
      prepared (x ∷ xs) each = All-from_get_or IsPrepared (x ∷ xs) x (λ i lt. each i x lt)

  pub all_own : All HasOwnLayouts first
  all_own i d lt = (begun i d (omega (arith, lt, end))).layouts

  pub all_keys : length keys ≡ length first → All IsKnown now → keys ≡ map next_key now
  all_keys slots known =
      ext_get_or Empty keys (map next_key now) (slots ∙ sym long ∙ sym (length-map now next_key)) (λ i lt.
      let within : i < length now = omega (arith, lt, slots, long) in
      let d = some now i within in
      (begun i d (omega (arith, within, long, end))).key_is (All-get_or IsKnown now i d within known) ∙ sym (get_or-map next_key now i d Empty within))
    where
      some : (xs : List SourceView) (i : ℕ) → i < length xs → SourceView
      some [] i lt = absurd (omega (arith, lt))
      some (x ∷ xs) i lt = x
