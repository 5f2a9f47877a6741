-- Readers against what they read: a reader finds just what is spelled at a place, or else the first item that is wrong.
use Rattle.std.proofs.Common.{◌≡◌, ℕ, ◌+◌, ◌≤◌, List, [], ◌++◌, length, drop, Ok, Err, refl, sym, ap, subst, ◌∙◌, ◌⊎◌, append_assoc, inl, inr, arith}
use Rattle.std.proofs.lemmas.List.{length-append, length-drop, drop_at, drop-drop}
use Rattle.dat_options.specs.declared.fault.OpenFault.{OpenFault}
use Rattle.dat_header.specs.Found.{Found, ◌>>=◌}
use Rattle.dat_options.specs.Place.{AreBytes}

abbrev pub found_value : {V : Type 0} → V → ℕ → Found V
found_value value end = Ok (value, end)

-- a value that was read from one place to the other is allowed and spelled there
pub record Stands {V : Type 0} (spell : V → List ℕ) (allowed : V → Type 0) (file : List ℕ) (at : ℕ) (value : V) (end : ℕ) : Type 0 where
  pub is : allowed value
  pub here : drop at file ≡ spell value ++ drop end file
  pub place : end ≡ at + length (spell value)
  pub inside : end ≤ length file

pub record Reads {V : Type 0} (spell : V → List ℕ) (allowed : V → Type 0) (read : List ℕ → ℕ → Found V) : Type 0 where
  pub again : (file : List ℕ) (at : ℕ) (value : V) (rest : List ℕ) → at ≤ length file → allowed value → drop at file ≡ spell value ++ rest → read file at ≡ Ok (value, at + length (spell value))
  pub sound : (file : List ℕ) (at : ℕ) (value : V) (end : ℕ) → AreBytes file → at ≤ length file → read file at ≡ Ok (value, end) → Stands spell allowed file at value end

pub err_or_ok : {V : Type 0} (found : Found V) → ((fault : OpenFault) × (found ≡ Err fault)) ⊎ ((value : V) × (end : ℕ) × (found ≡ Ok (value, end)))
err_or_ok (Ok found) = inr (found.0, found.1, refl)
err_or_ok (Err fault) = inl (fault, refl)

pub at_ok : {V W : Type 0} (first : Found V) (next : V × ℕ → Found W) (value : V) (end : ℕ) → first ≡ Ok (value, end) → (first >>= next) ≡ next (value, end)
at_ok first next value end e = ap (λ r. r >>= next) e

pub at_err : {V W : Type 0} (first : Found V) (next : V × ℕ → Found W) (fault : OpenFault) → first ≡ Err fault → (first >>= next) ≡ Err fault
at_err first next fault e = ap (λ r. r >>= next) e

pub not_both : {V : Type 0} (found : Found V) (value : V × ℕ) (fault : OpenFault) → found ≡ Ok value → found ≡ Err fault → ⊥
not_both found value fault one two = let e = sym one ∙ two in cc

pub same_value : {V : Type 0} (found : Found V) (value other : V) (end last : ℕ) → found ≡ Ok (value, end) → found ≡ Ok (other, last) → (value ≡ other) × (end ≡ last)
same_value {V} found value other end last one two =
    let pair : found_value value end ≡ found_value other last = sym one ∙ two in
    let tuple : V × ℕ → V × ℕ → Type 0 = λ a b. a ≡ b in
    let same : tuple (value, end) (other, last) = cc in
    (ap (λ (p : V × ℕ). p.0) same, ap (λ (p : V × ℕ). p.1) same)

pub same_fault : {V : Type 0} (found : Found V) (fault other : OpenFault) → found ≡ Err fault → found ≡ Err other → fault ≡ other
same_fault found fault other one two = let e = sym one ∙ two in cc

pub behind : (file spelled rest : List ℕ) (at : ℕ) → drop at file ≡ spelled ++ rest → drop (at + length spelled) file ≡ rest
behind file spelled rest at here = sym (drop-drop (length spelled) at file) ∙ ap (drop (length spelled)) here ∙ drop_at spelled rest (length spelled) refl

pub room : (file spelled rest : List ℕ) (at : ℕ) → at ≤ length file → drop at file ≡ spelled ++ rest → at + length spelled ≤ length file
room file spelled rest at within here =
    let whole : length (drop at file) ≡ length (spelled ++ rest) = ap length here in
    omega (arith, whole, length-drop at file, length-append spelled rest)

module _ {V W : Type 0} (spell : V → List ℕ) (allowed : V → Type 0) (read : List ℕ → ℕ → Found V)
    (more : V → W → List ℕ) (may : V → W → Type 0) (next : V → List ℕ → ℕ → Found W) (part : W → V) where
  -- both texts
  abbrev pub both_spelled : W → List ℕ
  both_spelled whole = spell (part whole) ++ more (part whole) whole

  abbrev pub both_allowed : W → Type 0
  both_allowed whole = allowed (part whole) × may (part whole) whole

  abbrev pub read_both : List ℕ → ℕ → Found W
  read_both file at = read file at >>= λ found. next found.0 file found.1

  both_again : Reads spell allowed read → ((value : V) → allowed value → Reads (more value) (may value) (next value))
      → (file : List ℕ) (at : ℕ) (whole : W) (rest : List ℕ) → at ≤ length file → both_allowed whole → drop at file ≡ both_spelled whole ++ rest → read_both file at ≡ Ok (whole, at + length (both_spelled whole))
  both_again one two file at whole rest within is here =
      let value = part whole in
      let both : drop at file ≡ spell value ++ (more value whole ++ rest) = here ∙ append_assoc (spell value) (more value whole) rest in
      let first = one.again file at value (more value whole ++ rest) within is.0 both in
      let after = room file (spell value) (more value whole ++ rest) at within both in
      let second = (two value is.0).again file (at + length (spell value)) whole rest after is.1 (behind file (spell value) (more value whole ++ rest) at both) in
      at_ok (read file at) (λ found. next found.0 file found.1) value (at + length (spell value)) first ∙ second
      ∙ ap (λ (n : ℕ). found_value whole n) (omega (arith, length-append (spell value) (more value whole)))

  both_here : (file : List ℕ) (at mid end : ℕ) (value : V) (whole : W) → Stands spell allowed file at value mid → Stands (more value) (may value) file mid whole end → part whole ≡ value
      → Stands both_spelled both_allowed file at whole end
  both_here file at mid end value whole one two same =
      let P : V → Type 0 = λ v. (allowed v × may v whole) × (drop at file ≡ (spell v ++ more v whole) ++ drop end file) × (end ≡ at + length (spell v ++ more v whole)) in
      let all : P value = (
        (one.is, two.is),
        one.here ∙ ap (λ back. spell value ++ back) two.here ∙ sym (append_assoc (spell value) (more value whole) (drop end file)),
        omega (arith, one.place, two.place, length-append (spell value) (more value whole)),
      ) in
      let parted = subst P (sym same) all in
      record { is = parted.0; here = parted.1; place = parted.2; inside = two.inside }

  both_sound : Reads spell allowed read → ((value : V) → allowed value → Reads (more value) (may value) (next value)) → ((value : V) (whole : W) → may value whole → part whole ≡ value)
      → (file : List ℕ) (at : ℕ) (whole : W) (end : ℕ) → AreBytes file → at ≤ length file → read_both file at ≡ Ok (whole, end) → Stands both_spelled both_allowed file at whole end
  both_sound one two is_part file at whole end bytes within e = elim (err_or_ok (read file at)) [
    | inl wrong ↦ absurd (not_both (read_both file at) (whole, end) wrong.0 e (at_err (read file at) (λ found. next found.0 file found.1) wrong.0 wrong.1))
    | inr found ↦
        let first = one.sound file at found.0 found.1 bytes within found.2 in
        let after : next found.0 file found.1 ≡ Ok (whole, end) = sym (at_ok (read file at) (λ f. next f.0 file f.1) found.0 found.1 found.2) ∙ e in
        let second = (two found.0 first.is).sound file found.1 whole end bytes first.inside after in
        both_here file at found.1 end found.0 whole first second (is_part found.0 whole second.is)
  ]

  -- one reader and then another, which may depend on what the first one found
  pub reads_then : Reads spell allowed read → ((value : V) → allowed value → Reads (more value) (may value) (next value)) → ((value : V) (whole : W) → may value whole → part whole ≡ value)
      → Reads both_spelled both_allowed read_both
  reads_then one two is_part = record { again = both_again one two; sound = both_sound one two is_part }

-- nothing more is read
pub reads_none : {V : Type 0} (value : V) → Reads (λ v. []) (λ v. v ≡ value) (λ file at. Ok (value, at))
reads_none {V} value = record {
  again = λ file at v rest within is here. ap (λ (x : V). found_value x at) (sym is) ∙ ap (λ (n : ℕ). found_value v n) (omega arith);
  sound = λ file at v end bytes within e.
      let same = same_value (found_value value at) value v at end refl e in
      record { is = sym same.0; here = ap (λ (n : ℕ). drop n file) same.1; place = omega (arith, same.1); inside = omega (arith, same.1, within) };
}

-- the same reader, of texts that are the same where they are allowed
pub reads_as : {V : Type 0} (spell other : V → List ℕ) (allowed may : V → Type 0) (read by : List ℕ → ℕ → Found V)
    → ((value : V) → allowed value → may value) → ((value : V) → may value → allowed value) → ((value : V) → may value → spell value ≡ other value)
    → ((file : List ℕ) (at : ℕ) → read file at ≡ by file at) → Reads spell allowed read → Reads other may by
reads_as {V} spell other allowed may read by into back same alike reads = record {
  again = λ file at value rest within is here.
      sym (alike file at) ∙ reads.again file at value rest within (back value is) (here ∙ ap (λ front. front ++ rest) (sym (same value is)))
      ∙ ap (λ (t : List ℕ). found_value value (at + length t)) (same value is);
  sound = λ file at value end bytes within e.
      let found = reads.sound file at value end bytes within (alike file at ∙ e) in
      let is = into value found.is in
      record { is = is; here = found.here ∙ ap (λ front. front ++ drop end file) (same value is); place = found.place ∙ ap (λ (t : List ℕ). at + length t) (same value is); inside = found.inside };
}
