-- Pieces at the front: what is computed is what stands there.
use Rattle.std.proofs.Common.{◌≡◌, ℕ, ◌+◌, ◌<◌, ◌≤◌, true, false, not, List, [], ◌∷◌, ◌++◌, length, take, drop, Some, refl, sym, ap, subst, ◌∙◌, arith, inl, inr}
use Rattle.std.specs.Prelude.{◌==◌, option_and_then}
use Rattle.std.specs.List.{prefix_len, AllPass}
use Rattle.std.proofs.lemmas.Bool.{cases_Bool, eqb-true, not-true}
use Rattle.std.proofs.lemmas.List.{take-append-drop, length-take-le}
use Rattle.std.proofs.lemmas.List.Elements.{All-head, All-tail, All-cons}
use Rattle.std.proofs.lemmas.List.Sums.{prefix_len-le-length}
use Rattle.std.proofs.lemmas.Option.{none-some, option_and_then_some}
use Rattle.fmt_directives.specs.declared.directive.Directive.{Directive}
use Rattle.fmt_directives.specs.declared.directive.Directive.TheVariants as directive
use Rattle.fmt_directives.specs.Bytes.{is_plain}
use Rattle.fmt_directives.specs.Directives.{IsRun, IsPiece, run, percent, converted}
use Rattle.fmt_directives.specs.Reading.{conversion, first_directive}
use Rattle.fmt_directives.proofs.Runs.{run_passes, run_exact, run_stops}
use Rattle.fmt_directives.proofs.Fronts.{pair, found_is}
use Rattle.fmt_directives.proofs.Conversions.{conversion_sound, conversion_complete, no_percent}

pub record PieceAt (at : ℕ) (bytes : List ℕ) (d : Directive) (n : ℕ) : Type 0 where
  pub some : 0 < n
  pub within : n ≤ length bytes
  pub is : IsPiece at bytes d n

run_at : (at b : ℕ) (bytes : List ℕ) → is_plain b ≡ true → PieceAt at (b ∷ bytes) (directive.Literal at (at + (1 + prefix_len is_plain bytes))) (1 + prefix_len is_plain bytes)
run_at at b bytes plain =
    let len = prefix_len is_plain bytes in
    let within = prefix_len-le-length is_plain bytes in
    record {
      some = omega arith;
      within = omega (arith, within);
      is = run (record {
        run = b ∷ take len bytes;
        rest = drop len bytes;
        whole = ap (λ r. b ∷ r) (sym (take-append-drop len bytes));
        some = omega arith;
        each = All-cons (λ y. is_plain y ≡ true) b (take len bytes) plain (run_passes is_plain bytes);
        ends = run_stops is_plain bytes;
        is = refl;
        long = omega (arith, length-take-le len bytes within);
      });
    }

percent_at : (at b c : ℕ) (bytes : List ℕ) → b ≡ 37 → c ≡ 37 → PieceAt at (b ∷ c ∷ bytes) (directive.Literal (at + 1) (at + 2)) 2
percent_at at b c bytes e f = record {
  some = omega arith;
  within = omega arith;
  is = percent (record { rest = bytes; whole = ap (λ x. x ∷ c ∷ bytes) e ∙ ap (λ x. 37 ∷ x ∷ bytes) f; is = refl; long = refl });
}

converted_at : (at b : ℕ) (bytes : List ℕ) (d : Directive) (n : ℕ) → b ≡ 37 → conversion bytes ≡ Some (pair d n) → PieceAt at (b ∷ bytes) d (1 + n)
converted_at at b bytes d n e h =
    let c = conversion_sound bytes d n h in
    record {
      some = omega arith;
      within = omega (arith, c.within);
      is = converted (record {
        spelling = c.spelling;
        rest = c.rest;
        whole = ap (λ x. x ∷ bytes) e ∙ ap (λ r. 37 ∷ r) c.whole;
        is = c.is;
        ends = c.ends;
        long = omega (arith, c.long);
      });
    }

behind_percent : (at b : ℕ) (bytes : List ℕ) (d : Directive) (n : ℕ) → b ≡ 37 → option_and_then (λ k. Some (pair k.0 (1 + k.1))) (conversion bytes) ≡ Some (pair d n) → PieceAt at (b ∷ bytes) d n
behind_percent at b bytes d n e h = option_and_then_some (λ k. Some (pair k.0 (1 + k.1))) (conversion bytes) (pair d n) h
    (λ k is found. found_is (λ d n. PieceAt at (b ∷ bytes) d n) k.0 d (1 + k.1) n found (converted_at at b bytes k.0 k.1 e is))

plain_is : (b : ℕ) → b == 37 ≡ false → is_plain b ≡ true
plain_is b other = ap not other

pub piece_sound : (at : ℕ) (bytes : List ℕ) (d : Directive) (n : ℕ) → first_directive at bytes ≡ Some (pair d n) → PieceAt at bytes d n
unfolding first_directive
piece_sound at [] d n h = absurd (none-some (pair d n) h)
piece_sound at (b ∷ []) d n h = elim (cases_Bool (b == 37)) [
  | inl is ↦ behind_percent at b [] d n (eqb-true b 37 is) (rw is at h)
  | inr other ↦ let found = rw other at h in found_is (λ d n. PieceAt at (b ∷ []) d n) _ d _ n found (run_at at b [] (plain_is b other))
]
piece_sound at (b ∷ c ∷ bytes) d n h = elim (cases_Bool (b == 37)) [
  | inl is ↦
      let h1 = rw is at h in
      elim (cases_Bool (c == 37)) [
        | inl two ↦ let found = rw two at h1 in found_is (λ d n. PieceAt at (b ∷ c ∷ bytes) d n) (directive.Literal (at + 1) (at + 2)) d 2 n found (percent_at at b c bytes (eqb-true b 37 is) (eqb-true c 37 two))
        | inr one ↦ behind_percent at b (c ∷ bytes) d n (eqb-true b 37 is) (rw one at h1)
      ]
  | inr other ↦ let found = rw other at h in found_is (λ d n. PieceAt at (b ∷ c ∷ bytes) d n) _ d _ n found (run_at at b (c ∷ bytes) (plain_is b other))
]

no_percent_is : (b : ℕ) → is_plain b ≡ true → b == 37 ≡ false
no_percent_is b plain = not-true (b == 37) plain

run_complete : (at b : ℕ) (bytes rest : List ℕ) (n : ℕ) → is_plain b ≡ true → prefix_len is_plain (bytes ++ rest) ≡ length bytes → n ≡ length (b ∷ bytes) → first_directive at (b ∷ (bytes ++ rest)) ≡ Some (pair (directive.Literal at (at + n)) n)
unfolding first_directive
run_complete at b bytes rest n plain len is =
    rw (no_percent_is b plain, len) (ap (λ m. Some (pair (directive.Literal at (at + m)) m)) (omega (arith, is)))

percent_complete : (at : ℕ) (rest : List ℕ) → first_directive at (37 ∷ 37 ∷ rest) ≡ Some (pair (directive.Literal (at + 1) (at + 2)) 2)
unfolding first_directive
percent_complete at rest = refl

converted_complete : (at : ℕ) (bytes : List ℕ) (d : Directive) (n : ℕ) → conversion bytes ≡ Some (pair d n) → first_directive at (37 ∷ bytes) ≡ Some (pair d (1 + n))
unfolding first_directive
converted_complete at [] d n h = rw h refl
converted_complete at (c ∷ bytes) d n h = elim (cases_Bool (c == 37)) [
  | inl is ↦ absurd (none-some (pair d n) (sym (no_percent bytes) ∙ ap (λ x. conversion (x ∷ bytes)) (sym (eqb-true c 37 is)) ∙ h))
  | inr other ↦ rw (other, h) refl
]

of_run : (at : ℕ) (bytes : List ℕ) (d : Directive) (n : ℕ) (r : IsRun at bytes d n) (text : List ℕ) → r.run ≡ text → first_directive at bytes ≡ Some (pair d n)
of_run at bytes d n r [] e = absurd (omega (arith, r.some, ap length e))
of_run at bytes d n r (b ∷ text) e =
    let each = subst (λ t. AllPass is_plain t) e r.each in
    ap (first_directive at) (r.whole ∙ ap (λ t. t ++ r.rest) e)
    ∙ run_complete at b text r.rest n (All-head (λ y. is_plain y ≡ true) b text each) (run_exact is_plain text r.rest (All-tail (λ y. is_plain y ≡ true) b text each) r.ends) (r.long ∙ ap length e)
    ∙ ap (λ x. Some (pair x n)) (sym r.is)

pub piece_complete : (at : ℕ) (bytes : List ℕ) (d : Directive) (n : ℕ) → IsPiece at bytes d n → first_directive at bytes ≡ Some (pair d n)
piece_complete at bytes d n (run r) = of_run at bytes d n r r.run refl
piece_complete at bytes d n (percent p) =
    ap (first_directive at) p.whole ∙ percent_complete at p.rest ∙ ap (λ x. Some (pair x 2)) (sym p.is) ∙ ap (λ m. Some (pair d m)) (sym p.long)
piece_complete at bytes d n (converted c) =
    ap (first_directive at) c.whole ∙ converted_complete at (c.spelling ++ c.rest) d (length c.spelling) (conversion_complete c.spelling d c.rest c.is c.ends) ∙ ap (λ m. Some (pair d m)) (sym c.long)
