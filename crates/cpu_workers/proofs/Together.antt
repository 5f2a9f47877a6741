-- Lanes that are formatted, one after another and in two groups.
use Rattle.std.proofs.Common.{◌≡◌, ℕ, ◌+◌, ◌-◌, ◌<◌, ◌≤◌, Bool, true, false, List, ◌++◌, length, get_or, set, take, drop, inl, inr, refl, sym, ap, subst, ◌∙◌, arith}
use Rattle.std.proofs.lemmas.Bool.{cases_lt}
use Rattle.std.proofs.lemmas.List.{get_or_append_left, get_or-append_right, get_or_default, get_or-set_same, get_or-set_other, length-append, take-append-drop}
use Rattle.subpage.specs.ItemData.{ItemData}
use Rattle.line_holes.specs.Holes.{LineText}
use Rattle.page_pool.specs.declared.lane.Lane.{Lane}
use Rattle.page_pool.specs.Moved.{KeepsUnmoved, NoneMarked}
use Rattle.page_pool.proofs.Passing.{passing}
use Rattle.cpu_workers.specs.Formats.{AreFormatted, AreMarked, IsFormatted, IsSettled}
use Rattle.cpu_workers.proofs.Settling.{settled_formatted}

module _ (text : ℕ → ItemData → LineText) where
  same : (a b x y : Lane) → a ≡ x → b ≡ y → IsFormatted text x y → IsFormatted text a b
  same a b x y is_x is_y formatted =
      subst (λ (z : Lane). IsFormatted text a z) (sym is_y) (subst (λ (z : Lane). IsFormatted text z y) (sym is_x) formatted)

  pub one_more : (first now : List Lane) (i : ℕ) (old new : Lane) → i < length now
      → ((k : ℕ) (d : Lane) → k < i → IsFormatted text (get_or first k d) (get_or now k d))
      → ((k : ℕ) (d : Lane) → i ≤ k → get_or now k d ≡ get_or first k d)
      → IsFormatted text (get_or now i old) new
      → (k : ℕ) (d : Lane) → k < i + 1 → IsFormatted text (get_or first k d) (get_or (set now i new) k d)
  one_more first now i old new inside done rest this k d before =
      elim (cases_lt k i) as (λ _. IsFormatted text (get_or first k d) (get_or (set now i new) k d)) [
        | inl lt ↦ same (get_or first k d) (get_or (set now i new) k d) (get_or first k d) (get_or now k d) refl
            (get_or-set_other now i k new d (λ e. omega (arith, e, lt))) (done k d lt)
        | inr le ↦ let here : k ≡ i = omega (arith, before, le) in
            let was : get_or first k d ≡ get_or now i old = ap (λ (n : ℕ). get_or first n d) here ∙ (sym (rest i d (omega arith)) ∙ get_or_default now i d old inside) in
            let is : get_or (set now i new) k d ≡ new = ap (λ (n : ℕ). get_or (set now i new) n d) here ∙ get_or-set_same now i new d inside in
            same (get_or first k d) (get_or (set now i new) k d) (get_or now i old) new was is this
      ]

  -- a lane that is passed over is formatted as it stands
  one_passed : (first now : List Lane) (i : ℕ) → i < length first
      → ((k : ℕ) (d : Lane) → k < i → IsFormatted text (get_or first k d) (get_or now k d))
      → ((k : ℕ) (d : Lane) → i ≤ k → get_or now k d ≡ get_or first k d)
      → ((d : Lane) → IsSettled text (get_or first i d))
      → (k : ℕ) (d : Lane) → k < i + 1 → IsFormatted text (get_or first k d) (get_or now k d)
  one_passed first now i inside done rest settled k d before =
      elim (cases_lt k i) as (λ _. IsFormatted text (get_or first k d) (get_or now k d)) [
        | inl lt ↦ done k d lt
        | inr le ↦ let here : k ≡ i = omega (arith, before, le) in
            let at : (lanes : List Lane) → get_or lanes k d ≡ get_or lanes i d = λ lanes. ap (λ (n : ℕ). get_or lanes n d) here in
            same (get_or first k d) (get_or now k d) (get_or first i d) (get_or first i d) (at first) (at now ∙ rest i d (omega arith))
            (settled_formatted text (get_or first i d) (settled d))
      ]

  -- lanes that are passed over are formatted as they stand
  pub all_passed : (first now : List Lane) (moved : List Bool) (from to : ℕ) → AreMarked text moved first → from ≤ to → to ≤ length moved
      → NoneMarked moved from to
      → ((k : ℕ) (d : Lane) → k < from → IsFormatted text (get_or first k d) (get_or now k d))
      → ((k : ℕ) (d : Lane) → from ≤ k → get_or now k d ≡ get_or first k d)
      → (k : ℕ) (d : Lane) → k < to → IsFormatted text (get_or first k d) (get_or now k d)
  all_passed first now moved from to marked behind within none done rest =
      passing (λ j. (k : ℕ) (d : Lane) → k < j → IsFormatted text (get_or first k d) (get_or now k d)) moved from to behind none
      (λ j more inside unmarked before.
      let there : j < length first = omega (arith, inside, within, marked.marks) in
      one_passed first now j there before (λ k d later. rest k d (omega (arith, more, later))) (λ d. marked.unmoved j d there unmarked))
      done

  pub both : (all a b now_a now_b : List Lane) (moved moved_a moved_b : List Bool) → all ≡ a ++ b → moved ≡ moved_a ++ moved_b
      → length moved_a ≡ length a → AreFormatted text moved_a a now_a → AreFormatted text moved_b b now_b
      → AreFormatted text moved all (now_a ++ now_b)
  both all a b now_a now_b moved moved_a moved_b is is_moved marks front back =
      let long : length all ≡ length a + length b = ap length is ∙ length-append a b in
      let at : (i : ℕ) (d : Lane) → get_or all i d ≡ get_or (a ++ b) i d = λ i d. ap (λ (lanes : List Lane). get_or lanes i d) is in
      let mark : (i : ℕ) → get_or moved i true ≡ get_or (moved_a ++ moved_b) i true = λ i. ap (λ (marks : List Bool). get_or marks i true) is_moved in
      record {
        count = omega (arith, long, length-append now_a now_b, front.count, back.count);
        each = λ i d inside. elim (cases_lt i (length a)) as (λ _. IsFormatted text (get_or all i d) (get_or (now_a ++ now_b) i d)) [
          | inl lt ↦ same (get_or all i d) (get_or (now_a ++ now_b) i d) (get_or a i d) (get_or now_a i d)
              (at i d ∙ get_or_append_left a b d i lt) (get_or_append_left now_a now_b d i (omega (arith, lt, front.count))) (front.each i d lt)
          | inr le ↦ same (get_or all i d) (get_or (now_a ++ now_b) i d) (get_or b (i - length a) d) (get_or now_b (i - length a) d)
              (at i d ∙ get_or-append_right a b (length a) i d refl le) (get_or-append_right now_a now_b (length a) i d front.count le)
              (back.each (i - length a) d (omega (arith, inside, le, long)))
        ];
        unmoved = λ i d inside unmarked. elim (cases_lt i (length a)) as (λ _. get_or (now_a ++ now_b) i d ≡ get_or all i d) [
          | inl lt ↦ get_or_append_left now_a now_b d i (omega (arith, lt, front.count))
              ∙ (front.unmoved i d lt (sym (mark i ∙ get_or_append_left moved_a moved_b true i (omega (arith, lt, marks))) ∙ unmarked)
              ∙ sym (at i d ∙ get_or_append_left a b d i lt))
          | inr le ↦ get_or-append_right now_a now_b (length a) i d front.count le
              ∙ (back.unmoved (i - length a) d (omega (arith, inside, le, long)) (sym (mark i ∙ get_or-append_right moved_a moved_b (length a) i true marks le) ∙ unmarked)
              ∙ sym (at i d ∙ get_or-append_right a b (length a) i d refl le))
        ];
      }

pub cut_together : {X : Type 0} (xs front back : List X) (cut : ℕ) → front ≡ take cut xs → back ≡ drop cut xs → xs ≡ front ++ back
cut_together xs front back cut first rest = rw (first, rest) (sym (take-append-drop cut xs))

pub rest_more : (first now : List Lane) (i : ℕ) (new : Lane) → ((k : ℕ) (d : Lane) → i ≤ k → get_or now k d ≡ get_or first k d)
    → (k : ℕ) (d : Lane) → i + 1 ≤ k → get_or (set now i new) k d ≡ get_or first k d
rest_more first now i new rest k d behind = get_or-set_other now i k new d (λ e. omega (arith, e, behind)) ∙ rest k d (omega (arith, behind))

pub kept_more : (moved : List Bool) (first now : List Lane) (i : ℕ) (new : Lane) → get_or moved i true ≡ true → KeepsUnmoved moved first now
    → KeepsUnmoved moved first (set now i new)
kept_more moved first now i new marked kept k d inside unmarked =
    get_or-set_other now i k new d (λ (e : k ≡ i). let both : true ≡ false = sym marked ∙ (ap (λ (n : ℕ). get_or moved n true) (sym e) ∙ unmarked) in absurd cc)
    ∙ kept k d inside unmarked
