-- How many lanes are busy, up to one more that is dirty, and before and after a cut.
use Rattle.std.proofs.Common.{◌≡◌, ℕ, zero, suc, ◌+◌, ◌<◌, ◌≤◌, Bool, true, false, cond, List, [], ◌∷◌, length, get_or, take, drop, refl, sym, ap, ◌∙◌, arith}
use Rattle.std.specs.Prelude.{count_by}
use Rattle.std.specs.List.{zip}
use Rattle.std.proofs.lemmas.List.{get_or_default, take_all}
use Rattle.std.proofs.lemmas.List.Sums.{count_by-le-length, count_by_more_no, count_by_more_yes, sum_by-take-drop}
use Rattle.std.proofs.lemmas.Slice.Zip.{get_or-zip, length-zip}
use Rattle.page_pool.specs.declared.lane.Lane.{Lane}
use Rattle.page_pool.specs.Moved.{IsFirstMark, NoneMarked}
use Rattle.page_pool.proofs.Passing.{passing}
use Rattle.cpu_workers.specs.Shares.{busy_lanes, is_busy, may_form}

zip_nothing : {A B : Type 0} (xs : List A) → zip {K = A} {X = B} xs [] ≡ []
zip_nothing [] = refl
zip_nothing (x ∷ xs) = refl

zip_take : {A B : Type 0} (n : ℕ) (xs : List A) (ys : List B) → zip (take n xs) (take n ys) ≡ take n (zip xs ys)
zip_take zero xs ys = refl
zip_take (suc n) [] ys = refl
zip_take (suc n) (x ∷ xs) [] = refl
zip_take (suc n) (x ∷ xs) (y ∷ ys) = ap (λ zs. (x, y) ∷ zs) (zip_take n xs ys)

zip_drop : {A B : Type 0} (n : ℕ) (xs : List A) (ys : List B) → zip (drop n xs) (drop n ys) ≡ drop n (zip xs ys)
zip_drop zero xs ys = refl
zip_drop (suc n) [] ys = refl
zip_drop (suc n) (x ∷ xs) [] = zip_nothing (drop n xs)
zip_drop (suc n) (x ∷ xs) (y ∷ ys) = zip_drop n xs ys

count_more : {X : Type 0} (p : X → Bool) (xs : List X) (i : ℕ) (d : X) (b : Bool) → i < length xs → p (get_or xs i d) ≡ b
    → count_by p (take (i + 1) xs) ≡ count_by p (take i xs) + cond b 1 0
count_more p xs i d true inside is = count_by_more_yes p xs i d inside is
count_more p xs i d false inside is = count_by_more_no p xs i d inside is ∙ omega arith

some_at : {X : Type 0} (xs : List X) (i : ℕ) → i < length xs → (d : X) × (d ≡ get_or xs i d)
some_at [] i inside = absurd (omega (arith, inside))
some_at (x ∷ xs) i inside = (get_or (x ∷ xs) i x, get_or_default (x ∷ xs) i x (get_or (x ∷ xs) i x) inside)

not_busy : (a : Lane) (moved : Bool) → moved ≡ false → is_busy (a, moved) ≡ false
not_busy a true is = absurd cc
not_busy a false is = refl

still_busy : (a : Lane) (moved b : Bool) → moved ≡ true → b ≡ may_form a → b ≡ is_busy (a, moved)
still_busy a true b marked is = is
still_busy a false b marked is = absurd cc

module _ (lanes : List Lane) (moved : List Bool) where
  front : (i : ℕ) → busy_lanes (take i lanes) (take i moved) ≡ count_by is_busy (take i (zip lanes moved))
  front i = ap (count_by is_busy) (zip_take i lanes moved)

  one_more : (i : ℕ) (a : Lane) (b : Bool) → length moved ≡ length lanes → i < length moved → a ≡ get_or lanes i a
      → b ≡ is_busy (a, get_or moved i false)
      → busy_lanes (take (i + 1) lanes) (take (i + 1) moved) ≡ busy_lanes (take i lanes) (take i moved) + cond b 1 0
  one_more i a b marks inside at is =
      let long : length (zip lanes moved) ≡ length moved = omega (arith, length-zip lanes moved, marks) in
      let there : get_or (zip lanes moved) i (a, false) ≡ (a, get_or moved i false) =
      get_or-zip lanes moved i (a, false) (omega (arith, inside, marks)) inside ∙ ap (λ (x : Lane). (x, get_or moved i false)) (sym at) in
      front (i + 1) ∙ (count_more is_busy (zip lanes moved) i (a, false) b (omega (arith, inside, long)) (ap is_busy there ∙ sym is)
      ∙ ap (λ (n : ℕ). n + cond b 1 0) (sym (front i)))

  one_passed : (i : ℕ) → length moved ≡ length lanes → i < length moved → get_or moved i true ≡ false
      → busy_lanes (take (i + 1) lanes) (take (i + 1) moved) ≡ busy_lanes (take i lanes) (take i moved)
  one_passed i marks inside unmarked =
      let found = some_at lanes i (omega (arith, inside, marks)) in
      let mark : get_or moved i false ≡ false = get_or_default moved i false true inside ∙ unmarked in
      let none : busy_lanes (take (i + 1) lanes) (take (i + 1) moved) ≡ busy_lanes (take i lanes) (take i moved) + 0 =
      one_more i found.0 false marks inside found.1 (sym (not_busy found.0 (get_or moved i false) mark)) in
      omega (arith, none)

  -- none of the lanes that are passed over is busy
  busy_passed : (from to : ℕ) → length moved ≡ length lanes → from ≤ to → to ≤ length moved → NoneMarked moved from to
      → busy_lanes (take to lanes) (take to moved) ≡ busy_lanes (take from lanes) (take from moved)
  busy_passed from to marks behind within none =
      passing (λ j. busy_lanes (take j lanes) (take j moved) ≡ busy_lanes (take from lanes) (take from moved)) moved from to behind none
      (λ j _ inside unmarked same. one_passed j marks (omega (arith, inside, within)) unmarked ∙ same) refl

  -- up to the next dirty lane, and that one
  pub busy_more : (from i : ℕ) (a : Lane) (b : Bool) → length moved ≡ length lanes → IsFirstMark moved from i → a ≡ get_or lanes i a
      → b ≡ may_form a
      → busy_lanes (take (i + 1) lanes) (take (i + 1) moved) ≡ busy_lanes (take from lanes) (take from moved) + cond b 1 0
  busy_more from i a b marks mark at is =
      one_more i a b marks mark.inside at (still_busy a (get_or moved i false) b mark.marked is)
      ∙ ap (λ (n : ℕ). n + cond b 1 0) (busy_passed from i marks mark.behind (omega (arith, mark.inside)) mark.none)

  -- where none is dirty any more
  pub busy_all : (from : ℕ) → length moved ≡ length lanes → from ≤ length moved → NoneMarked moved from (length moved)
      → busy_lanes lanes moved ≡ busy_lanes (take from lanes) (take from moved)
  busy_all from marks within none =
      let all_lanes : take (length moved) lanes ≡ lanes = take_all (length moved) lanes (omega (arith, marks)) in
      let all_moved : take (length moved) moved ≡ moved = take_all (length moved) moved (omega arith) in
      let whole : busy_lanes (take (length moved) lanes) (take (length moved) moved) ≡ busy_lanes lanes moved = rw (all_lanes, all_moved) refl in
      sym whole ∙ busy_passed from (length moved) marks within (omega arith) none

  -- no more than all
  pub busy_most : busy_lanes lanes moved ≤ length lanes
  busy_most = omega (arith, count_by-le-length is_busy (zip lanes moved), length-zip lanes moved)

  -- before and after a cut
  pub busy_parts : (cut : ℕ) → busy_lanes (take cut lanes) (take cut moved) + busy_lanes (drop cut lanes) (drop cut moved) ≡ busy_lanes lanes moved
  busy_parts cut =
      let back : busy_lanes (drop cut lanes) (drop cut moved) ≡ count_by is_busy (drop cut (zip lanes moved)) = ap (count_by is_busy) (zip_drop cut lanes moved) in
      let parts : count_by is_busy (take cut (zip lanes moved)) + count_by is_busy (drop cut (zip lanes moved)) ≡ busy_lanes lanes moved =
      sum_by-take-drop (λ x. cond (is_busy x) 1 0) (zip lanes moved) cut in
      omega (arith, front cut, back, parts)
