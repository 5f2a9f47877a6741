-- Entries and the lines that they tell.
use Rattle.std.proofs.Common.{◌≡◌, ℕ, zero, suc, ◌+◌, ◌-◌, ◌<◌, ◌≤◌, List, [], ◌∷◌, ◌++◌, length, take, drop, get_or, Some, refl, sym, ap, ◌∙◌, length-append, length-drop, arith, inl, inr}
use Rattle.std.specs.Prelude.{slice_get, if◌then◌else◌}
use Rattle.std.specs.List.{prefix_len}
use Rattle.std.proofs.lemmas.List.{length-take, take-take, drop_all, append-nil, drop-drop, drop-take, take_more}
use Rattle.std.proofs.lemmas.Bool.{cases_lt}
use Rattle.std.proofs.Math.Seq.{take-append-add, take-add}
use Rattle.line_holes.specs.Holes.{line_text}
use Rattle.page_pool.specs.declared.region.LineEntry.{LineEntry}
use Rattle.page_pool.specs.Lending.{written}
use Rattle.page_pool.specs.Lines.{Line, lines_at, Follow, last_end, joined, line_of, is_plain, is_plain_up_to}

pub count_is : (text : List ℕ) (at : ℕ) (marks : List LineEntry) → length (lines_at text at marks) ≡ length marks
count_is text at [] = refl
count_is text at (mark ∷ marks) = ap suc (count_is text mark.end marks)

pub lines_append : (text : List ℕ) (at : ℕ) (xs ys : List LineEntry) → lines_at text at (xs ++ ys) ≡ lines_at text at xs ++ lines_at text (last_end at xs) ys
lines_append text at [] ys = refl
lines_append text at (x ∷ xs) ys = ap (λ (ls : List Line). line_of x.key (line_text (take (x.end - at) (drop at text)) x.hole) ∷ ls) (lines_append text x.end xs ys)

pub last_append : (at : ℕ) (xs : List LineEntry) (m : LineEntry) → last_end at (xs ++ m ∷ []) ≡ m.end
last_append at [] m = refl
last_append at (x ∷ xs) m = last_append x.end xs m

pub ends_le : (at to : ℕ) (marks : List LineEntry) → Follow at to marks → at ≤ to
ends_le at to [] e = omega (arith, e)
ends_le at to (mark ∷ marks) e = omega (arith, e.0, ends_le mark.end to marks e.1)

pub ends_more : (at to : ℕ) (xs : List LineEntry) (m : LineEntry) → to ≤ m.end → Follow at to xs → Follow at m.end (xs ++ m ∷ [])
ends_more at to [] m le e = (omega (arith, e), refl)
ends_more at to (x ∷ xs) m le e = (e.0, ends_more x.end to xs m le e.1)

pub last_of_ends : (at to : ℕ) (xs : List LineEntry) → Follow at to xs → last_end at xs ≡ to
last_of_ends at to [] e = e
last_of_ends at to (x ∷ xs) e = last_of_ends x.end to xs e.1

up : (a b : ℕ) → a ≤ b → b ≡ a + (b - a)
up a b le = omega arith

-- a line lies in the bytes before the end
pub front_part : {X : Type 0} (s : List X) (at end : ℕ) → drop at (take end s) ≡ take (end - at) (drop at s)
front_part s at end = elim (cases_lt end at) as (λ _. drop at (take end s) ≡ take (end - at) (drop at s)) [
  | inr le ↦ ap (λ (n : ℕ). drop at (take n s)) (up at end le) ∙ drop-take at (end - at) s
  | inl lt ↦ let none : end - at ≡ 0 = omega arith in drop_all at (take end s) (omega (arith, length-take end s)) ∙ sym (ap (λ (n : ℕ). take n (drop at s)) none)
]

part_same : (s t : List ℕ) (at end to : ℕ) → at ≤ end → end ≤ to → take to s ≡ take to t → take (end - at) (drop at s) ≡ take (end - at) (drop at t)
part_same s t at end to le le' same =
    sym (front_part s at end) ∙ ap (drop at) (sym (take-take end to s le') ∙ ap (take end) same ∙ take-take end to t le') ∙ front_part t at end

pub lines_same : (s t : List ℕ) (at to : ℕ) (marks : List LineEntry) → Follow at to marks → take to s ≡ take to t → lines_at s at marks ≡ lines_at t at marks
lines_same s t at to [] e same = refl
lines_same s t at to (mark ∷ marks) e same =
    ap (λ (text : List ℕ). line_of mark.key (line_text text mark.hole) ∷ lines_at s mark.end marks) (part_same s t at mark.end to e.0 (ends_le mark.end to marks e.1) same)
    ∙ ap (λ (ls : List Line). line_of mark.key (line_text (take (mark.end - at) (drop at t)) mark.hole) ∷ ls) (lines_same s t mark.end to marks e.1 same)

pub joined_is : (text : List ℕ) (at to : ℕ) (marks : List LineEntry) → Follow at to marks → joined (lines_at text at marks) ≡ take (to - at) (drop at text)
joined_is text at to [] e = let none : to - at ≡ 0 = omega (arith, e) in sym (ap (λ (n : ℕ). take n (drop at text)) none)
joined_is text at to (mark ∷ marks) e =
    let le : mark.end ≤ to = ends_le mark.end to marks e.1 in
    let first : at ≤ mark.end = e.0 in
    let there : drop mark.end text ≡ drop (mark.end - at) (drop at text) = ap (λ (n : ℕ). drop n text) (up at mark.end first) ∙ sym (drop-drop (mark.end - at) at text) in
    let whole : (mark.end - at) + (to - mark.end) ≡ to - at = omega arith in
    ap (λ (l : List ℕ). take (mark.end - at) (drop at text) ++ l) (joined_is text mark.end to marks e.1 ∙ ap (take (to - mark.end)) there)
    ∙ sym (take-add (mark.end - at) (to - mark.end) (drop at text))
    ∙ ap (λ (n : ℕ). take n (drop at text)) whole

pub drop_lines : (text : List ℕ) (at n : ℕ) (marks : List LineEntry) → drop n (lines_at text at marks) ≡ lines_at text (last_end at (take n marks)) (drop n marks)
drop_lines text at zero marks = refl
drop_lines text at (suc n) [] = refl
drop_lines text at (suc n) (mark ∷ marks) = drop_lines text mark.end n marks

pub take_lines : (text : List ℕ) (at n : ℕ) (marks : List LineEntry) → take n (lines_at text at marks) ≡ lines_at text at (take n marks)
take_lines text at zero marks = refl
take_lines text at (suc n) [] = refl
take_lines text at (suc n) (mark ∷ marks) = ap (λ (ls : List Line). line_of mark.key (line_text (take (mark.end - at) (drop at text)) mark.hole) ∷ ls) (take_lines text mark.end n marks)

pub ends_take : (at to n : ℕ) (marks : List LineEntry) → Follow at to marks → Follow at (last_end at (take n marks)) (take n marks)
ends_take at to zero marks e = refl
ends_take at to (suc n) [] e = refl
ends_take at to (suc n) (mark ∷ marks) e = (e.0, ends_take mark.end to n marks e.1)

-- a line is plain where its entry is
pub plain_lines : (most : ℕ) (text : List ℕ) (at : ℕ) (marks : List LineEntry) → prefix_len (is_plain_up_to most) (lines_at text at marks) ≡ prefix_len (is_plain most) marks
plain_lines most text at [] = refl
plain_lines most text at (mark ∷ marks) = ap (λ (n : ℕ). if is_plain most mark then 1 + n else 0) (plain_lines most text mark.end marks)

pub line_at : (text : List ℕ) (at : ℕ) (marks : List LineEntry) (i : ℕ) (d : LineEntry) → i < length marks
    → slice_get (lines_at text at marks) i ≡ Some (line_of (get_or marks i d).key (line_text (take ((get_or marks i d).end - last_end at (take i marks)) (drop (last_end at (take i marks)) text)) (get_or marks i d).hole))
line_at text at [] i d lt = absurd (omega (arith, lt))
line_at text at (mark ∷ marks) zero d lt = refl
line_at text at (mark ∷ marks) (suc i) d lt = line_at text mark.end marks i d (omega (arith, lt))

pub starts_in : (at to n : ℕ) (marks : List LineEntry) → Follow at to marks → (at ≤ last_end at (take n marks)) × (last_end at (take n marks) ≤ to) × Follow (last_end at (take n marks)) to (drop n marks)
starts_in at to zero marks e = (omega arith, ends_le at to marks e, e)
starts_in at to (suc n) [] e = (omega arith, omega (arith, e), e)
starts_in at to (suc n) (mark ∷ marks) e =
    let p : (mark.end ≤ last_end mark.end (take n marks)) × (last_end mark.end (take n marks) ≤ to) × Follow (last_end mark.end (take n marks)) to (drop n marks) = starts_in mark.end to n marks e.1 in
    (omega (arith, e.0, p.0), p.1, p.2)

pub line_bounds : (at to : ℕ) (marks : List LineEntry) (i : ℕ) (d : LineEntry) → Follow at to marks → i < length marks → (last_end at (take i marks) ≤ (get_or marks i d).end) × ((get_or marks i d).end ≤ to)
line_bounds at to [] i d e lt = absurd (omega (arith, lt))
line_bounds at to (mark ∷ marks) zero d e lt = (e.0, ends_le mark.end to marks e.1)
line_bounds at to (mark ∷ marks) (suc i) d e lt = line_bounds mark.end to marks i d e.1 (omega (arith, lt))

pub start_behind : (at n : ℕ) (marks : List LineEntry) (d : LineEntry) → 0 < n → n ≤ length marks → (get_or marks (n - 1) d).end ≡ last_end at (take n marks)
start_behind at n marks d some le =
    sym (last_append at (take (n - 1) marks) (get_or marks (n - 1) d)) ∙ ap (last_end at) (sym (take_more marks (n - 1) d (omega arith))) ∙ ap (λ (m : ℕ). last_end at (take m marks)) (omega arith)

-- the bytes from a place on were written: those before it stay, and after it is what was written
pub free_items : (items w : List ℕ) (to : ℕ) → to ≤ length items → take (length items) ((take to items ++ (w ++ drop (length w) (drop to items))) ++ drop (length (take to items ++ (w ++ drop (length w) (drop to items)))) items) ≡ take to items ++ written (drop to items) w
free_items items w to le =
    let front : length (take to items) ≡ to = omega (arith, length-take to items) in
    let rest : List ℕ = w ++ drop (length w) (drop to items) in
    let long : length items ≤ length (take to items ++ rest) = omega (arith, length-append (take to items) rest, length-append w (drop (length w) (drop to items)), length-drop (length w) (drop to items), length-drop to items, front) in
    ap (λ (l : List ℕ). take (length items) ((take to items ++ rest) ++ l)) (drop_all (length (take to items ++ rest)) items long)
    ∙ ap (take (length items)) (append-nil (take to items ++ rest))
    ∙ ap (λ (n : ℕ). take n (take to items ++ rest)) (omega (arith, front))
    ∙ take-append-add (take to items) rest (length items - to)
    ∙ ap (λ (n : ℕ). take to items ++ take n rest) (sym (length-drop to items))
