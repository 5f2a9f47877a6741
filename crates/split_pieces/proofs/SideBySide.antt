-- Several lists, cut side by side.
use Rattle.std.proofs.Common.{◌≡◌, ℕ, zero, suc, ◌+◌, ◌<◌, ◌≤◌, true, if◌then◌else◌, List, [], ◌∷◌, ◌++◌, length, get_or, map, Some, refl, sym, ap, subst, ◌∙◌, inl, inr, arith}
use Rattle.std.specs.List.{flat_map, slice_get}
use Rattle.std.proofs.lemmas.Bool.{cases_Bool}
use Rattle.std.proofs.lemmas.List.{length-append, nil_from_length, get_or-map}
use Rattle.subpage.specs.Arrangement.{Keyed}
use Rattle.word_values.specs.declared.piece.PieceUnit.{PieceUnit}
use Rattle.word_values.specs.declared.piece.PieceUnit.TheVariants.{All, Nanos, Events}
use Rattle.split_pieces.specs.declared.rules.Rules.{Rules}
use Rattle.split_pieces.specs.Pieces.{IsUnit, piece, rest, piece_at, first_pieces, joined_lists, next_file, behind_file, files_when, files_within, files_left, files, left_in}
use Rattle.split_pieces.proofs.Cutting.{whole, first_some}

-- where nothing is left there are no further files, else there is one and those after it
no_more : (unit : PieceUnit) (n : ℕ) (lists : List (List Keyed)) → joined_lists lists ≡ [] → files_within unit (suc n) lists ≡ []
no_more unit n lists none = ap (λ (all : List Keyed). files_when all (next_file unit lists ∷ files_within unit n (behind_file unit lists))) none

one_more : (unit : PieceUnit) (n : ℕ) (lists : List (List Keyed)) (y : Keyed) (ys : List Keyed) → joined_lists lists ≡ y ∷ ys
    → files_within unit (suc n) lists ≡ next_file unit lists ∷ files_within unit n (behind_file unit lists)
one_more unit n lists y ys some = ap (λ (all : List Keyed). files_when all (next_file unit lists ∷ files_within unit n (behind_file unit lists))) some

-- THE FILE OF NUMBER k

behind_at : (unit : PieceUnit) (k : ℕ) (lists : List (List Keyed)) → flat_map (piece_at unit k) (behind_file unit lists) ≡ flat_map (piece_at unit (suc k)) lists
behind_at unit k [] = refl
behind_at unit k (xs ∷ lists) = ap (λ (t : List Keyed). piece_at unit k (rest unit xs) ++ t) (behind_at unit k lists)

none_there : (k : ℕ) (file : List Keyed) → slice_get {X = List Keyed} [] k ≡ Some file → ⊥
none_there k file e = absurd cc

-- the first file, or one of those after it
at_number : (unit : PieceUnit) (more : List (List Keyed)) (k : ℕ) (lists : List (List Keyed)) (file : List Keyed)
    → ((j : ℕ) → slice_get more j ≡ Some file → file ≡ flat_map (piece_at unit j) (behind_file unit lists))
    → slice_get (next_file unit lists ∷ more) k ≡ Some file → file ≡ flat_map (piece_at unit k) lists
at_number unit more zero lists file later e = let first : next_file unit lists ≡ file = cc in sym first
at_number unit more (suc k) lists file later e = later k e ∙ behind_at unit k lists

step_at : (unit : PieceUnit) (n k : ℕ) (lists : List (List Keyed)) (file : List Keyed) (all : List Keyed) → joined_lists lists ≡ all
    → ((j : ℕ) → slice_get (files_within unit n (behind_file unit lists)) j ≡ Some file → file ≡ flat_map (piece_at unit j) (behind_file unit lists))
    → slice_get (files_within unit (suc n) lists) k ≡ Some file → file ≡ flat_map (piece_at unit k) lists
step_at unit n k lists file [] none later e = absurd (none_there k file (ap (λ (fs : List (List Keyed)). slice_get fs k) (sym (no_more unit n lists none)) ∙ e))
step_at unit n k lists file (y ∷ ys) some later e =
    at_number unit (files_within unit n (behind_file unit lists)) k lists file later (ap (λ (fs : List (List Keyed)). slice_get fs k) (sym (one_more unit n lists y ys some)) ∙ e)

within_at : (unit : PieceUnit) (n k : ℕ) (lists : List (List Keyed)) (file : List Keyed) → slice_get (files_within unit n lists) k ≡ Some file → file ≡ flat_map (piece_at unit k) lists
within_at unit zero k lists file e = absurd (none_there k file e)
within_at unit (suc n) k lists file e = step_at unit n k lists file (joined_lists lists) refl (λ j h. within_at unit n j (behind_file unit lists) file h) e

pub file_is : (rules : Rules) (lists : List (List Keyed)) (k : ℕ) (file : List Keyed) → slice_get (files rules lists) k ≡ Some file → file ≡ flat_map (piece_at rules.unit k) (map (left_in rules) lists)
file_is rules lists k file e =
    let left = map (left_in rules) lists in
    let more = files_left rules.unit (behind_file rules.unit left) in
    at_number rules.unit (if rules.repeat then more else []) k left file (λ j h. elim (cases_Bool rules.repeat) [
      | inl b ↦ within_at rules.unit (length (joined_lists (behind_file rules.unit left))) j (behind_file rules.unit left) file (ap (λ r. slice_get (if r then more else []) j) (sym b) ∙ h)
      | inr b ↦ absurd (none_there j file (ap (λ r. slice_get (if r then more else []) j) (sym b) ∙ h))
    ]) e

-- ALL FILES

pub len_parts : (unit : PieceUnit) (lists : List (List Keyed)) → length (joined_lists lists) ≡ length (next_file unit lists) + length (joined_lists (behind_file unit lists))
len_parts unit [] = omega arith
len_parts unit (xs ∷ lists) =
    let one : length (piece unit xs ++ rest unit xs) ≡ length xs = ap length (whole unit xs) in
    omega (
      arith,
      one,
      length-append (piece unit xs) (rest unit xs),
      length-append xs (joined_lists lists),
      length-append (piece unit xs) (next_file unit lists),
      length-append (rest unit xs) (joined_lists (behind_file unit lists)),
      len_parts unit lists,
    )

pub some_next : (unit : PieceUnit) (lists : List (List Keyed)) → IsUnit unit → 0 < length (joined_lists lists) → 0 < length (next_file unit lists)
some_next unit [] u some = absurd (omega (arith, some))
some_next unit ([] ∷ lists) u some = omega (arith, length-append (piece unit []) (next_file unit lists), some_next unit lists u some)
some_next unit ((x ∷ xs) ∷ lists) u some = omega (arith, length-append (piece unit (x ∷ xs)) (next_file unit lists), first_some unit x xs u)

at_most : (lists : List (List Keyed)) (i : ℕ) → length (get_or lists i []) ≤ length (joined_lists lists)
at_most [] i = omega arith
at_most (xs ∷ lists) zero = omega (arith, length-append xs (joined_lists lists))
at_most (xs ∷ lists) (suc i) = omega (arith, length-append xs (joined_lists lists), at_most lists i)

rest_none : (unit : PieceUnit) → rest unit [] ≡ []
rest_none All = refl
rest_none (Nanos n) = refl
rest_none (Events zero) = refl
rest_none (Events (suc n)) = refl

rest_at : (unit : PieceUnit) (lists : List (List Keyed)) (i : ℕ) → get_or (behind_file unit lists) i [] ≡ rest unit (get_or lists i [])
rest_at unit [] i = sym (rest_none unit)
rest_at unit (xs ∷ lists) zero = refl
rest_at unit (xs ∷ lists) (suc i) = rest_at unit lists i

-- one file more
used_behind : (unit : PieceUnit) (m i : ℕ) (lists : List (List Keyed)) → first_pieces unit m (get_or (behind_file unit lists) i []) ≡ get_or (behind_file unit lists) i []
    → first_pieces unit (suc m) (get_or lists i []) ≡ get_or lists i []
used_behind unit m i lists later =
    let xs = get_or lists i [] in
    ap (λ (t : List Keyed). piece unit xs ++ t) (subst (λ (ys : List Keyed). first_pieces unit m ys ≡ ys) (rest_at unit lists i) later) ∙ whole unit xs

used_step : (unit : PieceUnit) (n i : ℕ) (lists : List (List Keyed)) (all : List Keyed) → joined_lists lists ≡ all
    → first_pieces unit (length (files_within unit n (behind_file unit lists))) (get_or (behind_file unit lists) i []) ≡ get_or (behind_file unit lists) i []
    → first_pieces unit (length (files_within unit (suc n) lists)) (get_or lists i []) ≡ get_or lists i []
used_step unit n i lists [] none later =
    let empty : length (joined_lists lists) ≡ 0 = ap length none in
    ap (λ (fs : List (List Keyed)). first_pieces unit (length fs) (get_or lists i [])) (no_more unit n lists none)
    ∙ sym (nil_from_length (get_or lists i []) (omega (arith, at_most lists i, empty)))
used_step unit n i lists (y ∷ ys) some later =
    ap (λ (fs : List (List Keyed)). first_pieces unit (length fs) (get_or lists i [])) (one_more unit n lists y ys some)
    ∙ used_behind unit (length (files_within unit n (behind_file unit lists))) i lists later

pub fewer : (unit : PieceUnit) (n : ℕ) (lists : List (List Keyed)) → IsUnit unit → length (joined_lists lists) ≤ suc n → length (joined_lists (behind_file unit lists)) ≤ n
fewer unit n lists u le = by_len (length (joined_lists lists)) refl
  where
    by_len : (m : ℕ) → length (joined_lists lists) ≡ m → length (joined_lists (behind_file unit lists)) ≤ n
    by_len zero e = omega (arith, e, len_parts unit lists)
    by_len (suc m) e = omega (arith, e, le, len_parts unit lists, some_next unit lists u (omega (arith, e)))

used_up : (unit : PieceUnit) (n i : ℕ) (lists : List (List Keyed)) → IsUnit unit → length (joined_lists lists) ≤ n
    → first_pieces unit (length (files_within unit n lists)) (get_or lists i []) ≡ get_or lists i []
used_up unit zero i lists u le = sym (nil_from_length (get_or lists i []) (omega (arith, at_most lists i, le)))
used_up unit (suc n) i lists u le = used_step unit n i lists (joined_lists lists) refl (used_up unit n i (behind_file unit lists) u (fewer unit n lists u le))

pub all_used : (rules : Rules) (lists : List (List Keyed)) (i : ℕ) → IsUnit rules.unit → rules.repeat ≡ true → i < length lists
    → first_pieces rules.unit (length (files rules lists)) (left_in rules (get_or lists i [])) ≡ left_in rules (get_or lists i [])
all_used rules lists i u again lt =
    let left = map (left_in rules) lists in
    let behind = behind_file rules.unit left in
    let all = length (joined_lists behind) in
    let mine : get_or left i [] ≡ left_in rules (get_or lists i []) = get_or-map (left_in rules) lists i [] [] lt in
    let used : first_pieces rules.unit (suc (length (files_left rules.unit behind))) (get_or left i []) ≡ get_or left i [] =
    used_behind rules.unit (length (files_left rules.unit behind)) i left (used_up rules.unit all i behind u (omega arith)) in
    ap (λ r. first_pieces rules.unit (suc (length (if r then files_left rules.unit behind else []))) (left_in rules (get_or lists i []))) again
    ∙ subst (λ (xs : List Keyed). first_pieces rules.unit (suc (length (files_left rules.unit behind))) xs ≡ xs) mine used
