-- File after file, on lists.
use Rattle.std.proofs.Common.{◌≡◌, ℕ, zero, suc, ◌<◌, ◌≤◌, Bool, true, false, ◌&&◌, if◌then◌else◌, List, [], ◌∷◌, length, refl, sym, ap, ◌∙◌, arith}
use Rattle.subpage.specs.Arrangement.{Keyed}
use Rattle.word_values.specs.declared.piece.PieceUnit.{PieceUnit}
use Rattle.split_pieces.specs.declared.rules.Rules.{Rules}
use Rattle.split_pieces.specs.Pieces.{IsUnit, is_some_left, joined_lists, next_file, behind_file, files_when, files_within, files_left}
use Rattle.split_pieces.proofs.SideBySide.{fewer, len_parts, some_next}
use Rattle.split_tool.specs.Lists.{files_behind, files_of}

-- HOW MANY ITEMS ARE LEFT

-- a file leaves fewer items, where there was one
pub fewer_left : (unit : PieceUnit) (lists : List (List Keyed)) → IsUnit unit → 0 < length (joined_lists (behind_file unit lists)) → length (joined_lists (behind_file unit lists)) < length (joined_lists lists)
fewer_left unit lists u some =
    let whole = len_parts unit lists in
    omega (arith, whole, some_next unit lists u (omega (arith, whole, some)))

pub some_length : (xs : List Keyed) → is_some_left xs ≡ true → 0 < length xs
some_length [] some = absurd cc
some_length (x ∷ xs) some = omega arith

pub none_there : (xs : List Keyed) → is_some_left xs ≡ false → xs ≡ []
none_there [] none = refl
none_there (x ∷ xs) none = absurd cc

-- THE NUMBER OF FILES IS BOUNDED BY THE NUMBER OF ITEMS

by_all : (unit : PieceUnit) (n m : ℕ) (lists : List (List Keyed)) (all : List Keyed) → joined_lists lists ≡ all
    → files_within unit n (behind_file unit lists) ≡ files_within unit m (behind_file unit lists)
    → files_within unit (suc n) lists ≡ files_within unit (suc m) lists
by_all unit n m lists all is same = ap (λ (more : List (List Keyed)). files_when (joined_lists lists) (next_file unit lists ∷ more)) same

none_within : (unit : PieceUnit) (n : ℕ) (lists : List (List Keyed)) → joined_lists lists ≡ [] → files_within unit n lists ≡ []
none_within unit zero lists none = refl
none_within unit (suc n) lists none = ap (λ (all : List Keyed). files_when all (next_file unit lists ∷ files_within unit n (behind_file unit lists))) none

nil_of : (xs : List Keyed) → length xs ≤ 0 → xs ≡ []
nil_of [] le = refl
nil_of (x ∷ xs) le = absurd (omega (arith, le))

enough : (unit : PieceUnit) (n m : ℕ) (lists : List (List Keyed)) → IsUnit unit → length (joined_lists lists) ≤ n → length (joined_lists lists) ≤ m → files_within unit n lists ≡ files_within unit m lists
enough unit zero m lists u le le2 = sym (none_within unit m lists (nil_of _ le))
enough unit (suc n) zero lists u le le2 = none_within unit (suc n) lists (nil_of _ le2)
enough unit (suc n) (suc m) lists u le le2 =
    by_all unit n m lists (joined_lists lists) refl (enough unit n m (behind_file unit lists) u (fewer unit n lists u le) (fewer unit m lists u le2))

-- ONE FILE, AND THOSE AFTER IT

left_more : (unit : PieceUnit) (n : ℕ) (lists : List (List Keyed)) → IsUnit unit → length (joined_lists lists) ≡ n → 0 < n
    → files_within unit n lists ≡ next_file unit lists ∷ files_left unit (behind_file unit lists)
left_more unit zero lists u is some = absurd (omega (arith, some))
left_more unit (suc n) lists u is some =
    when_some (joined_lists lists) (omega (arith, is))
    ∙ ap (λ (more : List (List Keyed)). next_file unit lists ∷ more) (enough unit n (length (joined_lists (behind_file unit lists))) (behind_file unit lists) u (fewer unit n lists u (omega (arith, is))) (omega arith))
  where
    when_some : (all : List Keyed) → 0 < length all → files_when all (next_file unit lists ∷ files_within unit n (behind_file unit lists)) ≡ next_file unit lists ∷ files_within unit n (behind_file unit lists)
    when_some [] some = absurd (omega (arith, some))
    when_some (x ∷ xs) some = refl

-- with repetition and an item left, the files after the next one are those of what it leaves
pub goes_on : (rules : Rules) (lists : List (List Keyed)) → IsUnit rules.unit → rules.repeat ≡ true → is_some_left (joined_lists (behind_file rules.unit lists)) ≡ true
    → files_behind rules lists ≡ files_of rules (behind_file rules.unit lists)
goes_on rules lists u again some =
    let behind = behind_file rules.unit lists in
    let if_again : (b : Bool) → b ≡ true → (xs : List (List Keyed)) → (if b then xs else []) ≡ xs = λ b is xs. rw is refl in
    if_again rules.repeat again (files_left rules.unit behind)
    ∙ left_more rules.unit (length (joined_lists behind)) behind u refl (some_length (joined_lists behind) some)
    ∙ ap (λ (more : List (List Keyed)). next_file rules.unit behind ∷ more) (sym (if_again rules.repeat again (files_left rules.unit (behind_file rules.unit behind))))

-- else there is none
pub ends : (rules : Rules) (lists : List (List Keyed)) → (is_some_left (joined_lists (behind_file rules.unit lists)) && rules.repeat) ≡ false → files_behind rules lists ≡ []
ends rules lists none = by_again rules.repeat none
  where
    by_again : (b : Bool) → (is_some_left (joined_lists (behind_file rules.unit lists)) && b) ≡ false → (if b then files_left rules.unit (behind_file rules.unit lists) else []) ≡ []
    by_again false none = refl
    by_again true none = by_some (is_some_left (joined_lists (behind_file rules.unit lists))) refl none
      where
        by_some : (s : Bool) → is_some_left (joined_lists (behind_file rules.unit lists)) ≡ s → (s && true) ≡ false → files_left rules.unit (behind_file rules.unit lists) ≡ []
        by_some true is none = absurd cc
        by_some false is none = none_within rules.unit _ (behind_file rules.unit lists) (none_there _ is)
