-- Items before a start, passed over one after another.
use Rattle.std.proofs.Common.{◌≡◌, true, false, List, [], ◌∷◌, Option, Some, None, refl, ◌∙◌}
use Rattle.subpage.specs.Arrangement.{Keyed, IsRising, key_of}
use Rattle.word_values.specs.declared.moment.Moment.{Moment}
use Rattle.split_pieces.specs.Moments.{is_before}
use Rattle.split_pieces.specs.Pieces.{from_start}
use Rattle.split_pieces.proofs.Cutting.{starts}

-- an item before the start is left out
pub passed_one : (m : Moment) (x : Keyed) (xs : List Keyed) → is_before m x.key ≡ true → from_start (Some m) (x ∷ xs) ≡ from_start (Some m) xs
passed_one m x xs e = rw e refl

-- from the first item that is not, nothing is
pub none_before : (m : Moment) (x : Keyed) (xs : List Keyed) → IsRising key_of (x ∷ xs) → is_before m x.key ≡ false → from_start (Some m) (x ∷ xs) ≡ x ∷ xs
none_before m x xs rising e = starts m (x ∷ xs) rising ∙ rw e refl

pub nothing_left : (start : Option Moment) → from_start start [] ≡ []
nothing_left None = refl
nothing_left (Some m) = refl
