-- The texts of `__print_hex` and `__print_array`.
use Rattle.std.specs.Prelude.{ℕ, zero, suc, ℤ, pos, negsuc, Bool, nat_le, if◌then◌else◌, List, [], ◌∷◌, ◌++◌, length, take, drop, map, codes}
use Rattle.trace_base.specs.declared.order.Order.{Order}
use Rattle.trace_base.specs.Number.{num}
use Rattle.trace_base.specs.Fields.{is_size}
use Rattle.trace_base.specs.Digits.{two_digits}
use Rattle.fmt_eval.specs.Pieces.{join, join_behind, hexadecimal}

-- how many a number asks for
abbrev pub count_of : ℤ → ℕ
count_of (pos n) = n
count_of (negsuc n) = 0

-- at most so many bytes, two digits each
abbrev pub hex_text : ℤ → List ℕ → List ℕ
hex_text count bytes = join (codes " ") (map two_digits (take (count_of count) bytes))

-- the first numbers of so many bytes each, at most so many, as far as they are whole
unfoldable pub elements : ℕ → Order → ℕ → List ℕ → List ℕ
elements zero order size bytes = []
elements (suc count) order size bytes = if nat_le size (length bytes) then num order (take size bytes) ∷ elements count order size (drop size bytes) else []

-- the elements, joined; none where the size is none of 1, 2, 4 and 8
unfoldable pub elements_text : Order → ℕ → ℕ → List ℕ → List ℕ
elements_text order count size bytes = if is_size size then join (codes ",") (map hexadecimal (elements count order size bytes)) else []

abbrev pub array_text : Order → ℤ → ℤ → List ℕ → List ℕ
array_text order count size bytes = codes "{" ++ (elements_text order (count_of count) (count_of size) bytes ++ codes "}")

-- the elements that are still to come
unfoldable pub elements_from : Bool → ℕ → Order → ℕ → List ℕ → List ℕ
elements_from some count order size bytes = join_behind some (codes ",") (map hexadecimal (elements count order size bytes))
