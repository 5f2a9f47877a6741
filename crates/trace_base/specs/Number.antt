-- The number that bytes spell in a byte order, and the bytes that spell a number.
-- Source: trace-cmd.dat.v6(5), where each number is in the order that the file's head names.
use Rattle.std.specs.Prelude.{ℕ, zero, suc, ◌+◌, ◌*◌, ◌/◌, ◌%◌, List, [], ◌∷◌, reverse}
use Rattle.trace_base.specs.declared.order.Order.{Order}
use Rattle.trace_base.specs.declared.order.Order.TheVariants.{Little, Big}

-- the lowest byte first: the sum of each byte times a power of 256
abbrev pub low_first : List ℕ → ℕ
low_first [] = 0
low_first (byte ∷ bytes) = byte + 256 * low_first bytes

abbrev pub num : Order → List ℕ → ℕ
num Little bytes = low_first bytes
num Big bytes = low_first (reverse bytes)

-- so many bytes of a number, the lowest first
abbrev pub low_bytes : ℕ → ℕ → List ℕ
low_bytes zero n = []
low_bytes (suc count) n = n % 256 ∷ low_bytes count (n / 256)

abbrev pub bytes_of : Order → ℕ → ℕ → List ℕ
bytes_of Little count n = low_bytes count n
bytes_of Big count n = reverse (low_bytes count n)
