-- The elements of a sub-buffer, and the bytes that spell them.
-- Source: the kernel's ring_buffer.h (`enum ring_buffer_type`, `struct ring_buffer_event`), trace-cmd.dat.v6(5).
-- That a length below 4 is none, that a length is filled up to whole words, and that a discarded record counts its
-- delta are choices of this project where these sources are silent.
use Rattle.std.specs.Prelude.{◌≡◌, ℕ, ◌+◌, ◌-◌, ◌*◌, ◌/◌, ◌%◌, ◌^◌, ◌<◌, ◌≤◌, List, [], ◌∷◌, ◌++◌, length}
use Rattle.trace_base.specs.declared.order.Order.{Order}
use Rattle.trace_base.specs.declared.order.Order.TheVariants.{Little, Big}
use Rattle.trace_base.specs.Number.{num}

-- One element, without the lengths and the padding that its spelling has.
pub data ElementData : Type 0 where
  Event : (delta : ℕ) (payload : List ℕ) → ElementData
  End : ElementData
  Discarded : (delta : ℕ) → ElementData
  Extend : (delta : ℕ) → ElementData
  Stamp : (time : ℕ) → ElementData

-- The two parts of an element's first word: five bits that name its kind, and 27 bits.
abbrev pub type_len : Order → ℕ → ℕ
type_len Little word = word % 32
type_len Big word = word / 2 ^ 27 % 32

abbrev pub time_delta : Order → ℕ → ℕ
time_delta Little word = word / 32
time_delta Big word = word % 2 ^ 27

-- the least multiple of four that is not below n
abbrev pub round4 : ℕ → ℕ
round4 n = (n + 3) / 4 * 4

-- four bytes that spell a number
pub record IsWord (order : Order) (bytes : List ℕ) (n : ℕ) : Type 0 where
  pub four : length bytes ≡ 4
  pub number_is : num order bytes ≡ n

-- four bytes that spell the pair of a first word
pub record IsFirstWord (order : Order) (bytes : List ℕ) (kind delta : ℕ) : Type 0 where
  pub four : length bytes ≡ 4
  pub kind_is : type_len order (num order bytes) ≡ kind
  pub delta_is : time_delta order (num order bytes) ≡ delta

-- The table of elements: the bytes spell the element.
pub data Row (order : Order) : ElementData → List ℕ → Type 0 where
  short_event : (first payload : List ℕ) (kind delta : ℕ)
      → IsFirstWord order first kind delta → 1 ≤ kind → kind ≤ 28 → length payload ≡ 4 * kind
      → Row order (Event delta payload) (first ++ payload)
  long_event : (first next payload padding : List ℕ) (delta n : ℕ)
      → IsFirstWord order first 0 delta → IsWord order next n → 4 ≤ n
      → length payload ≡ n - 4 → length (payload ++ padding) ≡ round4 n - 4
      → Row order (Event delta payload) (first ++ (next ++ (payload ++ padding)))
  end : (first padding : List ℕ)
      → IsFirstWord order first 29 0
      → Row order End (first ++ padding)
  discarded : (first next content : List ℕ) (delta n : ℕ)
      → IsFirstWord order first 29 delta → 0 < delta → IsWord order next n → 4 ≤ n
      → length content ≡ round4 n - 4
      → Row order (Discarded delta) (first ++ (next ++ content))
  extend : (first next : List ℕ) (low high : ℕ)
      → IsFirstWord order first 30 low → IsWord order next high
      → Row order (Extend (low + high * 2 ^ 27)) (first ++ next)
  stamp : (first next : List ℕ) (low high : ℕ)
      → IsFirstWord order first 31 low → IsWord order next high → low + high * 2 ^ 27 < 2 ^ 59
      → Row order (Stamp (low + high * 2 ^ 27)) (first ++ next)

-- The bytes are the rows of the elements, one after another, and an end stands only last.
pub data Spelled (order : Order) : List ElementData → List ℕ → Type 0 where
  nothing : Spelled order [] []
  begins_with : (element : ElementData) (others : List ElementData) (front back : List ℕ)
      → Row order element front → (element ≡ End → others ≡ []) → Spelled order others back
      → Spelled order (element ∷ others) (front ++ back)
