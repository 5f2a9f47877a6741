-- The items of a header read from a place of the file on, each with the place after it or with what is wrong.
use Rattle.std.specs.Prelude.{ℕ, zero, suc, ◌+◌, ◌==◌, ◌||◌, nat_lt, List, [], ◌∷◌, length, take, drop, Option, Some, None, Result, Ok, Err, if◌then◌else◌}
use Rattle.std.specs.Option.{option_map}
use Rattle.std.specs.List.{list_any}
use Rattle.std.specs.Str.{bytes_eq}
use Rattle.trace_base.specs.Number.{num}
use Rattle.trace_base.specs.declared.order.Order.{Order}
use Rattle.trace_base.specs.declared.order.Order.TheVariants.{Little, Big}
use Rattle.dat_options.specs.declared.fault.OpenFault.{OpenFault}
use Rattle.dat_options.specs.declared.fault.OpenFault.TheVariants.{Truncated}
use Rattle.dat_header.specs.declared.header.System.{System}
use Rattle.dat_header.specs.Found.{Found, ◌>>=◌, or_wrong}
use Rattle.dat_header.specs.Refusal.{begins_with, word_fault}

-- the place after a word, where these bytes are there of it in a file of that size
abbrev pub word_in : List ℕ → OpenFault → List ℕ → ℕ → ℕ → Result ℕ OpenFault
word_in word wrong there at size =
    if bytes_eq there word then Ok (at + length word)
    else if begins_with word there then Err (Truncated size)
    else Err wrong

-- a word that has to stand there
unfoldable pub word_at : List ℕ → OpenFault → List ℕ → ℕ → Result ℕ OpenFault
word_at word wrong file at =
    if begins_with (drop at file) word then Ok (at + length word)
    else Err (word_fault (word ∷ []) wrong (drop at file) (length file))

-- so many bytes
unfoldable pub bytes_at : ℕ → List ℕ → ℕ → Found (List ℕ)
bytes_at size file at =
    if nat_lt (length (drop at file)) size then Err (Truncated (length file))
    else Ok (take size (drop at file), at + size)

unfoldable pub number_at : ℕ → Order → List ℕ → ℕ → Found ℕ
number_at width order file at = do
  (bytes, after) ← bytes_at width file at
  Ok (num order bytes, after)

abbrev pub order_of : ℕ → Option Order
order_of byte = if byte == 0 then Some Little else if byte == 1 then Some Big else None

abbrev pub long_of : ℕ → Option ℕ
long_of byte = if byte == 4 || byte == 8 then Some byte else None

abbrev pub page_of : ℕ → Option ℕ
page_of number = if list_any (λ size. number == size) (4096 ∷ 8192 ∷ 16384 ∷ 32768 ∷ 65536 ∷ []) then Some number else None

abbrev pub cpus_of : ℕ → Option ℕ
cpus_of number = if nat_lt 1024 number then None else Some number

-- a number that has to stand for a value
unfoldable pub value_at : {V : Type 0} → ℕ → Order → (ℕ → Option V) → OpenFault → List ℕ → ℕ → Found V
value_at width order value_of wrong file at = do
  (number, after) ← number_at width order file at
  value ← or_wrong wrong (value_of number)
  Ok (value, after)

-- a text, preceded by its size
unfoldable pub text_at : ℕ → Order → List ℕ → ℕ → Found (List ℕ)
text_at width order file at = do
  (size, after) ← number_at width order file at
  bytes_at size file after

-- so many items of a kind, one after another
unfoldable pub row_at : {V : Type 0} → (List ℕ → ℕ → Found V) → ℕ → List ℕ → ℕ → Found (List V)
row_at item_at zero file at = Ok ([], at)
row_at item_at (suc count) file at = do
  (item, after) ← item_at file at
  (items, end) ← row_at item_at count file after
  Ok (item ∷ items, end)

-- so many texts, each preceded by its 64-bit size
abbrev pub texts_at : ℕ → Order → List ℕ → ℕ → Found (List (List ℕ))
texts_at count order file at = row_at (text_at 8 order) count file at

-- texts, preceded by their number
unfoldable pub formats_at : Order → List ℕ → ℕ → Found (List (List ℕ))
formats_at order file at = do
  (count, after) ← number_at 4 order file at
  texts_at count order file after

-- what stands before the first NUL
abbrev pub before_nul : List ℕ → Option (List ℕ)
before_nul [] = None
before_nul (byte ∷ bytes) = if byte == 0 then Some [] else option_map (λ name. byte ∷ name) (before_nul bytes)

-- a name and NUL
unfoldable pub name_at : List ℕ → ℕ → Found (List ℕ)
name_at file at = do
  name ← or_wrong (Truncated (length file)) (before_nul (drop at file))
  Ok (name, at + length name + 1)

unfoldable pub system_at : Order → List ℕ → ℕ → Found System
system_at order file at = do
  (name, named) ← name_at file at
  (formats, after) ← formats_at order file named
  Ok (record { name = name; formats = formats }, after)

abbrev pub each_system_at : ℕ → Order → List ℕ → ℕ → Found (List System)
each_system_at count order file at = row_at (system_at order) count file at

-- systems, preceded by their number
unfoldable pub systems_at : Order → List ℕ → ℕ → Found (List System)
systems_at order file at = do
  (count, after) ← number_at 4 order file at
  each_system_at count order file after
