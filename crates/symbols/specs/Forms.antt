-- The name that a line gives, computed from the left, and the names that the lines of a text give.
use Rattle.std.specs.Prelude.{ℕ, ◌-◌, ◌^◌, Bool, ◌&&◌, ◌==◌, nat_lt, nat_le, if◌then◌else◌, List, length, take, drop, slice_index, codes, Option, Some, None}
use Rattle.std.specs.List.{prefix_len, filter_map}
use Rattle.std.specs.Option.{option_map, unwrap_or}
use Rattle.std.specs.Char.{is_digit, is_ascii_alphabetic}
use Rattle.std.specs.Str.Parse.{digits_value}
use Rattle.trace_base.specs.FieldLine.{decimal}
use Rattle.trace_base.specs.FieldReading.{after_word}
use Rattle.trace_base.specs.OptionSteps.{◌>>=◌}
use Rattle.symbols.specs.NameMap.{Pair}
use Rattle.symbols.specs.LineForms.{is_hexadecimal, in_name}
use Rattle.symbols.specs.declared.lines.Form.{Form}
use Rattle.symbols.specs.declared.lines.Form.TheVariants.{Kallsyms, Printk, Tasks}

abbrev pub is_decimal_digit : ℕ → Bool
is_decimal_digit byte = is_digit byte 10

-- an address of 1 to 16 digits, and what follows it
unfoldable pub address_at : List ℕ → Option Pair
address_at text =
    let count = prefix_len is_hexadecimal text in
    if nat_lt 0 count && nat_le count 16 then Some (digits_value 16 (take count text), drop count text) else None

-- a decimal number, and what follows it
unfoldable pub leading_number : List ℕ → Option Pair
leading_number text = let count = prefix_len is_decimal_digit text in option_map (λ n. (n, drop count text)) (decimal (take count text))

-- what follows one letter and a space
unfoldable pub after_letter : List ℕ → Option (List ℕ)
after_letter text = if nat_le 2 (length text) && is_ascii_alphabetic (slice_index text 0) && (slice_index text 1 == 32) then Some (drop 2 text) else None

-- the symbol that a line of kallsyms gives
unfoldable pub symbol_line : List ℕ → Option Pair
symbol_line line = do
  address ← address_at line
  rest ← after_word (codes " ") address.1
  name ← after_letter rest
  Some (address.0, take (prefix_len in_name name) name)

-- a text without the quotation mark that ends it
unfoldable pub unquoted : List ℕ → Option (List ℕ)
unquoted text = if nat_lt 0 (length text) && (slice_index text (length text - 1) == 34) then Some (take (length text - 1) text) else None

unfoldable pub without_prefix : List ℕ → List ℕ
without_prefix text = unwrap_or (after_word (codes "0x") text) text

-- the text that a line of printk formats gives
unfoldable pub printk_line : List ℕ → Option Pair
printk_line line = do
  address ← address_at (without_prefix line)
  rest ← after_word (codes " : \"") address.1
  text ← unquoted rest
  Some (address.0, text)

-- the task that a saved command line gives
unfoldable pub task_line : List ℕ → Option Pair
task_line line = do
  pid ← leading_number line
  name ← after_word (codes " ") pid.1
  if nat_lt pid.0 (2 ^ 31) && nat_lt 0 (length name) then Some (pid.0, name) else None

abbrev pub line_in : Form → List ℕ → Option Pair
line_in Kallsyms line = symbol_line line
line_in Printk line = printk_line line
line_in Tasks line = task_line line

-- the names that lines give; lines of another form are passed over
abbrev pub pairs_in : Form → List (List ℕ) → List Pair
pairs_in form lines = filter_map (line_in form) lines
