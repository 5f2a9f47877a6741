-- The lines that name an address or a task.
-- Sources: proc_kallsyms(5), an address, a letter for the symbol's type and a name, with the module after a tab; the kernel's
-- printk_formats and saved_cmdlines of tracefs, which trace-cmd.dat.v6(5) stores.
use Rattle.std.specs.Prelude.{◌≡◌, ◌⊎◌, ℕ, ◌^◌, ◌<◌, ◌≤◌, Bool, true, false, not, ◌&&◌, ◌==◌, List, [], ◌∷◌, ◌++◌, length, codes, Some}
use Rattle.std.specs.List.{list_all}
use Rattle.std.specs.Char.{is_digit, is_ascii_alphabetic}
use Rattle.std.specs.Str.Parse.{digits_value}
use Rattle.trace_base.specs.FieldLine.{decimal}
use Rattle.symbols.specs.NameMap.{Pair}

abbrev pub is_hexadecimal : ℕ → Bool
is_hexadecimal byte = is_digit byte 16

-- a name ends before a tab or a space
abbrev pub in_name : ℕ → Bool
in_name byte = not (byte == 9) && not (byte == 32)

-- an address of 64 bits: 1 to 16 hexadecimal digits, with letters of either case
pub record IsAddress (digits : List ℕ) (address : ℕ) : Type 0 where
  pub digit : list_all is_hexadecimal digits ≡ true
  pub some : 0 < length digits
  pub few : length digits ≤ 16
  pub value : digits_value 16 digits ≡ address

-- half of an address that is written in full: eight digits, with letters of either case
pub record IsHalf (digits : List ℕ) (half : ℕ) : Type 0 where
  pub digit : list_all is_hexadecimal digits ≡ true
  pub value : digits_value 16 digits ≡ half
  pub fits : half < 2 ^ 32

-- the text is empty or its first byte does not pass
abbrev pub BeginsOutside : (ℕ → Bool) → List ℕ → Type 0
BeginsOutside test text = (first : ℕ) (rest : List ℕ) → text ≡ first ∷ rest → test first ≡ false

-- a line of kallsyms: an address, one letter, and a name, which may be empty
pub record IsSymbolLine (line : List ℕ) (symbol : Pair) : Type 0 where
  pub digits : List ℕ
  pub letter : ℕ
  pub behind : List ℕ
  pub whole : line ≡ digits ++ (codes " " ++ (letter ∷ (codes " " ++ (symbol.1 ++ behind))))
  pub address_is : IsAddress digits symbol.0
  pub letter_is : is_ascii_alphabetic letter ≡ true
  pub name_is : list_all in_name symbol.1 ≡ true
  pub name_ends : BeginsOutside in_name behind

-- a line of printk formats: an address, with `0x` or without, and a text in quotation marks, whose escapes stand as they are
pub record IsPrintkLine (line : List ℕ) (format : Pair) : Type 0 where
  pub prefix : List ℕ
  pub digits : List ℕ
  pub whole : line ≡ prefix ++ (digits ++ (codes " : \"" ++ (format.1 ++ codes "\"")))
  pub prefix_is : (prefix ≡ []) ⊎ (prefix ≡ codes "0x")
  pub address_is : IsAddress digits format.0

-- a line of saved command lines: a pid, which is a positive number of 32 bits with a sign, and a name, which is not empty
pub record IsTaskLine (line : List ℕ) (task : Pair) : Type 0 where
  pub digits : List ℕ
  pub whole : line ≡ digits ++ (codes " " ++ task.1)
  pub pid_is : decimal digits ≡ Some task.0
  pub pid_fits : task.0 < 2 ^ 31
  pub named : 0 < length task.1
