-- The bytes that spell a header, and the header that a file has.
-- Source: trace-cmd.dat.v6(5).
use Rattle.std.specs.Prelude.{◌≡◌, ℕ, List, ◌++◌, length}
use Rattle.dat_header.specs.declared.header.Header.{Header}
use Rattle.dat_header.specs.Allowed.{IsHeader}
use Rattle.dat_header.specs.Items.{items, text}

-- the file begins with these bytes
abbrev pub BeginsWith : List ℕ → List ℕ → Type 0
BeginsWith file bytes = (rest : List ℕ) × (file ≡ bytes ++ rest)

-- the bytes are the header's items, one after another, and the header says how many they are
pub record SpellsHeader (header : Header) (bytes : List ℕ) : Type 0 where
  pub allowed : IsHeader header
  pub joined : bytes ≡ text (items header)
  pub ends : header.end ≡ length bytes

-- the file begins with a spelling of the header
abbrev pub HasHeader : List ℕ → Header → Type 0
HasHeader file header = (bytes : List ℕ) × SpellsHeader header bytes × BeginsWith file bytes
