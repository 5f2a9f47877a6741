-- What holds of the definitions of a header.
use Rattle.std.specs.Prelude.{◌≡◌, ◌↔◌, List, ℕ, ◌++◌, Ok, Err}
use Rattle.dat_options.specs.Place.{AreBytes}
use Rattle.dat_options.specs.declared.fault.OpenFault.{OpenFault}
use Rattle.dat_header.specs.declared.header.Header.{Header}
use Rattle.dat_header.specs.Spelling.{SpellsHeader, HasHeader, BeginsWith}
use Rattle.dat_header.specs.Refusal.{Refuses}
use Rattle.dat_header.specs.Header.{header_of, IsRefusal}

-- No header's spelling begins with another header's spelling.
abbrev pub SpellingsDiffer : Type 0
SpellingsDiffer = (header other : Header) (bytes more : List ℕ) → SpellsHeader header bytes → SpellsHeader other more → BeginsWith more bytes → header ≡ other

-- A file has at most one header.
abbrev pub OneHeader : Type 0
OneHeader = (file : List ℕ) (header other : Header) → HasHeader file header → HasHeader file other → header ≡ other

-- What spells a header is read as that header, whatever follows it.
abbrev pub ReadsBack : Type 0
ReadsBack = (header : Header) (bytes rest : List ℕ) → SpellsHeader header bytes → header_of (bytes ++ rest) ≡ Ok header

-- The computed header is the one that the file has.
abbrev pub ComputesHeader : Type 0
ComputesHeader = (file : List ℕ) (header : Header) → AreBytes file → header_of file ≡ Ok header ↔ HasHeader file header

-- The computed fault is the refusal of the file.
abbrev pub ComputesRefusal : Type 0
ComputesRefusal = (file : List ℕ) (fault : OpenFault) → AreBytes file → header_of file ≡ Err fault ↔ Refuses file fault

-- A refusal is never a fault of reading or a want of memory.
abbrev pub RefusesByBytes : Type 0
RefusesByBytes = (file : List ℕ) (fault : OpenFault) → Refuses file fault → IsRefusal fault
