-- What is wrong with a file that has no header, and where.
use Rattle.std.specs.Prelude.{◌≡◌, ℕ, ◌+◌, nat_lt, Bool, List, [], ◌∷◌, length, take, drop, slice_get, Some, if◌then◌else◌}
use Rattle.std.specs.List.{list_any}
use Rattle.std.specs.Str.{bytes_eq}
use Rattle.trace_base.specs.Number.{num}
use Rattle.dat_options.specs.declared.fault.OpenFault.{OpenFault}
use Rattle.dat_options.specs.declared.fault.OpenFault.TheVariants.{Compressed, OtherVersion, BadHeaderPage, Truncated}
use Rattle.dat_header.specs.declared.header.Header.{Header}
use Rattle.dat_header.specs.Allowed.{IsHeader}
use Rattle.dat_header.specs.Items.{Item, Kind, word, version, value, page_text, carried, items, text, version_word}
use Rattle.dat_header.specs.Spelling.{BeginsWith}

-- these bytes begin with those
abbrev pub begins_with : List ℕ → List ℕ → Bool
begins_with bytes front = bytes_eq (take (length front) bytes) front

-- the word of version 7, which may be compressed
abbrev pub seventh : List ℕ
seventh = 0x37 ∷ 0 ∷ []

-- the fault of another version, where these bytes are there
abbrev pub version_fault : ℕ → List ℕ → OpenFault
version_fault at there = if begins_with there seventh then Compressed at else OtherVersion at

-- a fixed word is cut where one of the allowed words begins with all that is there, up to the end of a file of that size
abbrev pub word_fault : List (List ℕ) → OpenFault → List ℕ → ℕ → OpenFault
word_fault words wrong there size = if list_any (λ word. begins_with word there) words then Truncated size else wrong

-- what is wrong at a place where no item of this kind stands
abbrev pub fault_at : Kind → List ℕ → ℕ → OpenFault
fault_at (word words wrong) file at = word_fault words (wrong at) (drop at file) (length file)
fault_at version file at = word_fault (version_word ∷ []) (version_fault at (drop at file)) (drop at file) (length file)
fault_at (value size wrong) file at = if nat_lt (length (drop at file)) size then Truncated (length file) else wrong at
fault_at (page_text order) file at =
    if nat_lt (length (drop at file)) 8 then Truncated (length file)
    else if nat_lt (length (drop (at + 8) file)) (num order (take 8 (drop at file))) then Truncated (length file)
    else BadHeaderPage (at + 8)
fault_at carried file at = Truncated (length file)

-- the bytes of a header's first so many items
abbrev pub front : ℕ → Header → List ℕ
front count header = text (take count (items header))

-- the file begins with some header's first few items, and with no header's first few and the next; that one is wrong
pub record Refuses (file : List ℕ) (fault : OpenFault) : Type 0 where
  pub count : ℕ
  pub header : Header
  pub allowed : IsHeader header
  pub begins : BeginsWith file (front count header)
  pub no_more : (other : Header) → IsHeader other → BeginsWith file (front (count + 1) other) → ⊥
  pub item : Item
  pub next : slice_get (items header) count ≡ Some item
  pub is : fault ≡ fault_at item.kind file (length (front count header))
