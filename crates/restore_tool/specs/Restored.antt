-- A trace file that is made of a header and one data file a processor.
-- Source: trace-cmd-restore(1); trace-cmd.dat.v6(5), flyrecord: the processors' data stand after the header, each from a multiple
-- of the page size on.
use Rattle.std.specs.Prelude.{◌≡◌, ℕ, ◌+◌, ◌-◌, List, [], ◌∷◌, ◌++◌, length, map, take, drop}
use Rattle.trace_base.specs.declared.part.Part.{Part}
use Rattle.trace_base.specs.Parts.{part_of}
use Rattle.dat_header.specs.declared.header.Header.{Header}
use Rattle.dat_header.specs.declared.header.Body.TheVariants.{Fly}
use Rattle.dat_header.specs.Spelling.{HasHeader}
use Rattle.dat_header.specs.Tables.{blank}
use Rattle.dat_header.specs.Written.{header_text, written}
use Rattle.new_files.specs.Padding.{up_to_page, zeros}

-- the parts of data files of these lengths, after a place: each from the next multiple of the page on, its numbers modulo 2^64
abbrev pub parts_behind : ℕ → ℕ → List ℕ → List Part
parts_behind page place [] = []
parts_behind page place (size ∷ sizes) =
    part_of (up_to_page page place) size ∷ parts_behind page (up_to_page page place + size) sizes

-- zero bytes up to the next multiple of the page and the data file's bytes, one file after another
abbrev pub data_behind : ℕ → ℕ → List (List ℕ) → List ℕ
data_behind page place [] = []
data_behind page place (file ∷ files) =
    zeros (up_to_page page place - place) ++ (file ++ data_behind page (up_to_page page place + length file) files)

-- the place after data files of these lengths
abbrev pub end_behind : ℕ → ℕ → List ℕ → ℕ
end_behind page place [] = place
end_behind page place (size ∷ sizes) = end_behind page (up_to_page page place + size) sizes

-- the place after the header, which is as long whatever its table tells
unfoldable pub header_end : Header → ℕ
header_end header = length (header_text header (blank header.cpus))

-- the table of the data files
abbrev pub table_of : Header → List (List ℕ) → List Part
table_of header files = parts_behind header.page (header_end header) (map length files)

-- the very bytes
unfoldable pub restored : Header → List (List ℕ) → List ℕ
restored header files = header_text header (table_of header files) ++ data_behind header.page (header_end header) files

-- a header for so many processors, before their parts are known
abbrev pub for_processors : Header → ℕ → Header
for_processors header cpus = record header { cpus = cpus; body = Fly (blank cpus) }

-- The bytes have the header, with a table of its own and its own length of it, and after it nothing but the data files, each at
-- the next multiple of the page; by the table the part of each processor is its data file.
pub record IsRestored (header : Header) (files : List (List ℕ)) (bytes : List ℕ) : Type 0 where
  pub parts : List Part
  pub header_is : HasHeader bytes (written header parts)
  pub placed : parts ≡ parts_behind header.page (length (header_text header parts)) (map length files)
  pub behind : bytes ≡ header_text header parts ++ data_behind header.page (length (header_text header parts)) files
  pub given : map (λ part. take part.size (drop part.offset bytes)) parts ≡ files
