-- A new file of a split: its bytes, and what is read from it.
-- Source: trace-cmd.dat.v6(5), flyrecord: the processors' data stand after the header, from a multiple of the page size on.
use Rattle.std.specs.Prelude.{◌≡◌, ℕ, ◌+◌, ◌-◌, List, [], ◌∷◌, ◌++◌, map, length, Ok, None}
use Rattle.std.specs.List.{All}
use Rattle.trace_base.specs.declared.part.Part.{Part}
use Rattle.dat_header.specs.declared.header.Header.{Header}
use Rattle.dat_header.specs.Header.{header_of}
use Rattle.dat_header.specs.Spelling.{HasHeader}
use Rattle.dat_header.specs.Tables.{blank}
use Rattle.dat_header.specs.Written.{header_text, written}
use Rattle.new_files.specs.Padding.{up_to_page}
use Rattle.subpage.specs.ItemData.{ItemData}
use Rattle.subpage.specs.Processor.{list_of, bad_of}
use Rattle.page_write.specs.Record.{zeros}
use Rattle.page_write.specs.Placed.{parts_from, data_of}

-- the place of the first sub-buffer: a header is as long whatever its table says
unfoldable pub front_len : Header → ℕ
front_len header = up_to_page header.page (length (header_text header (blank header.cpus)))

-- the header with this table, and zero bytes up to the first sub-buffer
unfoldable pub front_text : Header → List Part → List ℕ
front_text header parts = header_text header parts ++ zeros (front_len header - length (header_text header parts))

-- the parts of the processors' items, each packed after those of the processor before
unfoldable pub table_of : Header → List (List ItemData) → List Part
table_of header lists = parts_from header.layout (front_len header) lists

-- the very bytes
unfoldable pub file_text : Header → List (List ItemData) → List ℕ
file_text header lists = front_text header (table_of header lists) ++ data_of header.layout lists

-- The parts stand one after another from the first place up to the second.
abbrev pub StandInRow : ℕ → List Part → ℕ → Type 0
StandInRow from [] to = from ≡ to
StandInRow from (part ∷ parts) to = (part.offset ≡ from) × StandInRow (from + part.size) parts to

-- The bytes have the header, with a table of their own and their own length of it; by that table each processor has just
-- its list, and no sub-buffer is malformed. Zero bytes follow the header up to a multiple of the page size, and from
-- there on nothing but the parts, in order of processors. How the items are packed is not said.
pub record ReadsBack (header : Header) (lists : List (List ItemData)) (bytes : List ℕ) : Type 0 where
  pub parts : List Part
  pub header_is : HasHeader bytes (written header parts)
  pub computed : header_of bytes ≡ Ok (written header parts)
  pub items_are : map (list_of header.layout bytes) parts ≡ lists
  pub sound : All (λ part. bad_of header.layout bytes part ≡ None) parts
  pub packed : List ℕ
  pub behind : bytes ≡ front_text header parts ++ packed
  pub in_row : StandInRow (up_to_page header.page (length (header_text header parts))) parts (length bytes)
