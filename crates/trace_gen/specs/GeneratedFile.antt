-- A generated file, by what is read from it and by its bytes.
use Rattle.std.specs.Prelude.{◌≡◌, ℕ, ◌-◌, List, ◌++◌, map, length, Ok, None}
use Rattle.std.specs.List.{All}
use Rattle.trace_base.specs.declared.part.Part.{Part}
use Rattle.dat_header.specs.Header.{header_of}
use Rattle.dat_header.specs.Spelling.{HasHeader}
use Rattle.dat_header.specs.Written.{header_text, written}
use Rattle.subpage.specs.Processor.{list_of, bad_of}
use Rattle.page_write.specs.Record.{zeros}
use Rattle.page_write.specs.Placed.{parts_from, data_of}
use Rattle.trace_gen.specs.Generated.{lists_of}
use Rattle.trace_gen.specs.GeneratedHeader.{generated_layout, header_but_parts}

-- The bytes have the generated header with some table, by which each processor has just its generated events, and no
-- sub-buffer is malformed. How these are packed is not said.
pub record IsGenerated (seed events : ℕ) (bytes : List ℕ) : Type 0 where
  pub parts : List Part
  pub header : HasHeader bytes (written header_but_parts parts)
  pub header_is : header_of bytes ≡ Ok (written header_but_parts parts)
  pub lists : map (list_of generated_layout bytes) parts ≡ lists_of seed events
  pub sound : All (λ part. bad_of generated_layout bytes part ≡ None) parts

-- the place of the first sub-buffer: the first page after the header
abbrev pub front_len : ℕ
front_len = 4096

abbrev pub generated_parts : ℕ → ℕ → List Part
generated_parts seed events = parts_from generated_layout front_len (lists_of seed events)

-- The very bytes: the header, zero bytes up to the first sub-buffer, and the processors' sub-buffers.
unfoldable pub front_text : ℕ → ℕ → List ℕ
front_text seed events =
    let header = header_text header_but_parts (generated_parts seed events) in
    header ++ zeros (front_len - length header)

unfoldable pub file_text : ℕ → ℕ → List ℕ
file_text seed events = front_text seed events ++ data_of generated_layout (lists_of seed events)
