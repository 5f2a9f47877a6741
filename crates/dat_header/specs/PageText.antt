-- The layout that a header_page text gives to the file's sub-buffers.
-- Source: trace-cmd.dat.v6(5), `header_page`; the text is the kernel's events/header_page.
use Rattle.std.specs.Prelude.{◌+◌, ◌==◌, ◌&&◌, Bool, ℕ, nat_le, count_ones, List, [], ◌∷◌, Option, None, if◌then◌else◌, codes}
use Rattle.std.specs.List.{find, filter_map}
use Rattle.std.specs.Str.{bytes_eq}
use Rattle.trace_base.specs.FieldLine.{FieldData}
use Rattle.trace_base.specs.FieldReading.{field_line}
use Rattle.trace_base.specs.OptionSteps.{◌>>=◌}
use Rattle.text_lines.specs.Lines.{lines_of}
use Rattle.trace_base.specs.declared.order.Order.{Order}
use Rattle.trace_base.specs.declared.layout.Layout.{Layout}
use Rattle.trace_base.specs.Layout.{layout_with}

-- the field lines of a text
abbrev pub field_lines : List ℕ → List FieldData
field_lines text = filter_map field_line (lines_of text)

-- the first line of a name counts
abbrev pub line_named : List ℕ → List FieldData → Option FieldData
line_named name lines = find (λ line. bytes_eq line.declaration.name name) lines

-- a sub-buffer has at least a page and at most 262,144 bytes, and their number is a power of two: one bit of it is set
abbrev pub is_sub_buffer_size : ℕ → ℕ → Bool
is_sub_buffer_size page size = nat_le page size && nat_le size 262144 && count_ones size == 1

-- the layout by these three lines, with a timestamp of 64 bits and data that end with the sub-buffer
abbrev pub layout_by : Order → ℕ → FieldData → FieldData → FieldData → Option Layout
layout_by order page time commit content =
    let size = content.offset + content.size in
    if time.size == 8 && is_sub_buffer_size page size then layout_with order time.offset commit.offset commit.size content.offset size else None

abbrev pub layout_by_lines : Order → ℕ → List FieldData → Option Layout
layout_by_lines order page lines = do
  time ← line_named (codes "timestamp") lines
  commit ← line_named (codes "commit") lines
  content ← line_named (codes "data") lines
  layout_by order page time commit content

-- the layout of a file with this order, user's long, page size and header_page text; an empty text stands for
-- the plain one, whose sub-buffers have the page's size
unfoldable pub layout_of : Order → ℕ → ℕ → List ℕ → Option Layout
layout_of order long page [] = layout_with order 0 8 long (8 + long) page
layout_of order long page (byte ∷ text) = layout_by_lines order page (field_lines (byte ∷ text))
