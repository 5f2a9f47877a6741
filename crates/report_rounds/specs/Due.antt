-- Which sub-buffers a report may have read by the time that it has written a text.
use Rattle.std.specs.Prelude.{◌≤◌, ℕ, zero, suc, ◌*◌, Bool, true, not, ◌&&◌, nat_eq, nat_le, ◌==◌, if◌then◌else◌, List, length, take, drop, filter, count_by, sum_by, Option, Some, None}
use Rattle.std.specs.List.{range_with_len, starts_with}
use Rattle.trace_base.specs.declared.layout.Layout.{Layout}
use Rattle.trace_base.specs.declared.part.Part.{Part}
use Rattle.trace_outside.specs.Causes.{raised}
use Rattle.trace_outside.specs.Writing.{Gained}
use Rattle.subpage.specs.ItemData.{ItemData}
use Rattle.subpage.specs.Processor.{is_there, page_count, pages_from, joined, bad_of}
use Rattle.subpage.specs.Cut.{reached_of}
use Rattle.line_holes.specs.Holes.{LineText}
use Rattle.page_pool.specs.Limits.{most_lines}
use Rattle.round_print.specs.Prints.{CpuLine, filled_text}
use Rattle.report_rounds.specs.Lines.{shown_lines}

-- the pieces of a report: the lines of the reached items, without the empty ones
abbrev pub pieces_of : (ℕ → ItemData → LineText) → Layout → List ℕ → List (ℕ × Part) → List CpuLine
pieces_of text layout file parts = shown_lines text (reached_of layout file parts)

-- the greatest number up to n that passes, or 0
abbrev pub greatest_up_to : ℕ → (ℕ → Bool) → ℕ
greatest_up_to zero passes = 0
greatest_up_to (suc n) passes = if passes (suc n) then suc n else greatest_up_to n passes

-- how many of the first pieces, filled and joined, a text begins with, at most
abbrev pub whole_pieces : List CpuLine → List ℕ → ℕ
whole_pieces pieces written =
    greatest_up_to (length pieces) (λ w. starts_with nat_eq written (filled_text None (take w pieces)))

-- the pieces that were written whole
abbrev pub written_pieces : List CpuLine → List ℕ → List CpuLine
written_pieces pieces written = take (whole_pieces pieces written) pieces

abbrev pub has_line : (ℕ → ItemData → LineText) → ℕ → ItemData → Bool
has_line text cpu item = not (length (text cpu item).bytes == 0)

abbrev pub is_of : ℕ → CpuLine → Bool
is_of cpu line = line.cpu == cpu

-- the items of the part's sub-buffers before sub-buffer k
abbrev pub items_before : Layout → List ℕ → Part → ℕ → List ItemData
items_before layout file part k = joined (pages_from layout file part 0 k)

-- Those of them that have a line, without the items of the written pieces. A processor's pieces stand in the order of
-- its items, so that these are the first ones.
abbrev pub unwritten_before : (ℕ → ItemData → LineText) → Layout → List ℕ → List CpuLine → ℕ × Part → ℕ → List ItemData
unwritten_before text layout file written part k =
    drop (count_by (is_of part.0) written) (filter (has_line text part.0) (items_before layout file part.1 k))

-- whether none before sub-buffer k is malformed, by the first that is
abbrev pub none_before : Option ℕ → ℕ → Bool
none_before None k = true
none_before (Some bad) k = nat_le k bad

-- Sub-buffer k of a processor is due where it is there, no sub-buffer of the processor before it is malformed, and no
-- more lines of those before it are unwritten than a region keeps.
abbrev pub is_page_due : (ℕ → ItemData → LineText) → Layout → List ℕ → List CpuLine → ℕ × Part → ℕ → Bool
is_page_due text layout file written part k =
    is_there layout file part.1 k
    && none_before (bad_of layout file part.1) k
    && nat_le (length (unwritten_before text layout file written part k)) most_lines

-- how many of a processor's sub-buffers are due
abbrev pub due_count : (ℕ → ItemData → LineText) → Layout → List ℕ → List CpuLine → ℕ × Part → ℕ
due_count text layout file written part =
    count_by (is_page_due text layout file written part) (range_with_len 0 (page_count layout part.1))

-- the bytes of the sub-buffers of these processors that are due by a text
unfoldable pub due_bytes : (ℕ → ItemData → LineText) → Layout → List ℕ → List (ℕ × Part) → List ℕ → ℕ
due_bytes text layout file parts written =
    layout.page * sum_by (due_count text layout file (written_pieces (pieces_of text layout file parts) written)) parts

-- no more bytes were read than are due by the text that the sink gained
abbrev pub ReadsDue : (ℕ → ItemData → LineText) → Layout → List ℕ → List (ℕ × Part) → Option (List ℕ) → Option (List ℕ) → ℕ → ℕ → Type 0
ReadsDue text layout file parts old new before now =
    (written : List ℕ) × (Gained old new written × (now ≤ raised before (due_bytes text layout file parts written)))
