-- The header of a generated file.
-- Source: trace-cmd.dat.v6(5) for its items, events.rst for the format's text; the values are this project's.
use Rattle.std.specs.Prelude.{ℕ, List, [], ◌∷◌, ◌++◌, map, codes, None, refl}
use Rattle.std.specs.List.{flat_map, range_with_len}
use Rattle.std.specs.Fmt.{decimal}
use Rattle.trace_base.specs.Allowed.{allowed_is}
use Rattle.trace_base.specs.Layout.{plain_layout}
use Rattle.trace_base.specs.declared.layout.Layout.{Layout}
use Rattle.trace_base.specs.declared.order.Order.TheVariants.{Little}
use Rattle.dat_header.specs.declared.header.Header.{Header}
use Rattle.dat_header.specs.declared.header.Body.TheVariants.{Latency}

-- lines, each with its newline
abbrev pub text_of_lines : List (List ℕ) → List ℕ
text_of_lines lines = flat_map (λ line. line ++ codes "\n") lines

-- the text of the one event format
abbrev pub format_text : List ℕ
format_text = text_of_lines (
    codes "name: step"
    ∷ codes "ID: 900"
    ∷ codes "format:"
    ∷ codes "\tfield:unsigned short common_type;\toffset:0;\tsize:2;\tsigned:0;"
    ∷ codes "\tfield:unsigned char common_flags;\toffset:2;\tsize:1;\tsigned:0;"
    ∷ codes "\tfield:unsigned char common_preempt_count;\toffset:3;\tsize:1;\tsigned:0;"
    ∷ codes "\tfield:int common_pid;\toffset:4;\tsize:4;\tsigned:1;"
    ∷ []
    ∷ codes "\tfield:u32 value;\toffset:8;\tsize:4;\tsigned:0;"
    ∷ codes "\tfield:u32 mask;\toffset:12;\tsize:4;\tsigned:0;"
    ∷ []
    ∷ codes "print fmt: \"value=%u mask=%s\", REC->value, __print_flags(REC->mask, \"|\", { 1, \"A\" }, { 2, \"B\" }, { 4, \"C\" })"
    ∷ [])

-- a pid and the name of its task
abbrev pub task_line : ℕ → List ℕ
task_line pid = decimal pid ++ (codes " task-" ++ decimal pid)

abbrev pub task_lines : List (List ℕ)
task_lines = map task_line (range_with_len 1 99)

abbrev pub generated_layout : Layout
generated_layout = plain_layout Little 8 4096 (allowed_is 0 8 8 16 4096 refl)

-- the header, but for its own length and the table of the processors' parts, in whose place another body stands
abbrev pub header_but_parts : Header
header_but_parts = record {
  order = Little;
  long = 8;
  page = 4096;
  layout = generated_layout;
  page_text = [];
  event_text = [];
  ftrace = [];
  systems = record { name = codes "selftest"; formats = format_text ∷ [] } ∷ [];
  kallsyms = [];
  printk = [];
  cmdlines = text_of_lines task_lines;
  cpus = 4;
  options = None;
  body = Latency;
  end = 0;
}
