-- The lines of calls. Source: the samples of the function graph tracer in the kernel's Documentation/trace/ftrace.rst, from
-- which durations, braces and indents are taken; the widths of the columns are this project's own.
use Rattle.std.specs.Prelude.{ℕ, ◌*◌, Bool, false, min, if◌then◌else◌, List, [], ◌++◌, replicate, codes, Option, Some, None, option_map}
use Rattle.std.specs.Fmt.{digits}
use Rattle.line_columns.specs.Columns.{right, duration_text}
use Rattle.symbols.specs.NameMap.{nearest}
use Rattle.report_print.specs.ContextData.{ContextData}
use Rattle.report_print.specs.Ending.{closed}
use Rattle.report_print.specs.Line.{loss_text, prefix_text}
use Rattle.call_pairs.specs.declared.call.Call.{Call}
use Rattle.call_pairs.specs.declared.call.Call.TheVariants.{Entry, Exit, Loss}

-- the column of the duration: right in 12, or empty
abbrev pub duration_column : Option ℕ → List ℕ
duration_column None = replicate 12 32
duration_column (Some nanos) = right 12 (duration_text nanos)

-- two spaces per depth, up to 50
abbrev pub indent_text : ℕ → List ℕ
indent_text depth = replicate (2 * min depth 50) 32

-- the name of the symbol at the greatest address that is at most the function's
abbrev pub name_of : ContextData → ℕ → Option (List ℕ)
name_of given func = option_map (λ found. found.0) (nearest func given.symbols.symbols)

-- a function: its symbol's name, or its address
abbrev pub function_text : ℕ → Option (List ℕ) → List ℕ
function_text func None = codes "0x" ++ digits 16 false func
function_text func (Some name) = name

-- what an entry says, as a leaf or not, and what an exit says, paired or not
abbrev pub entry_word : List ℕ → Option ℕ → List ℕ
entry_word function None = function ++ codes "() {"
entry_word function (Some duration) = function ++ codes "();"

abbrev pub exit_word : List ℕ → Option ℕ → List ℕ
exit_word function None = codes "} /* " ++ (function ++ codes " */")
exit_word function (Some duration) = codes "}"

-- the five parts of a line: the columns of any line, the duration, a bar, the indent, and what is said of the call
abbrev pub parts : List ℕ → Option ℕ → ℕ → List ℕ → List ℕ
parts columns duration depth word = columns ++ (duration_column duration ++ (codes " | " ++ (indent_text depth ++ word)))

-- whether it has no line: the exit of a leaf
abbrev pub is_silent : Call → Bool
is_silent (Entry cpu time common depth func duration) = false
is_silent (Exit cpu time common depth leaf func duration) = leaf
is_silent (Loss cpu count) = false

-- the text of a call, where it has a line
abbrev pub call_text : ContextData → Call → List ℕ
call_text given (Entry cpu time common depth func duration) =
    parts (prefix_text given cpu time common) duration depth (entry_word (function_text func (name_of given func)) duration)
call_text given (Exit cpu time common depth leaf func duration) =
    parts (prefix_text given cpu time common) duration depth (exit_word (function_text func (name_of given func)) duration)
call_text given (Loss cpu count) = loss_text cpu count

-- its line; the exit of a leaf has none
unfoldable pub call_line : ContextData → Call → List ℕ
call_line given call = if is_silent call then [] else closed (call_text given call)
