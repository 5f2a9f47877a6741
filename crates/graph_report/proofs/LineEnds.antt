-- No text of a call ends in a newline.
use Rattle.std.proofs.Common.{◌≡◌, ℕ, ◌≤◌, Bool, false, List, [], ◌∷◌, ◌++◌, codes, Option, Some, None, length, refl, ap, ◌∙◌, arith, inl, inr}
use Rattle.std.specs.List.{last_or}
use Rattle.std.specs.Fmt.{decimal}
use Rattle.std.specs.Prelude.{if◌then◌else◌}
use Rattle.std.proofs.lemmas.Bool.{cases_Bool}
use Rattle.trace_base.specs.Kept.{Held}
use Rattle.report_print.specs.ContextData.{ContextData}
use Rattle.report_print.specs.Ending.{is_newline, ends_in_newline, of_held, closed}
use Rattle.report_print.specs.Line.{loss_text, prefix_text}
use Rattle.report_print.proofs.LineLength.{closed_short}
use Rattle.call_pairs.specs.declared.call.Call.{Call}
use Rattle.call_pairs.specs.declared.call.Call.TheVariants.{Entry, Exit, Loss}
use Rattle.graph_report.specs.CallText.{duration_column, indent_text, function_text, name_of, entry_word, exit_word, parts, call_text, call_line, is_silent}

none_some : (b : ℕ) → None ≡ Some b → ⊥
none_some b e = grind (arith, e)

last_any : (d : Option ℕ) (ys : List ℕ) (b : ℕ) → last_or None ys ≡ Some b → last_or d ys ≡ Some b
last_any d [] b is = absurd (none_some b is)
last_any d (y ∷ ys) b is = is

last_from : (d : Option ℕ) (xs ys : List ℕ) (b : ℕ) → last_or None ys ≡ Some b → last_or d (xs ++ ys) ≡ Some b
last_from d [] ys b is = last_any d ys b is
last_from d (x ∷ xs) ys b is = last_from (Some x) xs ys b is

last_behind : (xs ys : List ℕ) (b : ℕ) → last_or None ys ≡ Some b → last_or None (xs ++ ys) ≡ Some b
last_behind xs ys b is = last_from None xs ys b is

parts_last : (columns : List ℕ) (duration : Option ℕ) (depth : ℕ) (word : List ℕ) (b : ℕ) → last_or None word ≡ Some b → last_or None (parts columns duration depth word) ≡ Some b
parts_last columns duration depth word b is =
    last_behind columns (duration_column duration ++ (codes " | " ++ (indent_text depth ++ word))) b
    (last_behind (duration_column duration) (codes " | " ++ (indent_text depth ++ word)) b
    (last_behind (codes " | ") (indent_text depth ++ word) b (last_behind (indent_text depth) word b is)))

no_newline : (text : List ℕ) (b : ℕ) → last_or None text ≡ Some b → is_newline (Some b) ≡ false → ends_in_newline text ≡ false
unfolding ends_in_newline
no_newline text b is none = ap is_newline is ∙ none

loss_end : (cpu : ℕ) (count : Option ℕ) → ends_in_newline (loss_text cpu count) ≡ false
unfolding loss_text
loss_end cpu None = no_newline (loss_text cpu None) 93 (last_behind (codes "CPU:") (decimal cpu ++ codes " [EVENTS DROPPED]") 93 (last_behind (decimal cpu) (codes " [EVENTS DROPPED]") 93 refl)) refl
loss_end cpu (Some count) = no_newline (loss_text cpu (Some count)) 93
    (last_behind (codes "CPU:") (decimal cpu ++ (codes " [" ++ (decimal count ++ codes " EVENTS DROPPED]"))) 93
    (last_behind (decimal cpu) (codes " [" ++ (decimal count ++ codes " EVENTS DROPPED]")) 93
    (last_behind (codes " [") (decimal count ++ codes " EVENTS DROPPED]") 93 (last_behind (decimal count) (codes " EVENTS DROPPED]") 93 refl)))) refl

pub text_end : (given : ContextData) (call : Call) → ends_in_newline (call_text given call) ≡ false
text_end given (Entry cpu time common depth func None) =
    no_newline _ 123 (parts_last (prefix_text given cpu time common) None depth (entry_word (function_text func (name_of given func)) None) 123 (last_behind (function_text func (name_of given func)) (codes "() {") 123 refl)) refl
text_end given (Entry cpu time common depth func (Some duration)) =
    no_newline _ 59 (parts_last (prefix_text given cpu time common) (Some duration) depth (entry_word (function_text func (name_of given func)) (Some duration)) 59 (last_behind (function_text func (name_of given func)) (codes "();") 59 refl)) refl
text_end given (Exit cpu time common depth leaf func None) =
    no_newline _ 47 (parts_last (prefix_text given cpu time common) None depth (exit_word (function_text func (name_of given func)) None) 47
    (last_behind (codes "} /* ") (function_text func (name_of given func) ++ codes " */") 47 (last_behind (function_text func (name_of given func)) (codes " */") 47 refl))) refl
text_end given (Exit cpu time common depth leaf func (Some duration)) =
    no_newline _ 125 (parts_last (prefix_text given cpu time common) (Some duration) depth (exit_word (function_text func (name_of given func)) (Some duration)) 125 refl) refl
text_end given (Loss cpu count) = loss_end cpu count

pub line_told : (h : Held) (room : ℕ) (silent : Bool) (text : List ℕ) → false ≡ silent → h ≡ of_held room (closed text) → h ≡ of_held room (if silent then [] else closed text)
line_told h room silent text loud is = is ∙ ap (λ (b : Bool). of_held room (if b then [] else closed text)) loud

pub length_told : (n : ℕ) (silent : Bool) (text : List ℕ) → false ≡ silent → n ≡ length (closed text) → n ≡ length (if silent then [] else closed text)
length_told n silent text loud is = is ∙ ap (λ (b : Bool). length (if b then [] else closed text)) loud

-- no line is longer than 65,537 bytes
pub line_most : (given : ContextData) (call : Call) → length (call_line given call) ≤ 65537
unfolding call_line
line_most given call = elim (cases_Bool (is_silent call)) as (λ _. length (if is_silent call then [] else closed (call_text given call)) ≤ 65537) [
  | inl is_true ↦ rw is_true (omega arith)
  | inr is_false ↦ rw is_false (closed_short (call_text given call))
]
