-- The lines that declare the fields of all events.
use Rattle.std.proofs.Common.{◌≡◌, ℕ, ◌<◌, List, [], ◌∷◌, ◌++◌, map, length, codes, true, false, Option, Some, None, IfSome, refl, sym, ap, ◌∙◌, append_assoc, arith}
use Rattle.std.specs.List.{cons_option}
use Rattle.std.specs.Option.{option_map}
use denote.Ref.{Bor}
use Rattle.trace_base.specs.FieldLine.{decimal}
use Rattle.trace_base.specs.FieldReading.{after_word, cut_at, named_at, plain_at, declaration_at, entry_at, sign_at, field_line}
use Rattle.trace_base.specs.declared.field.Field.{Field}
use Rattle.trace_base.proofs.FieldEntries.{after_is}
use Rattle.text_lines.specs.Lines.{lines_of}
use Rattle.format_parse.specs.CommonFields.{common_lines, common_fields, number, ReadsOn}
use Rattle.format_parse.specs.FieldKinds.{field_of, kind_of, place_of}
use Rattle.format_parse.specs.Format.{field_data, print_text}
use Rattle.format_parse.proofs.Formats.{fields_more, print_more}

pub after_begins : (found : Option (Bor (List ℕ))) (text : List ℕ) → option_map (λ rest. rest.now) found ≡ after_word common_lines text → IfSome found (λ rest. text ≡ common_lines ++ rest.now)
after_begins None text is = tt
after_begins (Some rest) text is = after_is common_lines text rest.now (sym is)

pub all_put : (front p q r s : List Field) (a b c d : Field) → a ≡ number (codes "common_type") 0 2 false → b ≡ number (codes "common_flags") 2 1 false → c ≡ number (codes "common_preempt_count") 3 1 false → d ≡ number (codes "common_pid") 4 4 true
    → p ≡ front ++ a ∷ [] → q ≡ p ++ b ∷ [] → r ≡ q ++ c ∷ [] → s ≡ r ++ d ∷ [] → s ≡ front ++ common_fields
unfolding common_fields
all_put front p q r s a b c d is_a is_b is_c is_d to_p to_q to_r to_s =
    let whole : s ≡ (((front ++ a ∷ []) ++ b ∷ []) ++ c ∷ []) ++ d ∷ [] = cc in
    let flat : (((front ++ a ∷ []) ++ b ∷ []) ++ c ∷ []) ++ d ∷ [] ≡ front ++ a ∷ b ∷ c ∷ d ∷ [] = simp append_assoc in
    cc

common_read : (rest : List ℕ) → map field_of (field_data (lines_of (common_lines ++ rest))) ≡ common_fields ++ map field_of (field_data (lines_of rest))
unfolding common_lines common_fields after_word field_line cut_at declaration_at plain_at named_at entry_at sign_at decimal field_of kind_of place_of
common_read rest = refl

common_print : (rest : List ℕ) → print_text (lines_of (common_lines ++ rest)) ≡ print_text (lines_of rest)
unfolding common_lines after_word
common_print rest = refl

pub common_on : (text rest : List ℕ) (before after : List Field) → text ≡ common_lines ++ rest → after ≡ before ++ common_fields → ReadsOn text before after (lines_of rest)
common_on text rest before after is next = record {
  fields = ap (λ (l : List Field). l ++ map field_of (field_data (lines_of rest))) next ∙ append_assoc before common_fields (map field_of (field_data (lines_of rest)))
      ∙ ap (λ (l : List Field). before ++ l) (sym (ap (λ (t : List ℕ). map field_of (field_data (lines_of t))) is ∙ common_read rest));
  print = sym (ap (λ (t : List ℕ). print_text (lines_of t)) is ∙ common_print rest);
}

pub common_short : (text rest : List ℕ) → text ≡ common_lines ++ rest → length rest < length text
unfolding common_lines
common_short text rest is = omega (arith, ap length is)

-- the fields of the first line, where the print fmt does not begin there
pub line_on : (text line : List ℕ) (others : List (List ℕ)) (before after : List Field) → lines_of text ≡ line ∷ others → None ≡ after_word (codes "print fmt:") text → after ≡ before ++ map field_of (cons_option (field_line line) [])
    → ReadsOn text before after others
line_on text line others before after split none next = record {
  fields = fields_more text line others before after (before ++ map field_of (field_data (lines_of text))) split none next refl;
  print = print_more text line (print_text (lines_of text)) others split none refl;
}
