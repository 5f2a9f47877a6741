-- Whole field lines: the function computes the one field that a line declares.
use Rattle.std.proofs.Common.{◌≡◌, ℕ, codes, List, ◌++◌, take, Option, None, Some, refl, sym, ap, subst, ◌∙◌, IfSome, IfNone}
use Rattle.std.proofs.lemmas.List.{take-append-drop}
use Rattle.std.specs.List.{prefix_len}
use Rattle.std.specs.Option.{option_map}
use Rattle.trace_base.specs.declared.field_line.FieldLine.{FieldLine}
use Rattle.byte_classes.specs.Bytes.{is_blank}
use Rattle.trace_base.specs.FieldLine.{FieldData, skip_blanks, IsFieldLine}
use Rattle.trace_base.specs.FieldReading.{after_word, cut_at, declaration_at, entry_at, sign_at, field_line, field_view}
use Rattle.trace_base.proofs.FieldSteps.{bind_some, some_is}
use Rattle.trace_base.proofs.FieldRuns.{run_all}
use Rattle.trace_base.proofs.FieldEntries.{after_again, after_is, cut_again, cut_is, skip_again, entry_again, entry_is, sign_again, sign_is}
use Rattle.trace_base.proofs.FieldDeclarations.{declares_again, declares_is}

pub line_again : (line : List ℕ) (field : FieldData) → IsFieldLine line field → field_line line ≡ Some field
unfolding field_line
line_again line field is =
    let behind = is.offset ++ (is.size ++ is.sign) in
    let skipped : skip_blanks line ≡ codes "field:" ++ (is.declaration ++ (codes ";" ++ behind)) = ap skip_blanks is.whole ∙ skip_again is.blanks (codes "field:" ++ (is.declaration ++ (codes ";" ++ behind))) is.blank refl in
    rw (
      skipped,
      after_again (codes "field:") (is.declaration ++ (codes ";" ++ behind)),
      cut_again is.declaration behind is.no_semicolon,
      declares_again is.declaration field.declaration is.declares,
      entry_again (codes "offset:") (λ rest. refl) field.offset is.offset (is.size ++ is.sign) is.offset_is,
      entry_again (codes "size:") (λ rest. refl) field.size is.size is.sign is.size_is,
      sign_again field.signed is.sign is.sign_is,
    ) refl

pub line_is : (line : List ℕ) (field : FieldData) → field_line line ≡ Some field → IsFieldLine line field
unfolding field_line
line_is line field is =
    let worded = bind_some (after_word (codes "field:") (skip_blanks line)) _ field is in
    let parted = bind_some (cut_at worded.0) _ field worded.2 in
    let declared = bind_some (declaration_at parted.0.0) _ field parted.2 in
    let placed = bind_some (entry_at (codes "offset:") parted.0.1) _ field declared.2 in
    let sized = bind_some (entry_at (codes "size:") placed.0.1) _ field placed.2 in
    let signed = bind_some (sign_at sized.0.1) _ field sized.2 in
    let blanks = take (prefix_len is_blank line) line in
    let cut = cut_is worded.0 parted.0.0 parted.0.1 parted.1 in
    let offset = entry_is (codes "offset:") placed.0.0 parted.0.1 placed.0.1 placed.1 in
    let size = entry_is (codes "size:") sized.0.0 placed.0.1 sized.0.1 sized.1 in
    let whole : line ≡ blanks ++ (codes "field:" ++ (parted.0.0 ++ (codes ";" ++ (offset.front ++ (size.front ++ sized.0.1))))) =
    sym (take-append-drop (prefix_len is_blank line) line)
    ∙ ap (λ back. blanks ++ back) (after_is (codes "field:") (skip_blanks line) worded.0 worded.1
    ∙ ap (λ back. codes "field:" ++ back) (cut.0 ∙ ap (λ back. parted.0.0 ++ (codes ";" ++ back)) (offset.whole ∙ ap (λ back. offset.front ++ back) size.whole))) in
    subst (λ (f : FieldData). IsFieldLine line f) (some_is _ field signed.2) (record {
      blanks = blanks;
      declaration = parted.0.0;
      offset = offset.front;
      size = size.front;
      sign = sized.0.1;
      whole = whole;
      blank = run_all is_blank line;
      no_semicolon = cut.1;
      declares = declares_is parted.0.0 declared.0 declared.1;
      offset_is = offset.entry;
      size_is = size.entry;
      sign_is = sign_is signed.0 sized.0.1 signed.1;
    })

pub one_field : (line : List ℕ) (field other : FieldData) → IsFieldLine line field → IsFieldLine line other → field ≡ other
one_field line field other one two = some_is field other (sym (line_again line field one) ∙ line_again line other two)

pub when_found : (line : List ℕ) (result : Option FieldLine) → option_map field_view result ≡ field_line line → IfSome result (λ field. IsFieldLine line (field_view field))
when_found line None is = tt
when_found line (Some field) is = line_is line (field_view field) (sym is)

pub when_none : (line : List ℕ) (result : Option FieldLine) → option_map field_view result ≡ field_line line → IfNone result ((field : FieldData) → IsFieldLine line field → ⊥)
when_none line None is = λ field has. let never : None ≡ Some field = is ∙ line_again line field has in absurd cc
when_none line (Some field) is = tt
