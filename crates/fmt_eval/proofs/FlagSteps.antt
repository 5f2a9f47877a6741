-- The flags of entries, one entry on.
use Rattle.std.proofs.Common.{◌≡◌, ℕ, ◌+◌, ◌<◌, Bool, true, false, List, ◌∷◌, ◌++◌, length, drop, get_or, refl, sym, ap, ◌∙◌}
use Rattle.std.specs.Prelude.{if◌then◌else◌, bit_and}
use Rattle.std.specs.Int.{w64, bit_not}
use Rattle.std.proofs.lemmas.List.{drop_more}
use Rattle.trace_base.specs.Kept.{Kept, put}
use Rattle.fmt_expr.specs.declared.expr.Entry.{Entry}
use Rattle.fmt_eval.specs.Values.{RecData}
use Rattle.fmt_eval.specs.Entered.{row_of, rows_in}
use Rattle.fmt_eval.specs.Flags.{is_flag, flag_pieces, flags_from, flags_text}
use Rattle.fmt_eval.proofs.FlagLemmas.{flag_put, flag_passed, one_passed, one_alone}

-- what is still to come begins with the row of the next entry
next_row : (k r : Kept) (g : RecData) (entries : List Entry) (i : ℕ) (e : Entry) (between text : List ℕ) (value left : ℕ) (some : Bool) (mask : ℕ) → i < length entries → e ≡ get_or entries i e → mask ≡ (row_of g e).0 → text ≡ e.text
    → put k (flags_from between value left some (rows_in g (drop i entries))) ≡ r → put k (flags_from between value left some ((mask, text) ∷ rows_in g (drop (i + 1) entries))) ≡ r
next_row k r g entries i e between text value left some mask lt is is_mask is_text before =
    let rest = rows_in g (drop (i + 1) entries) in
    ap (λ (n : ℕ). put k (flags_from between value left some ((n, text) ∷ rest))) is_mask
    ∙ ap (λ (t : List ℕ). put k (flags_from between value left some (((row_of g e).0, t) ∷ rest))) is_text
    ∙ ap (λ (f : Entry). put k (flags_from between value left some (row_of g f ∷ rest))) is
    ∙ ap (λ (es : List Entry). put k (flags_from between value left some (rows_in g es))) (sym (drop_more entries i e lt))
    ∙ before

pub entry_put : (k now r : Kept) (g : RecData) (entries : List Entry) (i : ℕ) (e : Entry) (between text : List ℕ) (value left : ℕ) (some : Bool) (mask : ℕ) → i < length entries → e ≡ get_or entries i e → mask ≡ (row_of g e).0 → text ≡ e.text → true ≡ is_flag value left some mask
    → now ≡ put k (if some then between ++ text else text) → put k (flags_from between value left some (rows_in g (drop i entries))) ≡ r → put now (flags_from between value (bit_and left (bit_not w64 mask)) true (rows_in g (drop (i + 1) entries))) ≡ r
entry_put k now r g entries i e between text value left some mask lt is is_mask is_text printed is_now before =
    flag_put k now between text value left some mask (rows_in g (drop (i + 1) entries)) (sym printed) is_now ∙ next_row k r g entries i e between text value left some mask lt is is_mask is_text before

pub entry_passed : (k r : Kept) (g : RecData) (entries : List Entry) (i : ℕ) (e : Entry) (between text : List ℕ) (value left : ℕ) (some : Bool) (mask : ℕ) → i < length entries → e ≡ get_or entries i e → mask ≡ (row_of g e).0 → text ≡ e.text → false ≡ is_flag value left some mask
    → put k (flags_from between value left some (rows_in g (drop i entries))) ≡ r → put k (flags_from between value left some (rows_in g (drop (i + 1) entries))) ≡ r
entry_passed k r g entries i e between text value left some mask lt is is_mask is_text passed before =
    flag_passed k between text value left some mask (rows_in g (drop (i + 1) entries)) (sym passed) ∙ next_row k r g entries i e between text value left some mask lt is is_mask is_text before

-- the pieces of the entries from a place on, of which none before is printed
from_place : (g : RecData) (entries : List Entry) (i : ℕ) (e : Entry) (value mask : ℕ) (text : List ℕ) → i < length entries → e ≡ get_or entries i e → mask ≡ (row_of g e).0 → text ≡ e.text
    → flag_pieces value value false ((mask, text) ∷ rows_in g (drop (i + 1) entries)) ≡ flag_pieces value value false (rows_in g (drop i entries))
from_place g entries i e value mask text lt is is_mask is_text =
    let rest = rows_in g (drop (i + 1) entries) in
    ap (λ (n : ℕ). flag_pieces value value false ((n, text) ∷ rest)) is_mask
    ∙ ap (λ (t : List ℕ). flag_pieces value value false (((row_of g e).0, t) ∷ rest)) is_text
    ∙ ap (λ (f : Entry). flag_pieces value value false (row_of g f ∷ rest)) is
    ∙ ap (λ (es : List Entry). flag_pieces value value false (rows_in g es)) (sym (drop_more entries i e lt))

pub none_before : (g : RecData) (entries : List Entry) (i : ℕ) (e : Entry) (value mask : ℕ) → i < length entries → e ≡ get_or entries i e → mask ≡ (row_of g e).0 → false ≡ is_flag value value false mask
    → flag_pieces value value false (rows_in g (drop i entries)) ≡ flag_pieces value value false (rows_in g entries) → flag_pieces value value false (rows_in g (drop (i + 1) entries)) ≡ flag_pieces value value false (rows_in g entries)
none_before g entries i e value mask lt is is_mask passed before =
    sym (one_passed value mask e.text (rows_in g (drop (i + 1) entries)) (sym passed)) ∙ from_place g entries i e value mask e.text lt is is_mask refl ∙ before

pub the_only : (between : List ℕ) (g : RecData) (entries : List Entry) (i : ℕ) (e : Entry) (value mask : ℕ) (text : List ℕ) → i < length entries → e ≡ get_or entries i e → mask ≡ (row_of g e).0 → text ≡ e.text → true ≡ is_flag value value false mask
    → bit_and value (bit_not w64 mask) ≡ 0 → flag_pieces value value false (rows_in g (drop i entries)) ≡ flag_pieces value value false (rows_in g entries) → text ≡ flags_text between value (rows_in g entries)
the_only between g entries i e value mask text lt is is_mask is_text printed none before =
    one_alone between value mask text (rows_in g (drop (i + 1) entries)) (rows_in g entries) (sym printed) none (from_place g entries i e value mask text lt is is_mask is_text ∙ before)
