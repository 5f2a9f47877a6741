-- What is shown of arguments by their kinds, and where it is shown as it is.
use Rattle.std.proofs.Common.{◌≡◌, ℕ, List, take, Option, None, sym, ap, ◌∙◌}
use Rattle.std.specs.List.{prefix_len}
use Rattle.std.specs.Option.{unwrap_or}
use Rattle.trace_base.specs.Kept.{is_letter}
use Rattle.symbols.specs.Maps.{Maps}
use Rattle.symbols.specs.NameMap.{first_at}
use Rattle.fmt_directives.specs.declared.directive.PointerForm.{PointerForm}
use Rattle.fmt_expr.specs.Tree.{Tree}
use Rattle.fmt_expr.specs.Kinds.{kind_of}
use Rattle.fmt_expr.specs.declared.kinds.Kind.{Kind}
use Rattle.fmt_expr.specs.declared.kinds.Kind.TheVariants.{Number, Text, Bytes}
use Rattle.fmt_eval.specs.Bytes.{bytes_of}
use Rattle.fmt_eval.specs.Pieces.{hexadecimal}
use Rattle.trace_base.specs.Kept.{until_nul}
use Rattle.fmt_eval.specs.Texts.{text_of}
use Rattle.fmt_eval.specs.Values.{RecData}
use Rattle.fmt_forms.specs.declared.form.Form.{Form}
use Rattle.fmt_forms.specs.Texts.{cut_to, padded}
use Rattle.fmt_forms.proofs.PlainLemmas.{padded_bare}
use Rattle.fmt_print.specs.Addresses.{number_address, bytes_address, address_by}
use Rattle.fmt_print.specs.Strings.{address_of, string_by, string_text}

pub string_of_number : (k : Kind) (g : RecData) (maps : Maps) (t : Tree) → k ≡ Number → string_by k g maps t ≡ unwrap_or (first_at (address_of g t) maps.printk) (hexadecimal (address_of g t))
string_of_number k g maps t is = ap (λ (k : Kind). string_by k g maps t) is

pub string_of_text : (k : Kind) (g : RecData) (maps : Maps) (t : Tree) → k ≡ Text → string_by k g maps t ≡ until_nul (text_of g t)
string_of_text k g maps t is = ap (λ (k : Kind). string_by k g maps t) is

pub string_of_bytes : (k : Kind) (g : RecData) (maps : Maps) (t : Tree) → k ≡ Bytes → string_by k g maps t ≡ until_nul (bytes_of g t)
string_of_bytes k g maps t is = ap (λ (k : Kind). string_by k g maps t) is

pub address_of_number : (k : Kind) (pointer : PointerForm) (g : RecData) (maps : Maps) (t : Tree) → k ≡ Number → address_by k pointer g maps t ≡ number_address pointer (address_of g t) maps
address_of_number k pointer g maps t is = ap (λ (k : Kind). address_by k pointer g maps t) is

pub address_of_text : (k : Kind) (pointer : PointerForm) (g : RecData) (maps : Maps) (t : Tree) → k ≡ Text → address_by k pointer g maps t ≡ bytes_address pointer (text_of g t)
address_of_text k pointer g maps t is = ap (λ (k : Kind). address_by k pointer g maps t) is

pub address_of_bytes : (k : Kind) (pointer : PointerForm) (g : RecData) (maps : Maps) (t : Tree) → k ≡ Bytes → address_by k pointer g maps t ≡ bytes_address pointer (bytes_of g t)
address_of_bytes k pointer g maps t is = ap (λ (k : Kind). address_by k pointer g maps t) is

-- a text that stands at a known place, without a width and a precision
pub placed_text : (g : RecData) (maps : Maps) (form : Form) (t : Tree) (text : List ℕ) (n : ℕ) → kind_of t ≡ Text → until_nul text ≡ until_nul (text_of g t) → form.width ≡ 0 → form.precision ≡ None → n ≡ prefix_len is_letter text
    → take n text ≡ string_text g maps form t
placed_text g maps form t text n kind is width none is_n =
    ap (λ (m : ℕ). take m text) is_n ∙ is ∙ sym (string_of_text (kind_of t) g maps t kind)
    ∙ ap (λ (p : Option ℕ). cut_to p (string_by (kind_of t) g maps t)) (sym none)
    ∙ padded_bare form.left form.width (cut_to form.precision (string_by (kind_of t) g maps t)) width

-- a text that is shown as it is
pub named_text : (form : Form) (text shown : List ℕ) → text ≡ shown → form.width ≡ 0 → form.precision ≡ None → text ≡ padded form.left form.width (cut_to form.precision shown)
named_text form text shown is width none =
    is
    ∙ ap (λ (p : Option ℕ). cut_to p shown) (sym none)
    ∙ padded_bare form.left form.width (cut_to form.precision shown) width
