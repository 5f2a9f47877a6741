-- Texts that stand at a place.
use Rattle.std.proofs.Common.{◌≡◌, ℕ, ◌<◌, ◌==◌, List, length, take, drop, sym, ap, ◌∙◌, refl, if◌then◌else◌, arith}
use Rattle.std.proofs.lemmas.Bool.{ne_eqb}
use Rattle.trace_base.specs.declared.field.Field.{Field}
use Rattle.trace_base.specs.declared.field.FieldPlace.{FieldPlace}
use Rattle.trace_base.specs.declared.field.FieldPlace.TheVariants.{Fixed}
use Rattle.trace_base.specs.Fields.{unsigned_in, place_by, place_in, bytes_in}
use Rattle.fmt_expr.specs.Tree as tree
use Rattle.fmt_expr.specs.Tree.{Tree}
use Rattle.trace_base.specs.Kept.{until_nul}
use Rattle.fmt_eval.specs.Texts.{text_of}
use Rattle.fmt_eval.specs.Values.{RecData}
use Rattle.fmt_print.specs.Known.{StandsAt}
use Rattle.fmt_print.specs.declared.argument.TextSlot.{TextSlot}
use Rattle.fmt_print.proofs.TextLemmas.{nul_once}

-- the bytes of a field by its place
abbrev by_place : RecData → Field → FieldPlace → List ℕ
by_place g f p =
    let place = place_by p f.offset f.size (length g.payload) (unsigned_in g.order g.payload f.offset 4) in take place.1 (drop place.0 g.payload)

bytes_by_place : (g : RecData) (f : Field) → bytes_in g.order g.payload f ≡ by_place g f f.place
unfolding bytes_in place_in
bytes_by_place g f = refl

sized : (n all : ℕ) → 0 < n → (if n == 0 then all else n) ≡ n
sized n all some = rw (ne_eqb n 0 (λ e. absurd (omega (arith, e, some)))) refl

fixed_bytes : (g : RecData) (f : Field) → f.place ≡ Fixed → 0 < f.size → bytes_in g.order g.payload f ≡ take f.size (drop f.offset g.payload)
fixed_bytes g f is some =
    bytes_by_place g f ∙ ap (by_place g f) is ∙ ap (λ (n : ℕ). take n (drop f.offset g.payload)) (sized f.size (length g.payload) some)

pub field_stands : (f : Field) (place : TextSlot) → f.place ≡ Fixed → 0 < f.size → place.at ≡ f.offset → place.len ≡ f.size → StandsAt (tree.field_text f) place
field_stands f place is some at len = record {
  kind = refl;
  each = λ g.
      ap until_nul (fixed_bytes g f is some
      ∙ ap (λ (n : ℕ). take n (drop f.offset g.payload)) (sym len)
      ∙ ap (λ (n : ℕ). take place.len (drop n g.payload)) (sym at));
}

pub stands_text : (g : RecData) (t : Tree) (place : TextSlot) (text : List ℕ) → StandsAt t place → text ≡ take place.len (drop place.at g.payload) → until_nul text ≡ until_nul (text_of g t)
stands_text g t place text h is = ap until_nul is ∙ nul_once (take place.len (drop place.at g.payload)) ∙ ap until_nul (sym (h.each g))
