-- The number that is computed is the one that is spelled.
use Rattle.std.proofs.Common.{◌≡◌, ◌↔◌, ℕ, List, Option, Some, None, refl, sym, ap, subst, ◌∙◌, option_map}
use Rattle.std.specs.Option.{IfSome, IfNone}
use Rattle.std.specs.Str.Parse.{digits_value}
use Rattle.fmt_lexer.specs.declared.number.Base.{Base}
use Rattle.fmt_lexer.specs.Number.{radix_of}
use Rattle.fmt_lexer.specs.Reading.{number_parts}
use Rattle.fmt_lexer.proofs.Numbers.{number_complete, number_sound}
use Rattle.fmt_literal.specs.declared.ckind.CKind.{CKind}
use Rattle.fmt_literal.specs.declared.numeral.Numeral.{Numeral}
use Rattle.fmt_literal.specs.Numeral.{kind_of_number, number_with, numeral_of, IsNumeral}
use Rattle.fmt_literal.specs.Views.{numeral_view}

abbrev Parts : Type 0
Parts = Base × List ℕ × List ℕ

abbrev parts : Base → List ℕ → List ℕ → Parts
parts base digits suffix = (base, digits, suffix)

abbrev pair : ℕ → CKind → ℕ × CKind
pair n kind = (n, kind)

pub numeral_complete : (bytes : List ℕ) (long n : ℕ) (kind : CKind) → IsNumeral bytes long n kind → numeral_of bytes long ≡ Some (n, kind)
unfolding numeral_of
numeral_complete bytes long n kind h =
    let there : number_parts bytes ≡ Some (parts h.base h.digits h.suffix) = number_complete bytes h.base h.digits h.suffix h.parts in
    let value : digits_value (radix_of h.base) h.digits ≡ n = sym h.value in
    ap (option_map (number_with long)) there ∙ ap (λ (m : ℕ). Some (pair m (kind_of_number h.base h.suffix long m))) value ∙ ap (λ (k : CKind). Some (pair n k)) (sym h.kind_is)

from_parts : (bytes : List ℕ) (long : ℕ) (p : Parts) → number_parts bytes ≡ Some p → IsNumeral bytes long (number_with long p).0 (number_with long p).1
from_parts bytes long p h = record { base = p.0; digits = p.1; suffix = p.2; parts = number_sound bytes p.0 p.1 p.2 h; value = refl; kind_is = refl }

sound_by : (bytes : List ℕ) (long : ℕ) (o : Option Parts) (m : ℕ × CKind) → number_parts bytes ≡ o → option_map (number_with long) o ≡ Some m → IsNumeral bytes long m.0 m.1
sound_by bytes long None m h e = absurd cc
sound_by bytes long (Some p) m h e = let same : number_with long p ≡ m = cc in subst (λ (q : ℕ × CKind). IsNumeral bytes long q.0 q.1) same (from_parts bytes long p h)

pub numeral_sound : (bytes : List ℕ) (long : ℕ) (m : ℕ × CKind) → numeral_of bytes long ≡ Some m → IsNumeral bytes long m.0 m.1
unfolding numeral_of
numeral_sound bytes long m e = sound_by bytes long (number_parts bytes) m refl e

pub computed : (bytes : List ℕ) (long n : ℕ) (kind : CKind) → (numeral_of bytes long ≡ Some (n, kind)) ↔ IsNumeral bytes long n kind
computed bytes long n kind = (numeral_sound bytes long (n, kind), numeral_complete bytes long n kind)

-- what the parts of a spelling give
pub numeral_there : (bytes : List ℕ) (long : ℕ) (base : Base) (digits suffix : List ℕ) → number_parts bytes ≡ Some (base, digits, suffix)
    → numeral_of bytes long ≡ Some (digits_value (radix_of base) digits, kind_of_number base suffix long (digits_value (radix_of base) digits))
unfolding numeral_of
numeral_there bytes long base digits suffix e = ap (option_map (number_with long)) e

pub no_numeral : (bytes : List ℕ) (long : ℕ) → number_parts bytes ≡ None → numeral_of bytes long ≡ None
unfolding numeral_of
no_numeral bytes long e = ap (option_map (number_with long)) e

pub found_numeral : (bytes : List ℕ) (long : ℕ) (r : Option Numeral) → option_map numeral_view r ≡ numeral_of bytes long → IfSome r (λ n. IsNumeral bytes long n.bits n.kind)
found_numeral bytes long None e = tt
found_numeral bytes long (Some n) e = numeral_sound bytes long (n.bits, n.kind) (sym e)

pub none_numeral : (bytes : List ℕ) (long : ℕ) (r : Option Numeral) → option_map numeral_view r ≡ numeral_of bytes long → IfNone r ((n : ℕ) (kind : CKind) → IsNumeral bytes long n kind → ⊥)
none_numeral bytes long None e = λ n kind h. absurd (let f : None ≡ Some (pair n kind) = e ∙ numeral_complete bytes long n kind h in cc)
none_numeral bytes long (Some n) e = tt
