-- What the public calls answer, from what is computed.
use Rattle.std.proofs.Common.{◌≡◌, ℕ, ◌≤◌, ◌^◌, List, length, Option, Some, None, Ok, Err, Result, Vec, Global, sym, ◌∙◌}
use Rattle.std.specs.Option.{option_map, IfSome, IfNone}
use Rattle.std.specs.Result.{IfOk}
use Rattle.std.specs.declared.alloc.AllocError.{AllocError}
use Rattle.fmt_lexer.specs.declared.number.Base.{Base}
use Rattle.fmt_lexer.specs.declared.number.NumberParts.{NumberParts}
use Rattle.fmt_lexer.specs.declared.token.Token.{Token}
use Rattle.fmt_lexer.specs.Number.{IsNumber}
use Rattle.fmt_lexer.specs.PartsView.{parts_view}
use Rattle.fmt_lexer.specs.Tokens.{AreTokens}
use Rattle.fmt_lexer.specs.Reading.{tokens_from, number_parts}
use Rattle.fmt_lexer.proofs.Numbers.{parts_of, number_complete, number_sound}
use Rattle.fmt_lexer.proofs.Places.{row_sound, row_complete}

abbrev Row : Type 0
Row = Option (Vec Token Global)

-- a row that was found holds the tokens
pub found_in : (text : List ℕ) (r : Result Row AllocError) → IfOk r (λ row. option_map (λ v. v.items) row ≡ tokens_from 0 0 text) → IfOk r (λ row. IfSome row (λ v. AreTokens text v.items))
found_in text (Ok None) h = tt
found_in text (Ok (Some v)) h = row_sound text v.items (sym h)
found_in text (Err e) h = tt

-- where none was found there is none
pub none_in : (text : List ℕ) (r : Result Row AllocError) → IfOk r (λ row. option_map (λ v. v.items) row ≡ tokens_from 0 0 text)
    → IfOk r (λ row. IfNone row ((ts : List Token) → AreTokens text ts → 2 ^ 32 ≤ length text))
none_in text (Ok None) h = λ ts a. absurd (let e : None ≡ Some ts = h ∙ row_complete text ts a in cc)
none_in text (Ok (Some v)) h = tt
none_in text (Err e) h = tt

-- the parts that were found are those of a number
pub found_parts : (bytes : List ℕ) (r : Option NumberParts) → option_map parts_view r ≡ number_parts bytes → IfSome r (λ p. IsNumber bytes p.base p.digits.now p.suffix.now)
found_parts bytes None h = tt
found_parts bytes (Some p) h = number_sound bytes p.base p.digits.now p.suffix.now (sym h)

-- where none were found there is no number
pub no_parts : (bytes : List ℕ) (r : Option NumberParts) → option_map parts_view r ≡ number_parts bytes → IfNone r ((base : Base) (digits suffix : List ℕ) → IsNumber bytes base digits suffix → ⊥)
no_parts bytes (Some p) h = tt
no_parts bytes None h = λ base digits suffix n. absurd (let e : None ≡ Some (parts_of base digits suffix) = h ∙ number_complete bytes base digits suffix n in cc)
