-- The loop over a text: the tokens so far, and those of the rest.
use Rattle.std.proofs.Common.{◌≡◌, ℕ, ◌+◌, ◌<◌, ◌≤◌, true, false, List, [], ◌∷◌, ◌++◌, length, drop, get_or, Option, Some, None, refl, sym, ap, ◌∙◌, append_assoc, append-nil}
use Rattle.std.specs.Option.{option_map}
use Rattle.fmt_lexer.specs.declared.token.Token.{Token}
use Rattle.fmt_lexer.specs.declared.token.TokenKind.{TokenKind}
use Rattle.byte_classes.specs.Bytes.{is_blank}
use Rattle.fmt_lexer.specs.Reading.{first_token, token_at}
use Rattle.fmt_lexer.proofs.Steps.{map_some, none_read}
use Rattle.fmt_lexer.proofs.Rows.{token, rest_of, at_end, at_blank, at_none, at_token}

-- the tokens so far, before those of the rest
abbrev pub with_front : List Token → Option (List Token) → Option (List Token)
with_front front rest = option_map (λ ts. front ++ ts) rest

regroup : (front : List Token) (t : Token) (rest : Option (List Token)) → with_front (front ++ t ∷ []) rest ≡ with_front front (option_map (λ ts. t ∷ ts) rest)
regroup front t None = refl
regroup front t (Some ts) = ap (λ (us : List Token). Some us) (append_assoc front (t ∷ []) ts)

pub over_blank : (front : List Token) (text : List ℕ) (at : ℕ) (all : Option (List Token)) → at < length text → is_blank (get_or text at 0) ≡ true → with_front front (rest_of text at) ≡ all → with_front front (rest_of text (at + 1)) ≡ all
over_blank front text at all lt blank e = ap (with_front front) (sym (at_blank text at lt blank)) ∙ e

pub no_token : (front : List Token) (text : List ℕ) (at : ℕ) (all : Option (List Token)) → at < length text → is_blank (get_or text at 0) ≡ false → None ≡ token_at text at → with_front front (rest_of text at) ≡ all → None ≡ all
unfolding token_at
no_token front text at all lt no_blank none e = ap (with_front front) (sym (at_none text at lt no_blank (none_read (λ (p : TokenKind × ℕ). token p.0 at (at + p.1)) (first_token (drop at text)) (sym none)))) ∙ e

pub over_token : (front : List Token) (text : List ℕ) (at : ℕ) (t : Token) (all : Option (List Token)) → at < length text → is_blank (get_or text at 0) ≡ false → Some t ≡ token_at text at → with_front front (rest_of text at) ≡ all
    → with_front (front ++ t ∷ []) (rest_of text t.end) ≡ all
unfolding token_at
over_token front text at t all lt no_blank here e =
    let f = map_some (λ (p : TokenKind × ℕ). token p.0 at (at + p.1)) (first_token (drop at text)) t (sym here) in
    let step : rest_of text at ≡ option_map (λ ts. t ∷ ts) (rest_of text t.end) =
    at_token text at f.0.0 f.0.1 lt no_blank f.1 ∙ ap (λ (u : Token). option_map (λ ts. u ∷ ts) (rest_of text u.end)) f.2 in
    regroup front t (rest_of text t.end) ∙ ap (with_front front) (sym step) ∙ e

pub all_read : (front : List Token) (text : List ℕ) (at : ℕ) (all : Option (List Token)) → length text ≤ at → with_front front (rest_of text at) ≡ all → Some front ≡ all
all_read front text at all past e = ap (λ (ts : List Token). Some ts) (sym (append-nil front)) ∙ ap (with_front front) (sym (at_end text at past)) ∙ e
