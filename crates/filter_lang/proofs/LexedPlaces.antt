-- The places of tokens in their text.
use Rattle.std.proofs.Common.{◌≡◌, ℕ, zero, suc, ◌<◌, ◌≤◌, Bool, false, List, [], ◌∷◌, ◌++◌, length, take, drop, get_or, refl, ap, sym, subst, arith}
use Rattle.std.proofs.lemmas.List.{take-append-drop, length-drop, drop_all}
use Rattle.filter_lang.specs.PlainToken.{PlainToken}
use Rattle.filter_lang.specs.TokenView.{plain_token, plain_tokens}
use Rattle.filter_lang.specs.Grammar.{IsFilter, RefusedBefore}
use Rattle.filter_lang.specs.Filter.{FilterData}
use Rattle.filter_lang.specs.Texts.{Lexeme, AreLexemes, ended, blank, fault, token, tokens_in, IsFilterText, RefusedText, at_token, too_short, no_token}
use Rattle.filter_lang.specs.LexedView.{lexemes_of, place_in}
use Rattle.filter_lang.specs.Reading.{from_first}
use Rattle.filter_lang.specs.declared.token.Token.{Token}

pub place_there : (end : ℕ) (ts : List Token) (i : ℕ) (t : Token) → i < length ts → t ≡ get_or ts i t → t.start ≡ place_in end ts i
place_there end [] i t lt e = absurd (omega arith)
place_there end (u ∷ ts) zero t lt e = ap (λ (x : Token). x.start) e
place_there end (u ∷ ts) (suc i) t lt e = place_there end ts i t (omega arith) e

pub place_past : (end : ℕ) (ts : List Token) (i : ℕ) → length ts ≤ i → end ≡ place_in end ts i
place_past end [] i le = refl
place_past end (u ∷ ts) zero le = absurd (omega arith)
place_past end (u ∷ ts) (suc i) le = place_past end ts i (omega arith)

first_place : (text : List ℕ) (end : ℕ) (ts : List Token) (i : ℕ) → from_first (drop i (lexemes_of text ts)) (drop end text) ≡ drop (place_in end ts i) text
first_place text end [] zero = refl
first_place text end [] (suc i) = refl
first_place text end (t ∷ ts) zero = refl
first_place text end (t ∷ ts) (suc i) = first_place text end ts i

pub tokens_behind : (text : List ℕ) (ts : List Token) (i : ℕ) → tokens_in (drop i (lexemes_of text ts)) ≡ drop i (plain_tokens ts)
tokens_behind text [] zero = refl
tokens_behind text [] (suc i) = refl
tokens_behind text (t ∷ ts) zero = ap (λ (zs : List PlainToken). plain_token t.word ∷ zs) (tokens_behind text ts zero)
tokens_behind text (t ∷ ts) (suc i) = tokens_behind text ts i

pub tokens_are : (text : List ℕ) (ts : List Token) → tokens_in (lexemes_of text ts) ≡ plain_tokens ts
tokens_are text ts = tokens_behind text ts zero

pub by_place : (text rest : List ℕ) (row us vs : List Lexeme) → AreLexemes false text row rest → row ≡ us ++ vs → RefusedBefore (tokens_in row) (tokens_in vs) → RefusedText text (from_first vs rest)
by_place text rest row us [] d is r = too_short d r
by_place text rest row us (l ∷ vs) d is r =
    at_token us vs l (subst (λ (zs : List Lexeme). AreLexemes false text zs rest) is d) (subst (λ (zs : List Lexeme). RefusedBefore (tokens_in zs) (tokens_in (l ∷ vs))) is r)

pub refused_at : (text : List ℕ) (end : ℕ) (ts : List Token) (i : ℕ) → AreLexemes false text (lexemes_of text ts) (drop end text) → RefusedBefore (plain_tokens ts) (drop i (plain_tokens ts))
    → RefusedText text (drop (place_in end ts i) text)
refused_at text end ts i d r =
    let row : List Lexeme = lexemes_of text ts in
    let same : RefusedBefore (tokens_in row) (tokens_in (drop i row)) =
    subst (λ (zs : List PlainToken). RefusedBefore (tokens_in row) zs) (sym (tokens_behind text ts i)) (subst (λ (zs : List PlainToken). RefusedBefore zs (drop i (plain_tokens ts))) (sym (tokens_are text ts)) r) in
    subst (λ (zs : List ℕ). RefusedText text zs) (first_place text end ts i) (by_place text (drop end text) row (take i row) (drop i row) d (sym (take-append-drop i row)) same)

-- something stands from each token on
front_is : (k l : Lexeme) (ks ls : List Lexeme) → k ∷ ks ≡ l ∷ ls → k.at ≡ l.at
front_is k l ks ls e = let same : k ≡ l = cc in ap (λ (x : Lexeme). x.at) same

tail_is : (k l : Lexeme) (ks ls : List Lexeme) → k ∷ ks ≡ l ∷ ls → ks ≡ ls
tail_is k l ks ls e = cc

some_at : {b : Bool} {text rest : List ℕ} {row : List Lexeme} (us vs : List Lexeme) (l : Lexeme) → AreLexemes b text row rest → row ≡ us ++ l ∷ vs → 0 < length l.at
some_at [] vs l ended e = absurd cc
some_at (u ∷ us) vs l ended e = absurd cc
some_at us vs l (blank is d) e = some_at us vs l d e
some_at [] vs l (fault is none) e = absurd cc
some_at (u ∷ us) vs l (fault is none) e = absurd cc
some_at [] vs l (token {c = c} {bytes = bytes} {row = row} {t = t} is i d) e = omega (arith, ap (λ (zs : List ℕ). length zs) (front_is _ l row vs e))
some_at (u ∷ us) vs l (token {row = row} is i d) e = some_at us vs l d (tail_is _ u row (us ++ l ∷ vs) e)

by_split : (text : List ℕ) (end place : ℕ) (row us vs : List Lexeme) → end ≤ length text → AreLexemes false text row (drop end text) → row ≡ us ++ vs → from_first vs (drop end text) ≡ drop place text
    → (vs ≡ [] → place ≡ end) → place ≤ length text
by_split text end place row us [] le d is same last = omega (arith, last refl)
by_split text end place row us (l ∷ vs) le d is same last = omega (arith, some_at us vs l d is, ap (λ (zs : List ℕ). length zs) same, length-drop place text)

none_left : (text : List ℕ) (end : ℕ) (ts : List Token) (i : ℕ) → drop i (lexemes_of text ts) ≡ [] → place_in end ts i ≡ end
none_left text end [] i e = refl
none_left text end (t ∷ ts) zero e = absurd cc
none_left text end (t ∷ ts) (suc i) e = none_left text end ts i e

pub place_within : (text : List ℕ) (end : ℕ) (ts : List Token) (i : ℕ) → end ≤ length text → AreLexemes false text (lexemes_of text ts) (drop end text) → place_in end ts i ≤ length text
place_within text end ts i le d =
    let row : List Lexeme = lexemes_of text ts in
    by_split text end (place_in end ts i) row (take i row) (drop i row) le d (sym (take-append-drop i row)) (first_place text end ts i) (none_left text end ts i)

-- a whole filter up to the text's end, or up to a place at which no token begins
pub all_filter : (text : List ℕ) (end : ℕ) (ts : List Token) (f : FilterData) → AreLexemes false text (lexemes_of text ts) (drop end text) → length text ≤ end → IsFilter (plain_tokens ts) f → IsFilterText text f
all_filter text end ts f d le is = record {
  row = lexemes_of text ts;
  lexes = subst (λ (zs : List ℕ). AreLexemes false text (lexemes_of text ts) zs) (drop_all end text le) d;
  is_filter = subst (λ (zs : List PlainToken). IsFilter zs f) (sym (tokens_are text ts)) is;
}

pub fault_behind : (text : List ℕ) (end : ℕ) (ts : List Token) (f : FilterData) → AreLexemes false text (lexemes_of text ts) (drop end text) → end < length text → IsFilter (plain_tokens ts) f → RefusedText text (drop end text)
fault_behind text end ts f d lt is =
    no_token d (λ none. absurd (omega (arith, ap (λ (zs : List ℕ). length zs) none, length-drop end text))) (subst (λ (zs : List PlainToken). IsFilter zs f) (sym (tokens_are text ts)) is)
