-- Tokens that follow one another are those that the relation on places names.
use Rattle.std.proofs.Common.{◌≡◌, ◌↔◌, ℕ, suc, ◌^◌, ◌<◌, ◌≤◌, Bool, true, cond, ltb, List, [], ◌∷◌, length, get_or, Some, None, sym, ap, ◌∙◌, inl, inr, arith}
use Rattle.std.specs.List.{All, AllPairs}
use Rattle.std.proofs.lemmas.List.Elements.{All-nil, All-cons, All-head, All-tail, All-weaker}
use Rattle.std.proofs.lemmas.List.Kept.{AllPairs-cons}
use Rattle.std.proofs.lemmas.Option.{same_Some}
use Rattle.fmt_lexer.specs.Reading.{tokens_from, tokens_of}
use Rattle.fmt_lexer.specs.declared.token.Token.{Token}
use Rattle.byte_classes.specs.Bytes.{is_blank}
use Rattle.fmt_lexer.specs.Tokens.{IsTokenOf, IsOutside, AreTokens}
use Rattle.std.proofs.lemmas.Bool.{ltb-true, lt-ltb}
use Rattle.fmt_lexer.proofs.Steps.{guarded}
use Rattle.fmt_lexer.proofs.Rows.{Follow, tokens_follow, follow_tokens, placed}

abbrev IsBefore : Token → Token → Type 0
IsBefore one later = one.end ≤ later.start

each : (text : List ℕ) (at : ℕ) (ts : List Token) → Follow text at ts → All (IsTokenOf text) ts
each text at [] f = All-nil (IsTokenOf text)
each text at (t ∷ ts) f = All-cons (IsTokenOf text) t ts f.2 (each text t.end ts f.3)

all_behind : (text : List ℕ) (at : ℕ) (ts : List Token) → Follow text at ts → All (λ t. at ≤ t.start) ts
all_behind text at [] f = All-nil (λ t. at ≤ t.start)
all_behind text at (t ∷ ts) f =
    let low = f.0 in
    let forward = (placed text t f.2).forward in
    All-cons (λ u. at ≤ u.start) t ts low (All-weaker (λ u. t.end ≤ u.start) (λ u. at ≤ u.start) (λ u h. omega arith) ts (all_behind text t.end ts f.3))

in_order : (text : List ℕ) (at : ℕ) (ts : List Token) → Follow text at ts → AllPairs IsBefore ts
in_order text at [] f = λ i j d lt within. absurd (omega arith)
in_order text at (t ∷ ts) f = AllPairs-cons IsBefore t ts (all_behind text t.end ts f.3) (in_order text t.end ts f.3)

blanks : (text : List ℕ) (at : ℕ) (ts : List Token) → Follow text at ts → (k : ℕ) → at ≤ k → k < length text → All (IsOutside k) ts → is_blank (get_or text k 0) ≡ true
blanks text at [] f k low lt out = f k low lt
blanks text at (t ∷ ts) f k low lt out = elim (All-head (IsOutside k) t ts out) [
  | inl before ↦ f.1 k low before
  | inr behind ↦ blanks text t.end ts f.3 k behind lt (All-tail (IsOutside k) t ts out)
]

pub follow_are : (text : List ℕ) (ts : List Token) → Follow text 0 ts → AreTokens text ts
follow_are text ts f = record { each = each text 0 ts f; in_order = in_order text 0 ts f; blanks = λ k lt. blanks text 0 ts f k (omega arith) lt }

pairs_head : (t : Token) (ts : List Token) → AllPairs IsBefore (t ∷ ts) → All (λ u. t.end ≤ u.start) ts
pairs_head t ts p = λ k d lt. p 0 (suc k) d (omega arith) (omega arith)

pairs_tail : (t : Token) (ts : List Token) → AllPairs IsBefore (t ∷ ts) → AllPairs IsBefore ts
pairs_tail t ts p = λ i j d lt within. p (suc i) (suc j) d (omega arith) (omega arith)

-- the same from a place on, at or after which all the tokens stand
record From (text : List ℕ) (at : ℕ) (ts : List Token) : Type 0 where
  tokens : All (IsTokenOf text) ts
  pairs : AllPairs IsBefore ts
  behind : All (λ t. at ≤ t.start) ts
  between : (k : ℕ) → at ≤ k → k < length text → All (IsOutside k) ts → is_blank (get_or text k 0) ≡ true

before_all : (k : ℕ) (t : Token) (ts : List Token) → k < t.start → t.start ≤ t.end → All (λ u. t.end ≤ u.start) ts → All (IsOutside k) (t ∷ ts)
before_all k t ts lt forward later = All-cons (IsOutside k) t ts (inl lt) (All-weaker (λ u. t.end ≤ u.start) (IsOutside k) (λ u h. inl (omega arith)) ts later)

from_follow : (text : List ℕ) (at : ℕ) (ts : List Token) → From text at ts → Follow text at ts
from_follow text at [] f = λ k low lt. f.between k low lt (All-nil (IsOutside k))
from_follow text at (t ∷ ts) f =
    let here : IsTokenOf text t = All-head (IsTokenOf text) t ts f.tokens in
    let low : at ≤ t.start = All-head (λ u. at ≤ u.start) t ts f.behind in
    let later = pairs_head t ts f.pairs in
    let within = here.within in
    let forward = (placed text t here).forward in
    let gap : (k : ℕ) → at ≤ k → k < t.start → is_blank (get_or text k 0) ≡ true = λ k from lt. f.between k from (omega arith) (before_all k t ts lt (omega arith) later) in (
      low,
      gap,
      here,
      from_follow text t.end ts (record {
        tokens = All-tail (IsTokenOf text) t ts f.tokens;
        pairs = pairs_tail t ts f.pairs;
        behind = later;
        between = λ k from lt out. f.between k (omega arith) lt (All-cons (IsOutside k) t ts (inr from) out);
      }),
    )

pub are_follow : (text : List ℕ) (ts : List Token) → AreTokens text ts → Follow text 0 ts
are_follow text ts a = from_follow text 0 ts (record { tokens = a.each; pairs = a.in_order; behind = λ k d lt. omega arith; between = λ k low lt out. a.blanks k lt out })

-- what is computed are the tokens
pub row_sound : (text : List ℕ) (ts : List Token) → tokens_from 0 0 text ≡ Some ts → AreTokens text ts
row_sound text ts h = follow_are text ts (tokens_follow text ts h)

-- the tokens are computed
pub row_complete : (text : List ℕ) (ts : List Token) → AreTokens text ts → tokens_from 0 0 text ≡ Some ts
row_complete text ts a = follow_tokens text ts (are_follow text ts a)

-- a text has one row of tokens
pub same_row : (text : List ℕ) (ts us : List Token) → AreTokens text ts → AreTokens text us → ts ≡ us
same_row text ts us a b = same_Some ts us (sym (row_complete text ts a) ∙ row_complete text us b)

pub computed_tokens : (text : List ℕ) (ts : List Token) → (tokens_of text ≡ Some ts) ↔ (AreTokens text ts × (length text < 2 ^ 32))
unfolding tokens_of
computed_tokens text ts = (
  λ h.
      let row = guarded (ltb (length text) (2 ^ 32)) (tokens_from 0 0 text) ts h in
      (row_sound text ts row.1, ltb-true _ _ row.0),
  λ a.
      let short : ltb (length text) (2 ^ 32) ≡ true = lt-ltb _ _ a.1 in
      ap (λ (b : Bool). cond b (tokens_from 0 0 text) None) short ∙ row_complete text ts a.0,
)
