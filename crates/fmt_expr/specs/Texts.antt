-- Adjoining texts, which are one (C11 5.1.1.2, phase 6).
use Rattle.std.specs.Prelude.{◌≡◌, ℕ, ◌+◌, List, [], ◌∷◌, ◌++◌, drop, Option, Some, None, nat_lt, if◌then◌else◌}
use Rattle.fmt_lexer.specs.declared.token.Token.{Token}
use Rattle.fmt_lexer.specs.Tokens.{bytes_of}
use Rattle.fmt_expr.specs.Source.{Source, as_text, literal_at}

-- the texts from a place on, joined, for as long as the next token is one
pub data AreTexts (s : Source) : ℕ → List ℕ → ℕ → Type 0 where
  last : {i : ℕ} {text : List ℕ} → literal_at s i ≡ Some text → literal_at s (i + 1) ≡ None → AreTexts s i text (i + 1)
  joined : {i j : ℕ} {text rest : List ℕ} → literal_at s i ≡ Some text → AreTexts s (i + 1) rest j → AreTexts s i (text ++ rest) j

-- the bytes of a row of texts, and how many there are
pub record Texts : Type 0 where
  pub bytes : List ℕ
  pub len : ℕ

abbrev pub texts : List ℕ → ℕ → Texts
texts bytes len = record { bytes = bytes; len = len }

abbrev pub with_text : Option (List ℕ) → Texts → Texts
with_text None r = texts [] 0
with_text (Some text) r = texts (text ++ r.bytes) (1 + r.len)

abbrev pub texts_in : List ℕ → List Token → Texts
texts_in text [] = texts [] 0
texts_in text (t ∷ ts) = with_text (as_text t.kind (bytes_of text t)) (texts_in text ts)

unfoldable pub texts_from : Source → ℕ → Texts
texts_from s i = texts_in s.text (drop i s.tokens)

-- joined texts, and the place after them
pub record Joined : Type 0 where
  pub text : List ℕ
  pub next : ℕ

abbrev pub joined_text : List ℕ → ℕ → Joined
joined_text text next = record { text = text; next = next }

unfoldable pub text_at : Source → ℕ → Option Joined
text_at s i = if nat_lt 0 (texts_from s i).len then Some (joined_text (texts_from s i).bytes (i + (texts_from s i).len)) else None
