-- Letters and texts: bytes and escapes between two quotation marks, after C11 6.4.4.4 and 6.4.5.
use Rattle.std.specs.Prelude.{◌≡◌, ◌≢◌, ℕ, ◌≤◌, List, [], ◌∷◌, ◌++◌, length, IsTrue}
use Rattle.std.specs.List.{All, AllPass, concat}
use Rattle.std.specs.Char.{is_ascii_hexdigit}
use Rattle.fmt_lexer.specs.Bytes.{apostrophe, quote, backslash, is_octal}

-- The escapes: `\x` and two hexadecimal digits, `\` and one to three octal digits, and `\` and any byte.
-- Where several would do, the longest is meant.
pub data IsEscape : List ℕ → Type 0 where
  hexadecimal : (high low : ℕ) → IsTrue (is_ascii_hexdigit high) → IsTrue (is_ascii_hexdigit low) → IsEscape (backslash ∷ 120 ∷ high ∷ low ∷ [])
  octal : (digits : List ℕ) → 1 ≤ length digits → length digits ≤ 3 → AllPass is_octal digits → IsEscape (backslash ∷ digits)
  other : (b : ℕ) → IsEscape (backslash ∷ b ∷ [])

-- An escape, or a byte by itself: then it is neither the backslash nor the mark that closes.
pub data IsItem (mark : ℕ) : List ℕ → Type 0 where
  escape : (bytes : List ℕ) → IsEscape bytes → IsItem mark bytes
  byte : (b : ℕ) → b ≢ mark → b ≢ backslash → IsItem mark (b ∷ [])

-- one item between two `'`
pub record IsLetter (bytes : List ℕ) : Type 0 where
  pub item : List ℕ
  pub is_item : IsItem apostrophe item
  pub whole : bytes ≡ apostrophe ∷ (item ++ apostrophe ∷ [])

-- items between two `"`
pub record IsText (bytes : List ℕ) : Type 0 where
  pub items : List (List ℕ)
  pub are_items : All (IsItem quote) items
  pub whole : bytes ≡ quote ∷ (concat items ++ quote ∷ [])
