-- The search for the mark that closes a text, one byte on.
use Rattle.std.proofs.Common.{◌≡◌, ℕ, ◌+◌, ◌<◌, ◌≤◌, Bool, true, false, eqb, List, ◌∷◌, length, drop, get_or, Option, Some, None, refl, sym, ap, subst, ◌∙◌, arith}
use Rattle.std.proofs.lemmas.Bool.{ne_eqb}
use Rattle.std.specs.Option.{option_map}
use Rattle.std.proofs.lemmas.List.{drop_more, drop_all}
use Rattle.fmt_lexer.specs.Reading.{text_from, text_len}

-- a length that is counted from a place further on
abbrev pub shifted : ℕ → Option ℕ → Option ℕ
shifted i len = option_map (λ n. i + n) len

pub shifted_twice : (i j : ℕ) (len : Option ℕ) → shifted i (shifted j len) ≡ shifted (i + j) len
shifted_twice i j None = refl
shifted_twice i j (Some n) = ap (λ (m : ℕ). Some m) (omega arith)

shifted_more : (i : ℕ) (len : Option ℕ) → shifted i (option_map (λ n. 1 + n) len) ≡ shifted (i + 1) len
shifted_more i None = refl
shifted_more i (Some n) = ap (λ (m : ℕ). Some m) (omega arith)

pub shifted_none : (len : Option ℕ) → shifted 0 len ≡ len
shifted_none None = refl
shifted_none (Some n) = ap (λ (m : ℕ). Some m) (omega arith)

-- what may stand at a place that closes nothing, and whether a backslash is open after it
pub data Passes : Bool → ℕ → Bool → Type 0 where
  escaped : (b : ℕ) → Passes true b false
  other : (b : ℕ) → eqb b 34 ≡ false → Passes false b (eqb b 92)

passes_first : (i b : ℕ) (bytes : List ℕ) (before after : Bool) → Passes before b after → shifted i (text_from before (b ∷ bytes)) ≡ shifted (i + 1) (text_from after bytes)
unfolding text_from
passes_first i b bytes before after (escaped _) = shifted_more i (text_from false bytes)
passes_first i b bytes before after (other _ no_mark) = rw no_mark (shifted_more i (text_from (eqb b 92) bytes))

pub passes : (bytes : List ℕ) (i : ℕ) (before after : Bool) → i < length bytes → Passes before (get_or bytes i 0) after → shifted i (text_from before (drop i bytes)) ≡ shifted (i + 1) (text_from after (drop (i + 1) bytes))
passes bytes i before after h p = ap (λ (t : List ℕ). shifted i (text_from before t)) (drop_more bytes i 0 h) ∙ passes_first i (get_or bytes i 0) (drop (i + 1) bytes) before after p

pub at_mark : (bytes : List ℕ) (i : ℕ) (before : Bool) → i < length bytes → before ≡ false → get_or bytes i 0 ≡ 34 → shifted i (text_from before (drop i bytes)) ≡ Some (i + 1)
unfolding text_from
at_mark bytes i before h e m = rw (drop_more bytes i 0 h, e, m) refl

pub at_end : (bytes : List ℕ) (i : ℕ) (before : Bool) → length bytes ≤ i → shifted i (text_from before (drop i bytes)) ≡ None
unfolding text_from
at_end bytes i true h = rw (drop_all i bytes h) refl
at_end bytes i false h = rw (drop_all i bytes h) refl

pub from_start : (bytes : List ℕ) → shifted 0 (text_from false (drop 0 bytes)) ≡ text_len bytes
unfolding text_len
from_start bytes = shifted_none (text_from false bytes)

pub from_backslash : (b : ℕ) (before after : Bool) → before ≡ true → after ≡ false → Passes before b after
from_backslash b true false e f = escaped b
from_backslash b true true e f = absurd cc
from_backslash b false after e f = absurd cc

pub from_byte : (b : ℕ) (before after : Bool) → before ≡ false → (b ≡ 34 → ⊥) → after ≡ eqb b 92 → Passes before b after
from_byte b true after e never f = absurd cc
from_byte b false after e never f = subst (Passes false b) (sym f) (other b (ne_eqb b 34 never))
