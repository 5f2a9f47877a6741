-- A text to which more and more of a piece is appended.
use Rattle.std.proofs.Common.{◌≡◌, ℕ, Bool, true, false, if◌then◌else◌, List, [], ◌∷◌, ◌++◌, length, take, drop, refl, sym, ap, ◌∙◌, append_assoc, append-nil}
use Rattle.std.proofs.Math.Seq.{take-append_seam, take-length}
use Rattle.fmt_literal.specs.Escape.{spelled, item, meant}
use Rattle.fmt_literal.specs.Quoted.{inside, text_of}
use Rattle.fmt_literal.specs.Pushed.{GainedFront}
use Rattle.fmt_literal.proofs.Meant.{meant_turn, meant_done}

-- the front of the piece was appended to the text, and the rest of it is left
pub record Grows (before now left piece : List ℕ) : Type 0 where
  pub front : List ℕ
  pub gained : now ≡ before ++ front
  pub whole : front ++ left ≡ piece

pub grows_first : (text piece : List ℕ) → Grows text text piece piece
grows_first text piece = record { front = []; gained = sym (append-nil text); whole = refl }

pub grows_more : (before now piece rest behind : List ℕ) (first len byte : ℕ) → rest ≡ first ∷ behind → spelled byte len ≡ item first behind → Grows before now (meant 0 rest) piece
    → Grows before (now ++ byte ∷ []) (meant 0 (drop len behind)) piece
grows_more before now piece rest behind first len byte r e h = record {
  front = h.front ++ byte ∷ [];
  gained = ap (λ (l : List ℕ). l ++ byte ∷ []) h.gained ∙ append_assoc before h.front (byte ∷ []);
  whole = meant_turn rest behind h.front (h.front ++ byte ∷ []) first len byte r e refl ∙ h.whole;
}

-- nothing was put, or all of it
gained_none : (before now piece : List ℕ) → now ≡ before → GainedFront before now piece
gained_none before now piece same = record { count = 0; gained = same ∙ sym (append-nil before) }

gained_all : (before now piece : List ℕ) → now ≡ before ++ piece → GainedFront before now piece
gained_all before now piece all = record { count = length piece; gained = all ∙ ap (λ (l : List ℕ). before ++ l) (sym (take-length piece)) }

pub gained_by : (before now piece : List ℕ) (all : Bool) → now ≡ (if all then before ++ piece else before) → GainedFront before now piece
gained_by before now piece true is = gained_all before now piece is
gained_by before now piece false is = gained_none before now piece is

pub grown_front : (before now left piece later : List ℕ) → later ≡ now → Grows before now left piece → GainedFront before later piece
grown_front before now left piece later same h = record {
  count = length h.front;
  gained = same ∙ h.gained ∙ ap (λ (l : List ℕ). before ++ l) (sym (ap (take (length h.front)) (sym h.whole) ∙ take-append_seam h.front left));
}

pub grown_whole : (before now rest piece : List ℕ) → length rest ≡ 0 → Grows before now (meant 0 rest) piece → now ≡ before ++ piece
grown_whole before now rest piece none h = h.gained ∙ ap (λ (l : List ℕ). before ++ l) (meant_done rest h.front piece none h.whole)

-- the piece is the text of a spelling
pub front_of_text : (before now bytes spelling : List ℕ) → bytes ≡ inside spelling → GainedFront before now (meant 0 bytes) → GainedFront before now (text_of spelling)
unfolding text_of
front_of_text before now bytes spelling is h = record {
  count = h.count;
  gained = h.gained ∙ ap (λ (l : List ℕ). before ++ take h.count (meant 0 l)) is;
}
