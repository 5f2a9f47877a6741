-- Rows of spaces, and parts that are put one after another.
use Rattle.std.proofs.Common.{◌≡◌, ℕ, zero, suc, ◌+◌, ◌≤◌, ◌-◌, List, ◌∷◌, ◌++◌, length, Some, take, replicate, refl, sym, ap, ◌∙◌, length-append, arith}
use Rattle.std.specs.Prelude.{codes}
use Rattle.std.proofs.lemmas.List.{append_assoc}
use Rattle.line_columns.specs.Columns.{duration_text}
use Rattle.trace_base.specs.Kept.{Held, put_held}
use Rattle.trace_base.proofs.TailJoins.{put_held_twice}
use Rattle.graph_report.specs.CallText.{duration_column}

pub some_spaces : (n m : ℕ) → n ≤ m → take {A = ℕ} n (replicate m 32) ≡ replicate n 32
some_spaces zero m le = refl
some_spaces (suc n) zero le = absurd (omega (arith, le))
some_spaces (suc n) (suc m) le = ap (λ (l : List ℕ). 32 ∷ l) (some_spaces n m (omega (arith, le)))

joined_parts : (h : Held) (a d b i w : List ℕ) → put_held (put_held (put_held h a) (d ++ (b ++ i))) w ≡ put_held h (a ++ (d ++ (b ++ (i ++ w))))
joined_parts h a d b i w =
    ap (λ (k : Held). put_held k w) (put_held_twice h a (d ++ (b ++ i))) ∙ put_held_twice h (a ++ (d ++ (b ++ i))) w
    ∙ ap (put_held h) (append_assoc a (d ++ (b ++ i)) w ∙ ap (λ (l : List ℕ). a ++ l) (append_assoc d (b ++ i) w ∙ ap (λ (l : List ℕ). d ++ l) (append_assoc b i w)))

-- the columns, then the duration, the bar and the indent, then the word
pub in_parts : (h0 h1 h2 h3 : Held) (a d b i w : List ℕ) → h1 ≡ put_held h0 a → h2 ≡ put_held h1 (d ++ (b ++ i)) → h3 ≡ put_held h2 w
    → h3 ≡ put_held h0 (a ++ (d ++ (b ++ (i ++ w))))
in_parts h0 h1 h2 h3 a d b i w one two three = three ∙ ap (λ (h : Held). put_held h w) (two ∙ ap (λ (h : Held). put_held h (d ++ (b ++ i))) one) ∙ joined_parts h0 a d b i w

-- spaces, and a duration with the bar after them
pub duration_column_is : (h0 h1 h2 : Held) (nanos : ℕ) (text : List ℕ) (count : ℕ) → text ≡ duration_text nanos ++ codes " | " → count ≡ 15 - length text
    → h1 ≡ put_held h0 (replicate count 32) → h2 ≡ put_held h1 text → h2 ≡ put_held h0 (duration_column (Some nanos) ++ codes " | ")
duration_column_is h0 h1 h2 nanos text count same is one two =
    let long : length text ≡ length (duration_text nanos) + 3 = ap (λ (l : List ℕ). length l) same ∙ length-append (duration_text nanos) (codes " | ") in
    let spaces : count ≡ 12 - length (duration_text nanos) = omega (arith, is, long) in
    two ∙ ap (λ (h : Held). put_held h text) one ∙ put_held_twice h0 (replicate count 32) text
    ∙ ap (λ (k : ℕ). put_held h0 (replicate k 32 ++ text)) spaces
    ∙ ap (λ (l : List ℕ). put_held h0 (replicate (12 - length (duration_text nanos)) 32 ++ l)) same
    ∙ ap (put_held h0) (sym (append_assoc (replicate (12 - length (duration_text nanos)) 32) (duration_text nanos) (codes " | ")))

-- a column and the bar, and the indent after them
pub in_middle : (h : Held) (column bar indent : List ℕ) → put_held (put_held h (column ++ bar)) indent ≡ put_held h (column ++ (bar ++ indent))
in_middle h column bar indent = put_held_twice h (column ++ bar) indent ∙ ap (put_held h) (append_assoc column bar indent)
