-- A piece that is put after others, as far as there is room.
use Rattle.std.proofs.Common.{◌≡◌, ℕ, ◌+◌, ◌-◌, ◌^◌, ◌<◌, ◌≤◌, min, List, [], ◌∷◌, ◌++◌, length, take, drop, Option, Some, None, refl, sym, ap, ◌∙◌, append_assoc, length-append, length-drop, arith, inl, inr}
use Rattle.std.specs.Prelude.{slice_get, nat_lt, if◌then◌else◌, Bool}
use Rattle.std.specs.List.{last_or, prefix_len}
use Rattle.std.specs.Option.{option_or}
use Rattle.std.proofs.lemmas.Bool.{cases_lt}
use Rattle.std.proofs.lemmas.List.{length-take, take_all, take-take, take_at, take-append-le, take_min, drop_all, append-nil}
use Rattle.std.proofs.Math.Seq.{take-append-add}
use Rattle.trace_base.specs.Kept.{Kept, put, most, is_letter, nul_in, nul_after}
use borrow.Rule.Slice.PartMut.{put_mid}

last_at : (before : Option ℕ) (x : ℕ) (xs : List ℕ) → slice_get (x ∷ xs) (length xs) ≡ last_or before (x ∷ xs)
last_at before x [] = refl
last_at before x (y ∷ xs) = last_at (Some x) y xs

last_of : (before : Option ℕ) (x : ℕ) (xs : List ℕ) → slice_get (x ∷ xs) (length (x ∷ xs) - 1) ≡ last_or before (x ∷ xs)
last_of before x xs = ap (slice_get (x ∷ xs)) (omega arith) ∙ last_at before x xs

some_last : (before : Option ℕ) (x : ℕ) (xs : List ℕ) → last_or before (x ∷ xs) ≡ None → ⊥
some_last before x [] e = grind (arith, e)
some_last before x (y ∷ xs) e = some_last (Some x) y xs e

pub last_some : (before : Option ℕ) (x : ℕ) (xs : List ℕ) → Some x ≡ slice_get xs (length xs - 1) → Some x ≡ last_or before xs
last_some before x [] e = absurd (grind (arith, e))
last_some before x (y ∷ xs) e = e ∙ last_of before y xs

pub last_none : (before : Option ℕ) (xs : List ℕ) → None ≡ slice_get xs (length xs - 1) → before ≡ last_or before xs
last_none before [] e = refl
last_none before (y ∷ xs) e = absurd (some_last before y xs (sym (e ∙ last_of before y xs)))

-- What a slice holds after a piece was put after its first bytes, as far as there is room: other is what
-- would follow the piece.
written : (into piece other : List ℕ) (at : ℕ) → at ≤ length into → put_mid at (length into - at) into (take (length into - at) (piece ++ other)) ≡ take (length into) (take at into ++ (piece ++ other))
written into piece other at le =
    let front : length (take at into) ≡ at = omega (arith, length-take at into) in
    ap (λ (rest : List ℕ). take at into ++ (take (length into - at) (piece ++ other) ++ rest)) (drop_all (length into - at) (drop at into) (omega (arith, length-drop at into)))
    ∙ ap (λ (rest : List ℕ). take at into ++ rest) (append-nil (take (length into - at) (piece ++ other)))
    ∙ sym (take-append-add (take at into) (piece ++ other) (length into - at))
    ∙ ap (λ (n : ℕ). take n (take at into ++ (piece ++ other))) (omega arith)

kept_put : (into piece other : List ℕ) (total now : ℕ) → length into < 2 ^ 63 → now ≡ min (total + length piece) (2 ^ 64 - 1) → length into ≤ min total (length into) + (length piece + length other)
    → take now (put_mid (min total (length into)) (length into - min total (length into)) into (take (length into - min total (length into)) (piece ++ other)))
    ≡ take (length into) (take total into ++ piece)
kept_put into piece other total now small is_now room =
    let at : ℕ = min total (length into) in
    let front : length (take total into) ≡ at = length-take total into in
    let whole : length (take total into ++ piece) ≡ at + length piece = omega (arith, front, length-append (take total into) piece) in
    let most : length (take (length into) (take total into ++ (piece ++ other))) ≤ length into = omega (arith, length-take (length into) (take total into ++ (piece ++ other))) in
    ap (take now) (written into piece other at (omega arith) ∙ ap (λ (l : List ℕ). take (length into) (l ++ (piece ++ other))) (take_min total into))
    ∙ (elim (cases_lt now (length into)) as (λ _. take now (take (length into) (take total into ++ (piece ++ other))) ≡ take (length into) (take total into ++ piece)) [
      | inl less ↦ take-take now (length into) (take total into ++ (piece ++ other)) (omega arith)
          ∙ ap (take now) (sym (append_assoc (take total into) piece other))
          ∙ take_at (take total into ++ piece) other now (omega (arith, whole))
          ∙ sym (take_all (length into) (take total into ++ piece) (omega (arith, whole)))
      | inr full ↦ take_all now (take (length into) (take total into ++ (piece ++ other))) (omega (arith, most))
          ∙ ap (take (length into)) (sym (append_assoc (take total into) piece other))
          ∙ take-append-le (length into) (take total into ++ piece) other (omega (arith, whole))
    ])

abbrev made : ℕ → List ℕ → ℕ → Option ℕ → Bool → Option ℕ → Kept
made room bytes total last watches nul = record { room = room; bytes = bytes; total = total; last = last; watches = watches; nul = nul }

pub same_kept : {r s t u : ℕ} {b c : List ℕ} {w : Bool} {l m n o : Option ℕ} → r ≡ s → b ≡ c → t ≡ u → l ≡ m → n ≡ o → made r b t l w n ≡ made s c u m w o
same_kept {s = s} {t = t} {u = u} {b = b} {c = c} {w = w} {l = l} {m = m} {n = n} r is_b is_t is_l is_n =
    ap (λ (k : ℕ). made k b t l w n) r ∙ ap (λ (x : List ℕ). made s x t l w n) is_b ∙ ap (λ (k : ℕ). made s c k l w n) is_t ∙ ap (λ (x : Option ℕ). made s c u x w n) is_l ∙ ap (made s c u m w) is_n

length_put : (into piece other : List ℕ) (at : ℕ) → at ≤ length into → length into ≤ at + (length piece + length other) → length (put_mid at (length into - at) into (take (length into - at) (piece ++ other))) ≡ length into
length_put into piece other at le room =
    let front : length (take at into) ≡ at = omega (arith, length-take at into) in
    ap length (written into piece other at le) ∙ omega (arith, length-take (length into) (take at into ++ (piece ++ other)), length-append (take at into) (piece ++ other), length-append piece other, front)

-- a total that is told tells the same place
nul_bound : (total : ℕ) (piece : List ℕ) → nul_in total piece ≡ nul_in (min total most) piece
nul_bound total piece = ap (λ (n : ℕ). if nat_lt (prefix_len is_letter piece) (length piece) then Some n else None) (omega arith)

-- what the part of the slice after the first bytes held
abbrev behind : List ℕ → ℕ → List ℕ
behind into at = take (length into - at) (drop at into)

pub put_is : (into piece fresh : List ℕ) (total at now : ℕ) (watches : Bool) (before last nul now_nul : Option ℕ) → length into < 2 ^ 63 → at ≡ min total (length into) → now ≡ min (total + length piece) (2 ^ 64 - 1)
    → fresh ≡ take (length (behind into at)) (piece ++ drop (length piece) (behind into at)) → last ≡ last_or before piece → now_nul ≡ nul_after watches nul total piece
    → made (length (put_mid at (length into - at) into fresh)) (take now (put_mid at (length into - at) into fresh)) (min now (2 ^ 64 - 1)) last watches now_nul ≡ put (made (length into) (take total into) (min total (2 ^ 64 - 1)) before watches nul) piece
unfolding put
put_is into piece fresh total at now watches before last nul now_nul small is_at is_now is_fresh is_last is_nul =
    let mid : length (behind into at) ≡ length into - at = omega (arith, length-take (length into - at) (drop at into), length-drop at into) in
    let other : List ℕ = drop (length piece) (behind into at) in
    let room : length into ≤ at + (length piece + length other) = omega (arith, length-drop (length piece) (behind into at), mid) in
    let fresh_is : fresh ≡ take (length into - at) (piece ++ other) = is_fresh ∙ ap (λ (n : ℕ). take n (piece ++ other)) mid in
    let within : at ≤ length into = omega arith in
    same_kept
    (ap (λ (f : List ℕ). length (put_mid at (length into - at) into f)) fresh_is ∙ length_put into piece other at within room)
    (ap (λ (f : List ℕ). take now (put_mid at (length into - at) into f)) fresh_is
    ∙ ap (λ (n : ℕ). take now (put_mid n (length into - n) into (take (length into - n) (piece ++ other)))) is_at
    ∙ kept_put into piece other total now small is_now (omega (arith, room, is_at)))
    (omega (arith, is_now)) is_last (is_nul ∙ ap (λ (n : Option ℕ). if watches then option_or nul n else nul) (nul_bound total piece))
