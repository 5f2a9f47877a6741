-- A piece that is copied after what was put, where there is room for it: one of sixteen bytes, of which the first count, or a whole one.
use Rattle.std.proofs.Common.{◌≡◌, ℕ, ◌+◌, ◌^◌, ◌<◌, ◌≤◌, min, List, ◌++◌, length, take, drop, refl, sym, ap, ◌∙◌, length-append, length-drop, arith}
use Rattle.std.proofs.Math.Seq.{take-append-add}
use Rattle.std.proofs.lemmas.List.{length-take, take-take, take_all}
use Rattle.std.proofs.lemmas.Slice.{take-put_mid}
use Rattle.trace_base.specs.Kept.{Held, most, put_held}
use borrow.Rule.Slice.PartMut.{put_mid}

-- the first of what is copied from the front of a text
first_copied : (len : ℕ) (copied text : List ℕ) → copied ≡ take 16 text → len ≤ 16 → take len copied ≡ take len text
first_copied len copied text is le = ap (take len) is ∙ take-take len 16 text le

added : (at k len : ℕ) (into copied piece : List ℕ) → at ≤ length into → len ≤ length copied → take len copied ≡ piece → take (at + len) (put_mid at k into copied) ≡ take at into ++ piece
added at k len into copied piece within le is =
    let whole = take-put_mid at k into copied (at + length copied) refl within in
    let same : at + len ≡ length (take at into) + len = omega (arith, within, length-take at into) in
    sym (take-take (at + len) (at + length copied) (put_mid at k into copied) (omega (arith, le)))
    ∙ ap (take (at + len)) whole
    ∙ ap (λ (n : ℕ). take n (take at into ++ copied)) same
    ∙ take-append-add (take at into) copied len
    ∙ ap (λ (l : List ℕ). take at into ++ l) is

abbrev made : ℕ → List ℕ → ℕ → Held
made room bytes total = record { room = room; bytes = bytes; total = total }

same_held : {r s t u : ℕ} {b c : List ℕ} → r ≡ s → b ≡ c → t ≡ u → made r b t ≡ made s c u
same_held {s = s} {t = t} {b = b} {c = c} is_r is_b is_t = ap (λ (k : ℕ). made k b t) is_r ∙ ap (λ (x : List ℕ). made s x t) is_b ∙ ap (made s c) is_t

length_mid : (at k : ℕ) (into copied : List ℕ) → k ≡ length copied → at + k ≤ length into → length (put_mid at k into copied) ≡ length into
length_mid at k into copied is within =
    omega (arith, is, within, length-append (take at into) (copied ++ drop k (drop at into)), length-append copied (drop k (drop at into)), length-take at into, length-drop k (drop at into), length-drop at into)

pub front_put : (total k len : ℕ) (into copied text : List ℕ) → length into < 2 ^ 63 → k ≡ 16 → total + 16 ≤ length into → copied ≡ take 16 text → len ≤ 16 → 16 ≤ length text
    → made (length (put_mid total k into copied)) (take (total + len) (put_mid total k into copied)) (min (total + len) most) ≡ put_held (made (length into) (take total into) (min total most)) (take len text)
unfolding put_held
front_put total k len into copied text small is_k room is le longer =
    let sixteen : length copied ≡ 16 = omega (arith, ap length is, length-take 16 text, longer) in
    let piece : length (take len text) ≡ len = omega (arith, length-take len text, le, longer) in
    same_held (length_mid total k into copied (omega (arith, is_k, sixteen)) (omega (arith, is_k, room)))
    (added total k len into copied (take len text) (omega (arith, room)) (omega (arith, sixteen, le)) (first_copied len copied text is le)
    ∙ sym (take_all (length into) (take total into ++ take len text) (omega (arith, room, le, piece, length-append (take total into) (take len text), length-take total into))))
    (omega (arith, small, room, piece))

pub piece_put : (total k : ℕ) (into copied piece : List ℕ) → length into < 2 ^ 63 → k ≡ length piece → total + length piece ≤ length into → copied ≡ piece
    → made (length (put_mid total k into copied)) (take (total + length piece) (put_mid total k into copied)) (min (total + length piece) most) ≡ put_held (made (length into) (take total into) (min total most)) piece
unfolding put_held
piece_put total k into copied piece small is_k room is =
    let same : length copied ≡ length piece = ap length is in
    same_held (length_mid total k into copied (omega (arith, is_k, same)) (omega (arith, is_k, room)))
    (added total k (length piece) into copied piece (omega (arith, room)) (omega (arith, same)) (take_all (length piece) copied (omega (arith, same)) ∙ is)
    ∙ sym (take_all (length into) (take total into ++ piece) (omega (arith, room, length-append (take total into) piece, length-take total into))))
    (omega (arith, small, room))
