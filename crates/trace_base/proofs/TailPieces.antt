-- A piece that is copied by its two ends, which may overlap.
use Rattle.std.proofs.Common.{◌≡◌, ℕ, ◌+◌, ◌-◌, ◌≤◌, List, ◌++◌, length, take, drop, sym, ap, ◌∙◌, length-drop, arith}
use Rattle.std.proofs.lemmas.List.{length-take, take-take, take-append-le, drop_all, append-nil, take-append-drop}
use borrow.Rule.Slice.PartMut.{put_mid}

pub by_ends : (n rest : ℕ) (piece front other back : List ℕ) → rest ≤ n → n ≤ length piece → front ≡ take n piece → back ≡ drop rest piece → put_mid rest (length (front ++ other) - rest) (front ++ other) back ≡ piece
by_ends n rest piece front other back le within is_front is_back =
    ap (λ (l : List ℕ). take rest (front ++ other) ++ (back ++ l)) (drop_all (length (front ++ other) - rest) (drop rest (front ++ other)) (omega (arith, length-drop rest (front ++ other))))
    ∙ ap (λ (l : List ℕ). take rest (front ++ other) ++ l) (append-nil back)
    ∙ ap (λ (l : List ℕ). take rest (l ++ other) ++ back) is_front
    ∙ ap (λ (l : List ℕ). l ++ back) (take-append-le rest (take n piece) other (omega (arith, length-take n piece, le, within)) ∙ take-take rest n piece le)
    ∙ ap (λ (l : List ℕ). take rest piece ++ l) is_back
    ∙ take-append-drop rest piece
