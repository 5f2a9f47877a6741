-- Pieces that are put one after another, with a text between them.
use Rattle.std.proofs.Common.{◌≡◌, ℕ, zero, suc, ◌+◌, ◌-◌, ◌<◌, ◌≤◌, Bool, true, false, List, [], ◌∷◌, ◌++◌, length, map, take, drop, get_or, refl, sym, ap, ◌∙◌, arith}
use Rattle.std.specs.Prelude.{if◌then◌else◌, codes}
use Rattle.std.proofs.lemmas.List.{drop_more, drop_all}
use Rattle.std.proofs.lemmas.Bool.{lt-leb, le-leb}
use Rattle.trace_base.specs.declared.order.Order.{Order}
use Rattle.trace_base.specs.declared.tail.Tail.{Tail}
use Rattle.trace_base.specs.Number.{num}
use Rattle.trace_base.specs.Fields.{unsigned_in, is_size}
use Rattle.trace_base.specs.Kept.{Kept, put}
use Rattle.trace_base.specs.TailView.{kept}
use Rattle.trace_base.proofs.TailJoins.{put_put, put_nothing}
use Rattle.fmt_eval.specs.Pieces.{join_behind, hexadecimal}
use Rattle.fmt_eval.specs.Arrays.{elements, elements_from}

-- a piece, after the text that stands between it and those before
abbrev pub behind : Bool → List ℕ → List ℕ → List ℕ
behind some between piece = if some then between ++ piece else piece

pub piece_first : (some : Bool) (between piece : List ℕ) (pieces : List (List ℕ)) → join_behind some between (piece ∷ pieces) ≡ behind some between piece ++ join_behind true between pieces
piece_first true between piece pieces = refl
piece_first false between piece pieces = refl

pub none_behind : (some : Bool) (between : List ℕ) → join_behind some between [] ≡ []
none_behind true between = refl
none_behind false between = refl

pub piece_put : (k now r : Kept) (some : Bool) (between piece : List ℕ) (pieces : List (List ℕ)) → now ≡ put k (behind some between piece) → put k (join_behind some between (piece ∷ pieces)) ≡ r → put now (join_behind true between pieces) ≡ r
piece_put k now r some between piece pieces is_now before =
    ap (λ (m : Kept). put m (join_behind true between pieces)) is_now
    ∙ put_put k (behind some between piece) (join_behind true between pieces)
    ∙ ap (put k) (sym (piece_first some between piece pieces)) ∙ before

-- a loop over what is to be put: one step on, and at the end
pub join_more : {X : Type 0} (f : X → List ℕ) (k now r : Kept) (xs : List X) (i : ℕ) (d : X) (some : Bool) (between : List ℕ) → i < length xs → now ≡ put k (behind some between (f (get_or xs i d)))
    → put k (join_behind some between (map f (drop i xs))) ≡ r → put now (join_behind true between (map f (drop (i + 1) xs))) ≡ r
join_more f k now r xs i d some between lt is_now before =
    piece_put k now r some between (f (get_or xs i d)) (map f (drop (i + 1) xs)) is_now
    (ap (λ ys. put k (join_behind some between (map f ys))) (sym (drop_more xs i d lt)) ∙ before)

pub join_end : {X : Type 0} (f : X → List ℕ) (t : Tail) (r : Kept) (xs : List X) (i : ℕ) (some : Bool) (between : List ℕ) → length xs ≤ i → put (kept t) (join_behind some between (map f (drop i xs))) ≡ r → kept t ≡ r
join_end f t r xs i some between le before =
    sym (put_nothing t) ∙ ap (put (kept t)) (sym (ap (λ ys. join_behind some between (map f ys)) (drop_all i xs le) ∙ none_behind some between)) ∙ before

-- elements: one step on, and at the end
one_element : (count : ℕ) (order : Order) (size : ℕ) (bytes : List ℕ) → 0 < count → size ≤ length bytes → elements count order size bytes ≡ num order (take size bytes) ∷ elements (count - 1) order size (drop size bytes)
unfolding elements
one_element zero order size bytes some le = absurd (omega arith)
one_element (suc count) order size bytes some le = rw (le-leb size (length bytes) le) (ap (λ (n : ℕ). num order (take size bytes) ∷ elements n order size (drop size bytes)) (omega arith))

pub no_element : (count : ℕ) (order : Order) (size : ℕ) (bytes : List ℕ) → (count ≡ 0) → elements count order size bytes ≡ []
unfolding elements
no_element zero order size bytes none = refl
no_element (suc count) order size bytes none = absurd (omega arith)

pub no_room : (count : ℕ) (order : Order) (size : ℕ) (bytes : List ℕ) → length bytes < size → elements count order size bytes ≡ []
unfolding elements
no_room zero order size bytes lt = refl
no_room (suc count) order size bytes lt = rw (lt-leb size (length bytes) lt) refl

whole_is : (order : Order) (size : ℕ) (bytes : List ℕ) → is_size size ≡ true → size ≤ length bytes → unsigned_in order bytes 0 size ≡ num order (take size bytes)
unfolding unsigned_in
whole_is order size bytes is le = rw is (rw (le-leb (0 + size) (length bytes) (omega arith)) refl)

joined : (some : Bool) (piece : List ℕ) → (if some then codes "," else []) ++ piece ≡ behind some (codes ",") piece
joined true piece = refl
joined false piece = refl

pub element_more : (k mid now r : Kept) (some : Bool) (count : ℕ) (order : Order) (size : ℕ) (bytes : List ℕ) → is_size size ≡ true → 0 < count → size ≤ length bytes → mid ≡ put k (if some then codes "," else []) → now ≡ put mid (hexadecimal (unsigned_in order bytes 0 size))
    → put k (elements_from some count order size bytes) ≡ r → put now (elements_from true (count - 1) order size (drop size bytes)) ≡ r
unfolding elements_from
element_more k mid now r some count order size bytes is more le is_mid is_now before =
    piece_put k now r some (codes ",") (hexadecimal (num order (take size bytes))) (map hexadecimal (elements (count - 1) order size (drop size bytes)))
    (is_now ∙ ap (λ (n : ℕ). put mid (hexadecimal n)) (whole_is order size bytes is le) ∙ ap (λ (m : Kept). put m (hexadecimal (num order (take size bytes)))) is_mid
    ∙ put_put k (if some then codes "," else []) (hexadecimal (num order (take size bytes))) ∙ ap (put k) (joined some (hexadecimal (num order (take size bytes)))))
    (ap (λ (ns : List ℕ). put k (join_behind some (codes ",") (map hexadecimal ns))) (sym (one_element count order size bytes more le)) ∙ before)

pub elements_end : (t : Tail) (r : Kept) (some : Bool) (count : ℕ) (order : Order) (size : ℕ) (bytes : List ℕ) → elements count order size bytes ≡ [] → put (kept t) (elements_from some count order size bytes) ≡ r → kept t ≡ r
unfolding elements_from
elements_end t r some count order size bytes none before =
    sym (put_nothing t) ∙ ap (put (kept t)) (sym (ap (λ (ns : List ℕ). join_behind some (codes ",") (map hexadecimal ns)) none ∙ none_behind some (codes ","))) ∙ before

pub braced : (k one two now : Kept) (text : List ℕ) → one ≡ put k (codes "{") → two ≡ put one text → now ≡ put two (codes "}") → now ≡ put k (codes "{" ++ (text ++ codes "}"))
braced k one two now text first second third =
    third ∙ ap (λ (m : Kept). put m (codes "}")) second ∙ put_put one text (codes "}") ∙ ap (λ (m : Kept). put m (text ++ codes "}")) first ∙ put_put k (codes "{") (text ++ codes "}")
