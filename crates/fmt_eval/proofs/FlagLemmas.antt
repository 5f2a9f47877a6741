-- The pieces of flags.
use Rattle.std.proofs.Common.{◌≡◌, ℕ, zero, suc, ◌<◌, Bool, true, false, List, [], ◌∷◌, ◌++◌, refl, sym, ap, ◌∙◌, arith}
use Rattle.std.specs.Prelude.{◌==◌, if◌then◌else◌, bit_and}
use Rattle.std.specs.Int.{w64, bit_not}
use Rattle.std.specs.Int.Bits.{and_zero_l}
use Rattle.std.proofs.Math.Bool.{and-false}
use Rattle.std.proofs.lemmas.Bool.{ne_eqb}
use Rattle.std.proofs.lemmas.List.{append-nil}
use Rattle.trace_base.specs.Kept.{Kept, put}
use Rattle.trace_base.proofs.TailJoins.{put_put, put_nothing}
use Rattle.trace_base.specs.TailView.{kept}
use Rattle.trace_base.specs.declared.tail.Tail.{Tail}
use Rattle.fmt_eval.specs.Flags.{Row, flag_pieces, is_flag, flags_from, flags_text}
use Rattle.fmt_eval.specs.Pieces.{join, join_behind, hexadecimal}
use Rattle.fmt_eval.proofs.PieceLemmas.{behind, piece_first}

pub flag_put : (k now : Kept) (between text : List ℕ) (value left : ℕ) (some : Bool) (mask : ℕ) (rows : List Row) → is_flag value left some mask ≡ true → now ≡ put k (if some then between ++ text else text)
    → put now (flags_from between value (bit_and left (bit_not w64 mask)) true rows) ≡ put k (flags_from between value left some ((mask, text) ∷ rows))
unfolding flags_from
flag_put k now between text value left some mask rows is is_now =
    let rest = flag_pieces value (bit_and left (bit_not w64 mask)) true rows in
    ap (λ (m : Kept). put m (join_behind true between rest)) is_now
    ∙ put_put k (behind some between text) (join_behind true between rest)
    ∙ ap (put k) (sym (piece_first some between text rest))
    ∙ sym (ap (λ (b : Bool). put k (join_behind some between (if b then text ∷ rest else flag_pieces value left some rows))) is)

pub flag_passed : (k : Kept) (between text : List ℕ) (value left : ℕ) (some : Bool) (mask : ℕ) (rows : List Row) → is_flag value left some mask ≡ false
    → put k (flags_from between value left some rows) ≡ put k (flags_from between value left some ((mask, text) ∷ rows))
unfolding flags_from
flag_passed k between text value left some mask rows is =
    let rest = flag_pieces value (bit_and left (bit_not w64 mask)) true rows in
    sym (ap (λ (b : Bool). put k (join_behind some between (if b then text ∷ rest else flag_pieces value left some rows))) is)

none_left : (some : Bool) (between : List ℕ) (value left : ℕ) → left ≡ 0 → flags_from between value left some [] ≡ []
unfolding flags_from
none_left true between value left none = ap (λ (n : ℕ). join_behind true between (if n == 0 then [] else hexadecimal left ∷ [])) none
none_left false between value left none = ap (λ (n : ℕ). join_behind false between (if n == 0 then [] else hexadecimal left ∷ [])) none

pub rest_none : (t : Tail) (some : Bool) (between : List ℕ) (value left : ℕ) → left ≡ 0 → kept t ≡ put (kept t) (flags_from between value left some [])
rest_none t some between value left none = sym (put_nothing t) ∙ ap (put (kept t)) (sym (none_left some between value left none))

one_left : (some : Bool) (between : List ℕ) (value left : ℕ) → 0 < left → flags_from between value left some [] ≡ (if some then between else []) ++ hexadecimal left
unfolding flags_from
one_left true between value left more = rw (ne_eqb left 0 (omega arith)) (append-nil (between ++ hexadecimal left))
one_left false between value left more = rw (ne_eqb left 0 (omega arith)) (append-nil (hexadecimal left))

pub rest_put : (k mid now : Kept) (some : Bool) (between : List ℕ) (value left : ℕ) → 0 < left → mid ≡ put k (if some then between else []) → now ≡ put mid (hexadecimal left) → now ≡ put k (flags_from between value left some [])
rest_put k mid now some between value left more one two =
    two ∙ ap (λ (m : Kept). put m (hexadecimal left)) one ∙ put_put k (if some then between else []) (hexadecimal left) ∙ ap (put k) (sym (one_left some between value left more))

-- ---- of nothing no mask is printed, where a piece was printed before

no_flag : (value mask : ℕ) → is_flag value 0 true mask ≡ false
no_flag value zero = and-false (value == 0)
no_flag value (suc mask) = rw (ne_eqb (suc mask) 0 (omega arith)) (ap (λ (n : ℕ). n == suc mask) (and_zero_l (suc mask)) ∙ ne_eqb 0 (suc mask) (omega arith))

no_pieces : (value : ℕ) (rows : List Row) → flag_pieces value 0 true rows ≡ []
no_pieces value [] = refl
no_pieces value (row ∷ rows) =
    ap (λ (b : Bool). if b then row.1 ∷ flag_pieces value (bit_and 0 (bit_not w64 row.0)) true rows else flag_pieces value 0 true rows) (no_flag value row.0)
    ∙ no_pieces value rows

pub nothing_left : (t : Tail) (r : Kept) (between : List ℕ) (value left : ℕ) (some : Bool) (rows : List Row) → left ≡ 0 → some ≡ true → put (kept t) (flags_from between value left some rows) ≡ r → kept t ≡ r
unfolding flags_from
nothing_left t r between value left some rows none is before =
    sym (put_nothing t)
    ∙ ap (put (kept t)) (sym (ap (join_behind true between) (no_pieces value rows)))
    ∙ ap (λ (n : ℕ). put (kept t) (join_behind true between (flag_pieces value n true rows))) (sym none)
    ∙ ap (λ (b : Bool). put (kept t) (join_behind b between (flag_pieces value left b rows))) (sym is)
    ∙ before

-- ---- one flag alone

pub one_passed : (value mask : ℕ) (text : List ℕ) (rows : List Row) → is_flag value value false mask ≡ false → flag_pieces value value false ((mask, text) ∷ rows) ≡ flag_pieces value value false rows
one_passed value mask text rows is = ap (λ (b : Bool). if b then text ∷ flag_pieces value (bit_and value (bit_not w64 mask)) true rows else flag_pieces value value false rows) is

pub one_alone : (between : List ℕ) (value mask : ℕ) (text : List ℕ) (rows all : List Row) → is_flag value value false mask ≡ true → bit_and value (bit_not w64 mask) ≡ 0 → flag_pieces value value false ((mask, text) ∷ rows) ≡ flag_pieces value value false all
    → text ≡ flags_text between value all
unfolding flags_text
one_alone between value mask text rows all is none same =
    sym (ap (join between) (sym same
    ∙ ap (λ (b : Bool). if b then text ∷ flag_pieces value (bit_and value (bit_not w64 mask)) true rows else flag_pieces value value false rows) is
    ∙ ap (λ (n : ℕ). text ∷ flag_pieces value n true rows) none
    ∙ ap (λ (ps : List (List ℕ)). text ∷ ps) (no_pieces value rows))
    ∙ append-nil text)
