-- The layout of a header_page text.
use Rattle.std.proofs.Common.{◌≡◌, ℕ, suc, true, false, eqb, List, [], ◌∷◌, length, Option, None, Some, refl, arith}
use Rattle.std.proofs.lemmas.Bool.{eqb-true}
use Rattle.std.specs.Prelude.{codes}
use denote.Ref.{Bor}
use Rattle.trace_base.specs.FieldLine.{FieldData}
use Rattle.trace_base.specs.declared.order.Order.{Order}
use Rattle.trace_base.specs.declared.layout.Layout.{Layout}
use Rattle.trace_base.specs.Layout.{IsPlainLayout}
use Rattle.trace_base.proofs.Layouts.{plain_is}
use Rattle.dat_header.specs.PageText.{field_lines, line_named, layout_by, layout_of}

pub layout_found : (order : Order) (long page : ℕ) (text : List ℕ) (time commit content : FieldData) → eqb (length text) 0 ≡ false
    → Some time ≡ line_named (codes "timestamp") (field_lines text) → Some commit ≡ line_named (codes "commit") (field_lines text) → Some content ≡ line_named (codes "data") (field_lines text)
    → layout_by order page time commit content ≡ layout_of order long page text
unfolding layout_of
layout_found order long page [] time commit content some one two three = cc
layout_found order long page (byte ∷ text) time commit content some one two three = rw (← one, ← two, ← three) refl

pub plain_found : (order : Order) (long page : ℕ) (text : List ℕ) (layout : Layout) → eqb (length text) 0 ≡ true → IsPlainLayout order long page layout → Some layout ≡ layout_of order long page text
unfolding layout_of
plain_found order long page [] layout none is = plain_is order long page layout is
plain_found order long page (byte ∷ text) layout none is = let empty : length (byte ∷ text) ≡ 0 = eqb-true (length (byte ∷ text)) 0 none in absurd (omega (arith, empty))

-- how much is left of a text
abbrev pub lines_long : Option (Bor (List ℕ)) → ℕ
lines_long None = 0
lines_long (Some text) = suc (length text.now)
