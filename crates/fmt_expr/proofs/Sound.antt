-- What is computed stands at its place.
use Rattle.std.proofs.Common.{◌≡◌, ℕ, zero, suc, ◌+◌, ◌<◌, ◌≤◌, max, true, List, length, Option, Some, None, refl, sym, ap, subst, ◌∙◌, codes, rules, arith, nat_lt, inl, inr}
use Rattle.fmt_literal.specs.declared.ckind.CKind.{CKind}
use Rattle.fmt_literal.specs.Types.{size_of}
use Rattle.trace_base.specs.declared.field.Field.{Field}
use Rattle.fmt_expr.specs.Tree.{Tree, flags, symbolic, Operands, no_operands, operand, Entries, entry, no_entries}
use Rattle.fmt_expr.specs.Kinds.{kind_of, is_number, is_alike, has_bytes}
use Rattle.fmt_expr.specs.Source.{Source, constant_at, mark_at, is_mark}
use Rattle.fmt_expr.specs.Heads.{head_at}
use Rattle.fmt_expr.specs.Ops.{op_at}
use Rattle.fmt_expr.specs.Texts.{AreTexts, text_at}
use Rattle.fmt_expr.specs.Types.{TypeName, closed_type}
use Rattle.fmt_expr.specs.Fields.{is_indexed, named_at, dynamic_at}
use Rattle.trace_base.specs.OptionSteps.{◌>>=◌}
use Rattle.fmt_expr.specs.Parsing.{Found, found, Row, row, Read, Inner, nothing, layer, within, top, row_at, row_step, row_behind, joined, joined_with, with_operand, level_at, choice_at, cond_with, cond_at, unary_by, unary_with, call_by, Valued, Listed, listed, with_entry, entry_at, tail_at, entries_behind, entries_at, argument_at, flags_at, symbolic_at, hex_at, array_at, sized_at, got_at, constant_or, leaf_at, number_before, element_at, field_at, cast_at, open_by, open_at, bracket_at, prefixed_at}
use Rattle.fmt_expr.specs.Derivation.{IsCond, plain, conditional, IsLevel, unary, single, several, IsRow, no_more, goes_on, IsUnary, prefixed, bracketed, casted, field, indexed, constant, texts, sized, got, flagged, symbolized, in_hex, in_array, IsEntry, braced, AreEntries, last, further}
use Rattle.fmt_expr.specs.declared.expr.PrefixOp.{PrefixOp}
use Rattle.fmt_expr.specs.declared.head.Got.{Got}
use Rattle.fmt_expr.specs.declared.head.Builtin.{Builtin}
use Rattle.fmt_expr.specs.declared.head.Builtin.TheVariants.{Get, SizeOf, Flags, Symbolic, Hex, Array}
use Rattle.fmt_expr.specs.declared.head.Head.{Head}
use Rattle.fmt_expr.specs.declared.head.Head.TheVariants.{Operator, Open, Record, Builtin as Called, Other}
use Rattle.fmt_expr.specs.declared.kinds.Kind.TheVariants.{Number}
use Rattle.fmt_expr.proofs.Chances.{bind_some, map_some, guarded, chosen, some_is, option_cases, none_is}
use Rattle.fmt_expr.proofs.NoTypes.{closed_parts}
use Rattle.fmt_expr.proofs.Places.{mark_is, not_mark, same_is}
use Rattle.fmt_expr.proofs.TextRows.{texts_stand}

number_is : (t : Tree) → is_number t ≡ true → kind_of t ≡ Number
number_is t e = same_is (kind_of t) Number e

-- a tree that stands at a place, and nests below a bound
abbrev pub Level : Source → ℕ → ℕ → ℕ → Found → Type 0
Level s n l i x = IsLevel s l i x.tree x.nest x.next × (x.nest ≤ n)

abbrev pub Unary : Source → ℕ → ℕ → Found → Type 0
Unary s n i x = IsUnary s i x.tree x.nest x.next × (x.nest ≤ n)

abbrev pub Cond : Source → ℕ → ℕ → Found → Type 0
Cond s n i x = IsCond s i x.tree x.nest x.next × (x.nest ≤ n)

abbrev pub Rows : Source → ℕ → ℕ → ℕ → Row → Type 0
Rows s n l i r = IsRow s l i r.operands r.nest r.next × (r.nest ≤ n)

abbrev pub Gets : Read → (ℕ → Found → Type 0) → Type 0
Gets read P = (i : ℕ) (x : Found) → read i ≡ Some x → P i x

module _ (s : Source) (n l : ℕ) (read : Read) (reads : Gets read (Level s n l)) where
  rows_sound : (m i : ℕ) (r : Row) → row_at s read (suc l) m i ≡ Some r → Rows s n l i r
  unfolding row_at
  rows_sound zero i r e = absurd cc
  rows_sound (suc m) i r e = elim (option_cases (op_at s (suc l) i)) [
    | inl none ↦
        let here : Some (row no_operands 0 i) ≡ Some r = sym (ap (row_step read (row_at s read (suc l) m) i) none) ∙ e in
        subst (Rows s n l i) (some_is (row no_operands 0 i) r here) (no_more none, omega arith)
    | inr there ↦
        let step = sym (ap (row_step read (row_at s read (suc l) m) i) there.1) ∙ e in
        let x = bind_some (read (i + 1)) _ r step in
        let g = guarded (is_number x.0.tree) _ r x.2 in
        let q = map_some (with_operand there.0 x.0) (row_at s read (suc l) m x.0.next) r g.1 in
        let d = reads (i + 1) x.0 x.1 in
        let behind = rows_sound m x.0.next q.0 q.1 in
        subst (Rows s n l i) q.2 (goes_on there.1 d.0 (number_is x.0.tree g.0) behind.0, omega (arith, d.1, behind.1))
  ]

  joins : (i : ℕ) (x : Found) (h k : ℕ) (os : Operands) (y : Found) → Level s n l i x → IsRow s l x.next os h k → h ≤ n → joined_with x (max x.nest h) k os ≡ Some y → Level s n (suc l) i y
  joins i x h k no_operands y d r le e = subst (Level s n (suc l) i) (some_is x y e) (single d.0 (none_is r), d.1)
  joins i x h k (operand op t rest) y d r le e =
      let g = guarded (is_number x.tree) _ y e in
      subst (Level s n (suc l) i) (some_is _ y g.1) (several d.0 (number_is x.tree g.0) r, omega (arith, d.1))

  next_level : (i : ℕ) (y : Found) → (read i >>= row_behind s read (suc l)) ≡ Some y → Level s n (suc l) i y
  unfolding row_behind
  next_level i y e =
      let x = bind_some (read i) (row_behind s read (suc l)) y e in
      let r = bind_some (row_at s read (suc l) (length s.tokens + 1) x.0.next) (joined x.0) y x.2 in
      let rows = rows_sound (length s.tokens + 1) x.0.next r.0 r.1 in
      joins i x.0 r.0.nest r.0.next r.0.operands y (reads i x.0 x.1) rows.0 rows.1 r.2

level_sound : (s : Source) (n : ℕ) (read : Read) → Gets read (Unary s n) → (l : ℕ) → Gets (level_at s read l) (Level s n l)
unfolding level_at
level_sound s n read reads zero i x e = let d = reads i x e in (unary d.0, d.1)
level_sound s n read reads (suc l) i x e = next_level s n l (level_at s read l) (level_sound s n read reads l) i x e

-- what stands one level deeper nests less deep
pub record Deeper (s : Source) (n : ℕ) (inner : Inner) : Type 0 where
  pub unary_there : (i : ℕ) (x : Found) → inner.unary i ≡ Some x → IsUnary s i x.tree x.nest x.next × (x.nest < n)
  pub cond_there : (i : ℕ) (x : Found) → inner.cond i ≡ Some x → IsCond s i x.tree x.nest x.next × (x.nest < n)

pub record Holds (s : Source) (n : ℕ) (inner : Inner) : Type 0 where
  pub unary_here : Gets inner.unary (Unary s n)
  pub cond_here : Gets inner.cond (Cond s n)

module _ (s : Source) (n : ℕ) (inner : Inner) (deeper : Deeper s n inner) where
  prefixed_sound : (op : PrefixOp) (i : ℕ) (y : Found) → head_at s i ≡ Operator op → prefixed_at inner.unary op i ≡ Some y → Unary s n i y
  unfolding prefixed_at
  prefixed_sound op i y is e =
      let x = bind_some (inner.unary (i + 1)) _ y e in
      let g = guarded (is_number x.0.tree) _ y x.2 in
      let d = deeper.unary_there (i + 1) x.0 x.1 in
      subst (Unary s n i) (some_is _ y g.1) (prefixed is d.0 (number_is x.0.tree g.0), omega (arith, d.1))

  bracket_sound : (i : ℕ) (y : Found) → head_at s i ≡ Open → bracket_at s inner.cond i ≡ Some y → Unary s n i y
  unfolding bracket_at
  bracket_sound i y is e =
      let x = bind_some (inner.cond (i + 1)) _ y e in
      let g = guarded (is_mark s x.0.next (codes ")")) _ y x.2 in
      let d = deeper.cond_there (i + 1) x.0 x.1 in
      subst (Unary s n i) (some_is _ y g.1) (bracketed is d.0 (mark_is s x.0.next (codes ")") g.0), omega (arith, d.1))

  cast_sound : (i : ℕ) (type : TypeName) (y : Found) → head_at s i ≡ Open → closed_type s (i + 1) ≡ Some type → cast_at s inner.unary type ≡ Some y → Unary s n i y
  unfolding cast_at
  cast_sound i type y is there e =
      let p = closed_parts s (i + 1) type there in
      let x = bind_some (inner.unary (type.next + 1)) _ y e in
      let d = deeper.unary_there (type.next + 1) x.0 x.1 in
      subst (Unary s n i) (some_is _ y x.2) (casted is p.0 p.1 d.0, omega (arith, d.1))

  open_sound : (i : ℕ) (o : Option TypeName) (y : Found) → head_at s i ≡ Open → closed_type s (i + 1) ≡ o → open_by s inner i o ≡ Some y → Unary s n i y
  open_sound i (Some type) y is there e = cast_sound i type y is there e
  open_sound i None y is there e = bracket_sound i y is e

  -- a number with a mark after it
  abbrev Numbered : List ℕ → ℕ → Found → Type 0
  Numbered mark i x = IsCond s i x.tree x.nest x.next × (kind_of x.tree ≡ Number) × (mark_at s x.next ≡ Some mark) × (x.nest < n)

  number_sound : (mark : List ℕ) (i : ℕ) (y : Found) → number_before s inner.cond mark i ≡ Some y → Numbered mark i y
  unfolding number_before
  number_sound mark i y e =
      let x = bind_some (inner.cond i) _ y e in
      let number = guarded (is_number x.0.tree) _ y x.2 in
      let behind = guarded (is_mark s x.0.next mark) _ y number.1 in
      let d = deeper.cond_there i x.0 x.1 in
      subst (Numbered mark i) (some_is _ y behind.1) (d.0, number_is x.0.tree number.0, mark_is s x.0.next mark behind.0, d.1)

  element_sound : (i : ℕ) (f : Field) (y : Found) → head_at s i ≡ Record → named_at s i ≡ Some f → mark_at s (i + 3) ≡ Some (codes "[") → element_at s inner.cond i f ≡ Some y → Unary s n i y
  unfolding element_at
  element_sound i f y is there open' e =
      let size = guarded (is_indexed f.kind f.element) _ y e in
      let x = bind_some (number_before s inner.cond (codes "]") (i + 4)) _ y size.1 in
      let d = number_sound (codes "]") (i + 4) x.0 x.1 in
      subst (Unary s n i) (some_is _ y x.2) (indexed is there open' size.0 d.0 d.1 d.2, omega (arith, d.3))

  field_sound : (i : ℕ) (y : Found) → head_at s i ≡ Record → field_at s inner.cond i ≡ Some y → Unary s n i y
  unfolding field_at
  field_sound i y is e =
      let f = bind_some (named_at s i) _ y e in
      elim (chosen (is_mark s (i + 3) (codes "[")) _ _ (Some y) f.2) [
        | inl open' ↦ element_sound i f.0 y is f.1 (mark_is s (i + 3) (codes "[") open'.0) open'.1
        | inr never ↦ subst (Unary s n i) (some_is _ y never.1) (field is f.1 (not_mark s (i + 3) (codes "[") never.0), omega arith)
      ]

  sized_sound : (i : ℕ) (y : Found) → head_at s i ≡ Called SizeOf → sized_at s i ≡ Some y → Unary s n i y
  unfolding sized_at
  sized_sound i y is e =
      let open' = guarded (is_mark s (i + 1) (codes "(")) _ y e in
      let type = bind_some (closed_type s (i + 2)) _ y open'.1 in
      let size = bind_some (size_of type.0.words type.0.stars s.long) _ y type.2 in
      let p = closed_parts s (i + 2) type.0 type.1 in
      subst (Unary s n i) (some_is _ y size.2) (sized is (mark_is s (i + 1) (codes "(") open'.0) p.0 p.1 size.1, omega arith)

  got_sound : (i : ℕ) (get : Got) (y : Found) → head_at s i ≡ Called (Get get) → got_at s n get i ≡ Some y → Unary s n i y
  unfolding got_at
  got_sound i get y is e =
      let lt = guarded (nat_lt 0 n) _ y e in
      let f = bind_some (dynamic_at s i) _ y lt.1 in
      let less : 0 < n = search (rules, lt.0) in
      subst (Unary s n i) (some_is _ y f.2) (got is f.1, omega (arith, less))

  leaf_sound : (i : ℕ) (y : Found) (o : Option (ℕ × CKind)) → constant_at s i ≡ o → constant_or s i o ≡ Some y → Unary s n i y
  leaf_sound i y (Some c) is e = subst (Unary s n i) (some_is _ y e) (constant is, omega arith)
  leaf_sound i y None is e =
      let t = bind_some (text_at s i) _ y e in
      subst (Unary s n i) (some_is _ y t.2) (texts (texts_stand s i t.0 t.1), omega arith)

  entry_sound : (i : ℕ) (y : Valued) → entry_at s inner.cond i ≡ Some y → IsEntry s i y.value y.text y.nest y.next × (y.nest < n)
  unfolding entry_at
  entry_sound i y e =
      let open' = guarded (is_mark s i (codes "{")) _ y e in
      let x = bind_some (number_before s inner.cond (codes ",") (i + 1)) _ y open'.1 in
      let text = bind_some (text_at s (x.0.next + 1)) _ y x.2 in
      let close = guarded (is_mark s text.0.next (codes "}")) _ y text.2 in
      let d = number_sound (codes ",") (i + 1) x.0 x.1 in
      subst (λ (z : Valued). IsEntry s i z.value z.text z.nest z.next × (z.nest < n)) (some_is _ y close.1) (
        braced (mark_is s i (codes "{") open'.0) d.0 d.1 d.2 (texts_stand s (x.0.next + 1) text.0 text.1) (mark_is s text.0.next (codes "}") close.0),
        d.3,
      )

  tail_sound : (m i : ℕ) (r : Listed) → 0 < n → tail_at s inner.cond m i ≡ Some r → AreEntries s i r.entries r.nest r.next × (r.nest < n)
  unfolding tail_at
  tail_sound zero i r some e = absurd cc
  tail_sound (suc m) i r some e = elim (chosen (is_mark s i (codes ",")) _ _ (Some r) e) [
    | inl comma ↦
        let x = bind_some (entry_at s inner.cond (i + 1)) _ r comma.1 in
        let q = map_some (with_entry x.0) (tail_at s inner.cond m x.0.next) r x.2 in
        let d = entry_sound (i + 1) x.0 x.1 in
        let behind = tail_sound m x.0.next q.0 some q.1 in
        subst (λ (z : Listed). AreEntries s i z.entries z.nest z.next × (z.nest < n)) q.2 (further (mark_is s i (codes ",") comma.0) d.0 behind.0, omega (arith, d.1, behind.1))
    | inr never ↦
        subst (λ (z : Listed). AreEntries s i z.entries z.nest z.next × (z.nest < n)) (some_is (listed no_entries 0 i) r never.1) (last (not_mark s i (codes ",") never.0), some)
  ]

  -- one or more entries, and the bracket after them
  abbrev Entered : ℕ → Listed → Type 0
  Entered i r = (u : Tree) × (text : List ℕ) × (rest : Entries) × (g : ℕ) × (e : ℕ) × (k : ℕ) × (l : ℕ)
      × IsEntry s i u text g k × AreEntries s k rest e l × (mark_at s l ≡ Some (codes ")")) × (r ≡ listed (entry u text rest) (max g e) (l + 1)) × (g < n) × (e < n)

  entries_sound : (i : ℕ) (y : Listed) → 0 < n → entries_at s inner.cond i ≡ Some y → Entered i y
  unfolding entries_at entries_behind
  entries_sound i y some e =
      let first = bind_some (entry_at s inner.cond i) _ y e in
      let all = bind_some (entries_behind s inner.cond first.0) _ y first.2 in
      let rest = map_some (with_entry first.0) (tail_at s inner.cond (length s.tokens + 1) first.0.next) all.0 all.1 in
      let close = guarded (is_mark s all.0.next (codes ")")) _ y all.2 in
      let one = entry_sound i first.0 first.1 in
      let tail = tail_sound (length s.tokens + 1) first.0.next rest.0 some rest.1 in
      let closed : mark_at s rest.0.next ≡ Some (codes ")") = ap (λ (z : Listed). mark_at s z.next) rest.2 ∙ mark_is s all.0.next (codes ")") close.0 in
      let same : y ≡ listed (entry first.0.value first.0.text rest.0.entries) (max first.0.nest rest.0.nest) (rest.0.next + 1) =
      sym (ap (λ (z : Listed). listed z.entries z.nest (z.next + 1)) rest.2 ∙ some_is _ y close.1) in
      (first.0.value, first.0.text, rest.0.entries, first.0.nest, rest.0.nest, first.0.next, rest.0.next, one.0, tail.0, closed, same, one.1, tail.1)

  -- the first argument of a call, and the comma after it
  abbrev Argued : ℕ → Found → Type 0
  Argued i y = (j : ℕ) × (mark_at s (i + 1) ≡ Some (codes "(")) × IsCond s (i + 2) y.tree y.nest j × (mark_at s j ≡ Some (codes ",")) × (j + 1 ≡ y.next) × (y.nest < n)

  argument_sound : (i : ℕ) (y : Found) → argument_at s inner.cond i ≡ Some y → Argued i y
  unfolding argument_at
  argument_sound i y e =
      let open' = guarded (is_mark s (i + 1) (codes "(")) _ y e in
      let x = bind_some (inner.cond (i + 2)) _ y open'.1 in
      let comma = guarded (is_mark s x.0.next (codes ",")) _ y x.2 in
      let d = deeper.cond_there (i + 2) x.0 x.1 in
      subst (Argued i) (some_is _ y comma.1) (x.0.next, mark_is s (i + 1) (codes "(") open'.0, d.0, mark_is s x.0.next (codes ",") comma.0, refl, d.1)

  flags_sound : (i : ℕ) (y : Found) → head_at s i ≡ Called Flags → flags_at s inner.cond i ≡ Some y → Unary s n i y
  unfolding flags_at
  flags_sound i y is e =
      let x = bind_some (argument_at s inner.cond i) _ y e in
      let number = guarded (is_number x.0.tree) _ y x.2 in
      let sep = bind_some (text_at s x.0.next) _ y number.1 in
      let comma = guarded (is_mark s sep.0.next (codes ",")) _ y sep.2 in
      let all = bind_some (entries_at s inner.cond (sep.0.next + 1)) _ y comma.1 in
      let a = argument_sound i x.0 x.1 in
      let r = entries_sound (sep.0.next + 1) all.0 (omega (arith, a.5)) all.1 in
      let texts' = subst (λ k. AreTexts s k sep.0.text sep.0.next) (sym a.4) (texts_stand s x.0.next sep.0 sep.1) in
      let whole = flagged is a.1 a.2 (number_is x.0.tree number.0) a.3 texts' (mark_is s sep.0.next (codes ",") comma.0) r.7 r.8 r.9 in
      let same = ap (λ (z : Listed). found (flags x.0.tree sep.0.text z.entries) (1 + max x.0.nest z.nest) z.next) (sym r.10) ∙ some_is _ y all.2 in
      subst (Unary s n i) same (whole, omega (arith, a.5, r.11, r.12))

  symbolic_sound : (i : ℕ) (y : Found) → head_at s i ≡ Called Symbolic → symbolic_at s inner.cond i ≡ Some y → Unary s n i y
  unfolding symbolic_at
  symbolic_sound i y is e =
      let x = bind_some (argument_at s inner.cond i) _ y e in
      let number = guarded (is_number x.0.tree) _ y x.2 in
      let all = bind_some (entries_at s inner.cond x.0.next) _ y number.1 in
      let a = argument_sound i x.0 x.1 in
      let r = entries_sound x.0.next all.0 (omega (arith, a.5)) all.1 in
      let first = subst (λ k. IsEntry s k r.0 r.1 r.3 r.5) (sym a.4) r.7 in
      let whole = symbolized is a.1 a.2 (number_is x.0.tree number.0) a.3 first r.8 r.9 in
      let same = ap (λ (z : Listed). found (symbolic x.0.tree z.entries) (1 + max x.0.nest z.nest) z.next) (sym r.10) ∙ some_is _ y all.2 in
      subst (Unary s n i) same (whole, omega (arith, a.5, r.11, r.12))

  hex_sound : (i : ℕ) (y : Found) → head_at s i ≡ Called Hex → hex_at s inner.cond i ≡ Some y → Unary s n i y
  unfolding hex_at
  hex_sound i y is e =
      let x = bind_some (argument_at s inner.cond i) _ y e in
      let bytes = guarded (has_bytes x.0.tree) _ y x.2 in
      let c = bind_some (number_before s inner.cond (codes ")") x.0.next) _ y bytes.1 in
      let a = argument_sound i x.0 x.1 in
      let d = number_sound (codes ")") x.0.next c.0 c.1 in
      let count = subst (λ k. IsCond s k c.0.tree c.0.nest c.0.next) (sym a.4) d.0 in
      subst (Unary s n i) (some_is _ y c.2) (in_hex is a.1 a.2 bytes.0 a.3 count d.1 d.2, omega (arith, a.5, d.3))

  array_sound : (i : ℕ) (y : Found) → head_at s i ≡ Called Array → array_at s inner.cond i ≡ Some y → Unary s n i y
  unfolding array_at
  array_sound i y is e =
      let x = bind_some (argument_at s inner.cond i) _ y e in
      let bytes = guarded (has_bytes x.0.tree) _ y x.2 in
      let c = bind_some (number_before s inner.cond (codes ",") x.0.next) _ y bytes.1 in
      let z = bind_some (number_before s inner.cond (codes ")") (c.0.next + 1)) _ y c.2 in
      let a = argument_sound i x.0 x.1 in
      let d = number_sound (codes ",") x.0.next c.0 c.1 in
      let f = number_sound (codes ")") (c.0.next + 1) z.0 z.1 in
      let count = subst (λ k. IsCond s k c.0.tree c.0.nest c.0.next) (sym a.4) d.0 in
      subst (Unary s n i) (some_is _ y z.2) (in_array is a.1 a.2 bytes.0 a.3 count d.1 d.2 f.0 f.1 f.2, omega (arith, a.5, d.3, f.3))

  call_sound : (i : ℕ) (y : Found) (call : Builtin) → head_at s i ≡ Called call → call_by s n inner i call ≡ Some y → Unary s n i y
  call_sound i y (Get get) is e = got_sound i get y is e
  call_sound i y SizeOf is e = sized_sound i y is e
  call_sound i y Flags is e = flags_sound i y is e
  call_sound i y Symbolic is e = symbolic_sound i y is e
  call_sound i y Hex is e = hex_sound i y is e
  call_sound i y Array is e = array_sound i y is e

  unary_sound : (i : ℕ) (y : Found) (h : Head) → head_at s i ≡ h → unary_by s n inner i h ≡ Some y → Unary s n i y
  unfolding open_at leaf_at
  unary_sound i y (Operator op) is e = prefixed_sound op i y is e
  unary_sound i y Open is e = open_sound i (closed_type s (i + 1)) y is refl e
  unary_sound i y Record is e = field_sound i y is e
  unary_sound i y (Called call) is e = call_sound i y call is e
  unary_sound i y Other is e = leaf_sound i y (constant_at s i) refl e

  choice_sound : (i : ℕ) (x y : Found) → Level s n top i x → mark_at s x.next ≡ Some (codes "?") → choice_at s n inner.cond x ≡ Some y → Cond s n i y
  unfolding choice_at
  choice_sound i x y test q e =
      let lt = guarded (nat_lt x.nest n) _ y e in
      let number = guarded (is_number x.tree) _ y lt.1 in
      let a = bind_some (inner.cond (x.next + 1)) _ y number.1 in
      let colon = guarded (is_mark s a.0.next (codes ":")) _ y a.2 in
      let b = bind_some (inner.cond (a.0.next + 1)) _ y colon.1 in
      let alike = guarded (is_alike a.0.tree b.0.tree) _ y b.2 in
      let da = deeper.cond_there (x.next + 1) a.0 a.1 in
      let db = deeper.cond_there (a.0.next + 1) b.0 b.1 in
      let less : x.nest < n = search (rules, lt.0) in
      subst (Cond s n i) (some_is _ y alike.1) (
        conditional test.0 q (number_is x.tree number.0) da.0 (mark_is s a.0.next (codes ":") colon.0) db.0 (same_is (kind_of a.0.tree) (kind_of b.0.tree) alike.0),
        omega (arith, less, da.1, db.1),
      )

  cond_sound : (or : Read) → Gets or (Level s n top) → (i : ℕ) (y : Found) → cond_with s n or inner.cond i ≡ Some y → Cond s n i y
  unfolding cond_with
  cond_sound or ors i y e =
      let x = bind_some (or i) _ y e in
      let test = ors i x.0 x.1 in
      elim (chosen (is_mark s x.0.next (codes "?")) _ _ (Some y) x.2) [
        | inl q ↦ choice_sound i x.0 y test (mark_is s x.0.next (codes "?") q.0) q.1
        | inr never ↦ subst (Cond s n i) (some_is x.0 y never.1) (plain test.0 (not_mark s x.0.next (codes "?") never.0), test.1)
      ]

  layer_sound : Holds s n (layer s n inner)
  unfolding layer unary_with
  layer_sound =
      let unaries : Gets (unary_with s n inner) (Unary s n) = λ i x e. unary_sound i x (head_at s i) refl e in
      record { unary_here = unaries; cond_here = λ i y e. cond_sound (level_at s (unary_with s n inner) top) (level_sound s n (unary_with s n inner) unaries top) i y e }

within_sound : (s : Source) (n : ℕ) → Holds s n (within s n)
unfolding within
within_sound s zero = layer_sound s zero nothing (record { unary_there = λ i x e. absurd cc; cond_there = λ i x e. absurd cc })
within_sound s (suc n) =
    let h = within_sound s n in
    layer_sound s (suc n) (within s n) (record {
      unary_there = λ i x e. let d = h.unary_here i x e in (d.0, omega (arith, d.1));
      cond_there = λ i x e. let d = h.cond_here i x e in (d.0, omega (arith, d.1));
    })

pub cond_stands : (s : Source) (n i : ℕ) (x : Found) → cond_at s n i ≡ Some x → Cond s n i x
cond_stands s n i x e = (within_sound s n).cond_here i x e
