-- Each tree that stands at a place is computed.
use Rattle.std.proofs.Common.{◌≡◌, ℕ, zero, suc, ◌+◌, ◌-◌, ◌<◌, ◌≤◌, max, true, false, List, length, Some, None, refl, ap, ◌∙◌, codes, rules, arith, nat_lt}
use Rattle.fmt_literal.specs.declared.ckind.CKind.{CKind}
use Rattle.fmt_literal.specs.Types.{cast_of, size_of, unsigned_long}
use Rattle.trace_base.specs.declared.field.Field.{Field}
use Rattle.fmt_expr.specs.Tree.{Tree, number as numeral, literal, prefix, cast, element, chain, choice, flags, symbolic, hex, array, Operands, no_operands, operand, Entries, no_entries, entry}
use Rattle.fmt_expr.specs.Kinds.{kind_of, is_number, is_alike, has_bytes}
use Rattle.fmt_expr.specs.Source.{Source, constant_at, is_mark}
use Rattle.fmt_expr.specs.Ops.{op_at}
use Rattle.fmt_expr.specs.Texts.{Joined, joined_text, text_at}
use Rattle.fmt_expr.specs.Types.{TypeName, closed_type}
use Rattle.fmt_expr.specs.Fields.{field_tree, got_tree, is_indexed, named_at, dynamic_at}
use Rattle.fmt_expr.specs.Parsing.{Found, found, Row, row, Read, Inner, row_at, row_step, row_behind, level_at, choice_at, cond_at, unary_at, inner_of, inner_unary, inner_cond, Valued, valued, Listed, listed, with_entry, entry_at, tail_at, entries_behind, entries_at, argument_at, flags_at, symbolic_at, hex_at, array_at, sized_at, got_at, leaf_at, open_at, open_by, number_before, element_at, field_at, cast_at, bracket_at, prefixed_at}
use Rattle.fmt_expr.specs.Derivation.{IsCond, plain, conditional, IsLevel, unary, single, several, IsRow, no_more, goes_on, IsUnary, prefixed, bracketed, casted, field, indexed, constant, texts, sized, got, flagged, symbolized, in_hex, in_array, IsEntry, braced, AreEntries, last, further}
use Rattle.c_operators.specs.declared.binary.BinaryOp.{BinaryOp}
use Rattle.fmt_expr.specs.declared.expr.PrefixOp.{PrefixOp}
use Rattle.fmt_expr.specs.declared.head.Got.{Got}
use Rattle.fmt_expr.specs.declared.head.Builtin.TheVariants.{Get, SizeOf, Flags, Symbolic, Hex, Array}
use Rattle.fmt_expr.specs.declared.kinds.Kind.TheVariants.{Number}
use Rattle.fmt_expr.proofs.Layers.{at_operator, at_open, at_record, at_call, at_other, more_unary, more_cond, cond_plain, cond_choice}
use Rattle.fmt_expr.proofs.RowTurns.{turn}
use Rattle.fmt_expr.proofs.TextRows.{texts_again, texts_move, texts_literal}
use Rattle.fmt_expr.proofs.NoTypes.{unnamed_no_type, record_no_type, open_no_type, dynamic_no_type, type_closed, type_moves}
use Rattle.fmt_expr.proofs.Places.{mark_within, mark_true, mark_other, op_within, same_true, operator_no_name, open_no_name, constant_head, text_head}

-- each production goes forward
mutual
  pub cond_moves : {s : Source} {i j h : ℕ} {t : Tree} → IsCond s i t h j → i < j
  cond_moves (plain d never) = level_moves d
  cond_moves (conditional d q n a c b same) = omega (arith, level_moves d, cond_moves a, cond_moves b)

  pub level_moves : {s : Source} {l i j h : ℕ} {t : Tree} → IsLevel s l i t h j → i < j
  level_moves (unary d) = unary_moves d
  level_moves (single d none) = level_moves d
  level_moves (several d n r) = omega (arith, level_moves d, row_moves r)

  pub row_moves : {s : Source} {l i j h : ℕ} {os : Operands} → IsRow s l i os h j → i ≤ j
  row_moves (no_more none) = omega arith
  row_moves (goes_on is d n r) = omega (arith, level_moves d, row_moves r)

  pub unary_moves : {s : Source} {i j h : ℕ} {t : Tree} → IsUnary s i t h j → i < j
  unary_moves (prefixed is d n) = omega (arith, unary_moves d)
  unary_moves (bracketed is d close) = omega (arith, cond_moves d)
  unary_moves (casted {type = type} is there close d) = omega (arith, type_moves _ _ type there, unary_moves d)
  unary_moves (field is there never) = omega arith
  unary_moves (indexed is there open' size d n close) = omega (arith, cond_moves d)
  unary_moves (constant is) = omega arith
  unary_moves (texts r) = texts_move r
  unary_moves (sized {type = type} is open' there close size) = omega (arith, type_moves _ _ type there)
  unary_moves (got is there) = omega arith
  unary_moves (flagged is open' d n c text b e r close) = omega (arith, cond_moves d, texts_move text, entry_moves e, entries_move r)
  unary_moves (symbolized is open' d n c e r close) = omega (arith, cond_moves d, entry_moves e, entries_move r)
  unary_moves (in_hex is open' d n c e m close) = omega (arith, cond_moves d, cond_moves e)
  unary_moves (in_array is open' d n c e m b f k close) = omega (arith, cond_moves d, cond_moves e, cond_moves f)

  pub entry_moves : {s : Source} {i j h : ℕ} {t : Tree} {text : List ℕ} → IsEntry s i t text h j → i < j
  entry_moves (braced open' d n c text close) = omega (arith, cond_moves d, texts_move text)

  pub entries_move : {s : Source} {i j h : ℕ} {es : Entries} → AreEntries s i es h j → i ≤ j
  entries_move (last never) = omega arith
  entries_move (further comma e r) = omega (arith, entry_moves e, entries_move r)

-- nothing that stands at a place is a type in brackets there
mutual
  pub cond_no_type : {s : Source} {i j h : ℕ} {t : Tree} → IsCond s i t h j → closed_type s i ≡ None
  cond_no_type (plain d never) = level_no_type d
  cond_no_type (conditional d q n a c b same) = level_no_type d

  pub level_no_type : {s : Source} {l i j h : ℕ} {t : Tree} → IsLevel s l i t h j → closed_type s i ≡ None
  level_no_type (unary d) = unary_no_type d
  level_no_type (single d none) = level_no_type d
  level_no_type (several d n r) = level_no_type d

  pub unary_no_type : {s : Source} {i j h : ℕ} {t : Tree} → IsUnary s i t h j → closed_type s i ≡ None
  unary_no_type {s} {i} (prefixed {op = op} is d n) = unnamed_no_type s i (operator_no_name s i op is)
  unary_no_type {s} {i} (bracketed is d close) = unnamed_no_type s i (open_no_name s i is)
  unary_no_type {s} {i} (casted is type close d) = unnamed_no_type s i (open_no_name s i is)
  unary_no_type {s} {i} (field is there never) = record_no_type s i is
  unary_no_type {s} {i} (indexed is there open' size d n close) = record_no_type s i is
  unary_no_type {s} {i} (constant {n = n} {kind = kind} is) = unnamed_no_type s i (constant_head s i (n, kind) is).1
  unary_no_type {s} {i} (texts r) = let t = texts_literal r in unnamed_no_type s i (text_head s i t.0 t.1).1
  unary_no_type {s} {i} (sized is open' there close size) = open_no_type s i open'
  unary_no_type {s} {i} (got {f = f} is there) = dynamic_no_type s i f there
  unary_no_type {s} {i} (flagged is open' d n c text b e r close) = open_no_type s i open'
  unary_no_type {s} {i} (symbolized is open' d n c e r close) = open_no_type s i open'
  unary_no_type {s} {i} (in_hex is open' d n c e m close) = open_no_type s i open'
  unary_no_type {s} {i} (in_array is open' d n c e m b f k close) = open_no_type s i open'

number_true : (t : Tree) → kind_of t ≡ Number → is_number t ≡ true
number_true t e = same_true (kind_of t) Number e

choice_there : (s : Source) (n : ℕ) (inner : Read) (x y z : Found) → x.nest < n → is_number x.tree ≡ true → inner (x.next + 1) ≡ Some y → is_mark s y.next (codes ":") ≡ true
    → inner (y.next + 1) ≡ Some z → is_alike y.tree z.tree ≡ true → choice_at s n inner x ≡ Some (found (choice x.tree y.tree z.tree) (1 + max x.nest (max y.nest z.nest)) z.next)
unfolding choice_at
choice_there s n inner x y z lt number one colon other alike = let deep : nat_lt x.nest n ≡ true = search rules in rw (deep, number, one, colon, other, alike) refl

prefixed_there : (inner : Read) (op : PrefixOp) (i : ℕ) (x : Found) → inner (i + 1) ≡ Some x → is_number x.tree ≡ true → prefixed_at inner op i ≡ Some (found (prefix op x.tree) (1 + x.nest) x.next)
unfolding prefixed_at
prefixed_there inner op i x there number = rw (there, number) refl

open_bracket : (s : Source) (inner : Inner) (i : ℕ) → closed_type s (i + 1) ≡ None → open_at s inner i ≡ bracket_at s inner.cond i
unfolding open_at
open_bracket s inner i e = ap (open_by s inner i) e

open_cast : (s : Source) (inner : Inner) (i : ℕ) (type : TypeName) → closed_type s (i + 1) ≡ Some type → open_at s inner i ≡ cast_at s inner.unary type
unfolding open_at
open_cast s inner i type e = ap (open_by s inner i) e

bracket_there : (s : Source) (inner : Read) (i : ℕ) (x : Found) → inner (i + 1) ≡ Some x → is_mark s x.next (codes ")") ≡ true → bracket_at s inner i ≡ Some (found x.tree (1 + x.nest) (x.next + 1))
unfolding bracket_at
bracket_there s inner i x there close = rw (there, close) refl

cast_there : (s : Source) (inner : Read) (type : TypeName) (x : Found) → inner (type.next + 1) ≡ Some x → cast_at s inner type ≡ Some (found (cast (cast_of type.words type.stars s.long) x.tree) (1 + x.nest) x.next)
unfolding cast_at
cast_there s inner type x there = rw there refl

field_there : (s : Source) (inner : Read) (i : ℕ) (f : Field) → named_at s i ≡ Some f → is_mark s (i + 3) (codes "[") ≡ false → field_at s inner i ≡ Some (found (field_tree f f.kind) 0 (i + 3))
unfolding field_at
field_there s inner i f is never = rw (is, never) refl

field_element : (s : Source) (inner : Read) (i : ℕ) (f : Field) → named_at s i ≡ Some f → is_mark s (i + 3) (codes "[") ≡ true → field_at s inner i ≡ element_at s inner i f
unfolding field_at
field_element s inner i f is open' = rw (is, open') refl

number_there : (s : Source) (inner : Read) (mark : List ℕ) (i : ℕ) (x : Found) → inner i ≡ Some x → is_number x.tree ≡ true → is_mark s x.next mark ≡ true → number_before s inner mark i ≡ Some x
unfolding number_before
number_there s inner mark i x there number behind = rw (there, number, behind) refl

element_there : (s : Source) (inner : Read) (i : ℕ) (f : Field) (x : Found) → is_indexed f.kind f.element ≡ true → inner (i + 4) ≡ Some x → is_number x.tree ≡ true → is_mark s x.next (codes "]") ≡ true
    → element_at s inner i f ≡ Some (found (element f x.tree) (1 + x.nest) (x.next + 1))
unfolding element_at
element_there s inner i f x size there number close = rw (size, number_there s inner (codes "]") (i + 4) x there number close) refl

constant_there : (s : Source) (i n : ℕ) (kind : CKind) → constant_at s i ≡ Some (n, kind) → leaf_at s i ≡ Some (found (numeral n kind) 0 (i + 1))
unfolding leaf_at
constant_there s i n kind is = rw is refl

texts_there : (s : Source) (i : ℕ) (t : Joined) → constant_at s i ≡ None → text_at s i ≡ Some t → leaf_at s i ≡ Some (found (literal t.text) 0 t.next)
unfolding leaf_at
texts_there s i t none is = rw (none, is) refl

sized_there : (s : Source) (i n : ℕ) (type : TypeName) → is_mark s (i + 1) (codes "(") ≡ true → closed_type s (i + 2) ≡ Some type → size_of type.words type.stars s.long ≡ Some n
    → sized_at s i ≡ Some (found (numeral n (unsigned_long s.long)) 0 (type.next + 1))
unfolding sized_at
sized_there s i n type open' is size = rw (open', is, size) refl

got_there : (s : Source) (n i : ℕ) (get : Got) (f : Field) → 0 < n → dynamic_at s i ≡ Some f → got_at s n get i ≡ Some (found (got_tree f get) 1 (i + 4))
unfolding got_at
got_there s n i get f lt is = let deep : nat_lt 0 n ≡ true = search rules in rw (deep, is) refl

entry_there : (s : Source) (inner : Read) (i : ℕ) (x : Found) (text : Joined) → is_mark s i (codes "{") ≡ true → inner (i + 1) ≡ Some x → is_number x.tree ≡ true → is_mark s x.next (codes ",") ≡ true
    → text_at s (x.next + 1) ≡ Some text → is_mark s text.next (codes "}") ≡ true → entry_at s inner i ≡ Some (valued x.tree text.text x.nest (text.next + 1))
unfolding entry_at
entry_there s inner i x text open' there number comma is close = rw (open', number_there s inner (codes ",") (i + 1) x there number comma, is, close) refl

tail_last : (s : Source) (inner : Read) (m i : ℕ) → 0 < m → is_mark s i (codes ",") ≡ false → tail_at s inner m i ≡ Some (listed no_entries 0 i)
unfolding tail_at
tail_last s inner zero i some never = absurd (omega arith)
tail_last s inner (suc m) i some never = rw never refl

tail_further : (s : Source) (inner : Read) (m i : ℕ) (e : Valued) (r : Listed) → is_mark s i (codes ",") ≡ true → entry_at s inner (i + 1) ≡ Some e → tail_at s inner m e.next ≡ Some r → tail_at s inner (suc m) i ≡ Some (with_entry e r)
unfolding tail_at
tail_further s inner m i e r comma there behind = rw (comma, there, behind) refl

entries_there : (s : Source) (inner : Read) (i : ℕ) (e : Valued) (r : Listed) → entry_at s inner i ≡ Some e → tail_at s inner (length s.tokens + 1) e.next ≡ Some r → is_mark s r.next (codes ")") ≡ true
    → entries_at s inner i ≡ Some (listed (entry e.value e.text r.entries) (max e.nest r.nest) (r.next + 1))
unfolding entries_at entries_behind
entries_there s inner i e r first behind close = rw (first, behind, close) refl

argument_there : (s : Source) (inner : Read) (i : ℕ) (x : Found) → is_mark s (i + 1) (codes "(") ≡ true → inner (i + 2) ≡ Some x → is_mark s x.next (codes ",") ≡ true → argument_at s inner i ≡ Some (found x.tree x.nest (x.next + 1))
unfolding argument_at
argument_there s inner i x open' there comma = rw (open', there, comma) refl

flags_there : (s : Source) (inner : Read) (i : ℕ) (x : Found) (between : Joined) (r : Listed) → argument_at s inner i ≡ Some x → is_number x.tree ≡ true → text_at s x.next ≡ Some between
    → is_mark s between.next (codes ",") ≡ true → entries_at s inner (between.next + 1) ≡ Some r → flags_at s inner i ≡ Some (found (flags x.tree between.text r.entries) (1 + max x.nest r.nest) r.next)
unfolding flags_at
flags_there s inner i x between r there number text comma all = rw (there, number, text, comma, all) refl

symbolic_there : (s : Source) (inner : Read) (i : ℕ) (x : Found) (r : Listed) → argument_at s inner i ≡ Some x → is_number x.tree ≡ true → entries_at s inner x.next ≡ Some r
    → symbolic_at s inner i ≡ Some (found (symbolic x.tree r.entries) (1 + max x.nest r.nest) r.next)
unfolding symbolic_at
symbolic_there s inner i x r there number all = rw (there, number, all) refl

hex_there : (s : Source) (inner : Read) (i : ℕ) (x y : Found) → argument_at s inner i ≡ Some x → has_bytes x.tree ≡ true → inner x.next ≡ Some y → is_number y.tree ≡ true → is_mark s y.next (codes ")") ≡ true
    → hex_at s inner i ≡ Some (found (hex x.tree y.tree) (1 + max x.nest y.nest) (y.next + 1))
unfolding hex_at
hex_there s inner i x y there bytes count number close = rw (there, bytes, number_there s inner (codes ")") x.next y count number close) refl

array_there : (s : Source) (inner : Read) (i : ℕ) (x y z : Found) → argument_at s inner i ≡ Some x → has_bytes x.tree ≡ true → inner x.next ≡ Some y → is_number y.tree ≡ true → is_mark s y.next (codes ",") ≡ true
    → inner (y.next + 1) ≡ Some z → is_number z.tree ≡ true → is_mark s z.next (codes ")") ≡ true → array_at s inner i ≡ Some (found (array x.tree y.tree z.tree) (1 + max x.nest (max y.nest z.nest)) (z.next + 1))
unfolding array_at
array_there s inner i x y z there bytes count number comma size sizes close =
    rw (there, bytes, number_there s inner (codes ",") x.next y count number comma, number_there s inner (codes ")") (y.next + 1) z size sizes close) refl

row_ended : (s : Source) (read : Read) (l m i : ℕ) → 0 < m → op_at s l i ≡ None → row_at s read l m i ≡ Some (row no_operands 0 i)
row_ended s read l m i some none = turn s read l m i some ∙ ap (row_step read (row_at s read l (m - 1)) i) none

row_more : (s : Source) (read : Read) (l m i : ℕ) (op : BinaryOp) (x : Found) (r : Row) → 0 < m → op_at s l i ≡ Some op → read (i + 1) ≡ Some x → is_number x.tree ≡ true → row_at s read l (m - 1) x.next ≡ Some r
    → row_at s read l m i ≡ Some (row (operand op x.tree r.operands) (max x.nest r.nest) r.next)
row_more s read l m i op x r some is there number behind = turn s read l m i some ∙ ap (row_step read (row_at s read l (m - 1)) i) is ∙ rw (there, number, behind) refl

at_zero : (s : Source) (read : Read) (i : ℕ) → level_at s read zero i ≡ read i
unfolding level_at
at_zero s read i = refl

level_single : (s : Source) (read : Read) (l i : ℕ) (x : Found) → level_at s read l i ≡ Some x → row_at s (level_at s read l) (suc l) (length s.tokens + 1) x.next ≡ Some (row no_operands 0 x.next) → level_at s read (suc l) i ≡ Some x
unfolding level_at row_behind
level_single s read l i x there none = rw (there, none) refl

level_several : (s : Source) (read : Read) (l i : ℕ) (x : Found) (op : BinaryOp) (u : Tree) (rest : Operands) (g k : ℕ) → level_at s read l i ≡ Some x → is_number x.tree ≡ true
    → row_at s (level_at s read l) (suc l) (length s.tokens + 1) x.next ≡ Some (row (operand op u rest) g k) → level_at s read (suc l) i ≡ Some (found (chain x.tree (operand op u rest)) (max x.nest g) k)
unfolding level_at row_behind
level_several s read l i x op u rest g k there number behind = rw (there, behind, number) refl

mutual
  pub cond_again : {s : Source} {i j h : ℕ} {t : Tree} → IsCond s i t h j → (n : ℕ) → h ≤ n → cond_at s n i ≡ Some (found t h j)
  cond_again {s} {i} {j} {h} {t} (plain d never) n le = cond_plain s n i (found t h j) (level_again d n le) (mark_other s j (codes "?") never)
  cond_again {s} {i} (conditional {j = j} {k = k} {l = l} {h = h} {g = g} {e = e} {t = t} {u = u} {v = v} d q number a colon b same) n le =
      cond_choice s n i (found t h j) (level_again d n (omega arith)) (mark_true s j (codes "?") q)
      ∙ choice_there s n (inner_cond s n) (found t h j) (found u g k) (found v e l) (omega arith) (number_true t number) (more_cond s n (j + 1) (omega arith) ∙ cond_again a (n - 1) (omega arith)) (mark_true s k (codes ":") colon)
      (more_cond s n (k + 1) (omega arith) ∙ cond_again b (n - 1) (omega arith)) (same_true (kind_of u) (kind_of v) same)

  pub level_again : {s : Source} {l i j h : ℕ} {t : Tree} → IsLevel s l i t h j → (n : ℕ) → h ≤ n → level_at s (unary_at s n) l i ≡ Some (found t h j)
  level_again {s} {l} {i} (unary d) n le = at_zero s (unary_at s n) i ∙ unary_again d n le
  level_again {s} {l} {i} {j} {h} {t} (single {l = m} d none) n le =
      level_single s (unary_at s n) m i (found t h j) (level_again d n le) (row_ended s (level_at s (unary_at s n) m) (suc m) (length s.tokens + 1) j (omega arith) none)
  level_again {s} {l} {i} (several {l = m} {j = j} {k = k} {h = h} {g = g} {t = t} {u = u} {op = op} {rest = rest} d number r) n le =
      level_several s (unary_at s n) m i (found t h j) op u rest g k (level_again d n (omega arith)) (number_true t number) (row_again r n (omega arith) (length s.tokens + 1) (omega arith) (omega arith))

  pub row_again : {s : Source} {l i j h : ℕ} {os : Operands} → IsRow s l i os h j → (n : ℕ) → h ≤ n → (m : ℕ) → 0 < m → length s.tokens < i + m → row_at s (level_at s (unary_at s n) l) (suc l) m i ≡ Some (row os h j)
  row_again {s} {l} {i} (no_more none) n le m some enough = row_ended s (level_at s (unary_at s n) l) (suc l) m i some none
  row_again {s} {l} {i} (goes_on {j = j} {k = k} {h = h} {g = g} {t = t} {op = op} {rest = rest} is d number r) n le m some enough =
      let inside : i < length s.tokens = op_within s (suc l) i op is in
      let moves = level_moves d in
      row_more s (level_at s (unary_at s n) l) (suc l) m i op (found t h j) (row rest g k) some is (level_again d n (omega arith)) (number_true t number) (row_again r n (omega arith) (m - 1) (omega arith) (omega arith))

  pub unary_again : {s : Source} {i j h : ℕ} {t : Tree} → IsUnary s i t h j → (n : ℕ) → h ≤ n → unary_at s n i ≡ Some (found t h j)
  unary_again {s} {i} (prefixed {j = j} {h = h} {t = t} {op = op} is d number) n le =
      at_operator s n i op is ∙ prefixed_there (inner_unary s n) op i (found t h j) (more_unary s n (i + 1) (omega arith) ∙ unary_again d (n - 1) (omega arith)) (number_true t number)
  unary_again {s} {i} (bracketed {j = j} {h = h} {t = t} is d close) n le =
      at_open s n i is ∙ open_bracket s (inner_of s n) i (cond_no_type d)
      ∙ bracket_there s (inner_cond s n) i (found t h j) (more_cond s n (i + 1) (omega arith) ∙ cond_again d (n - 1) (omega arith)) (mark_true s j (codes ")") close)
  unary_again {s} {i} (casted {k = k} {h = h} {t = t} {type = type} is there close d) n le =
      at_open s n i is ∙ open_cast s (inner_of s n) i type (type_closed s (i + 1) type there close)
      ∙ cast_there s (inner_unary s n) type (found t h k) (more_unary s n (type.next + 1) (omega arith) ∙ unary_again d (n - 1) (omega arith))
  unary_again {s} {i} (field {f = f} is there never) n le = at_record s n i is ∙ field_there s (inner_cond s n) i f there (mark_other s (i + 3) (codes "[") never)
  unary_again {s} {i} (indexed {j = j} {h = h} {f = f} {t = t} is there open' size d number close) n le =
      at_record s n i is ∙ field_element s (inner_cond s n) i f there (mark_true s (i + 3) (codes "[") open')
      ∙ element_there s (inner_cond s n) i f (found t h j) size (more_cond s n (i + 4) (omega arith) ∙ cond_again d (n - 1) (omega arith)) (number_true t number) (mark_true s j (codes "]") close)
  unary_again {s} {i} (constant {n = m} {kind = kind} is) n le = at_other s n i (constant_head s i (m, kind) is).0 ∙ constant_there s i m kind is
  unary_again {s} {i} (texts {j = j} {text = text} r) n le =
      let t = texts_literal r in
      let h = text_head s i t.0 t.1 in
      at_other s n i h.0 ∙ texts_there s i (joined_text text j) h.2 (texts_again r)
  unary_again {s} {i} (sized {n = m} {type = type} is open' there close size) n le =
      at_call s n i SizeOf is ∙ sized_there s i m type (mark_true s (i + 1) (codes "(") open') (type_closed s (i + 2) type there close) size
  unary_again {s} {i} (got {f = f} {get = get} is there) n le = at_call s n i (Get get) is ∙ got_there s n i get f (omega arith) there
  unary_again {s} {i} (flagged {j = j} {m = m} {k = k} {l = l} {h = h} {g = g} {e = e} {t = t} {u = u} {between = between} {text = text} {rest = rest} is open' d number comma sep again first r close) n le =
      at_call s n i Flags is
      ∙ flags_there s (inner_cond s n) i (found t h (j + 1)) (joined_text between m) (listed (entry u text rest) (max g e) (l + 1))
      (argument_there s (inner_cond s n) i (found t h j) (mark_true s (i + 1) (codes "(") open') (more_cond s n (i + 2) (omega arith) ∙ cond_again d (n - 1) (omega arith)) (mark_true s j (codes ",") comma))
      (number_true t number) (texts_again sep) (mark_true s m (codes ",") again)
      (entries_there s (inner_cond s n) (m + 1) (valued u text g k) (listed rest e l) (entry_again first n (omega arith)) (tail_again r n (omega arith) (length s.tokens + 1) (omega arith) (omega arith)) (mark_true s l (codes ")") close))
  unary_again {s} {i} (symbolized {j = j} {k = k} {l = l} {h = h} {g = g} {e = e} {t = t} {u = u} {text = text} {rest = rest} is open' d number comma first r close) n le =
      at_call s n i Symbolic is
      ∙ symbolic_there s (inner_cond s n) i (found t h (j + 1)) (listed (entry u text rest) (max g e) (l + 1))
      (argument_there s (inner_cond s n) i (found t h j) (mark_true s (i + 1) (codes "(") open') (more_cond s n (i + 2) (omega arith) ∙ cond_again d (n - 1) (omega arith)) (mark_true s j (codes ",") comma))
      (number_true t number)
      (entries_there s (inner_cond s n) (j + 1) (valued u text g k) (listed rest e l) (entry_again first n (omega arith)) (tail_again r n (omega arith) (length s.tokens + 1) (omega arith) (omega arith)) (mark_true s l (codes ")") close))
  unary_again {s} {i} (in_hex {j = j} {k = k} {h = h} {g = g} {t = t} {u = u} is open' d bytes comma e number close) n le =
      at_call s n i Hex is
      ∙ hex_there s (inner_cond s n) i (found t h (j + 1)) (found u g k)
      (argument_there s (inner_cond s n) i (found t h j) (mark_true s (i + 1) (codes "(") open') (more_cond s n (i + 2) (omega arith) ∙ cond_again d (n - 1) (omega arith)) (mark_true s j (codes ",") comma))
      bytes (more_cond s n (j + 1) (omega arith) ∙ cond_again e (n - 1) (omega arith)) (number_true u number) (mark_true s k (codes ")") close)
  unary_again {s} {i} (in_array {j = j} {k = k} {l = l} {h = h} {g = g} {e = e} {t = t} {u = u} {v = v} is open' d bytes comma c number again f size close) n le =
      at_call s n i Array is
      ∙ array_there s (inner_cond s n) i (found t h (j + 1)) (found u g k) (found v e l)
      (argument_there s (inner_cond s n) i (found t h j) (mark_true s (i + 1) (codes "(") open') (more_cond s n (i + 2) (omega arith) ∙ cond_again d (n - 1) (omega arith)) (mark_true s j (codes ",") comma))
      bytes (more_cond s n (j + 1) (omega arith) ∙ cond_again c (n - 1) (omega arith)) (number_true u number) (mark_true s k (codes ",") again)
      (more_cond s n (k + 1) (omega arith) ∙ cond_again f (n - 1) (omega arith)) (number_true v size) (mark_true s l (codes ")") close)

  pub entry_again : {s : Source} {i j h : ℕ} {t : Tree} {text : List ℕ} → IsEntry s i t text h j → (n : ℕ) → h < n → entry_at s (inner_cond s n) i ≡ Some (valued t text h j)
  entry_again {s} {i} (braced {j = j} {k = k} {h = h} {t = t} {text = text} open' d number comma is close) n lt =
      entry_there s (inner_cond s n) i (found t h j) (joined_text text k) (mark_true s i (codes "{") open') (more_cond s n (i + 1) (omega arith) ∙ cond_again d (n - 1) (omega arith)) (number_true t number)
      (mark_true s j (codes ",") comma) (texts_again is) (mark_true s k (codes "}") close)

  pub tail_again : {s : Source} {i j h : ℕ} {es : Entries} → AreEntries s i es h j → (n : ℕ) → h < n → (m : ℕ) → 0 < m → length s.tokens < i + m → tail_at s (inner_cond s n) m i ≡ Some (listed es h j)
  tail_again {s} {i} (last never) n lt m some enough = tail_last s (inner_cond s n) m i some (mark_other s i (codes ",") never)
  tail_again (further comma e r) n lt zero some enough = absurd (omega arith)
  tail_again {s} {i} (further {j = j} {k = k} {h = h} {g = g} {t = t} {text = text} {rest = rest} comma e r) n lt (suc m) some enough =
      let inside : i < length s.tokens = mark_within s i (codes ",") comma in
      let moves = entry_moves e in
      tail_further s (inner_cond s n) m i (valued t text h j) (listed rest g k) (mark_true s i (codes ",") comma) (entry_again e n (omega arith)) (tail_again r n (omega arith) m (omega arith) (omega arith))
