-- The trees of a print fmt: from a place in the tokens to a tree, how deep it nests, and the place after it.
-- One case a production, after C11 6.5 and Documentation/trace/events.rst.
use Rattle.std.specs.Prelude.{◌≡◌, ◌≢◌, ℕ, zero, suc, ◌+◌, ◌≤◌, max, List, [], ◌∷◌, length, Some, None, codes, IsTrue}
use Rattle.fmt_literal.specs.declared.ckind.CKind.{CKind}
use Rattle.fmt_literal.specs.Types.{cast_of, size_of, unsigned_long}
use Rattle.trace_base.specs.declared.field.Field.{Field}
use Rattle.fmt_expr.specs.Tree.{Tree, number, literal, prefix, cast, element, chain, choice, flags, symbolic, hex, array, Operands, no_operands, operand, Entries, no_entries, entry}
use Rattle.fmt_expr.specs.Kinds.{kind_of, has_bytes}
use Rattle.fmt_expr.specs.Source.{Source, mark_at, constant_at}
use Rattle.fmt_expr.specs.Heads.{head_at}
use Rattle.fmt_expr.specs.Ops.{op_at}
use Rattle.fmt_expr.specs.Texts.{AreTexts}
use Rattle.fmt_expr.specs.Types.{TypeName, type_at}
use Rattle.fmt_expr.specs.Fields.{field_tree, got_tree, named_at, dynamic_at, is_indexed}
use Rattle.fmt_expr.specs.Parsing.{FmtData}
use Rattle.c_operators.specs.declared.binary.BinaryOp.{BinaryOp}
use Rattle.fmt_expr.specs.declared.expr.PrefixOp.{PrefixOp}
use Rattle.fmt_expr.specs.declared.head.Got.{Got}
use Rattle.fmt_expr.specs.declared.head.Builtin.TheVariants.{Get, SizeOf, Flags, Symbolic, Hex, Array}
use Rattle.fmt_expr.specs.declared.head.Head.TheVariants.{Operator, Open, Record, Builtin}
use Rattle.fmt_expr.specs.declared.kinds.Kind.TheVariants.{Number}

mutual
  -- cond = or [ "?" cond ":" cond ]
  pub data IsCond (s : Source) : ℕ → Tree → ℕ → ℕ → Type 0 where
    plain : {i j h : ℕ} {t : Tree} → IsLevel s 10 i t h j → mark_at s j ≢ Some (codes "?") → IsCond s i t h j
    conditional : {i j k l h g e : ℕ} {t u v : Tree} → IsLevel s 10 i t h j → mark_at s j ≡ Some (codes "?") → kind_of t ≡ Number
        → IsCond s (j + 1) u g k → mark_at s k ≡ Some (codes ":") → IsCond s (k + 1) v e l → kind_of u ≡ kind_of v → IsCond s i (choice t u v) (1 + max h (max g e)) l

  -- the operators of a level and of those that bind tighter; those of level 10 are `||`, and at level 0 there are none
  pub data IsLevel (s : Source) : ℕ → ℕ → Tree → ℕ → ℕ → Type 0 where
    unary : {i j h : ℕ} {t : Tree} → IsUnary s i t h j → IsLevel s zero i t h j
    single : {l i j h : ℕ} {t : Tree} → IsLevel s l i t h j → op_at s (suc l) j ≡ None → IsLevel s (suc l) i t h j
    several : {l i j k h g : ℕ} {t u : Tree} {op : BinaryOp} {rest : Operands} → IsLevel s l i t h j → kind_of t ≡ Number
        → IsRow s l j (operand op u rest) g k → IsLevel s (suc l) i (chain t (operand op u rest)) (max h g) k

  -- operators with what follows each, for as long as the next token is one of them
  pub data IsRow (s : Source) : ℕ → ℕ → Operands → ℕ → ℕ → Type 0 where
    no_more : {l i : ℕ} → op_at s (suc l) i ≡ None → IsRow s l i no_operands 0 i
    goes_on : {l i j k h g : ℕ} {t : Tree} {op : BinaryOp} {rest : Operands} → op_at s (suc l) i ≡ Some op → IsLevel s l (i + 1) t h j → kind_of t ≡ Number
        → IsRow s l j rest g k → IsRow s l i (operand op t rest) (max h g) k

  pub data IsUnary (s : Source) : ℕ → Tree → ℕ → ℕ → Type 0 where
    -- ("+" | "-" | "!" | "~") unary
    prefixed : {i j h : ℕ} {t : Tree} {op : PrefixOp} → head_at s i ≡ Operator op → IsUnary s (i + 1) t h j → kind_of t ≡ Number → IsUnary s i (prefix op t) (1 + h) j
    -- "(" cond ")"
    bracketed : {i j h : ℕ} {t : Tree} → head_at s i ≡ Open → IsCond s (i + 1) t h j → mark_at s j ≡ Some (codes ")") → IsUnary s i t (1 + h) (j + 1)
    -- "(" type ")" unary
    casted : {i k h : ℕ} {t : Tree} {type : TypeName} → head_at s i ≡ Open → type_at s (i + 1) ≡ Some type → mark_at s type.next ≡ Some (codes ")")
        → IsUnary s (type.next + 1) t h k → IsUnary s i (cast (cast_of type.words type.stars s.long) t) (1 + h) k
    -- "REC" "->" name
    field : {i : ℕ} {f : Field} → head_at s i ≡ Record → named_at s i ≡ Some f → mark_at s (i + 3) ≢ Some (codes "[") → IsUnary s i (field_tree f f.kind) 0 (i + 3)
    -- "REC" "->" name "[" cond "]"
    indexed : {i j h : ℕ} {f : Field} {t : Tree} → head_at s i ≡ Record → named_at s i ≡ Some f → mark_at s (i + 3) ≡ Some (codes "[") → IsTrue (is_indexed f.kind f.element)
        → IsCond s (i + 4) t h j → kind_of t ≡ Number → mark_at s j ≡ Some (codes "]") → IsUnary s i (element f t) (1 + h) (j + 1)
    -- a number or a letter
    constant : {i n : ℕ} {kind : CKind} → constant_at s i ≡ Some (n, kind) → IsUnary s i (number n kind) 0 (i + 1)
    -- one or more texts
    texts : {i j : ℕ} {text : List ℕ} → AreTexts s i text j → IsUnary s i (literal text) 0 j
    -- "sizeof" "(" type ")"
    sized : {i n : ℕ} {type : TypeName} → head_at s i ≡ Builtin SizeOf → mark_at s (i + 1) ≡ Some (codes "(") → type_at s (i + 2) ≡ Some type → mark_at s type.next ≡ Some (codes ")")
        → size_of type.words type.stars s.long ≡ Some n → IsUnary s i (number n (unsigned_long s.long)) 0 (type.next + 1)
    -- a `__get_` call "(" name ")"
    got : {i : ℕ} {f : Field} {get : Got} → head_at s i ≡ Builtin (Get get) → dynamic_at s i ≡ Some f → IsUnary s i (got_tree f get) 1 (i + 4)
    -- "__print_flags" "(" cond "," texts "," entries ")"
    flagged : {i j m k l h g e : ℕ} {t u : Tree} {between text : List ℕ} {rest : Entries} → head_at s i ≡ Builtin Flags → mark_at s (i + 1) ≡ Some (codes "(")
        → IsCond s (i + 2) t h j → kind_of t ≡ Number → mark_at s j ≡ Some (codes ",") → AreTexts s (j + 1) between m → mark_at s m ≡ Some (codes ",")
        → IsEntry s (m + 1) u text g k → AreEntries s k rest e l → mark_at s l ≡ Some (codes ")") → IsUnary s i (flags t between (entry u text rest)) (1 + max h (max g e)) (l + 1)
    -- "__print_symbolic" "(" cond "," entries ")"
    symbolized : {i j k l h g e : ℕ} {t u : Tree} {text : List ℕ} {rest : Entries} → head_at s i ≡ Builtin Symbolic → mark_at s (i + 1) ≡ Some (codes "(")
        → IsCond s (i + 2) t h j → kind_of t ≡ Number → mark_at s j ≡ Some (codes ",") → IsEntry s (j + 1) u text g k → AreEntries s k rest e l → mark_at s l ≡ Some (codes ")")
        → IsUnary s i (symbolic t (entry u text rest)) (1 + max h (max g e)) (l + 1)
    -- "__print_hex" "(" cond "," cond ")"
    in_hex : {i j k h g : ℕ} {t u : Tree} → head_at s i ≡ Builtin Hex → mark_at s (i + 1) ≡ Some (codes "(") → IsCond s (i + 2) t h j → IsTrue (has_bytes t) → mark_at s j ≡ Some (codes ",")
        → IsCond s (j + 1) u g k → kind_of u ≡ Number → mark_at s k ≡ Some (codes ")") → IsUnary s i (hex t u) (1 + max h g) (k + 1)
    -- "__print_array" "(" cond "," cond "," cond ")"
    in_array : {i j k l h g e : ℕ} {t u v : Tree} → head_at s i ≡ Builtin Array → mark_at s (i + 1) ≡ Some (codes "(") → IsCond s (i + 2) t h j → IsTrue (has_bytes t) → mark_at s j ≡ Some (codes ",")
        → IsCond s (j + 1) u g k → kind_of u ≡ Number → mark_at s k ≡ Some (codes ",") → IsCond s (k + 1) v e l → kind_of v ≡ Number → mark_at s l ≡ Some (codes ")")
        → IsUnary s i (array t u v) (1 + max h (max g e)) (l + 1)

  -- a value and its text, in braces
  pub data IsEntry (s : Source) : ℕ → Tree → List ℕ → ℕ → ℕ → Type 0 where
    braced : {i j k h : ℕ} {t : Tree} {text : List ℕ} → mark_at s i ≡ Some (codes "{") → IsCond s (i + 1) t h j → kind_of t ≡ Number → mark_at s j ≡ Some (codes ",")
        → AreTexts s (j + 1) text k → mark_at s k ≡ Some (codes "}") → IsEntry s i t text h (k + 1)

  -- further entries, for as long as the next token is a comma
  pub data AreEntries (s : Source) : ℕ → Entries → ℕ → ℕ → Type 0 where
    last : {i : ℕ} → mark_at s i ≢ Some (codes ",") → AreEntries s i no_entries 0 i
    further : {i j k h g : ℕ} {t : Tree} {text : List ℕ} {rest : Entries} → mark_at s i ≡ Some (codes ",") → IsEntry s (i + 1) t text h j → AreEntries s j rest g k
        → AreEntries s i (entry t text rest) (max h g) k

-- the arguments from a place to the end, each after a comma and nesting at most 64 deep
pub data AreArgs (s : Source) : ℕ → List Tree → Type 0 where
  ended : {i : ℕ} → i ≡ length s.tokens → AreArgs s i []
  argument : {i j h : ℕ} {t : Tree} {rest : List Tree} → mark_at s i ≡ Some (codes ",") → IsCond s (i + 1) t h j → h ≤ 64 → AreArgs s j rest → AreArgs s i (t ∷ rest)

-- all tokens are the print fmt: a text and its arguments
pub record IsFmtOf (s : Source) (f : FmtData) : Type 0 where
  pub behind : ℕ
  pub text : AreTexts s 0 f.text behind
  pub args : AreArgs s behind f.args
  pub long : f.long ≡ s.long
