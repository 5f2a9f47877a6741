-- Tests of what stands at a place.
use Rattle.std.proofs.Common.{◌≡◌, ◌≢◌, ℕ, ◌<◌, true, false, List, length, Option, Some, None, refl, ap, codes, ◌⊎◌, inl, inr, option_and_then}
use Rattle.std.specs.Prelude.{slice_get, bytes_eq}
use Rattle.std.proofs.lemmas.Slice.Eq.{bytes_eq-Decides}
use Rattle.std.proofs.lemmas.Option.{slice_get_within, option_and_then_some, same_Some}
use Rattle.std.proofs.lemmas.Bool.{cases_Bool}
use Rattle.fmt_lexer.specs.declared.token.Token.{Token}
use Rattle.fmt_lexer.specs.declared.token.TokenKind.{TokenKind}
use Rattle.fmt_lexer.specs.declared.token.TokenKind.TheVariants.{Name, Number, Letter, Text, Mark}
use Rattle.fmt_lexer.specs.Tokens.{bytes_of}
use Rattle.fmt_literal.specs.declared.ckind.CKind.{CKind}
use Rattle.fmt_expr.specs.Source.{Source, as_mark, as_name, as_text, as_constant, mark_at, name_at, literal_at, constant_at, is_text, is_mark}
use Rattle.fmt_expr.specs.Heads.{call_of, name_head, token_head, some_head, head_at}
use Rattle.c_operators.specs.Operators.{op_of}
use Rattle.fmt_expr.specs.Ops.{if_level, op_at}
use Rattle.fmt_expr.specs.Kinds.{same_kind}
use Rattle.c_operators.specs.declared.binary.BinaryOp.{BinaryOp}
use Rattle.fmt_expr.specs.declared.expr.PrefixOp.{PrefixOp}
use Rattle.fmt_expr.specs.declared.head.Builtin.{Builtin}
use Rattle.fmt_expr.specs.declared.head.Head.TheVariants.{Operator, Open, Record, Builtin as Called, Other}
use Rattle.fmt_expr.specs.declared.kinds.Kind.{Kind}
use Rattle.fmt_expr.specs.declared.kinds.Kind.TheVariants as kinds
use Rattle.fmt_expr.proofs.Chances.{option_cases}

-- a test of an optional text
text_true : (o : Option (List ℕ)) (m : List ℕ) → o ≡ Some m → is_text o m ≡ true
text_true None m e = absurd cc
text_true (Some b) m e = (bytes_eq-Decides b m).1 (same_Some b m e)

text_is : (o : Option (List ℕ)) (m : List ℕ) → is_text o m ≡ true → o ≡ Some m
text_is None m e = absurd cc
text_is (Some b) m e = ap (λ (x : List ℕ). Some x) ((bytes_eq-Decides b m).0 e)

text_other : (o : Option (List ℕ)) (m : List ℕ) → o ≢ Some m → is_text o m ≡ false
text_other o m never = elim (cases_Bool (is_text o m)) [ inl yes' ↦ absurd (never (text_is o m yes')) | inr same ↦ same ]

not_text : (o : Option (List ℕ)) (m : List ℕ) → is_text o m ≡ false → o ≢ Some m
not_text o m e same = let t = text_true o m same in absurd cc

module _ (s : Source) (i : ℕ) (m : List ℕ) where
  pub mark_true : mark_at s i ≡ Some m → is_mark s i m ≡ true
  unfolding is_mark
  mark_true e = text_true (mark_at s i) m e

  pub mark_is : is_mark s i m ≡ true → mark_at s i ≡ Some m
  unfolding is_mark
  mark_is e = text_is (mark_at s i) m e

  pub mark_other : mark_at s i ≢ Some m → is_mark s i m ≡ false
  unfolding is_mark
  mark_other e = text_other (mark_at s i) m e

  pub not_mark : is_mark s i m ≡ false → mark_at s i ≢ Some m
  unfolding is_mark
  not_mark e = not_text (mark_at s i) m e

abbrev named : List ℕ → Option Token → Option (List ℕ)
named text o = option_and_then (λ u. as_name u.kind (bytes_of text u)) o

-- a token has one kind
kind_mark : (kind : TokenKind) (b m : List ℕ) → as_mark kind b ≡ Some m → as_name kind b ≡ None
kind_mark Name b m e = absurd cc
kind_mark Number b m e = refl
kind_mark Letter b m e = refl
kind_mark Text b m e = refl
kind_mark Mark b m e = refl

token_mark : (text : List ℕ) (t : Option Token) (m : List ℕ) → option_and_then (λ u. as_mark u.kind (bytes_of text u)) t ≡ Some m → named text t ≡ None
token_mark text None m e = refl
token_mark text (Some t) m e = kind_mark t.kind (bytes_of text t) m e

pub mark_no_name : (s : Source) (i : ℕ) (m : List ℕ) → mark_at s i ≡ Some m → name_at s i ≡ None
unfolding name_at mark_at
mark_no_name s i m e = token_mark s.text (slice_get s.tokens i) m e

kind_constant : (long : ℕ) (kind : TokenKind) (b : List ℕ) (c : ℕ × CKind) → as_constant long kind b ≡ Some c → (token_head kind b ≡ Other) × (as_name kind b ≡ None)
kind_constant long Name b c e = absurd cc
kind_constant long Number b c e = (refl, refl)
kind_constant long Letter b c e = (refl, refl)
kind_constant long Text b c e = absurd cc
kind_constant long Mark b c e = absurd cc

token_constant : (text : List ℕ) (long : ℕ) (t : Option Token) (c : ℕ × CKind) → option_and_then (λ u. as_constant long u.kind (bytes_of text u)) t ≡ Some c → (some_head text t ≡ Other) × (named text t ≡ None)
token_constant text long None c e = (refl, refl)
token_constant text long (Some t) c e = kind_constant long t.kind (bytes_of text t) c e

pub constant_head : (s : Source) (i : ℕ) (c : ℕ × CKind) → constant_at s i ≡ Some c → (head_at s i ≡ Other) × (name_at s i ≡ None)
unfolding constant_at head_at name_at
constant_head s i c e = token_constant s.text s.long (slice_get s.tokens i) c e

kind_text : (long : ℕ) (kind : TokenKind) (b x : List ℕ) → as_text kind b ≡ Some x → (token_head kind b ≡ Other) × (as_name kind b ≡ None) × (as_constant long kind b ≡ None)
kind_text long Name b x e = absurd cc
kind_text long Number b x e = absurd cc
kind_text long Letter b x e = absurd cc
kind_text long Text b x e = (refl, refl, refl)
kind_text long Mark b x e = absurd cc

abbrev constants : List ℕ → ℕ → Option Token → Option (ℕ × CKind)
constants text long t = option_and_then (λ u. as_constant long u.kind (bytes_of text u)) t

token_text : (text : List ℕ) (long : ℕ) (t : Option Token) (x : List ℕ) → option_and_then (λ u. as_text u.kind (bytes_of text u)) t ≡ Some x → (some_head text t ≡ Other) × (named text t ≡ None) × (constants text long t ≡ None)
token_text text long None x e = (refl, refl, refl)
token_text text long (Some t) x e = kind_text long t.kind (bytes_of text t) x e

pub text_head : (s : Source) (i : ℕ) (x : List ℕ) → literal_at s i ≡ Some x → (head_at s i ≡ Other) × (name_at s i ≡ None) × (constant_at s i ≡ None)
unfolding constant_at head_at name_at literal_at
text_head s i x e = token_text s.text s.long (slice_get s.tokens i) x e

-- what a name begins
name_cases : (n : List ℕ) → ((name_head n ≡ Record) × (n ≡ codes "REC")) ⊎ (((c : Builtin) × (name_head n ≡ Called c)) ⊎ (name_head n ≡ Other))
unfolding name_head
name_cases n = elim (cases_Bool (bytes_eq n (codes "REC"))) [
  | inl is ↦ inl (rw is refl, (bytes_eq-Decides n (codes "REC")).0 is)
  | inr never ↦ inr (elim (option_cases (call_of n)) [ inl none ↦ inr (rw (never, none) refl) | inr c ↦ inl (c.0, rw (never, c.1) refl) ])
]

-- a token is no name, or begins what its name does
kind_name : (kind : TokenKind) (b : List ℕ) → (as_name kind b ≡ None) ⊎ ((n : List ℕ) × (as_name kind b ≡ Some n) × (token_head kind b ≡ name_head n))
kind_name Name b = inr (b, refl, refl)
kind_name Number b = inl refl
kind_name Letter b = inl refl
kind_name Text b = inl refl
kind_name Mark b = inl refl

token_name : (text : List ℕ) (t : Option Token) → (named text t ≡ None) ⊎ ((n : List ℕ) × (named text t ≡ Some n) × (some_head text t ≡ name_head n))
token_name text None = inl refl
token_name text (Some t) = kind_name t.kind (bytes_of text t)

heads : (s : Source) (i : ℕ) → (name_at s i ≡ None) ⊎ ((n : List ℕ) × (name_at s i ≡ Some n) × (head_at s i ≡ name_head n))
unfolding head_at name_at
heads s i = token_name s.text (slice_get s.tokens i)

pub operator_no_name : (s : Source) (i : ℕ) (op : PrefixOp) → head_at s i ≡ Operator op → name_at s i ≡ None
operator_no_name s i op e = elim (heads s i) [
  | inl none ↦ none
  | inr n ↦ absurd (elim (name_cases n.0) [
    | inl r ↦ (let a = n.2 in let b = r.0 in cc)
    | inr other ↦ elim other [ inl c ↦ (let a = n.2 in let b = c.1 in cc) | inr o ↦ (let a = n.2 in cc) ]
  ])
]

pub open_no_name : (s : Source) (i : ℕ) → head_at s i ≡ Open → name_at s i ≡ None
open_no_name s i e = elim (heads s i) [
  | inl none ↦ none
  | inr n ↦ absurd (elim (name_cases n.0) [
    | inl r ↦ (let a = n.2 in let b = r.0 in cc)
    | inr other ↦ elim other [ inl c ↦ (let a = n.2 in let b = c.1 in cc) | inr o ↦ (let a = n.2 in cc) ]
  ])
]

pub record_name : (s : Source) (i : ℕ) → head_at s i ≡ Record → (name_at s i ≡ None) ⊎ (name_at s i ≡ Some (codes "REC"))
record_name s i e = elim (heads s i) [
  | inl none ↦ inl none
  | inr n ↦ elim (name_cases n.0) [
    | inl r ↦ inr (let a = n.1 in let b = ap (λ (x : List ℕ). Some x) r.1 in cc)
    | inr other ↦ absurd (elim other [ inl c ↦ (let a = n.2 in let b = c.1 in cc) | inr o ↦ (let a = n.2 in cc) ])
  ]
]

pub mark_within : (s : Source) (i : ℕ) (m : List ℕ) → mark_at s i ≡ Some m → i < length s.tokens
unfolding mark_at
mark_within s i m e = option_and_then_some (λ t. as_mark t.kind (bytes_of s.text t)) (slice_get s.tokens i) m e (λ t there marks. slice_get_within s.tokens i t there)

pub op_within : (s : Source) (l i : ℕ) (op : BinaryOp) → op_at s l i ≡ Some op → i < length s.tokens
unfolding op_at
op_within s l i op e = option_and_then_some (if_level l) (option_and_then op_of (mark_at s i)) op e (λ o of level. option_and_then_some op_of (mark_at s i) o of (λ m there marks. mark_within s i m there))

pub same_true : (a b : Kind) → a ≡ b → same_kind a b ≡ true
same_true kinds.Number kinds.Number e = refl
same_true kinds.Text kinds.Text e = refl
same_true kinds.Bytes kinds.Bytes e = refl
same_true kinds.Number kinds.Text e = absurd cc
same_true kinds.Number kinds.Bytes e = absurd cc
same_true kinds.Text kinds.Number e = absurd cc
same_true kinds.Text kinds.Bytes e = absurd cc
same_true kinds.Bytes kinds.Number e = absurd cc
same_true kinds.Bytes kinds.Text e = absurd cc

pub same_is : (a b : Kind) → same_kind a b ≡ true → a ≡ b
same_is kinds.Number kinds.Number e = refl
same_is kinds.Text kinds.Text e = refl
same_is kinds.Bytes kinds.Bytes e = refl
same_is kinds.Number kinds.Text e = absurd cc
same_is kinds.Number kinds.Bytes e = absurd cc
same_is kinds.Text kinds.Number e = absurd cc
same_is kinds.Text kinds.Bytes e = absurd cc
same_is kinds.Bytes kinds.Number e = absurd cc
same_is kinds.Bytes kinds.Text e = absurd cc
