-- What is computed is derived.
use Rattle.std.proofs.Common.{◌≡◌, ℕ, zero, suc, ◌≤◌, List, [], ◌∷◌, length, Option, Some, None, refl, ap, sym, ◌∙◌, subst, arith, inl, inr}
use Rattle.trace_base.proofs.FieldSteps.{option_cases}
use Rattle.c_operators.specs.Operators.{level_of}
use Rattle.filter_lang.specs.PlainToken.{PlainToken, mark, exclamation, tilde, opening, closing, name, comma, slash, colon, digits, quoted, identifier}
use Rattle.filter_lang.specs.Tree.{Tree, number, text, field, prefix, Operands, no_operands, operand}
use Rattle.filter_lang.specs.Ops.{as_prefix, prefix_in, op_first}
use Rattle.filter_lang.specs.ConditionReading.{found, refused, ◌>>=◌, Read, row, row_behind, behind_operand, with_operand, in_chain, chained, level_by, unary_by, unary_from, close, below, bracket_in, under, unary_at, level_at}
use Rattle.filter_lang.specs.Condition.{IsLevel, alone, single, several, IsRow, no_more, goes_on, IsUnary, prefixed, bracketed, a_number, a_text, a_field}
use Rattle.c_operators.specs.declared.binary.BinaryOp.{BinaryOp}
use Rattle.filter_lang.specs.declared.expr.FilterPrefix.{FilterPrefix}
use Rattle.filter_lang.specs.declared.expr.FilterPrefix.TheVariants.{Not, Invert}
use Rattle.filter_lang.proofs.Complete.{row_over, op_same}
use Rattle.filter_lang.proofs.Moves.{level_moves}
use Rattle.filter_lang.proofs.Viable.{found_is, bind_found, op_cases}
use Rattle.filter_lang.proofs.Levels.{close_found, from_is, end_is, no_prefix, no_room, prefix_there}

abbrev pub Gets : Read → (List PlainToken → Tree → List PlainToken → Type 0) → Type 0
Gets F P = (ts : List PlainToken) (x : Tree) (rs : List PlainToken) → F ts ≡ found x rs → P ts x rs

module _ (n l : ℕ) (F : Read) (gets : Gets F (IsLevel n l)) where
  abbrev Rows : ℕ → Type 0
  Rows m = (ts : List PlainToken) (os : Operands) (rs : List PlainToken) → length ts ≤ m → row F (suc l) m ts ≡ found os rs → IsRow n l ts os rs

  rows_none : (m : ℕ) (ts : List PlainToken) (os : Operands) (rs : List PlainToken) → op_first (suc l) ts ≡ None → row F (suc l) m ts ≡ found os rs → IsRow n l ts os rs
  rows_none m ts os rs none e =
      let here = found_is no_operands os ts rs (sym (row_over F l m ts none) ∙ e) in
      subst (λ zs. IsRow n l ts os zs) here.1 (subst (λ (o : Operands). IsRow n l ts o ts) here.0 (no_more none))

  turn : (m : ℕ) (op : BinaryOp) (us : List PlainToken) → level_of op ≡ suc l → row F (suc l) (suc m) (mark op ∷ us) ≡ F us >>= behind_operand (row F (suc l) m) op
  unfolding row
  turn m op us is = rw (op_same (suc l) op us is) refl

  rows_turn : (m : ℕ) → Rows m → (op : BinaryOp) (us ts : List PlainToken) (os : Operands) (rs : List PlainToken) → length ts ≤ suc m → ts ≡ mark op ∷ us → level_of op ≡ suc l → row F (suc l) (suc m) ts ≡ found os rs → IsRow n l ts os rs
  rows_turn m rows op us ts os rs enough is level e =
      let first = bind_found (F us) (behind_operand (row F (suc l) m) op) os rs (sym (turn m op us level) ∙ ap (row F (suc l) (suc m)) (sym is) ∙ e) in
      let x = first.0 in
      let vs = first.1 in
      let next = bind_found (row F (suc l) m vs) (with_operand op x) os rs first.3 in
      let d = gets us x vs first.2 in
      let r = rows vs next.0 next.1 (let lt = level_moves d in omega (arith, ap length is)) next.2 in
      let same = found_is (operand op x next.0) os next.1 rs next.3 in
      subst (λ zs. IsRow n l zs os rs) (sym is)
      (subst (λ zs. IsRow n l (mark op ∷ us) os zs) same.1 (subst (λ (o : Operands). IsRow n l (mark op ∷ us) o next.1) same.0 (goes_on level d r)))

  rows_sound : (m : ℕ) → Rows m
  rows_sound zero ts os rs enough e = elim (op_cases (suc l) ts) [
    | inl none ↦ rows_none zero ts os rs none e
    | inr there ↦ absurd (omega (arith, ap length there.2))
  ]
  rows_sound (suc m) ts os rs enough e = elim (op_cases (suc l) ts) [
    | inl none ↦ rows_none (suc m) ts os rs none e
    | inr there ↦ rows_turn m (rows_sound m) there.0 there.1 ts os rs enough there.2 there.3 e
  ]

  joins : {ts vs rs : List PlainToken} {x : Tree} {os : Operands} → IsLevel n l ts x vs → IsRow n l vs os rs → IsLevel n (suc l) ts (chained x os) rs
  joins d (no_more none) = single d none
  joins d (goes_on is e r) = several d is e r

  next_sound : Gets (λ ts. F ts >>= row_behind F (suc l)) (IsLevel n (suc l))
  unfolding row_behind
  next_sound ts y rs e =
      let first = bind_found (F ts) (row_behind F (suc l)) y rs e in
      let x = first.0 in
      let vs = first.1 in
      let behind = bind_found (row F (suc l) (length vs) vs) (in_chain x) y rs first.3 in
      let d = joins (gets ts x vs first.2) (rows_sound (length vs) vs behind.0 behind.1 (omega arith) behind.2) in
      let same = found_is (chained x behind.0) y behind.1 rs behind.3 in
      subst (λ zs. IsLevel n (suc l) ts y zs) same.1 (subst (λ (z : Tree). IsLevel n (suc l) ts z behind.1) same.0 d)

pub level_sound : (n : ℕ) (F : Read) → Gets F (IsUnary n) → (l : ℕ) → Gets (level_by F l) (IsLevel n l)
unfolding level_by
level_sound n F gets zero ts x rs e = alone (gets ts x rs e)
level_sound n F gets (suc l) ts x rs e = next_sound n l (level_by F l) (level_sound n F gets l) ts x rs e

same_leaf : (n : ℕ) (ts us rs : List PlainToken) (x y : Tree) → IsUnary n ts y us → found y us ≡ found x rs → IsUnary n ts x rs
same_leaf n ts us rs x y d e = let same = found_is y x us rs e in subst (λ zs. IsUnary n ts x zs) same.1 (subst (λ (z : Tree). IsUnary n ts z us) same.0 d)

record Opens (n : ℕ) (inner : Option Read) : Type 0 where
  pub bracket : (ts : List PlainToken) (x : Tree) (rs : List PlainToken) → unary_from inner opening ts ≡ found x rs → IsUnary n (opening ∷ ts) x rs
  pub marked : (t : PlainToken) (op : FilterPrefix) → prefix_in t ≡ Some op → (ts : List PlainToken) (x : Tree) (rs : List PlainToken) → unary_from inner t ts ≡ found x rs → IsUnary n (t ∷ ts) x rs

never_found : (inner : Option Read) (n : ℕ) (t : PlainToken) (ts : List PlainToken) (x : Tree) (rs : List PlainToken) → unary_from inner t ts ≡ refused (t ∷ ts) → unary_from inner t ts ≡ found x rs → IsUnary n (t ∷ ts) x rs
never_found inner n t ts x rs is e = absurd cc

mark_sound : (inner : Option Read) (n : ℕ) → Opens n inner → (op : BinaryOp) (ts : List PlainToken) (x : Tree) (rs : List PlainToken) → unary_from inner (mark op) ts ≡ found x rs → IsUnary n (mark op ∷ ts) x rs
mark_sound inner n o op ts x rs e = elim (option_cases (as_prefix op)) [
  | inl never ↦ never_found inner n (mark op) ts x rs (no_prefix inner op never ts) e
  | inr is ↦ o.marked (mark op) is.0 is.1 ts x rs e
]

unary_sound : (inner : Option Read) (n : ℕ) → Opens n inner → Gets (unary_by inner) (IsUnary n)
unary_sound inner n o [] x rs e = absurd (let never = end_is inner in cc)
unary_sound inner n o (opening ∷ ts) x rs e = o.bracket ts x rs (from_is inner opening ts _ e)
unary_sound inner n o (mark op ∷ ts) x rs e = mark_sound inner n o op ts x rs (from_is inner (mark op) ts _ e)
unary_sound inner n o (exclamation ∷ ts) x rs e = o.marked exclamation Not refl ts x rs (from_is inner exclamation ts _ e)
unary_sound inner n o (tilde ∷ ts) x rs e = o.marked tilde Invert refl ts x rs (from_is inner tilde ts _ e)
unary_sound inner n o (digits z ∷ ts) x rs e = same_leaf n (digits z ∷ ts) ts rs x (number z) a_number (from_is inner (digits z) ts _ e)
unary_sound inner n o (quoted z ∷ ts) x rs e = same_leaf n (quoted z ∷ ts) ts rs x (text z) a_text (from_is inner (quoted z) ts _ e)
unary_sound inner n o (identifier z ∷ ts) x rs e = same_leaf n (identifier z ∷ ts) ts rs x (field z) a_field (from_is inner (identifier z) ts _ e)
unary_sound inner n o (name z ∷ ts) x rs e = never_found inner n (name z) ts x rs refl (from_is inner (name z) ts _ e)
unary_sound inner n o (comma ∷ ts) x rs e = never_found inner n comma ts x rs refl (from_is inner comma ts _ e)
unary_sound inner n o (slash ∷ ts) x rs e = never_found inner n slash ts x rs refl (from_is inner slash ts _ e)
unary_sound inner n o (colon ∷ ts) x rs e = never_found inner n colon ts x rs refl (from_is inner colon ts _ e)
unary_sound inner n o (closing ∷ ts) x rs e = never_found inner n closing ts x rs refl (from_is inner closing ts _ e)

closed : Opens 0 None
closed = record {
  bracket = λ ts x rs e. never_found None 0 opening ts x rs refl e;
  marked = λ t op is ts x rs e. never_found None 0 t ts x rs (no_room t op is ts) e;
}

module _ (n : ℕ) (F : Read) (gets : Gets F (IsUnary n)) where
  bracket_sound : (ts : List PlainToken) (x : Tree) (rs : List PlainToken) → bracket_in F ts ≡ found x rs → IsUnary (suc n) (opening ∷ ts) x rs
  bracket_sound ts x rs e =
      let first = bind_found (level_by F 10 ts) close x rs e in
      let shut = close_found first.0 x first.1 rs first.3 in
      let d = level_sound n F gets 10 ts first.0 first.1 first.2 in
      subst (λ (z : Tree). IsUnary (suc n) (opening ∷ ts) z rs) shut.1 (bracketed (subst (λ zs. IsLevel n 10 ts first.0 zs) shut.0 d))

  under_sound : (t : PlainToken) (op : FilterPrefix) → prefix_in t ≡ Some op → (ts : List PlainToken) (x : Tree) (rs : List PlainToken) → under F op ts ≡ found x rs → IsUnary (suc n) (t ∷ ts) x rs
  under_sound t op is ts x rs e =
      let first = bind_found (F ts) (below op) x rs e in
      same_leaf (suc n) (t ∷ ts) first.1 rs x (prefix op first.0) (prefixed is (gets ts first.0 first.1 first.2)) first.3

  opens : Opens (suc n) (Some F)
  opens = record { bracket = bracket_sound; marked = λ t op is ts x rs e. under_sound t op is ts x rs (sym (prefix_there F t op is ts) ∙ e) }

pub unary_derived : (n : ℕ) → Gets (unary_at n) (IsUnary n)
unfolding unary_at
unary_derived zero ts x rs e = unary_sound None 0 closed ts x rs e
unary_derived (suc n) ts x rs e = unary_sound (Some (unary_at n)) (suc n) (opens n (unary_at n) (unary_derived n)) ts x rs e

pub cond_derived : (n : ℕ) → Gets (level_at n 10) (IsLevel n 10)
cond_derived n = level_sound n (unary_at n) (unary_derived n) 10
