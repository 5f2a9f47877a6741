-- What a read took, it takes before everything that can't go on with it; where it stopped, more tokens make it whole,
-- and the token where it stopped never does.
use Rattle.std.proofs.Common.{◌≡◌, ◌≢◌, ℕ, zero, suc, ◌<◌, ◌≤◌, true, false, List, [], ◌∷◌, ◌++◌, length, None, refl, ap, sym, ◌∙◌, subst, arith, rules, ◌==◌, ◌⊎◌, inl, inr}
use Rattle.std.proofs.lemmas.List.{append_assoc, length-append}
use Rattle.std.proofs.lemmas.Bool.{cases_Bool, cases_lt}
use Rattle.c_operators.specs.Operators.{level_of}
use Rattle.filter_lang.specs.PlainToken.{PlainToken, mark, exclamation, tilde, opening, closing, name, comma, slash, colon, digits, quoted, identifier}
use Rattle.filter_lang.specs.Tree.{Tree, Operands, no_operands, operand}
use Rattle.filter_lang.specs.Lexing.{AreWritten}
use Rattle.filter_lang.specs.Ops.{op_first}
use Rattle.filter_lang.specs.ConditionReading.{Parsed, found, refused, ◌>>=◌, Read, row, behind_operand, with_operand}
use Rattle.c_operators.specs.declared.binary.BinaryOp.{BinaryOp}
use Rattle.filter_lang.proofs.Complete.{row_over, op_same}

-- no operator of the level, or of one that binds tighter, stands first
abbrev pub Quiet : ℕ → List PlainToken → Type 0
Quiet l ts = (k : ℕ) → k ≤ l → op_first k ts ≡ None

pub quieter : (l : ℕ) (ts : List PlainToken) → Quiet (suc l) ts → Quiet l ts
quieter l ts quiet = λ k le. quiet k (omega arith)

pub quiet_next : (l : ℕ) (ts : List PlainToken) → op_first (suc l) ts ≡ None → Quiet l ts → Quiet (suc l) ts
quiet_next l ts none quiet = λ k le. elim (cases_lt l k) [
  | inl above ↦ let same : k ≡ suc l = omega arith in ap (λ j. op_first j ts) same ∙ none
  | inr below ↦ quiet k below
]

-- an operator of a looser level stands first
quiet_before : (l : ℕ) (op : BinaryOp) (ts : List PlainToken) → level_of op ≡ suc l → Quiet l (mark op ∷ ts)
quiet_before l op ts is = λ k le.
    let never : level_of op ≢ k = λ same. absurd (omega arith) in
    let other : (level_of op == k) ≡ false = search (rules, never) in
    rw other refl

pub found_is : {A : Type 0} (x y : A) (rs vs : List PlainToken) → found x rs ≡ found y vs → (x ≡ y) × (rs ≡ vs)
found_is x y rs vs e = (cc, cc)

abbrev pub halt : (A : Type 0) → List PlainToken → Parsed A
halt A rs = refused rs

pub refused_is : (A : Type 0) (rs vs : List PlainToken) → halt A rs ≡ halt A vs → rs ≡ vs
refused_is A rs vs e = cc

halt_is : (A B : Type 0) (rs vs : List PlainToken) → halt A rs ≡ halt A vs → halt B rs ≡ halt B vs
halt_is A B rs vs e = ap (halt B) (refused_is A rs vs e)

-- the ways of a step after a step
pub bind_found : {A B : Type 0} (o : Parsed A) (f : A → List PlainToken → Parsed B) (y : B) (rs : List PlainToken) → (o >>= f) ≡ found y rs → (x : A) × (vs : List PlainToken) × (o ≡ found x vs) × (f x vs ≡ found y rs)
bind_found (found x vs) f y rs e = (x, vs, refl, e)
bind_found (refused vs) f y rs e = absurd cc

pub bind_refused : {A B : Type 0} (o : Parsed A) (f : A → List PlainToken → Parsed B) (rs : List PlainToken) → (o >>= f) ≡ refused rs → (o ≡ refused rs) ⊎ ((x : A) × (vs : List PlainToken) × (o ≡ found x vs) × (f x vs ≡ refused rs))
bind_refused (found x vs) f rs e = inr (x, vs, refl, e)
bind_refused {A} {B} (refused vs) f rs e = inl (halt_is B A vs rs e)

pub record Took (F : Read) (l : ℕ) (ts : List PlainToken) (x : Tree) (rs : List PlainToken) : Type 0 where
  pub us : List PlainToken
  pub whole : ts ≡ us ++ rs
  pub shorter : length rs < length ts
  pub quiet : Quiet l rs
  pub again : (vs : List PlainToken) → Quiet l vs → F (us ++ vs) ≡ found x vs

pub record Stopped (F : Read) (l : ℕ) (ts rs : List PlainToken) : Type 0 where
  pub us : List PlainToken
  pub whole : ts ≡ us ++ rs
  pub more : List PlainToken
  pub written : AreWritten true more
  pub tree : Tree
  pub goes_on : (vs : List PlainToken) → Quiet l vs → F (us ++ (more ++ vs)) ≡ found tree vs
  pub stops : (t : PlainToken) (vs ws : List PlainToken) → rs ≡ t ∷ vs → F (us ++ t ∷ ws) ≡ refused (t ∷ ws)

pub record Viable (F : Read) (l : ℕ) : Type 0 where
  pub takes : (ts : List PlainToken) (x : Tree) (rs : List PlainToken) → F ts ≡ found x rs → Took F l ts x rs
  pub halts : (ts rs : List PlainToken) → F ts ≡ refused rs → Stopped F l ts rs

-- rows, whatever their turns
pub record RowTook (F : Read) (l : ℕ) (ts : List PlainToken) (os : Operands) (rs : List PlainToken) : Type 0 where
  pub us : List PlainToken
  pub whole : ts ≡ us ++ rs
  pub shorter : length rs ≤ length ts
  pub quiet : Quiet (suc l) rs
  pub before : (vs : List PlainToken) → Quiet (suc l) vs → Quiet l (us ++ vs)
  pub again : (vs : List PlainToken) (m : ℕ) → Quiet (suc l) vs → length (us ++ vs) ≤ m → row F (suc l) m (us ++ vs) ≡ found os vs

pub record RowStopped (F : Read) (l : ℕ) (ts rs : List PlainToken) : Type 0 where
  pub us : List PlainToken
  pub whole : ts ≡ us ++ rs
  pub more : List PlainToken
  pub written : AreWritten true more
  pub operands : Operands
  pub before : (vs : List PlainToken) → Quiet l (us ++ vs)
  pub goes_on : (vs : List PlainToken) (m : ℕ) → Quiet (suc l) vs → length (us ++ (more ++ vs)) ≤ m → row F (suc l) m (us ++ (more ++ vs)) ≡ found operands vs
  pub stops : (t : PlainToken) (vs ws : List PlainToken) (m : ℕ) → rs ≡ t ∷ vs → length (us ++ t ∷ ws) ≤ m → row F (suc l) m (us ++ t ∷ ws) ≡ refused (t ∷ ws)

-- the operator of a level that stands first, or none
pub op_cases : (l : ℕ) (ts : List PlainToken) → (op_first l ts ≡ None) ⊎ ((op : BinaryOp) × (us : List PlainToken) × (ts ≡ mark op ∷ us) × (level_of op ≡ l))
op_cases l [] = inl refl
op_cases l (mark op ∷ ts) = elim (cases_Bool (level_of op == l)) [
  | inl same ↦ inr (op, ts, refl, search (rules, same))
  | inr never ↦ inl (rw never refl)
]
op_cases l (exclamation ∷ ts) = inl refl
op_cases l (tilde ∷ ts) = inl refl
op_cases l (name x ∷ ts) = inl refl
op_cases l (comma ∷ ts) = inl refl
op_cases l (slash ∷ ts) = inl refl
op_cases l (colon ∷ ts) = inl refl
op_cases l (digits x ∷ ts) = inl refl
op_cases l (quoted x ∷ ts) = inl refl
op_cases l (identifier x ∷ ts) = inl refl
op_cases l (opening ∷ ts) = inl refl
op_cases l (closing ∷ ts) = inl refl

pub first_is : (t u : PlainToken) (ts us : List PlainToken) → t ∷ ts ≡ u ∷ us → t ≡ u
first_is t u ts us e = cc

-- the first token decides it
pub quiet_again : (l : ℕ) (t : PlainToken) (us ws : List PlainToken) → Quiet l (t ∷ us) → Quiet l (t ∷ ws)
quiet_again l t us ws quiet = λ k le. elim (op_cases k (t ∷ ws)) [
  | inl none ↦ none
  | inr there ↦
      let same : t ≡ mark there.0 = first_is t (mark there.0) ws there.1 there.2 in
      let here : op_first k (t ∷ us) ≡ op_first k (mark there.0 ∷ us) = ap (λ (z : PlainToken). op_first k (z ∷ us)) same in
      let never = sym (op_same k there.0 us there.3) ∙ sym here ∙ quiet k le in
      absurd cc
]

-- nothing of a level stands first: then the row is over
pub over : (F : Read) (l m : ℕ) (ts : List PlainToken) → Quiet (suc l) ts → row F (suc l) m ts ≡ found no_operands ts
over F l m ts quiet = row_over F l m ts (quiet (suc l) (omega arith))

module _ (F : Read) (l : ℕ) (v : Viable F l) where
  no_turn : (m : ℕ) (ts : List PlainToken) → op_first (suc l) ts ≡ None → row F (suc l) m ts ≡ found no_operands ts
  no_turn m ts e = row_over F l m ts e

  turn : (m : ℕ) (op : BinaryOp) (us : List PlainToken) → level_of op ≡ suc l → row F (suc l) (suc m) (mark op ∷ us) ≡ F us >>= behind_operand (row F (suc l) m) op
  unfolding row
  turn m op us is = rw (op_same (suc l) op us is) refl

  nothing : (ts : List PlainToken) → op_first (suc l) ts ≡ None → Quiet l ts → RowTook F l ts no_operands ts
  nothing ts none quiet = record {
    us = [];
    whole = refl;
    shorter = omega arith;
    quiet = quiet_next l ts none quiet;
    before = λ vs q. quieter l vs q;
    again = λ vs m q enough. over F l m vs q;
  }

  again_turn : (op : BinaryOp) (x : Tree) (os : Operands) (cs bs ws vs : List PlainToken) (m : ℕ) → level_of op ≡ suc l → F (cs ++ (bs ++ ws)) ≡ found x (bs ++ ws)
      → ((k : ℕ) → length (bs ++ ws) ≤ k → row F (suc l) k (bs ++ ws) ≡ found os vs) → length (mark op ∷ cs ++ bs ++ ws) ≤ m → row F (suc l) m (mark op ∷ cs ++ bs ++ ws) ≡ found (operand op x os) vs
  again_turn op x os cs bs ws vs zero is there behind enough = absurd (omega arith)
  again_turn op x os cs bs ws vs (suc m) is there behind enough =
      let same = append_assoc cs bs ws in
      let fits : length (bs ++ ws) ≤ m = omega (arith, ap length same, enough, length-append cs (bs ++ ws)) in
      turn m op (cs ++ bs ++ ws) is ∙ ap (λ zs. F zs >>= behind_operand (row F (suc l) m) op) same ∙ rw (there, behind m fits) refl

  joined : (op : BinaryOp) (ts rs : List PlainToken) (x : Tree) (os : Operands) (vs : List PlainToken) → level_of op ≡ suc l → Took F l ts x vs → RowTook F l vs os rs → RowTook F l (mark op ∷ ts) (operand op x os) rs
  joined op ts rs x os vs is a b = record {
    us = mark op ∷ (a.us ++ b.us);
    whole = ap (λ zs. mark op ∷ zs) (a.whole ∙ ap (λ zs. a.us ++ zs) b.whole ∙ sym (append_assoc a.us b.us rs));
    shorter = let s = a.shorter in let t = b.shorter in omega arith;
    quiet = b.quiet;
    before = λ ws q. quiet_before l op ((a.us ++ b.us) ++ ws) is;
    again = λ ws m q enough. again_turn op x os a.us b.us ws ws m is (a.again (b.us ++ ws) (b.before ws q)) (λ k fits. b.again ws k q fits) enough;
  }

  abbrev Rows : ℕ → Type 0
  Rows m = (ts : List PlainToken) (os : Operands) (rs : List PlainToken) → length ts ≤ m → Quiet l ts → row F (suc l) m ts ≡ found os rs → RowTook F l ts os rs

  rows_none : (m : ℕ) (ts : List PlainToken) (os : Operands) (rs : List PlainToken) → Quiet l ts → op_first (suc l) ts ≡ None → row F (suc l) m ts ≡ found os rs → RowTook F l ts os rs
  rows_none m ts os rs quiet none e =
      let here = found_is no_operands os ts rs (sym (no_turn m ts none) ∙ e) in
      subst (λ zs. RowTook F l ts os zs) here.1 (subst (λ (o : Operands). RowTook F l ts o ts) here.0 (nothing ts none quiet))

  rows_turn : (m : ℕ) → Rows m → (op : BinaryOp) (us ts : List PlainToken) (os : Operands) (rs : List PlainToken) → length ts ≤ suc m → ts ≡ mark op ∷ us → level_of op ≡ suc l → row F (suc l) (suc m) ts ≡ found os rs → RowTook F l ts os rs
  rows_turn m rows op us ts os rs enough is level e =
      let first = bind_found (F us) (behind_operand (row F (suc l) m) op) os rs (sym (turn m op us level) ∙ ap (row F (suc l) (suc m)) (sym is) ∙ e) in
      let x = first.0 in
      let vs = first.1 in
      let next = bind_found (row F (suc l) m vs) (with_operand op x) os rs first.3 in
      let a = v.takes us x vs first.2 in
      let b = rows vs next.0 next.1 (let s = a.shorter in omega (arith, ap length is)) a.quiet next.2 in
      let same = found_is (operand op x next.0) os next.1 rs next.3 in
      subst (λ zs. RowTook F l zs os rs) (sym is)
      (subst (λ zs. RowTook F l (mark op ∷ us) os zs) same.1 (subst (λ (o : Operands). RowTook F l (mark op ∷ us) o next.1) same.0 (joined op us next.1 x next.0 vs level a b)))

  pub rows_take : (m : ℕ) → Rows m
  rows_take zero ts os rs enough quiet e = elim (op_cases (suc l) ts) [
    | inl none ↦ rows_none zero ts os rs quiet none e
    | inr there ↦ absurd (omega (arith, ap length there.2))
  ]
  rows_take (suc m) ts os rs enough quiet e = elim (op_cases (suc l) ts) [
    | inl none ↦ rows_none (suc m) ts os rs quiet none e
    | inr there ↦ rows_turn m (rows_take m) there.0 there.1 ts os rs enough there.2 there.3 e
  ]

  last_operand : (op : BinaryOp) (x : Tree) (cs vs : List PlainToken) (m : ℕ) → level_of op ≡ suc l → F cs ≡ found x vs → Quiet (suc l) vs → length (mark op ∷ cs) ≤ m → row F (suc l) m (mark op ∷ cs) ≡ found (operand op x no_operands) vs
  last_operand op x cs vs zero is there q enough = absurd (omega arith)
  last_operand op x cs vs (suc m) is there q enough = turn m op cs is ∙ rw (there, over F l m vs q) refl

  first_stops : (op : BinaryOp) (cs vs : List PlainToken) (m : ℕ) → level_of op ≡ suc l → F cs ≡ refused vs → length (mark op ∷ cs) ≤ m → row F (suc l) m (mark op ∷ cs) ≡ refused vs
  first_stops op cs vs zero is there enough = absurd (omega arith)
  first_stops op cs vs (suc m) is there enough = turn m op cs is ∙ rw there refl

  stopped : (op : BinaryOp) (ts rs : List PlainToken) → level_of op ≡ suc l → Stopped F l ts rs → RowStopped F l (mark op ∷ ts) rs
  stopped op ts rs is s = record {
    us = mark op ∷ s.us;
    whole = ap (λ zs. mark op ∷ zs) s.whole;
    more = s.more;
    written = s.written;
    operands = operand op s.tree no_operands;
    before = λ ws. quiet_before l op (s.us ++ ws) is;
    goes_on = λ ws m q enough. last_operand op s.tree (s.us ++ (s.more ++ ws)) ws m is (s.goes_on ws (quieter l ws q)) q enough;
    stops = λ t vs ws m same enough. first_stops op (s.us ++ t ∷ ws) (t ∷ ws) m is (s.stops t vs ws same) enough;
  }

  then_stops : (op : BinaryOp) (x : Tree) (cs bs ws vs : List PlainToken) (m : ℕ) → level_of op ≡ suc l → F (cs ++ (bs ++ ws)) ≡ found x (bs ++ ws)
      → ((k : ℕ) → length (bs ++ ws) ≤ k → row F (suc l) k (bs ++ ws) ≡ refused vs) → length (mark op ∷ cs ++ bs ++ ws) ≤ m → row F (suc l) m (mark op ∷ cs ++ bs ++ ws) ≡ refused vs
  then_stops op x cs bs ws vs zero is there behind enough = absurd (omega arith)
  then_stops op x cs bs ws vs (suc m) is there behind enough =
      let same = append_assoc cs bs ws in
      let fits : length (bs ++ ws) ≤ m = omega (arith, ap length same, enough, length-append cs (bs ++ ws)) in
      turn m op (cs ++ bs ++ ws) is ∙ ap (λ zs. F zs >>= behind_operand (row F (suc l) m) op) same ∙ rw (there, behind m fits) refl

  behind : (op : BinaryOp) (ts rs : List PlainToken) (x : Tree) (vs : List PlainToken) → level_of op ≡ suc l → Took F l ts x vs → RowStopped F l vs rs → RowStopped F l (mark op ∷ ts) rs
  behind op ts rs x vs is a b = record {
    us = mark op ∷ (a.us ++ b.us);
    whole = ap (λ zs. mark op ∷ zs) (a.whole ∙ ap (λ zs. a.us ++ zs) b.whole ∙ sym (append_assoc a.us b.us rs));
    more = b.more;
    written = b.written;
    operands = operand op x b.operands;
    before = λ ws. quiet_before l op ((a.us ++ b.us) ++ ws) is;
    goes_on = λ ws m q enough. again_turn op x b.operands a.us b.us (b.more ++ ws) ws m is (a.again (b.us ++ (b.more ++ ws)) (b.before (b.more ++ ws))) (λ k fits. b.goes_on ws k q fits) enough;
    stops = λ t us ws m same enough. then_stops op x a.us b.us (t ∷ ws) (t ∷ ws) m is (a.again (b.us ++ t ∷ ws) (b.before (t ∷ ws))) (λ k fits. b.stops t us ws k same fits) enough;
  }

  abbrev Halts : ℕ → Type 0
  Halts m = (ts rs : List PlainToken) → length ts ≤ m → row F (suc l) m ts ≡ refused rs → RowStopped F l ts rs

  halt_turn : (m : ℕ) → Halts m → (op : BinaryOp) (us ts rs : List PlainToken) → length ts ≤ suc m → ts ≡ mark op ∷ us → level_of op ≡ suc l → row F (suc l) (suc m) ts ≡ refused rs → RowStopped F l ts rs
  halt_turn m halts' op us ts rs enough is level e =
      subst (λ zs. RowStopped F l zs rs) (sym is) (elim (bind_refused (F us) (behind_operand (row F (suc l) m) op) rs (sym (turn m op us level) ∙ ap (row F (suc l) (suc m)) (sym is) ∙ e)) [
        | inl first ↦ stopped op us rs level (v.halts us rs first)
        | inr there ↦
            let x = there.0 in
            let vs = there.1 in
            let a = v.takes us x vs there.2 in
            elim (bind_refused (row F (suc l) m vs) (with_operand op x) rs there.3) [
              | inl next ↦ behind op us rs x vs level a (halts' vs rs (let s = a.shorter in omega (arith, ap length is)) next)
              | inr never ↦ absurd (let e = never.3 in cc)
            ]
      ])

  pub rows_halt : (m : ℕ) → Halts m
  rows_halt zero ts rs enough e = elim (op_cases (suc l) ts) [
    | inl none ↦ absurd (let never = no_turn zero ts none in cc)
    | inr there ↦ absurd (omega (arith, ap length there.2))
  ]
  rows_halt (suc m) ts rs enough e = elim (op_cases (suc l) ts) [
    | inl none ↦ absurd (let never = no_turn (suc m) ts none in cc)
    | inr there ↦ halt_turn m (rows_halt m) there.0 there.1 ts rs enough there.2 there.3 e
  ]
