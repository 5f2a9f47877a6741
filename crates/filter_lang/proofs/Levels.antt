-- Levels, brackets and prefix operators: what they took, and where they stopped.
use Rattle.std.proofs.Common.{◌≡◌, ℕ, zero, suc, List, [], ◌∷◌, ◌++◌, length, Option, Some, None, refl, ap, sym, ◌∙◌, subst, arith, inl, inr}
use Rattle.std.proofs.lemmas.List.{append_assoc}
use Rattle.trace_base.proofs.FieldSteps.{option_cases}
use Rattle.c_operators.proofs.Levels.{some_level}
use Rattle.filter_lang.specs.PlainToken.{PlainToken, mark, exclamation, tilde, opening, closing, name, comma, slash, colon, digits, quoted, identifier}
use Rattle.filter_lang.specs.Tree.{Tree, number, text, field, prefix, Operands, no_operands}
use Rattle.filter_lang.specs.Ops.{as_prefix, prefix_in}
use Rattle.filter_lang.specs.ConditionReading.{Parsed, found, refused, ◌>>=◌, Read, row, row_behind, in_chain, chained, level_by, unary_by, unary_from, close, below, bracket_in, under, unary_at, level_at}
use Rattle.c_operators.specs.declared.binary.BinaryOp.{BinaryOp}
use Rattle.filter_lang.specs.declared.expr.FilterPrefix.{FilterPrefix}
use Rattle.filter_lang.specs.declared.expr.FilterPrefix.TheVariants.{Not, Invert}
use Rattle.filter_lang.proofs.Written.{word_written, closing_written, written_more}
use Rattle.filter_lang.proofs.Viable.{Quiet, quieter, quiet_again, op_cases, first_is, found_is, refused_is, bind_found, bind_refused, Took, Stopped, Viable, RowTook, RowStopped, over, rows_take, rows_halt}

module _ (G : Read) (l : ℕ) (v : Viable G l) where
  reads : (ts vs rs : List PlainToken) (x : Tree) (os : Operands) → G ts ≡ found x vs → row G (suc l) (length vs) vs ≡ found os rs → (G ts >>= row_behind G (suc l)) ≡ found (chained x os) rs
  unfolding row_behind
  reads ts vs rs x os there behind = rw (there, behind) refl

  refuses : (ts rs : List PlainToken) → G ts ≡ refused rs → (G ts >>= row_behind G (suc l)) ≡ refused rs
  refuses ts rs there = rw there refl

  row_refuses : (ts vs rs : List PlainToken) (x : Tree) → G ts ≡ found x vs → row G (suc l) (length vs) vs ≡ refused rs → (G ts >>= row_behind G (suc l)) ≡ refused rs
  unfolding row_behind
  row_refuses ts vs rs x there behind = rw (there, behind) refl

  takes_next : (ts : List PlainToken) (x : Tree) (os : Operands) (vs rs : List PlainToken) → Took G l ts x vs → RowTook G l vs os rs → Took (λ zs. G zs >>= row_behind G (suc l)) (suc l) ts (chained x os) rs
  takes_next ts x os vs rs a b = record {
    us = a.us ++ b.us;
    whole = a.whole ∙ ap (λ zs. a.us ++ zs) b.whole ∙ sym (append_assoc a.us b.us rs);
    shorter = let s = a.shorter in let t = b.shorter in omega arith;
    quiet = b.quiet;
    again = λ ws q. ap (λ zs. G zs >>= row_behind G (suc l)) (append_assoc a.us b.us ws)
        ∙ reads (a.us ++ (b.us ++ ws)) (b.us ++ ws) ws x os (a.again (b.us ++ ws) (b.before ws q)) (b.again ws (length (b.us ++ ws)) q (omega arith));
  }

  stops_first : (ts rs : List PlainToken) → Stopped G l ts rs → Stopped (λ zs. G zs >>= row_behind G (suc l)) (suc l) ts rs
  stops_first ts rs s = record {
    us = s.us;
    whole = s.whole;
    more = s.more;
    written = s.written;
    tree = s.tree;
    goes_on = λ ws q. reads (s.us ++ (s.more ++ ws)) ws ws s.tree no_operands (s.goes_on ws (quieter l ws q)) (over G l (length ws) ws q);
    stops = λ t vs ws same. refuses (s.us ++ t ∷ ws) (t ∷ ws) (s.stops t vs ws same);
  }

  stops_behind : (ts rs : List PlainToken) (x : Tree) (vs : List PlainToken) → Took G l ts x vs → RowStopped G l vs rs → Stopped (λ zs. G zs >>= row_behind G (suc l)) (suc l) ts rs
  stops_behind ts rs x vs a b = record {
    us = a.us ++ b.us;
    whole = a.whole ∙ ap (λ zs. a.us ++ zs) b.whole ∙ sym (append_assoc a.us b.us rs);
    more = b.more;
    written = b.written;
    tree = chained x b.operands;
    goes_on = λ ws q. ap (λ zs. G zs >>= row_behind G (suc l)) (append_assoc a.us b.us (b.more ++ ws))
        ∙ reads (a.us ++ (b.us ++ (b.more ++ ws))) (b.us ++ (b.more ++ ws)) ws x b.operands (a.again (b.us ++ (b.more ++ ws)) (b.before (b.more ++ ws))) (b.goes_on ws (length (b.us ++ (b.more ++ ws))) q (omega arith));
    stops = λ t us ws same. ap (λ zs. G zs >>= row_behind G (suc l)) (append_assoc a.us b.us (t ∷ ws))
        ∙ row_refuses (a.us ++ (b.us ++ t ∷ ws)) (b.us ++ t ∷ ws) (t ∷ ws) x (a.again (b.us ++ t ∷ ws) (b.before (t ∷ ws))) (b.stops t us ws (length (b.us ++ t ∷ ws)) same (omega arith));
  }

  next_takes : (ts : List PlainToken) (y : Tree) (rs : List PlainToken) → (G ts >>= row_behind G (suc l)) ≡ found y rs → Took (λ zs. G zs >>= row_behind G (suc l)) (suc l) ts y rs
  unfolding row_behind
  next_takes ts y rs e =
      let first = bind_found (G ts) (row_behind G (suc l)) y rs e in
      let x = first.0 in
      let vs = first.1 in
      let behind = bind_found (row G (suc l) (length vs) vs) (in_chain x) y rs first.3 in
      let a = v.takes ts x vs first.2 in
      let b = rows_take G l v (length vs) vs behind.0 behind.1 (omega arith) a.quiet behind.2 in
      let same = found_is (chained x behind.0) y behind.1 rs behind.3 in
      subst (λ zs. Took (λ zs. G zs >>= row_behind G (suc l)) (suc l) ts y zs) same.1
      (subst (λ (z : Tree). Took (λ zs. G zs >>= row_behind G (suc l)) (suc l) ts z behind.1) same.0 (takes_next ts x behind.0 vs behind.1 a b))

  next_halts : (ts rs : List PlainToken) → (G ts >>= row_behind G (suc l)) ≡ refused rs → Stopped (λ zs. G zs >>= row_behind G (suc l)) (suc l) ts rs
  unfolding row_behind
  next_halts ts rs e = elim (bind_refused (G ts) (row_behind G (suc l)) rs e) [
    | inl first ↦ stops_first ts rs (v.halts ts rs first)
    | inr there ↦
        let x = there.0 in
        let vs = there.1 in
        elim (bind_refused (row G (suc l) (length vs) vs) (in_chain x) rs there.3) [
          | inl behind ↦ stops_behind ts rs x vs (v.takes ts x vs there.2) (rows_halt G l v (length vs) vs rs (omega arith) behind)
          | inr never ↦ absurd (let e = never.3 in cc)
        ]
  ]

  next_viable : Viable (λ zs. G zs >>= row_behind G (suc l)) (suc l)
  next_viable = record { takes = next_takes; halts = next_halts }

pub level_viable : (F : Read) → Viable F 0 → (l : ℕ) → Viable (level_by F l) l
unfolding level_by
level_viable F v zero = v
level_viable F v (suc l) = next_viable (level_by F l) l (level_viable F v l)

-- every operator has a level
quiet_at_0 : (ts : List PlainToken) → Quiet 0 ts
quiet_at_0 ts = λ k le. elim (op_cases k ts) [
  | inl none ↦ none
  | inr there ↦ absurd (omega (arith, some_level there.0, there.3))
]

module _ (inner : Option Read) where
  begins : (t : PlainToken) (ts : List PlainToken) → unary_by inner (t ∷ ts) ≡ unary_from inner t ts
  unfolding unary_by
  begins t ts = refl

  leaf : (t : PlainToken) (ts : List PlainToken) (x y : Tree) (rs : List PlainToken) → ((ws : List PlainToken) → unary_from inner t ws ≡ found y ws) → unary_from inner t ts ≡ found x rs → Took (unary_by inner) 0 (t ∷ ts) x rs
  leaf t ts x y rs is e =
      let same = found_is y x ts rs (sym (is ts) ∙ e) in
      subst (λ zs. Took (unary_by inner) 0 (t ∷ ts) x zs) same.1 (subst (λ (z : Tree). Took (unary_by inner) 0 (t ∷ ts) z ts) same.0 (record {
        us = t ∷ [];
        whole = refl;
        shorter = omega arith;
        quiet = quiet_at_0 ts;
        again = λ ws q. begins t ws ∙ is ws;
      }))

  word_on : (ws : List PlainToken) → unary_by inner (identifier (97 ∷ []) ∷ ws) ≡ found (field (97 ∷ [])) ws
  unfolding unary_by
  word_on ws = refl

  at_end : Stopped (unary_by inner) 0 [] []
  at_end = record {
    us = [];
    whole = refl;
    more = identifier (97 ∷ []) ∷ [];
    written = word_written;
    tree = field (97 ∷ []);
    goes_on = λ ws q. word_on ws;
    stops = λ t vs ws same. absurd cc;
  }

  itself : (t : PlainToken) (ts rs : List PlainToken) → ((ws : List PlainToken) → unary_from inner t ws ≡ refused (t ∷ ws)) → unary_from inner t ts ≡ refused rs → Stopped (unary_by inner) 0 (t ∷ ts) rs
  itself t ts rs is e = subst (λ zs. Stopped (unary_by inner) 0 (t ∷ ts) zs) (refused_is Tree (t ∷ ts) rs (sym (is ts) ∙ e)) (record {
    us = [];
    whole = refl;
    more = identifier (97 ∷ []) ∷ [];
    written = word_written;
    tree = field (97 ∷ []);
    goes_on = λ ws q. word_on ws;
    stops = λ u vs ws same. begins u ws ∙ subst (λ (z : PlainToken). unary_from inner z ws ≡ refused (z ∷ ws)) (first_is t u ts vs same) (is ws);
  })

  never_found : (t : PlainToken) (ts : List PlainToken) (x : Tree) (rs : List PlainToken) → unary_from inner t ts ≡ refused (t ∷ ts) → unary_from inner t ts ≡ found x rs → Took (unary_by inner) 0 (t ∷ ts) x rs
  never_found t ts x rs is e = absurd cc

pub close_found : (y x : Tree) (vs rs : List PlainToken) → close y vs ≡ found x rs → (vs ≡ closing ∷ rs) × (y ≡ x)
close_found y x [] rs e = absurd cc
close_found y x (closing ∷ vs) rs e = let same = found_is y x vs rs e in (ap (λ zs. closing ∷ zs) same.1, same.0)
close_found y x (mark op ∷ ts) rs e = absurd cc
close_found y x (exclamation ∷ ts) rs e = absurd cc
close_found y x (tilde ∷ ts) rs e = absurd cc
close_found y x (name z ∷ ts) rs e = absurd cc
close_found y x (comma ∷ ts) rs e = absurd cc
close_found y x (slash ∷ ts) rs e = absurd cc
close_found y x (colon ∷ ts) rs e = absurd cc
close_found y x (digits z ∷ ts) rs e = absurd cc
close_found y x (quoted z ∷ ts) rs e = absurd cc
close_found y x (identifier z ∷ ts) rs e = absurd cc
close_found y x (opening ∷ ts) rs e = absurd cc

close_refused : (y : Tree) (t : PlainToken) (vs rs : List PlainToken) → close y (t ∷ vs) ≡ refused rs → (ws : List PlainToken) → close y (t ∷ ws) ≡ refused (t ∷ ws)
close_refused y closing vs rs e ws = absurd cc
close_refused y (mark op) vs rs e ws = refl
close_refused y exclamation vs rs e ws = refl
close_refused y tilde vs rs e ws = refl
close_refused y (name z) vs rs e ws = refl
close_refused y comma vs rs e ws = refl
close_refused y slash vs rs e ws = refl
close_refused y colon vs rs e ws = refl
close_refused y (digits z) vs rs e ws = refl
close_refused y (quoted z) vs rs e ws = refl
close_refused y (identifier z) vs rs e ws = refl
close_refused y opening vs rs e ws = refl

close_stays : (y : Tree) (vs rs : List PlainToken) → close y vs ≡ refused rs → vs ≡ rs
close_stays y [] rs e = refused_is Tree [] rs e
close_stays y (closing ∷ vs) rs e = absurd cc
close_stays y (mark op ∷ ts) rs e = refused_is Tree (mark op ∷ ts) rs e
close_stays y (exclamation ∷ ts) rs e = refused_is Tree (exclamation ∷ ts) rs e
close_stays y (tilde ∷ ts) rs e = refused_is Tree (tilde ∷ ts) rs e
close_stays y (name z ∷ ts) rs e = refused_is Tree (name z ∷ ts) rs e
close_stays y (comma ∷ ts) rs e = refused_is Tree (comma ∷ ts) rs e
close_stays y (slash ∷ ts) rs e = refused_is Tree (slash ∷ ts) rs e
close_stays y (colon ∷ ts) rs e = refused_is Tree (colon ∷ ts) rs e
close_stays y (digits z ∷ ts) rs e = refused_is Tree (digits z ∷ ts) rs e
close_stays y (quoted z ∷ ts) rs e = refused_is Tree (quoted z ∷ ts) rs e
close_stays y (identifier z ∷ ts) rs e = refused_is Tree (identifier z ∷ ts) rs e
close_stays y (opening ∷ ts) rs e = refused_is Tree (opening ∷ ts) rs e

module _ (F : Read) (v : Viable F 0) where
  opened : (ws : List PlainToken) → unary_by (Some F) (opening ∷ ws) ≡ bracket_in F ws
  unfolding unary_by
  opened ws = refl

  deep : Viable (level_by F 10) 10
  deep = level_viable F v 10

  closes : (us ws : List PlainToken) (y : Tree) → level_by F 10 (us ++ closing ∷ ws) ≡ found y (closing ∷ ws) → unary_by (Some F) (opening ∷ us ++ closing ∷ ws) ≡ found y ws
  closes us ws y e = opened (us ++ closing ∷ ws) ∙ rw e refl

  bracket_takes : (ts : List PlainToken) (x : Tree) (rs : List PlainToken) → bracket_in F ts ≡ found x rs → Took (unary_by (Some F)) 0 (opening ∷ ts) x rs
  bracket_takes ts x rs e =
      let first = bind_found (level_by F 10 ts) close x rs e in
      let y = first.0 in
      let vs = first.1 in
      let shut = close_found y x vs rs first.3 in
      let a = deep.takes ts y vs first.2 in
      subst (λ (z : Tree). Took (unary_by (Some F)) 0 (opening ∷ ts) z rs) shut.1 (record {
        us = opening ∷ (a.us ++ closing ∷ []);
        whole = ap (λ zs. opening ∷ zs) (a.whole ∙ ap (λ zs. a.us ++ zs) shut.0 ∙ sym (append_assoc a.us (closing ∷ []) rs));
        shorter = let s = a.shorter in omega (arith, ap length shut.0);
        quiet = quiet_at_0 rs;
        again = λ ws q. ap (λ zs. unary_by (Some F) (opening ∷ zs)) (append_assoc a.us (closing ∷ []) ws) ∙ closes a.us ws y (a.again (closing ∷ ws) (λ k le. refl));
      })

  bracket_stops : (us : List PlainToken) (t : PlainToken) (ws : List PlainToken) → level_by F 10 (us ++ t ∷ ws) ≡ refused (t ∷ ws) → unary_by (Some F) (opening ∷ us ++ t ∷ ws) ≡ refused (t ∷ ws)
  bracket_stops us t ws e = opened (us ++ t ∷ ws) ∙ rw e refl

  never_closes : (us : List PlainToken) (t : PlainToken) (ws : List PlainToken) (y : Tree) → level_by F 10 (us ++ t ∷ ws) ≡ found y (t ∷ ws) → close y (t ∷ ws) ≡ refused (t ∷ ws) → unary_by (Some F) (opening ∷ us ++ t ∷ ws) ≡ refused (t ∷ ws)
  never_closes us t ws y e never = opened (us ++ t ∷ ws) ∙ rw e never

  bracket_halts : (ts rs : List PlainToken) → bracket_in F ts ≡ refused rs → Stopped (unary_by (Some F)) 0 (opening ∷ ts) rs
  bracket_halts ts rs e = elim (bind_refused (level_by F 10 ts) close rs e) [
    | inl first ↦
        let s = deep.halts ts rs first in record {
          us = opening ∷ s.us;
          whole = ap (λ zs. opening ∷ zs) s.whole;
          more = s.more ++ closing ∷ [];
          written = written_more s.more (closing ∷ []) s.written closing_written;
          tree = s.tree;
          goes_on = λ ws q. ap (λ zs. unary_by (Some F) (opening ∷ s.us ++ zs)) (append_assoc s.more (closing ∷ []) ws)
              ∙ opened (s.us ++ (s.more ++ closing ∷ ws)) ∙ rw (s.goes_on (closing ∷ ws) (λ k le. refl)) refl;
          stops = λ t vs ws same. bracket_stops s.us t ws (s.stops t vs ws same);
        }
    | inr there ↦
        let y = there.0 in
        let vs = there.1 in
        let a = deep.takes ts y vs there.2 in
        let stay = close_stays y vs rs there.3 in record {
          us = opening ∷ a.us;
          whole = ap (λ zs. opening ∷ zs) (a.whole ∙ ap (λ zs. a.us ++ zs) stay);
          more = closing ∷ [];
          written = closing_written;
          tree = y;
          goes_on = λ ws q. closes a.us ws y (a.again (closing ∷ ws) (λ k le. refl));
          stops = λ t us ws same.
              never_closes a.us t ws y (a.again (t ∷ ws) (quiet_again 10 t us ws (subst (λ zs. Quiet 10 zs) (stay ∙ same) a.quiet)))
              (close_refused y t us rs (ap (close y) (sym (stay ∙ same)) ∙ there.3) ws);
        }
  ]

  module _ (t : PlainToken) (op : FilterPrefix) (is : prefix_in t ≡ Some op) where
    marked : (ws : List PlainToken) → unary_by (Some F) (t ∷ ws) ≡ under F op ws
    unfolding unary_by
    marked ws = rw is refl

    under_found : (ws vs : List PlainToken) (y : Tree) → F ws ≡ found y vs → unary_by (Some F) (t ∷ ws) ≡ found (prefix op y) vs
    under_found ws vs y e = marked ws ∙ rw e refl

    under_refused : (ws vs : List PlainToken) → F ws ≡ refused vs → unary_by (Some F) (t ∷ ws) ≡ refused vs
    under_refused ws vs e = marked ws ∙ rw e refl

    under_takes : (ts : List PlainToken) (x : Tree) (rs : List PlainToken) → under F op ts ≡ found x rs → Took (unary_by (Some F)) 0 (t ∷ ts) x rs
    under_takes ts x rs e =
        let first = bind_found (F ts) (below op) x rs e in
        let y = first.0 in
        let vs = first.1 in
        let same = found_is (prefix op y) x vs rs first.3 in
        let a = v.takes ts y vs first.2 in
        subst (λ zs. Took (unary_by (Some F)) 0 (t ∷ ts) x zs) same.1 (subst (λ (z : Tree). Took (unary_by (Some F)) 0 (t ∷ ts) z vs) same.0 (record {
          us = t ∷ a.us;
          whole = ap (λ zs. t ∷ zs) a.whole;
          shorter = let s = a.shorter in omega arith;
          quiet = a.quiet;
          again = λ ws q. under_found (a.us ++ ws) ws y (a.again ws q);
        }))

    under_halts : (ts rs : List PlainToken) → under F op ts ≡ refused rs → Stopped (unary_by (Some F)) 0 (t ∷ ts) rs
    under_halts ts rs e = elim (bind_refused (F ts) (below op) rs e) [
      | inl first ↦
          let s = v.halts ts rs first in record {
            us = t ∷ s.us;
            whole = ap (λ zs. t ∷ zs) s.whole;
            more = s.more;
            written = s.written;
            tree = prefix op s.tree;
            goes_on = λ ws q. under_found (s.us ++ (s.more ++ ws)) ws s.tree (s.goes_on ws q);
            stops = λ u vs ws same. under_refused (s.us ++ u ∷ ws) (u ∷ ws) (s.stops u vs ws same);
          }
      | inr never ↦ absurd (let e = never.3 in cc)
    ]

-- an operator that stands before no operand
pub no_prefix : (inner : Option Read) (op : BinaryOp) → as_prefix op ≡ None → (ws : List PlainToken) → unary_from inner (mark op) ws ≡ refused (mark op ∷ ws)
no_prefix inner op never ws = rw never refl

pub no_room : (t : PlainToken) (op : FilterPrefix) → prefix_in t ≡ Some op → (ws : List PlainToken) → unary_from None t ws ≡ refused (t ∷ ws)
no_room t op is ws = rw is refl

pub prefix_there : (F : Read) (t : PlainToken) (op : FilterPrefix) → prefix_in t ≡ Some op → (ws : List PlainToken) → unary_from (Some F) t ws ≡ under F op ws
prefix_there F t op is ws = rw is refl

pub from_is : (inner : Option Read) (t : PlainToken) (ts : List PlainToken) (out : Parsed Tree) → unary_by inner (t ∷ ts) ≡ out → unary_from inner t ts ≡ out
unfolding unary_by
from_is inner t ts out e = e

pub end_is : (inner : Option Read) → unary_by inner [] ≡ refused []
unfolding unary_by
end_is inner = refl

-- what opens is all that the room decides
record Opens (inner : Option Read) : Type 0 where
  pub bracket_took : (ts : List PlainToken) (x : Tree) (rs : List PlainToken) → unary_from inner opening ts ≡ found x rs → Took (unary_by inner) 0 (opening ∷ ts) x rs
  pub bracket_stopped : (ts rs : List PlainToken) → unary_from inner opening ts ≡ refused rs → Stopped (unary_by inner) 0 (opening ∷ ts) rs
  pub prefix_took : (t : PlainToken) (op : FilterPrefix) → prefix_in t ≡ Some op → (ts : List PlainToken) (x : Tree) (rs : List PlainToken) → unary_from inner t ts ≡ found x rs → Took (unary_by inner) 0 (t ∷ ts) x rs
  pub prefix_stopped : (t : PlainToken) (op : FilterPrefix) → prefix_in t ≡ Some op → (ts rs : List PlainToken) → unary_from inner t ts ≡ refused rs → Stopped (unary_by inner) 0 (t ∷ ts) rs

module _ (inner : Option Read) (o : Opens inner) where
  mark_takes : (op : BinaryOp) (ts : List PlainToken) (x : Tree) (rs : List PlainToken) → unary_from inner (mark op) ts ≡ found x rs → Took (unary_by inner) 0 (mark op ∷ ts) x rs
  mark_takes op ts x rs e = elim (option_cases (as_prefix op)) [
    | inl never ↦ never_found inner (mark op) ts x rs (no_prefix inner op never ts) e
    | inr is ↦ o.prefix_took (mark op) is.0 is.1 ts x rs e
  ]

  mark_halts : (op : BinaryOp) (ts rs : List PlainToken) → unary_from inner (mark op) ts ≡ refused rs → Stopped (unary_by inner) 0 (mark op ∷ ts) rs
  mark_halts op ts rs e = elim (option_cases (as_prefix op)) [
    | inl never ↦ itself inner (mark op) ts rs (no_prefix inner op never) e
    | inr is ↦ o.prefix_stopped (mark op) is.0 is.1 ts rs e
  ]

  unary_takes : (ts : List PlainToken) (x : Tree) (rs : List PlainToken) → unary_by inner ts ≡ found x rs → Took (unary_by inner) 0 ts x rs
  unary_takes [] x rs e = absurd (let never = end_is inner in cc)
  unary_takes (opening ∷ ts) x rs e = o.bracket_took ts x rs (from_is inner opening ts _ e)
  unary_takes (mark op ∷ ts) x rs e = mark_takes op ts x rs (from_is inner (mark op) ts _ e)
  unary_takes (exclamation ∷ ts) x rs e = o.prefix_took exclamation Not refl ts x rs (from_is inner exclamation ts _ e)
  unary_takes (tilde ∷ ts) x rs e = o.prefix_took tilde Invert refl ts x rs (from_is inner tilde ts _ e)
  unary_takes (digits z ∷ ts) x rs e = leaf inner (digits z) ts x (number z) rs (λ ws. refl) (from_is inner (digits z) ts _ e)
  unary_takes (quoted z ∷ ts) x rs e = leaf inner (quoted z) ts x (text z) rs (λ ws. refl) (from_is inner (quoted z) ts _ e)
  unary_takes (identifier z ∷ ts) x rs e = leaf inner (identifier z) ts x (field z) rs (λ ws. refl) (from_is inner (identifier z) ts _ e)
  unary_takes (name z ∷ ts) x rs e = never_found inner (name z) ts x rs refl (from_is inner (name z) ts _ e)
  unary_takes (comma ∷ ts) x rs e = never_found inner comma ts x rs refl (from_is inner comma ts _ e)
  unary_takes (slash ∷ ts) x rs e = never_found inner slash ts x rs refl (from_is inner slash ts _ e)
  unary_takes (colon ∷ ts) x rs e = never_found inner colon ts x rs refl (from_is inner colon ts _ e)
  unary_takes (closing ∷ ts) x rs e = never_found inner closing ts x rs refl (from_is inner closing ts _ e)

  unary_halts : (ts rs : List PlainToken) → unary_by inner ts ≡ refused rs → Stopped (unary_by inner) 0 ts rs
  unary_halts [] rs e = subst (λ zs. Stopped (unary_by inner) 0 [] zs) (refused_is Tree [] rs (sym (end_is inner) ∙ e)) (at_end inner)
  unary_halts (opening ∷ ts) rs e = o.bracket_stopped ts rs (from_is inner opening ts _ e)
  unary_halts (mark op ∷ ts) rs e = mark_halts op ts rs (from_is inner (mark op) ts _ e)
  unary_halts (exclamation ∷ ts) rs e = o.prefix_stopped exclamation Not refl ts rs (from_is inner exclamation ts _ e)
  unary_halts (tilde ∷ ts) rs e = o.prefix_stopped tilde Invert refl ts rs (from_is inner tilde ts _ e)
  unary_halts (digits z ∷ ts) rs e = absurd (let never = from_is inner (digits z) ts _ e in cc)
  unary_halts (quoted z ∷ ts) rs e = absurd (let never = from_is inner (quoted z) ts _ e in cc)
  unary_halts (identifier z ∷ ts) rs e = absurd (let never = from_is inner (identifier z) ts _ e in cc)
  unary_halts (name z ∷ ts) rs e = itself inner (name z) ts rs (λ ws. refl) (from_is inner (name z) ts _ e)
  unary_halts (comma ∷ ts) rs e = itself inner comma ts rs (λ ws. refl) (from_is inner comma ts _ e)
  unary_halts (slash ∷ ts) rs e = itself inner slash ts rs (λ ws. refl) (from_is inner slash ts _ e)
  unary_halts (colon ∷ ts) rs e = itself inner colon ts rs (λ ws. refl) (from_is inner colon ts _ e)
  unary_halts (closing ∷ ts) rs e = itself inner closing ts rs (λ ws. refl) (from_is inner closing ts _ e)

closed : Opens None
closed = record {
  bracket_took = λ ts x rs e. never_found None opening ts x rs refl e;
  bracket_stopped = λ ts rs e. itself None opening ts rs (λ ws. refl) e;
  prefix_took = λ t op is ts x rs e. never_found None t ts x rs (no_room t op is ts) e;
  prefix_stopped = λ t op is ts rs e. itself None t ts rs (no_room t op is) e;
}

module _ (F : Read) (v : Viable F 0) where
  opens : Opens (Some F)
  opens = record {
    bracket_took = λ ts x rs e. bracket_takes F v ts x rs e;
    bracket_stopped = λ ts rs e. bracket_halts F v ts rs e;
    prefix_took = λ t op is ts x rs e. under_takes F v t op is ts x rs (sym (prefix_there F t op is ts) ∙ e);
    prefix_stopped = λ t op is ts rs e. under_halts F v t op is ts rs (sym (prefix_there F t op is ts) ∙ e);
  }

pub unary_viable : (n : ℕ) → Viable (unary_at n) 0
unfolding unary_at
unary_viable zero = record { takes = unary_takes None closed; halts = unary_halts None closed }
unary_viable (suc n) = record { takes = unary_takes (Some (unary_at n)) (opens (unary_at n) (unary_viable n)); halts = unary_halts (Some (unary_at n)) (opens (unary_at n) (unary_viable n)) }

pub cond_viable : (n : ℕ) → Viable (level_at n 10) 10
cond_viable n = level_viable (unary_at n) (unary_viable n) 10
