-- All of a print fmt: what is computed is what there is.
use Rattle.std.proofs.Common.{◌≡◌, ◌≢◌, ◌↔◌, ℕ, zero, suc, ◌+◌, ◌-◌, ◌<◌, ◌==◌, List, [], ◌∷◌, ◌++◌, map, length, Option, Some, None, Result, Ok, Err, refl, sym, ap, subst, ◌∙◌, rules, arith, true, false, codes, inl, inr, option_map}
use Rattle.std.specs.Option.{IfSome, IfNone}
use Rattle.std.specs.Result.{IfOk}
use Rattle.std.specs.declared.alloc.AllocError.{AllocError}
use Rattle.fmt_expr.specs.Tree.{Tree}
use Rattle.fmt_expr.specs.Source.{Source, is_mark}
use Rattle.fmt_expr.specs.Texts.{text_at}
use Rattle.fmt_expr.specs.Parsing.{Found, found, FmtData, deepest, cond_at, args_at, with_args, fmt_in}
use Rattle.fmt_expr.specs.Derivation.{AreArgs, ended, argument, IsFmtOf}
use Rattle.std.proofs.lemmas.List.{append_assoc, append-nil}
use Rattle.fmt_expr.specs.Steps.{Stops}
use Rattle.fmt_expr.specs.declared.fault.ParseFault.{ParseFault}
use Rattle.fmt_expr.specs.declared.fault.ParseFault.TheVariants.{Memory, NoTree}
use Rattle.fmt_expr.specs.TreeView.{tree_of}
use Rattle.fmt_expr.specs.declared.expr.Expr.{Expr}
use Rattle.fmt_expr.specs.FmtView.{fmt_of}
use Rattle.fmt_expr.specs.declared.print_fmt.PrintFmt.{PrintFmt}
use Rattle.fmt_expr.proofs.Chances.{bind_some, map_some, guarded, chosen, some_is}
use Rattle.fmt_expr.proofs.Places.{mark_is, mark_true, mark_within}
use Rattle.fmt_expr.proofs.TextRows.{texts_again, texts_move, texts_stand}
use Rattle.fmt_expr.proofs.Complete.{cond_again, cond_moves}
use Rattle.fmt_expr.proofs.Sound.{cond_stands}

at_end : (s : Source) (m i : ℕ) → i ≡ length s.tokens → args_at s (suc m) i ≡ Some []
unfolding args_at
at_end s m i e = let same : (i == length s.tokens) ≡ true = search (rules, e) in rw same refl

inside : (i n : ℕ) → i ≢ n → (i == n) ≡ false
inside i n never = search (rules, never)

at_argument : (s : Source) (m i : ℕ) (x : Found) (rest : List Tree) → i < length s.tokens → is_mark s i (codes ",") ≡ true → cond_at s deepest (i + 1) ≡ Some x → args_at s m x.next ≡ Some rest → args_at s (suc m) i ≡ Some (x.tree ∷ rest)
unfolding args_at
at_argument s m i x rest lt comma there behind = rw (inside i (length s.tokens) (λ e. omega arith), comma, there, behind) refl

args_again : {s : Source} {i : ℕ} {ts : List Tree} → AreArgs s i ts → (m : ℕ) → length s.tokens < i + m → args_at s m i ≡ Some ts
args_again (ended e) zero enough = absurd (omega arith)
args_again {s} {i} (ended e) (suc m) enough = at_end s m i e
args_again {s} {i} (argument comma d few r) zero enough = absurd (let lt = mark_within s i (codes ",") comma in omega arith)
args_again {s} {i} (argument {j = j} {h = h} {t = t} {rest = rest} comma d few r) (suc m) enough =
    let moves = cond_moves d in
    at_argument s m i (found t h j) rest (mark_within s i (codes ",") comma) (mark_true s i (codes ",") comma) (cond_again d deepest few) (args_again r m (omega arith))

args_stand : (s : Source) (m i : ℕ) (ts : List Tree) → args_at s m i ≡ Some ts → AreArgs s i ts
unfolding args_at
args_stand s zero i ts e = absurd cc
args_stand s (suc m) i ts e = elim (chosen (i == length s.tokens) _ _ (Some ts) e) [
  | inl end ↦ subst (AreArgs s i) (some_is [] ts end.1) (ended (search (rules, end.0)))
  | inr more ↦
      let comma = guarded (is_mark s i (codes ",")) _ ts more.1 in
      let x = bind_some (cond_at s deepest (i + 1)) _ ts comma.1 in
      let rest = map_some (λ us. x.0.tree ∷ us) (args_at s m x.0.next) ts x.2 in
      let d = cond_stands s deepest (i + 1) x.0 x.1 in
      subst (AreArgs s i) rest.2 (argument (mark_is s i (codes ",") comma.0) d.0 d.1 (args_stand s m x.0.next rest.0 rest.1))
]

made : (text : List ℕ) (args : List Tree) (long : ℕ) → FmtData
made text args long = record { text = text; args = args; long = long }

pub fmt_complete : (s : Source) (f : FmtData) → IsFmtOf s f → fmt_in s ≡ Some f
unfolding fmt_in made
fmt_complete s f h =
    let args = args_again h.args (length s.tokens) (omega (arith, texts_move h.text)) in
    rw (texts_again h.text, args) (ap (λ n. Some (made f.text f.args n)) (sym h.long))

pub fmt_sound : (s : Source) (f : FmtData) → fmt_in s ≡ Some f → IsFmtOf s f
unfolding fmt_in
fmt_sound s f e =
    let text = bind_some (text_at s 0) _ f e in
    let args = map_some (with_args s text.0.text) (args_at s (length s.tokens) text.0.next) f text.2 in
    subst (IsFmtOf s) args.2 (record { behind = text.0.next; text = texts_stand s 0 text.0 text.1; args = args_stand s (length s.tokens) text.0.next args.0 args.1; long = refl })

pub same_fmt : (s : Source) (f g : FmtData) → IsFmtOf s f → IsFmtOf s g → f ≡ g
same_fmt s f g h k = some_is f g (sym (fmt_complete s f h) ∙ fmt_complete s g k)

pub computed : (s : Source) (f : FmtData) → (fmt_in s ≡ Some f) ↔ IsFmtOf s f
computed s f = (fmt_sound s f, fmt_complete s f)

-- one turn of the loop over arguments
abbrev pub behind : List Tree → Option (List Tree) → Option (List Tree)
behind front o = option_map (λ ts. front ++ ts) o

pub none_before : (o : Option (List Tree)) → o ≡ behind [] o
none_before None = refl
none_before (Some ts) = refl

pub args_over : (s : Source) (m i : ℕ) (front : List Tree) → 0 < m → i ≡ length s.tokens → behind front (args_at s m i) ≡ Some front
args_over s zero i front some e = absurd (omega arith)
args_over s (suc m) i front some e = ap (behind front) (at_end s m i e) ∙ ap (λ (ts : List Tree). Some ts) (append-nil front)

pub no_comma : (s : Source) (m i : ℕ) (front : List Tree) → i ≢ length s.tokens → is_mark s i (codes ",") ≡ false → behind front (args_at s m i) ≡ None
unfolding args_at
no_comma s zero i front more never = refl
no_comma s (suc m) i front more never = rw (inside i (length s.tokens) more, never) refl

pub no_argument : (s : Source) (m i : ℕ) (front : List Tree) → i ≢ length s.tokens → is_mark s i (codes ",") ≡ true → cond_at s deepest (i + 1) ≡ None → behind front (args_at s m i) ≡ None
unfolding args_at
no_argument s zero i front more comma none = refl
no_argument s (suc m) i front more comma none = rw (inside i (length s.tokens) more, comma, none) refl

further : (front : List Tree) (t : Tree) (o : Option (List Tree)) → behind front (option_map (λ ts. t ∷ ts) o) ≡ behind (front ++ t ∷ []) o
further front t None = refl
further front t (Some ts) = ap (λ (us : List Tree). Some us) (sym (append_assoc front (t ∷ []) ts))

pub one_argument : (s : Source) (m i : ℕ) (front : List Tree) (x : Found) → 0 < m → i ≢ length s.tokens → is_mark s i (codes ",") ≡ true → cond_at s deepest (i + 1) ≡ Some x
    → behind front (args_at s m i) ≡ behind (front ++ x.tree ∷ []) (args_at s (m - 1) x.next)
unfolding args_at
one_argument s zero i front x some more comma there = absurd (omega arith)
one_argument s (suc m) i front x some more comma there =
    let e : m ≡ suc m - 1 = omega arith in
    rw (inside i (length s.tokens) more, comma, there) (further front x.tree (args_at s m x.next) ∙ ap (λ k. behind (front ++ x.tree ∷ []) (args_at s k x.next)) e)

pub pushed_arg : (es : List Expr) (e : Expr) → map tree_of (es ++ e ∷ []) ≡ map tree_of es ++ tree_of e ∷ []
pushed_arg [] e = refl
pushed_arg (f ∷ es) e = ap (λ (ts : List Tree). tree_of f ∷ ts) (pushed_arg es e)

-- a stop below is a stop above
pub passed_args : (e : ParseFault) (below : Option Found) (above : Option (List Tree)) → (below ≡ None → above ≡ None) → Stops e below → Stops e above
passed_args Memory below above f h = tt
passed_args NoTree below above f h = f h

-- what the public call answers, from what is computed
module _ (s : Source) where
  pub found_in : (r : Result (Option PrintFmt) AllocError) → IfOk r (λ o. option_map fmt_of o ≡ fmt_in s) → IfOk r (λ o. IfSome o (λ p. IsFmtOf s (fmt_of p)))
  found_in (Ok None) h = tt
  found_in (Ok (Some p)) h = fmt_sound s (fmt_of p) (sym h)
  found_in (Err e) h = tt

  pub every_in : (r : Result (Option PrintFmt) AllocError) → IfOk r (λ o. option_map fmt_of o ≡ fmt_in s) → IfOk r (λ o. (f : FmtData) → IsFmtOf s f → option_map fmt_of o ≡ Some f)
  every_in (Ok o) h = λ f k. h ∙ fmt_complete s f k
  every_in (Err e) h = tt

  pub none_in : (r : Result (Option PrintFmt) AllocError) → IfOk r (λ o. option_map fmt_of o ≡ fmt_in s) → IfOk r (λ o. IfNone o ((f : FmtData) → IsFmtOf s f → ⊥))
  none_in (Ok None) h = λ f k. absurd (let e : None ≡ Some f = h ∙ fmt_complete s f k in cc)
  none_in (Ok (Some p)) h = tt
  none_in (Err e) h = tt
