-- One step of reading after another.
use Rattle.std.proofs.Common.{◌≡◌, ℕ, zero, suc, ◌-◌, ◌<◌, List, [], ◌∷◌, Option, Some, None, refl, ap, ◌∙◌, sym, arith}
use Rattle.filter_lang.specs.PlainToken.{PlainToken, name, comma, slash, colon, digits, quoted, identifier, mark, opening, closing}
use Rattle.filter_lang.specs.Tree.{Tree, number, text, field}
use Rattle.filter_lang.specs.Ops.{prefix_in}
use Rattle.filter_lang.specs.TokenView.{plain_token}
use Rattle.filter_lang.specs.ConditionReading.{Parsed, found, refused, Read, level_by, row_behind, unary_by, unary_from, unary_at, level_at, bracket_in, under}
use Rattle.filter_lang.specs.declared.expr.FilterPrefix.{FilterPrefix}
use Rattle.filter_lang.specs.declared.token.Separator.TheVariants.{Comma, Slash, Colon}
use Rattle.filter_lang.specs.declared.token.Word.{Word}
use Rattle.filter_lang.specs.declared.token.Word.TheVariants.{Name, Separator, Number, Text, Field, Op, Not, Invert, Open, Close}
use Rattle.filter_lang.proofs.Levels.{no_room, no_prefix, prefix_there}

pub level_zero : (n l : ℕ) (ts : List PlainToken) → l ≡ 0 → level_at n l ts ≡ unary_at n ts
unfolding level_by
level_zero n zero ts e = refl
level_zero n (suc l) ts e = absurd (omega arith)

pub level_refused : (n l : ℕ) (ts rs : List PlainToken) → 0 < l → level_at n (l - 1) ts ≡ refused rs → level_at n l ts ≡ refused rs
unfolding level_by
level_refused n zero ts rs lt e = absurd (omega arith)
level_refused n (suc l) ts rs lt e = let same : suc l - 1 ≡ l = omega arith in rw (ap (λ k. level_at n k ts) (sym same) ∙ e) refl

pub level_row : (n l : ℕ) (ts rs : List PlainToken) (x : Tree) → 0 < l → level_at n (l - 1) ts ≡ found x rs → level_at n l ts ≡ row_behind (level_at n (l - 1)) l x rs
unfolding level_by
level_row n zero ts rs x lt e = absurd (omega arith)
level_row n (suc l) ts rs x lt e =
    let same : suc l - 1 ≡ l = omega arith in
    rw (ap (λ k. level_at n k ts) (sym same) ∙ e) (ap (λ k. row_behind (level_at n k) (suc l) x rs) (sym same))

pub unary_end : (n : ℕ) (ts : List PlainToken) → ts ≡ [] → unary_at n ts ≡ refused ts
unfolding unary_at unary_by
unary_end zero ts e = rw e refl
unary_end (suc n) ts e = rw e refl

pub unary_closed : (n : ℕ) (ts us : List PlainToken) (t : PlainToken) → ts ≡ t ∷ us → n ≡ 0 → unary_at n ts ≡ unary_from None t us
unfolding unary_at unary_by
unary_closed zero ts us t e z = rw e refl
unary_closed (suc n) ts us t e z = absurd (omega arith)

pub unary_open : (n : ℕ) (ts us : List PlainToken) (t : PlainToken) → ts ≡ t ∷ us → 0 < n → unary_at n ts ≡ unary_from (Some (unary_at (n - 1))) t us
unfolding unary_at unary_by
unary_open zero ts us t e lt = absurd (omega arith)
unary_open (suc n) ts us t e lt = let same : n ≡ suc n - 1 = omega arith in rw e (ap (λ k. unary_from (Some (unary_at k)) t us) same)

-- a token that reads alike whatever the room
alike : (n : ℕ) (ts us : List PlainToken) (t : PlainToken) (out : Parsed Tree) → ((inner : Option Read) → unary_from inner t us ≡ out) → ts ≡ t ∷ us → unary_at n ts ≡ out
unfolding unary_at unary_by
alike zero ts us t out same e = rw e (same None)
alike (suc n) ts us t out same e = rw e (same (Some (unary_at n)))

pub unary_digits : (n : ℕ) (ts us : List PlainToken) (value : ℕ) → ts ≡ digits value ∷ us → unary_at n ts ≡ found (number value) us
unary_digits n ts us value e = alike n ts us (digits value) (found (number value) us) (λ inner. refl) e

pub unary_quoted : (n : ℕ) (ts us : List PlainToken) (bytes : List ℕ) → ts ≡ quoted bytes ∷ us → unary_at n ts ≡ found (text bytes) us
unary_quoted n ts us bytes e = alike n ts us (quoted bytes) (found (text bytes) us) (λ inner. refl) e

pub unary_identifier : (n : ℕ) (ts us : List PlainToken) (bytes : List ℕ) → ts ≡ identifier bytes ∷ us → unary_at n ts ≡ found (field bytes) us
unary_identifier n ts us bytes e = alike n ts us (identifier bytes) (found (field bytes) us) (λ inner. refl) e

pub unary_bracket : (n : ℕ) (ts us : List PlainToken) → ts ≡ opening ∷ us → 0 < n → unary_at n ts ≡ bracket_in (unary_at (n - 1)) us
unary_bracket n ts us e lt = unary_open n ts us opening e lt

pub unary_under : (n : ℕ) (ts us : List PlainToken) (t : PlainToken) (op : FilterPrefix) → ts ≡ t ∷ us → 0 < n → prefix_in t ≡ Some op → unary_at n ts ≡ under (unary_at (n - 1)) op us
unary_under n ts us t op e lt is = unary_open n ts us t e lt ∙ prefix_there (unary_at (n - 1)) t op is us

-- what may not stand there, whatever the room
unlike : (n : ℕ) (ts us : List PlainToken) (t : PlainToken) → ((inner : Option Read) → unary_from inner t us ≡ refused (t ∷ us)) → ts ≡ t ∷ us → unary_at n ts ≡ refused ts
unlike n ts us t same e = alike n ts us t (refused (t ∷ us)) same e ∙ ap refused (sym e)

pub unary_no_bracket : (n : ℕ) (ts us : List PlainToken) → ts ≡ opening ∷ us → n ≡ 0 → unary_at n ts ≡ refused ts
unary_no_bracket n ts us e z = unary_closed n ts us opening e z ∙ ap refused (sym e)

pub unary_no_room : (n : ℕ) (ts us : List PlainToken) (t : PlainToken) (op : FilterPrefix) → ts ≡ t ∷ us → n ≡ 0 → prefix_in t ≡ Some op → unary_at n ts ≡ refused ts
unary_no_room n ts us t op e z is = unary_closed n ts us t e z ∙ no_room t op is us ∙ ap refused (sym e)

-- a word with which no operand begins
pub unary_other : (n : ℕ) (ts us : List PlainToken) (w : Word) → ts ≡ plain_token w ∷ us → prefix_in (plain_token w) ≡ None
    → ((value : ℕ) → w ≡ Number value → ⊥) → ((bytes : _) → w ≡ Text bytes → ⊥) → ((bytes : _) → w ≡ Field bytes → ⊥) → (w ≡ Open → ⊥) → unary_at n ts ≡ refused ts
unary_other n ts us (Name bytes) e none v t f o = unlike n ts us (name bytes.now) (λ inner. refl) e
unary_other n ts us (Separator Comma) e none v t f o = unlike n ts us comma (λ inner. refl) e
unary_other n ts us (Separator Slash) e none v t f o = unlike n ts us slash (λ inner. refl) e
unary_other n ts us (Separator Colon) e none v t f o = unlike n ts us colon (λ inner. refl) e
unary_other n ts us (Number value) e none v t f o = absurd (v value refl)
unary_other n ts us (Text bytes) e none v t f o = absurd (t bytes refl)
unary_other n ts us (Field bytes) e none v t f o = absurd (f bytes refl)
unary_other n ts us (Op op) e none v t f o = unlike n ts us (mark op) (λ inner. no_prefix inner op none us) e
unary_other n ts us Not e none v t f o = absurd cc
unary_other n ts us Invert e none v t f o = absurd cc
unary_other n ts us Open e none v t f o = absurd (o refl)
unary_other n ts us Close e none v t f o = unlike n ts us closing (λ inner. refl) e
