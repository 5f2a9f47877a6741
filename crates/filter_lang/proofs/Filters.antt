-- All of a filter: what is computed is what is derived, and where computing stops no filter goes on.
use Rattle.std.proofs.Common.{◌≡◌, ℕ, Bool, true, false, List, [], ◌∷◌, ◌++◌, Option, Some, None, refl, ap, sym, ◌∙◌, subst, ◌⊎◌, inl, inr}
use Rattle.std.specs.List.{list_any}
use Rattle.std.proofs.lemmas.List.{append_assoc}
use Rattle.filter_lang.specs.PlainToken.{PlainToken, mark, exclamation, tilde, opening, closing, name, comma, slash, colon, digits, quoted, identifier}
use Rattle.filter_lang.specs.Tree.{Tree}
use Rattle.filter_lang.specs.Filter.{EventNameData, FilterData, named, filter}
use Rattle.filter_lang.specs.ConditionReading.{Parsed, found, refused, ◌>>=◌, cond_at}
use Rattle.filter_lang.specs.Condition.{IsLevel}
use Rattle.filter_lang.specs.Grammar.{IsEvent, one_name, two_names, AreEvents, last, further, IsFilter, events_alone, with_condition, deepest, RefusedBefore}
use Rattle.filter_lang.specs.FilterReading.{Mode, naming, first, slashed, both, step, over, with_events, names, whole, behind_events, filter_in}
use Rattle.filter_lang.specs.Lexing.{is_colon, AreWritten}
use Rattle.filter_lang.proofs.Written.{name_written, written_more, either_true}
use Rattle.filter_lang.proofs.Complete.{level_again}
use Rattle.filter_lang.proofs.Viable.{Quiet, quiet_again, first_is, found_is, refused_is, bind_found, bind_refused}
use Rattle.filter_lang.proofs.Levels.{cond_viable}
use Rattle.filter_lang.proofs.Sound.{cond_derived}

abbrev Events : Type 0
Events = List EventNameData

-- no token goes on
pub stuck : (m : Mode) (t : PlainToken) (ts : List PlainToken) → step m t ≡ None → names (t ∷ ts) m ≡ over m (t ∷ ts)
unfolding names
stuck m t ts e = rw e refl

pub goes : (m : Mode) (t : PlainToken) (ts : List PlainToken) (es : Events) (n : Mode) → step m t ≡ Some (es, n) → names (t ∷ ts) m ≡ names ts n >>= with_events es
unfolding names
goes m t ts es n e = rw e refl

pub at_end : (m : Mode) → names [] m ≡ over m []
unfolding names
at_end m = refl

pub with_none : (o : Parsed Events) → o ≡ o >>= with_events []
with_none (found es rs) = refl
with_none (refused rs) = refl

pub with_both : (as' bs : Events) (o : Parsed Events) → ((o >>= with_events bs) >>= with_events as') ≡ o >>= with_events (as' ++ bs)
with_both as' bs (found es rs) = ap (λ (zs : Events). found zs rs) (sym (append_assoc as' bs es))
with_both as' bs (refused rs) = refl

option_cases : {A : Type 0} (o : Option A) → (o ≡ None) ⊎ ((x : A) × (o ≡ Some x))
option_cases None = inl refl
option_cases (Some x) = inr (x, refl)

some_is : {A : Type 0} (x y : A) → Some x ≡ Some y → x ≡ y
some_is x y e = cc

-- the tokens that are taken, and what has been read then
record Ran (ts : List PlainToken) (m : Mode) : Type 0 where
  pub us : List PlainToken
  pub no_colon : list_any is_colon us ≡ false
  pub rs : List PlainToken
  pub at : Mode
  pub es : Events
  pub is : ts ≡ us ++ rs
  pub halts : (t : PlainToken) (vs : List PlainToken) → rs ≡ t ∷ vs → step at t ≡ None
  pub law : (vs : List PlainToken) → names (us ++ vs) m ≡ names vs at >>= with_events es

halted : (t : PlainToken) (ts : List PlainToken) (m : Mode) → step m t ≡ None → Ran (t ∷ ts) m
halted t ts m none = record {
  us = [];
  no_colon = refl;
  rs = t ∷ ts;
  at = m;
  es = [];
  is = refl;
  halts = λ u vs same. subst (λ (z : PlainToken). step m z ≡ None) (first_is t u ts vs same) none;
  law = λ vs. with_none (names vs m);
}

-- a colon is no part of the names
steps_on : (m n : Mode) (es : Events) (t : PlainToken) → step m t ≡ Some (es, n) → is_colon t ≡ false
steps_on m n es (mark op) e = refl
steps_on m n es exclamation e = refl
steps_on m n es tilde e = refl
steps_on m n es (name x) e = refl
steps_on m n es comma e = refl
steps_on m n es slash e = refl
steps_on naming n es colon e = absurd cc
steps_on (first a) n es colon e = absurd cc
steps_on (slashed a) n es colon e = absurd cc
steps_on (both a b) n es colon e = absurd cc
steps_on m n es (digits x) e = refl
steps_on m n es (quoted x) e = refl
steps_on m n es (identifier x) e = refl
steps_on m n es opening e = refl
steps_on m n es closing e = refl

went : (t : PlainToken) (ts : List PlainToken) (m n : Mode) (es : Events) → step m t ≡ Some (es, n) → Ran ts n → Ran (t ∷ ts) m
went t ts m n es e r = record {
  us = t ∷ r.us;
  no_colon = rw (steps_on m n es t e) r.no_colon;
  rs = r.rs;
  at = r.at;
  es = es ++ r.es;
  is = ap (λ zs. t ∷ zs) r.is;
  halts = r.halts;
  law = λ vs. goes m t (r.us ++ vs) es n e ∙ ap (λ (o : Parsed Events). o >>= with_events es) (r.law vs) ∙ with_both es r.es (names vs r.at);
}

ran : (ts : List PlainToken) (m : Mode) → Ran ts m
ran [] m = record { us = []; no_colon = refl; rs = []; at = m; es = []; is = refl; halts = λ u vs same. absurd cc; law = λ vs. with_none (names vs m) }
ran (t ∷ ts) m = elim (option_cases (step m t)) [
  | inl none ↦ halted t ts m none
  | inr some ↦ went t ts m some.0.1 some.0.0 some.1 (ran ts some.0.1)
]

-- what makes an event whole
record Completed (m : Mode) : Type 0 where
  pub more : List PlainToken
  pub written : AreWritten false more
  pub event : EventNameData
  pub there : names more m ≡ found (event ∷ []) []

completed : (m : Mode) → Completed m
unfolding names
completed naming = record { more = name (97 ∷ []) ∷ []; written = name_written; event = named (97 ∷ []) None; there = refl }
completed (first a) = record { more = []; written = tt; event = named a None; there = refl }
completed (slashed a) = record { more = name (97 ∷ []) ∷ []; written = name_written; event = named a (Some (97 ∷ [])); there = refl }
completed (both a b) = record { more = []; written = tt; event = named a (Some b); there = refl }

-- the events, derived from what is computed
abbrev Rest : Mode → List PlainToken → Events → List PlainToken → Type 0
Rest naming ts es rs = AreEvents ts es rs
Rest (first a) ts es rs = AreEvents (name a ∷ ts) es rs
Rest (slashed a) ts es rs = AreEvents (name a ∷ slash ∷ ts) es rs
Rest (both a b) ts es rs = AreEvents (name a ∷ slash ∷ name b ∷ ts) es rs

moved : {A : Type 0} (P : A → List PlainToken → Type 0) (x y : A) (vs rs : List PlainToken) → P x vs → found x vs ≡ found y rs → P y rs
moved P x y vs rs p e = let same = found_is x y vs rs e in subst (λ zs. P y zs) same.1 (subst (λ z. P z vs) same.0 p)

over_derived : (m : Mode) (ts : List PlainToken) (es : Events) (rs : List PlainToken) → over m ts ≡ found es rs → Rest m ts es rs
over_derived naming ts es rs e = absurd cc
over_derived (first a) ts es rs e = moved (λ (zs : Events). AreEvents (name a ∷ ts) zs) (named a None ∷ []) es ts rs (last one_name) e
over_derived (slashed a) ts es rs e = absurd cc
over_derived (both a b) ts es rs e = moved (λ (zs : Events). AreEvents (name a ∷ slash ∷ name b ∷ ts) zs) (named a (Some b) ∷ []) es ts rs (last two_names) e

abbrev pair : Events → Mode → Events × Mode
pair es m = (es, m)

step_is : (fs : Events) (m : Mode) (es : Events) (n : Mode) → Some (pair fs m) ≡ Some (pair es n) → (fs ≡ es) × (m ≡ n)
step_is fs m es n e = let same = some_is (pair fs m) (pair es n) e in (ap (λ (x : Events × Mode). x.0) same, ap (λ (x : Events × Mode). x.1) same)

-- a step, told by its mode and token
stepped : (m n : Mode) (t : PlainToken) (es fs : Events) (ts rs : List PlainToken) → step m t ≡ Some (es, n) → Rest n ts fs rs → Rest m (t ∷ ts) (es ++ fs) rs
stepped naming n (mark op) es fs ts rs e d = absurd cc
stepped naming n exclamation es fs ts rs e d = absurd cc
stepped naming n tilde es fs ts rs e d = absurd cc
stepped naming n (name x) es fs ts rs e d = let s = step_is [] (first x) es n e in subst (λ (zs : Events). AreEvents (name x ∷ ts) (zs ++ fs) rs) s.0 (subst (λ (k : Mode). Rest k ts fs rs) (sym s.1) d)
stepped naming n comma es fs ts rs e d = absurd cc
stepped naming n slash es fs ts rs e d = absurd cc
stepped naming n colon es fs ts rs e d = absurd cc
stepped naming n (digits x) es fs ts rs e d = absurd cc
stepped naming n (quoted x) es fs ts rs e d = absurd cc
stepped naming n (identifier x) es fs ts rs e d = absurd cc
stepped naming n opening es fs ts rs e d = absurd cc
stepped naming n closing es fs ts rs e d = absurd cc
stepped (first a) n (mark op) es fs ts rs e d = absurd cc
stepped (first a) n exclamation es fs ts rs e d = absurd cc
stepped (first a) n tilde es fs ts rs e d = absurd cc
stepped (first a) n (name x) es fs ts rs e d = absurd cc
stepped (first a) n comma es fs ts rs e d = let s = step_is (named a None ∷ []) naming es n e in subst (λ (zs : Events). AreEvents (name a ∷ comma ∷ ts) (zs ++ fs) rs) s.0 (further one_name (subst (λ (k : Mode). Rest k ts fs rs) (sym s.1) d))
stepped (first a) n slash es fs ts rs e d = let s = step_is [] (slashed a) es n e in subst (λ (zs : Events). AreEvents (name a ∷ slash ∷ ts) (zs ++ fs) rs) s.0 (subst (λ (k : Mode). Rest k ts fs rs) (sym s.1) d)
stepped (first a) n colon es fs ts rs e d = absurd cc
stepped (first a) n (digits x) es fs ts rs e d = absurd cc
stepped (first a) n (quoted x) es fs ts rs e d = absurd cc
stepped (first a) n (identifier x) es fs ts rs e d = absurd cc
stepped (first a) n opening es fs ts rs e d = absurd cc
stepped (first a) n closing es fs ts rs e d = absurd cc
stepped (slashed a) n (mark op) es fs ts rs e d = absurd cc
stepped (slashed a) n exclamation es fs ts rs e d = absurd cc
stepped (slashed a) n tilde es fs ts rs e d = absurd cc
stepped (slashed a) n (name x) es fs ts rs e d = let s = step_is [] (both a x) es n e in subst (λ (zs : Events). AreEvents (name a ∷ slash ∷ name x ∷ ts) (zs ++ fs) rs) s.0 (subst (λ (k : Mode). Rest k ts fs rs) (sym s.1) d)
stepped (slashed a) n comma es fs ts rs e d = absurd cc
stepped (slashed a) n slash es fs ts rs e d = absurd cc
stepped (slashed a) n colon es fs ts rs e d = absurd cc
stepped (slashed a) n (digits x) es fs ts rs e d = absurd cc
stepped (slashed a) n (quoted x) es fs ts rs e d = absurd cc
stepped (slashed a) n (identifier x) es fs ts rs e d = absurd cc
stepped (slashed a) n opening es fs ts rs e d = absurd cc
stepped (slashed a) n closing es fs ts rs e d = absurd cc
stepped (both a b) n (mark op) es fs ts rs e d = absurd cc
stepped (both a b) n exclamation es fs ts rs e d = absurd cc
stepped (both a b) n tilde es fs ts rs e d = absurd cc
stepped (both a b) n (name x) es fs ts rs e d = absurd cc
stepped (both a b) n comma es fs ts rs e d = let s = step_is (named a (Some b) ∷ []) naming es n e in subst (λ (zs : Events). AreEvents (name a ∷ slash ∷ name b ∷ comma ∷ ts) (zs ++ fs) rs) s.0 (further two_names (subst (λ (k : Mode). Rest k ts fs rs) (sym s.1) d))
stepped (both a b) n slash es fs ts rs e d = absurd cc
stepped (both a b) n colon es fs ts rs e d = absurd cc
stepped (both a b) n (digits x) es fs ts rs e d = absurd cc
stepped (both a b) n (quoted x) es fs ts rs e d = absurd cc
stepped (both a b) n (identifier x) es fs ts rs e d = absurd cc
stepped (both a b) n opening es fs ts rs e d = absurd cc
stepped (both a b) n closing es fs ts rs e d = absurd cc

names_derived : (ts : List PlainToken) (m : Mode) (es : Events) (rs : List PlainToken) → names ts m ≡ found es rs → Rest m ts es rs
names_derived [] m es rs e = over_derived m [] es rs (sym (at_end m) ∙ e)
names_derived (t ∷ ts) m es rs e = elim (option_cases (step m t)) [
  | inl none ↦ over_derived m (t ∷ ts) es rs (sym (stuck m t ts none) ∙ e)
  | inr some ↦
      let b = bind_found (names ts some.0.1) (with_events some.0.0) es rs (sym (goes m t ts some.0.0 some.0.1 some.1) ∙ e) in
      moved (λ (zs : Events). Rest m (t ∷ ts) zs) (some.0.0 ++ b.0) es b.1 rs (stepped m some.0.1 t some.0.0 b.0 ts b.1 some.1 (names_derived ts some.0.1 b.0 b.1 b.2)) b.3
]

-- nothing of an event stands first
abbrev Behind : List PlainToken → Type 0
Behind rs = (m : Mode) → names rs m ≡ over m rs

behind_end : Behind []
behind_end m = at_end m

behind_colon : (us : List PlainToken) → Behind (colon ∷ us)
behind_colon us naming = stuck naming colon us refl
behind_colon us (first a) = stuck (first a) colon us refl
behind_colon us (slashed a) = stuck (slashed a) colon us refl
behind_colon us (both a b) = stuck (both a b) colon us refl

pub a_name : (a : List ℕ) (ts : List PlainToken) → names (name a ∷ ts) naming ≡ names ts (first a)
a_name a ts = goes naming (name a) ts [] (first a) refl ∙ sym (with_none (names ts (first a)))

pub two : (a b : List ℕ) (ts : List PlainToken) → names (name a ∷ slash ∷ name b ∷ ts) naming ≡ names ts (both a b)
two a b ts =
    a_name a (slash ∷ name b ∷ ts) ∙ goes (first a) slash (name b ∷ ts) [] (slashed a) refl ∙ sym (with_none (names (name b ∷ ts) (slashed a)))
    ∙ goes (slashed a) (name b) ts [] (both a b) refl ∙ sym (with_none (names ts (both a b)))

event_there : {ts rs : List PlainToken} {e : EventNameData} → IsEvent ts e rs → Behind rs → names ts naming ≡ found (e ∷ []) rs
event_there (one_name {a = a} {rs = rs}) q = a_name a rs ∙ q (first a)
event_there (two_names {a = a} {b = b} {rs = rs}) q = two a b rs ∙ q (both a b)

event_before : {ts us : List PlainToken} {e : EventNameData} (vs : List PlainToken) → IsEvent ts e us → us ≡ comma ∷ vs → names ts naming ≡ names vs naming >>= with_events (e ∷ [])
event_before vs (one_name {a = a} {rs = rs}) same = a_name a rs ∙ ap (λ zs. names zs (first a)) same ∙ goes (first a) comma vs (named a None ∷ []) naming refl
event_before vs (two_names {a = a} {b = b} {rs = rs}) same = two a b rs ∙ ap (λ zs. names zs (both a b)) same ∙ goes (both a b) comma vs (named a (Some b) ∷ []) naming refl

events_there : {ts rs : List PlainToken} {es : Events} → AreEvents ts es rs → Behind rs → names ts naming ≡ found es rs
events_there (last d) q = event_there d q
events_there {ts} {rs} (further {us = us} {e = e} {es = es} d r) q = event_before us d refl ∙ ap (λ (o : Parsed Events). o >>= with_events (e ∷ [])) (events_there r q)

read_whole : (ts rs : List PlainToken) (es : Events) → names ts naming ≡ found es rs → filter_in ts ≡ behind_events es rs
unfolding filter_in
read_whole ts rs es e = rw e refl

stop_first : (ts rs : List PlainToken) → names ts naming ≡ refused rs → filter_in ts ≡ refused rs
unfolding filter_in
stop_first ts rs e = rw e refl

cond_whole : (es : Events) (us : List PlainToken) (t : Tree) → cond_at deepest us ≡ found t [] → behind_events es (colon ∷ us) ≡ found (filter es (Some t)) []
cond_whole es us t e = rw e refl

pub filter_there : {ts : List PlainToken} {f : FilterData} → IsFilter ts f → filter_in ts ≡ found f []
filter_there {ts} (events_alone {es = es} d) = read_whole ts [] es (events_there d behind_end)
filter_there {ts} (with_condition {us = us} {es = es} {t = t} d c) = read_whole ts (colon ∷ us) es (events_there d (behind_colon us)) ∙ cond_whole es us t (level_again c)

whole_found : (es : Events) (t : Tree) (vs : List PlainToken) (f : FilterData) (rs : List PlainToken) → whole es t vs ≡ found f rs → (vs ≡ []) × (filter es (Some t) ≡ f) × (rs ≡ [])
whole_found es t [] f rs e = let same = found_is (filter es (Some t)) f [] rs e in (refl, same.0, sym same.1)
whole_found es t (v ∷ vs) f rs e = absurd cc

abbrev Given : List PlainToken → Events → List PlainToken → Type 0
Given ts es us = (f : FilterData) (rs : List PlainToken) → AreEvents ts es us → behind_events es us ≡ found f rs → IsFilter ts f × (rs ≡ [])

given : (ts : List PlainToken) (es : Events) (us : List PlainToken) → Given ts es us
given ts es [] f rs d e = let same = found_is (filter es None) f [] rs e in (subst (λ (z : FilterData). IsFilter ts z) same.0 (events_alone d), sym same.1)
given ts es (colon ∷ us) f rs d e =
    let b = bind_found (cond_at deepest us) (whole es) f rs e in
    let w = whole_found es b.0 b.1 f rs b.3 in
    let c = cond_derived deepest us b.0 b.1 b.2 in
    (subst (λ (z : FilterData). IsFilter ts z) w.1 (with_condition d (subst (λ zs. IsLevel deepest 10 us b.0 zs) w.0 c)), w.2)
given ts es (mark op ∷ us) f rs d e = absurd cc
given ts es (exclamation ∷ us) f rs d e = absurd cc
given ts es (tilde ∷ us) f rs d e = absurd cc
given ts es (name x ∷ us) f rs d e = absurd cc
given ts es (comma ∷ us) f rs d e = absurd cc
given ts es (slash ∷ us) f rs d e = absurd cc
given ts es (digits x ∷ us) f rs d e = absurd cc
given ts es (quoted x ∷ us) f rs d e = absurd cc
given ts es (identifier x ∷ us) f rs d e = absurd cc
given ts es (opening ∷ us) f rs d e = absurd cc
given ts es (closing ∷ us) f rs d e = absurd cc

pub filter_derived : (ts : List PlainToken) (f : FilterData) (rs : List PlainToken) → filter_in ts ≡ found f rs → IsFilter ts f × (rs ≡ [])
unfolding filter_in
filter_derived ts f rs e = let b = bind_found (names ts naming) behind_events f rs e in given ts b.0 b.1 f rs (names_derived ts naming b.0 b.1 b.2) b.3

-- where computing stops
over_cases : (m : Mode) → ((ts : List PlainToken) → over m ts ≡ refused ts) ⊎ ((e : EventNameData) × ((ts : List PlainToken) → over m ts ≡ found (e ∷ []) ts))
over_cases naming = inl (λ ts. refl)
over_cases (first a) = inr (named a None, λ ts. refl)
over_cases (slashed a) = inl (λ ts. refl)
over_cases (both a b) = inr (named a (Some b), λ ts. refl)

past_colon : (us vs : List PlainToken) → list_any is_colon (us ++ colon ∷ vs) ≡ true
past_colon [] vs = refl
past_colon (u ∷ us) vs = either_true (is_colon u) (past_colon us vs)

-- enough to be refused: how it goes on, and that no more tokens help
refusal_of : (ts rs us more : List PlainToken) (f : FilterData) → AreWritten (list_any is_colon us) more → ts ≡ us ++ rs → filter_in ts ≡ refused rs → filter_in (us ++ more) ≡ found f [] → ((t : PlainToken) (vs ws : List PlainToken) → rs ≡ t ∷ vs → filter_in (us ++ t ∷ ws) ≡ refused (t ∷ ws)) → RefusedBefore ts rs
refusal_of ts rs us more f written is e on stops = record {
  before = us;
  is = is;
  goes_on = record { on = record { more = more; made = f; whole = (filter_derived (us ++ more) f [] on).0 }; written = written };
  stops = λ t vs same on.
      let again = filter_there on.whole in
      let never = stops t vs on.more same in
      let shift = ap filter_in (append_assoc us (t ∷ []) on.more) in
      cc;
  ends = λ f same d. let again = filter_there d in cc;
}

module _ (ts : List PlainToken) (r : Ran ts naming) where
  -- what follows the tokens that are taken
  ends_in : (vs : List PlainToken) → names vs r.at ≡ over r.at vs → names (r.us ++ vs) naming ≡ over r.at vs >>= with_events r.es
  ends_in vs e = r.law vs ∙ ap (λ (o : Parsed Events). o >>= with_events r.es) e

  halts_at : (t : PlainToken) (vs ws : List PlainToken) → r.rs ≡ t ∷ vs → names (t ∷ ws) r.at ≡ over r.at (t ∷ ws)
  halts_at t vs ws same = stuck r.at t ws (r.halts t vs same)

  rest_cases : (rs : List PlainToken) → (rs ≡ []) ⊎ ((t : PlainToken) × (vs : List PlainToken) × (rs ≡ t ∷ vs))
  rest_cases [] = inl refl
  rest_cases (t ∷ vs) = inr (t, vs, refl)

  halts_all : names r.rs r.at ≡ over r.at r.rs
  halts_all = elim (rest_cases r.rs) [
    | inl none ↦ ap (λ zs. names zs r.at) none ∙ at_end r.at ∙ sym (ap (over r.at) none)
    | inr some ↦ ap (λ zs. names zs r.at) some.2 ∙ halts_at some.0 some.1 some.1 some.2 ∙ sym (ap (over r.at) some.2)
  ]

  -- in the midst of an event
  module _ (open' : (zs : List PlainToken) → over r.at zs ≡ refused zs) where
    no_event : (vs : List PlainToken) → names vs r.at ≡ over r.at vs → filter_in (r.us ++ vs) ≡ refused vs
    no_event vs e = stop_first (r.us ++ vs) vs (ends_in vs e ∙ ap (λ (o : Parsed Events). o >>= with_events r.es) (open' vs))

    refused_there : filter_in ts ≡ refused r.rs
    refused_there = ap filter_in r.is ∙ no_event r.rs halts_all

    completes : (c : Completed r.at) → filter_in (r.us ++ c.more) ≡ found (filter (r.es ++ c.event ∷ []) None) []
    completes c = read_whole (r.us ++ c.more) [] (r.es ++ c.event ∷ []) (r.law c.more ∙ ap (λ (o : Parsed Events). o >>= with_events r.es) c.there)

    midst : RefusedBefore ts r.rs
    midst =
        let c = completed r.at in
        refusal_of ts r.rs r.us c.more (filter (r.es ++ c.event ∷ []) None) (subst (λ (b : Bool). AreWritten b c.more) (sym r.no_colon) c.written) r.is refused_there (completes c) (λ t vs ws same. no_event (t ∷ ws) (halts_at t vs ws same))

  -- after a whole event
  module _ (event : EventNameData) (shut : (zs : List PlainToken) → over r.at zs ≡ found (event ∷ []) zs) where
    all : Events
    all = r.es ++ event ∷ []

    behind : (vs : List PlainToken) → names vs r.at ≡ over r.at vs → filter_in (r.us ++ vs) ≡ behind_events (r.es ++ event ∷ []) vs
    behind vs e = read_whole (r.us ++ vs) vs (r.es ++ event ∷ []) (ends_in vs e ∙ ap (λ (o : Parsed Events). o >>= with_events r.es) (shut vs))

    alone : filter_in (r.us ++ []) ≡ found (filter (r.es ++ event ∷ []) None) []
    alone = behind [] (at_end r.at)

    colon_stuck : (ws : List PlainToken) → names (colon ∷ ws) r.at ≡ over r.at (colon ∷ ws)
    colon_stuck ws = behind_colon ws r.at

    -- a token that is no colon
    other : (t : PlainToken) (vs rs : List PlainToken) → r.rs ≡ t ∷ vs → ((ws : List PlainToken) → behind_events (r.es ++ event ∷ []) (t ∷ ws) ≡ refused (t ∷ ws)) → behind_events (r.es ++ event ∷ []) (t ∷ vs) ≡ refused rs → RefusedBefore ts rs
    other t vs rs is refuses e =
        let same : t ∷ vs ≡ rs = refused_is FilterData (t ∷ vs) rs (sym (refuses vs) ∙ e) in
        subst (λ zs. RefusedBefore ts zs) same (refusal_of ts (t ∷ vs) r.us [] (filter (r.es ++ event ∷ []) None) tt (r.is ∙ ap (λ zs. r.us ++ zs) is)
        (ap filter_in (r.is ∙ ap (λ zs. r.us ++ zs) is) ∙ behind (t ∷ vs) (halts_at t vs vs is) ∙ refuses vs) alone
        (λ u us ws step'. behind (u ∷ ws) (halts_at u vs ws (is ∙ ap (λ z. z ∷ vs) (first_is t u vs us step'))) ∙ subst (λ (z : PlainToken). behind_events (r.es ++ event ∷ []) (z ∷ ws) ≡ refused (z ∷ ws)) (first_is t u vs us step') (refuses ws)))

    whole_refused : (t : Tree) (vs rs : List PlainToken) → whole (r.es ++ event ∷ []) t vs ≡ refused rs → vs ≡ rs
    whole_refused t [] rs e = absurd cc
    whole_refused t (v ∷ vs) rs e = refused_is FilterData (v ∷ vs) rs e

    in_cond : (us ws : List PlainToken) (t : PlainToken) → cond_at deepest us ≡ refused (t ∷ ws) → behind_events (r.es ++ event ∷ []) (colon ∷ us) ≡ refused (t ∷ ws)
    in_cond us ws t e = rw e refl

    past_cond : (us ws : List PlainToken) (x : Tree) (t : PlainToken) → cond_at deepest us ≡ found x (t ∷ ws) → behind_events (r.es ++ event ∷ []) (colon ∷ us) ≡ refused (t ∷ ws)
    past_cond us ws x t e = rw e refl

    -- a colon, and a condition that is refused or has something after it
    with_colon : (vs rs : List PlainToken) → r.rs ≡ colon ∷ vs → filter_in ts ≡ refused rs → behind_events (r.es ++ event ∷ []) (colon ∷ vs) ≡ refused rs → RefusedBefore ts rs
    with_colon vs rs is here e = elim (bind_refused (cond_at deepest vs) (whole (r.es ++ event ∷ [])) rs e) [
      | inl first' ↦
          let s = (cond_viable deepest).halts vs rs first' in
          let joined : (zs : List PlainToken) → (r.us ++ colon ∷ s.us) ++ zs ≡ r.us ++ colon ∷ (s.us ++ zs) = λ zs. append_assoc r.us (colon ∷ s.us) zs in
          refusal_of ts rs (r.us ++ colon ∷ s.us) (s.more ++ []) (filter (r.es ++ event ∷ []) (Some s.tree)) (subst (λ (b : Bool). AreWritten b (s.more ++ [])) (sym (past_colon r.us s.us)) (written_more s.more [] s.written tt))
          (r.is ∙ ap (λ zs. r.us ++ zs) (is ∙ ap (λ zs. colon ∷ zs) s.whole) ∙ sym (joined rs)) here
          (ap filter_in (joined (s.more ++ [])) ∙ behind (colon ∷ (s.us ++ (s.more ++ []))) (colon_stuck (s.us ++ (s.more ++ [])))
          ∙ cond_whole (r.es ++ event ∷ []) (s.us ++ (s.more ++ [])) s.tree (s.goes_on [] (λ k le. refl)))
          (λ t us ws same. ap filter_in (joined (t ∷ ws)) ∙ behind (colon ∷ (s.us ++ t ∷ ws)) (colon_stuck (s.us ++ t ∷ ws)) ∙ in_cond (s.us ++ t ∷ ws) ws t (s.stops t us ws same))
      | inr there ↦
          let x = there.0 in
          let a = (cond_viable deepest).takes vs x there.1 there.2 in
          let stay = whole_refused x there.1 rs there.3 in
          let joined : (zs : List PlainToken) → (r.us ++ colon ∷ a.us) ++ zs ≡ r.us ++ colon ∷ (a.us ++ zs) = λ zs. append_assoc r.us (colon ∷ a.us) zs in
          refusal_of ts rs (r.us ++ colon ∷ a.us) [] (filter (r.es ++ event ∷ []) (Some x)) tt
          (r.is ∙ ap (λ zs. r.us ++ zs) (is ∙ ap (λ zs. colon ∷ zs) (a.whole ∙ ap (λ zs. a.us ++ zs) stay)) ∙ sym (joined rs)) here
          (ap filter_in (joined []) ∙ behind (colon ∷ (a.us ++ [])) (colon_stuck (a.us ++ [])) ∙ cond_whole (r.es ++ event ∷ []) (a.us ++ []) x (a.again [] (λ k le. refl)))
          (λ t us ws same. ap filter_in (joined (t ∷ ws)) ∙ behind (colon ∷ (a.us ++ t ∷ ws)) (colon_stuck (a.us ++ t ∷ ws))
          ∙ past_cond (a.us ++ t ∷ ws) ws x t (a.again (t ∷ ws) (quiet_again 10 t us ws (subst (λ zs. Quiet 10 zs) (stay ∙ same) a.quiet))))
    ]

    by_rest : (vs rs : List PlainToken) → r.rs ≡ vs → filter_in ts ≡ refused rs → behind_events (r.es ++ event ∷ []) vs ≡ refused rs → RefusedBefore ts rs
    by_rest [] rs is here e = absurd cc
    by_rest (colon ∷ vs) rs is here e = with_colon vs rs is here e
    by_rest (mark op ∷ vs) rs is here e = other (mark op) vs rs is (λ ws. refl) e
    by_rest (exclamation ∷ vs) rs is here e = other exclamation vs rs is (λ ws. refl) e
    by_rest (tilde ∷ vs) rs is here e = other tilde vs rs is (λ ws. refl) e
    by_rest (name x ∷ vs) rs is here e = other (name x) vs rs is (λ ws. refl) e
    by_rest (comma ∷ vs) rs is here e = other comma vs rs is (λ ws. refl) e
    by_rest (slash ∷ vs) rs is here e = other slash vs rs is (λ ws. refl) e
    by_rest (digits x ∷ vs) rs is here e = other (digits x) vs rs is (λ ws. refl) e
    by_rest (quoted x ∷ vs) rs is here e = other (quoted x) vs rs is (λ ws. refl) e
    by_rest (identifier x ∷ vs) rs is here e = other (identifier x) vs rs is (λ ws. refl) e
    by_rest (opening ∷ vs) rs is here e = other opening vs rs is (λ ws. refl) e
    by_rest (closing ∷ vs) rs is here e = other closing vs rs is (λ ws. refl) e

    ended : (rs : List PlainToken) → filter_in ts ≡ refused rs → RefusedBefore ts rs
    ended rs here = by_rest r.rs rs refl here (sym (behind r.rs halts_all) ∙ sym (ap filter_in r.is) ∙ here)

pub filter_refused : (ts rs : List PlainToken) → filter_in ts ≡ refused rs → RefusedBefore ts rs
filter_refused ts rs here =
    let r = ran ts naming in
    elim (over_cases r.at) [
      | inl open' ↦ subst (λ zs. RefusedBefore ts zs) (refused_is FilterData r.rs rs (sym (refused_there ts r open') ∙ here)) (midst ts r open')
      | inr shut ↦ ended ts r shut.0 shut.1 rs here
    ]
