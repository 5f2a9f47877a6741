-- The names of events, one step after another.
use Rattle.std.proofs.Common.{◌≡◌, ◌≢◌, ℕ, zero, suc, ◌<◌, false, List, [], ◌∷◌, drop, length, Some, None, refl, ap, sym, ◌∙◌, arith}
use Rattle.filter_lang.specs.PlainToken.{PlainToken, mark, exclamation, tilde, opening, closing, name, comma, slash, colon, digits, quoted, identifier}
use Rattle.filter_lang.specs.Tree.{Tree}
use Rattle.filter_lang.specs.TokenView.{plain_tokens}
use Rattle.filter_lang.specs.Ops.{first_name, has}
use Rattle.filter_lang.specs.Filter.{EventNameData, named, filter}
use Rattle.filter_lang.specs.ConditionReading.{found, refused, cond_at}
use Rattle.filter_lang.specs.FilterReading.{naming, first, slashed, both, names, whole, behind_events, filter_in}
use Rattle.filter_lang.specs.FilterView.{closing_with}
use Rattle.filter_lang.specs.Grammar.{deepest}
use Rattle.filter_lang.specs.declared.token.Separator.TheVariants.{Comma, Slash, Colon}
use Rattle.filter_lang.specs.declared.token.Token.{Token}
use Rattle.filter_lang.proofs.Filters.{stuck, goes, at_end, with_none, a_name}

naming_stops : (ts : List PlainToken) → first_name ts ≡ None → names ts naming ≡ refused ts
naming_stops [] e = at_end naming
naming_stops (mark op ∷ ts) e = stuck naming (mark op) ts refl
naming_stops (exclamation ∷ ts) e = stuck naming exclamation ts refl
naming_stops (tilde ∷ ts) e = stuck naming tilde ts refl
naming_stops (name x ∷ ts) e = absurd cc
naming_stops (comma ∷ ts) e = stuck naming comma ts refl
naming_stops (slash ∷ ts) e = stuck naming slash ts refl
naming_stops (colon ∷ ts) e = stuck naming colon ts refl
naming_stops (digits x ∷ ts) e = stuck naming (digits x) ts refl
naming_stops (quoted x ∷ ts) e = stuck naming (quoted x) ts refl
naming_stops (identifier x ∷ ts) e = stuck naming (identifier x) ts refl
naming_stops (opening ∷ ts) e = stuck naming opening ts refl
naming_stops (closing ∷ ts) e = stuck naming closing ts refl

slashed_stops : (a : List ℕ) (ts : List PlainToken) → first_name ts ≡ None → names ts (slashed a) ≡ refused ts
slashed_stops a [] e = at_end (slashed a)
slashed_stops a (mark op ∷ ts) e = stuck (slashed a) (mark op) ts refl
slashed_stops a (exclamation ∷ ts) e = stuck (slashed a) exclamation ts refl
slashed_stops a (tilde ∷ ts) e = stuck (slashed a) tilde ts refl
slashed_stops a (name x ∷ ts) e = absurd cc
slashed_stops a (comma ∷ ts) e = stuck (slashed a) comma ts refl
slashed_stops a (slash ∷ ts) e = stuck (slashed a) slash ts refl
slashed_stops a (colon ∷ ts) e = stuck (slashed a) colon ts refl
slashed_stops a (digits x ∷ ts) e = stuck (slashed a) (digits x) ts refl
slashed_stops a (quoted x ∷ ts) e = stuck (slashed a) (quoted x) ts refl
slashed_stops a (identifier x ∷ ts) e = stuck (slashed a) (identifier x) ts refl
slashed_stops a (opening ∷ ts) e = stuck (slashed a) opening ts refl
slashed_stops a (closing ∷ ts) e = stuck (slashed a) closing ts refl

first_ends : (a : List ℕ) (ts : List PlainToken) → has Slash ts ≡ false → names ts (first a) ≡ closing_with (named a None ∷ []) ts
first_ends a [] e = at_end (first a)
first_ends a (mark op ∷ ts) e = stuck (first a) (mark op) ts refl
first_ends a (exclamation ∷ ts) e = stuck (first a) exclamation ts refl
first_ends a (tilde ∷ ts) e = stuck (first a) tilde ts refl
first_ends a (name x ∷ ts) e = stuck (first a) (name x) ts refl
first_ends a (comma ∷ ts) e = goes (first a) comma ts (named a None ∷ []) naming refl
first_ends a (slash ∷ ts) e = absurd cc
first_ends a (colon ∷ ts) e = stuck (first a) colon ts refl
first_ends a (digits x ∷ ts) e = stuck (first a) (digits x) ts refl
first_ends a (quoted x ∷ ts) e = stuck (first a) (quoted x) ts refl
first_ends a (identifier x ∷ ts) e = stuck (first a) (identifier x) ts refl
first_ends a (opening ∷ ts) e = stuck (first a) opening ts refl
first_ends a (closing ∷ ts) e = stuck (first a) closing ts refl

both_end : (a b : List ℕ) (ts : List PlainToken) → names ts (both a b) ≡ closing_with (named a (Some b) ∷ []) ts
both_end a b [] = at_end (both a b)
both_end a b (mark op ∷ ts) = stuck (both a b) (mark op) ts refl
both_end a b (exclamation ∷ ts) = stuck (both a b) exclamation ts refl
both_end a b (tilde ∷ ts) = stuck (both a b) tilde ts refl
both_end a b (name x ∷ ts) = stuck (both a b) (name x) ts refl
both_end a b (comma ∷ ts) = goes (both a b) comma ts (named a (Some b) ∷ []) naming refl
both_end a b (slash ∷ ts) = stuck (both a b) slash ts refl
both_end a b (colon ∷ ts) = stuck (both a b) colon ts refl
both_end a b (digits x ∷ ts) = stuck (both a b) (digits x) ts refl
both_end a b (quoted x ∷ ts) = stuck (both a b) (quoted x) ts refl
both_end a b (identifier x ∷ ts) = stuck (both a b) (identifier x) ts refl
both_end a b (opening ∷ ts) = stuck (both a b) opening ts refl
both_end a b (closing ∷ ts) = stuck (both a b) closing ts refl

pub no_name : (ts : List PlainToken) → first_name ts ≡ None → names ts naming ≡ refused ts
no_name ts e = naming_stops ts e

pub one_name_alone : (ts us : List PlainToken) (a : List ℕ) → ts ≡ name a ∷ us → has Slash us ≡ false → names ts naming ≡ closing_with (named a None ∷ []) us
one_name_alone ts us a is never = ap (λ zs. names zs naming) is ∙ a_name a us ∙ first_ends a us never

behind_slash : (ts us vs : List PlainToken) (a : List ℕ) → ts ≡ name a ∷ us → us ≡ slash ∷ vs → names ts naming ≡ names vs (slashed a)
behind_slash ts us vs a is mark' =
    ap (λ zs. names zs naming) is ∙ a_name a us ∙ ap (λ zs. names zs (first a)) mark' ∙ goes (first a) slash vs [] (slashed a) refl ∙ sym (with_none (names vs (slashed a)))

pub no_second : (ts us vs : List PlainToken) (a : List ℕ) → ts ≡ name a ∷ us → us ≡ slash ∷ vs → first_name vs ≡ None → names ts naming ≡ refused vs
no_second ts us vs a is mark' none = behind_slash ts us vs a is mark' ∙ slashed_stops a vs none

pub two_names_there : (ts us vs ws : List PlainToken) (a b : List ℕ) → ts ≡ name a ∷ us → us ≡ slash ∷ vs → vs ≡ name b ∷ ws → names ts naming ≡ closing_with (named a (Some b) ∷ []) ws
two_names_there ts us vs ws a b is mark' there =
    behind_slash ts us vs a is mark' ∙ ap (λ zs. names zs (slashed a)) there ∙ goes (slashed a) (name b) ws [] (both a b) refl ∙ sym (with_none (names ws (both a b))) ∙ both_end a b ws

-- further events
pub over_here : (es : List EventNameData) (ts : List PlainToken) → has Comma ts ≡ false → closing_with es ts ≡ found es ts
over_here es [] e = refl
over_here es (mark op ∷ ts) e = refl
over_here es (exclamation ∷ ts) e = refl
over_here es (tilde ∷ ts) e = refl
over_here es (name x ∷ ts) e = refl
over_here es (comma ∷ ts) e = absurd cc
over_here es (slash ∷ ts) e = refl
over_here es (colon ∷ ts) e = refl
over_here es (digits x ∷ ts) e = refl
over_here es (quoted x ∷ ts) e = refl
over_here es (identifier x ∷ ts) e = refl
over_here es (opening ∷ ts) e = refl
over_here es (closing ∷ ts) e = refl

pub comma_stops : (es : List EventNameData) (ts us rs : List PlainToken) → ts ≡ comma ∷ us → names us naming ≡ refused rs → closing_with es ts ≡ refused rs
comma_stops es ts us rs is e = ap (closing_with es) is ∙ rw e refl

-- what follows the events
pub no_events : (ts rs : List PlainToken) → names ts naming ≡ refused rs → filter_in ts ≡ refused rs
unfolding filter_in
no_events ts rs e = rw e refl

with_them : (ts us : List PlainToken) (es : List EventNameData) → names ts naming ≡ found es us → filter_in ts ≡ behind_events es us
unfolding filter_in
with_them ts us es e = rw e refl

pub events_only : (ts us : List PlainToken) (es : List EventNameData) → names ts naming ≡ found es us → us ≡ [] → filter_in ts ≡ found (filter es None) []
events_only ts us es e none = with_them ts us es e ∙ ap (behind_events es) none

no_colon : (es : List EventNameData) (us : List PlainToken) → us ≢ [] → has Colon us ≡ false → behind_events es us ≡ refused us
no_colon es [] some e = absurd (some refl)
no_colon es (mark op ∷ ts) some e = refl
no_colon es (exclamation ∷ ts) some e = refl
no_colon es (tilde ∷ ts) some e = refl
no_colon es (name x ∷ ts) some e = refl
no_colon es (comma ∷ ts) some e = refl
no_colon es (slash ∷ ts) some e = refl
no_colon es (colon ∷ ts) some e = absurd cc
no_colon es (digits x ∷ ts) some e = refl
no_colon es (quoted x ∷ ts) some e = refl
no_colon es (identifier x ∷ ts) some e = refl
no_colon es (opening ∷ ts) some e = refl
no_colon es (closing ∷ ts) some e = refl

pub other_behind : (ts us : List PlainToken) (es : List EventNameData) → names ts naming ≡ found es us → us ≢ [] → has Colon us ≡ false → filter_in ts ≡ refused us
other_behind ts us es e some never = with_them ts us es e ∙ no_colon es us some never

pub cond_stops : (ts us vs rs : List PlainToken) (es : List EventNameData) → names ts naming ≡ found es us → us ≡ colon ∷ vs → cond_at deepest vs ≡ refused rs → filter_in ts ≡ refused rs
cond_stops ts us vs rs es e is stop = with_them ts us es e ∙ ap (behind_events es) is ∙ rw stop refl

whole_refuses : (es : List EventNameData) (t : Tree) (us : List PlainToken) → us ≢ [] → whole es t us ≡ refused us
whole_refuses es t [] some = absurd (some refl)
whole_refuses es t (u ∷ us) some = refl

pub cond_goes_on : (ts us vs rs : List PlainToken) (es : List EventNameData) (t : Tree) → names ts naming ≡ found es us → us ≡ colon ∷ vs → cond_at deepest vs ≡ found t rs → rs ≢ [] → filter_in ts ≡ refused rs
cond_goes_on ts us vs rs es t e is there some = with_them ts us es e ∙ ap (behind_events es) is ∙ rw there (whole_refuses es t rs some)

pub cond_is_all : (ts us vs rs : List PlainToken) (es : List EventNameData) (t : Tree) → names ts naming ≡ found es us → us ≡ colon ∷ vs → cond_at deepest vs ≡ found t rs → rs ≡ [] → filter_in ts ≡ found (filter es (Some t)) []
cond_is_all ts us vs rs es t e is there none = with_them ts us es e ∙ ap (behind_events es) is ∙ rw there (ap (whole es t) none)

-- where the tokens end
pub end_there : (ts : List Token) (at : ℕ) → at ≡ length ts → drop at (plain_tokens ts) ≡ []
end_there [] zero e = refl
end_there [] (suc at) e = refl
end_there (t ∷ ts) zero e = absurd (omega (arith, e))
end_there (t ∷ ts) (suc at) e = end_there ts at (omega (arith, e))

pub some_there : (ts : List Token) (at : ℕ) → at < length ts → drop at (plain_tokens ts) ≢ []
some_there [] at lt = λ e. absurd (omega arith)
some_there (t ∷ ts) zero lt = λ e. absurd cc
some_there (t ∷ ts) (suc at) lt = some_there ts at (omega arith)
