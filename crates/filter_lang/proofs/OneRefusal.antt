-- Tokens are a filter or are refused before some of them, and not both, and in one place.
use Rattle.std.proofs.Common.{◌≡◌, List, [], ◌∷◌, ◌++◌, refl, ap, sym, ◌∙◌, subst, ◌⊎◌, inl, inr}
use Rattle.std.proofs.lemmas.List.{append_assoc}
use Rattle.filter_lang.specs.PlainToken.{PlainToken}
use Rattle.filter_lang.specs.Filter.{FilterData}
use Rattle.filter_lang.specs.ConditionReading.{Parsed, found, refused}
use Rattle.filter_lang.specs.Grammar.{IsFilter, GoesOn, RefusedBefore}
use Rattle.filter_lang.specs.FilterReading.{filter_in}
use Rattle.filter_lang.proofs.Filters.{filter_derived, filter_refused}

abbrev pub AFilter : List PlainToken → Type 0
AFilter ts = (f : FilterData) × IsFilter ts f

abbrev pub ARefusal : List PlainToken → Type 0
ARefusal ts = (rs : List PlainToken) × RefusedBefore ts rs

by_out : (ts : List PlainToken) (o : Parsed FilterData) → filter_in ts ≡ o → AFilter ts ⊎ ARefusal ts
by_out ts (found f rs) e = inl (f, (filter_derived ts f rs e).0)
by_out ts (refused rs) e = inr (rs, filter_refused ts rs e)

pub either : (ts : List PlainToken) → AFilter ts ⊎ ARefusal ts
either ts = by_out ts (filter_in ts) refl

never_both : (ts rs : List PlainToken) (f : FilterData) (zs : List PlainToken) → rs ≡ zs → IsFilter ts f → RefusedBefore ts rs → ⊥
never_both ts rs f [] e d r = r.ends f e d
never_both ts rs f (t ∷ zs) e d r = r.stops t zs e (record {
  more = zs;
  made = f;
  whole = subst (λ (us : List PlainToken). IsFilter us f) (r.is ∙ ap (λ us. r.before ++ us) e ∙ sym (append_assoc r.before (t ∷ []) zs)) d;
})

pub not_both : (ts rs : List PlainToken) (f : FilterData) → IsFilter ts f → RefusedBefore ts rs → ⊥
not_both ts rs f d r = never_both ts rs f rs refl d r

-- two ways to cut one list
record Cut (as' bs cs ds : List PlainToken) : Type 0 where
  pub zs : List PlainToken
  pub longer : cs ≡ as' ++ zs
  pub rest : bs ≡ zs ++ ds

tail_is : (t u : PlainToken) (ts us : List PlainToken) → t ∷ ts ≡ u ∷ us → (t ≡ u) × (ts ≡ us)
tail_is t u ts us e = (cc, cc)

cuts : (as' bs cs ds : List PlainToken) → as' ++ bs ≡ cs ++ ds → Cut as' bs cs ds ⊎ Cut cs ds as' bs
cuts [] bs cs ds e = inl (record { zs = cs; longer = refl; rest = e })
cuts (a ∷ as') bs [] ds e = inr (record { zs = a ∷ as'; longer = refl; rest = sym e })
cuts (a ∷ as') bs (c ∷ cs) ds e =
    let same = tail_is a c (as' ++ bs) (cs ++ ds) e in
    elim (cuts as' bs cs ds same.1) [
      | inl k ↦ inl (record { zs = k.zs; longer = ap (λ us. c ∷ us) k.longer ∙ ap (λ t. t ∷ (as' ++ k.zs)) (sym same.0); rest = k.rest })
      | inr k ↦ inr (record { zs = k.zs; longer = ap (λ us. a ∷ us) k.longer ∙ ap (λ t. t ∷ (cs ++ k.zs)) same.0; rest = k.rest })
    ]

-- what goes on, goes on from each of its fronts
shorter : (us : List PlainToken) (t : PlainToken) (zs vs : List PlainToken) → vs ≡ us ++ t ∷ zs → GoesOn vs → GoesOn (us ++ t ∷ [])
shorter us t zs vs e g = record {
  more = zs ++ g.more;
  made = g.made;
  whole = subst (λ (ws : List PlainToken). IsFilter ws g.made) (ap (λ ws. ws ++ g.more) e ∙ append_assoc us (t ∷ zs) g.more ∙ sym (append_assoc us (t ∷ []) (zs ++ g.more))) g.whole;
}

by_cut : (ts rs vs : List PlainToken) (r : RefusedBefore ts rs) (q : RefusedBefore ts vs) (zs : List PlainToken) → q.before ≡ r.before ++ zs → rs ≡ zs ++ vs → rs ≡ vs
by_cut ts rs vs r q [] longer rest = rest
by_cut ts rs vs r q (t ∷ zs) longer rest = absurd (r.stops t (zs ++ vs) rest (shorter r.before t zs q.before longer q.goes_on.on))

pub one_place : (ts rs vs : List PlainToken) → RefusedBefore ts rs → RefusedBefore ts vs → rs ≡ vs
one_place ts rs vs r q = elim (cuts r.before rs q.before vs (sym r.is ∙ q.is)) [
  | inl k ↦ by_cut ts rs vs r q k.zs k.longer k.rest
  | inr k ↦ sym (by_cut ts vs rs q r k.zs k.longer k.rest)
]
