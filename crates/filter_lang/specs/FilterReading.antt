-- All of a filter, computed, or the tokens before which it is refused.
use Rattle.std.specs.Prelude.{ℕ, List, [], ◌∷◌, ◌++◌, Option, Some, None}
use Rattle.filter_lang.specs.PlainToken.{PlainToken, name, comma, slash, colon}
use Rattle.filter_lang.specs.Tree.{Tree}
use Rattle.filter_lang.specs.Filter.{EventNameData, FilterData, named, filter}
use Rattle.filter_lang.specs.ConditionReading.{Parsed, found, refused, ◌>>=◌, cond_at}
use Rattle.filter_lang.specs.Grammar.{deepest}

-- what has been read of an event
pub data Mode : Type 0 where
  naming : Mode
  first : List ℕ → Mode
  slashed : List ℕ → Mode
  both : List ℕ → List ℕ → Mode

-- the event that a token ends, if it ends one, and what has been read then
abbrev pub step : Mode → PlainToken → Option (List EventNameData × Mode)
step naming (name a) = Some ([], first a)
step (first a) slash = Some ([], slashed a)
step (first a) comma = Some (named a None ∷ [], naming)
step (slashed a) (name b) = Some ([], both a b)
step (both a b) comma = Some (named a (Some b) ∷ [], naming)
step m t = None

-- where no token goes on: the last event, if it is whole
abbrev pub over : Mode → List PlainToken → Parsed (List EventNameData)
over naming ts = refused ts
over (first a) ts = found (named a None ∷ []) ts
over (slashed a) ts = refused ts
over (both a b) ts = found (named a (Some b) ∷ []) ts

abbrev pub with_events : List EventNameData → List EventNameData → List PlainToken → Parsed (List EventNameData)
with_events es fs rs = found (es ++ fs) rs

abbrev pub turn : Parsed (List EventNameData) → (Mode → Parsed (List EventNameData)) → Option (List EventNameData × Mode) → Parsed (List EventNameData)
turn here more None = here
turn here more (Some x) = more x.1 >>= with_events x.0

unfoldable pub names : List PlainToken → Mode → Parsed (List EventNameData)
names [] m = over m []
names (t ∷ ts) m = turn (over m (t ∷ ts)) (names ts) (step m t)

abbrev pub whole : List EventNameData → Tree → List PlainToken → Parsed FilterData
whole es t [] = found (filter es (Some t)) []
whole es t (u ∷ us) = refused (u ∷ us)

abbrev pub behind_events : List EventNameData → List PlainToken → Parsed FilterData
behind_events es [] = found (filter es None) []
behind_events es (colon ∷ us) = cond_at deepest us >>= whole es
behind_events es (t ∷ us) = refused (t ∷ us)

unfoldable pub filter_in : List PlainToken → Parsed FilterData
filter_in ts = names ts naming >>= behind_events
