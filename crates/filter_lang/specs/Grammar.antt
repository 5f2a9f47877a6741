-- A filter, as tokens: names of events, and a condition after `:`. Source: trace-cmd-report(1), `-F`.
-- And the tokens before which tokens that are no filter are refused.
use Rattle.std.specs.Prelude.{◌≡◌, ℕ, List, [], ◌∷◌, ◌++◌, Some, None}
use Rattle.std.specs.List.{list_any}
use Rattle.filter_lang.specs.PlainToken.{PlainToken, name, comma, slash, colon}
use Rattle.filter_lang.specs.Tree.{Tree}
use Rattle.filter_lang.specs.Filter.{EventNameData, FilterData, named, filter}
use Rattle.filter_lang.specs.Condition.{IsLevel}
use Rattle.filter_lang.specs.Lexing.{is_colon, AreWritten}

-- a name, or two around a slash
pub data IsEvent : List PlainToken → EventNameData → List PlainToken → Type 0 where
  one_name : {a : List ℕ} {rs : List PlainToken} → IsEvent (name a ∷ rs) (named a None) rs
  two_names : {a b : List ℕ} {rs : List PlainToken} → IsEvent (name a ∷ slash ∷ name b ∷ rs) (named a (Some b)) rs

pub data AreEvents : List PlainToken → List EventNameData → List PlainToken → Type 0 where
  last : {ts rs : List PlainToken} {e : EventNameData} → IsEvent ts e rs → AreEvents ts (e ∷ []) rs
  further : {ts us rs : List PlainToken} {e : EventNameData} {es : List EventNameData} → IsEvent ts e (comma ∷ us) → AreEvents us es rs → AreEvents ts (e ∷ es) rs

-- how many brackets and prefix operators may be open in a condition
abbrev pub deepest : ℕ
deepest = 64

pub data IsFilter : List PlainToken → FilterData → Type 0 where
  events_alone : {ts : List PlainToken} {es : List EventNameData} → AreEvents ts es [] → IsFilter ts (filter es None)
  with_condition : {ts us : List PlainToken} {es : List EventNameData} {t : Tree} → AreEvents ts es (colon ∷ us) → IsLevel deepest 10 us t [] → IsFilter ts (filter es (Some t))

-- some further tokens make them a filter
pub record GoesOn (ts : List PlainToken) : Type 0 where
  pub more : List PlainToken
  pub made : FilterData
  pub whole : IsFilter (ts ++ more) made

-- and tokens that text can write
pub record CanGoOn (ts : List PlainToken) : Type 0 where
  pub on : GoesOn ts
  pub written : AreWritten (list_any is_colon ts) on.more

-- Tokens are refused before some of them: what stands before these can go on, with the first of these nothing goes on,
-- and where there is no first the tokens as they are are no filter.
pub record RefusedBefore (ts rs : List PlainToken) : Type 0 where
  pub before : List PlainToken
  pub is : ts ≡ before ++ rs
  pub goes_on : CanGoOn before
  pub stops : (t : PlainToken) (more : List PlainToken) → rs ≡ t ∷ more → GoesOn (before ++ t ∷ []) → ⊥
  pub ends : (f : FilterData) → rs ≡ [] → IsFilter ts f → ⊥
