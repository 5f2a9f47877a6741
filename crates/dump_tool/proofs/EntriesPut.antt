-- Texts that are put one after another, as an iterator gives their entries.
use Rattle.std.proofs.Common.{◌≡◌, ℕ, List, [], ◌∷◌, ◌++◌, length, map, Option, Some, None, Result, Ok, Err, IsErr, refl, sym, ap, ◌∙◌, subst, arith}
use Rattle.std.specs.Prelude.{⊤}
use Rattle.std.specs.List.{concat, flat_map}
use Rattle.std.specs.Iterator.{AlwaysYields}
use Rattle.std.proofs.lemmas.List.{append-nil}
use Rattle.std.proofs.lemmas.Iterator.{YieldsList}
use Rattle.trace_outside.specs.declared.outside.Failed.{Failed}
use Rattle.trace_outside.specs.Causes.{HasCause}
use Rattle.trace_outside.specs.Pending.{OnWay, PutsText, Holds}
use Rattle.trace_outside.proofs.Putting.{put_both, stopped_first}
use Rattle.dump_tool.specs.Texts.{heading}
use Rattle.dump_tool.specs.Entries.{list_text}

-- a text was put, or a write failed
abbrev pub Puts : List ℕ → OnWay → OnWay → Result ⊤ Failed → Type 0
Puts = PutsText {T = ⊤} {E = Failed}

put_nothing : (now : OnWay) → Puts [] now now (Ok tt)
put_nothing now = record {
  puts = λ before text held. subst (λ whole. Holds before now.written now.waiting whole) (sym (append-nil text)) held;
  name = refl;
  cause = record { later = omega arith; failed = tt; kept = refl };
}

-- a text was put, and then another
pub both_put : (first then : List ℕ) (before mid now : OnWay) (result : Result ⊤ Failed) → Puts first before mid (Ok tt) → Puts then mid now result → Puts (first ++ then) before now result
both_put first then before mid now result one two = record {
  puts = put_both first then before.written mid.written now.written before.waiting mid.waiting now.waiting result one.puts two.puts;
  name = two.name ∙ one.name;
  cause = subst (λ (count : ℕ). HasCause count now.faults result) one.cause.kept two.cause;
}

-- the first of two texts was stopped
pub first_stopped : (first then : List ℕ) (before now : OnWay) (error : Failed) (result : Result ⊤ Failed) → Puts first before now (Err error) → IsErr result → Puts (first ++ then) before now result
first_stopped first then before now error (Ok value) one failed = absurd (let bad : ⊥ = cc in bad)
first_stopped first then before now error (Err other) one failed = record {
  puts = stopped_first {T = ⊤} {E = Failed} first then before.written now.written before.waiting now.waiting (Err other) refl one.puts;
  name = one.name;
  cause = record { later = one.cause.later; failed = one.cause.failed; kept = tt };
}

module _ {S A : Type 0} (steps : S → Option A → S → Type 0) (text : A → List ℕ) (texts : List (List ℕ)) where
  -- the texts are what was put so far, and after it those of the entries to come
  pub record Remains (at : S) (start now : OnWay) : Type 0 where
    pub rest : List (List ℕ)
    pub yields : AlwaysYields steps text at rest
    pub whole : (later : OnWay) (result : Result ⊤ Failed) → Puts (concat rest) now later result → Puts (concat texts) start later result

  pub at_start : (at : S) (start : OnWay) → AlwaysYields steps text at texts → Remains at start start
  at_start at start yields = record { rest = texts; yields = yields; whole = λ later result put. put }

  next_text : (at next : S) (entry : A) (rest : List (List ℕ)) → AlwaysYields steps text at rest → steps at (Some entry) next
      → (more : List (List ℕ)) × (rest ≡ text entry ∷ more) × AlwaysYields steps text next more
  next_text at next entry [] yields step = absurd (yields entry next step)
  next_text at next entry (piece ∷ more) yields step = (more, ap (λ piece. piece ∷ more) (sym (yields.1 entry next step).0), (yields.1 entry next step).1)

  no_text : (at next : S) (rest : List (List ℕ)) → AlwaysYields steps text at rest → steps at None next → rest ≡ []
  no_text at next [] yields step = refl
  no_text at next (piece ∷ more) yields step = absurd (yields.0 next step)

  pub after_entry : (at next : S) (entry : A) (start mid now : OnWay) → Remains at start mid → steps at (Some entry) next → Puts (text entry) mid now (Ok tt) → Remains next start now
  after_entry at next entry start mid now remains step put =
      let given : (more : List (List ℕ)) × (remains.rest ≡ text entry ∷ more) × AlwaysYields steps text next more = next_text at next entry remains.rest remains.yields step in
      record {
        rest = given.0;
        yields = given.2;
        whole = λ later result put_rest. remains.whole later result (rw given.1 (both_put (text entry) (concat given.0) mid now later result put put_rest));
      }

  pub within_entry : (at next : S) (entry : A) (start mid now : OnWay) (error : Failed) (result : Result ⊤ Failed) → Remains at start mid → steps at (Some entry) next
      → Puts (text entry) mid now (Err error) → IsErr result → Puts (concat texts) start now result
  within_entry at next entry start mid now error result remains step put failed =
      let given : (more : List (List ℕ)) × (remains.rest ≡ text entry ∷ more) × AlwaysYields steps text next more = next_text at next entry remains.rest remains.yields step in
      remains.whole now result (rw given.1 (first_stopped (text entry) (concat given.0) mid now error result put failed))

  pub at_end : (at next : S) (start now : OnWay) → Remains at start now → steps at None next → Puts (concat texts) start now (Ok tt)
  at_end at next start now remains step = remains.whole now (Ok tt) (rw (no_text at next remains.rest remains.yields step) (put_nothing now))

concat-map : {X : Type 0} (text : X → List ℕ) (entries : List X) → concat (map text entries) ≡ flat_map text entries
concat-map text [] = refl
concat-map text (entry ∷ entries) = ap (λ tail. text entry ++ tail) (concat-map text entries)

module _ {S A B : Type 0} (steps : S → Option A → S → Type 0) (view : A → B) where
  yields_texts : (text : B → List ℕ) (at : S) (entries : List B) → AlwaysYields steps view at entries → AlwaysYields steps (λ entry. text (view entry)) at (map text entries)
  yields_texts text at [] yields = yields
  yields_texts text at (entry ∷ entries) yields = (yields.0, λ given next step. (ap text (yields.1 given next step).0, yields_texts text next entries (yields.1 given next step).1))

-- the entries that an iterator gives were put
pub entries_put : {S A B : Type 0} {steps : S → Option A → S → Type 0} {view : A → B} (text : B → List ℕ) {at : S} {entries : List B} (start now : OnWay) (result : Result ⊤ Failed)
    → YieldsList steps view at entries
    → ((texts : List (List ℕ)) → AlwaysYields steps (λ entry. text (view entry)) at texts → Puts (concat texts) start now result)
    → Puts (flat_map text entries) start now result
entries_put {steps = steps} {view = view} text {at} {entries} start now result yields put =
    rw (← concat-map text entries) (put (map text entries) (yields_texts steps view text at entries yields.runs))

-- a list of the entries that an iterator gives was put
pub list_put : {S A B : Type 0} {steps : S → Option A → S → Type 0} {view : A → B} (name : List ℕ) (text : B → List ℕ) {at : S} {entries : List B} (count : ℕ) (start now : OnWay)
    (result : Result ⊤ Failed)
    → count ≡ length entries → YieldsList steps view at entries
    → ((texts : List (List ℕ)) → AlwaysYields steps (λ entry. text (view entry)) at texts → Puts (heading name count ++ concat texts) start now result)
    → Puts (list_text name text entries) start now result
list_put {steps = steps} {view = view} name text {at} {entries} count start now result counted yields put =
    rw (← counted, ← concat-map text entries) (put (map text entries) (yields_texts steps view text at entries yields.runs))
