-- Texts that are put one after another.
use Rattle.std.proofs.Common.{◌≡◌, ℕ, ◌+◌, ◌<◌, ◌≤◌, List, [], ◌∷◌, ◌++◌, length, take, get_or, append_assoc, Option, Result, Ok, Err, IsErr, OnOk, OnErr, subst, sym, ap, ◌∙◌}
use Rattle.std.proofs.lemmas.List.{append-nil, take_all, take_more}
use Rattle.std.proofs.lemmas.List.Concat.{flat_map-cons}
use Rattle.std.proofs.lemmas.Grind.{flat_map-append}
use Rattle.std.specs.List.{flat_map}
use Rattle.trace_outside.specs.Writing.{Gained, GainedPrefix}
use Rattle.trace_outside.specs.Pending.{Holds, Puts, Flushes}
use Rattle.trace_outside.proofs.PendingLemmas.{holds_nothing, prefix_longer, parts_stopped, flushed, flush_stopped}

-- a piece was put after any text
abbrev pub Put : List ℕ → Option (List ℕ) → List ℕ → Option (List ℕ) → List ℕ → Type 0
Put piece old waiting now waiting_now =
    (before : Option (List ℕ)) (text : List ℕ) → Holds before old waiting text → Holds before now waiting_now (text ++ piece)

-- a sink was stopped within a piece after any text
abbrev pub Stopped : List ℕ → Option (List ℕ) → List ℕ → Option (List ℕ) → Type 0
Stopped piece old waiting now =
    (before : Option (List ℕ)) (text : List ℕ) → Holds before old waiting text → GainedPrefix before now (text ++ piece)

-- a piece was put, and then another
pub put_both : {T E : Type 0} (first then : List ℕ) (old mid now : Option (List ℕ)) (waiting waiting_mid waiting_now : List ℕ) (result : Result T E)
    → Put first old waiting mid waiting_mid → Puts then mid waiting_mid now waiting_now result → Puts (first ++ then) old waiting now waiting_now result
put_both first then old mid now waiting waiting_mid waiting_now (Ok value) one two = λ before text held.
    subst (λ (whole : List ℕ). Holds before now waiting_now whole) (append_assoc text first then) (two before (text ++ first) (one before text held))
put_both first then old mid now waiting waiting_mid waiting_now (Err error) one two = λ before text held.
    subst (λ (whole : List ℕ). GainedPrefix before now whole) (append_assoc text first then) (two before (text ++ first) (one before text held))

-- the first of two pieces was stopped
pub stopped_first : {T E : Type 0} (first then : List ℕ) (old now : Option (List ℕ)) (waiting waiting_now : List ℕ) (result : Result T E)
    → IsErr result → Stopped first old waiting now → Puts (first ++ then) old waiting now waiting_now result
stopped_first first then old now waiting waiting_now (Ok value) failed stopped = absurd (let bad : ⊥ = cc in bad)
stopped_first first then old now waiting waiting_now (Err error) failed stopped = λ before text held.
    subst (λ (whole : List ℕ). GainedPrefix before now whole) (append_assoc text first then) (prefix_longer before now (text ++ first) then (stopped before text held))

-- the piece of an entry was stopped after those of the entries before it
pub stopped_at : {T E X : Type 0} (f : X → List ℕ) (xs : List X) (i : ℕ) (d : X) (piece : List ℕ) (old mid now : Option (List ℕ))
    (waiting waiting_mid waiting_now : List ℕ) (result : Result T E)
    → i < length xs → IsErr result → Put (flat_map f (take i xs)) old waiting mid waiting_mid → Stopped piece mid waiting_mid now → piece ≡ f (get_or xs i d)
    → Puts (flat_map f xs) old waiting now waiting_now result
stopped_at f xs i d piece old mid now waiting waiting_mid waiting_now result inside failed one two is =
    parts_stopped f xs i d old mid now waiting waiting_mid waiting_now result inside failed one
    (subst (λ (piece : List ℕ). Stopped piece mid waiting_mid now) is two)

pub flat_map_up_to : {X : Type 0} (f : X → List ℕ) (xs : List X) (i : ℕ) (d : X) → i < length xs
    → flat_map f (take (i + 1) xs) ≡ flat_map f (take i xs) ++ f (get_or xs i d)
flat_map_up_to f xs i d inside =
    ap (flat_map f) (take_more xs i d inside) ∙ flat_map-append f (take i xs) (get_or xs i d ∷ [])
    ∙ ap (λ tail. flat_map f (take i xs) ++ tail) (flat_map-cons f (get_or xs i d) [] ∙ append-nil (f (get_or xs i d)))

-- the piece of one more entry was put
pub put_more : {X : Type 0} (f : X → List ℕ) (xs : List X) (i : ℕ) (d : X) (piece : List ℕ) (old mid now : Option (List ℕ)) (waiting waiting_mid waiting_now : List ℕ)
    → i < length xs → Put (flat_map f (take i xs)) old waiting mid waiting_mid → Put piece mid waiting_mid now waiting_now → piece ≡ f (get_or xs i d)
    → Put (flat_map f (take (i + 1) xs)) old waiting now waiting_now
put_more f xs i d piece old mid now waiting waiting_mid waiting_now inside one two is = λ before text held.
    subst (λ (whole : List ℕ). Holds before now waiting_now whole)
    (append_assoc text (flat_map f (take i xs)) piece
    ∙ ap (λ tail. text ++ tail) (ap (λ tail. flat_map f (take i xs) ++ tail) is ∙ sym (flat_map_up_to f xs i d inside)))
    (two before (text ++ flat_map f (take i xs)) (one before text held))

-- an entry without a piece
pub put_none : {X : Type 0} (f : X → List ℕ) (xs : List X) (i : ℕ) (d : X) (old now : Option (List ℕ)) (waiting waiting_now : List ℕ)
    → i < length xs → Put (flat_map f (take i xs)) old waiting now waiting_now → f (get_or xs i d) ≡ []
    → Put (flat_map f (take (i + 1) xs)) old waiting now waiting_now
put_none f xs i d old now waiting waiting_now inside put none =
    subst (λ (piece : List ℕ). Put piece old waiting now waiting_now)
    (sym (append-nil (flat_map f (take i xs))) ∙ ap (λ tail. flat_map f (take i xs) ++ tail) (sym none) ∙ sym (flat_map_up_to f xs i d inside))
    put

-- the pieces of all entries were put
pub put_all : {X : Type 0} (f : X → List ℕ) (xs : List X) (i : ℕ) (old now : Option (List ℕ)) (waiting waiting_now : List ℕ)
    → length xs ≤ i → Put (flat_map f (take i xs)) old waiting now waiting_now → Put (flat_map f xs) old waiting now waiting_now
put_all f xs i old now waiting waiting_now all put =
    subst (λ (some : List _). Put (flat_map f some) old waiting now waiting_now) (take_all i xs all) put

from_nothing : (piece : List ℕ) (old now : Option (List ℕ)) (waiting waiting_now : List ℕ) → waiting ≡ [] → Put piece old waiting now waiting_now → Holds old now waiting_now piece
from_nothing piece old now waiting waiting_now none put =
    put old [] (subst (λ (rest : List ℕ). Holds old old rest []) (sym none) (holds_nothing old))

-- a piece was put where nothing waited, and flushed
pub gained_from_nothing : {T E : Type 0} (piece : List ℕ) (old mid now : Option (List ℕ)) (waiting waiting_mid waiting_now : List ℕ) (result : Result T E)
    → waiting ≡ [] → Put piece old waiting mid waiting_mid → Flushes mid waiting_mid now waiting_now result → OnOk result (Gained old now piece)
gained_from_nothing piece old mid now waiting waiting_mid waiting_now (Ok value) none put flushes =
    flushed old mid now waiting_mid piece (from_nothing piece old mid waiting waiting_mid none put) flushes.0
gained_from_nothing piece old mid now waiting waiting_mid waiting_now (Err error) none put flushes = tt

pub stopped_at_flush : {T E : Type 0} (piece : List ℕ) (old mid now : Option (List ℕ)) (waiting waiting_mid waiting_now : List ℕ) (result : Result T E)
    → waiting ≡ [] → Put piece old waiting mid waiting_mid → Flushes mid waiting_mid now waiting_now result → OnErr result (GainedPrefix old now piece)
stopped_at_flush piece old mid now waiting waiting_mid waiting_now (Ok value) none put flushes = tt
stopped_at_flush piece old mid now waiting waiting_mid waiting_now (Err error) none put flushes =
    flush_stopped old mid now waiting_mid piece (from_nothing piece old mid waiting waiting_mid none put) flushes

-- a piece was stopped where nothing waited
pub stopped_from_nothing : {T E : Type 0} (piece : List ℕ) (old now : Option (List ℕ)) (waiting : List ℕ) (result : Result T E)
    → waiting ≡ [] → Stopped piece old waiting now → OnErr result (GainedPrefix old now piece)
stopped_from_nothing piece old now waiting (Ok value) none stopped = tt
stopped_from_nothing piece old now waiting (Err error) none stopped =
    stopped old [] (subst (λ (rest : List ℕ). Holds old old rest []) (sym none) (holds_nothing old))
