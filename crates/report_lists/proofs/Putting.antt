-- The entries of a list that are put one after another.
use Rattle.std.proofs.Common.{◌≡◌, ℕ, ◌+◌, ◌<◌, List, [], ◌∷◌, ◌++◌, length, take, slice_get, append_assoc, append-nil, Option, Some, None, Result, IsErr, subst, sym, ap, refl, ◌∙◌, arith}
use Rattle.std.proofs.lemmas.List.Concat.{flat_map-cons}
use Rattle.std.proofs.lemmas.Grind.{flat_map-append}
use Rattle.std.proofs.lemmas.Option.{slice_get-get_or}
use Rattle.std.specs.List.{flat_map, cons_option}
use Rattle.trace_base.proofs.TakeLemmas.{take_next}
use Rattle.trace_outside.specs.Pending.{Holds, Puts}
use Rattle.trace_outside.proofs.PendingLemmas.{parts_stopped}
use Rattle.trace_outside.proofs.Putting.{Put, Stopped}
use Rattle.report_lists.specs.Lists.{entry}

one_entry : {X : Type 0} (f : X → List ℕ) (o : Option X) → flat_map f (cons_option o []) ≡ entry f o
one_entry f None = refl
one_entry f (Some x) = flat_map-cons f x [] ∙ append-nil (f x)

up_to : {X : Type 0} (f : X → List ℕ) (xs : List X) (i : ℕ) → flat_map f (take (i + 1) xs) ≡ flat_map f (take i xs) ++ entry f (slice_get xs i)
up_to f xs i =
    ap (flat_map f) (take_next xs i) ∙ flat_map-append f (take i xs) (cons_option (slice_get xs i) [])
    ∙ ap (λ (l : List ℕ). flat_map f (take i xs) ++ l) (one_entry f (slice_get xs i))

-- one more entry was put
pub entry_put : {X : Type 0} (f : X → List ℕ) (xs : List X) (i : ℕ) (piece : List ℕ) (old mid now : Option (List ℕ)) (waiting waiting_mid waiting_now : List ℕ)
    → Put (flat_map f (take i xs)) old waiting mid waiting_mid → Put piece mid waiting_mid now waiting_now → piece ≡ entry f (slice_get xs i)
    → Put (flat_map f (take (i + 1) xs)) old waiting now waiting_now
entry_put f xs i piece old mid now waiting waiting_mid waiting_now one two is = λ before text held.
    subst (λ (whole : List ℕ). Holds before now waiting_now whole)
    (append_assoc text (flat_map f (take i xs)) piece ∙ ap (λ (l : List ℕ). text ++ l) (ap (λ (l : List ℕ). flat_map f (take i xs) ++ l) is ∙ sym (up_to f xs i)))
    (two before (text ++ flat_map f (take i xs)) (one before text held))

-- a sink was stopped within an entry
pub entry_stopped : {T E X : Type 0} (f : X → List ℕ) (xs : List X) (i : ℕ) (piece : List ℕ) (old mid now : Option (List ℕ)) (waiting waiting_mid waiting_now : List ℕ) (result : Result T E)
    → i < length xs → IsErr result → Put (flat_map f (take i xs)) old waiting mid waiting_mid → Stopped piece mid waiting_mid now → piece ≡ entry f (slice_get xs i) → Puts (flat_map f xs) old waiting now waiting_now result
entry_stopped f [] i piece old mid now waiting waiting_mid waiting_now result inside failed one two is = absurd (omega (arith, inside))
entry_stopped f (x ∷ xs) i piece old mid now waiting waiting_mid waiting_now result inside failed one two is =
    parts_stopped f (x ∷ xs) i x old mid now waiting waiting_mid waiting_now result inside failed one
    (subst (λ (piece : List ℕ). Stopped piece mid waiting_mid now) (is ∙ ap (entry f) (slice_get-get_or (x ∷ xs) i x inside)) two)
