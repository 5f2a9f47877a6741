-- A range of a file that is copied piece by piece.
use Rattle.std.proofs.Common.{◌≡◌, ℕ, ◌+◌, ◌-◌, ◌≤◌, arith, List, ◌++◌, take, drop, Option, None, Some, IfSome, Result, Ok, Err, IsErr, sym, ap, ◌∙◌, subst}
use Rattle.std.proofs.lemmas.List.{drop-drop}
use Rattle.std.proofs.Math.Seq.{take-add}
use Rattle.std.specs.Io.KnownBytes.{append_known}
use Rattle.trace_outside.specs.Writing.{GainedPrefix}
use Rattle.trace_outside.proofs.Gains.{gained_nothing, gained_both, prefix_behind}
use Rattle.trace_outside.specs.Copies.{Copies, Copied}

pub copied_nothing : (told : Option (List ℕ)) (at : ℕ) (old : Option (List ℕ)) → Copied told at 0 old old
copied_nothing None at old = tt
copied_nothing (Some bytes) at old = gained_nothing old

-- the next piece after what was copied
pub copied_more : (told : Option (List ℕ)) (at done count : ℕ) (before mid now : Option (List ℕ)) → Copied told at done before mid → Copied told (at + done) count mid now
    → Copied told at (done + count) before now
copied_more None at done count before mid now one two = tt
copied_more (Some bytes) at done count before mid now one two =
    gained_both before mid now (take done (drop at bytes)) (take count (drop (at + done) bytes)) one two
    ∙ ap (append_known before) (ap (λ tail. take done (drop at bytes) ++ take count tail) (sym (drop-drop done at bytes)) ∙ sym (take-add done count (drop at bytes)))

-- a piece was stopped after what was copied
pub copy_stopped : {T E : Type 0} (told : Option (List ℕ)) (at done count size : ℕ) (before mid now : Option (List ℕ)) (result : Result T E)
    → done + count ≤ size → IsErr result → Copied told at done before mid
    → IfSome told (λ bytes. GainedPrefix mid now (take count (drop (at + done) bytes))) → Copies told at size before now result
copy_stopped None at done count size before mid now result fits failed one two = tt
copy_stopped (Some bytes) at done count size before mid now (Ok value) fits failed one two = absurd (let bad : ⊥ = cc in bad)
copy_stopped (Some bytes) at done count size before mid now (Err error) fits failed one two =
    prefix_behind before mid now (take done (drop at bytes)) (take count (drop (at + done) bytes)) (take (size - (done + count)) (drop (done + count) (drop at bytes)))
    (take size (drop at bytes)) parted one two
  where
    parted : take size (drop at bytes) ≡ take done (drop at bytes) ++ (take count (drop (at + done) bytes) ++ take (size - (done + count)) (drop (done + count) (drop at bytes)))
    parted = ap (λ n. take n (drop at bytes)) (let e : size ≡ done + (count + (size - (done + count))) = omega arith in e)
        ∙ take-add done (count + (size - (done + count))) (drop at bytes)
        ∙ ap (λ tail. take done (drop at bytes) ++ tail)
        (take-add count (size - (done + count)) (drop done (drop at bytes))
        ∙ ap (λ front. take count front ++ take (size - (done + count)) (drop count (drop done (drop at bytes)))) (drop-drop done at bytes)
        ∙ ap (λ back. take count (drop (at + done) bytes) ++ take (size - (done + count)) back) (drop-drop count done (drop at bytes)))

-- the same by places: what was copied ends at `place`
pub copied_to : (told same : Option (List ℕ)) (at place count : ℕ) (before mid now : Option (List ℕ)) → at ≤ place → same ≡ told
    → Copied told at (place - at) before mid → Copied same place count mid now → Copied told at (place + count - at) before now
copied_to told same at place count before mid now above is one two =
    subst (λ (n : ℕ). Copied told at n before now) (omega arith)
    (copied_more told at (place - at) count before mid now one
    (subst (λ (p : ℕ). Copied told p count mid now) (omega arith) (subst (λ (t : Option (List ℕ)). Copied t place count mid now) is two)))

pub copy_stopped_at : {T E : Type 0} (told same : Option (List ℕ)) (at place count end : ℕ) (before mid now : Option (List ℕ)) (result : Result T E)
    → at ≤ place → place + count ≤ end → same ≡ told → IsErr result → Copied told at (place - at) before mid
    → IfSome same (λ bytes. GainedPrefix mid now (take count (drop place bytes))) → Copies told at (end - at) before now result
copy_stopped_at told same at place count end before mid now result above below is failed one two =
    copy_stopped told at (place - at) count (end - at) before mid now result (omega arith) failed one
    (subst (λ (p : ℕ). IfSome told (λ bytes. GainedPrefix mid now (take count (drop p bytes)))) (omega arith)
    (subst (λ (t : Option (List ℕ)). IfSome t (λ bytes. GainedPrefix mid now (take count (drop place bytes)))) is two))
