-- The files of a slice, of which one after another is read.
use Rattle.std.proofs.Common.{◌≡◌, ℕ, ◌+◌, ◌<◌, ◌≤◌, List, length, get_or, map, refl, sym, ap, subst, ◌∙◌, inl, inr, arith, set, get_or-set_same, get_or-set_other}
use Rattle.std.proofs.lemmas.Bool.{cases_eq}
use Rattle.std.proofs.lemmas.List.{get_or-map, map-set, length-map}
use Rattle.trace_outside.specs.Causes.{Rose}
use Rattle.trace_outside.specs.Seen.{FileSeen}
use Rattle.restore_tool.specs.Copying.{AllKeep, Keeps}

keeps_self : (x : FileSeen) → Keeps x x
keeps_self x = record { bytes = refl; size = refl; faults = omega arith; reads = omega arith }

pub keep_none : (files : List FileSeen) → AllKeep files files
keep_none files i d lt = keeps_self (get_or files i d)

-- the files from a place on are as they were
abbrev pub AreUnread : ℕ → List FileSeen → List FileSeen → Type 0
AreUnread i before now = (k : ℕ) (d : FileSeen) → i ≤ k → get_or now k d ≡ get_or before k d

pub all_unread : (files : List FileSeen) → AreUnread 0 files files
all_unread files k d le = refl

module _ {S : Type 0} (f : S → FileSeen) (first now : List S) (i : ℕ) (d new : S) (long : length now ≡ length first) (lt : i < length now) where
  at_now : (e : FileSeen) → get_or (map f now) i e ≡ f (get_or now i d)
  at_now e = get_or-map f now i d e lt

  at_new : (e : FileSeen) → get_or (map f (set now i new)) i e ≡ f new
  at_new e = ap (λ (fs : List FileSeen). get_or fs i e) (map-set f now i new) ∙ get_or-set_same (map f now) i (f new) e (omega (arith, length-map now f, lt))

  -- the file at hand is as it was at first
  pub unread_here : AreUnread i (map f first) (map f now) → (e : FileSeen) → f (get_or now i d) ≡ get_or (map f first) i e
  unread_here unread e = sym (at_now e) ∙ unread i e (omega arith)

  pub unread_set : AreUnread i (map f first) (map f now) → AreUnread (i + 1) (map f first) (map f (set now i new))
  unread_set unread k e le =
      ap (λ (fs : List FileSeen). get_or fs k e) (map-set f now i new) ∙ get_or-set_other (map f now) i k (f new) e (λ same. absurd (omega (arith, same, le))) ∙ unread k e (omega (arith, le))

  pub keep_set : Keeps (f (get_or now i d)) (f new) → AreUnread i (map f first) (map f now) → AllKeep (map f first) (map f now) → AllKeep (map f first) (map f (set now i new))
  keep_set one unread keep k e inside = elim (cases_eq k i) [
    | inl here ↦
        subst (λ (n : ℕ). Keeps (get_or (map f first) n e) (get_or (map f (set now i new)) n e)) (sym here)
        (subst (Keeps (get_or (map f first) i e)) (sym (at_new e)) (subst (λ (s : FileSeen). Keeps s (f new)) (unread_here unread e) one))
    | inr other ↦
        subst (Keeps (get_or (map f first) k e)) (sym (ap (λ (fs : List FileSeen). get_or fs k e) (map-set f now i new) ∙ get_or-set_other (map f now) i k (f new) e other)) (keep k e inside)
  ]

  pub rose_at : AreUnread i (map f first) (map f now) → Rose (f (get_or now i d)).faults (f new).faults
      → (i < length (map f first)) × ((e : FileSeen) → Rose (get_or (map f first) i e).faults (get_or (map f (set now i new)) i e).faults)
  rose_at unread rose = (
    omega (arith, length-map first f, long, lt),
    λ e. omega (arith, rose, ap (λ (s : FileSeen). s.faults) (unread_here unread e), ap (λ (s : FileSeen). s.faults) (at_new e)),
  )
