-- The first lines of several files, one after another.
use Rattle.std.proofs.Common.{Option, ◌≡◌, ℕ, List, [], ◌∷◌, ◌++◌, ◌+◌, ◌<◌, ◌≤◌, length, get_or, map, take, refl, sym, ap, ◌∙◌, subst, append_assoc, Result, Ok, Err, IsErr, arith}
use Rattle.std.proofs.lemmas.List.{append-nil, take_all, take_more}
use Rattle.std.proofs.lemmas.List.Concat.{flat_map-append, flat_map-cons}
use Rattle.std.specs.List.{flat_map}
use Rattle.trace_outside.specs.Causes.{HasCause, Rose}
use Rattle.trace_outside.specs.Pending.{Holds, OnWay, Puts, PutsText}
use Rattle.trace_outside.specs.Writing.{GainedPrefix}
use Rattle.trace_outside.proofs.PendingLemmas.{prefix_longer}
use Rattle.trace_outside.specs.Pieces.{text_of}
use Rattle.multi_report.specs.Taking.{Put, PutPart}
use Rattle.multi_report.specs.Sources.{SourceView, shown_of}
use Rattle.multi_report.specs.Reports.{head_line}

pub heads_text : {S : Type 0} (f : S → SourceView) (xs : List S) → flat_map (λ x. head_line (shown_of (f x))) xs ≡ text_of (map head_line (map shown_of (map f xs)))
heads_text f [] = refl
heads_text f (x ∷ xs) = ap (λ (t : List ℕ). head_line (shown_of (f x)) ++ t) (heads_text f xs)

-- a piece that was put, and another after it
pub puts_both : {T E : Type 0} (p q : List ℕ) (a m z : OnWay) (result : Result T E) → Put p a m → m.name ≡ a.name → m.faults ≡ a.faults → PutsText q m z result → PutsText (p ++ q) a z result
puts_both {T = T} {E = E} p q a m z (Ok v) one name same two = record {
  puts = λ before text held. subst (Holds before z.written z.waiting) (append_assoc text p q) (two.puts before (text ++ p) (one before text held));
  name = two.name ∙ name;
  cause = subst (λ (count : ℕ). HasCause {T = T} {E = E} count z.faults (Ok v)) same two.cause;
}
puts_both {T = T} {E = E} p q a m z (Err v) one name same two = record {
  puts = λ before text held. subst (GainedPrefix before z.written) (append_assoc text p q) (two.puts before (text ++ p) (one before text held));
  name = two.name ∙ name;
  cause = subst (λ (count : ℕ). HasCause {T = T} {E = E} count z.faults (Err v)) same two.cause;
}

-- a piece that was stopped, and another that was to stand after it
pub front_stopped : {T E : Type 0} (p q : List ℕ) (a m : OnWay) (result : Result T E) → IsErr result → PutPart p a m → Puts (p ++ q) a.written a.waiting m.written m.waiting result
front_stopped p q a m (Ok v) failed part = absurd (let bad : ⊥ = cc in bad)
front_stopped p q a m (Err v) failed part = λ before text held.
    subst (GainedPrefix before m.written) (append_assoc text p q) (prefix_longer before m.written (text ++ p) q (part before text held))

-- a file that was looked at in its place, whose first line was stopped
pub stopped_at : {S : Type 0} (f : S → SourceView) (s at : S) (written now : Option (List ℕ)) (waiting : List ℕ) → s ≡ at
    → ((before : Option (List ℕ)) (text : List ℕ) → Holds before written waiting text → GainedPrefix before now (text ++ head_line (shown_of (f s))))
    → (before : Option (List ℕ)) (text : List ℕ) → Holds before written waiting text → GainedPrefix before now (text ++ head_line (shown_of (f at)))
stopped_at {S = S} f s at written now waiting is h before text held = subst (λ (x : S). GainedPrefix before now (text ++ head_line (shown_of (f x)))) is (h before text held)

-- a write that failed after others that did not is the fault of all
pub stopped_cause : {T E : Type 0} (before mid now : ℕ) (result : Result T E) → mid ≡ before → mid ≤ now → Rose mid now → IsErr result → HasCause before now result
stopped_cause before mid now (Ok value) same later rose failed = absurd (let bad : ⊥ = cc in bad)
stopped_cause before mid now (Err error) same later rose failed = record { later = omega arith; failed = subst (λ (n : ℕ). Rose n now) same rose; kept = tt }

-- one more of them was put
one_more : {X : Type 0} (f : X → List ℕ) (xs : List X) (i : ℕ) (d : X) (text : List ℕ) → i < length xs → (text ++ flat_map f (take i xs)) ++ f (get_or xs i d) ≡ text ++ flat_map f (take (i + 1) xs)
one_more f xs i d text inside =
    append_assoc text (flat_map f (take i xs)) (f (get_or xs i d))
    ∙ ap (λ (tail : List ℕ). text ++ tail) (sym (ap (flat_map f) (take_more xs i d inside) ∙ flat_map-append f (take i xs) (get_or xs i d ∷ [])
    ∙ ap (λ (tail : List ℕ). flat_map f (take i xs) ++ tail) (flat_map-cons f (get_or xs i d) [] ∙ append-nil (f (get_or xs i d)))))

pub held_more : {S : Type 0} (f : S → SourceView) (xs : List S) (i : ℕ) (s : S) (old mid now : Option (List ℕ)) (waiting waiting_mid waiting_now : List ℕ) → i < length xs → s ≡ get_or xs i s
    → ((before : Option (List ℕ)) (text : List ℕ) → Holds before old waiting text → Holds before mid waiting_mid (text ++ flat_map (λ x. head_line (shown_of (f x))) (take i xs)))
    → ((before : Option (List ℕ)) (text : List ℕ) → Holds before mid waiting_mid text → Holds before now waiting_now (text ++ head_line (shown_of (f s))))
    → (before : Option (List ℕ)) (text : List ℕ) → Holds before old waiting text → Holds before now waiting_now (text ++ flat_map (λ x. head_line (shown_of (f x))) (take (i + 1) xs))
held_more {S = S} f xs i s old mid now waiting waiting_mid waiting_now inside is one two before text held =
    let line : S → List ℕ = λ x. head_line (shown_of (f x)) in
    let front = text ++ flat_map line (take i xs) in
    subst (λ (t : List ℕ). Holds before now waiting_now t) (ap (λ (x : S). front ++ line x) is ∙ one_more line xs i s text inside) (two before front (one before text held))

-- all of them were put
pub held_all : {S : Type 0} (f : S → SourceView) (xs : List S) (i : ℕ) (old now : Option (List ℕ)) (waiting waiting_now : List ℕ) → length xs ≤ i
    → ((before : Option (List ℕ)) (text : List ℕ) → Holds before old waiting text → Holds before now waiting_now (text ++ flat_map (λ x. head_line (shown_of (f x))) (take i xs)))
    → (before : Option (List ℕ)) (text : List ℕ) → Holds before old waiting text → Holds before now waiting_now (text ++ flat_map (λ x. head_line (shown_of (f x))) xs)
held_all {S = S} f xs i old now waiting waiting_now all held before text h =
    subst (λ (ys : List S). Holds before now waiting_now (text ++ flat_map (λ x. head_line (shown_of (f x))) ys)) (take_all i xs all) (held before text h)
