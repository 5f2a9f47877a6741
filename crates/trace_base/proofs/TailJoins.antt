-- Pieces that are put one after another.
use Rattle.std.proofs.Common.{◌≡◌, ℕ, ◌+◌, ◌<◌, ◌≤◌, min, List, [], ◌∷◌, ◌++◌, length, take, drop, get_or, Option, Some, None, refl, sym, ap, ◌∙◌, append_assoc, length-append, arith, inl, inr}
use Rattle.std.specs.Prelude.{Bool, true, false}
use Rattle.std.specs.List.{last_or, flat_map, prefix_len}
use Rattle.std.proofs.lemmas.Bool.{cases_lt}
use Rattle.std.proofs.lemmas.List.{length-take, take_all, take-append-le, append-nil, at_drop_more, at_drop_all}
use Rattle.trace_base.specs.Kept.{Kept, Held, put, put_held, held_of, most, is_letter, nul_in, nul_after}
use Rattle.trace_base.specs.declared.tail.Tail.{Tail}
use Rattle.trace_base.specs.TailView.{kept}
use Rattle.std.specs.Option.{option_or}
use Rattle.trace_base.proofs.TailNuls.{prefix_within, nul_first, nul_later}
use Rattle.trace_base.proofs.TailFills.{same_kept}

last_join : (o : Option ℕ) (xs ys : List ℕ) → last_or (last_or o xs) ys ≡ last_or o (xs ++ ys)
last_join o [] ys = refl
last_join o (x ∷ xs) ys = last_join (Some x) xs ys

nul_join : (o : Option ℕ) (total : ℕ) (xs ys : List ℕ) → option_or (option_or o (nul_in total xs)) (nul_in (min (total + length xs) most) ys) ≡ option_or o (nul_in total (xs ++ ys))
nul_join (Some n) total xs ys = refl
nul_join None total xs ys = elim (cases_lt (prefix_len is_letter xs) (length xs)) as (λ _. option_or (nul_in total xs) (nul_in (min (total + length xs) most) ys) ≡ nul_in total (xs ++ ys)) [
  | inl less ↦ nul_first total xs ys less
  | inr all ↦ nul_later total xs ys (omega (arith, all, prefix_within xs))
]

after_join : (watches : Bool) (o : Option ℕ) (total : ℕ) (xs ys : List ℕ) → nul_after watches (nul_after watches o total xs) (min (total + length xs) most) ys ≡ nul_after watches o total (xs ++ ys)
after_join true o total xs ys = nul_join o total xs ys
after_join false o total xs ys = refl

none_more : (o : Option ℕ) → option_or o None ≡ o
none_more None = refl
none_more (Some n) = refl

after_nothing : (watches : Bool) (o : Option ℕ) (total : ℕ) → nul_after watches o total [] ≡ o
after_nothing true o total = none_more o
after_nothing false o total = refl

pub take_join : (n : ℕ) (xs ys : List ℕ) → take n (take n xs ++ ys) ≡ take n (xs ++ ys)
take_join n xs ys = elim (cases_lt (length xs) n) as (λ _. take n (take n xs ++ ys) ≡ take n (xs ++ ys)) [
  | inl less ↦ ap (λ (l : List ℕ). take n (l ++ ys)) (take_all n xs (omega arith))
  | inr full ↦ take-append-le n (take n xs) ys (omega (arith, length-take n xs)) ∙ take_all n (take n xs) (omega (arith, length-take n xs)) ∙ sym (take-append-le n xs ys full)
]

pub put_put : (k : Kept) (xs ys : List ℕ) → put (put k xs) ys ≡ put k (xs ++ ys)
unfolding put
put_put k xs ys = same_kept refl
    (take_join k.room (k.bytes ++ xs) ys ∙ ap (take k.room) (append_assoc k.bytes xs ys))
    (omega (arith, length-append xs ys))
    (last_join k.last xs ys)
    (after_join k.watches k.nul k.total xs ys)

pub put_nothing : (t : Tail) → put (kept t) [] ≡ kept t
unfolding put
put_nothing t = same_kept refl
    (ap (take (length t.into.now)) (append-nil (take t.total t.into.now)) ∙ take_all (length t.into.now) (take t.total t.into.now) (omega (arith, length-take t.total t.into.now)))
    (omega arith)
    refl
    (after_nothing t.watches t.nul (min t.total most))

-- a loop over what is to be put: one step on, and at the end
pub put_more : {X : Type 0} (f : X → List ℕ) (k now r : Kept) (xs : List X) (i : ℕ) (d : X) → i < length xs → now ≡ put k (f (get_or xs i d)) → put k (flat_map f (drop i xs)) ≡ r → put now (flat_map f (drop (i + 1) xs)) ≡ r
put_more f k now r xs i d lt is_now before =
    ap (λ (k : Kept). put k (flat_map f (drop (i + 1) xs))) is_now ∙ put_put k (f (get_or xs i d)) (flat_map f (drop (i + 1) xs))
    ∙ ap (put k) (sym (at_drop_more (flat_map f) xs i d lt)) ∙ before

pub put_end : {X : Type 0} (f : X → List ℕ) (t : Tail) (r : Kept) (xs : List X) (i : ℕ) → length xs ≤ i → put (kept t) (flat_map f (drop i xs)) ≡ r → kept t ≡ r
put_end f t r xs i le before = sym (put_nothing t) ∙ ap (put (kept t)) (sym (at_drop_all (flat_map f) xs i le)) ∙ before

abbrev made_held : ℕ → List ℕ → ℕ → Held
made_held room bytes total = record { room = room; bytes = bytes; total = total }

same_held : {r t u : ℕ} {b c : List ℕ} → b ≡ c → t ≡ u → made_held r b t ≡ made_held r c u
same_held {r = r} {t = t} {c = c} is_b is_t = ap (λ (x : List ℕ). made_held r x t) is_b ∙ ap (made_held r c) is_t

pub held_put : (k : Kept) (piece : List ℕ) → held_of (put k piece) ≡ put_held (held_of k) piece
unfolding put put_held
held_put k piece = refl

pub put_held_twice : (h : Held) (xs ys : List ℕ) → put_held (put_held h xs) ys ≡ put_held h (xs ++ ys)
unfolding put_held
put_held_twice h xs ys = same_held (take_join h.room (h.bytes ++ xs) ys ∙ ap (take h.room) (append_assoc h.bytes xs ys)) (omega (arith, length-append xs ys))
