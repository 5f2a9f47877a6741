-- A text that is put and then cut at its first NUL or at a limit.
use Rattle.std.proofs.Common.{◌≡◌, ℕ, ◌+◌, ◌-◌, ◌^◌, ◌<◌, ◌≤◌, min, List, ◌++◌, length, take, sym, ap, ◌∙◌, arith, inl, inr}
use Rattle.std.specs.List.{prefix_len}
use Rattle.std.proofs.lemmas.Bool.{cases_lt, lt-ltb, le-ltb}
use Rattle.std.proofs.lemmas.List.{length-take, length-take-le, take_all, take-take, take_at}
use Rattle.std.proofs.lemmas.List.Sums.{prefix_len-le-length}
use Rattle.std.proofs.Math.Seq.{take-append-add}
use Rattle.trace_base.specs.Kept.{Kept, Held, most, is_letter, nul_in, end_or, text_end, put, cut, watched, held_of, put_held}
use Rattle.trace_base.specs.declared.tail.Tail.{Tail}
use Rattle.trace_base.specs.TailView.{kept, held}

abbrev made_held : ℕ → List ℕ → ℕ → Held
made_held room bytes total = record { room = room; bytes = bytes; total = total }

same_held : {r t u : ℕ} {b c : List ℕ} → b ≡ c → t ≡ u → made_held r b t ≡ made_held r c u
same_held {r = r} {t = t} {c = c} is_b is_t = ap (λ (x : List ℕ). made_held r x t) is_b ∙ ap (made_held r c) is_t

swap : (m n : ℕ) (xs : List ℕ) → take m (take n xs) ≡ take n (take m xs)
swap m n xs = elim (cases_lt m n) as (λ _. take m (take n xs) ≡ take n (take m xs)) [
  | inl less ↦ take-take m n xs (omega arith) ∙ sym (take_all n (take m xs) (omega (arith, length-take m xs)))
  | inr more ↦ take_all m (take n xs) (omega (arith, length-take n xs)) ∙ sym (take-take n m xs more)
]

-- what is kept of a text that is cut is what is kept of its first bytes
cut_bytes : (room : ℕ) (bytes text : List ℕ) (total n end : ℕ) → room ≤ most → length bytes ≡ min total room → total ≤ most → n ≤ length text → end ≡ min (total + n) most
    → take end (take room (bytes ++ text)) ≡ take room (bytes ++ take n text)
cut_bytes room bytes text total n end small front within le is = elim (cases_lt total room) as (λ _. take end (take room (bytes ++ text)) ≡ take room (bytes ++ take n text)) [
  | inr full ↦ ap (take end) (take_at bytes text room (omega arith)) ∙ take_all end bytes (omega arith) ∙ sym (take_at bytes (take n text) room (omega arith))
  | inl less ↦ elim (cases_lt most (total + n)) as (λ _. take end (take room (bytes ++ text)) ≡ take room (bytes ++ take n text)) [
    | inl over ↦ take_all end (take room (bytes ++ text)) (omega (arith, length-take room (bytes ++ text)))
        ∙ ap (λ (m : ℕ). take m (bytes ++ text)) (omega arith) ∙ take-append-add bytes text (room - total)
        ∙ ap (λ (l : List ℕ). bytes ++ l) (sym (take-take (room - total) n text (omega arith)))
        ∙ sym (take-append-add bytes (take n text) (room - total)) ∙ ap (λ (m : ℕ). take m (bytes ++ take n text)) (omega arith)
    | inr fits ↦ swap end room (bytes ++ text)
        ∙ ap (λ (m : ℕ). take room (take m (bytes ++ text))) (omega arith)
        ∙ ap (take room) (take-append-add bytes text n)
  ]
]

cut_text : (t : Tail) (text : List ℕ) (n end : ℕ) (k now : Kept) → (kept t).room < 2 ^ 63 → k ≡ put (watched (kept t)) text → n ≤ length text → end ≡ min ((kept t).total + n) most → now ≡ cut k end
    → held_of now ≡ put_held (held t) (take n text)
unfolding put put_held
cut_text t text n end k now small is_k le is_end is_now =
    let bytes : List ℕ = (kept t).bytes in
    let front : length bytes ≡ min (kept t).total (kept t).room = omega (arith, length-take t.total t.into.now) in
    ap held_of (is_now ∙ ap (λ (k : Kept). cut k end) is_k)
    ∙ same_held
    (cut_bytes (kept t).room bytes text (kept t).total n end (omega arith) front (omega arith) le is_end)
    (omega (arith, is_end, length-take-le n text le))

-- where the text ends
end_is : (total limit : ℕ) (text : List ℕ) → total ≤ most → min (end_or (nul_in total text) (min (total + length text) most)) (min (total + limit) most) ≡ min (total + min (prefix_len is_letter text) limit) most
end_is total limit text within = elim (cases_lt (prefix_len is_letter text) (length text)) as (λ _. min (end_or (nul_in total text) (min (total + length text) most)) (min (total + limit) most) ≡ min (total + min (prefix_len is_letter text) limit) most) [
  | inl less ↦ rw (lt-ltb (prefix_len is_letter text) (length text) less) (omega arith)
  | inr all ↦ rw (le-ltb (prefix_len is_letter text) (length text) all) (omega (arith, prefix_len-le-length is_letter text))
]

text_end_is : (k k0 k1 : Kept) (text : List ℕ) → k0 ≡ watched k → k1 ≡ put k0 text → text_end k1 ≡ end_or (nul_in k.total text) (min (k.total + length text) most)
unfolding put
text_end_is k k0 k1 text is_watched is_put = ap text_end (is_put ∙ ap (λ (k : Kept). put k text) is_watched)

end_within : (total : ℕ) (text : List ℕ) → end_or (nul_in total text) (min (total + length text) most) ≤ min (total + length text) most
end_within total text = elim (cases_lt (prefix_len is_letter text) (length text)) as (λ _. end_or (nul_in total text) (min (total + length text) most) ≤ min (total + length text) most) [
  | inl less ↦ rw (lt-ltb (prefix_len is_letter text) (length text) less) (omega arith)
  | inr all ↦ rw (le-ltb (prefix_len is_letter text) (length text) all) (omega arith)
]

total_is : (k k0 k1 : Kept) (text : List ℕ) → k0 ≡ watched k → k1 ≡ put k0 text → k1.total ≡ min (k.total + length text) most
unfolding put
total_is k k0 k1 text is_watched is_put = ap (λ (k : Kept). k.total) (is_put ∙ ap (λ (k : Kept). put k text) is_watched)

pub cut_within : (k k0 k1 : Kept) (text : List ℕ) (limit start end : ℕ) → k0 ≡ watched k → k1 ≡ put k0 text → end ≡ min (text_end k1) (min (start + limit) most) → end ≤ k1.total
cut_within k k0 k1 text limit start end is_watched is_put is_end =
    omega (arith, is_end, text_end_is k k0 k1 text is_watched is_put, end_within k.total text, total_is k k0 k1 text is_watched is_put)

pub put_cut_is : (t : Tail) (text : List ℕ) (limit start end : ℕ) (k0 k1 now : Kept) → (kept t).room < 2 ^ 63 → start ≡ (kept t).total → k0 ≡ watched (kept t) → k1 ≡ put k0 text → end ≡ min (text_end k1) (min (start + limit) most) → now ≡ cut k1 end
    → held_of now ≡ put_held (held t) (take (min (prefix_len is_letter text) limit) text)
put_cut_is t text limit start end k0 k1 now small is_start is_watched is_put is_end is_now =
    cut_text t text (min (prefix_len is_letter text) limit) end k1 now small
    (is_put ∙ ap (λ (k : Kept). put k text) is_watched)
    (omega (arith, prefix_len-le-length is_letter text))
    (is_end ∙ ap (λ (n : ℕ). min n (min (start + limit) most)) (text_end_is (kept t) k0 k1 text is_watched is_put)
    ∙ ap (λ (n : ℕ). min (end_or (nul_in (kept t).total text) (min ((kept t).total + length text) most)) (min (n + limit) most)) is_start
    ∙ end_is (kept t).total limit text (omega arith))
    is_now
