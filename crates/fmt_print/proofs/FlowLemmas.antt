-- Texts in their widths whose length is known only once they were put.
use Rattle.std.proofs.Common.{◌≡◌, ℕ, ◌+◌, ◌-◌, ◌^◌, ◌<◌, ◌≤◌, min, Bool, true, false, List, ◌++◌, length, take, replicate, Option, Some, None, sym, ap, ◌∙◌, arith, inl, inr}
use Rattle.std.specs.List.{prefix_len}
use Rattle.std.proofs.lemmas.Bool.{cases_lt}
use Rattle.std.proofs.lemmas.List.{length-take, take-take, take_all}
use Rattle.std.proofs.Math.Seq.{take-append-add}
use Rattle.trace_base.specs.Kept.{Kept, Held, most, is_letter, put, held_of, put_held}
use Rattle.trace_base.proofs.TailJoins.{put_held_twice, held_put}
use Rattle.trace_base.specs.Kept.{until_nul}
use Rattle.fmt_forms.specs.Texts.{cut_to, padded}
use Rattle.fmt_print.specs.Strings.{limit_of}

pub flow_left : (h : Held) (mid later : Kept) (text : List ℕ) (width pad : ℕ) (left : Bool) → left ≡ true → width < 2 ^ 32 → pad ≡ width - min (length text) most → held_of mid ≡ put_held h text → later ≡ put mid (replicate pad 32)
    → held_of later ≡ put_held h (padded left width text)
unfolding padded
flow_left h mid later text width pad left is small is_pad one two =
    rw is (ap held_of two ∙ held_put mid (replicate pad 32) ∙ ap (λ (g : Held). put_held g (replicate pad 32)) one ∙ put_held_twice h text (replicate pad 32)
    ∙ ap (λ (n : ℕ). put_held h (text ++ replicate n 32)) (omega (arith, is_pad)))

pub flow_right : (k mid : Kept) (now : Held) (text : List ℕ) (width pad : ℕ) (left : Bool) → left ≡ false → width < 2 ^ 32 → pad ≡ width - min (length text) most → mid ≡ put k (replicate pad 32) → now ≡ put_held (held_of mid) text
    → now ≡ put_held (held_of k) (padded left width text)
unfolding padded
flow_right k mid now text width pad left is small is_pad one two =
    rw is (two ∙ ap (λ (m : Kept). put_held (held_of m) text) one ∙ ap (λ (g : Held). put_held g text) (held_put k (replicate pad 32)) ∙ put_held_twice (held_of k) (replicate pad 32) text
    ∙ ap (λ (n : ℕ). put_held (held_of k) (replicate n 32 ++ text)) (omega (arith, is_pad)))

-- more than the greatest length is kept and told alike
same_start : (room k : ℕ) (bytes text : List ℕ) → room ≤ length bytes + k → take room (bytes ++ take k text) ≡ take room (bytes ++ text)
same_start room k bytes text le = ap (take room) (sym (take-append-add bytes text k)) ∙ take-take room (length bytes + k) (bytes ++ text) le

made : ℕ → List ℕ → ℕ → Held
made room bytes total = record { room = room; bytes = bytes; total = total }

alike : (h : Held) (text : List ℕ) (n : ℕ) → h.room ≤ most → put_held h (take (min n most) text) ≡ put_held h (take n text)
unfolding put_held made
alike h text n small = elim (cases_lt most n) as (λ _. put_held h (take (min n most) text) ≡ put_held h (take n text)) [
  | inl over ↦
      let bytes : take h.room (h.bytes ++ take (min n most) text) ≡ take h.room (h.bytes ++ take n text)
      = same_start h.room (min n most) h.bytes text (omega arith) ∙ sym (same_start h.room n h.bytes text (omega arith)) in
      ap (λ (b : List ℕ). made h.room b (min (h.total + length (take (min n most) text)) most)) bytes
      ∙ ap (made h.room (take h.room (h.bytes ++ take n text))) (omega (arith, length-take (min n most) text, length-take n text))
  | inr fits ↦ ap (λ (m : ℕ). put_held h (take m text)) (omega arith)
]

shorter : (m n : ℕ) (text : List ℕ) → take (min m n) text ≡ take m (take n text)
shorter m n text = elim (cases_lt m n) as (λ _. take (min m n) text ≡ take m (take n text)) [
  | inl less ↦ ap (λ (k : ℕ). take k text) (omega arith) ∙ sym (take-take m n text (omega arith))
  | inr more ↦ ap (λ (k : ℕ). take k text) (omega arith) ∙ sym (take_all m (take n text) (omega (arith, length-take n text)))
]

pub shown_held : (h : Held) (precision : Option ℕ) (text : List ℕ) → h.room ≤ most → put_held h (take (min (prefix_len is_letter text) (limit_of precision)) text) ≡ put_held h (cut_to precision (until_nul text))
shown_held h None text small = alike h text (prefix_len is_letter text) small
shown_held h (Some p) text small = ap (put_held h) (ap (λ (n : ℕ). take n text) (omega arith) ∙ shorter p (prefix_len is_letter text) text)
