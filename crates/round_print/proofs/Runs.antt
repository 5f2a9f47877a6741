-- Lines of a lane that go out at once.
use Rattle.std.proofs.Common.{◌≡◌, ℕ, ◌<◌, ◌≤◌, max, Bool, true, false, List, length, get_or, take, Option, Some, None, refl, sym, subst, arith}
use Rattle.std.specs.Prelude.{◌&&◌, is_none, nat_le}
use Rattle.std.specs.List.{All, prefix_len}
use Rattle.std.proofs.lemmas.Bool.{leb-true}
use Rattle.std.proofs.lemmas.List.{get_or-take, length-take}
use Rattle.std.proofs.lemmas.List.Sums.{prefix_len-le-length, prefix_len_passes}
use Rattle.tournament_tree.specs.declared.slot_key.SlotKey.{SlotKey}
use Rattle.line_holes.specs.declared.hole.Hole.{Hole}
use Rattle.page_pool.specs.Lines.{Line, is_plain_up_to}
use Rattle.page_pool.specs.declared.lane.Lane.{Lane}
use Rattle.time_merge.specs.declared.horizons.Horizon.{Horizon}
use Rattle.round_print.specs.Prints.{ArePlain}
use Rattle.round_print.specs.Rounds.{IsNextAt, IsRun}

pub one_run : (h : Horizon) (heads : List SlotKey) (i : ℕ) (lane : Lane) (n : ℕ) → n ≡ 1 → 0 < length lane.region.kept → IsRun h heads i lane n
one_run h heads i lane n one some = record {
  some = omega (arith, one);
  kept = omega (arith, one, some);
  next = λ more. absurd (omega (arith, one, more));
}

record IsPlainLine (most : ℕ) (line : Line) : Type 0 where
  key : line.key ≤ most
  hole : line.text.hole ≡ None

no_hole : (b : Bool) (hole : Option Hole) → (b && is_none hole) ≡ true → (b ≡ true) × (hole ≡ None)
no_hole true None e = (refl, refl)
no_hole true (Some hole) e = cc
no_hole false None e = cc
no_hole false (Some hole) e = cc

plain_line : (most : ℕ) (line : Line) → is_plain_up_to most line ≡ true → IsPlainLine most line
plain_line most line e =
    let both = no_hole (nat_le line.key most) line.text.hole e in
    record { key = leb-true line.key most both.0; hole = both.1 }

module _ (P : Line → Type 0) (most n : ℕ) (lines : List Line) (is : n ≡ max (prefix_len (is_plain_up_to most) lines) 1) (more : 1 < n) (each : (line : Line) → IsPlainLine most line → P line) where
  all_front : All P (take n lines)
  all_front k d lt =
      let lt_n : k < n = omega (arith, lt, length-take n lines) in
      let passes : is_plain_up_to most (get_or lines k d) ≡ true = prefix_len_passes (is_plain_up_to most) lines k d (omega (arith, is, more, lt_n)) in
      subst P (sym (get_or-take n lines k d lt_n)) (each (get_or lines k d) (plain_line most (get_or lines k d) passes))

pub plain_run : (h : Horizon) (heads : List SlotKey) (i : ℕ) (lane : Lane) (most n : ℕ) → 0 < length lane.region.kept → ((key : ℕ) → key ≤ most → IsNextAt h heads i lane.cpu key)
    → n ≡ max (prefix_len (is_plain_up_to most) lane.region.kept) 1 → IsRun h heads i lane n
plain_run h heads i lane most n some next is =
    let lines : List Line = lane.region.kept in
    record {
      some = omega (arith, is);
      kept = omega (arith, is, some, prefix_len-le-length (is_plain_up_to most) lines);
      next = λ more. all_front (λ line. IsNextAt h heads i lane.cpu line.key) most n lines is more (λ line plain. next line.key plain.key);
    }

pub plain_front : (lines : List Line) (most n : ℕ) → n ≡ max (prefix_len (is_plain_up_to most) lines) 1 → 1 < n → ArePlain (take n lines)
plain_front lines most n is more = all_front (λ line. line.text.hole ≡ None) most n lines is more (λ line plain. plain.hole)

-- lines with keys up to one up to which they come next
pub early_run : (h : Horizon) (heads : List SlotKey) (i : ℕ) (lane : Lane) (most count n : ℕ) → 0 < length lane.region.kept → ((key : ℕ) → key ≤ most → IsNextAt h heads i lane.cpu key)
    → count ≤ length lane.region.kept → ((k : ℕ) (d : Line) → k < count → (get_or lane.region.kept k d).key ≤ most) → n ≡ max count 1 → IsRun h heads i lane n
early_run h heads i lane most count n some next few early is =
    let lines : List Line = lane.region.kept in
    let P : Line → Type 0 = λ line. IsNextAt h heads i lane.cpu line.key in
    record {
      some = omega (arith, is);
      kept = omega (arith, is, some, few);
      next = λ more k d lt.
          let lt_n : k < n = omega (arith, lt, length-take n lines) in
          subst P (sym (get_or-take n lines k d lt_n)) (next (get_or lines k d).key (early k d (omega (arith, is, more, lt_n))));
    }
