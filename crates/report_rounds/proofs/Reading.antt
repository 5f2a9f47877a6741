-- What a round reads: each lane reads its sub-buffers once, and these are bytes of its part.
use Rattle.std.proofs.Common.{◌≡◌, ℕ, suc, ◌-◌, ◌<◌, ◌≤◌, List, [], ◌∷◌, length, sum_by, Option, refl, subst, ◌∙◌, arith}
use Rattle.std.proofs.lemmas.List.Sums.{sum_by-cons}
use Rattle.trace_base.specs.declared.layout.Layout.{Layout}
use Rattle.trace_outside.specs.Causes.{raised}
use Rattle.subpage.specs.ItemData.{ItemData}
use Rattle.line_holes.specs.Holes.{LineText}
use Rattle.page_pool.specs.declared.lane.Lane.{Lane}
use Rattle.event_cursor.specs.Unread.{unread}
use Rattle.time_merge.specs.LaneRows.{parts_of}
use Rattle.time_merge.proofs.PartReads.{all_inside, all_reading_in, same_unread}
use Rattle.time_merge.specs.Reads.{all_unread}
use Rattle.time_merge.specs.declared.horizons.Horizon.{Horizon}
use Rattle.cpu_workers.specs.Formats.{IsFormatted}
use Rattle.round_print.specs.Rounds.{IsPrinted}
use Rattle.report_rounds.specs.Turns.{HasLoaded}
use Rattle.report_rounds.proofs.Pairs.{Related}

module _ (l : Layout) (len : ℕ) (text : ℕ → ItemData → LineText) where
  unread_formatted : (a b : Lane) → IsFormatted text a b → unread len b ≡ unread len a
  unread_formatted a b f = same_unread len a b f.keeps.layout f.keeps.part f.keeps.state f.keeps.next

  unread_printed : (h : Horizon) (a b : Lane) → IsPrinted h a b → unread len b ≡ unread len a
  unread_printed h a b p = same_unread len a b p.keeps.lane.layout p.keeps.lane.part p.keeps.lane.state p.keeps.lane.next

  -- formatting and printing read nothing
  pub unread_turned : (h : Horizon) (loaded formed now : List Lane) → length formed ≡ length loaded → length now ≡ length formed → Related (IsFormatted text) loaded formed → Related (IsPrinted h) formed now
      → all_unread len now ≡ all_unread len loaded
  unread_turned h loaded formed now same_f same_n f p = sum_same formed now same_n (λ i d lt. unread_printed h _ _ (p i d lt)) ∙ sum_same loaded formed same_f (λ i d lt. unread_formatted _ _ (f i d lt))
    where
      sum_same : (xs ys : List Lane) → length ys ≡ length xs → Related (λ a b. unread len b ≡ unread len a) xs ys → sum_by (unread len) ys ≡ sum_by (unread len) xs
      sum_same [] [] same r = refl
      sum_same [] (y ∷ ys) same r = absurd (omega (arith, same))
      sum_same (x ∷ xs) [] same r = absurd (omega (arith, same))
      sum_same (x ∷ xs) (y ∷ ys) same r =
          let rest : sum_by (unread len) ys ≡ sum_by (unread len) xs = sum_same xs ys (omega (arith, same)) (λ i d lt. r (suc i) d (omega (arith, lt))) in
          omega (arith, rest, r 0 x (omega arith), sum_by-cons (unread len) x xs, sum_by-cons (unread len) y ys)

-- what the lanes of a round read is no more than they have not read
pub reads_all : (l : Layout) (told : Option (List ℕ)) (len : ℕ) (lanes : List Lane) (before after : ℕ) → 0 < l.page → HasLoaded told len lanes before after → after ≤ raised before (all_unread len lanes)
reads_all l told len lanes before after some load = omega (arith, load.reads, load.less, all_reading_in len load.now)

-- one round more, by a file whose length is the same
module _ (l : Layout) (len now_len first before after : ℕ) (lanes mid : List Lane) (same : now_len ≡ len) (read : before ≤ raised first (all_unread len lanes - all_unread len mid))
    (less : all_unread len mid ≤ all_unread len lanes) where
  pub less_further : (now : List Lane) → all_unread now_len now ≤ all_unread now_len mid → all_unread len now ≤ all_unread len lanes
  less_further now le =
      let here : all_unread len now ≤ all_unread len mid = subst (λ (n : ℕ). all_unread n now ≤ all_unread n mid) same le in
      omega (arith, here, less)

  pub reads_further : (now : List Lane) → all_unread now_len now ≤ all_unread now_len mid → after ≤ raised before (all_unread now_len mid - all_unread now_len now)
      → after ≤ raised first (all_unread len lanes - all_unread len now)
  reads_further now le more =
      let here : all_unread len now ≤ all_unread len mid = subst (λ (n : ℕ). all_unread n now ≤ all_unread n mid) same le in
      let more_here : after ≤ raised before (all_unread len mid - all_unread len now) = subst (λ (n : ℕ). after ≤ raised before (all_unread n mid - all_unread n now)) same more in
      omega (arith, read, less, here, more_here)

  -- the last one
  pub reads_ended : after ≤ raised before (all_unread now_len mid) → after ≤ raised first (sum_by (λ part. part.1.size) (parts_of lanes))
  reads_ended more =
      let more_here : after ≤ raised before (all_unread len mid) = subst (λ (n : ℕ). after ≤ raised before (all_unread n mid)) same more in
      omega (arith, read, less, more_here, all_inside len lanes)
