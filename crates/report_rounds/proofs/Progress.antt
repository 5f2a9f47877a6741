-- Each round uses up an item or prints a line.
use Rattle.std.proofs.Common.{◌≡◌, ℕ, ◌<◌, ◌≤◌, max, List, [], ◌∷◌, length, Option, refl, sym, ap, subst, ◌∙◌, arith}
use Rattle.trace_base.specs.declared.layout.Layout.{Layout}
use Rattle.subpage.specs.ItemData.{ItemData, item_time}
use Rattle.subpage.specs.Arrangement.{Keyed, keyed_from}
use Rattle.line_holes.specs.Holes.{LineText}
use Rattle.page_pool.specs.Lines.{Line, Lines}
use Rattle.page_pool.specs.declared.lane.Lane.{Lane}
use Rattle.event_cursor.specs.Standing.{held_left, keyed_held, most_left}
use Rattle.event_cursor.specs.Loading.{IsReadied}
use Rattle.time_merge.specs.declared.horizons.Horizon.{Horizon}
use Rattle.cpu_workers.specs.Spaces.{Space, space_of, fill}
use Rattle.cpu_workers.specs.Formats.{IsFormatted}
use Rattle.time_merge.specs.Horizons.{is_due}
use Rattle.round_print.specs.Prints.{later_lines, later_of}
use Rattle.round_print.specs.Rounds.{IsPrinted}
use Rattle.std.proofs.lemmas.Bool.{cases_Bool}
use Rattle.std.proofs.Common.{inl, inr}
use Rattle.report_rounds.specs.Between.{IsBetween, work_of}
use Rattle.report_rounds.proofs.Between.{IsFill, fill_counts, fill_some, tidy_space}
use Rattle.report_rounds.proofs.RoundsPrinted.{same_lane}

keyed_long : (cpu high : ℕ) (xs : List ItemData) → length (keyed_from cpu high xs) ≡ length xs
keyed_long cpu high [] = refl
keyed_long cpu high (x ∷ xs) = omega (arith, keyed_long cpu (max high (item_time x)) xs)

later_long : (h : Horizon) (cpu : ℕ) (lines : List Line) → length (later_lines h cpu lines) ≤ length lines
later_long h cpu [] = omega arith
later_long h cpu (line ∷ lines) = elim (cases_Bool (is_due h line.key cpu)) as (λ _. length (later_lines h cpu (line ∷ lines)) ≤ length (line ∷ lines)) [
  | inl due ↦ rw due (omega (arith, later_long h cpu lines))
  | inr later ↦ rw later (omega arith)
]

module _ (text : ℕ → ItemData → LineText) (l : Layout) where
  pub work_loaded : (told : Option (List ℕ)) (a b : Lane) → IsReadied told a b → work_of b ≤ work_of a
  work_loaded told a b loaded = omega (arith, loaded.most, ap (λ (r : Lines). length r.kept) loaded.place.region)

  formatted_counts : (a b : Lane) → IsFormatted text a b → IsFill text (space_of a.region) (keyed_held a) (space_of b.region, keyed_held b)
  formatted_counts a b f = subst (λ (r : Space × List Keyed). IsFill text (space_of a.region) (keyed_held a) r) f.filled (fill_counts text (space_of a.region) (keyed_held a))

  held_long : (a : Lane) → length (keyed_held a) ≡ length (held_left a)
  held_long a = keyed_long a.cpu _ (held_left a)

  pub work_formatted : (a b : Lane) → IsFormatted text a b → work_of b ≤ work_of a
  work_formatted a b f =
      let c = formatted_counts a b f in
      omega (arith, f.used, c.count, c.fewer, held_long a, held_long b)

  same_most : (h : Horizon) (a b : Lane) → IsPrinted h a b → most_left b ≡ most_left a
  same_most h a b p = ap most_left (same_lane a b p.keeps)

  pub work_printed : (h : Horizon) (a b : Lane) → IsPrinted h a b → work_of b ≤ work_of a
  work_printed h a b p = omega (arith, same_most h a b p, ap (λ (ls : List Line). length ls) p.kept, later_long h a.cpu a.region.kept)

  -- a lane that held an item, and of which all lines are printed
  pub work_less : (h : Horizon) (a b c : Lane) → IsBetween text l a → 0 < length (held_left a) → IsFormatted text a b → IsPrinted h b c → later_of h b ≡ [] → work_of c < work_of a
  work_less h a b c s some f p none =
      let counts = formatted_counts a b f in
      let kept : length c.region.kept ≡ 0 = ap (λ (ls : List Line). length ls) (p.kept ∙ none) in
      of_kept b.region.kept refl counts kept
    where
      taken : (items : List Keyed) → keyed_held a ≡ items → a.region.kept ≡ [] → length (keyed_held b) < length (keyed_held a)
      taken [] e none = absurd (omega (arith, some, held_long a, ap (λ (xs : List Keyed). length xs) e))
      taken (x ∷ xs) e none =
          let one : length (fill text (space_of a.region) (x ∷ xs)).1 ≤ length xs = fill_some text (space_of a.region) x xs (tidy_space a.region s.tidy) none (s.room x.cpu x.item) in
          let is : (fill text (space_of a.region) (x ∷ xs)).1 ≡ keyed_held b = ap (λ (ys : List Keyed). (fill text (space_of a.region) ys).1) (sym e) ∙ ap (λ (r : Space × List Keyed). r.1) f.filled in
          omega (arith, one, ap (λ (ys : List Keyed). length ys) is, ap (λ (ys : List Keyed). length ys) e)

      nothing : (lines : List Line) → length lines ≤ 0 → lines ≡ []
      nothing [] le = refl
      nothing (line ∷ lines) le = absurd (omega (arith, le))

      of_kept : (lines : List Line) → b.region.kept ≡ lines → IsFill text (space_of a.region) (keyed_held a) (space_of b.region, keyed_held b) → length c.region.kept ≡ 0 → work_of c < work_of a
      of_kept [] e counts kept =
          let before : a.region.kept ≡ [] = nothing a.region.kept (omega (arith, counts.more, ap (λ (ls : List Line). length ls) e)) in
          let less : length (keyed_held b) < length (keyed_held a) = taken (keyed_held a) refl before in
          omega (arith, f.used, less, held_long a, held_long b, counts.count, kept, same_most h b c p)
      of_kept (line ∷ lines) e counts kept =
          omega (arith, f.used, counts.count, counts.fewer, held_long a, held_long b, kept, same_most h b c p, ap (λ (ls : List Line). length ls) e)
