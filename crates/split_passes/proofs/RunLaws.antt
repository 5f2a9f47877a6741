-- Pass two, a run of plain records at once.
use Rattle.std.proofs.Common.{◌≡◌, ℕ, ◌+◌, ◌<◌, ◌≤◌, inl, inr, true, List, ◌++◌, length, Option, Some, None, sym, ap, subst, ◌∙◌, append_assoc, arith}
use Rattle.std.specs.Option.{IfSome}
use Rattle.std.proofs.lemmas.List.{length-append}
use Rattle.trace_base.specs.declared.layout.Layout.{Layout}
use Rattle.subpage.specs.ItemData.{ItemData, last_time}
use Rattle.subpage.specs.declared.mark.Mark.{Mark}
use Rattle.subpage.specs.declared.run.RunLimits.{RunLimits}
use Rattle.subpage.specs.Run.{run_bytes, time_at, IsRunFound}
use Rattle.page_pool.specs.declared.lane.Lane.{Lane}
use Rattle.page_pool.specs.Keeping.{KeepsLane, stepping}
use Rattle.page_write.specs.PageBytes.{one_page}
use Rattle.page_write.specs.Adding.{HasRoom, IsRunAfter}
use Rattle.page_write.proofs.Joined.{all_added_so_far}
use Rattle.page_write.specs.Passes.{HasPages}
use Rattle.event_cursor.specs.Standing.{left_of}
use Rattle.event_cursor.proofs.Standing.{left_over, bad_over, stands_over}
use Rattle.split_passes.specs.Runs.{IsRunPacked, RunFits, RunPacked}
use Rattle.split_passes.specs.Through.{StaysBefore}
use Rattle.split_passes.proofs.PackingLaws.{Packs}

-- the sub-buffers that are closed stay, and the open one holds the run's items besides
run_pages : (l : Layout) (m : ℕ) (a now : Lane) (begin old : Option (List ℕ)) (held held_now xs : List ItemData) → a.layout ≡ l → (r : RunPacked a now held held_now m) → HasPages l begin old xs held → HasPages l begin old (xs ++ r.items) held_now
run_pages l m a now begin old held held_now xs same r p =
    let one : one_page l (held ++ r.items) ≡ true = subst (λ (h : List ItemData). one_page l h ≡ true) r.held_are (subst (λ (k : Layout). one_page k held_now ≡ true) same r.one) in
    let pages : HasPages l begin old (xs ++ r.items) (held ++ r.items) = record { closed = p.closed; so_far = all_added_so_far l xs p.closed held r.items p.so_far one; gained = p.gained } in
    subst (λ (h : List ItemData). HasPages l begin old (xs ++ r.items) h) (sym r.held_are) pages

-- the same of any items
pub pages_run : (l : Layout) (m : ℕ) (a now : Lane) (begin old : Option (List ℕ)) (held held_now : List ItemData) → a.layout ≡ l → IsRunPacked a now held held_now m
    → (xs : List ItemData) × HasPages l begin old xs held → (xs : List ItemData) × HasPages l begin old xs held_now
pages_run l m a now begin old held held_now same (inr r) p = (p.0 ++ r.items, run_pages l m a now begin old held held_now p.0 same r p.1)
pages_run l m a now begin old held held_now same (inl none) p = (p.0, subst (λ (h : List ItemData). HasPages l begin old p.0 h) (sym none.1.1) p.1)

run_packs : (file : List ℕ) (n m : ℕ) (first a now : Lane) (begin old : Option (List ℕ)) (held held_now : List ItemData) → a.layout ≡ first.layout → RunPacked a now held held_now m → Packs file n first a begin old held → Packs file (n + m) first now begin old held_now
run_packs file n m first a now begin old held held_now same r p =
    let some : 0 < length r.items = omega (arith, r.long, r.some) in
    record {
      items = p.items ++ r.items;
      long = omega (arith, length-append p.items r.items, p.long, r.long);
      stands = stands_over file r.items a now some r.over p.stands;
      left = p.left ∙ ap (λ (xs : List ItemData). p.items ++ xs) (left_over file r.items a now r.over) ∙ sym (append_assoc p.items r.items (left_of file now));
      bad = bad_over file r.items a now r.over ∙ p.bad;
      pages = run_pages first.layout m a now begin old held held_now p.items same r p.pages;
    }

pub packs_run : (file : List ℕ) (n m : ℕ) (first a now : Lane) (begin old : Option (List ℕ)) (held held_now : List ItemData) → a.layout ≡ first.layout → IsRunPacked a now held held_now m → Packs file n first a begin old held → Packs file (n + m) first now begin old held_now
packs_run file n m first a now begin old held held_now same (inr r) p = run_packs file n m first a now begin old held held_now same r p
packs_run file n m first a now begin old held held_now same (inl none) p =
    let more : n ≡ n + m = omega (arith, none.0) in
    subst (λ (k : ℕ). Packs file k first now begin old held_now) more
    (subst (λ (h : List ItemData). Packs file n first now begin old h) (sym none.1.1) (subst (λ (b : Lane). Packs file n first b begin old held) (sym none.1.0) p))

-- a lane that stays before the limit goes on in its sub-buffer
pub stays_within : (limit : ℕ) (a m now : Lane) → StaysBefore limit a m → KeepsLane stepping m now → StaysBefore limit a now
stays_within limit a m now b s =
    let same = s.next in
    record { held = s.state ∙ b.held; forward = omega (arith, b.forward, same); within = omega (arith, b.within, same) }

-- a run that fits follows what is held
pub run_after : (a : Lane) (held : List ItemData) (most : ℕ) (next : Mark) (count : ℕ) → (r : RunFits a held most next count)
    → IsRunAfter a.layout held (run_bytes a.page a.cursor.mark next) (time_at next) r.run.items
run_after a held most next count r = record { start = time_at a.cursor.mark; last = r.last; run = r.run.run }

-- what was found fits
pub run_fits : (a : Lane) (held : List ItemData) (most : ℕ) (limits : RunLimits) (found : Option (Mark × ℕ)) → IsRunFound a.layout a.page a.cursor.mark limits found → limits.events ≤ most
    → last_time held ≡ Some (time_at a.cursor.mark) → HasRoom a.layout held limits.bytes → IfSome found (λ run. RunFits a held most run.0 run.1)
run_fits a held most limits None found le last has = tt
run_fits a held most limits (Some run) found le last has = record {
  run = found.run;
  some = found.some;
  few = omega (arith, found.few, le);
  last = last;
  room = omega (arith, found.fits, has);
}
