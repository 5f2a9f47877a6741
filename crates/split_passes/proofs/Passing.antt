-- Lanes on their way to the start.
use Rattle.std.proofs.Common.{◌≡◌, ℕ, ◌+◌, ◌-◌, ◌<◌, ◌≤◌, arith, Bool, true, false, List, [], ◌∷◌, get_or, set, length, Option, Some, None, refl, sym, ap, subst, ◌∙◌}
use Rattle.std.specs.Option.{IfSome}
use Rattle.std.specs.List.{All}
use Rattle.std.proofs.lemmas.List.Elements.{All-set, All-get_or}
use Rattle.subpage.specs.Arrangement.{Keyed, IsRising, key_of, cpu_of, by_key}
use Rattle.subpage.proofs.Arranging.{by_key-rising}
use Rattle.subpage.proofs.Filters.{filter-rising}
use Rattle.page_pool.specs.declared.lane.Lane.{Lane}
use Rattle.event_cursor.specs.Stepping.{IsStepped}
use Rattle.event_cursor.specs.Keys.{first_of}
use Rattle.event_cursor.specs.Standing.{Stands, keyed_held}
use Rattle.event_cursor.proofs.Standing.{stands_stepped}
use Rattle.time_merge.specs.Rows.{Row, coming, together, up_to, least_cut}
use Rattle.time_merge.specs.LaneRows.{IsReady, rows_of, to_come}
use Rattle.time_merge.specs.Reads.{all_reading, all_unread}
use Rattle.time_merge.proofs.PartReads.{none_reading}
use Rattle.trace_outside.specs.Causes.{raised}
use Rattle.time_merge.specs.Nexts.{IsNextLane, IsNext}
use Rattle.time_merge.specs.declared.next_lanes.Next.{Next}
use Rattle.word_values.specs.declared.moment.Moment.{Moment}
use Rattle.split_pieces.specs.Moments.{is_before}
use Rattle.split_pieces.specs.Pieces.{from_start}
use Rattle.split_passes.specs.Starting.{ListStarted}
use Rattle.split_passes.proofs.Starting.{passed_one, none_before, nothing_left}

pub come_rising : (rows : List (Row Keyed)) → IsRising key_of (coming key_of cpu_of rows)
come_rising rows = filter-rising key_of (λ x. up_to (least_cut rows) (key_of x) (cpu_of x)) (by_key key_of (together rows)) (by_key-rising key_of (together rows))

-- what was passed over stands before the start
pub record Passing (file : List ℕ) (start : Option Moment) (first now : List Lane) : Type 0 where
  pub stands : All (Stands file) now
  pub come : from_start start (to_come file first) ≡ from_start start (to_come file now)

pub passing_none : (file : List ℕ) (start : Option Moment) (lanes : List Lane) → All (Stands file) lanes → Passing file start lanes lanes
passing_none file start lanes s = record { stands = s; come = refl }

-- lanes were loaded
pub passing_loaded : (told now_told : Option (List ℕ)) (start : Option Moment) (first lanes lanes1 : List Lane) (end : Next) → now_told ≡ told
    → IfSome told (λ file. All (Stands file) first → Passing file start first lanes)
    → IfSome now_told (λ file. rows_of file lanes1 ≡ rows_of file lanes)
    → IfSome now_told (λ file. All (Stands file) lanes → All (Stands file) lanes1)
    → IfSome now_told (λ file. All (Stands file) lanes → IsNext file lanes1 end)
    → IfSome told (λ file. All (Stands file) first → Passing file start first lanes1 × IsNext file lanes1 end)
passing_loaded None now_told start first lanes lanes1 end e passing rows stands next = tt
passing_loaded (Some file) now_told start first lanes lanes1 end e passing rows stands next = λ s.
    let p = passing s in
    let rows : rows_of file lanes1 ≡ rows_of file lanes = subst (λ (o : Option (List ℕ)). IfSome o (λ file. rows_of file lanes1 ≡ rows_of file lanes)) e rows in
    let stand : All (Stands file) lanes → All (Stands file) lanes1 = subst (λ (o : Option (List ℕ)). IfSome o (λ file. All (Stands file) lanes → All (Stands file) lanes1)) e stands in
    let comes : All (Stands file) lanes → IsNext file lanes1 end = subst (λ (o : Option (List ℕ)). IfSome o (λ file. All (Stands file) lanes → IsNext file lanes1 end)) e next in
    (record { stands = stand p.stands; come = p.come ∙ ap (λ (rs : List (Row Keyed)). from_start start (coming key_of cpu_of rs)) (sym rows) }, comes p.stands)

-- an item before the start
pub passing_on : (file : List ℕ) (m : Moment) (first lanes : List Lane) (i : ℕ) (d d2 now : Lane) (b : Bool) → i < length lanes → (next : IsNextLane file lanes i) → IsStepped (get_or lanes i d) now
    → ((x : Keyed) → first_of (keyed_held (get_or lanes i d2)) ≡ Some x → b ≡ is_before m x.key) → b ≡ true → Passing file (Some m) first lanes → Passing file (Some m) first (set lanes i now)
passing_on file m first lanes i d d2 now b lt next s before is p =
    let x = next.item in
    let early : is_before m x.key ≡ true = sym (before x (next.first d2)) ∙ is in
    record {
      stands = All-set (Stands file) lanes i now (stands_stepped file (get_or lanes i d) now s (All-get_or (Stands file) lanes i d lt p.stands)) p.stands;
      come = p.come ∙ ap (from_start (Some m)) (next.used d now s) ∙ passed_one m x (to_come file (set lanes i now)) early;
    }

-- the next item is not before the start
pub passed_all : (file : List ℕ) (m : Moment) (first lanes : List Lane) (i : ℕ) (d : Lane) (b : Bool) → (next : IsNextLane file lanes i)
    → ((x : Keyed) → first_of (keyed_held (get_or lanes i d)) ≡ Some x → b ≡ is_before m x.key) → b ≡ false → Passing file (Some m) first lanes → ListStarted file (Some m) first lanes
passed_all file m first lanes i d b next before is p =
    let x = next.item in
    let late : is_before m x.key ≡ false = sym (before x (next.first d)) ∙ is in
    let come : to_come file lanes ≡ x ∷ next.come.0 = next.come.1 in
    let all : from_start (Some m) (x ∷ next.come.0) ≡ x ∷ next.come.0 = none_before m x next.come.0 (subst (IsRising key_of) come (come_rising (rows_of file lanes))) late in
    record { stands = p.stands; come = come ∙ sym all ∙ ap (from_start (Some m)) (sym come) ∙ sym p.come }

-- nothing is left
pub passed_out : (file : List ℕ) (start : Option Moment) (first lanes : List Lane) → to_come file lanes ≡ [] → Passing file start first lanes → ListStarted file start first lanes
passed_out file start first lanes none p =
    record { stands = p.stands; come = none ∙ sym (nothing_left start) ∙ ap (from_start start) (sym none) ∙ sym p.come }

-- ALL THAT WAS READ

pub ready_done : (len : ℕ) (lanes : List Lane) (first after all : ℕ) → All IsReady lanes → after ≤ raised first (all - all_unread len lanes + all_reading len lanes) → after ≤ raised first (all - all_unread len lanes)
ready_done len lanes first after all ready read = omega (arith, read, none_reading len lanes ready)
