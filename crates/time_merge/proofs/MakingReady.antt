-- Lanes that are made ready, one after another.
use Rattle.std.proofs.Common.{◌≡◌, ℕ, ◌+◌, ◌-◌, ◌<◌, ◌≤◌, Bool, Result, Ok, Err, IsErr, List, length, get_or, set, sum_by, refl, sym, ap, subst, ◌∙◌, inl, inr, arith, get_or-set_same, get_or-set_other}
use Rattle.std.specs.Option.{IfSome}
use Rattle.std.specs.List.{All, AllWithin}
use Rattle.std.proofs.lemmas.Bool.{cases_eq}
use Rattle.std.proofs.lemmas.List.{get_or_default}
use Rattle.std.proofs.lemmas.List.Elements.{All-set, All-get_or, AllWithin-more, AllWithin-more_set}
use Rattle.std.proofs.lemmas.List.Sums.{sum_by-set}
use Rattle.trace_base.specs.declared.layout.Layout.{Layout}
use Rattle.trace_outside.specs.declared.outside.File as file
use Rattle.trace_outside.specs.Causes.{HasCause, Rose, raised}
use Rattle.trace_outside.specs.Keeping.{KeepsFile}
use Rattle.trace_outside.proofs.Keeping.{file_kept, file_still}
use Rattle.page_pool.specs.declared.lane.Lane.{Lane}
use Rattle.page_pool.specs.Moved.{AllUnmoved, IsFirstMark, NoneMarked}
use Rattle.page_pool.proofs.Passing.{passing}
use Rattle.event_cursor.specs.Standing.{Stands, most_left}
use Rattle.event_cursor.specs.Loading.{IsReadied, LoadsLane}
use Rattle.event_cursor.proofs.Told.{told_all}
use Rattle.time_merge.specs.Advancing.{Advances}
use Rattle.time_merge.specs.LaneRows.{HasLayout, IsReady, parts_of, rows_of}
use Rattle.time_merge.specs.Loading.{LoadsLanes}
use Rattle.time_merge.specs.Reads.{HasStopped, all_unread}
use Rattle.time_merge.proofs.Advancing.{advances_not, advances_one, advances_more, readied_more, readied_not, same_length}
use Rattle.time_merge.proofs.LaneReads.{ready_reads, less_unread, one_read, one_read_ready, still_behind, stopped}
use Rattle.time_merge.proofs.Readying.{same_parts, same_rows, stand_still}

-- The first few lanes are ready, and those that were are as they were; the others were not looked at.
pub record ReadySoFar {F : Type 0} (f : file.Ghosts F) (start now : F) (first lanes : List Lane) (count : ℕ) : Type 0 where
  pub layouts : (layout : Layout) → All (HasLayout layout) first → All (HasLayout layout) lanes
  pub parts : parts_of lanes ≡ parts_of first
  pub most : sum_by most_left lanes ≤ sum_by most_left first
  pub ready : AllWithin IsReady lanes 0 count
  pub advance : (j : ℕ) (d : Lane) → j < length first → Advances (get_or first j d) (get_or lanes j d)
  pub each : (j : ℕ) (d : Lane) → j < length first → IsReadied (f.bytes start) (get_or first j d) (get_or lanes j d)
  pub kept : (j : ℕ) (d : Lane) → j < length first → IsReady (get_or first j d) → get_or lanes j d ≡ get_or first j d
  pub behind : (j : ℕ) (d : Lane) → count ≤ j → get_or lanes j d ≡ get_or first j d
  pub rows : IfSome (f.bytes start) (λ bytes. rows_of bytes lanes ≡ rows_of bytes first)
  pub stands : IfSome (f.bytes start) (λ bytes. All (Stands bytes) first → All (Stands bytes) lanes)
  pub reads : f.reads now ≤ raised (f.reads start) (all_unread (f.size start) first - all_unread (f.size start) lanes)
  pub unread : all_unread (f.size start) lanes ≤ all_unread (f.size start) first
  pub keeps : KeepsFile f start now
  pub faults : f.faults now ≡ f.faults start

-- What a load of the next lane comes to, also where its read failed.
pub record LoadedSoFar {F : Type 0} (f : file.Ghosts F) (start now : F) (first lanes : List Lane) : Type 0 where
  pub loads : LoadsLanes f start now first lanes
  pub each : (j : ℕ) (d : Lane) → j < length first → IsReadied (f.bytes start) (get_or first j d) (get_or lanes j d)
  pub kept : (j : ℕ) (d : Lane) → j < length first → IsReady (get_or first j d) → get_or lanes j d ≡ get_or first j d
  pub stopped : HasStopped (f.size start) first lanes (f.reads start) (f.reads now)

-- a read that failed, after loads that left the count of faults as it was
pub read_failed : {T E : Type 0} (start mid now : ℕ) (result : Result T E) → mid ≡ start → IsErr result → mid ≤ now → Rose mid now → HasCause start now result
read_failed start mid now (Ok value) same failed later rose = absurd (let bad : ⊥ = cc in bad)
read_failed start mid now (Err error) same failed later rose = record { later = omega (arith, same, later); failed = omega (arith, same, rose); kept = tt }

-- a lane that was ready stays as it was, as long as those after it are as they were
still_kept : (first lanes : List Lane) (i : ℕ) (d now : Lane) → i < length lanes → (IsReady (get_or lanes i d) → now ≡ get_or lanes i d)
    → ((j : ℕ) (e : Lane) → i ≤ j → get_or lanes j e ≡ get_or first j e)
    → ((j : ℕ) (e : Lane) → j < length first → IsReady (get_or first j e) → get_or lanes j e ≡ get_or first j e)
    → (j : ℕ) (e : Lane) → j < length first → IsReady (get_or first j e) → get_or (set lanes i now) j e ≡ get_or first j e
still_kept first lanes i d now inside one behind kept j e lt ready = elim (cases_eq j i) as (λ _. get_or (set lanes i now) j e ≡ get_or first j e) [
  | inl same ↦
      let here : get_or (set lanes i now) j e ≡ now = ap (λ (k : ℕ). get_or (set lanes i now) k e) same ∙ get_or-set_same lanes i now e inside in
      let old : get_or lanes j e ≡ get_or lanes i d = ap (λ (k : ℕ). get_or lanes k e) same ∙ get_or_default lanes i e d inside in
      let was : get_or lanes j e ≡ get_or first j e = behind j e (omega (arith, same)) in
      here ∙ one (subst IsReady (sym was ∙ old) ready) ∙ sym old ∙ was
  | inr other ↦ get_or-set_other lanes i j now e other ∙ kept j e lt ready
]

module _ {F : Type 0} (f : file.Ghosts F) (start : F) (first : List Lane) where
  pub none_ready : ReadySoFar f start start first first 0
  none_ready = record {
    layouts = λ layout all. all;
    parts = refl;
    most = omega arith;
    ready = λ j d from lt. absurd (omega (arith, lt));
    advance = λ j d lt. advances_not (get_or first j d);
    each = λ j d lt. readied_not (f.bytes start) (get_or first j d);
    kept = λ j d lt ready. refl;
    behind = λ j d le. refl;
    rows = told_all _ (f.bytes start) (λ bytes. refl);
    stands = told_all _ (f.bytes start) (λ bytes stands. stands);
    reads = omega arith;
    unread = omega arith;
    keeps = file_still f start;
    faults = refl;
  }

  module _ (now : F) (lanes : List Lane) (so_far : ReadySoFar f start now first lanes (length lanes)) where
    pub all_loaded : LoadsLanes f start now first lanes
    all_loaded = record {
      layouts = so_far.layouts;
      parts = so_far.parts;
      advance = so_far.advance;
      rows = so_far.rows;
      stands = so_far.stands;
      most = so_far.most;
      reads = omega (arith, so_far.reads);
      unread = so_far.unread;
      keeps = so_far.keeps;
    }

  module _ (now : F) (lanes : List Lane) (i : ℕ) (so_far : ReadySoFar f start now first lanes i) where
    -- a lane that is ready is passed over
    pub one_passed : ((d : Lane) → IsReady (get_or first i d)) → ReadySoFar f start now first lanes (i + 1)
    one_passed ready = record {
      layouts = so_far.layouts;
      parts = so_far.parts;
      most = so_far.most;
      ready = AllWithin-more IsReady lanes 0 i so_far.ready (λ d. subst IsReady (sym (so_far.behind i d (omega arith))) (ready d));
      advance = so_far.advance;
      each = so_far.each;
      kept = so_far.kept;
      behind = λ j e le. so_far.behind j e (omega (arith, le));
      rows = so_far.rows;
      stands = so_far.stands;
      reads = so_far.reads;
      unread = so_far.unread;
      keeps = so_far.keeps;
      faults = so_far.faults;
    }

    module _ (later : F) (d lane : Lane) (inside : i < length lanes) (load : LoadsLane f now later (get_or lanes i d) lane) (same : IsReady (get_or lanes i d) → lane ≡ get_or lanes i d) where
      long : length lanes ≡ length first
      long = same_length lanes first so_far.parts

      -- a lane is loaded, maybe not to its end
      pub one_loaded : LoadedSoFar f start later first (set lanes i lane)
      one_loaded = record {
        loads = record {
          layouts = λ k all. All-set (HasLayout k) lanes i lane (load.readied.place.layout ∙ All-get_or (HasLayout k) lanes i d inside (so_far.layouts k all)) (so_far.layouts k all);
          parts = same_parts lanes i d lane inside load.readied.place ∙ so_far.parts;
          advance = advances_more first lanes i d lane long inside (advances_one (get_or lanes i d) lane load.readied.place same) so_far.advance;
          rows = same_rows (f.bytes start) (f.bytes now) first lanes i d lane so_far.keeps.bytes inside load.readied.place so_far.rows load.readied.left;
          stands = stand_still (f.bytes start) (f.bytes now) first lanes i d lane so_far.keeps.bytes inside so_far.stands load.readied.stands;
          most = omega (arith, sum_by-set most_left lanes i lane d inside, load.readied.most, so_far.most);
          reads = one_read (f.size start) (f.size now) lanes i d lane so_far.keeps.size inside _ _ _ _ so_far.reads so_far.unread load.reads load.unread;
          unread = less_unread (f.size start) (f.size now) lanes i d lane so_far.keeps.size inside _ so_far.unread load.unread;
          keeps = file_kept so_far.keeps load.keeps;
        };
        each = readied_more (f.bytes start) (f.bytes now) first lanes i d lane so_far.keeps.bytes long inside load.readied so_far.each;
        kept = still_kept first lanes i d lane inside same so_far.behind so_far.kept;
        stopped = stopped (f.size start) (f.size now) lanes i d lane so_far.keeps.size inside first _ _ _ long so_far.behind so_far.reads so_far.unread load.reads load.unread;
      }

      pub one_ready : IsReady lane → f.faults later ≡ f.faults now → ReadySoFar f start later first (set lanes i lane) (i + 1)
      one_ready ready unfaulted =
          let done = one_loaded in
          record {
            layouts = done.loads.layouts;
            parts = done.loads.parts;
            most = done.loads.most;
            ready = AllWithin-more_set lanes i lane inside IsReady so_far.ready ready;
            advance = done.loads.advance;
            each = done.each;
            kept = done.kept;
            behind = still_behind (f.size start) (f.size now) lanes i d lane so_far.keeps.size inside first so_far.behind;
            rows = done.loads.rows;
            stands = done.loads.stands;
            reads = one_read_ready (f.size start) (f.size now) lanes i d lane so_far.keeps.size inside _ _ _ _ so_far.reads so_far.unread load.reads load.unread (ready_reads lane.cursor.state _ _ ready);
            unread = done.loads.unread;
            keeps = done.loads.keeps;
            faults = unfaulted ∙ so_far.faults;
          }

  module _ (now : F) (lanes : List Lane) (moved : List Bool) (from : ℕ) (marks : length moved ≡ length first) (unmoved : AllUnmoved IsReady moved first) (so_far : ReadySoFar f start now first lanes from) where
    -- clean lanes, which are ready, are passed over
    up_to : (at : ℕ) → from ≤ at → at ≤ length moved → NoneMarked moved from at → ReadySoFar f start now first lanes at
    up_to at behind inside none =
        passing (λ n. ReadySoFar f start now first lanes n) moved from at behind none
        (λ j more less unmarked before. one_passed now lanes j before (λ d. unmoved j d (omega (arith, less, inside, marks)) unmarked)) so_far

    pub up_to_mark : (at : ℕ) → IsFirstMark moved from at → ReadySoFar f start now first lanes at
    up_to_mark at mark = up_to at mark.behind (omega (arith, mark.inside)) mark.none

    pub up_to_end : from ≤ length moved → NoneMarked moved from (length moved) → ReadySoFar f start now first lanes (length lanes)
    up_to_end within none =
        subst (λ (n : ℕ). ReadySoFar f start now first lanes n) (marks ∙ sym (same_length lanes first so_far.parts)) (up_to (length moved) within (omega arith) none)
