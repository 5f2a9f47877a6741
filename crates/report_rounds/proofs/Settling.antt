-- Clean lanes, while those that moved are loaded, formatted, looked at and printed.
use Rattle.std.proofs.Common.{◌≡◌, ℕ, ◌+◌, ◌<◌, ◌≤◌, Bool, true, false, List, length, get_or, set, map, replicate, sym, ap, subst, ◌∙◌, arith, inl, inr, get_or-set_same, get_or-set_other}
use Rattle.std.proofs.lemmas.Bool.{cases_eq}
use Rattle.std.proofs.lemmas.List.{ext_get_or, get_or-map, get_or-replicate, get_or_default, length-map}
use Rattle.std.specs.List.{All}
use Rattle.tournament_tree.specs.declared.slot_key.SlotKey.{SlotKey}
use Rattle.tournament_tree.specs.declared.slot_key.SlotKey.TheVariants.{Empty}
use Rattle.trace_base.specs.declared.layout.Layout.{Layout}
use Rattle.subpage.specs.ItemData.{ItemData}
use Rattle.line_holes.specs.Holes.{LineText}
use Rattle.page_pool.specs.Moved.{AllUnmoved, KeepsUnmoved, NoneMarked}
use Rattle.page_pool.specs.declared.lane.Lane.{Lane}
use Rattle.page_pool.proofs.Passing.{passing}
use Rattle.time_merge.specs.Horizons.{high_of}
use Rattle.time_merge.specs.LaneRows.{IsReady}
use Rattle.cpu_workers.specs.Formats.{IsSettled}
use Rattle.round_print.specs.Prints.{head_kept}
use Rattle.round_print.specs.Rounds.{KeepsMarks}
use Rattle.report_rounds.specs.Between.{NeedNoLook, SlotsTell}
use Rattle.report_rounds.specs.declared.work.RoundWork.{RoundWork}
use Rattle.report_rounds.proofs.Pairs.{some_lane}

-- every lane is dirty at first
pub look_at_all : (text : ℕ → ItemData → LineText) (l : Layout) (lanes : List Lane) (work : RoundWork) → work.moved.items ≡ replicate (length lanes) true → NeedNoLook text lanes work
look_at_all text l lanes work is = record {
  ready = λ i d lt unmarked. absurd (marked i lt unmarked);
  settled = λ i d lt unmarked. absurd (marked i lt unmarked);
  heads = λ i d lt unmarked. absurd (marked i lt unmarked);
  highs = λ i d lt unmarked. absurd (marked i lt unmarked);
}
  where
    marked : (i : ℕ) → i < length lanes → get_or work.moved.items i true ≡ false → ⊥
    marked i lt unmarked = cc (get_or-replicate (length lanes) i true true lt, ap (λ (marks : List Bool). get_or marks i true) is, unmarked)

-- what holds of lanes that stay as they are holds on
module _ (moved : List Bool) (before now : List Lane) (long : length now ≡ length before) (keeps : KeepsUnmoved moved before now) where
  pub unmoved_on : (P : Lane → Type 0) → AllUnmoved P moved before → AllUnmoved P moved now
  unmoved_on P all i d lt unmarked =
      let inside : i < length before = omega (arith, lt, long) in
      subst P (sym (keeps i d inside unmarked)) (all i d inside unmarked)

  pub told_on : (f : Lane → SlotKey) (slots : List SlotKey) → SlotsTell f moved slots before → SlotsTell f moved slots now
  told_on f slots tell i d lt unmarked =
      let inside : i < length before = omega (arith, lt, long) in
      tell i d inside unmarked ∙ ap f (sym (keeps i d inside unmarked))

-- a tree that has all lanes as they are tells of the clean ones
pub told_all : (f : Lane → SlotKey) (moved : List Bool) (slots : List SlotKey) (lanes : List Lane) → slots ≡ map f lanes → SlotsTell f moved slots lanes
told_all f moved slots lanes is i d lt unmarked = ap (λ (keys : List SlotKey). get_or keys i Empty) is ∙ get_or-map f lanes i d Empty lt

-- a round was printed: the lanes that are clean after it were clean before, and are as they were
module _ (text : ℕ → ItemData → LineText) (l : Layout) (marks moved : List Bool) (formed now : List Lane) (long : length now ≡ length formed) (keeps : KeepsUnmoved moved formed now) (still : KeepsMarks marks moved) where
  pub need_no_look : (work : RoundWork) → work.moved.items ≡ moved → work.heads ≡ map head_kept now → work.highs ≡ map high_of formed → AllUnmoved IsReady marks formed → All (IsSettled text) formed
      → NeedNoLook text now work
  need_no_look work is heads highs ready settled = record {
    ready = unmoved_on work.moved.items formed now long kept IsReady (λ i d lt unmarked. ready i d lt (still i (unmarked_in i unmarked)));
    settled = unmoved_on work.moved.items formed now long kept (IsSettled text) (λ i d lt unmarked. settled i d lt);
    heads = told_all head_kept work.moved.items work.heads now heads;
    highs = told_on work.moved.items formed now long kept high_of work.highs (told_all high_of work.moved.items work.highs formed highs);
  }
    where
      unmarked_in : (i : ℕ) → get_or work.moved.items i true ≡ false → get_or moved i true ≡ false
      unmarked_in i unmarked = ap (λ (ms : List Bool). get_or ms i true) (sym is) ∙ unmarked

      kept : KeepsUnmoved work.moved.items formed now
      kept i d lt unmarked = keeps i d lt (unmarked_in i unmarked)

-- The slots of the first few lanes, and of the clean ones, tell what the lanes do.
abbrev pub TellsSoFar : (Lane → SlotKey) → List Bool → List SlotKey → List Lane → ℕ → Type 0
TellsSoFar f moved slots lanes count =
    (i : ℕ) → (d : Lane) → i < length lanes → (count ≤ i → get_or moved i true ≡ false) → get_or slots i Empty ≡ f (get_or lanes i d)

module _ (f : Lane → SlotKey) (moved : List Bool) (slots : List SlotKey) (lanes : List Lane) where
  pub tells_first : SlotsTell f moved slots lanes → TellsSoFar f moved slots lanes 0
  tells_first tell i d lt unmarked = tell i d lt (unmarked (omega arith))

  pub tells_last : length slots ≡ length lanes → TellsSoFar f moved slots lanes (length lanes) → slots ≡ map f lanes
  tells_last long tell =
      ext_get_or Empty slots (map f lanes) (long ∙ sym (length-map lanes f)) (λ i lt.
      let inside : i < length lanes = omega (arith, lt, long) in
      let d : Lane = some_lane lanes i inside in
      tell i d inside (λ le. absurd (omega (arith, le, inside))) ∙ sym (get_or-map f lanes i d Empty inside))

  module _ (count : ℕ) (tell : TellsSoFar f moved slots lanes count) where
    -- a clean lane is passed over
    pub tells_passed : get_or moved count true ≡ false → TellsSoFar f moved slots lanes (count + 1)
    tells_passed here i d lt unmarked = tell i d lt (λ le. elim (cases_eq i count) as (λ _. get_or moved i true ≡ false) [
      | inl same ↦ ap (λ (k : ℕ). get_or moved k true) same ∙ here
      | inr other ↦ let behind : count + 1 ≤ i = grind (arith, le, other) in unmarked behind
    ])

    -- a lane is looked at
    pub tells_more : (e : Lane) (mark : Bool) (key : SlotKey) (now : List SlotKey) → count < length slots → key ≡ f (get_or lanes count e) → now ≡ set slots count key
        → TellsSoFar f (set moved count mark) now lanes (count + 1)
    tells_more e mark key now inside own is i d lt unmarked = elim (cases_eq i count) as (λ _. get_or now i Empty ≡ f (get_or lanes i d)) [
      | inl same ↦
          at ∙ ap (λ (k : ℕ). get_or (set slots count key) k Empty) same ∙ get_or-set_same slots count key Empty inside ∙ own
          ∙ ap f (get_or_default lanes count e d (subst (λ (k : ℕ). k < length lanes) same lt)) ∙ ap (λ (k : ℕ). f (get_or lanes k d)) (sym same)
      | inr other ↦
          at ∙ get_or-set_other slots count i key Empty other
          ∙ tell i d lt (λ le. sym (get_or-set_other moved count i mark true other) ∙ (let behind : count + 1 ≤ i = grind (arith, le, other) in unmarked behind))
    ]
      where
        at : get_or now i Empty ≡ get_or (set slots count key) i Empty
        at = ap (λ (keys : List SlotKey). get_or keys i Empty) is

  -- clean lanes are passed over
  pub tells_along : (from to : ℕ) → from ≤ to → NoneMarked moved from to → TellsSoFar f moved slots lanes from → TellsSoFar f moved slots lanes to
  tells_along from to behind none = passing (TellsSoFar f moved slots lanes) moved from to behind none (λ j later inside here tell. tells_passed j tell here)

-- Of the first few lanes those that are ready are clean.
abbrev pub ReadyUnmarked : (Lane → Type 0) → List Bool → List Lane → ℕ → Type 0
ReadyUnmarked R moved lanes count = (i : ℕ) → (d : Lane) → i < length lanes → i < count → R (get_or lanes i d) → get_or moved i true ≡ false

pub unmarked_more : (R : Lane → Type 0) (moved : List Bool) (lanes : List Lane) (count : ℕ) (e : Lane) (mark : Bool) → count < length moved → (R (get_or lanes count e) → mark ≡ false)
    → ReadyUnmarked R moved lanes count → ReadyUnmarked R (set moved count mark) lanes (count + 1)
unmarked_more R moved lanes count e mark inside unmarked all i d lt before ready = elim (cases_eq i count) as (λ _. get_or (set moved count mark) i true ≡ false) [
  | inl same ↦
      let within : count < length lanes = subst (λ (k : ℕ). k < length lanes) same lt in
      let here : R (get_or lanes count e) = subst R (ap (λ (k : ℕ). get_or lanes k d) same ∙ get_or_default lanes count d e within) ready in
      ap (λ (k : ℕ). get_or (set moved count mark) k true) same ∙ get_or-set_same moved count mark true inside ∙ unmarked here
  | inr other ↦ get_or-set_other moved count i mark true other ∙ (let sooner : i < count = grind (arith, before, other) in all i d lt sooner ready)
]

-- a clean lane is passed over
pub unmarked_passed : (R : Lane → Type 0) (moved : List Bool) (lanes : List Lane) (count : ℕ) → get_or moved count true ≡ false → ReadyUnmarked R moved lanes count → ReadyUnmarked R moved lanes (count + 1)
unmarked_passed R moved lanes count here all i d lt before ready = elim (cases_eq i count) as (λ _. get_or moved i true ≡ false) [
  | inl same ↦ ap (λ (k : ℕ). get_or moved k true) same ∙ here
  | inr other ↦ let sooner : i < count = grind (arith, before, other) in all i d lt sooner ready
]

-- clean lanes are passed over
pub unmarked_along : (R : Lane → Type 0) (moved : List Bool) (lanes : List Lane) (from to : ℕ) → from ≤ to → NoneMarked moved from to → ReadyUnmarked R moved lanes from → ReadyUnmarked R moved lanes to
unmarked_along R moved lanes from to behind none =
    passing (ReadyUnmarked R moved lanes) moved from to behind none (λ j later inside here all. unmarked_passed R moved lanes j here all)

-- a lane that was looked at is clean where it is ready
pub ready_more : (R : Lane → Type 0) (moved : List Bool) (lanes : List Lane) (count : ℕ) (e : Lane) (mark : Bool) → count < length moved → (mark ≡ false → R (get_or lanes count e))
    → AllUnmoved R moved lanes → AllUnmoved R (set moved count mark) lanes
ready_more R moved lanes count e mark inside ready all i d lt unmarked = elim (cases_eq i count) as (λ _. R (get_or lanes i d)) [
  | inl same ↦
      let is : mark ≡ false = sym (ap (λ (k : ℕ). get_or (set moved count mark) k true) same ∙ get_or-set_same moved count mark true inside) ∙ unmarked in
      let within : count < length lanes = subst (λ (k : ℕ). k < length lanes) same lt in
      subst R (get_or_default lanes count e d within ∙ ap (λ (k : ℕ). get_or lanes k d) (sym same)) (ready is)
  | inr other ↦ all i d lt (sym (get_or-set_other moved count i mark true other) ∙ unmarked)
]
