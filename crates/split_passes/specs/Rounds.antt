-- What a piece takes lane by lane: the items of all lanes up to a horizon, a key up to which each lane holds all that it has.
use Rattle.std.specs.Prelude.{◌≡◌, ℕ, ◌+◌, ◌*◌, ◌^◌, ◌<◌, ◌≤◌, ◌⊎◌, All, Bool, true, false, List, [], ◌∷◌, ◌++◌, length, slice_index_or, slice_set, sum_by, IfSome, Option, Some, None}
use Rattle.trace_base.specs.declared.layout.Layout.{Layout}
use Rattle.subpage.specs.ItemData.{ItemData, item_time}
use Rattle.subpage.specs.Arrangement.{Keyed}
use Rattle.subpage.specs.Marks.{items_from}
use Rattle.subpage.specs.declared.mark.Mark.{Mark}
use Rattle.page_pool.specs.declared.lane.Lane.{Lane}
use Rattle.page_pool.specs.declared.cursor.LaneState.{LaneState}
use Rattle.page_pool.specs.declared.cursor.LaneState.TheVariants.{Fresh, Held, Ended, Malformed}
use Rattle.event_cursor.specs.Keys.{first_of, key_behind}
use Rattle.event_cursor.specs.Standing.{held_left, keyed_held}
use Rattle.event_cursor.specs.Stepping.{IsStepped, IsSteppedOver}
use Rattle.time_merge.specs.LaneRows.{IsReady, next_of}
use Rattle.time_merge.specs.Rows.{NotBefore}
use Rattle.time_merge.specs.Turns.{keyed_used}
use Rattle.word_values.specs.declared.moment.Moment.{Moment}
use Rattle.split_pieces.specs.declared.gauge.Gauge.{Gauge}
use Rattle.split_pieces.specs.Allowing.{after_events, IsEventUpTo, TakesItems}
use Rattle.split_pieces.specs.Pieces.{event_item}
use Rattle.split_passes.specs.declared.rounds.Reach.{Reach}
use Rattle.split_passes.specs.declared.tally.Tally.{Tally}
use Rattle.split_passes.specs.Choices.{past_key}
use Rattle.split_passes.specs.Takings.{HasRun, IsTurnTaken}
use Rattle.split_passes.specs.Tallies.{IsTally}

-- HOW FAR

-- the first item at a place is later
pub record HasLater (layout : Layout) (page : List ℕ) (mark : Mark) (until : ℕ) : Type 0 where
  pub item : ItemData
  pub rest : List ItemData
  pub items : items_from layout page mark ≡ item ∷ rest
  pub later : until < item_time item

abbrev pub IsEventItem : ItemData → Type 0
IsEventItem x = event_item x ≡ true

-- An item with a later key is held, after at most so many others, all of them events.
pub record HoldsLater (until most : ℕ) (lane : Lane) : Type 0 where
  pub front : List ItemData
  pub item : ItemData
  pub rest : List ItemData
  pub held : held_left lane ≡ front ++ item ∷ rest
  pub few : length front ≤ most
  pub events : All IsEventItem front
  pub later : until < key_behind lane.cursor.high item

-- what comes next of a lane once its items up to this key are taken is known without a look at its next sub-buffer
abbrev pub ReachesPastIn : LaneState → ℕ → ℕ → Lane → Type 0
ReachesPastIn Fresh until most lane = ⊥
ReachesPastIn Held until most lane = HoldsLater until most lane
ReachesPastIn Ended until most lane = Unit {0}
ReachesPastIn Malformed until most lane = NotBefore (until + 2) (next_of lane)

abbrev pub ReachesPast : ℕ → ℕ → Lane → Type 0
ReachesPast until most lane = ReachesPastIn lane.cursor.state until most lane

-- WHAT IS TAKEN

-- items of a lane were used up, maybe none
abbrev pub IsUsed : List ItemData → Lane → Lane → Type 0
IsUsed xs before now = ((xs ≡ []) × (now ≡ before)) ⊎ ((0 < length xs) × IsSteppedOver xs before now)

-- whether the next item of a lane has a key up to this one
abbrev pub ComesBy : ℕ → Lane → Bool → Type 0
ComesBy until lane true = (x : Keyed) × ((first_of (keyed_held lane) ≡ Some x) × (x.key ≤ until))
ComesBy until lane false = (x : Keyed) → first_of (keyed_held lane) ≡ Some x → until < x.key

-- The next item of a lane was taken, and the tally counts it.
pub record HeadTaken (lane now : Lane) (tally tally_now : Tally) : Type 0 where
  pub stepped : IsStepped lane now
  pub tallied : (ys : List ItemData) → IsTally lane.layout tally ys → IsTally lane.layout tally_now (ys ++ stepped.first ∷ [])

-- Items of a lane with keys up to this one were taken, and the tally counts them.
pub record TakesFew (until : ℕ) (lane now : Lane) (tally tally_now : Tally) (xs : List ItemData) : Type 0 where
  pub used : IsUsed xs lane now
  pub up_to : All (λ x. x.key ≤ until) (keyed_used lane xs)
  pub tallied : (ys : List ItemData) → IsTally lane.layout tally ys → IsTally lane.layout tally_now (ys ++ xs)
  pub idle : xs ≡ [] → tally_now ≡ tally

-- at least one
abbrev pub IsSomeTaken : ℕ → Lane → Lane → Tally → Tally → Type 0
IsSomeTaken until lane now tally tally_now =
    (xs : List ItemData) × ((0 < length xs) × TakesFew until lane now tally tally_now xs)

-- All of them were taken, at most so many events, and what comes next of the lane is later.
pub record TakesUpTo (until most : ℕ) (lane now : Lane) (tally tally_now : Tally) (xs : List ItemData) : Type 0 where
  pub few : TakesFew until lane now tally tally_now xs
  pub events : All IsEventItem xs
  pub long : length xs ≤ most
  pub ready : IsReady now
  pub later : NotBefore (until + 2) (next_of now)

abbrev pub IsLaneTaken : ℕ → ℕ → Lane → Lane → Tally → Tally → ℕ → Type 0
IsLaneTaken until most lane now tally tally_now count =
    (xs : List ItemData) × (TakesUpTo until most lane now tally tally_now xs × (length xs ≡ count))

-- ALL LANES

-- How far a round goes: each lane holds all its items up to there, the piece takes these whatever they are, and none is past the end.
pub record IsReach (stop : Option Moment) (gauge : Gauge) (lanes : List Lane) (reach : Reach) : Type 0 where
  pub reaches : (i : ℕ) (d : Lane) → i < length lanes → ReachesPast reach.until reach.most (slice_index_or lanes i d)
  pub takes : (xs : List Keyed) → All (IsEventUpTo reach.until) xs → length xs ≤ length lanes * reach.most
      → TakesItems gauge (after_events gauge (length xs)) xs
  pub inside : (key : ℕ) → key ≤ reach.until → past_key stop key ≡ false
  pub few : length lanes * reach.most < 2 ^ 64
  pub run : (d : Lane) → IfSome reach.run (HasRun (slice_index_or lanes reach.lane d))

-- what a round goes on: the gauge, lanes, and their tallies
pub record Counts : Type 0 where
  pub gauge : Gauge
  pub lanes : List Lane
  pub tallies : List Tally

-- All items of all lanes up to a horizon were taken.
pub record RoundTaken (stop : Option Moment) (before now : Counts) : Type 0 where
  pub until : ℕ
  pub most : ℕ
  pub lists : List (List ItemData)
  pub lanes_long : length now.lanes ≡ length before.lanes
  pub tallies_long : length now.tallies ≡ length before.tallies
  pub each : (i : ℕ) (d : Lane) (t : Tally) → i < length before.lanes
      → TakesUpTo until most (slice_index_or before.lanes i d) (slice_index_or now.lanes i d)
      (slice_index_or before.tallies i t) (slice_index_or now.tallies i t) (slice_index_or lists i [])
  pub lists_long : length lists ≡ length before.lanes
  pub takes : (xs : List Keyed) → All (IsEventUpTo until) xs → length xs ≡ sum_by length lists → TakesItems before.gauge now.gauge xs
  pub inside : (key : ℕ) → key ≤ until → past_key stop key ≡ false

-- so many items, or nothing, where no horizon was found
abbrev pub IsRoundTaken : Option Moment → Counts → Counts → Option ℕ → Type 0
IsRoundTaken stop before now None = now ≡ before
IsRoundTaken stop before now (Some count) = (taken : RoundTaken stop before now) × (count ≡ sum_by length taken.lists)

abbrev pub IsRoundTried : Option Moment → Counts → Counts → Bool → Type 0
IsRoundTried stop before now true = RoundTaken stop before now
IsRoundTried stop before now false = now ≡ before

-- a turn of one lane was taken, or a round, after which no lane is known to be the only one that moved
abbrev pub IsMoreTaken : Option Moment → Counts → Counts → ℕ → Option ℕ → Type 0
IsMoreTaken stop before now i (Some k) =
    (k ≡ i) × ((tally : Tally) × ((now.tallies ≡ slice_set before.tallies i tally) × ((d : Lane) (t : Tally)
    → IsTurnTaken stop (record { gauge = before.gauge; tally = slice_index_or before.tallies i t })
    (record { gauge = now.gauge; tally = tally }) before.lanes i d now.lanes)))
IsMoreTaken stop before now i None = RoundTaken stop before now
