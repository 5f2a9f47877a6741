-- Packing that stops at a lane.
use Rattle.std.proofs.Common.{◌≡◌, ℕ, ◌+◌, ◌-◌, ◌<◌, ◌≤◌, List, [], ◌∷◌, length, get_or, set, take, drop, Result, Ok, Err, sym, ap, ◌∙◌, arith}
use Rattle.std.proofs.lemmas.List.{drop-set-lt, ext_get_or, get_or-drop, get_or-map, get_or_default, length-drop, length-map, length-set, take-map, take-set}
use Rattle.trace_base.specs.declared.layout.Layout.{Layout}
use Rattle.trace_base.specs.declared.part.Part.{Part}
use Rattle.subpage.specs.CutPlaces.{place_at}
use Rattle.subpage.specs.declared.cut_place.CutPlace.{CutPlace}
use Rattle.page_pool.specs.declared.lane.Lane.{Lane}
use Rattle.page_pool.specs.declared.cursor.LaneState.{LaneState}
use Rattle.time_merge.specs.declared.ending.End.{End}
use Rattle.time_merge.specs.declared.ending.End.TheVariants as code
use Rattle.time_merge.specs.declared.ending.IoFault.{IoFault}
use Rattle.split_passes.specs.AllAgain.{StoppedAt, TellsHeld, TellsStop}
use Rattle.split_passes.specs.Reads.{numbers_of}

abbrev numbers : Lane → Layout × Part × LaneState × ℕ
numbers lane = (lane.layout, lane.part, lane.cursor.state, lane.cursor.next)

front_numbers : (first lanes : List Lane) (i : ℕ) → numbers_of lanes ≡ numbers_of first → numbers_of (take i lanes) ≡ numbers_of (take i first)
front_numbers first lanes i same = sym (take-map numbers i lanes) ∙ ap (take i) same ∙ take-map numbers i first

rest_still : (first lanes : List Lane) (n : ℕ) (d : Lane) → length lanes ≡ length first → ((j : ℕ) (d : Lane) → n ≤ j → get_or lanes j d ≡ get_or first j d) → drop n lanes ≡ drop n first
rest_still first lanes n d long still =
    ext_get_or d (drop n lanes) (drop n first) (length-drop n lanes ∙ ap (λ (m : ℕ). m - n) long ∙ sym (length-drop n first))
    (λ j lt. get_or-drop n lanes j d ∙ still (n + j) d (omega arith) ∙ sym (get_or-drop n first j d))

-- the first i lanes were packed, and the next one was not
pub stopped_at : (first lanes : List Lane) (i : ℕ) (now a b : Lane) → i < length lanes → length lanes ≡ length first → ((j : ℕ) (d : Lane) → i ≤ j → get_or lanes j d ≡ get_or first j d) → numbers_of lanes ≡ numbers_of first
    → StoppedAt first (set lanes i now) (get_or (set lanes i now) i a).cpu (get_or (set lanes i now) i b).cursor.held
stopped_at first lanes i now a b lt long still same =
    let later = set lanes i now in
    let inside : i < length later = omega (arith, lt, length-set lanes i now) in
    record {
      at = i;
      inside = inside;
      holds = λ d. (ap (λ (lane : Lane). lane.cpu) (get_or_default later i d a inside), ap (λ (lane : Lane). lane.cursor.held) (get_or_default later i d b inside));
      packed = ap numbers_of (take-set lanes i now) ∙ front_numbers first lanes i same;
      rest = drop-set-lt (i + 1) lanes i now (omega arith) ∙ rest_still first lanes (i + 1) now long (λ j d le. still j d (omega (arith, le)));
    }

abbrev held_in : Lane → CutPlace
held_in lane = place_at lane.cpu lane.cursor.held

-- the one at which packing stopped is one that a lane holds
pub tells_held : (before now : List Lane) (end : Result End IoFault) → TellsStop before now end → TellsHeld now end
tells_held before now (Ok code.Done) h = tt
tells_held before [] (Ok (code.Malformed cut)) h = absurd (omega (arith, h.inside))
tells_held before (a ∷ lanes) (Ok (code.Malformed cut)) h =
    let now : List Lane = a ∷ lanes in
    let holds = h.holds a in (
      h.at,
      omega (arith, h.inside, length-map now held_in),
      get_or-map held_in now h.at a cut h.inside ∙ ap (λ (n : ℕ). place_at n (get_or now h.at a).cursor.held) holds.0 ∙ ap (place_at cut.cpu) holds.1,
    )
tells_held before now (Err fault) h = tt
