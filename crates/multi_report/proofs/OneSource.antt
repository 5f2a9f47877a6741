-- One file of several, made ready or with an item used up.
use Rattle.std.proofs.Common.{◌≡◌, ℕ, ◌+◌, ◌<◌, List, length, get_or, set, Option, Some, None, refl, sym, ap, subst, arith}
use Rattle.std.specs.Option.{IfSome}
use Rattle.std.specs.List.{All}
use Rattle.std.proofs.lemmas.List.Sums.{sum_by-set}
use Rattle.trace_base.specs.declared.layout.Layout.{Layout}
use Rattle.trace_base.specs.declared.part.Part.{Part}
use Rattle.trace_outside.specs.declared.outside.File as file
use Rattle.line_holes.specs.Holes.{LineText}
use Rattle.subpage.specs.ItemData.{ItemData}
use Rattle.page_pool.specs.declared.lane.Lane.{Lane}
use Rattle.event_cursor.specs.Standing.{Stands, most_left}
use Rattle.event_cursor.specs.Stepping.{IsStepped}
use Rattle.time_merge.specs.LaneRows.{HasLayout, IsReady, rows_of}
use Rattle.time_merge.specs.LaneSteps.{IsLaneStep}
use Rattle.time_merge.specs.Loading.{LoadsLanes}
use Rattle.time_merge.specs.declared.readiness.Readiness.{Readiness}
use Rattle.time_merge.specs.declared.readiness.Readiness.TheVariants.{Ready}
use Rattle.time_merge.proofs.PartReads.{all_reading_in, none_reading, stepping_unread}
use Rattle.multi_report.specs.Order.{ShownFile}
use Rattle.multi_report.specs.Sources.{SourceView, IsKnown, IsReadied, Keeps, bytes_of}
use Rattle.multi_report.specs.Nexts.{IsLaneStepped}

module _ (name : List ℕ) (cpus : ℕ) (text : ℕ → ItemData → LineText) where
  abbrev pub made : Layout → Option (List ℕ) → ℕ → ℕ → ℕ → List Lane → Readiness → SourceView
  made layout told size faults reads lanes readiness =
      record { name = name; cpus = cpus; layout = layout; text = text; told = told; size = size; faults = faults; reads = reads; lanes = lanes; readiness = readiness }

  abbrev shown_with : Layout → List ℕ → List (ℕ × Part) → ShownFile
  shown_with layout bytes parts = record { name = name; cpus = cpus; layout = layout; bytes = bytes; parts = parts; text = text }

  module _ (layout : Layout) (size f g r q : ℕ) (lanes now : List Lane) (a b : Readiness) (layouts : (k : Layout) → All (HasLayout k) lanes → All (HasLayout k) now) where
    same_rows : (t : Option (List ℕ)) → IfSome t (λ bytes. rows_of bytes now ≡ rows_of bytes lanes)
        → IsKnown (made layout t size f r lanes a) → rows_of (bytes_of (made layout t size g q now b)) now ≡ rows_of (bytes_of (made layout t size f r lanes a)) lanes
    same_rows None h known = let never = known.told in absurd cc
    same_rows (Some bytes) h known = h

    still_known : (t : Option (List ℕ)) → IfSome t (λ bytes. All (Stands bytes) lanes → All (Stands bytes) now)
        → IsKnown (made layout t size f r lanes a) → IsKnown (made layout t size g q now b)
    still_known None h known = let never = known.told in absurd cc
    still_known (Some bytes) h known = record { told = refl; layouts = layouts layout known.layouts; stands = h known.stands }

  module _ {F : Type 0} (o : file.Ghosts F) (layout layout_now : Layout) (first last : F) (lanes now : List Lane) (a b : Readiness) (same : layout_now ≡ layout)
      (loads : LoadsLanes o first last lanes now) where
    abbrev at_first : SourceView
    at_first = made layout (o.bytes first) (o.size first) (o.faults first) (o.reads first) lanes a

    abbrev at_last : SourceView
    at_last = made layout_now (o.bytes last) (o.size last) (o.faults last) (o.reads last) now b

    -- what is so of a file at its first bytes and length is so where these are the same
    given_back : (P : SourceView → Type 0) → P (made layout (o.bytes first) (o.size first) (o.faults last) (o.reads last) now b) → P at_last
    given_back P h =
        subst (λ (l : Layout). P (made l (o.bytes last) (o.size last) (o.faults last) (o.reads last) now b)) (sym same)
        (subst (λ (n : ℕ). P (made layout (o.bytes last) n (o.faults last) (o.reads last) now b)) (sym loads.keeps.size)
        (subst (λ (t : Option (List ℕ)). P (made layout t (o.size first) (o.faults last) (o.reads last) now b)) (sym loads.keeps.bytes) h))

    -- nothing was used up while lanes were made ready
    pub keeps_made : Keeps at_first at_last
    keeps_made = given_back (Keeps at_first) (record {
      same = record {
        shown = ap (shown_with layout (bytes_of at_first)) loads.parts;
        told = refl;
        size = refl;
        faults = loads.keeps.later;
        reads = omega (arith, loads.reads, loads.unread, all_reading_in (o.size first) now);
      };
      most = loads.most;
      rows = same_rows layout (o.size first) (o.faults first) (o.faults last) (o.reads first) (o.reads last) lanes now a b loads.layouts (o.bytes first) loads.rows;
      known = still_known layout (o.size first) (o.faults first) (o.faults last) (o.reads first) (o.reads last) lanes now a b loads.layouts (o.bytes first) loads.stands;
    })

    -- and they are ready
    pub readied_made : b ≡ Ready → All IsReady now → IsReadied at_first at_last
    readied_made is ready = given_back (IsReadied at_first) (record {
      prepared = is;
      due = omega (arith, loads.reads, loads.unread, none_reading (o.size first) now ready);
    })

  stepped_with : (layout : Layout) (told : Option (List ℕ)) (size f r : ℕ) (lanes : List Lane) (i : ℕ) (d lane : Lane) (a b : Readiness) → i < length lanes
      → ((x : Lane) → IsStepped (get_or lanes i x) lane) → most_left lane + 1 ≡ most_left (get_or lanes i d)
      → IsLaneStepped (made layout told size f r lanes a) i (made layout told size f r (set lanes i lane) b)
  stepped_with layout told size f r lanes i d lane a b lt stepped most = record {
    lane = lane;
    lanes = refl;
    stepped = stepped;
    name = refl;
    cpus = refl;
    layout = refl;
    text = refl;
    told = refl;
    size = refl;
    faults = refl;
    reads = refl;
    unread = stepping_unread size lanes i d lane lt (stepped d);
    less = omega (arith, sum_by-set most_left lanes i lane d lt, most);
  }

  -- a lane used up the item that it held
  pub stepped_lane : (layout layout_now : Layout) (told : Option (List ℕ)) (size f r : ℕ) (lanes now : List Lane) (i : ℕ) (a b : Readiness) → layout_now ≡ layout → i < length lanes
      → IsLaneStep lanes i now → IsLaneStepped (made layout told size f r lanes a) i (made layout_now told size f r now b)
  stepped_lane layout layout_now told size f r lanes now i a b same lt s =
      subst (λ (l : Layout). IsLaneStepped (made layout told size f r lanes a) i (made l told size f r now b)) (sym same)
      (subst (λ (ls : List Lane). IsLaneStepped (made layout told size f r lanes a) i (made layout told size f r ls b)) (sym s.set)
      (stepped_with layout told size f r lanes i s.lane s.lane a b lt s.stepped (s.most s.lane)))
