-- One round, step by step: lanes are loaded, formatted and printed.
use Rattle.std.proofs.Common.{◌≡◌, ◌≢◌, ℕ, ◌+◌, ◌<◌, ◌≤◌, List, [], ◌∷◌, ◌++◌, length, map, get_or, take, drop, Option, Some, None, Ok, refl, sym, ap, subst, ◌∙◌, arith}
use Rattle.std.specs.List.{All, count_by}
use Rattle.std.specs.Option.{IfSome}
use Rattle.std.proofs.lemmas.List.{append-nil}
use Rattle.std.proofs.lemmas.List.Elements.{All-get_or, All-weaker}
use Rattle.trace_base.specs.declared.layout.Layout.{Layout}
use Rattle.trace_base.specs.declared.part.Part.{Part}
use Rattle.trace_outside.specs.Writing.{Gained, GainedPrefix}
use Rattle.trace_outside.proofs.PendingLemmas.{prefix_longer}
use Rattle.subpage.specs.ItemData.{ItemData}
use Rattle.subpage.specs.Arrangement.{Keyed, CpusRise}
use Rattle.subpage.specs.Cut.{Cut, cut_of}
use Rattle.subpage.specs.CutPlaces.{place_at}
use Rattle.line_holes.specs.Holes.{LineText}
use Rattle.page_pool.specs.Lines.{Lines}
use Rattle.page_pool.specs.declared.cursor.Cursor.{Cursor}
use Rattle.page_pool.specs.declared.cursor.LaneState.{LaneState}
use Rattle.page_pool.specs.declared.cursor.LaneState.TheVariants.{Fresh, Held, Ended, Malformed}
use Rattle.page_pool.specs.declared.lane.Lane.{Lane}
use Rattle.page_pool.specs.Keeping.{KeepsLane, loading}
use Rattle.event_cursor.specs.Loading.{KeepsLeft}
use Rattle.event_cursor.specs.Standing.{Stands, held_left}
use Rattle.event_cursor.specs.Loading.{IsReadied}
use Rattle.tournament_tree.specs.Least.{from_time}
use Rattle.tournament_tree.proofs.Ranks.{never_empty}
use Rattle.time_merge.specs.declared.ending.End.{End}
use Rattle.time_merge.specs.declared.ending.End.TheVariants as ending
use Rattle.time_merge.specs.declared.horizons.Horizon.{Horizon}
use Rattle.time_merge.specs.declared.horizons.Horizon.TheVariants as code
use Rattle.time_merge.specs.Horizons.{IsHorizon, IsLeastLane, high_in}
use Rattle.time_merge.specs.LaneRows.{HasLayout, IsReady, IsReadyIn, parts_of, row_of}
use Rattle.time_merge.specs.Rows.{Row, coming}
use Rattle.time_merge.specs.Rounds.{row_in}
use Rattle.time_merge.proofs.LaneLaws.{same_row}
use Rattle.cpu_workers.specs.Formats.{IsFormatted, IsSorted}
use Rattle.cpu_workers.proofs.Placing.{stands_region}
use Rattle.round_print.specs.Prints.{CpuLine, KeysRise, key_in, cpu_in, printed, filled_text, last_of}
use Rattle.round_print.proofs.FilledTexts.{text_in_turn}
use Rattle.round_print.specs.Rounds.{AreRising, IsPrinted}
use Rattle.report_rounds.specs.Between.{IsBetween, all_work, work_of}
use Rattle.report_rounds.specs.Due.{is_of}
use Rattle.report_rounds.specs.Ends.{EndsThere, IsStop}
use Rattle.report_rounds.specs.Lines.{waiting_of, waiting_row, waiting_rows, left_lines}
use Rattle.report_rounds.specs.Turns.{HasPrinted, IsEnding, IsFurther, IsTurned, RoundState}
use Rattle.report_rounds.specs.declared.ends.Outcome.{Outcome}
use Rattle.report_rounds.specs.declared.ends.Outcome.TheVariants as round
use Rattle.report_rounds.proofs.Between.{loaded_between, formatted_between, printed_between}
use Rattle.report_rounds.proofs.Ending.{IsHorizonAt, at_start, at_key, cut_of_waiting, none_later, stopped}
use Rattle.report_rounds.proofs.Horizons.{IsAround, around_least, ended_cuts, none_after, parted}
use Rattle.report_rounds.proofs.LeastPlace.{Follows}
use Rattle.report_rounds.proofs.LineCounts.{printed_count, printed_waiting}
use Rattle.report_rounds.proofs.LineRows.{formatted_row}
use Rattle.report_rounds.proofs.Pairs.{Related, all_on, map_on, parts_on, related_on, some_lane, sum_less, sum_on}
use Rattle.report_rounds.proofs.Progress.{work_formatted, work_less, work_loaded, work_printed}
use Rattle.report_rounds.proofs.RoundsPrinted.{after, left_after, printed_left, same_lane, wait_with}

-- Lanes that were made ready, and then formatted.
pub record IsFormed (text : ℕ → ItemData → LineText) (told : Option (List ℕ)) (first loaded formed : List Lane) : Type 0 where
  pub long_loaded : length loaded ≡ length first
  pub long_formed : length formed ≡ length loaded
  pub load : Related (IsReadied told) first loaded
  pub ready : All IsReady loaded
  pub format : Related (IsFormatted text) loaded formed

module _ (text : ℕ → ItemData → LineText) (l : Layout) (told : Option (List ℕ)) (first loaded formed : List Lane) (f : IsFormed text told first loaded formed) where
  loaded_all : All (IsBetween text l) first → All (IsBetween text l) loaded
  loaded_all all = λ i d lt.
      let inside : i < length first = omega (arith, lt, f.long_loaded) in
      loaded_between text l told (get_or first i d) (get_or loaded i d) (f.load i d inside) (all i d inside)

  pub formed_all : All (IsBetween text l) first → All (IsBetween text l) formed
  formed_all all = all_on (IsFormatted text) (IsBetween text l) (IsBetween text l) loaded formed f.long_formed f.format (formatted_between text l) (loaded_all all)

  pub formed_layouts : All (IsBetween text l) first → All (HasLayout l) formed
  formed_layouts all = All-weaker (IsBetween text l) (HasLayout l) (λ a b. b.layout_is) formed (formed_all all)

  formed_rises : All (IsBetween text l) first → All KeysRise formed
  formed_rises all = All-weaker (IsBetween text l) KeysRise (λ a b. b.sorted.rises) formed (formed_all all)

  pub formed_parts : parts_of formed ≡ parts_of first
  formed_parts =
      parts_on (IsFormatted text) loaded formed f.long_formed f.format (λ a b g. g.keeps.cpu) (λ a b g. g.keeps.part)
      ∙ parts_on (IsReadied told) first loaded f.long_loaded f.load (λ a b g. g.place.cpu) (λ a b g. g.place.part)

  pub formed_rise : CpusRise (parts_of first) → CpusRise (parts_of formed)
  formed_rise rise = subst (λ (ps : List (ℕ × Part)). CpusRise ps) (sym formed_parts) rise

  pub formed_rising : CpusRise (parts_of first) → All (IsBetween text l) first → AreRising formed
  formed_rising rise all = record { cpus = formed_rise rise; keys = formed_rises all }

  module _ (h : Horizon) (now : List Lane) (long : length now ≡ length formed) (print : Related (IsPrinted h) formed now) where
    pub now_all : All (IsBetween text l) first → All (IsBetween text l) now
    now_all all = all_on (IsPrinted h) (IsBetween text l) (IsBetween text l) formed now long print (printed_between text l h) (formed_all all)

    pub now_parts : parts_of now ≡ parts_of first
    now_parts = parts_on (IsPrinted h) formed now long print (λ a b p. p.keeps.lane.cpu) (λ a b p. p.keeps.lane.part) ∙ formed_parts

    -- formatted and then printed
    abbrev IsDone : Lane → Lane → Type 0
    IsDone a c = (b : Lane) × (IsFormatted text a b × IsPrinted h b c)

    done : Related IsDone loaded now
    done = related_on (IsFormatted text) (IsPrinted h) IsDone loaded formed now f.long_formed f.format print (λ a b c g p. (b, (g, p)))

    work_done : (a c : Lane) → IsDone a c → work_of c ≤ work_of a
    work_done a c d = omega (arith, work_formatted text l a d.0 d.1.0, work_printed text l h d.0 c d.1.1)

    loaded_less : all_work loaded ≤ all_work first
    loaded_less = sum_on (IsReadied told) work_of first loaded f.long_loaded f.load (work_loaded text l told)

    -- of the horizon's lane, where it does not stand before a malformed sub-buffer
    module _ (high : Option ℕ) (cpu : ℕ) (at : IsHorizonAt h high cpu) (least : IsLeastLane formed high cpu) (rise : CpusRise (parts_of formed)) (all : All (IsBetween text l) first)
        (sound : (d : Lane) → (get_or now least.i d).cursor.state ≢ Malformed) where
      inside : least.i < length loaded
      inside = omega (arith, least.inside, f.long_formed)

      some_held : (d : Lane) (s : LaneState) → (get_or loaded least.i d).cursor.state ≡ s → 0 < length (held_left (get_or loaded least.i d))
      some_held d s e = of_state s (subst (λ (t : LaneState). IsReadyIn t (held_left a)) e (f.ready least.i d inside))
          (subst (λ (t : LaneState). high_in t b.cursor.high ≡ from_time high) (format.keeps.state ∙ e) there.here)
          (λ bad. sound d (ap (λ (c : Cursor). c.state) print_i.keeps.lane.cursor ∙ format.keeps.state ∙ e ∙ bad))
        where
          a : Lane
          a = get_or loaded least.i d

          b : Lane
          b = get_or formed least.i d

          format : IsFormatted text a b
          format = f.format least.i d inside

          print_i : IsPrinted h b (get_or now least.i d)
          print_i = print least.i d least.inside

          there : IsAround formed high cpu least.i (take least.i formed) b (drop (least.i + 1) formed)
          there = around_least formed d high cpu least rise

          of_state : (s : LaneState) → IsReadyIn s (held_left a) → high_in s b.cursor.high ≡ from_time high → (s ≡ Malformed → ⊥) → 0 < length (held_left a)
          of_state Fresh ready here sound = absurd ready
          of_state Held ready here sound = ready
          of_state Ended ready here sound = absurd (never_empty high (sym here))
          of_state Malformed ready here sound = absurd (sound refl)

      one_less : (d : Lane) → work_of (get_or now least.i d) < work_of (get_or loaded least.i d)
      one_less d =
          let a : Lane = get_or loaded least.i d in
          let b : Lane = get_or formed least.i d in
          let there = around_least formed d high cpu least rise in
          let between : IsBetween text l a = All-get_or (IsBetween text l) loaded least.i d inside (loaded_all all) in
          let formed_here : IsBetween text l b = All-get_or (IsBetween text l) formed least.i d least.inside (formed_all all) in
          work_less text l h a b (get_or now least.i d) between (some_held d a.cursor.state refl) (f.format least.i d inside) (print least.i d least.inside)
          (none_later h high cpu b at formed_here.sorted there.own there.here)

      less_at : all_work now < all_work first
      less_at =
          let less : all_work now < all_work loaded = sum_less IsDone work_of loaded now least.i (long ∙ f.long_formed) done work_done inside one_less in
          omega (arith, less, loaded_less)

  -- items were used up or lines were printed, unless the rounds end
  pub now_less : (h : Horizon) (now : List Lane) (long : length now ≡ length formed) → Related (IsPrinted h) formed now → (outcome : Outcome) → (is : IsHorizon formed h) → Follows formed now h is outcome
      → CpusRise (parts_of first) → All (IsBetween text l) first → outcome ≡ round.GoesOn → all_work now < all_work first
  now_less h now long print (round.Ends end) is stop rise all goes = absurd cc
  now_less code.All now long print round.GoesOn is stop rise all goes = absurd cc
  now_less (code.Start c) now long print round.GoesOn is stop rise all goes = less_at (code.Start c) now long print None c (at_start c) is (formed_rise rise) all stop
  now_less (code.To k c) now long print round.GoesOn is stop rise all goes = less_at (code.To k c) now long print (Some k) c (at_key k c) is (formed_rise rise) all stop

abbrev pub round_state : List Lane → Option ℕ → Option (List ℕ) → RoundState
round_state lanes last written = record { lanes = lanes; last = last; written = written }

abbrev cut_made : Option ℕ → ℕ → ℕ → Cut
cut_made key cpu page = record { key = key; cpu = cpu; page = page }

-- over a file that tells its bytes
module _ (text : ℕ → ItemData → LineText) (l : Layout) (file : List ℕ) where
  rows_are : (lanes : List Lane) → waiting_rows text file lanes ≡ map (waiting_row text file) lanes
  rows_are [] = refl
  rows_are (a ∷ lanes) = ap (λ (rs : List (Row CpuLine)). waiting_row text file a ∷ rs) (rows_are lanes)

  left_on : (xs ys : List Lane) → map (waiting_row text file) ys ≡ map (waiting_row text file) xs → left_lines text file ys ≡ left_lines text file xs
  unfolding left_lines
  left_on xs ys e = ap (coming key_in cpu_in) (rows_are ys ∙ e ∙ sym (rows_are xs))

  pub loaded_row : (a b : Lane) → KeepsLane loading a b → KeepsLeft file a b → waiting_row text file b ≡ waiting_row text file a
  loaded_row a b p k =
      ap (λ (r : Row Keyed). row_in (wait_with text b.cpu b.region.kept r)) (same_row file a b p k)
      ∙ ap (λ (c : ℕ). row_in (wait_with text c b.region.kept (row_of file a))) p.cpu
      ∙ ap (λ (r : Lines). row_in (wait_with text a.cpu r.kept (row_of file a))) p.region

  module _ (first loaded formed : List Lane) (f : IsFormed text (Some file) first loaded formed) (stands : All (Stands file) first) where
    formed_left : left_lines text file formed ≡ left_lines text file first
    formed_left =
        left_on loaded formed (map_on (IsFormatted text) (waiting_row text file) (waiting_row text file) loaded formed f.long_formed f.format (λ a b g. formatted_row text l file a b g))
        ∙ left_on first loaded (map_on (IsReadied (Some file)) (waiting_row text file) (waiting_row text file) first loaded f.long_loaded f.load (λ a b g. loaded_row a b g.place g.left))

    formed_stands : All (Stands file) formed
    formed_stands =
        all_on (IsFormatted text) (Stands file) (Stands file) loaded formed f.long_formed f.format (λ a b g s. g.stands file s)
        (all_on (IsReadied (Some file)) (Stands file) (Stands file) first loaded f.long_loaded f.load (λ a b g s. g.stands s) stands)

    pub now_stands : (h : Horizon) (now : List Lane) → length now ≡ length formed → Related (IsPrinted h) formed now → All (Stands file) now
    now_stands h now long print =
        all_on (IsPrinted h) (Stands file) (Stands file) formed now long print (λ a b p s. subst (Stands file) (sym (same_lane a b p.keeps)) (stands_region file a b.region a.in_order s)) formed_stands

    module _ (h : Horizon) (is : IsHorizon formed h) (rise : CpusRise (parts_of first)) (all : All (IsBetween text l) first) where
      formed_parted : left_lines text file first ≡ printed h formed ++ left_after text l file h formed
      formed_parted = sym formed_left
          ∙ parted l file text h formed is (formed_rise text l (Some file) first loaded formed f rise) formed_stands (formed_rises text l (Some file) first loaded formed f all)

      -- a write failed
      pub turned_failed : (last : Option ℕ) (old new : Option (List ℕ)) → GainedPrefix old new (filled_text last (printed h formed)) → GainedPrefix old new (filled_text last (left_lines text file first))
      turned_failed last old new gained =
          subst (λ (xs : List CpuLine). GainedPrefix old new (filled_text last xs)) (sym formed_parted)
          (subst (λ (xs : List ℕ). GainedPrefix old new xs) (sym (text_in_turn last (printed h formed) (left_after text l file h formed)))
          (prefix_longer old new (filled_text last (printed h formed)) (filled_text (last_of last (printed h formed)) (left_after text l file h formed)) gained))

      all_printed : left_after text l file h formed ≡ [] → (last : Option ℕ) (old new : Option (List ℕ)) → Gained old new (filled_text last (printed h formed)) → Gained old new (filled_text last (left_lines text file first))
      all_printed none last old new gained =
          let whole : left_lines text file first ≡ printed h formed = formed_parted ∙ ap (λ (xs : List CpuLine). printed h formed ++ xs) none ∙ append-nil (printed h formed) in
          subst (λ (xs : List CpuLine). Gained old new (filled_text last xs)) (sym whole) gained

      module _ (now : List Lane) (long : length now ≡ length formed) (print : Related (IsPrinted h) formed now) where
        -- of each lane's lines to come those that it printed are gone
        now_printed : Related (HasPrinted text file (printed h formed)) first now
        now_printed i d lt =
            let a : Lane = get_or first i d in
            let b : Lane = get_or loaded i d in
            let c : Lane = get_or formed i d in
            let loaded_lt : i < length loaded = omega (arith, lt, f.long_loaded) in
            let formed_lt : i < length formed = omega (arith, loaded_lt, f.long_formed) in
            let load : IsReadied (Some file) a b = f.load i d lt in
            let format : IsFormatted text b c = f.format i d loaded_lt in
            let p : IsPrinted h c (get_or now i d) = print i d formed_lt in
            let cpu : c.cpu ≡ a.cpu = format.keeps.cpu ∙ load.place.cpu in
            let row : waiting_row text file c ≡ waiting_row text file a = formatted_row text l file b c format ∙ loaded_row a b load.place load.left in
            record {
              cpu = p.keeps.lane.cpu ∙ cpu;
              layout = p.keeps.lane.layout ∙ format.keeps.layout ∙ load.place.layout;
              part = p.keeps.lane.part ∙ format.keeps.part ∙ load.place.part;
              lines = omega (
                arith,
                ap (λ (r : Row CpuLine). length r.items) row,
                printed_waiting h text l file c (get_or now i d) p,
                printed_count h formed i d formed_lt (formed_rise text l (Some file) first loaded formed f rise),
                ap (λ (n : ℕ). count_by (is_of n) (printed h formed)) cpu,
              );
            }

        turned_further : (last last_now : Option ℕ) (old new : Option (List ℕ)) → Gained old new (filled_text last (printed h formed)) → last_now ≡ last_of last (printed h formed)
            → IsFurther text file (round_state first last old) (round_state now last_now new)
        turned_further last last_now old new gained is_last = record {
          stands = now_stands h now long print;
          done = printed h formed;
          parted = formed_parted ∙ ap (λ (xs : List CpuLine). printed h formed ++ xs) (sym (printed_left text l file h formed now long print));
          gained = gained;
          behind = is_last;
          long = long ∙ f.long_formed ∙ f.long_loaded;
          own = now_printed;
        }

        -- at the malformed sub-buffer before which the horizon's lane stands
        turned_stop : (high : Option ℕ) (cpu : ℕ) (end : End) → IsHorizonAt h high cpu → (least : IsLeastLane formed high cpu) → ((d : Lane) → EndsThere (get_or now least.i d) end) → (last : Option ℕ) (old new : Option (List ℕ))
            → Gained old new (filled_text last (printed h formed)) → IsEnding text l file (round_state first last old) new (Ok end)
        turned_stop high cpu end at least stop last old new gained =
            let i : ℕ = least.i in
            let d : Lane = some_lane formed i least.inside in
            let lane : Lane = get_or formed i d in
            let rise_formed : CpusRise (parts_of formed) = formed_rise text l (Some file) first loaded formed f rise in
            let there = around_least formed d high cpu least rise_formed in
            let p : IsPrinted h lane (get_or now i d) = print i d least.inside in
            let ends : EndsThere (get_or now i d) end = stop d in
            let state : lane.cursor.state ≡ Malformed = ap (λ (c : Cursor). c.state) (sym p.keeps.lane.cursor) ∙ ends.state in
            let told : end ≡ ending.Malformed (place_at cpu lane.cursor.next) =
            ends.told ∙ ap (λ (n : ℕ). ending.Malformed (place_at n (get_or now i d).cursor.next)) (p.keeps.lane.cpu ∙ there.own)
            ∙ ap (λ (c : Cursor). ending.Malformed (place_at cpu c.next)) p.keeps.lane.cursor in
            let sorted : All IsSorted formed = All-weaker (IsBetween text l) IsSorted (λ a b. b.sorted) formed (formed_all text l (Some file) first loaded formed f all) in
            let law = stopped text l file h high cpu at formed i (take i formed) lane (drop (i + 1) formed) there rise_formed
            (subst (All (Stands file)) there.split formed_stands) (subst (All IsSorted) there.split sorted) state in
            let cut : cut_of l file (parts_of first) ≡ Some (cut_made high cpu lane.cursor.next) =
            ap (cut_of l file) (sym (formed_parts text l (Some file) first loaded formed f)) ∙ sym (cut_of_waiting l file (after text l file h) (λ a. refl) formed (formed_layouts text l (Some file) first loaded formed f all)) ∙ law.0 in
            subst (λ (e : End). IsEnding text l file (round_state first last old) new (Ok e)) (sym told) (all_printed law.1 last old new gained, (high, cut))

        turned_at : (high : Option ℕ) (cpu : ℕ) → IsHorizonAt h high cpu → (least : IsLeastLane formed high cpu) → (outcome : Outcome) → ((d : Lane) → IsStop (get_or now least.i d) outcome) → (last last_now : Option ℕ) (old new : Option (List ℕ))
            → Gained old new (filled_text last (printed h formed)) → last_now ≡ last_of last (printed h formed) → IsTurned text l file (round_state first last old) (round_state now last_now new) (Ok outcome)
        turned_at high cpu at least round.GoesOn stop last last_now old new gained is_last = turned_further last last_now old new gained is_last
        turned_at high cpu at least (round.Ends end) stop last last_now old new gained is_last = turned_stop high cpu end at least stop last old new gained

  cut_none : (first loaded formed : List Lane) → IsFormed text (Some file) first loaded formed → All (Stands file) first → All (IsBetween text l) first → IsHorizon formed code.All → cut_of l file (parts_of first) ≡ None
  cut_none first loaded formed f stands all is =
      ap (cut_of l file) (sym (formed_parts text l (Some file) first loaded formed f)) ∙ sym (cut_of_waiting l file (waiting_of text file) (λ a. refl) formed (formed_layouts text l (Some file) first loaded formed f all))
      ∙ ended_cuts l file text formed (formed_stands first loaded formed f stands) is

  -- what a round did whose lines were all written
  pub turned_ok : (first loaded formed : List Lane) → IsFormed text (Some file) first loaded formed → (h : Horizon) (now : List Lane) → length now ≡ length formed → Related (IsPrinted h) formed now → (outcome : Outcome)
      → (is : IsHorizon formed h) → Follows formed now h is outcome → CpusRise (parts_of first) → All (IsBetween text l) first → All (Stands file) first → (last last_now : Option ℕ) (old new : Option (List ℕ)) → Gained old new (filled_text last (printed h formed))
      → last_now ≡ last_of last (printed h formed) → IsTurned text l file (round_state first last old) (round_state now last_now new) (Ok outcome)
  turned_ok first loaded formed f code.All now long print outcome is stop rise all stands last last_now old new gained is_last =
      let none : left_after text l file code.All formed ≡ [] = none_after l file text formed (formed_stands first loaded formed f stands) is in
      subst (λ (o : Outcome). IsTurned text l file (round_state first last old) (round_state now last_now new) (Ok o)) (sym stop)
      (all_printed first loaded formed f stands code.All is rise all none last old new gained, cut_none first loaded formed f stands all is)
  turned_ok first loaded formed f (code.Start c) now long print outcome is stop rise all stands last last_now old new gained is_last =
      turned_at first loaded formed f stands (code.Start c) is rise all now long print None c (at_start c) is outcome stop last last_now old new gained is_last
  turned_ok first loaded formed f (code.To k c) now long print outcome is stop rise all stands last last_now old new gained is_last =
      turned_at first loaded formed f stands (code.To k c) is rise all now long print (Some k) c (at_key k c) is outcome stop last last_now old new gained is_last

module _ (text : ℕ → ItemData → LineText) (l : Layout) where
  pub turned_told : (told : Option (List ℕ)) (first loaded formed : List Lane) → IsFormed text told first loaded formed → (h : Horizon) (now : List Lane) → length now ≡ length formed → Related (IsPrinted h) formed now
      → (outcome : Outcome) → (is : IsHorizon formed h) → Follows formed now h is outcome → CpusRise (parts_of first) → All (IsBetween text l) first → (last last_now : Option ℕ) (old new : Option (List ℕ)) → Gained old new (filled_text last (printed h formed))
      → last_now ≡ last_of last (printed h formed) → IfSome told (λ file. All (Stands file) first → IsTurned text l file (round_state first last old) (round_state now last_now new) (Ok outcome))
  turned_told None first loaded formed f h now long print outcome is stop rise all last last_now old new gained is_last = tt
  turned_told (Some file) first loaded formed f h now long print outcome is stop rise all last last_now old new gained is_last = λ stands.
      turned_ok text l file first loaded formed f h now long print outcome is stop rise all stands last last_now old new gained is_last

  pub failed_told : (told : Option (List ℕ)) (first loaded formed : List Lane) → IsFormed text told first loaded formed → (h : Horizon) → IsHorizon formed h → CpusRise (parts_of first) → All (IsBetween text l) first
      → (last : Option ℕ) (old new : Option (List ℕ)) → GainedPrefix old new (filled_text last (printed h formed)) → IfSome told (λ file. All (Stands file) first → GainedPrefix old new (filled_text last (left_lines text file first)))
  failed_told None first loaded formed f h is rise all last old new gained = tt
  failed_told (Some file) first loaded formed f h is rise all last old new gained = λ stands. turned_failed text l file first loaded formed f stands h is rise all last old new gained
