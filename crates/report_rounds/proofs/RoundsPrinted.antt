-- What is to come, once the lines up to a horizon are printed.
use Rattle.std.proofs.Common.{◌≡◌, ℕ, List, [], ◌∷◌, ◌++◌, length, get_or, map, Option, Some, refl, sym, ap, ◌∙◌, inl, inr}
use Rattle.std.specs.Prelude.{if◌then◌else◌}
use Rattle.std.specs.List.{All, flat_map}
use Rattle.std.proofs.lemmas.Bool.{cases_Bool}
use Rattle.std.proofs.lemmas.List.Elements.{All-map}
use Rattle.trace_base.specs.declared.layout.Layout.{Layout}
use Rattle.subpage.specs.ItemData.{ItemData}
use Rattle.subpage.specs.Arrangement.{Keyed, key_of, cpu_of, IsRising, by_key, CpusRise}
use Rattle.subpage.specs.Cut.{Cut}
use Rattle.line_holes.specs.Holes.{LineText}
use Rattle.page_pool.specs.Lines.{Line, Lines}
use Rattle.page_pool.specs.declared.lane.Lane.{Lane}
use Rattle.page_pool.proofs.Keeping.{one_lane}
use Rattle.event_cursor.specs.Standing.{Stands, left_of}
use Rattle.time_merge.specs.declared.horizons.Horizon.{Horizon}
use Rattle.time_merge.specs.declared.horizons.Horizon.TheVariants as code
use Rattle.time_merge.specs.Rows.{Row, IsFrom, up_to_key, Rise, cpus, coming}
use Rattle.time_merge.specs.Rounds.{Waiting, IsWaiting, rows_in, due, not_due, behind}
use Rattle.time_merge.specs.Known.{IsKnownTo}
use Rattle.time_merge.specs.LaneRows.{row_of, parts_of}
use Rattle.time_merge.proofs.LaneLaws.{is_row}
use Rattle.time_merge.proofs.RoundLaws.{round}
use Rattle.round_print.specs.Prints.{CpuLine, key_in, cpu_in, with_cpu, due_lines, later_lines, due_of, later_of, printed, KeysRise, line_key}
use Rattle.round_print.specs.Rounds.{IsPrinted, KeepsTidy}
use Rattle.report_rounds.specs.Lines.{shown_lines, waiting_of, waiting_rows, left_lines}
use Rattle.report_rounds.proofs.Pairs.{Related, map_on}
use Rattle.report_rounds.proofs.Shown.{all_shown}

due_same : (k c cpu : ℕ) (lines : List Line) → due key_in cpu_in k c (map (with_cpu cpu) lines) ≡ due_lines (code.To k c) cpu lines
due_same k c cpu [] = refl
due_same k c cpu (line ∷ lines) = ap (λ (ps : List CpuLine). if up_to_key (Some k) c line.key cpu then with_cpu cpu line ∷ ps else []) (due_same k c cpu lines)

not_due_same : (k c cpu : ℕ) (lines : List Line) → not_due key_in cpu_in k c (map (with_cpu cpu) lines) ≡ map (with_cpu cpu) (later_lines (code.To k c) cpu lines)
not_due_same k c cpu [] = refl
not_due_same k c cpu (line ∷ lines) = elim (cases_Bool (up_to_key (Some k) c line.key cpu)) as (λ _. not_due key_in cpu_in k c (map (with_cpu cpu) (line ∷ lines)) ≡ map (with_cpu cpu) (later_lines (code.To k c) cpu (line ∷ lines))) [
  | inl yes_due ↦ rw yes_due (not_due_same k c cpu lines)
  | inr later ↦ rw later refl
]

pub own_lines : (cpu : ℕ) (lines : List Line) → All (λ x. cpu_in x ≡ cpu) (map (with_cpu cpu) lines)
own_lines cpu lines = All-map (λ x. cpu_in x ≡ cpu) (with_cpu cpu) lines (λ i d lt. refl)

pub rising_lines : (cpu : ℕ) (lines : List Line) → IsRising line_key lines → IsRising key_in (map (with_cpu cpu) lines)
rising_lines cpu [] r = tt
rising_lines cpu (a ∷ []) r = tt
rising_lines cpu (a ∷ b ∷ lines) r = (r.0, rising_lines cpu (b ∷ lines) r.1)

-- nothing is due where a lane has no item yet
pub start_later : (c cpu : ℕ) (lines : List Line) → later_lines (code.Start c) cpu lines ≡ lines
start_later c cpu [] = refl
start_later c cpu (line ∷ lines) = refl

start_due : (c cpu : ℕ) (lines : List Line) → due_lines (code.Start c) cpu lines ≡ []
start_due c cpu [] = refl
start_due c cpu (line ∷ lines) = refl

abbrev pub wait_made : ℕ → List CpuLine → List CpuLine → Option Cut → Waiting CpuLine
wait_made cpu kept more cut = record { cpu = cpu; kept = kept; more = more; cut = cut }

abbrev pub wait_with : (ℕ → ItemData → LineText) → ℕ → List Line → Row Keyed → Waiting CpuLine
wait_with text cpu kept row = wait_made cpu (map (with_cpu cpu) kept) (shown_lines text row.items) row.cut

module _ (text : ℕ → ItemData → LineText) (l : Layout) (file : List ℕ) where
  -- what waits of a lane once its lines up to a horizon are printed
  abbrev pub after : Horizon → Lane → Waiting CpuLine
  after h lane = wait_with text lane.cpu (later_of h lane) (row_of file lane)

  abbrev pub left_after : Horizon → List Lane → List CpuLine
  left_after h lanes = coming key_in cpu_in (rows_in (map (after h) lanes))

  pub rise_waiting : (lanes : List Lane) → CpusRise (parts_of lanes) → Rise (cpus (waiting_rows text file lanes))
  rise_waiting [] r = tt
  rise_waiting (a ∷ []) r = tt
  rise_waiting (a ∷ b ∷ lanes) r = (r.0, rise_waiting (b ∷ lanes) r.1)

  module _ (k c : ℕ) where
    is_waiting : (lane : Lane) → Stands file lane → KeysRise lane → IsKnownTo file k c lane → IsWaiting key_in cpu_in k c (waiting_of text file lane)
    is_waiting lane s r known = record {
      own_kept = own_lines lane.cpu lane.region.kept;
      own_more = all_shown text (λ x. cpu_of x ≡ lane.cpu) (λ x. cpu_in x ≡ lane.cpu) (λ x e. e) (row_of file lane).items (is_row file lane s).own;
      rising = rising_lines lane.cpu lane.region.kept r;
      more = all_shown text (IsFrom key_of cpu_of k c) (IsFrom key_in cpu_in k c) (λ x f. f) (row_of file lane).items known.more;
      cut = known.cut;
    }

    all_waiting : (lanes : List Lane) → All (Stands file) lanes → All KeysRise lanes → All (IsKnownTo file k c) lanes → All (IsWaiting key_in cpu_in k c) (map (waiting_of text file) lanes)
    all_waiting lanes s r known =
        All-map (IsWaiting key_in cpu_in k c) (waiting_of text file) lanes (λ i d lt. is_waiting (get_or lanes i d) (s i d lt) (r i d lt) (known i d lt))

    printed_same : (lanes : List Lane) → flat_map (λ w. due key_in cpu_in k c w.kept) (map (waiting_of text file) lanes) ≡ flat_map (due_of (code.To k c)) lanes
    printed_same [] = refl
    printed_same (a ∷ lanes) =
        ap (λ (ps : List CpuLine). ps ++ flat_map (λ w. due key_in cpu_in k c w.kept) (map (waiting_of text file) lanes)) (due_same k c a.cpu a.region.kept)
        ∙ ap (λ (ps : List CpuLine). due_of (code.To k c) a ++ ps) (printed_same lanes)

    behind_after : (lanes : List Lane) → map (behind key_in cpu_in k c) (map (waiting_of text file) lanes) ≡ map (after (code.To k c)) lanes
    behind_after [] = refl
    behind_after (a ∷ lanes) =
        ap (λ (ps : List CpuLine). wait_made a.cpu ps (shown_lines text (row_of file a).items) (row_of file a).cut ∷ map (behind key_in cpu_in k c) (map (waiting_of text file) lanes)) (not_due_same k c a.cpu a.region.kept)
        ∙ ap (λ (ws : List (Waiting CpuLine)). after (code.To k c) a ∷ ws) (behind_after lanes)

    pub round_to : (lanes : List Lane) → CpusRise (parts_of lanes) → All (Stands file) lanes → All KeysRise lanes → All (IsKnownTo file k c) lanes
        → left_lines text file lanes ≡ printed (code.To k c) lanes ++ left_after (code.To k c) lanes
    unfolding left_lines printed
    round_to lanes rise stands rises known =
        let ws : List (Waiting CpuLine) = map (waiting_of text file) lanes in
        round key_in cpu_in k c ws (rise_waiting lanes rise) (all_waiting lanes stands rises known)
        ∙ ap (λ (ps : List CpuLine). by_key key_in ps ++ coming key_in cpu_in (rows_in (map (behind key_in cpu_in k c) ws))) (printed_same lanes)
        ∙ ap (λ (vs : List (Waiting CpuLine)). by_key key_in (flat_map (due_of (code.To k c)) lanes) ++ coming key_in cpu_in (rows_in vs)) (behind_after lanes)

  start_none : (c : ℕ) (lanes : List Lane) → flat_map (due_of (code.Start c)) lanes ≡ []
  start_none c [] = refl
  start_none c (a ∷ lanes) = ap (λ (ps : List CpuLine). ps ++ flat_map (due_of (code.Start c)) lanes) (start_due c a.cpu a.region.kept) ∙ start_none c lanes

  start_after : (c : ℕ) (lanes : List Lane) → map (after (code.Start c)) lanes ≡ map (waiting_of text file) lanes
  start_after c [] = refl
  start_after c (a ∷ lanes) =
      ap (λ (ls : List Line). wait_with text a.cpu ls (row_of file a) ∷ map (after (code.Start c)) lanes) (start_later c a.cpu a.region.kept)
      ∙ ap (λ (ws : List (Waiting CpuLine)). waiting_of text file a ∷ ws) (start_after c lanes)

  pub round_start : (c : ℕ) (lanes : List Lane) → left_lines text file lanes ≡ printed (code.Start c) lanes ++ left_after (code.Start c) lanes
  unfolding left_lines printed
  round_start c lanes =
      ap (λ (ws : List (Waiting CpuLine)). coming key_in cpu_in (rows_in ws)) (sym (start_after c lanes))
      ∙ ap (λ (ps : List CpuLine). by_key key_in ps ++ left_after (code.Start c) lanes) (sym (start_none c lanes))

abbrev pub with_region : Lane → Lines → Lane
with_region a r = record a { region = r }

region_row : (l : Layout) (file : List ℕ) (a : Lane) (r : Lines) → row_of file (with_region a r) ≡ row_of file a
unfolding left_of
region_row l file a r = refl

-- a lane of which nothing but the region changed
pub same_lane : (before now : Lane) → KeepsTidy before now → now ≡ with_region before now.region
same_lane before now keeps =
    one_lane now (with_region before now.region) keeps.lane.cpu keeps.lane.layout keeps.lane.part keeps.lane.cursor keeps.lane.page refl

pub same_kept_row : (l : Layout) (file : List ℕ) (before now : Lane) → KeepsTidy before now → row_of file now ≡ row_of file before
same_kept_row l file before now keeps = ap (row_of file) (same_lane before now keeps) ∙ region_row l file before now.region

module _ (text : ℕ → ItemData → LineText) (l : Layout) (file : List ℕ) where
  printed_row : (h : Horizon) (before now : Lane) → IsPrinted h before now → waiting_of text file now ≡ after text l file h before
  printed_row h before now p =
      ap (λ (r : Row Keyed). wait_with text now.cpu now.region.kept r) (same_kept_row l file before now p.keeps)
      ∙ ap (λ (c : ℕ). wait_with text c now.region.kept (row_of file before)) p.keeps.lane.cpu
      ∙ ap (λ (ls : List Line). wait_with text before.cpu ls (row_of file before)) p.kept

  pub printed_left : (h : Horizon) (lanes now : List Lane) → length now ≡ length lanes → Related (IsPrinted h) lanes now → left_lines text file now ≡ left_after text l file h lanes
  unfolding left_lines
  printed_left h lanes now same all =
      ap (λ (ws : List (Waiting CpuLine)). coming key_in cpu_in (rows_in ws)) (map_on (IsPrinted h) (waiting_of text file) (after text l file h) lanes now same all (printed_row h))
