-- What comes next of a file, taken.
use Rattle.std.proofs.Common.{◌≡◌, ℕ, ◌<◌, List, [], ◌∷◌, ◌++◌, length, get_or, set, map, Option, Some, refl, sym, ap, subst, ◌∙◌, arith, Result, Ok, Err}
use Rattle.std.specs.Option.{IsSome, option_map, unwrap_or}
use Rattle.std.specs.List.{All}
use Rattle.std.proofs.lemmas.List.{get_or_default, get_or-map, map-set}
use Rattle.std.proofs.lemmas.List.Elements.{All-get_or, All-set}
use Rattle.trace_base.specs.declared.layout.Layout.{Layout}
use Rattle.trace_outside.specs.Causes.{Rose}
use Rattle.trace_outside.specs.Pending.{Holds, OnWay, PutsText}
use Rattle.trace_outside.specs.Writing.{GainedPrefix}
use Rattle.subpage.specs.Arrangement.{Keyed, key_of, cpu_of}
use Rattle.subpage.specs.Cut.{Cut}
use Rattle.page_pool.specs.declared.lane.Lane.{Lane}
use Rattle.event_cursor.specs.Keys.{first_of}
use Rattle.event_cursor.specs.Standing.{Stands, keyed_held}
use Rattle.event_cursor.proofs.Standing.{stands_stepped}
use Rattle.time_merge.specs.LaneNexts.{cut_at}
use Rattle.time_merge.specs.LaneRows.{HasLayout, parts_of, to_come}
use Rattle.time_merge.specs.Rows.{coming, least_cut}
use Rattle.time_merge.specs.Nexts.{IsNextLane}
use Rattle.time_merge.proofs.Going.{still_parts}
use Rattle.time_merge.proofs.LanesKept.{layouts_set}
use Rattle.time_merge.proofs.Starting.{cut_of_rows as one_cut}
use Rattle.tournament_tree.specs.declared.slot_key.SlotKey.{SlotKey}
use Rattle.multi_report.specs.declared.taking.Taken.{Taken}
use Rattle.multi_report.specs.declared.taking.Taken.TheVariants as took
use Rattle.time_merge.specs.declared.ending.IoFault.{IoFault}
use Rattle.time_merge.specs.declared.ending.IoFault.TheVariants as fault
use Rattle.multi_report.specs.Order.{ShownFile, own_cut}
use Rattle.multi_report.specs.Sources.{SourceView, IsKnown, IsReadied, IsSame, Keeps, bytes_of, due, shown_of, next_key, cut_left, left_in}
use Rattle.multi_report.specs.Nexts.{IsLaneStepped}
use Rattle.multi_report.specs.Reports.{line_of}
use Rattle.multi_report.specs.Taking.{IsGoing, IsStill, ItemTaken, LineStopped, TakenFrom, TakenOf}
use Rattle.multi_report.proofs.Files.{same_one}

some_lane : (lanes : List Lane) (i : ℕ) → i < length lanes → Lane
some_lane [] i lt = absurd (omega (arith, lt))
some_lane (a ∷ lanes) i lt = a

-- a file of which an item was used up
known_stepped : (a b : SourceView) (i : ℕ) (e : Lane) → i < length a.lanes → IsLaneStepped a i b → IsKnown a → IsKnown b
known_stepped a b i e lt s known =
    let bytes : bytes_of b ≡ bytes_of a = ap (λ (o : Option (List ℕ)). unwrap_or o []) s.told in
    record {
      told = subst IsSome (sym s.told) known.told;
      layouts =
          let here : All (HasLayout a.layout) b.lanes = layouts_set a.lanes i s.lane b.lanes s.lanes lt a.layout (s.stepped s.lane).page.layout known.layouts in
          subst (λ (l : Layout). All (HasLayout l) b.lanes) (sym s.layout) here;
      stands =
          let all : All (Stands (bytes_of a)) (set a.lanes i s.lane) =
          All-set (Stands (bytes_of a)) a.lanes i s.lane (stands_stepped (bytes_of a) (get_or a.lanes i e) s.lane (s.stepped e) (All-get_or (Stands (bytes_of a)) a.lanes i e lt known.stands)) known.stands in
          let here : All (Stands (bytes_of a)) b.lanes = subst (All (Stands (bytes_of a))) (sym s.lanes) all in
          subst (λ (bs : List ℕ). All (Stands bs) b.lanes) (sym bytes) here;
    }

shown_stepped : (a b : SourceView) (i : ℕ) (e : Lane) → i < length a.lanes → IsLaneStepped a i b → shown_of b ≡ shown_of a
shown_stepped a b i e lt s =
    let parts : parts_of b.lanes ≡ parts_of a.lanes = ap parts_of s.lanes ∙ still_parts a.lanes i e s.lane lt (s.stepped e) in
    cc (s.name, s.cpus, s.layout, s.text, s.told, parts)

pub same_stepped : (a b : SourceView) (i : ℕ) → i < length a.lanes → IsLaneStepped a i b → IsSame a b
same_stepped a b i lt s = record {
  shown = shown_stepped a b i (some_lane a.lanes i lt) lt s;
  told = s.told;
  size = s.size;
  faults = omega (arith, s.faults);
  reads = omega (arith, s.reads);
}

due_stepped : (a b : SourceView) (i : ℕ) → IsLaneStepped a i b → due b ≡ due a
due_stepped a b i s = omega (arith, s.reads, s.unread)

-- an item was used up and then lanes were made ready
pub same_used : (a b c : SourceView) (i : ℕ) → i < length a.lanes → IsLaneStepped a i b → Keeps b c → IsSame a c
same_used a b c i lt s keeps =
    let one = same_stepped a b i lt s in
    record {
      shown = keeps.same.shown ∙ one.shown;
      told = keeps.same.told ∙ one.told;
      size = keeps.same.size ∙ one.size;
      faults = omega (arith, one.faults, keeps.same.faults);
      reads = omega (arith, keeps.same.reads, due_stepped a b i s);
    }

pub going_used : (a b c : SourceView) (i : ℕ) → IsLaneStepped a i b → Keeps b c → IsReadied b c → IsGoing a c
going_used a b c i s keeps readied = record {
  readied = record { prepared = readied.prepared; due = omega (arith, readied.due, due_stepped a b i s) };
  less = omega (arith, s.less, keeps.most);
}

pub rose_used : (a b c : SourceView) (i : ℕ) → IsLaneStepped a i b → Rose b.faults c.faults → Rose a.faults c.faults
rose_used a b c i s rose = omega (arith, s.faults, rose)

abbrev put_of : SourceView → ℕ → Lane → List ℕ
put_of a i d = unwrap_or (option_map (line_of (shown_of a)) (first_of (keyed_held (get_or a.lanes i d)))) []

line_put : (a : SourceView) (i : ℕ) (d : Lane) (next : IsNextLane (bytes_of a) a.lanes i) → put_of a i d ≡ line_of (shown_of a) next.item
line_put a i d next = ap (λ (o : Option Keyed). unwrap_or (option_map (line_of (shown_of a)) o) []) (next.first d)

pub item_taken : {T E : Type 0} (v : T) (a b c : SourceView) (i : ℕ) (way way_now : OnWay) → i < length a.lanes → IsNextLane (bytes_of a) a.lanes i → IsLaneStepped a i b → Keeps b c → IsKnown a
    → ((d : Lane) → PutsText {T = T} {E = E} (put_of a i d) way way_now (Ok v)) → ItemTaken a c way way_now
item_taken v a b c i way way_now lt next s keeps known puts =
    let e = some_lane a.lanes i lt in
    let known_b : IsKnown b = known_stepped a b i e lt s known in
    let bytes : bytes_of b ≡ bytes_of a = ap (λ (o : Option (List ℕ)). unwrap_or o []) s.told in
    let same : to_come (bytes_of b) b.lanes ≡ to_come (bytes_of a) (set a.lanes i s.lane) =
    ap (λ (bs : List ℕ). to_come bs b.lanes) bytes ∙ ap (to_come (bytes_of a)) s.lanes in
    let kept : left_in c ≡ left_in b = ap (coming key_of cpu_of) (keeps.rows known_b) in
    record {
      item = next.item;
      come = next.used e s.lane (s.stepped e) ∙ ap (λ (xs : List Keyed). next.item ∷ xs) (sym same ∙ sym kept);
      cut = ap least_cut (keeps.rows known_b)
          ∙ one_cut b.layout (bytes_of b) b.lanes known_b.layouts ∙ ap (λ (g : ShownFile). own_cut g) (shown_stepped a b i e lt s) ∙ sym (one_cut a.layout (bytes_of a) a.lanes known.layouts);
      known = keeps.known known_b;
      puts = λ first text held. subst (λ (p : List ℕ). Holds first way_now.written way_now.waiting (text ++ p)) (line_put a i e next) ((puts e).puts first text held);
    }

pub line_stopped : {T E : Type 0} (v : E) (a : SourceView) (i : ℕ) (way way_now : OnWay) → i < length a.lanes → IsNextLane (bytes_of a) a.lanes i
    → ((d : Lane) → PutsText {T = T} {E = E} (put_of a i d) way way_now (Err v)) → LineStopped a way way_now
line_stopped v a i way way_now lt next puts =
    let e = some_lane a.lanes i lt in
    record {
      item = next.item;
      rest = next.come.0;
      come = next.come.1;
      puts = λ first text held. subst (λ (p : List ℕ). GainedPrefix first way_now.written (text ++ p)) (line_put a i e next) ((puts e).puts first text held);
    }

pub cut_told : (a : SourceView) (way : OnWay) (i : ℕ) (lanes : List Lane) (d e : Lane) → lanes ≡ a.lanes → i < length a.lanes
    → (left_in a ≡ []) × ((x : Lane) → cut_left a ≡ Some (cut_at a.lanes i x))
    → IsStill a way way × ((key : Option ℕ) × (cut_left a ≡ Some (record { key = key; cpu = (get_or lanes i d).cpu; page = (get_or lanes i e).cursor.next })))
cut_told a way i lanes d e same lt h = (
  record { nothing_put = refl; none = h.0 },
  (
    (get_or a.lanes i d).cursor.high,
    subst (λ (ls : List Lane). cut_left a ≡ Some (made (get_or a.lanes i d).cursor.high (get_or ls i d).cpu (get_or ls i e).cursor.next)) (sym same)
        (h.1 d ∙ ap (λ (x : Lane). Some (made (get_or a.lanes i d).cursor.high (get_or a.lanes i d).cpu x.cursor.next)) (get_or_default a.lanes i d e lt)),
  ),
)
  where
    made : Option ℕ → ℕ → ℕ → Cut
    made key cpu page = record { key = key; cpu = cpu; page = page }

-- how a file is left by what was taken of it
module _ {T E : Type 0} (a b c : SourceView) (i : ℕ) (way way_now : OnWay) (lt : i < length a.lanes) (next : IsKnown a → IsNextLane (bytes_of a) a.lanes i) where
  pub taken_item : (v : T) (key : SlotKey) → IsLaneStepped a i b → Keeps b c → IsReadied b c → (IsKnown c → key ≡ next_key c)
      → ((d : Lane) → PutsText {T = T} {E = E} (put_of a i d) way way_now (Ok v)) → TakenOf a way (Ok (took.Item key)) c way_now
  taken_item v key s keeps readied key_is puts = record {
    same = same_used a b c i lt s keeps;
    goes = going_used a b c i s keeps readied;
    read = tt;
    taken = λ known. let t = item_taken v a b c i way way_now lt (next known) s keeps known puts in (t, key_is t.known);
  }

  pub taken_read : (v : T) → IsLaneStepped a i b → Keeps b c → Rose b.faults c.faults
      → ((d : Lane) → PutsText {T = T} {E = E} (put_of a i d) way way_now (Ok v)) → TakenOf a way (Err fault.Read) c way_now
  taken_read v s keeps rose puts = record {
    same = same_used a b c i lt s keeps;
    goes = tt;
    read = rose_used a b c i s rose;
    taken = λ known. item_taken v a b c i way way_now lt (next known) s keeps known puts;
  }

  pub taken_write : (v : E) → ((d : Lane) → PutsText {T = T} {E = E} (put_of a i d) way way_now (Err v)) → TakenOf a way (Err fault.Write) a way_now
  taken_write v puts = record {
    same = same_one a;
    goes = tt;
    read = tt;
    taken = λ known. line_stopped v a i way way_now lt (next known) puts;
  }

-- one of several
pub taken_from : {S : Type 0} (f : S → SourceView) (sources : List S) (j : ℕ) (d new : S) (way way_now : OnWay) (result : Result Taken IoFault) → j < length sources
    → TakenOf (f (get_or sources j d)) way result (f new) way_now
    → TakenFrom (map f sources) j way result (map f (set sources j new)) way_now
taken_from f sources j d new way way_now result lt taken = record {
  one = f new;
  set = map-set f sources j new;
  is = λ e. subst (λ (s : SourceView). TakenOf s way result (f new) way_now) (sym (get_or-map f sources j d e lt)) taken;
}
