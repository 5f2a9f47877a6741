-- The least of all first lines, and the least of those that are due.
use Rattle.std.proofs.Common.{◌≡◌, ℕ, ◌+◌, ◌<◌, ◌≤◌, ◌⊎◌, true, false, List, [], ◌∷◌, ◌++◌, length, get_or, take, drop, map, Option, Some, None, refl, sym, ap, subst, ◌∙◌, arith, inl, inr}
use Rattle.std.specs.List.{All}
use Rattle.std.proofs.lemmas.Bool.{cases_Bool}
use Rattle.std.proofs.lemmas.List.{take-map, drop-map, take_at, drop_at, drop_more, map-append, length-map, length-take-le}
use Rattle.std.proofs.lemmas.List.Elements.{All-append, All-cons, All-map}
use Rattle.subpage.specs.Arrangement.{CpusRise}
use Rattle.page_pool.specs.Lines.{Line}
use Rattle.page_pool.specs.declared.lane.Lane.{Lane}
use Rattle.tournament_tree.specs.declared.slot_key.SlotKey.{SlotKey}
use Rattle.tournament_tree.specs.declared.slot_key.SlotKey.TheVariants.{Empty, At}
use Rattle.tournament_tree.specs.Least.{from_time}
use Rattle.tournament_tree.proofs.Ranks.{never_empty, same_time}
use Rattle.time_merge.specs.declared.horizons.Horizon.{Horizon}
use Rattle.time_merge.specs.declared.horizons.Horizon.TheVariants as code
use Rattle.time_merge.specs.Rows.{NotBefore, rank}
use Rattle.time_merge.specs.LaneRows.{parts_of}
use Rattle.time_merge.specs.Nexts.{IsLeastOf, IsLeastAt}
use Rattle.time_merge.proofs.Choosing.{around, all_of_map}
use Rattle.time_merge.specs.Horizons.{is_due}
use Rattle.round_print.specs.Prints.{due_lines, first_key, first_of, head_due, head_kept}
use Rattle.time_merge.proofs.LaneLaws.{after_above}
use Rattle.time_merge.proofs.Choosing.{heads}
use Rattle.round_print.proofs.Printing.{rise_after}

-- what follows a line that is not due is not due
later_due : (h : Horizon) (k c key cpu : ℕ) → is_due h k c ≡ false → (k < key) ⊎ ((k ≤ key) × (c ≤ cpu)) → is_due h key cpu ≡ false
later_due code.All k c key cpu e behind = absurd (never e)
  where
    never : true ≡ false → ⊥
    never e = cc
later_due (code.Start at) k c key cpu e behind = refl
later_due (code.To a b) k c key cpu e behind = grind (arith, e, behind)

none_in : (h : Horizon) (k c cpu n : ℕ) (lines : List Line) → is_due h k c ≡ false → NotBefore n (first_of lines) → (k + 2 ≤ n) ⊎ ((k + 1 ≤ n) × (c ≤ cpu)) → first_key (due_lines h cpu lines) ≡ Empty
none_in h k c cpu n [] e from behind = refl
none_in h k c cpu n (line ∷ lines) e from behind = rw (later_due h k c line.key cpu e (placed from behind)) refl
  where
    placed : n ≤ line.key + 1 → (k + 2 ≤ n) ⊎ ((k + 1 ≤ n) × (c ≤ cpu)) → (k < line.key) ⊎ ((k ≤ line.key) × (c ≤ cpu))
    placed from (inl far) = inl (omega (arith, from, far))
    placed from (inr near) = inr (omega (arith, from, near.0), near.1)

weaker_in : (h : Horizon) (cpu n : ℕ) (lines : List Line) → NotBefore n (first_of lines) → NotBefore n (first_key (due_lines h cpu lines))
weaker_in h cpu n [] from = tt
weaker_in h cpu n (line ∷ lines) from = elim (cases_Bool (is_due h line.key cpu)) as (λ _. NotBefore n (first_key (due_lines h cpu (line ∷ lines)))) [
  | inl due ↦ rw due from
  | inr not_due ↦ rw not_due tt
]

empty_in : (h : Horizon) (cpu : ℕ) (lines : List Line) → first_of lines ≡ Empty → first_key (due_lines h cpu lines) ≡ Empty
empty_in h cpu [] e = refl
empty_in h cpu (line ∷ lines) e = absurd (never e)
  where
    never : {k : ℕ} → At k ≡ Empty → ⊥
    never e = cc

-- the first line, where it is due
due_in : (h : Horizon) (cpu : ℕ) (lines : List Line) (v : ℕ) (here : Option ℕ) → first_key (due_lines h cpu lines) ≡ At v → from_time here ≡ first_of lines → first_key (due_lines h cpu lines) ≡ from_time here
due_in h cpu [] v here e f = absurd (never_empty here f)
due_in h cpu (line ∷ lines) v here e f = elim (cases_Bool (is_due h line.key cpu)) as (λ _. first_key (due_lines h cpu (line ∷ lines)) ≡ from_time here) [
  | inl due ↦ rw due (sym f)
  | inr not_due ↦ absurd (never (rw not_due at e))
]
  where
    never : {k : ℕ} → Empty ≡ At k → ⊥
    never e = cc

record FirstLater (h : Horizon) (cpu : ℕ) (here : Option ℕ) : Type 0 where
  key : ℕ
  is : rank here ≡ key + 1
  not_due : is_due h key cpu ≡ false

not_due_in : (h : Horizon) (cpu : ℕ) (lines : List Line) (here : Option ℕ) → first_key (due_lines h cpu lines) ≡ Empty → from_time here ≡ first_of lines → FirstLater h cpu here
not_due_in h cpu [] here e f = absurd (never_empty here f)
not_due_in h cpu (line ∷ lines) here e f = record {
  key = line.key;
  is = ap rank (same_time here (Some line.key) f);
  not_due = elim (cases_Bool (is_due h line.key cpu)) as (λ _. is_due h line.key cpu ≡ false) [
    | inl due ↦ absurd (never (rw due at e))
    | inr not_due ↦ not_due
  ];
}
  where
    never : {k : ℕ} → At k ≡ Empty → ⊥
    never e = cc

weaker_map : (P Q : SlotKey → Type 0) (f g : Lane → SlotKey) (R : Lane → Type 0) → ((a : Lane) → R a → P (f a) → Q (g a)) → (lanes : List Lane) → All R lanes → All P (map f lanes) → All Q (map g lanes)
weaker_map P Q f g R step lanes r h = All-map Q g lanes (λ i d lt. step (get_or lanes i d) (r i d lt) (all_of_map P f lanes h i d lt))

record Around (lanes : List Lane) (i : ℕ) (lane : Lane) (here : Option ℕ) : Type 0 where
  at : from_time here ≡ head_kept lane
  sooner : All (NotBefore (rank here + 1)) (map head_kept (take i lanes))
  later : All (NotBefore (rank here)) (map head_kept (drop (i + 1) lanes))

around_least : (lanes : List Lane) (i : ℕ) (lane : Lane) (here : Option ℕ) → i < length lanes → lane ≡ get_or lanes i lane → IsLeastOf (map head_kept lanes) i here → Around lanes i lane here
around_least lanes i lane here lt at least =
    let f : Lane → SlotKey = head_kept in
    let front : List Lane = take i lanes in
    let back : List Lane = drop (i + 1) lanes in
    let before : least.before ≡ map f front = sym (take_at least.before (from_time here ∷ least.after) i least.place) ∙ ap (take i) (sym least.split) ∙ take-map f i lanes in
    let rest : from_time here ∷ least.after ≡ map f (drop i lanes) = sym (drop_at least.before (from_time here ∷ least.after) i least.place) ∙ ap (drop i) (sym least.split) ∙ drop-map f i lanes in
    let one : (from_time here ≡ f (get_or lanes i lane)) × (least.after ≡ map f back) = heads (from_time here) (f (get_or lanes i lane)) least.after (map f back) (rest ∙ ap (map f) (drop_more lanes i lane lt)) in
    record {
      at = one.0 ∙ ap f (sym at);
      sooner = subst (All (NotBefore (rank here + 1))) before least.sooner;
      later = subst (All (NotBefore (rank here))) one.1 least.later;
    }

map_around : (g : Lane → SlotKey) (lanes : List Lane) (i : ℕ) (lane : Lane) → i < length lanes → lane ≡ get_or lanes i lane → map g lanes ≡ map g (take i lanes) ++ g lane ∷ map g (drop (i + 1) lanes)
map_around g lanes i lane lt at =
    ap (map g) (around lanes i lane lt) ∙ map-append g (take i lanes) (get_or lanes i lane ∷ drop (i + 1) lanes)
    ∙ ap (λ (a : Lane). map g (take i lanes) ++ g a ∷ map g (drop (i + 1) lanes)) (sym at)

pub least_due_at : (h : Horizon) (lanes : List Lane) (i : ℕ) (lane : Lane) (v : ℕ) → i < length lanes → lane ≡ get_or lanes i lane
    → IsLeastAt (map head_kept lanes) (Some i) → At v ≡ head_due h lane → IsLeastAt (map (head_due h) lanes) (Some i)
least_due_at h lanes i lane v lt at least e =
    let here : Option ℕ = least.0 in
    let sides : Around lanes i lane here = around_least lanes i lane here lt at least.1 in
    let g : Lane → SlotKey = head_due h in
    let due : g lane ≡ from_time here = due_in h lane.cpu lane.region.kept v here (sym e) sides.at in (
      here,
      record {
        before = map g (take i lanes);
        after = map g (drop (i + 1) lanes);
        split = map_around g lanes i lane lt at ∙ ap (λ (x : SlotKey). map g (take i lanes) ++ x ∷ map g (drop (i + 1) lanes)) due;
        place = length-map (take i lanes) g ∙ length-take-le i lanes (omega (arith, lt));
        sooner = weaker_map (NotBefore (rank here + 1)) (NotBefore (rank here + 1)) head_kept g (λ a. Unit {0}) (λ a r from. weaker_in h a.cpu (rank here + 1) a.region.kept from) (take i lanes) (λ j e lt_j. tt) sides.sooner;
        later = weaker_map (NotBefore (rank here)) (NotBefore (rank here)) head_kept g (λ a. Unit {0}) (λ a r from. weaker_in h a.cpu (rank here) a.region.kept from) (drop (i + 1) lanes) (λ j e lt_j. tt) sides.later;
      },
    )

pub none_due_at : (h : Horizon) (lanes : List Lane) (i : ℕ) (lane : Lane) → i < length lanes → lane ≡ get_or lanes i lane → CpusRise (parts_of lanes)
    → IsLeastAt (map head_kept lanes) (Some i) → Empty ≡ head_due h lane → IsLeastAt (map (head_due h) lanes) None
none_due_at h lanes i lane lt at rise least e =
    let here : Option ℕ = least.0 in
    let sides : Around lanes i lane here = around_least lanes i lane here lt at least.1 in
    let g : Lane → SlotKey = head_due h in
    let first : FirstLater h lane.cpu here = not_due_in h lane.cpu lane.region.kept here (sym e) sides.at in
    let split : lanes ≡ take i lanes ++ lane ∷ drop (i + 1) lanes = around lanes i lane lt ∙ ap (λ (a : Lane). take i lanes ++ a ∷ drop (i + 1) lanes) (sym at) in
    let above : All (λ a. lane.cpu < a.cpu) (drop (i + 1) lanes) =
    after_above lane (drop (i + 1) lanes) (rise_after (take i lanes) (lane ∷ drop (i + 1) lanes) (subst (λ (ls : List Lane). CpusRise (parts_of ls)) split rise)) in
    let P : SlotKey → Type 0 = λ next. next ≡ Empty in
    let front : All P (map g (take i lanes)) = weaker_map (NotBefore (rank here + 1)) P head_kept g (λ a. Unit {0})
    (λ a r from. none_in h first.key lane.cpu a.cpu (rank here + 1) a.region.kept first.not_due from (inl (omega (arith, first.is)))) (take i lanes) (λ j e lt_j. tt) sides.sooner in
    let back : All P (map g (drop (i + 1) lanes)) = weaker_map (NotBefore (rank here)) P head_kept g (λ a. lane.cpu < a.cpu)
    (λ a r from. none_in h first.key lane.cpu a.cpu (rank here) a.region.kept first.not_due from (inr (omega (arith, first.is), omega (arith, r)))) (drop (i + 1) lanes) above sides.later in
    subst (All P) (sym (map_around g lanes i lane lt at))
    (All-append P (map g (take i lanes)) (g lane ∷ map g (drop (i + 1) lanes)) front (All-cons P (g lane) (map g (drop (i + 1) lanes)) (sym e) back))

pub none_kept : (h : Horizon) (lanes : List Lane) → IsLeastAt (map head_kept lanes) None → IsLeastAt (map (head_due h) lanes) None
none_kept h lanes none = weaker_map (λ next. next ≡ Empty) (λ next. next ≡ Empty) head_kept (head_due h) (λ a. Unit {0}) (λ a r e. empty_in h a.cpu a.region.kept e) lanes (λ j e lt_j. tt) none
