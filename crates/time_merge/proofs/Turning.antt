-- Several items of one lane that come before all others.
use Rattle.std.proofs.Common.{◌≡◌, ◌≢◌, ℕ, ◌+◌, ◌<◌, ◌≤◌, ◌-◌, max, List, [], ◌∷◌, ◌++◌, length, map, get_or, set, take, drop, Option, Some, None, refl, sym, ap, subst, ◌∙◌, arith}
use Rattle.std.specs.Option.{IfSome, unwrap_or}
use Rattle.std.specs.List.{All, fold}
use Rattle.std.proofs.lemmas.List.{get_or-take, get_or-drop, get_or-set_same, get_or-set_other, length-take-le, length-drop, length-set, take_at, drop_at, drop_more}
use Rattle.std.proofs.lemmas.List.Elements.{All-append, All-cons, All-head, All-tail, All-map, All-get_or}
use Rattle.subpage.specs.ItemData.{ItemData, item_time}
use Rattle.subpage.specs.Arrangement.{Keyed, key_of, cpu_of, keyed_from, CpusRise, IsRising}
use Rattle.subpage.specs.Cut.{Cut}
use Rattle.page_pool.specs.declared.lane.Lane.{Lane}
use Rattle.event_cursor.specs.Keys.{keyed_behind}
use Rattle.event_cursor.specs.Stepping.{IsSteppedOver}
use Rattle.event_cursor.specs.Standing.{left_of, Stands}
use Rattle.event_cursor.proofs.Standing.{left_over}
use Rattle.tournament_tree.specs.declared.slot_key.SlotKey.{SlotKey}
use Rattle.tournament_tree.specs.declared.slot_key.SlotKey.TheVariants.{Empty, At}
use Rattle.tournament_tree.specs.Least.{from_time}
use Rattle.tournament_tree.proofs.Ranks.{same_time}
use Rattle.time_merge.specs.Rows.{Row, rank, IsRow, bound, cpus, Rise, NotBefore, coming}
use Rattle.time_merge.specs.LaneRows.{parts_of, row_of, rows_of}
use Rattle.time_merge.specs.Nexts.{IsInStepBut, IsLeastAt}
use Rattle.time_merge.specs.Turns.{HasTurn, keyed_used}
use Rattle.time_merge.proofs.RowLaws.{all_around, next_item}
use Rattle.time_merge.proofs.LaneLaws.{bound_is, rows_rise}
use Rattle.time_merge.proofs.Choosing.{rows, rows_around, rows_set}

-- ROWS

module _ {X : Type 0} (key cpu : X → ℕ) where
  abbrev row_with : ℕ → List X → Option Cut → Row X
  row_with n xs cut = record { cpu = n; items = xs; cut = cut }

  -- a row with other items
  abbrev with_items : Row X → List X → Row X
  with_items row xs = row_with row.cpu xs row.cut

  cpus_with : (before : List (Row X)) (row : Row X) (xs : List X) (after : List (Row X)) → cpus (before ++ with_items row xs ∷ after) ≡ cpus (before ++ row ∷ after)
  cpus_with [] row xs after = refl
  cpus_with (b ∷ before) row xs after = ap (λ (ns : List ℕ). b.cpu ∷ ns) (cpus_with before row xs after)

  rising_rest : (x : X) (xs : List X) → IsRising key (x ∷ xs) → IsRising key xs
  rising_rest x [] r = tt
  rising_rest x (y ∷ ys) r = r.1

  row_rest : (row : Row X) (x : X) (xs : List X) → row.items ≡ x ∷ xs → IsRow key cpu row → IsRow key cpu (with_items row xs)
  row_rest row x xs is r = record {
    own = All-tail (λ y. cpu y ≡ row.cpu) x xs (subst (All (λ y. cpu y ≡ row.cpu)) is r.own);
    rising = rising_rest x xs (subst (IsRising key) is r.rising);
    cut_own = r.cut_own;
    cut_last = last_of row.cut r.cut_last;
  }
    where
      last_of : (o : Option Cut) → IfSome o (λ cut. All (λ y. key y < rank cut.key) row.items) → IfSome o (λ cut. All (λ y. key y < rank cut.key) xs)
      last_of None h = tt
      last_of (Some cut) h = All-tail (λ y. key y < rank cut.key) x xs (subst (All (λ y. key y < rank cut.key)) is h)

  -- nothing of the other rows comes before an element with a key up to this one
  abbrev pub OthersAfter : ℕ → List (Row X) → List (Row X) → Type 0
  OthersAfter until before after =
      (k : ℕ) → k ≤ until → All (λ r. NotBefore (k + 2) (bound key cpu r)) before × All (λ r. NotBefore (k + 1) (bound key cpu r)) after

  pub next_items : (before : List (Row X)) (row now : Row X) (after : List (Row X)) (until : ℕ) (xs : List X) → row.items ≡ xs ++ now.items → now.cpu ≡ row.cpu → now.cut ≡ row.cut
      → Rise (cpus (before ++ row ∷ after)) → All (IsRow key cpu) (before ++ row ∷ after)
      → OthersAfter until before after → All (λ x. key x ≤ until) xs
      → coming key cpu (before ++ row ∷ after) ≡ xs ++ coming key cpu (before ++ now ∷ after)
  next_items before row now after until [] is same_cpu same_cut rise are others upto =
      let same : row ≡ now =
      ap (λ (n : ℕ). row_with n row.items row.cut) (sym same_cpu) ∙ ap (λ (ys : List X). row_with now.cpu ys row.cut) is ∙ ap (row_with now.cpu now.items) (sym same_cut) in
      ap (λ (r : Row X). coming key cpu (before ++ r ∷ after)) same
  next_items before row now after until (x ∷ xs) is same_cpu same_cut rise are others upto =
      let rest : Row X = with_items row (xs ++ now.items) in
      let around = all_around (IsRow key cpu) before row after are in
      let near = others (key x) (All-head (λ y. key y ≤ until) x xs upto) in
      let first : coming key cpu (before ++ row ∷ after) ≡ x ∷ coming key cpu (before ++ rest ∷ after) = next_item key cpu before row rest after x is refl refl rise are near.0 near.1 in
      let rows_rest : All (IsRow key cpu) (before ++ rest ∷ after) =
      All-append (IsRow key cpu) before (rest ∷ after) around.0 (All-cons (IsRow key cpu) rest after (row_rest row x (xs ++ now.items) is around.1.0) around.1.1) in
      first ∙ ap (λ (ys : List X). x ∷ ys)
      (next_items before rest now after until xs refl same_cpu same_cut (subst Rise (sym (cpus_with before row (xs ++ now.items) after)) rise) rows_rest others (All-tail (λ y. key y ≤ until) x xs upto))

-- LANES

-- the keys of items, and of those after them
keyed_parts : (cpu high : ℕ) (xs ys : List ItemData) → keyed_from cpu high (xs ++ ys) ≡ keyed_from cpu high xs ++ keyed_from cpu (fold max high (map item_time xs)) ys
keyed_parts cpu high [] ys = refl
keyed_parts cpu high (x ∷ xs) ys = ap (λ (zs : List Keyed). record { key = max high (item_time x); cpu = cpu; item = x } ∷ zs) (keyed_parts cpu (max high (item_time x)) xs ys)

row_over : (file : List ℕ) (xs : List ItemData) (a b : Lane) → IsSteppedOver xs a b → (row_of file a).items ≡ keyed_used a xs ++ (row_of file b).items
row_over file xs a b s =
    ap (keyed_behind a.cpu a.cursor.high) (left_over file xs a b s) ∙ keyed_parts a.cpu (unwrap_or a.cursor.high 0) xs (left_of file b)
    ∙ ap (λ (high : Option ℕ). keyed_used a xs ++ keyed_behind a.cpu high (left_of file b)) (sym s.high)
    ∙ ap (λ (cpu : ℕ). keyed_used a xs ++ keyed_behind cpu b.cursor.high (left_of file b)) (sym s.page.cpu)

same_cut : (file : List ℕ) (xs : List ItemData) (a b : Lane) → IsSteppedOver xs a b → (row_of file b).cut ≡ (row_of file a).cut
same_cut file xs a b s = cc (s.page.cpu, s.page.layout, s.page.part)

-- with keys up to this one a slot is the least
abbrev pub IsLeastUpTo : List SlotKey → ℕ → ℕ → Type 0
IsLeastUpTo keys i until = (k : ℕ) → k ≤ until → IsLeastAt (set keys i (At k)) (Some i)

heads_same : (x y : SlotKey) (xs ys : List SlotKey) → x ∷ xs ≡ y ∷ ys → (x ≡ y) × (xs ≡ ys)
heads_same x y xs ys e = (cc, cc)

module _ (file : List ℕ) (lanes : List Lane) (keys : List SlotKey) (i until : ℕ) (stands : All (Stands file) lanes) (long : length keys ≡ length lanes)
    (but : IsInStepBut lanes keys i) (least : IsLeastUpTo keys i until) where
  bound_at : (j : ℕ) (d : Lane) → j < length lanes → j ≢ i → bound key_of cpu_of (row_of file (get_or lanes j d)) ≡ get_or keys j Empty
  bound_at j d lt other = bound_is file (get_or lanes j d) (All-get_or (Stands file) lanes j d lt stands) (but.ready j d lt other) ∙ sym (but.keys_are j d lt other)

  pub others_after : OthersAfter key_of cpu_of until (rows_of file (take i lanes)) (rows_of file (drop (i + 1) lanes))
  others_after k le =
      let now : List SlotKey = set keys i (At k) in
      let inside : i < length keys = omega (arith, but.inside, long) in
      let found = least k le in
      let at = found.1 in
      let front : at.before ≡ take i now = sym (take_at at.before (from_time found.0 ∷ at.after) i at.place) ∙ ap (take i) (sym at.split) in
      let rest : from_time found.0 ∷ at.after ≡ drop i now = sym (drop_at at.before (from_time found.0 ∷ at.after) i at.place) ∙ ap (drop i) (sym at.split) in
      let parts = heads_same (from_time found.0) (get_or now i Empty) at.after (drop (i + 1) now) (rest ∙ drop_more now i Empty (omega (arith, inside, length-set keys i (At k)))) in
      let own : from_time found.0 ≡ At k = parts.0 ∙ get_or-set_same keys i (At k) Empty inside in
      let here : found.0 ≡ Some k = same_time found.0 (Some k) own in
      let rank_is : rank found.0 ≡ k + 1 = ap rank here in (
        All-map (λ r. NotBefore (k + 2) (bound key_of cpu_of r)) (row_of file) (take i lanes) (λ j d lt.
            let below : j < i = omega (arith, lt, length-take-le i lanes (omega (arith, but.inside))) in
            let key : get_or at.before j Empty ≡ get_or keys j Empty = ap (λ (ks : List SlotKey). get_or ks j Empty) front ∙ get_or-take i now j Empty below ∙ get_or-set_other keys i j (At k) Empty (λ e. omega (arith, e, below)) in
            let is : bound key_of cpu_of (row_of file (get_or (take i lanes) j d)) ≡ get_or at.before j Empty =
            ap (λ (a : Lane). bound key_of cpu_of (row_of file a)) (get_or-take i lanes j d below) ∙ bound_at j d (omega (arith, below, but.inside)) (λ e. omega (arith, e, below)) ∙ sym key in
            let sooner : NotBefore (k + 2) (get_or at.before j Empty) = subst (λ (n : ℕ). NotBefore n (get_or at.before j Empty)) (let e : rank found.0 + 1 ≡ k + 2 = omega (arith, rank_is) in e) (at.sooner j Empty (omega (arith, below, at.place))) in
            subst (NotBefore (k + 2)) (sym is) sooner),
        All-map (λ r. NotBefore (k + 1) (bound key_of cpu_of r)) (row_of file) (drop (i + 1) lanes) (λ j d lt.
            let place : ℕ = (i + 1) + j in
            let far : place < length lanes = omega (arith, lt, length-drop (i + 1) lanes) in
            let key : get_or at.after j Empty ≡ get_or keys place Empty = ap (λ (ks : List SlotKey). get_or ks j Empty) parts.1 ∙ get_or-drop (i + 1) now j Empty ∙ get_or-set_other keys i place (At k) Empty (λ e. omega (arith, e)) in
            let is : bound key_of cpu_of (row_of file (get_or (drop (i + 1) lanes) j d)) ≡ get_or at.after j Empty =
            ap (λ (a : Lane). bound key_of cpu_of (row_of file a)) (get_or-drop (i + 1) lanes j d) ∙ bound_at place d far (λ e. omega (arith, e)) ∙ sym key in
            let size : length at.after ≡ length keys - (i + 1) = ap length parts.1 ∙ length-drop (i + 1) now ∙ ap (λ (n : ℕ). n - (i + 1)) (length-set keys i (At k)) in
            let later : NotBefore (k + 1) (get_or at.after j Empty) = subst (λ (n : ℕ). NotBefore n (get_or at.after j Empty)) rank_is (at.later j Empty (omega (arith, far, size, long))) in
            subst (NotBefore (k + 1)) (sym is) later),
      )

  pub has_turn : CpusRise (parts_of lanes) → HasTurn file lanes i until
  has_turn rise d now xs s upto =
      let a = get_or lanes i d in
      let before = rows_of file (take i lanes) in
      let after = rows_of file (drop (i + 1) lanes) in
      let here : rows_of file lanes ≡ before ++ row_of file a ∷ after = rows_around file lanes i d but.inside in
      let law = next_items key_of cpu_of before (row_of file a) (row_of file now) after until (keyed_used a xs) (row_over file xs a now s) s.page.cpu (same_cut file xs a now s)
      (subst (λ (rs : List (Row Keyed)). Rise (cpus rs)) here (rows_rise file lanes rise))
      (subst (All (IsRow key_of cpu_of)) here (rows file lanes stands))
      others_after upto in
      ap (coming key_of cpu_of) here ∙ law ∙ ap (λ (rs : List (Row Keyed)). keyed_used a xs ++ coming key_of cpu_of rs) (sym (rows_set file lanes i now but.inside))

-- what is known of a number that was found
pub if_some : {P Q : ℕ → Type 0} (o : Option ℕ) → IfSome o P → ((n : ℕ) → P n → Q n) → IfSome o Q
if_some {P} {Q} None h more = tt
if_some {P} {Q} (Some n) h more = more n h
