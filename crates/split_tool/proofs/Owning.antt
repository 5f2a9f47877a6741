-- Whose items a file takes.
use Rattle.std.proofs.Common.{◌≡◌, ℕ, zero, suc, ◌+◌, ◌<◌, Bool, true, false, eqb, nat_lt, not, if◌then◌else◌, List, [], ◌∷◌, ◌++◌, length, get_or, map, Option, Some, None, refl, sym, ap, ◌∙◌, append-nil, inl, inr, arith}
use Rattle.std.specs.List.{All, take_while}
use Rattle.std.proofs.lemmas.Bool.{cases_Bool, ne_eqb}
use Rattle.std.proofs.lemmas.List.Elements.{All-nil, All-cons, All-head, All-tail, All-append, All-filter, All-map, All-weaker}
use Rattle.subpage.specs.ItemData.{ItemData}
use Rattle.subpage.specs.Arrangement.{Keyed, CpusRise, key_of, cpu_of, with_key, by_key}
use Rattle.page_pool.specs.declared.lane.Lane.{Lane}
use Rattle.event_cursor.specs.Standing.{left_of}
use Rattle.time_merge.specs.Rows.{Row, together, up_to, least_cut}
use Rattle.time_merge.specs.LaneRows.{parts_of, row_of, rows_of}
use Rattle.time_merge.proofs.LaneLaws.{after_above, keyed_own}
use Rattle.time_merge.proofs.Parting.{all_by_key}
use Rattle.word_values.specs.declared.moment.Moment.{Moment}
use Rattle.word_values.specs.declared.piece.PieceUnit.{PieceUnit}
use Rattle.word_values.specs.declared.piece.PieceUnit.TheVariants as code
use Rattle.split_pieces.specs.declared.rules.Rules.{Rules}
use Rattle.split_pieces.specs.Moments.{is_past}
use Rattle.split_pieces.specs.Cuts.{items_of_cpu, is_apart}
use Rattle.split_pieces.specs.Pieces.{up_to_event, is_event, up_to_end, piece, next_file}
use Rattle.split_pieces.proofs.Cutting.{front_no, front_yes}
use Rattle.split_tool.specs.Lists.{groups, come_of, left_in_rows, lists_left}
use Rattle.split_passes.proofs.RoundRuns.{own_append}
use Rattle.split_passes.proofs.Running.{rises_tail}

module _ (P : Keyed → Type 0) where
  all_front : (p : Keyed → Bool) (xs : List Keyed) → All P xs → All P (take_while p xs)
  all_front p [] a = a
  all_front p (x ∷ xs) a = elim (cases_Bool (p x)) [
    | inl b ↦ rw (front_yes p x xs b) (All-cons P x (take_while p xs) (All-head P x xs a) (all_front p xs (All-tail P x xs a)))
    | inr b ↦ rw (front_no p x xs b) (All-nil P)
  ]

  all_events : (n : ℕ) (xs : List Keyed) → All P xs → All P (up_to_event n xs)
  all_events zero xs a = All-nil P
  all_events (suc n) [] a = a
  all_events (suc n) (x ∷ xs) a =
      let more : ℕ = if is_event x then n else suc n in
      All-cons P x (up_to_event more xs) (All-head P x xs a) (all_events more xs (All-tail P x xs a))

  pub all_piece : (unit : PieceUnit) (xs : List Keyed) → All P xs → All P (piece unit xs)
  all_piece code.All xs a = a
  all_piece (code.Nanos n) [] a = a
  all_piece (code.Nanos n) (x ∷ xs) a = all_front (λ y. nat_lt y.key (x.key + n)) (x ∷ xs) a
  all_piece (code.Events n) xs a = all_events n xs a

  pub all_up : (stop : Option Moment) (xs : List Keyed) → All P xs → All P (up_to_end stop xs)
  all_up None xs a = a
  all_up (Some m) xs a = all_front (λ x. not (is_past m x.key)) xs a

  abbrev pub RowAll : Row Keyed → Type 0
  RowAll row = All P row.items

  all_together : (rows : List (Row Keyed)) → All RowAll rows → All P (together rows)
  all_together [] a = All-nil P
  all_together (row ∷ rows) a = All-append P row.items (together rows) (All-head RowAll row rows a) (all_together rows (All-tail RowAll row rows a))

  all_come : (rows : List (Row Keyed)) → All RowAll rows → All P (come_of rows)
  all_come rows a = All-filter (λ x. up_to (least_cut rows) (key_of x) (cpu_of x)) P (by_key key_of (together rows)) (all_by_key key_of P (together rows) (all_together rows a))

  all_next : (unit : PieceUnit) (stop : Option Moment) (gs : List (List (Row Keyed))) → All (All RowAll) gs → All P (next_file unit (map (left_in_rows stop) gs))
  all_next unit stop [] a = All-nil P
  all_next unit stop (rows ∷ gs) a =
      All-append P (piece unit (left_in_rows stop rows)) (next_file unit (map (left_in_rows stop) gs))
      (all_piece unit (left_in_rows stop rows) (all_up stop (come_of rows) (all_come rows (All-head (All RowAll) rows gs a))))
      (all_next unit stop gs (All-tail (All RowAll) rows gs a))

all_single : {X : Type 0} (Q : X → Type 0) (xs : List X) → All Q xs → All (All Q) (map (λ x. x ∷ []) xs)
all_single Q xs a = All-map (All Q) (λ x. x ∷ []) xs (λ i d lt. All-cons Q (get_or xs i d) [] (a i d lt) (All-nil Q))

all_group : {X : Type 0} (Q : X → Type 0) (b : Bool) (xs : List X) → All Q xs → All (All Q) (if b then map (λ x. x ∷ []) xs else xs ∷ [])
all_group Q true xs a = all_single Q xs a
all_group Q false xs a = All-cons (All Q) xs [] a (All-nil (All Q))

-- A PROCESSOR'S OWN

abbrev pub IsNot : ℕ → Keyed → Type 0
IsNot c x = x.cpu ≡ c → ⊥

abbrev pub IsNotLane : ℕ → Lane → Type 0
IsNotLane c a = a.cpu ≡ c → ⊥

-- its number is greater
abbrev pub IsAfter : ℕ → Lane → Type 0
IsAfter c a = c < a.cpu

abbrev IsOf : ℕ → Keyed → Type 0
IsOf c x = x.cpu ≡ c

rows_not : (file : List ℕ) (c : ℕ) (lanes : List Lane) → All (IsNotLane c) lanes → All (RowAll (IsNot c)) (rows_of file lanes)
rows_not file c lanes a = All-map (RowAll (IsNot c)) (row_of file) lanes (λ i d lt.
    let x : Lane = get_or lanes i d in
    All-weaker (IsOf x.cpu) (IsNot c) (λ y e f. a i d lt (sym e ∙ f)) (row_of file x).items (keyed_own x.cpu _ (left_of file x)))

none_with : (c : ℕ) (xs : List Keyed) → All (IsNot c) xs → with_key cpu_of c xs ≡ []
none_with c [] a = refl
none_with c (x ∷ xs) a = let b : eqb x.cpu c ≡ false = ne_eqb x.cpu c (All-head (IsNot c) x xs a) in rw b (none_with c xs (All-tail (IsNot c) x xs a))

pub none_own : (c : ℕ) (xs : List Keyed) → All (IsNot c) xs → items_of_cpu c xs ≡ []
none_own c xs a = ap (map (λ (x : Keyed). x.item)) (none_with c xs a)

-- a file takes no items of other processors
pub none_else : (file : List ℕ) (rules : Rules) (lanes : List Lane) (c : ℕ) → All (IsNotLane c) lanes → items_of_cpu c (next_file rules.unit (lists_left file rules lanes)) ≡ []
none_else file rules lanes c a =
    let rows = rows_of file lanes in
    none_own c _ (all_next (IsNot c) rules.unit rules.stop (groups rules rows) (all_group (RowAll (IsNot c)) (is_apart rules) rows (rows_not file c lanes a)))

-- WHERE EACH LANE IS A LIST

later_not : (a : Lane) (lanes : List Lane) → CpusRise (parts_of (a ∷ lanes)) → All (IsNotLane a.cpu) lanes
later_not a lanes r = All-weaker (IsAfter a.cpu) (IsNotLane a.cpu) (λ x lt e. omega (arith, lt, e)) lanes (after_above a lanes r)

abbrev single : Row Keyed → List (Row Keyed)
single row = row ∷ []

abbrev own_piece : List ℕ → PieceUnit → Option Moment → Lane → List Keyed
own_piece file unit stop a = piece unit (left_in_rows stop (row_of file a ∷ []))

mine_of : (file : List ℕ) (unit : PieceUnit) (stop : Option Moment) (a : Lane) → All (IsOf a.cpu) (own_piece file unit stop a)
mine_of file unit stop a =
    let P : Keyed → Type 0 = IsOf a.cpu in
    let row = row_of file a in
    let own : All (RowAll P) (row ∷ []) = All-cons (RowAll P) row [] (keyed_own a.cpu _ (left_of file a)) (All-nil (RowAll P)) in
    all_piece P unit (left_in_rows stop (row ∷ [])) (all_up P stop (come_of (row ∷ [])) (all_come P (row ∷ []) own))

pub own_apart : (file : List ℕ) (unit : PieceUnit) (stop : Option Moment) (lanes : List Lane) (i : ℕ) (d : Lane) → CpusRise (parts_of lanes) → i < length lanes
    → items_of_cpu (get_or lanes i d).cpu (next_file unit (map (left_in_rows stop) (map single (rows_of file lanes)))) ≡ items_of_cpu (get_or lanes i d).cpu (own_piece file unit stop (get_or lanes i d))
own_apart file unit stop [] i d rise lt = absurd (omega (arith, lt))
own_apart file unit stop (a ∷ lanes) zero d rise lt =
    let here = own_piece file unit stop a in
    let rows = rows_of file lanes in
    let more = next_file unit (map (left_in_rows stop) (map single rows)) in
    let none : items_of_cpu a.cpu more ≡ [] = none_own a.cpu more (all_next (IsNot a.cpu) unit stop (map single rows) (all_single (RowAll (IsNot a.cpu)) rows (rows_not file a.cpu lanes (later_not a lanes rise)))) in
    own_append a.cpu here more ∙ ap (λ (xs : List ItemData). items_of_cpu a.cpu here ++ xs) none ∙ append-nil (items_of_cpu a.cpu here)
own_apart file unit stop (a ∷ lanes) (suc i) d rise lt =
    let here = own_piece file unit stop a in
    let rows = rows_of file lanes in
    let more = next_file unit (map (left_in_rows stop) (map single rows)) in
    let c = (get_or lanes i d).cpu in
    let higher : a.cpu < c = after_above a lanes rise i d (omega (arith, lt)) in
    let none : items_of_cpu c here ≡ [] = none_own c here (All-weaker (IsOf a.cpu) (IsNot c) (λ x e f. omega (arith, e, f, higher)) here (mine_of file unit stop a)) in
    own_append c here more ∙ ap (λ (xs : List ItemData). xs ++ items_of_cpu c more) none
    ∙ own_apart file unit stop lanes i d (rises_tail a lanes rise) (omega (arith, lt))
