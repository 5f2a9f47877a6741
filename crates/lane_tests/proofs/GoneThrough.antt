-- Lanes that are gone through, one item after another.
use Rattle.std.proofs.Common.{◌≡◌, ℕ, ◌<◌, List, [], ◌∷◌, ◌++◌, length, get_or, set, map, Option, Some, None, refl, sym, ap, subst, ◌∙◌, append_assoc}
use Rattle.std.specs.Option.{IfSome, option_map}
use Rattle.std.specs.List.{All}
use Rattle.std.proofs.lemmas.List.{append-nil}
use Rattle.std.proofs.lemmas.List.Elements.{All-set, All-get_or, All-weaker}
use Rattle.trace_base.specs.declared.layout.Layout.{Layout}
use Rattle.subpage.specs.Arrangement.{Keyed, key_of, cpu_of}
use Rattle.subpage.specs.Cut.{cut_of, reached_of}
use Rattle.page_pool.specs.Fresh.{IsFresh}
use Rattle.page_pool.specs.declared.lane.Lane.{Lane}
use Rattle.event_cursor.specs.Stepping.{IsStepped}
use Rattle.event_cursor.specs.Keys.{first_of}
use Rattle.event_cursor.specs.Standing.{keyed_held, Stands}
use Rattle.event_cursor.proofs.Standing.{stands_stepped}
use Rattle.time_merge.specs.declared.next_lanes.Next.{Next}
use Rattle.time_merge.specs.declared.next_lanes.Next.TheVariants as code
use Rattle.time_merge.specs.Rows.{coming, least_cut}
use Rattle.time_merge.specs.LaneRows.{HasLayout, parts_of, rows_of, to_come}
use Rattle.time_merge.specs.Nexts.{IsNextLane, IsNext}
use Rattle.lane_tests.specs.Through.{IsThrough}
use Rattle.time_merge.proofs.Starting.{fresh_stands, fresh_come, cut_of_rows}

-- the keys so far, followed by those that are to come, are all
pub record Gone (l : Layout) (file : List ℕ) (first lanes : List Lane) (keys : List ℕ) : Type 0 where
  pub stands : All (Stands file) lanes
  pub whole : keys ++ map key_of (to_come file lanes) ≡ map key_of (reached_of l file (parts_of first))

pub gone_none : (l : Layout) (file : List ℕ) (lanes : List Lane) → All (HasLayout l) lanes → All (λ (a : Lane). IsFresh a.cursor) lanes → Gone l file lanes lanes []
gone_none l file lanes layouts fresh = record {
  stands = All-weaker (λ (a : Lane). IsFresh a.cursor) (Stands file) (fresh_stands file) lanes fresh;
  whole = ap (map key_of) (fresh_come l file lanes layouts fresh);
}

pub going_on : (l : Layout) (told now_told : Option (List ℕ)) (first lanes lanes1 : List Lane) (i : ℕ) (d now : Lane) (keys keys1 : List ℕ) (key : ℕ) → now_told ≡ told
    → IfSome told (λ file. Gone l file first lanes keys)
    → IfSome now_told (λ file. rows_of file lanes1 ≡ rows_of file lanes)
    → IfSome now_told (λ file. All (Stands file) lanes → All (Stands file) lanes1)
    → IfSome now_told (λ file. All (Stands file) lanes → IsNextLane file lanes1 i)
    → i < length lanes1 → IsStepped (get_or lanes1 i d) now → option_map key_of (first_of (keyed_held (get_or lanes1 i d))) ≡ Some key → keys1 ≡ keys ++ key ∷ []
    → IfSome told (λ file. Gone l file first (set lanes1 i now) keys1)
going_on l None now_told first lanes lanes1 i d now keys keys1 key e gone rows stands next lt s k more = tt
going_on l (Some file) now_told first lanes lanes1 i d now keys keys1 key e gone rows stands next lt s k more =
    let rows : rows_of file lanes1 ≡ rows_of file lanes = subst (λ (o : Option (List ℕ)). IfSome o (λ file. rows_of file lanes1 ≡ rows_of file lanes)) e rows in
    let still : All (Stands file) lanes1 = (subst (λ (o : Option (List ℕ)). IfSome o (λ file. All (Stands file) lanes → All (Stands file) lanes1)) e stands) gone.stands in
    let next : IsNextLane file lanes1 i = (subst (λ (o : Option (List ℕ)). IfSome o (λ file. All (Stands file) lanes → IsNextLane file lanes1 i)) e next) gone.stands in
    let same : next.item.key ≡ key = some_is (sym (ap (option_map key_of) (next.first d)) ∙ k) in
    let come : to_come file lanes ≡ next.item ∷ to_come file (set lanes1 i now) = ap (coming key_of cpu_of) (sym rows) ∙ next.used d now s in
    let rest = map key_of (to_come file (set lanes1 i now)) in
    record {
      stands = All-set (Stands file) lanes1 i now (stands_stepped file (get_or lanes1 i d) now s (All-get_or (Stands file) lanes1 i d lt still)) still;
      whole = ap (λ (ks : List ℕ). ks ++ rest) more ∙ append_assoc keys (key ∷ []) rest ∙ ap (λ (n : ℕ). keys ++ n ∷ rest) (sym same) ∙ ap (λ (xs : List Keyed). keys ++ map key_of xs) (sym come) ∙ gone.whole;
    }
  where
    some_is : {n m : ℕ} → Some n ≡ Some m → n ≡ m
    some_is e = cc

-- at the end
pub all_gone : (l : Layout) (told now_told : Option (List ℕ)) (first lanes lanes1 : List Lane) (keys : List ℕ) (end : Next) → now_told ≡ told → ((i : ℕ) → end ≡ code.Lane i → ⊥) → All (HasLayout l) lanes1 → parts_of lanes1 ≡ parts_of lanes → parts_of lanes ≡ parts_of first
    → IfSome told (λ file. Gone l file first lanes keys)
    → IfSome now_told (λ file. rows_of file lanes1 ≡ rows_of file lanes)
    → IfSome now_told (λ file. All (Stands file) lanes → IsNext file lanes1 end)
    → IfSome told (λ file. IsThrough l file (parts_of first) keys end)
all_gone l None now_told first lanes lanes1 keys end e never layouts p q gone rows next = tt
all_gone l (Some file) now_told first lanes lanes1 keys end e never layouts p q gone rows next =
    let rows : rows_of file lanes1 ≡ rows_of file lanes = subst (λ (o : Option (List ℕ)). IfSome o (λ file. rows_of file lanes1 ≡ rows_of file lanes)) e rows in
    let next : IsNext file lanes1 end = (subst (λ (o : Option (List ℕ)). IfSome o (λ file. All (Stands file) lanes → IsNext file lanes1 end)) e next) gone.stands in
    let cut : least_cut (rows_of file lanes1) ≡ cut_of l file (parts_of first) = cut_of_rows l file lanes1 layouts ∙ ap (cut_of l file) (p ∙ q) in
    by_end end never next (λ none. all none rows) cut
  where
    all : to_come file lanes1 ≡ [] → rows_of file lanes1 ≡ rows_of file lanes → keys ≡ map key_of (reached_of l file (parts_of first))
    all none rows =
        sym (append-nil keys) ∙ ap (λ (xs : List Keyed). keys ++ map key_of xs) (sym none ∙ ap (coming key_of cpu_of) rows) ∙ gone.whole

    by_end : (end : Next) → ((i : ℕ) → end ≡ code.Lane i → ⊥) → IsNext file lanes1 end → (to_come file lanes1 ≡ [] → keys ≡ map key_of (reached_of l file (parts_of first)))
        → least_cut (rows_of file lanes1) ≡ cut_of l file (parts_of first) → IsThrough l file (parts_of first) keys end
    by_end (code.Lane i) never next all cut = never i refl
    by_end code.Done never next all cut = (all next.0, sym cut ∙ next.1)
    by_end (code.Malformed place) never next all cut = (all next.0, (next.1.0, sym cut ∙ next.1.1))
