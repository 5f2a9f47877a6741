-- One lane that is made ready, while the others stay as they are.
use Rattle.std.proofs.Common.{◌≡◌, ◌≢◌, ℕ, ◌<◌, List, length, get_or, set, map, sym, ap, subst, ◌∙◌, arith, inl, inr}
use Rattle.std.proofs.lemmas.Bool.{cases_eq}
use Rattle.std.proofs.lemmas.List.{ext_get_or, get_or-map, get_or-set_same, get_or-set_other, length-map, length-set}
use Rattle.page_pool.specs.declared.lane.Lane.{Lane}
use Rattle.std.specs.List.{All}
use Rattle.tournament_tree.specs.declared.slot_key.SlotKey.{SlotKey}
use Rattle.tournament_tree.specs.declared.slot_key.SlotKey.TheVariants.{Empty}
use Rattle.time_merge.specs.LaneRows.{IsReady, next_of}
use Rattle.time_merge.specs.Nexts.{IsInStepBut}

pub ready_set : (R : Lane → Type 0) (lanes : List Lane) (i : ℕ) (now : Lane) → i < length lanes → R now
    → ((j : ℕ) (d : Lane) → j < length lanes → j ≢ i → R (get_or lanes j d))
    → (j : ℕ) (d : Lane) → j < length (set lanes i now) → R (get_or (set lanes i now) j d)
ready_set R lanes i now inside ready others j d lt = elim (cases_eq j i) as (λ _. R (get_or (set lanes i now) j d)) [
  | inl same ↦ subst R (sym (ap (λ (k : ℕ). get_or (set lanes i now) k d) same ∙ get_or-set_same lanes i now d inside)) ready
  | inr other ↦ subst R (sym (get_or-set_other lanes i j now d other)) (others j d (omega (arith, lt, length-set lanes i now)) other)
]

-- keys that are in step with lanes but for one, whose key is set
pub in_step_one : (f : Lane → SlotKey) (lanes now : List Lane) (keys : List SlotKey) (i : ℕ) (d : Lane) (key : SlotKey)
    → length keys ≡ length lanes → length now ≡ length lanes → i < length lanes
    → ((j : ℕ) (e : Lane) → j ≢ i → get_or now j e ≡ get_or lanes j e)
    → ((j : ℕ) (e : Lane) → j < length lanes → j ≢ i → get_or keys j Empty ≡ f (get_or lanes j e))
    → key ≡ f (get_or now i d) → set keys i key ≡ map f now
in_step_one f lanes now keys i d key long_keys long inside others in_step here =
    let size : length (set keys i key) ≡ length (map f now) = length-set keys i key ∙ long_keys ∙ sym long ∙ sym (length-map now f) in
    ext_get_or Empty (set keys i key) (map f now) size (λ j lt.
    let within : j < length lanes = omega (arith, lt, length-set keys i key, long_keys) in
    let mapped : get_or (map f now) j Empty ≡ f (get_or now j d) = get_or-map f now j d Empty (omega (arith, within, long)) in
    elim (cases_eq j i) as (λ _. get_or (set keys i key) j Empty ≡ get_or (map f now) j Empty) [
      | inl same ↦
          ap (λ (k : ℕ). get_or (set keys i key) k Empty) same ∙ get_or-set_same keys i key Empty (omega (arith, inside, long_keys)) ∙ here
          ∙ ap (λ (k : ℕ). f (get_or now k d)) (sym same) ∙ sym mapped
      | inr other ↦ get_or-set_other keys i j key Empty other ∙ in_step j d within other ∙ ap f (sym (others j d other)) ∙ sym mapped
    ])

-- once an item of one lane was used, the others are ready and in step
pub in_step_but : (lanes : List Lane) (keys : List SlotKey) (i : ℕ) (now : Lane) → i < length lanes
    → All IsReady lanes → keys ≡ map next_of lanes → IsInStepBut (set lanes i now) keys i
in_step_but lanes keys i now inside ready in_step = record {
  inside = omega (arith, inside, length-set lanes i now);
  ready = λ j d lt ne. subst IsReady (sym (get_or-set_other lanes i j now d ne)) (ready j d (omega (arith, lt, length-set lanes i now)));
  keys_are = λ j d lt ne.
      ap (λ (ks : List SlotKey). get_or ks j Empty) in_step ∙ get_or-map next_of lanes j d Empty (omega (arith, lt, length-set lanes i now))
      ∙ ap next_of (sym (get_or-set_other lanes i j now d ne));
}
