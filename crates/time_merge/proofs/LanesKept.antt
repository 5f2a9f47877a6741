-- What always holds of lanes, once one of them used up items.
use Rattle.std.proofs.Common.{◌≡◌, ℕ, ◌<◌, List, length, get_or, set, sym, ap, subst, ◌∙◌}
use Rattle.std.specs.List.{All}
use Rattle.std.proofs.lemmas.List.{length-set}
use Rattle.std.proofs.lemmas.List.Elements.{All-set, All-get_or}
use Rattle.trace_base.specs.declared.layout.Layout.{Layout}
use Rattle.trace_base.specs.declared.part.Part.{Part}
use Rattle.subpage.specs.Arrangement.{CpusRise}
use Rattle.page_pool.specs.declared.lane.Lane.{Lane}
use Rattle.tournament_tree.specs.declared.slot_key.SlotKey.{SlotKey}
use Rattle.time_merge.specs.LaneRows.{HasLayout, parts_of}
use Rattle.time_merge.specs.Nexts.{IsInStepBut}
use Rattle.time_merge.specs.Readiness.{AreInStep, AreKnown}
use Rattle.time_merge.specs.declared.readiness.Readiness.{Readiness}
use Rattle.time_merge.specs.declared.readiness.Readiness.TheVariants.{Ready}
use Rattle.time_merge.proofs.OneLane.{in_step_but}

pub all_known : (lanes : List Lane) (keys : List SlotKey) (r : Readiness) → r ≡ Ready → AreKnown lanes keys r → AreInStep lanes keys
all_known lanes keys r is known = subst (AreKnown lanes keys) is known

module _ (before : List Lane) (i : ℕ) (lane : Lane) (now : List Lane) (is : now ≡ set before i lane) where
  pub rise_set : parts_of (set before i lane) ≡ parts_of before → CpusRise (parts_of before) → CpusRise (parts_of now)
  rise_set same rise = subst (λ (ps : List (ℕ × Part)). CpusRise ps) (sym (ap parts_of is ∙ same)) rise

  pub slots_set : (keys : List SlotKey) → length keys ≡ length before → length keys ≡ length now
  slots_set keys slots = slots ∙ sym (ap length is ∙ length-set before i lane)

  pub known_set : (keys : List SlotKey) → i < length before → AreInStep before keys → IsInStepBut now keys i
  known_set keys lt all = subst (λ (lanes : List Lane). IsInStepBut lanes keys i) (sym is) (in_step_but before keys i lane lt all.ready all.keys_are)

  pub layouts_set : i < length before → (layout : Layout) → lane.layout ≡ (get_or before i lane).layout → All (HasLayout layout) before → All (HasLayout layout) now
  layouts_set lt layout same all =
      subst (λ (lanes : List Lane). All (HasLayout layout) lanes) (sym is)
      (All-set (HasLayout layout) before i lane (same ∙ All-get_or (HasLayout layout) before i lane lt all) all)
