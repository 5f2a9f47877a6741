-- Which items matter to the latencies.
use Rattle.std.specs.Prelude.{◌≡◌, ℕ, Bool, true, false, map}
use Rattle.subpage.specs.ItemData.{ItemData}
use Rattle.report_print.specs.ContextData.{ContextData}
use Rattle.wakeup_pairs.specs.declared.wakeup_item.WakeupItem.{WakeupItem}
use Rattle.wakeup_pairs.specs.declared.wakeup_item.WakeupItem.TheVariants.{Wakes, Switches, Lost, Other}
use Rattle.wakeup_lat.specs.declared.wakeup_gatherer.WakeupGatherer.{WakeupGatherer}
use Rattle.wakeup_lat.specs.Roles.{role_of, seen_in}

-- the roles are those of the context's formats
abbrev pub HasRoles : WakeupGatherer → Type 0
HasRoles gatherer = gatherer.roles.now ≡ map role_of gatherer.context.now.formats

abbrev pub is_seen : WakeupItem → Bool
is_seen (Wakes wake) = true
is_seen (Switches switch) = true
is_seen Lost = true
is_seen Other = false

-- whether an item of a processor matters
abbrev pub matters : ContextData → ℕ → ItemData → Bool
matters given cpu item = is_seen (seen_in given cpu item)
