-- A generator on its way.
use Rattle.std.specs.Prelude.{◌≡◌, ◌<◌, ℕ, ◌*◌, length, slice_index}
use Rattle.subpage.specs.ItemData.{ItemData, EventAt}
use Rattle.trace_gen.specs.declared.generator.Generator.{Generator}
use Rattle.trace_gen.specs.declared.generator.Generated.{Generated}
use Rattle.trace_gen.specs.Generated.{state, time_behind}

-- it has made the first n events
pub record IsAt (seed : ℕ) (generator : Generator) (n : ℕ) : Type 0 where
  pub state_is : generator.state ≡ state seed (4 * n)
  pub made : generator.made ≡ n
  pub four : length generator.times ≡ 4
  pub times : (cpu : ℕ) → cpu < 4 → slice_index generator.times cpu ≡ time_behind seed cpu n

abbrev pub generated_view : Generated → ItemData
generated_view event = EventAt event.time event.payload
