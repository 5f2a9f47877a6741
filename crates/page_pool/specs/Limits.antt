-- How many lines regions keep.
use Rattle.std.specs.Prelude.{ℕ, nat_le, if◌then◌else◌}
use Rattle.page_pool.specs.declared.limit.LineLimit.{LineLimit}
use Rattle.page_pool.specs.declared.limit.LineLimit.TheVariants.{Few, Many}

-- how many lines are put before the region is to be empty again
abbrev pub most_of : LineLimit → ℕ
most_of Few = 64
most_of Many = 146

-- no region keeps more lines
abbrev pub most_lines : ℕ
most_lines = 146

-- the limit where there are so many lanes
abbrev pub limit_for : ℕ → LineLimit
limit_for lanes = if nat_le lanes 64 then Many else Few
