-- Numbers of 64 bits.
use Rattle.std.specs.Prelude.{ℕ, ◌<◌, ◌^◌}

-- both are
pub record AreWords (offset size : ℕ) : Type 0 where
  pub offset_fits : offset < 2 ^ 64
  pub size_fits : size < 2 ^ 64
