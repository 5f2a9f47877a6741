-- Zero bytes up to a multiple of a page.
-- Source: trace-cmd.dat.v6(5), flyrecord: the data of each processor begin at a multiple of the page size.
use Rattle.std.specs.Prelude.{◌≡◌, ℕ, ◌*◌, ◌^◌, ◌≤◌, List, replicate}
use Rattle.std.specs.Int.{div_ceil}

abbrev pub zeros : ℕ → List ℕ
zeros n = replicate n 0

-- the first multiple of a page that is not before a place
abbrev pub up_to_page : ℕ → ℕ → ℕ
up_to_page page place = div_ceil place page * page

-- a power of two, so that numbers which wrap at 2^64 have the same rest by it
abbrev pub IsPage : ℕ → Type 0
IsPage page = (power : ℕ) × (power ≤ 16) × (page ≡ 2 ^ power)
