-- What all limits have in common.
use Rattle.std.proofs.Common.{◌<◌, ◌≤◌, arith}
use Rattle.page_pool.specs.declared.limit.LineLimit.{LineLimit}
use Rattle.page_pool.specs.declared.limit.LineLimit.TheVariants.{Few, Many}
use Rattle.page_pool.specs.Limits.{most_lines, most_of}

pub some_lines : (limit : LineLimit) → 0 < most_of limit
some_lines Few = omega arith
some_lines Many = omega arith

pub few_lines : (limit : LineLimit) → most_of limit ≤ most_lines
few_lines Few = omega arith
few_lines Many = omega arith
