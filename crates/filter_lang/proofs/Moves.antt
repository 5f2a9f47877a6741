-- Each production goes forward.
use Rattle.std.proofs.Common.{ℕ, ◌<◌, ◌≤◌, List, length, arith}
use Rattle.filter_lang.specs.PlainToken.{PlainToken}
use Rattle.filter_lang.specs.Tree.{Tree, Operands}
use Rattle.filter_lang.specs.Condition.{IsLevel, alone, single, several, IsRow, no_more, goes_on, IsUnary, prefixed, bracketed, a_number, a_text, a_field}

mutual
  pub level_moves : {n l : ℕ} {ts rs : List PlainToken} {t : Tree} → IsLevel n l ts t rs → length rs < length ts
  level_moves (alone d) = unary_moves d
  level_moves (single d none) = level_moves d
  level_moves (several d is e r) = omega (arith, level_moves d, level_moves e, row_moves r)

  pub row_moves : {n l : ℕ} {ts rs : List PlainToken} {os : Operands} → IsRow n l ts os rs → length rs ≤ length ts
  row_moves (no_more none) = omega arith
  row_moves (goes_on is d r) = omega (arith, level_moves d, row_moves r)

  pub unary_moves : {n : ℕ} {ts rs : List PlainToken} {t : Tree} → IsUnary n ts t rs → length rs < length ts
  unary_moves (prefixed is d) = omega (arith, unary_moves d)
  unary_moves (bracketed d) = omega (arith, level_moves d)
  unary_moves a_number = omega arith
  unary_moves a_text = omega arith
  unary_moves a_field = omega arith
