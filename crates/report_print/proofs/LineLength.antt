-- No line has more than 65,537 bytes.
use Rattle.std.proofs.Common.{ℕ, ◌≤◌, ◌-◌, Bool, true, false, cond, List, length, take, inl, inr, arith, length-append}
use Rattle.std.specs.Prelude.{codes}
use Rattle.std.proofs.lemmas.Bool.{lt-ltb, le-ltb, cases_lt}
use Rattle.std.proofs.lemmas.List.{length-take}
use Rattle.report_print.specs.Ending.{closed, chomped, ends_in_newline}

chomped_short : (text : List ℕ) → length (chomped text) ≤ length text
chomped_short text = by_end (ends_in_newline text)
  where
    by_end : (newline : Bool) → length (cond newline (take (length text - 1) text) text) ≤ length text
    by_end true = omega (arith, length-take (length text - 1) text)
    by_end false = omega arith

pub closed_short : (text : List ℕ) → length (closed text) ≤ 65537
unfolding closed
closed_short text = elim (cases_lt 65536 (length text)) [
  | inl less ↦ rw (lt-ltb 65536 (length text) less) (omega (arith, length-append (take 65533 text) (codes "...\n"), length-take 65533 text))
  | inr le ↦ rw (le-ltb 65536 (length text) le) (omega (arith, length-append (chomped text) (codes "\n"), chomped_short text))
]
