-- The one line that a self-test prints of a report.
-- Source: this project.
use Rattle.std.specs.Prelude.{ℕ, ◌+◌, ◌*◌, ◌%◌, ◌==◌, List, [], ◌∷◌, length, codes}
use Rattle.std.specs.List.{concat, count_by, sum_by, enumerate_from}
use Rattle.std.specs.Fmt.{decimal}

-- the number of newlines
abbrev pub line_count : List ℕ → ℕ
line_count report = count_by (λ byte. byte == 10) report

-- each byte, by its place modulo 1,000, counted from 1
abbrev pub weight : ℕ × ℕ → ℕ
weight x = x.1 * (1 + x.0 % 1000)

abbrev pub weighted_sum : List ℕ → ℕ
weighted_sum report = sum_by weight (enumerate_from 0 report)

abbrev pub summary_line : ℕ → ℕ → List ℕ → List ℕ
summary_line seed events report = concat (
    codes "selftest seed=" ∷ decimal seed
    ∷ codes " events=" ∷ decimal events
    ∷ codes " lines=" ∷ decimal (line_count report)
    ∷ codes " bytes=" ∷ decimal (length report)
    ∷ codes " sum=" ∷ decimal (weighted_sum report)
    ∷ codes "\n" ∷ [])
