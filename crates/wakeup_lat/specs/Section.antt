-- The section of the latencies. Its layout is this project's own.
use Rattle.std.specs.Prelude.{ℕ, Bool, List, [], ◌∷◌, ◌++◌, codes, length, flat_map}
use Rattle.std.specs.Fmt.{decimal}
use Rattle.line_columns.specs.Columns.{duration_text, bare_time_text}
use Rattle.report_print.specs.ContextData.{ContextData}
use Rattle.report_print.specs.Ending.{closed}
use Rattle.report_print.specs.Line.{prefix_text}
use Rattle.wakeup_pairs.specs.declared.wakeup_item.Pair.{Pair}
use Rattle.wakeup_pairs.specs.Figures.{latency, average, longest, shortest}

abbrev pub count_line : ℕ → List ℕ
count_line count = codes "wakeups=" ++ (decimal count ++ codes "\n")

-- a pair: the columns of its switch, with the task that waited, and how long that did
unfoldable pub pair_text : ContextData → Pair → List ℕ
pair_text given pair =
    prefix_text given pair.cpu pair.time pair.common ++ (codes "latency " ++ duration_text (latency pair))

abbrev pub pair_line : ContextData → Pair → List ℕ
pair_line given pair = closed (pair_text given pair)

unfoldable pub average_line : ℕ → List ℕ
average_line nanos = codes "average " ++ (duration_text nanos ++ codes "\n")

-- a pair's latency, with the time of its switch
unfoldable pub extreme_line : List ℕ → Bool → Pair → List ℕ
extreme_line name full pair =
    name ++ (duration_text (latency pair) ++ (codes " at " ++ (bare_time_text full pair.time ++ codes "\n")))

abbrev pub figures : Bool → List Pair → List ℕ
figures full [] = []
figures full (first ∷ rest) =
    average_line (average (first ∷ rest))
    ++ (extreme_line (codes "maximum ") full (longest first rest) ++ extreme_line (codes "minimum ") full (shortest first rest))

-- the number of pairs, the line of each, and where there is one the average and the extremes
abbrev pub section_by : (Pair → List ℕ) → Bool → List Pair → List ℕ
section_by line full pairs = count_line (length pairs) ++ (flat_map line pairs ++ figures full pairs)

abbrev pub section : ContextData → List Pair → List ℕ
section given pairs = section_by (pair_line given) given.show.line.full pairs
