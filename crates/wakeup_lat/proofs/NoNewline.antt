-- A pair's text does not end in a newline.
use Rattle.std.proofs.Common.{◌≡◌, ℕ, ◌/◌, ◌%◌, false, List, [], ◌∷◌, ◌++◌, Option, Some, None, refl, sym, ap, ◌∙◌, append_assoc}
use Rattle.std.specs.Prelude.{codes}
use Rattle.std.specs.Fmt.{decimal}
use Rattle.std.specs.List.{last_or}
use Rattle.line_columns.specs.Columns.{duration_text, zeros}
use Rattle.report_print.specs.ContextData.{ContextData}
use Rattle.report_print.specs.Ending.{is_newline, ends_in_newline}
use Rattle.report_print.specs.Line.{prefix_text}
use Rattle.wakeup_pairs.specs.declared.wakeup_item.Pair.{Pair}
use Rattle.wakeup_pairs.specs.Figures.{latency}
use Rattle.wakeup_lat.specs.Section.{pair_text}

last_of : (xs : List ℕ) (o : Option ℕ) → last_or o (xs ++ codes " us") ≡ Some 115
last_of [] o = refl
last_of (x ∷ xs) o = last_of xs (Some x)

pub no_newline : (given : ContextData) (pair : Pair) → ends_in_newline (pair_text given pair) ≡ false
unfolding ends_in_newline pair_text duration_text
no_newline given pair =
    let nanos = latency pair in
    let front = prefix_text given pair.cpu pair.time pair.common in
    let parted : front ++ (codes "latency " ++ (decimal (nanos / 1000) ++ (codes "." ++ (zeros 3 (decimal (nanos % 1000)) ++ codes " us"))))
    ≡ (front ++ (codes "latency " ++ (decimal (nanos / 1000) ++ (codes "." ++ zeros 3 (decimal (nanos % 1000)))))) ++ codes " us" =
    sym (append_assoc front (codes "latency " ++ (decimal (nanos / 1000) ++ (codes "." ++ zeros 3 (decimal (nanos % 1000))))) (codes " us")
    ∙ ap (λ (l : List ℕ). front ++ (codes "latency " ++ l)) (append_assoc (decimal (nanos / 1000)) (codes "." ++ zeros 3 (decimal (nanos % 1000))) (codes " us"))) in
    ap (λ (l : List ℕ). is_newline (last_or None l)) parted
    ∙ ap is_newline (last_of (front ++ (codes "latency " ++ (decimal (nanos / 1000) ++ (codes "." ++ zeros 3 (decimal (nanos % 1000)))))) None)
