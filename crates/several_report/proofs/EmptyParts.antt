-- Parts that have no bytes: the report of several files without them is the report of all parts.
use Rattle.std.proofs.Common.{◌≡◌, ◌+◌, ℕ, List, [], ◌∷◌, ◌++◌, map, Option, refl, sym, ap, ◌∙◌}
use Rattle.std.specs.Prelude.{filter, filter_map, flat_map, fold, None, Some, slice_get, unwrap_or}
use Rattle.std.specs.List.{cons_option}
use Rattle.std.specs.Option.{option_map}
use Rattle.std.proofs.lemmas.List.Concat.{flat_map-cons}
use Rattle.std.proofs.lemmas.Option.{slice_get-map}
use Rattle.subpage.specs.Arrangement.{Keyed, by_key}
use Rattle.subpage.specs.Cut.{Cut}
use Rattle.subpage.proofs.EmptyParts as parts
use Rattle.multi_report.specs.Order.{FileCut, FileItem, ShownFile, arranged, cut_in, cut_of_files, in_file, is_up_to, items_of, key_in, numbered_from, own_cut, own_cut_in, reached, sooner}
use Rattle.multi_report.specs.Reports.{head_line, line_in, line_of, lines, pieces}
use Rattle.run_endings.specs.Meaning.{prints}
use Rattle.several_report.specs.Meaning.{ended_in, files_report}
use Rattle.several_report.specs.Opened.{without_empty}

cuts_same : (n : ℕ) (files : List ShownFile) → filter_map own_cut_in (numbered_from n (map without_empty files)) ≡ filter_map own_cut_in (numbered_from n files)
cuts_same n [] = refl
cuts_same n (file ∷ files) =
    ap (λ (cut : Option Cut). cons_option (option_map (cut_in n) cut) (filter_map own_cut_in (numbered_from (n + 1) (map without_empty files)))) (parts.cut_same file.layout file.bytes file.parts)
    ∙ ap (cons_option (option_map (cut_in n) (own_cut file))) (cuts_same (n + 1) files)

pub cut_same : (files : List ShownFile) → cut_of_files (map without_empty files) ≡ cut_of_files files
unfolding cut_of_files
cut_same files = ap (fold sooner None) (cuts_same 0 files)

items_same : (n : ℕ) (files : List ShownFile) → flat_map items_of (numbered_from n (map without_empty files)) ≡ flat_map items_of (numbered_from n files)
items_same n [] = refl
items_same n (file ∷ files) =
    flat_map-cons items_of (n, without_empty file) (numbered_from (n + 1) (map without_empty files))
    ∙ ap (λ (keyed : List Keyed). map (in_file n) keyed ++ flat_map items_of (numbered_from (n + 1) (map without_empty files))) (parts.keyed_same file.layout file.bytes file.parts)
    ∙ ap (λ (items : List FileItem). items_of (n, file) ++ items) (items_same (n + 1) files)
    ∙ sym (flat_map-cons items_of (n, file) (numbered_from (n + 1) files))

arranged_same : (files : List ShownFile) → arranged (map without_empty files) ≡ arranged files
unfolding arranged
arranged_same files = ap (by_key key_in) (items_same 0 files)

reached_same : (files : List ShownFile) → reached (map without_empty files) ≡ reached files
unfolding reached
reached_same files =
    ap (λ (cut : Option FileCut). filter (is_up_to cut) (arranged (map without_empty files))) (cut_same files)
    ∙ ap (filter (is_up_to (cut_of_files files))) (arranged_same files)

line_same : (files : List ShownFile) (x : FileItem) → line_in (map without_empty files) x ≡ line_in files x
line_same files x =
    ap (λ (file : Option ShownFile). unwrap_or (option_map (λ file. line_of file x.item) file) []) (slice_get-map without_empty files x.file)
    ∙ same_line (slice_get files x.file)
  where
    same_line : (file : Option ShownFile) → unwrap_or (option_map (λ file. line_of file x.item) (option_map without_empty file)) [] ≡ unwrap_or (option_map (λ file. line_of file x.item) file) []
    same_line None = refl
    same_line (Some file) = refl

lines_same : (files : List ShownFile) (items : List FileItem) → lines (map without_empty files) items ≡ lines files items
unfolding lines
lines_same files [] = refl
lines_same files (x ∷ items) =
    ap (λ (line : List ℕ). line ∷ map (line_in (map without_empty files)) items) (line_same files x)
    ∙ ap (λ (rest : List (List ℕ)). line_in files x ∷ rest) (lines_same files items)

heads_same : (files : List ShownFile) → map head_line (map without_empty files) ≡ map head_line files
heads_same [] = refl
heads_same (file ∷ files) = ap (λ (rest : List (List ℕ)). head_line file ∷ rest) (heads_same files)

pieces_same : (files : List ShownFile) → pieces (map without_empty files) ≡ pieces files
pieces_same files =
    ap (λ (heads : List (List ℕ)). heads ++ lines (map without_empty files) (reached (map without_empty files))) (heads_same files)
    ∙ ap (λ (all : List (List ℕ)). map head_line files ++ all) (lines_same files (reached (map without_empty files)) ∙ ap (lines files) (reached_same files))

pub report_same : (files : List ShownFile) → files_report (map without_empty files) ≡ files_report files
report_same files =
    ap (λ (all : List (List ℕ)). prints all (ended_in (cut_of_files (map without_empty files)))) (pieces_same files)
    ∙ ap (λ (cut : Option FileCut). prints (pieces files) (ended_in cut)) (cut_same files)
