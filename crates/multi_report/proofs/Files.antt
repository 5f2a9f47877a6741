-- Several files gone through: what they keep, and what is left of them.
use Rattle.std.proofs.Common.{◌≡◌, ℕ, zero, suc, ◌+◌, ◌<◌, ◌≤◌, List, [], ◌∷◌, length, get_or, map, Option, Some, None, refl, sym, ap, subst, ◌∙◌, arith}
use Rattle.std.specs.Option.{IsSome, option_map}
use Rattle.std.specs.List.{All, fold, filter_map, cons_option}
use Rattle.std.proofs.lemmas.List.{get_or-map, length-map}
use Rattle.std.proofs.lemmas.List.Elements.{All-get_or, All-from_get_or, All-head, All-tail}
use Rattle.line_holes.specs.Holes.{LineText}
use Rattle.subpage.specs.Arrangement.{Keyed, key_of, cpu_of}
use Rattle.subpage.specs.ItemData.{ItemData}
use Rattle.page_pool.specs.Fresh.{IsFresh}
use Rattle.subpage.specs.Cut.{Cut, earlier}
use Rattle.page_pool.specs.declared.lane.Lane.{Lane}
use Rattle.event_cursor.specs.Standing.{Stands}
use Rattle.time_merge.specs.Rows.{Row, coming, least_cut}
use Rattle.time_merge.specs.LaneRows.{rows_of}
use Rattle.time_merge.proofs.PartReads.{all_inside}
use Rattle.time_merge.proofs.Starting.{cut_of_rows as one_cut, fresh_come, fresh_stands}
use Rattle.multi_report.specs.Order.{ShownFile, FileItem, FileCut, cut_in, key_in, file_in, numbered, numbered_from, own_cut, cut_of_files, reached}
use Rattle.multi_report.specs.Merge.{row_cut, row_with, file_row}
use Rattle.multi_report.specs.Sources.{SourceView, HasOwnLayouts, HasRoom, IsSame, IsKnown, IsFreshSource, Keeps, bytes_of, due, shown_of, left_row, to_come_of}
use Rattle.multi_report.specs.Reports.{AllReadTheirParts, AreSame}
use Rattle.multi_report.proofs.Merging.{Fits, FitsFile, fits_of, mark, cut_of_rows, reached_merged}
use Rattle.multi_report.proofs.FileRows.{rows_from}

-- a file is the same as itself
pub same_one : (s : SourceView) → IsSame s s
same_one s = record { shown = refl; told = refl; size = refl; faults = omega arith; reads = omega arith }

-- no more is due of any
abbrev pub NoMoreDue : List SourceView → List SourceView → Type 0
NoMoreDue first now = (i : ℕ) (d : SourceView) → i < length first → due (get_or now i d) ≤ due (get_or first i d)

same_further : (a b c : SourceView) → due b ≤ due a → IsSame a b → IsSame b c → IsSame a c
same_further a b c le p q = record {
  shown = q.shown ∙ p.shown;
  told = q.told ∙ p.told;
  size = q.size ∙ p.size;
  faults = omega (arith, p.faults, q.faults);
  reads = omega (arith, q.reads, le);
}

pub same_twice : (xs ys zs : List SourceView) → AreSame xs ys → NoMoreDue xs ys → AreSame ys zs → AreSame xs zs
same_twice xs ys zs p less q = record {
  count = q.count ∙ p.count;
  each = λ i d lt. same_further (get_or xs i d) (get_or ys i d) (get_or zs i d) (less i d lt) (p.each i d lt) (q.each i d (omega (arith, p.count, lt)));
}

pub due_twice : (xs ys zs : List SourceView) → length ys ≡ length xs → NoMoreDue xs ys → NoMoreDue ys zs → NoMoreDue xs zs
due_twice xs ys zs count p q i d lt = omega (arith, p i d lt, q i d (omega (arith, count, lt)))

pub same_shown : (xs ys : List SourceView) → AreSame xs ys → map shown_of ys ≡ map shown_of xs
same_shown [] [] same = refl
same_shown [] (y ∷ ys) same = absurd (omega (arith, same.count))
same_shown (x ∷ xs) [] same = absurd (omega (arith, same.count))
same_shown (x ∷ xs) (y ∷ ys) same =
    ap (λ (g : ShownFile). g ∷ map shown_of ys) (same.each 0 x (omega arith)).shown
    ∙ ap (λ (gs : List ShownFile). shown_of x ∷ gs) (same_shown xs ys (record { count = omega (arith, same.count); each = λ i d lt. same.each (suc i) d (omega (arith, lt)) }))

-- two lists whose elements are tied, place by place
abbrev pub Tied : (SourceView → SourceView → Type 0) → List SourceView → List SourceView → Type 0
Tied R xs ys = (i : ℕ) (d : SourceView) → i < length xs → R (get_or xs i d) (get_or ys i d)

tied_tail : (R : SourceView → SourceView → Type 0) (x y : SourceView) (xs ys : List SourceView) → Tied R (x ∷ xs) (y ∷ ys) → Tied R xs ys
tied_tail R x y xs ys h i d lt = h (suc i) d (omega (arith, lt))

-- what is so of the first is so of the second
tied_all : (R : SourceView → SourceView → Type 0) (P Q : SourceView → Type 0) → ((a b : SourceView) → R a b → P a → Q b) → (xs ys : List SourceView) → length ys ≡ length xs → Tied R xs ys → All P xs → All Q ys
tied_all R P Q f xs [] long tied all = λ i d lt. absurd (omega (arith, lt))
tied_all R P Q f xs (y ∷ ys) long tied all =
    All-from_get_or Q (y ∷ ys) y (λ i lt. f (get_or xs i y) (get_or (y ∷ ys) i y) (tied i y (omega (arith, long, lt))) (All-get_or P xs i y (omega (arith, long, lt)) all))

pub known_all : (xs ys : List SourceView) → length ys ≡ length xs → Tied Keeps xs ys → All IsKnown xs → All IsKnown ys
known_all = tied_all Keeps IsKnown IsKnown (λ a b k known. k.known known)

pub room_all : (room : ℕ) (xs ys : List SourceView) → AreSame xs ys → All (HasRoom room) xs → All (HasRoom room) ys
room_all room xs ys same =
    tied_all IsSame (HasRoom room) (HasRoom room)
    (λ a b s fits cpu item. subst (λ (text : ℕ → ItemData → LineText). length (text cpu item).bytes ≤ room) (sym (ap (λ (g : ShownFile). g.text) s.shown)) (fits cpu item)) xs ys same.count same.each

pub keeps_same : (xs ys : List SourceView) → length ys ≡ length xs → Tied Keeps xs ys → AreSame xs ys
keeps_same xs ys long tied = record { count = long; each = λ i d lt. (tied i d lt).same }

-- what is left stays
row_keeps : (n : ℕ) (a b : SourceView) → Keeps a b → IsKnown a → left_row (n, b) ≡ left_row (n, a)
row_keeps n a b k known = ap (λ (rows : List (Row Keyed)). row_with n (coming key_of cpu_of rows) (least_cut rows)) (k.rows known)

rows_keep : (n : ℕ) (xs ys : List SourceView) → length ys ≡ length xs → Tied Keeps xs ys → All IsKnown xs → rows_from n ys ≡ rows_from n xs
rows_keep n [] [] long tied known = refl
rows_keep n [] (y ∷ ys) long tied known = absurd (omega (arith, long))
rows_keep n (x ∷ xs) [] long tied known = absurd (omega (arith, long))
rows_keep n (x ∷ xs) (y ∷ ys) long tied known =
    ap (λ (r : Row FileItem). r ∷ rows_from (n + 1) ys) (row_keeps n x y (tied 0 x (omega arith)) (All-head IsKnown x xs known))
    ∙ ap (λ (rs : List (Row FileItem)). left_row (n, x) ∷ rs) (rows_keep (n + 1) xs ys (omega (arith, long)) (tied_tail Keeps x y xs ys tied) (All-tail IsKnown x xs known))

pub left_keeps : (xs ys : List SourceView) → length ys ≡ length xs → Tied Keeps xs ys → All IsKnown xs → to_come_of ys ≡ to_come_of xs
unfolding to_come_of
left_keeps xs ys long tied known = ap (coming key_in file_in) (rows_keep 0 xs ys long tied known)

-- before the first item all reached items are left
fresh_row : (n : ℕ) (s : SourceView) → HasOwnLayouts s → IsFreshSource s → left_row (n, s) ≡ file_row (n, shown_of s)
fresh_row n s layouts fresh =
    ap (λ (xs : List Keyed). row_with n xs (least_cut (rows_of (bytes_of s) s.lanes))) (fresh_come s.layout (bytes_of s) s.lanes layouts fresh)
    ∙ ap (row_with n _) (one_cut s.layout (bytes_of s) s.lanes layouts)

fresh_rows : (n : ℕ) (sources : List SourceView) → All HasOwnLayouts sources → All IsFreshSource sources → rows_from n sources ≡ map file_row (numbered_from n (map shown_of sources))
fresh_rows n [] layouts fresh = refl
fresh_rows n (s ∷ sources) layouts fresh =
    ap (λ (r : Row FileItem). r ∷ rows_from (n + 1) sources) (fresh_row n s (All-head HasOwnLayouts s sources layouts) (All-head IsFreshSource s sources fresh))
    ∙ ap (λ (rs : List (Row FileItem)). file_row (n, shown_of s) ∷ rs) (fresh_rows (n + 1) sources (All-tail HasOwnLayouts s sources layouts) (All-tail IsFreshSource s sources fresh))

pub fresh_left : (sources : List SourceView) → All HasOwnLayouts sources → All IsFreshSource sources → to_come_of sources ≡ reached (map shown_of sources)
unfolding to_come_of
fresh_left sources layouts fresh = ap (coming key_in file_in) (fresh_rows 0 sources layouts fresh) ∙ sym (reached_merged (map shown_of sources))

fresh_known : (s : SourceView) → IsSome s.told → HasOwnLayouts s → IsFreshSource s → IsKnown s
fresh_known s told layouts fresh = record { told = told; layouts = layouts; stands = all s.lanes fresh }
  where
    all : (lanes : List Lane) → All (λ (lane : Lane). IsFresh lane.cursor) lanes → All (Stands (bytes_of s)) lanes
    all [] f = λ i d lt. absurd (omega (arith, lt))
    all (a ∷ lanes) f = All-from_get_or (Stands (bytes_of s)) (a ∷ lanes) a (λ i lt. fresh_stands (bytes_of s) (get_or (a ∷ lanes) i a) (All-get_or (λ (lane : Lane). IsFresh lane.cursor) (a ∷ lanes) i a lt f))

pub all_fresh_known : (sources : List SourceView) → All HasOwnLayouts sources → All IsFreshSource sources → All (λ source. IsSome source.told) sources → All IsKnown sources
all_fresh_known [] layouts fresh told = λ i d lt. absurd (omega (arith, lt))
all_fresh_known (s ∷ sources) layouts fresh told =
    All-from_get_or IsKnown (s ∷ sources) s (λ i lt. fresh_known (get_or (s ∷ sources) i s) (All-get_or (λ (x : SourceView). IsSome x.told) (s ∷ sources) i s lt told) (All-get_or HasOwnLayouts (s ∷ sources) i s lt layouts) (All-get_or IsFreshSource (s ∷ sources) i s lt fresh))

-- whatever ended a report, no more was read of each file than the parts of its lanes have
pub parts_read : (xs ys : List SourceView) → AreSame xs ys → AllReadTheirParts xs ys
parts_read xs ys same i d lt =
    let s = get_or xs i d in
    omega (arith, (same.each i d lt).reads, all_inside s.size s.lanes)

-- the least cut, by the file that it comes from
cuts_left : (n : ℕ) (sources : List SourceView) → All HasOwnLayouts sources → map (λ (r : Row FileItem). r.cut) (rows_from n sources) ≡ map (λ (r : Row FileItem). r.cut) (map file_row (numbered_from n (map shown_of sources)))
cuts_left n [] layouts = refl
cuts_left n (s ∷ sources) layouts =
    ap (λ (c : Option Cut). option_map (row_cut n) c ∷ map (λ (r : Row FileItem). r.cut) (rows_from (n + 1) sources)) (one_cut s.layout (bytes_of s) s.lanes (All-head HasOwnLayouts s sources layouts))
    ∙ ap (λ (cs : List (Option Cut)). option_map (row_cut n) (own_cut (shown_of s)) ∷ cs) (cuts_left (n + 1) sources (All-tail HasOwnLayouts s sources layouts))

same_cuts : (xs ys : List (Row FileItem)) → map (λ (r : Row FileItem). r.cut) xs ≡ map (λ (r : Row FileItem). r.cut) ys → least_cut xs ≡ least_cut ys
same_cuts xs ys e = of_cuts xs ∙ ap (λ (cs : List (Option Cut)). fold earlier None (filter_map (λ c. c) cs)) e ∙ sym (of_cuts ys)
  where
    plain : (xs : List (Row FileItem)) → filter_map (λ (r : Row FileItem). r.cut) xs ≡ filter_map (λ (c : Option Cut). c) (map (λ (r : Row FileItem). r.cut) xs)
    plain [] = refl
    plain (r ∷ xs) = ap (cons_option r.cut) (plain xs)

    of_cuts : (xs : List (Row FileItem)) → least_cut xs ≡ fold earlier None (filter_map (λ (c : Option Cut). c) (map (λ (r : Row FileItem). r.cut) xs))
    of_cuts xs = ap (fold earlier None) (plain xs)

left_cut : (sources : List SourceView) → All HasOwnLayouts sources → least_cut (rows_from 0 sources) ≡ option_map mark (cut_of_files (map shown_of sources))
left_cut sources layouts = same_cuts (rows_from 0 sources) (map file_row (numbered (map shown_of sources))) (cuts_left 0 sources layouts) ∙ cut_of_rows (map shown_of sources)

pub no_cut : (sources : List SourceView) → All HasOwnLayouts sources → least_cut (rows_from 0 sources) ≡ None → cut_of_files (map shown_of sources) ≡ None
no_cut sources layouts e = of_none (cut_of_files (map shown_of sources)) (sym (left_cut sources layouts) ∙ e)
  where
    of_none : (o : Option FileCut) → option_map mark o ≡ None → o ≡ None
    of_none None e = refl
    of_none (Some a) e = absurd cc

numbered_at : (P : ℕ × ShownFile → Type 0) (n : ℕ) (files : List ShownFile) (j k : ℕ) (d : ShownFile) → j < length files → k ≡ n + j → All P (numbered_from n files) → P (k, get_or files j d)
numbered_at P n [] j k d lt e h = absurd (omega arith)
numbered_at P n (g ∷ files) zero k d lt e h = let same : n ≡ k = omega (arith, e) in subst (λ (m : ℕ). P (m, g)) same (All-head P (n, g) (numbered_from (n + 1) files) h)
numbered_at P n (g ∷ files) (suc j) k d lt e h = numbered_at P (n + 1) files j k d (omega arith) (omega (arith, e)) (All-tail P (n, g) (numbered_from (n + 1) files) h)

pub one_cut_is : (sources : List SourceView) (j : ℕ) (d : SourceView) (cut : Cut) → All HasOwnLayouts sources → j < length sources → least_cut (rows_from 0 sources) ≡ Some (row_cut j cut)
    → least_cut (rows_of (bytes_of (get_or sources j d)) (get_or sources j d).lanes) ≡ Some cut
    → cut_of_files (map shown_of sources) ≡ Some (cut_in j cut)
one_cut_is sources j d cut layouts lt least is =
    let s = get_or sources j d in
    let files = map shown_of sources in
    let own : own_cut (shown_of s) ≡ Some cut = sym (one_cut s.layout (bytes_of s) s.lanes (All-get_or HasOwnLayouts sources j d lt layouts)) ∙ is in
    let shown : get_or files j (shown_of d) ≡ shown_of s = get_or-map shown_of sources j d (shown_of d) lt in
    let fits : Fits (cut_of_files files) j (own_cut (get_or files j (shown_of d))) = numbered_at (FitsFile (cut_of_files files)) 0 files j j (shown_of d) (omega (arith, length-map sources shown_of, lt)) (omega arith) (fits_of files) in
    by (cut_of_files files) (sym (left_cut sources layouts) ∙ least) (subst (Fits (cut_of_files files) j) (ap own_cut shown ∙ own) fits)
  where
    by : (o : Option FileCut) → option_map mark o ≡ Some (row_cut j cut) → Fits o j (Some cut) → o ≡ Some (cut_in j cut)
    by None e fits = absurd cc
    by (Some a) e fits =
        let file : a.file ≡ j = file_of e in
        let same : cut ≡ a.cut = cut_same (fits.same (sym file)) in
        ap (λ (n : ℕ). Some (cut_in n a.cut)) file ∙ ap (λ (c : Cut). Some (cut_in j c)) (sym same)
      where
        some_cut : {x y : Cut} → Some x ≡ Some y → x ≡ y
        some_cut e = cc

        file_of : Some (mark a) ≡ Some (row_cut j cut) → a.file ≡ j
        file_of e = ap (λ (c : Cut). c.cpu) (some_cut e)

        cut_same : Some cut ≡ Some a.cut → cut ≡ a.cut
        cut_same e = some_cut e
