-- The bytes of a new file, one after another, and what is read from them.
use Rattle.std.proofs.Common.{◌≡◌, ℕ, ◌+◌, ◌-◌, ◌*◌, ◌%◌, ◌^◌, ◌<◌, List, [], ◌∷◌, ◌++◌, length, map, refl, sym, ap, subst, ◌∙◌, append_assoc, arith}
use Rattle.std.specs.List.{All, flat_map}
use Rattle.std.specs.Prelude.{None}
use Rattle.std.proofs.Math.Nat.{mod-eq_of_lt}
use Rattle.std.proofs.lemmas.List.{length-append, length-replicate}
use Rattle.std.proofs.lemmas.List.Elements.{All-head, All-tail}
use Rattle.std.proofs.lemmas.Grind.{div_ceil_times}
use Rattle.trace_base.specs.declared.layout.Layout.{Layout}
use Rattle.trace_base.specs.declared.part.Part.{Part}
use Rattle.trace_base.specs.Layout.{IsLayout}
use Rattle.trace_base.specs.Parts.{part_of}
use Rattle.dat_header.specs.declared.header.Header.{Header}
use Rattle.dat_header.specs.Allowed.{IsHeader}
use Rattle.dat_header.specs.Header.{header_of}
use Rattle.dat_header.specs.Written.{header_text, written}
use Rattle.trace_base.proofs.Layouts.{carried}
use Rattle.dat_header.proofs.HeaderLaws.{reads_back, written_spelled}
use Rattle.subpage.specs.ItemData.{ItemData}
use Rattle.subpage.specs.Processor.{list_of, bad_of}
use Rattle.page_write.specs.PageBytes.{IsPackable}
use Rattle.page_write.specs.Record.{zeros}
use Rattle.page_write.specs.Pack.{packed, pack}
use Rattle.page_write.specs.Placed.{parts_from, data_of}
use Rattle.page_write.proofs.Lifting.{all_fit, file_again, pack_len}
use Rattle.split_tool.specs.NewFile.{front_len, front_text, table_of, file_text, StandInRow, ReadsBack}
use Rattle.split_tool.proofs.Placing.{page_some, front_of}

pub length-parts : (l : Layout) (at : ℕ) (lists : List (List ItemData)) → length (parts_from l at lists) ≡ length lists
unfolding parts_from
length-parts l at [] = refl
length-parts l at (xs ∷ lists) =
    let more = length-parts l (at + length (packed l xs) * l.page) lists in omega (arith, more)

pub length-table : (header : Header) (lists : List (List ItemData)) → length (table_of header lists) ≡ length lists
unfolding table_of
length-table header lists = length-parts header.layout (front_len header) lists

-- one more list
data_more : (l : Layout) (xs : List ItemData) (lists : List (List ItemData)) → IsLayout l → All (IsPackable l) xs
    → length (data_of l (xs ∷ lists)) ≡ length (packed l xs) * l.page + length (data_of l lists)
unfolding data_of
data_more l xs lists allowed ok = omega (arith, length-append (pack l xs) (flat_map (pack l) lists), pack_len l xs allowed ok)

data_none : (l : Layout) → length (data_of l []) ≡ 0
unfolding data_of
data_none l = refl

in_row : (l : Layout) (at to : ℕ) (lists : List (List ItemData)) → IsLayout l → All (All (IsPackable l)) lists → at + length (data_of l lists) ≡ to → to < 2 ^ 64
    → StandInRow at (parts_from l at lists) to
unfolding parts_from part_of
in_row l at to [] allowed ok is short = omega (arith, data_none l, is)
in_row l at to (xs ∷ lists) allowed ok is short =
    let size = length (packed l xs) * l.page in
    let more = data_more l xs lists allowed (All-head (All (IsPackable l)) xs lists ok) in
    let long : size % 2 ^ 64 ≡ size = mod-eq_of_lt (omega (arith, more, is, short)) in (
      mod-eq_of_lt (omega (arith, is, short)),
      subst (λ (n : ℕ). StandInRow (at + n) (parts_from l (at + size) lists) to) (sym long)
          (in_row l (at + size) to lists allowed (All-tail (All (IsPackable l)) xs lists ok) (omega (arith, more, is)) short),
    )

-- the front ends where the first sub-buffer stands
pub length-front : (header : Header) (parts : List Part) → IsHeader header → length parts ≡ header.cpus → length (front_text header parts) ≡ front_len header
unfolding front_text
length-front header parts allowed each =
    let text = header_text header parts in
    let whole = front_of header parts each in
    let most = (div_ceil_times (length text) header.page (page_some header.page allowed.page)).0 in
    omega (arith, length-append text (zeros (front_len header - length text)), length-replicate {A = ℕ} (front_len header - length text) 0, whole, most)

pub reads_back_all : (header : Header) (lists : List (List ItemData)) → IsHeader header → length lists ≡ header.cpus
    → All (All (IsPackable header.layout)) lists → length (file_text header lists) < 2 ^ 64 → ReadsBack header lists (file_text header lists)
unfolding file_text front_text table_of
reads_back_all header lists allowed each packable short =
    let layout = header.layout in
    let is_layout = carried header.layout in
    let parts = table_of header lists in
    let head = header_text header parts in
    let padding = zeros (front_len header - length head) in
    let stored = data_of layout lists in
    let front = front_text header parts in
    let parted : (head ++ padding) ++ stored ≡ head ++ (padding ++ stored) = append_assoc head padding stored in
    let many : length parts ≡ header.cpus = length-table header lists ∙ each in
    let front_long : length front ≡ front_len header = length-front header parts allowed many in
    let whole_long : length (front ++ stored) ≡ front_len header + length stored = omega (arith, length-append front stored, front_long) in
    let fit = all_fit layout lists (omega (arith, whole_long, short)) in
    let read = file_again layout front lists is_layout packable fit (omega (arith, front_long, whole_long, short)) in
    let placed = subst (λ at. (map (list_of layout (front ++ stored)) (parts_from layout at lists) ≡ lists)
    × (All (λ part. bad_of layout (front ++ stored) part ≡ None) (parts_from layout at lists))) front_long read in
    let row = in_row layout (front_len header) (length (front ++ stored)) lists is_layout packable (sym whole_long) short in
    let spells = written_spelled header parts allowed many in
    record {
      parts = parts;
      header_is = (head, spells, (padding ++ stored, parted));
      computed = ap header_of parted ∙ reads_back (written header parts) head (padding ++ stored) spells;
      items_are = placed.0;
      sound = placed.1;
      packed = stored;
      behind = refl;
      in_row = subst (λ at. StandInRow at parts (length (front ++ stored))) (front_of header parts many) row;
    }
