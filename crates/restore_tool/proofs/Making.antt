-- The new file: written, finished or given up, and what is read from it.
use Rattle.std.proofs.Common.{◌≡◌, ℕ, ◌+◌, ◌-◌, ◌%◌, ◌^◌, ◌<◌, ◌≤◌, List, [], ◌∷◌, ◌++◌, length, take, drop, map, Option, Some, None, Result, Ok, Err, inl, refl, sym, ap, subst, ◌∙◌, append_assoc, arith}
use Rattle.std.specs.Option.{IfSome}
use Rattle.std.specs.FinMap.{insert}
use Rattle.std.specs.Io.KnownBytes.{append_known}
use Rattle.std.proofs.lemmas.List.{length-append, length-map, length-replicate, take_at, drop_at}
use Rattle.std.proofs.Math.Nat.{mod-eq_of_lt}
use Rattle.trace_base.specs.declared.part.Part.{Part}
use Rattle.trace_base.specs.Parts.{part_of}
use Rattle.trace_outside.specs.declared.counts.Counts.{Counts}
use Rattle.trace_outside.specs.Causes.{Rose, raised}
use Rattle.trace_outside.specs.Folders.{IsEmptySink, Stores}
use Rattle.trace_outside.specs.Names.{NamedFiles, stored}
use Rattle.trace_outside.specs.Writing.{Gained}
use Rattle.trace_outside.proofs.Gains.{gained_both}
use Rattle.trace_outside.specs.Seen.{FileSeen}
use Rattle.dat_header.specs.declared.header.Header.{Header}
use Rattle.dat_header.specs.Allowed.{IsHeader}
use Rattle.dat_header.specs.Tables.{blank}
use Rattle.dat_header.specs.Written.{header_text, written}
use Rattle.dat_header.proofs.HeaderLaws.{written_spelled}
use Rattle.dat_header.proofs.Tables.{same_len}
use Rattle.new_files.specs.Padding.{IsPage, up_to_page, zeros}
use Rattle.new_files.proofs.Placing.{no_less}
use Rattle.restore_tool.specs.declared.copying.DataFault.{DataFault}
use Rattle.restore_tool.specs.declared.copying.DataFault.TheVariants as code
use Rattle.restore_tool.specs.Copying.{CopiesAll, IsCaused}
use Rattle.restore_tool.specs.Restoring.{CreatesOne, Leaves, LeavesUnfinished}
use Rattle.restore_tool.specs.Restored.{IsRestored, data_behind, header_end, parts_behind, restored, table_of}

-- the data files after the header
pub wrote_all : (text behind : List ℕ) (old mid new : Option (List ℕ)) (result : Result Unit DataFault) → Gained old mid text → CopiesAll behind mid new result → CopiesAll (text ++ behind) old new result
wrote_all text behind old mid new (Ok done) first then = gained_both old mid new text behind first then
wrote_all text behind old mid new (Err fault) first then = tt

pub length-parts : (page place : ℕ) (sizes : List ℕ) → length (parts_behind page place sizes) ≡ length sizes
length-parts page place [] = refl
length-parts page place (size ∷ sizes) = let more = length-parts page (up_to_page page place + size) sizes in omega (arith, more)

pub length-table : (header : Header) (files : List (List ℕ)) → length (table_of header files) ≡ length files
length-table header files = length-parts header.page (header_end header) (map length files) ∙ length-map files length

-- a header is as long with the table of data files as before
pub same_end : (header : Header) (files : List (List ℕ)) → length files ≡ header.cpus → length (header_text header (table_of header files)) ≡ header_end header
unfolding header_end
same_end header files each = same_len header (table_of header files) (length-table header files ∙ each)

pub end_is : (header : Header) (parts : List Part) → length parts ≡ header.cpus → length (header_text header parts) ≡ header_end header
unfolding header_end
end_is header parts each = same_len header parts each

-- a place that is told of every table is that of the blank one
pub header_end_len : (header : Header) (len : ℕ) → ((parts : List Part) → length parts ≡ header.cpus → len ≡ length (header_text header parts) % 2 ^ 64) → len ≡ header_end header % 2 ^ 64
unfolding header_end
header_end_len header len is = is (blank header.cpus) (length-replicate {A = Part} header.cpus (part_of 0 0))

-- what was written with the table is the restored file
pub whole_is : (header : Header) (parts : List Part) (files : List (List ℕ)) → length parts ≡ header.cpus → parts ≡ table_of header files
    → header_text header parts ++ data_behind header.page (length (header_text header parts)) files ≡ restored header files
unfolding restored
whole_is header parts files each placed =
    ap (λ (n : ℕ). header_text header parts ++ data_behind header.page n files) (end_is header parts each)
    ∙ ap (λ (t : List ℕ). t ++ data_behind header.page (header_end header) files) (ap (header_text header) placed)

-- a sink that was empty has just what it gained
pub stored_is : (old mid new : Option NamedFiles) (name own text whole : List ℕ) (empty written : Option (List ℕ))
    → mid ≡ old → own ≡ name → IsEmptySink old empty → Gained empty written text → text ≡ whole → Stores mid new own written → IfSome old (λ named. new ≡ Some (insert named name whole))
stored_is None mid new name own text whole empty written files named made gained is stores = tt
stored_is (Some named) mid new name own text whole empty written files same made gained is stores =
    let has : written ≡ Some text = gained ∙ ap (λ (o : Option (List ℕ)). append_known o text) made in
    let put : new ≡ stored mid own text = subst (λ (o : Option (List ℕ)). IfSome o (λ bytes. new ≡ stored mid own bytes)) has stores in
    put ∙ ap (λ (m : Option NamedFiles). stored m own text) files ∙ ap (λ (n : List ℕ). Some (insert named n text)) same ∙ ap (λ (t : List ℕ). Some (insert named name t)) is

-- A FILE THAT WAS GIVEN UP

pub left_dropped : (header : Header) (files : List FileSeen) (name : List ℕ) (counts now_counts : Counts) (old new : Option NamedFiles) (fault : DataFault) → new ≡ old → Leaves header files name counts now_counts old new (Err fault)
left_dropped header files name counts now_counts old new (code.Read file) same = same
left_dropped header files name counts now_counts old new code.Write same = inl same

-- its faults are the folder's then
pub caused_dropped : (fault : DataFault) (before now : List FileSeen) (faults faults_now first mid last : ℕ) → first ≤ mid → (0 < faults_now → Rose mid last)
    → IsCaused (Err fault) before now faults faults_now → IsCaused (Err fault) before now first last
caused_dropped (code.Read file) before now faults faults_now first mid last later faulty caused = caused
caused_dropped code.Write before now faults faults_now first mid last later faulty caused =
    let rose = faulty (omega (arith, caused)) in
    omega (arith, rose, later)

pub created_dropped : (fault : DataFault) (before now : ℕ) → now ≡ raised before 1 → CreatesOne before now (Err fault)
created_dropped (code.Read file) before now one = one
created_dropped code.Write before now one = omega (arith, one)

pub unfinished_dropped : (fault : DataFault) (before now : ℕ) → now ≡ before → LeavesUnfinished before now (Err fault)
unfinished_dropped (code.Read file) before now same = same
unfinished_dropped code.Write before now same = (omega (arith, same), omega (arith, same))

-- WHAT IS READ FROM IT

abbrev part_bytes : List ℕ → Part → List ℕ
part_bytes bytes part = take part.size (drop part.offset bytes)

part_there : (bytes : List ℕ) (offset size : ℕ) → offset < 2 ^ 64 → size < 2 ^ 64 → part_bytes bytes (part_of offset size) ≡ take size (drop offset bytes)
unfolding part_of
part_there bytes offset size at long = ap (λ (n : ℕ). take n (drop (offset % 2 ^ 64) bytes)) (mod-eq_of_lt long) ∙ ap (λ (n : ℕ). take size (drop n bytes)) (mod-eq_of_lt at)

-- each part has just its data file
given_by : (page : ℕ) (front : List ℕ) (files : List (List ℕ)) → IsPage page → length front + length (data_behind page (length front) files) < 2 ^ 64
    → map (part_bytes (front ++ data_behind page (length front) files)) (parts_behind page (length front) (map length files)) ≡ files
given_by page front [] p short = refl
given_by page front (file ∷ files) p short =
    let place = length front in
    let up = up_to_page page place in
    let gap = zeros (up - place) in
    let more = data_behind page (up + length file) files in
    let missing = length-replicate {A = ℕ} (up - place) 0 in
    let least = no_less page place p in
    let long : length (front ++ gap) ≡ up = omega (arith, length-append front gap, missing, least) in
    let next = (front ++ gap) ++ file in
    let far : length next ≡ up + length file = omega (arith, length-append (front ++ gap) file, long) in
    let whole = front ++ (gap ++ (file ++ more)) in
    let parted : whole ≡ (front ++ gap) ++ (file ++ more) = sym (append_assoc front gap (file ++ more)) in
    let again : whole ≡ next ++ more = parted ∙ sym (append_assoc (front ++ gap) file more) in
    let ends : up + length file + length more < 2 ^ 64 = omega (arith, length-append gap (file ++ more), length-append file more, missing, least, short) in
    let here : part_bytes whole (part_of up (length file)) ≡ file =
    part_there whole up (length file) (omega (arith, ends)) (omega (arith, ends))
    ∙ ap (λ (bs : List ℕ). take (length file) (drop up bs)) parted
    ∙ ap (take (length file)) (drop_at (front ++ gap) (file ++ more) up long)
    ∙ take_at file more (length file) refl in
    let others = given_by page next files p (subst (λ (n : ℕ). n + length (data_behind page n files) < 2 ^ 64) (sym far) ends) in
    let rest : map (part_bytes whole) (parts_behind page (up + length file) (map length files)) ≡ files =
    ap (λ (bs : List ℕ). map (part_bytes bs) (parts_behind page (up + length file) (map length files))) again
    ∙ subst (λ (n : ℕ). map (part_bytes (next ++ data_behind page n files)) (parts_behind page n (map length files)) ≡ files) far others in
    ap (λ (f : List ℕ). f ∷ map (part_bytes whole) (parts_behind page (up + length file) (map length files))) here ∙ ap (λ (fs : List (List ℕ)). file ∷ fs) rest

pub reads_back : (header : Header) (files : List (List ℕ)) → IsHeader header → length files ≡ header.cpus → length (restored header files) < 2 ^ 64 → IsRestored header files (restored header files)
unfolding restored
reads_back header files allowed each short =
    let page : IsPage header.page = (allowed.page.0, allowed.page.2, allowed.page.3) in
    let parts = table_of header files in
    let text = header_text header parts in
    let same = same_end header files each in
    let behind = data_behind header.page (header_end header) files in
    let many : length parts ≡ header.cpus = length-table header files ∙ each in
    let given = subst (λ (n : ℕ). map (part_bytes (text ++ data_behind header.page n files)) (parts_behind header.page n (map length files)) ≡ files) same
    (given_by header.page text files page (subst (λ (n : ℕ). n + length (data_behind header.page n files) < 2 ^ 64) (sym same) (omega (arith, length-append text behind, same, short)))) in
    record {
      parts = parts;
      header_is = (text, written_spelled header parts allowed many, (behind, refl));
      placed = ap (λ (n : ℕ). parts_behind header.page n (map length files)) (sym same);
      behind = ap (λ (n : ℕ). text ++ data_behind header.page n files) (sym same);
      given = given;
    }
