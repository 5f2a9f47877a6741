-- What is read of the partial file and of the data files.
use Rattle.std.specs.Prelude.{IfOk}
use Rattle.std.proofs.Common.{◌≡◌, ◌≤◌, ◌+◌, ℕ, suc, List, [], ◌∷◌, length, get_or, map, Option, Some, None, Result, Ok, Err, refl, sym, ap, subst, ◌∙◌, arith}
use Rattle.std.specs.Option.{IfSome}
use Rattle.std.specs.Prelude.{option_and_then}
use Rattle.std.specs.List.{All, sum_by}
use Rattle.std.specs.FinMap.{get}
use Rattle.std.proofs.lemmas.List.{length-map}
use Rattle.std.proofs.lemmas.List.Elements.{All-cons, All-head, All-nil, All-tail, All-weaker}
use Rattle.std.proofs.lemmas.List.Sums.{sum_by-cons}
use Rattle.trace_outside.specs.Causes.{raised}
use Rattle.trace_outside.specs.Folders.{IsFileOf}
use Rattle.trace_outside.specs.Names.{NamedFiles}
use Rattle.trace_outside.specs.Seen.{FileSeen}
use Rattle.trace_outside.specs.Open.{AreFilesOf, IsUnused}
use Rattle.dat_options.specs.declared.fault.OpenFault.{OpenFault}
use Rattle.dat_options.specs.declared.fault.OpenFault.TheVariants.{Read, Memory}
use Rattle.dat_header.specs.declared.header.Header.{Header}
use Rattle.dat_header.specs.Partial.{ReadsPartial, partial_of}
use Rattle.restore_tool.specs.declared.named.RestoreFault.{RestoreFault}
use Rattle.restore_tool.specs.declared.named.RestoreFault.TheVariants as code
use Rattle.restore_tool.specs.Answers.{IfMade, fault_of_open}
use Rattle.restore_tool.specs.Copying.{AllKeep, Keeps}
use Rattle.restore_tool.specs.Meaning.{NamesData, texts_of}
use Rattle.restore_tool.specs.Reads.{DataWithin, IsReadOnce, ReadsOnce, reads_of}

-- FILES AND THEIR SIZES

-- as many bytes as it tells
abbrev pub IsSized : FileSeen → Type 0
IsSized file = IfSome file.bytes (λ bytes. length bytes ≡ file.size)

all_sized : {F : Type 0} (f : F → FileSeen) (files : List F) → ((file : F) → IsSized (f file)) → All IsSized (map f files)
all_sized f [] sized = All-nil IsSized
all_sized f (file ∷ files) sized = All-cons IsSized (f file) (map f files) (sized file) (all_sized f files sized)

pub unused_once : (files : List FileSeen) → All IsUnused files → All IsReadOnce files
unused_once files unused = All-weaker IsUnused IsReadOnce (λ file none. by_bytes file.bytes file.reads none.reads) files unused
  where
    by_bytes : (told : Option (List ℕ)) (reads : ℕ) → reads ≡ 0 → IfSome told (λ bytes. reads ≤ length bytes)
    by_bytes None reads none = tt
    by_bytes (Some bytes) reads none = omega (arith, none)

kept_once : (before now : FileSeen) → Keeps before now → IsUnused before → IsSized before → IsReadOnce now
kept_once before now keeps unused sized = subst (λ (o : Option (List ℕ)). IfSome o (λ bytes. now.reads ≤ length bytes)) (sym keeps.bytes) (by_bytes before.bytes sized)
  where
    by_bytes : (told : Option (List ℕ)) → IfSome told (λ bytes. length bytes ≡ before.size) → IfSome told (λ bytes. now.reads ≤ length bytes)
    by_bytes None sized = tt
    by_bytes (Some bytes) sized = omega (arith, keeps.reads, unused.reads, sized)

all_kept_once : (before now : List FileSeen) → length now ≡ length before → AllKeep before now → All IsUnused before → All IsSized before → All IsReadOnce now
all_kept_once before now long keep unused sized i d lt =
    kept_once (get_or before i d) (get_or now i d) (keep i d (omega (arith, lt, long))) (unused i d (omega (arith, lt, long))) (sized i d (omega (arith, lt, long)))

kept_files : (told : Option NamedFiles) (names : List (List ℕ)) (before now : List FileSeen) → length now ≡ length before → AllKeep before now → AreFilesOf told names before → AreFilesOf told names now
kept_files told names before now long keep are i d e lt =
    subst (λ (bytes : Option (List ℕ)). IsFileOf told (get_or names i d) bytes) (sym (keep i e (omega (arith, lt, long))).bytes) (are i d e (omega (arith, lt, long)))

-- THE DATA FILES

one_within : (found told : Option (List ℕ)) (text : List ℕ) (reads : ℕ) → found ≡ Some text → told ≡ found → IfSome told (λ bytes. reads ≤ length bytes) → reads ≤ length text
one_within found told text reads is same once = subst (λ (o : Option (List ℕ)). IfSome o (λ bytes. reads ≤ length bytes)) (same ∙ is) once

reads_within : (named : NamedFiles) (names : List (List ℕ)) (files : List FileSeen) → AreFilesOf (Some named) names files → All IsReadOnce files → length files ≤ length names
    → IfSome (texts_of named names) (λ texts. sum_by (λ file. file.reads) files ≤ sum_by length texts)
reads_within named [] [] are once few = omega arith
reads_within named [] (file ∷ files) are once few = absurd (omega (arith, few))
reads_within named (name ∷ names) [] are once few = by_first (get named name)
  where
    by_rest : (text : List ℕ) (found : Option (List (List ℕ))) → IfSome (option_and_then (λ ts. Some (text ∷ ts)) found) (λ texts. sum_by (λ (file : FileSeen). file.reads) [] ≤ sum_by length texts)
    by_rest text None = tt
    by_rest text (Some texts) = omega arith

    by_first : (found : Option (List ℕ)) → IfSome (option_and_then (λ t. option_and_then (λ ts. Some (t ∷ ts)) (texts_of named names)) found) (λ texts. sum_by (λ (file : FileSeen). file.reads) [] ≤ sum_by length texts)
    by_first None = tt
    by_first (Some text) = by_rest text (texts_of named names)
reads_within named (name ∷ names) (file ∷ files) are once few =
    let first = are 0 name file (omega arith) in
    by_first (get named name) (λ text is. one_within (get named name) file.bytes text file.reads is first.1 (All-head IsReadOnce file files once))
    (reads_within named names files (λ i d e lt. are (suc i) d e (omega (arith, lt))) (All-tail IsReadOnce file files once) (omega (arith, few))) refl
  where
    by_rest : (text : List ℕ) (found : Option (List (List ℕ))) → file.reads ≤ length text → IfSome found (λ texts. sum_by (λ f. f.reads) files ≤ sum_by length texts)
        → IfSome (option_and_then (λ ts. Some (text ∷ ts)) found) (λ texts. sum_by (λ f. f.reads) (file ∷ files) ≤ sum_by length texts)
    by_rest text None one more = tt
    by_rest text (Some texts) one more = omega (arith, sum_by-cons (λ (f : FileSeen). f.reads) file files, sum_by-cons length text texts, one, more)

    by_first : (found : Option (List ℕ)) → ((text : List ℕ) → get named name ≡ Some text → file.reads ≤ length text) → IfSome (texts_of named names) (λ texts. sum_by (λ f. f.reads) files ≤ sum_by length texts)
        → get named name ≡ found → IfSome (option_and_then (λ t. option_and_then (λ ts. Some (t ∷ ts)) (texts_of named names)) found) (λ texts. sum_by (λ f. f.reads) (file ∷ files) ≤ sum_by length texts)
    by_first None one more is = tt
    by_first (Some text) one more is = by_rest text (texts_of named names) (one text is) more

pub data_within : (told : Option NamedFiles) (names : NamesData) (files : List FileSeen) → AreFilesOf told names.files files → All IsReadOnce files → length files ≤ length names.files
    → IfSome told (λ named. DataWithin named names (λ size. reads_of files ≤ size))
data_within None names files are once few = tt
data_within (Some named) names files are once few = reads_within named names.files files are once few

-- they were opened, and kept as they were read
pub data_read : {F : Type 0} (f : F → FileSeen) (told : Option NamedFiles) (names : NamesData) (opened slice now : List F) → slice ≡ opened → length now ≡ length slice → length opened ≡ length names.files
    → ((file : F) → IsSized (f file)) → AreFilesOf told names.files (map f opened) → All IsUnused (map f opened) → AllKeep (map f slice) (map f now)
    → IfSome told (λ named. DataWithin named names (λ size. reads_of (map f now) ≤ size))
data_read {F} f told names opened slice now is each all sized are unused keep =
    let same : length (map f now) ≡ length (map f slice) = omega (arith, length-map slice f, length-map now f, each) in
    let own = subst (λ (xs : List F). AreFilesOf told names.files (map f xs)) (sym is) are in
    let fresh = subst (λ (xs : List F). All IsUnused (map f xs)) (sym is) unused in
    let long : length slice ≡ length opened = ap length is in
    data_within told names (map f now) (kept_files told names.files (map f slice) (map f now) same keep own) (all_kept_once (map f slice) (map f now) same keep fresh (all_sized f slice sized))
    (omega (arith, length-map now f, each, long, all))

-- no file is open
pub none_within : (told : Option NamedFiles) (names : NamesData) (files : List FileSeen) → length files ≡ 0 → IfSome told (λ named. DataWithin named names (λ size. reads_of files ≤ size))
none_within told names files none = data_within told names files (λ i d e lt. absurd (omega (arith, lt, none))) (λ i d lt. absurd (omega (arith, lt, none))) (omega (arith, none))

within_map : (named : NamedFiles) (names : NamesData) (P Q : ℕ → Type 0) → ((size : ℕ) → P size → Q size) → DataWithin named names P → DataWithin named names Q
within_map named names P Q f within = by_texts (texts_of named names.files) within
  where
    by_texts : (found : Option (List (List ℕ))) → IfSome found (λ texts. P (sum_by length texts)) → IfSome found (λ texts. Q (sum_by length texts))
    by_texts None p = tt
    by_texts (Some texts) p = f (sum_by length texts) p

-- nothing was read of them
pub nothing_within : (told : Option NamedFiles) (names : NamesData) (before now : ℕ) → now ≡ before → IfSome told (λ named. DataWithin named names (λ size. now ≤ raised before size))
nothing_within None names before now same = tt
nothing_within (Some named) names before now same = by_texts (texts_of named names.files)
  where
    by_texts : (found : Option (List (List ℕ))) → IfSome found (λ texts. now ≤ raised before (sum_by length texts))
    by_texts None = tt
    by_texts (Some texts) = omega (arith, same)

-- what was read of them is counted as they are closed
pub closed_within : (told : Option NamedFiles) (names : NamesData) (files : List FileSeen) (before mid now : ℕ) → mid ≡ before → now ≡ raised mid (reads_of files)
    → IfSome told (λ named. DataWithin named names (λ size. reads_of files ≤ size)) → IfSome told (λ named. DataWithin named names (λ size. now ≤ raised before size))
closed_within None names files before mid now same counted within = tt
closed_within (Some named) names files before mid now same counted within =
    within_map named names (λ size. reads_of files ≤ size) (λ size. now ≤ raised before size) (λ size few. omega (arith, same, counted, few)) within

-- THE PARTIAL FILE

pub made_anyhow : (result : Result Unit RestoreFault) (P : Type 0) → P → IfMade result P
made_anyhow (Ok done) P p = p
made_anyhow (Err code.Write) P p = p
made_anyhow (Err fault) P p = tt

pub unread_unmade : (fault : OpenFault) (P : Type 0) → IfMade (Err (fault_of_open fault)) P
unread_unmade Read P = tt
unread_unmade Memory P = tt
unread_unmade fault P = tt

pub header_within : (told : Option (List ℕ)) (header : Header) (reads now : ℕ) → ReadsPartial told (Ok header) → now ≤ raised reads header.end
    → IfSome told (λ bytes. IfOk (partial_of bytes) (λ found. now ≤ raised reads found.end))
header_within None header reads now is few = tt
header_within (Some bytes) header reads now is few = subst (λ (r : Result Header OpenFault). IfOk r (λ found. now ≤ raised reads found.end)) (sym is) few

-- both
pub read_once : (names : NamesData) (result : Result Unit RestoreFault) (old first : Option NamedFiles) (told : Option (List ℕ)) (start opened worked last none reads : ℕ) → first ≡ old → IsFileOf old names.partial told → opened ≡ start → none ≡ 0
    → last ≡ raised worked reads → IfSome first (λ named. DataWithin named names (λ size. worked ≤ raised opened size))
    → IfMade result (IfSome told (λ bytes. IfOk (partial_of bytes) (λ header. reads ≤ raised none header.end))) → IfMade result (IfSome old (λ named. ReadsOnce named names start last))
read_once names result old first told start opened worked last none reads same is so_far unread counted sizes header = by_end result header
  where
    by_result : (named : NamedFiles) (r : Result Header OpenFault) → DataWithin named names (λ size. worked ≤ raised opened size) → IfOk r (λ header. reads ≤ raised none header.end)
        → IfOk r (λ header. DataWithin named names (λ size. last ≤ raised start (header.end + size)))
    by_result named (Ok header) sizes few =
        within_map named names (λ size. worked ≤ raised opened size) (λ size. last ≤ raised start (header.end + size)) (λ size within. omega (arith, so_far, unread, counted, few, within)) sizes
    by_result named (Err fault) sizes few = tt

    by_found : (named : NamedFiles) (found : Option (List ℕ)) → told ≡ found → DataWithin named names (λ size. worked ≤ raised opened size) → IfSome told (λ bytes. IfOk (partial_of bytes) (λ header. reads ≤ raised none header.end))
        → IfSome found (λ bytes. IfOk (partial_of bytes) (λ header. DataWithin named names (λ size. last ≤ raised start (header.end + size))))
    by_found named None is sizes header = tt
    by_found named (Some bytes) is sizes header =
        by_result named (partial_of bytes) sizes (subst (λ (o : Option (List ℕ)). IfSome o (λ bs. IfOk (partial_of bs) (λ h. reads ≤ raised none h.end))) is header)

    all : (folder : Option NamedFiles) → IsFileOf folder names.partial told → IfSome folder (λ named. DataWithin named names (λ size. worked ≤ raised opened size))
        → IfSome told (λ bytes. IfOk (partial_of bytes) (λ header. reads ≤ raised none header.end)) → IfSome folder (λ named. ReadsOnce named names start last)
    all None is sizes header = tt
    all (Some named) is sizes header = by_found named (get named names.partial) is.1 sizes header

    here : IfSome old (λ named. DataWithin named names (λ size. worked ≤ raised opened size))
    here = subst (λ (o : Option NamedFiles). IfSome o (λ named. DataWithin named names (λ size. worked ≤ raised opened size))) same sizes

    by_end : (a : Result Unit RestoreFault) → IfMade a (IfSome told (λ bytes. IfOk (partial_of bytes) (λ header. reads ≤ raised none header.end))) → IfMade a (IfSome old (λ named. ReadsOnce named names start last))
    by_end (Ok done) header = all old is here header
    by_end (Err code.Write) header = all old is here header
    by_end (Err fault) header = tt
