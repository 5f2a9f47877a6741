-- The report of a generated file is that of its events.
use Rattle.std.proofs.Common.{◌≡◌, ℕ, zero, suc, ◌+◌, arith, true, List, [], ◌∷◌, map, filter, Option, None, Some, IfSome, Result, Ok, refl, ap, ◌∙◌, subst}
use Rattle.std.specs.Option.{option_map}
use Rattle.std.specs.List.{All, enumerate_from, fold}
use Rattle.trace_base.specs.declared.layout.Layout.{Layout}
use Rattle.trace_base.specs.declared.part.Part.{Part}
use Rattle.trace_outside.specs.Folders.{no_counts}
use Rattle.trace_outside.specs.Writing.{Gained}
use Rattle.trace_outside.specs.Pieces.{text_of}
use Rattle.subpage.specs.ItemData.{ItemData}
use Rattle.subpage.specs.Processor.{list_of, bad_of}
use Rattle.subpage.specs.Arrangement.{Keyed, arranged}
use Rattle.subpage.specs.Cut.{Cut, cuts_of, cut_of, earlier, reached_of, is_up_to, lists_of as lists_in}
use Rattle.dat_header.specs.declared.header.Header.{Header}
use Rattle.dat_header.specs.Header.{header_of, ReadsHeader}
use Rattle.dat_header.specs.Written.{written}
use Rattle.trace_args.specs.Command.{ReportData}
use Rattle.trace_gen.specs.Generated.{lists_of}
use Rattle.trace_gen.specs.GeneratedFile.{IsGenerated}
use Rattle.trace_gen.specs.GeneratedHeader.{header_but_parts}
use Rattle.run_endings.specs.declared.status.Status.TheVariants.{Done}
use Rattle.report_context.specs.Context.{context_of}
use Rattle.run_endings.specs.Ending.{Ends, Prints}
use Rattle.run_endings.specs.Meaning.{Meaning}
use Rattle.file_report.specs.Meaning.{report_by}
use Rattle.run_endings.specs.Outside.{FolderSeen, SinkSeen, beside}
use Rattle.file_report.specs.Report.{report_pieces}
use Rattle.run_endings.specs.Selection.{Every, chosen, has}
use Rattle.trace_run.specs.Selftest.{plain_report, generated_items, generated_report}
use Rattle.run_endings.proofs.Endings.{known_so}
use Rattle.trace_run.proofs.Filters.{filter-all, filter-same}

-- sound parts have no cut
no_cuts : (layout : Layout) (file : List ℕ) (cpu : ℕ) (parts : List Part) → All (λ part. bad_of layout file part ≡ None) parts
    → cuts_of layout file (enumerate_from cpu parts) ≡ []
no_cuts layout file cpu [] sound = refl
no_cuts layout file cpu (part ∷ parts) sound =
    let first : bad_of layout file part ≡ None = sound zero part (omega arith) in
    rw first (no_cuts layout file (cpu + 1) parts (λ k d lt. sound (suc k) d (omega arith)))

no_cut : (layout : Layout) (file : List ℕ) (parts : List Part) → All (λ part. bad_of layout file part ≡ None) parts
    → cut_of layout file (enumerate_from 0 parts) ≡ None
unfolding cut_of
no_cut layout file parts sound = ap (λ (cuts : List Cut). fold earlier None cuts) (no_cuts layout file 0 parts sound)

lists_are : (layout : Layout) (file : List ℕ) (cpu : ℕ) (parts : List Part)
    → lists_in layout file (enumerate_from cpu parts) ≡ enumerate_from cpu (map (list_of layout file) parts)
lists_are layout file cpu [] = refl
lists_are layout file cpu (part ∷ parts) =
    ap (λ (more : List (ℕ × List ItemData)). (cpu, list_of layout file part) ∷ more) (lists_are layout file (cpu + 1) parts)

-- all items of sound parts are reached
all_reached : (layout : Layout) (file : List ℕ) (parts : List Part) (lists : List (List ItemData)) → map (list_of layout file) parts ≡ lists
    → All (λ part. bad_of layout file part ≡ None) parts → reached_of layout file (enumerate_from 0 parts) ≡ arranged (enumerate_from 0 lists)
unfolding reached_of
all_reached layout file parts lists are sound =
    ap (λ (cut : Option Cut). filter (is_up_to cut) (arranged (lists_in layout file (enumerate_from 0 parts)))) (no_cut layout file parts sound)
    ∙ filter-same (is_up_to None) (λ x. true) (λ x. refl) (arranged (lists_in layout file (enumerate_from 0 parts)))
    ∙ filter-all (arranged (lists_in layout file (enumerate_from 0 parts)))
    ∙ ap arranged (lists_are layout file 0 parts ∙ ap (enumerate_from 0) are)

all_chosen : (parts : List Part) → chosen Every parts ≡ enumerate_from 0 parts
all_chosen parts =
    filter-same (λ part. has Every part.0) (λ part. true) (λ part. refl) (enumerate_from 0 parts) ∙ filter-all (enumerate_from 0 parts)

-- what an answer Done leaves on the output
abbrev Written : Option (List ℕ) → Option (List ℕ) → Meaning → Type 0
Written old now m = Gained old now (text_of m.pieces)

reported : (header : Header) (parts : List Part) (bytes : List ℕ) (lists : List (List ItemData)) (old now : Option (List ℕ))
    → map (list_of header.layout bytes) parts ≡ lists → All (λ part. bad_of header.layout bytes part ≡ None) parts
    → Written old now (report_by None plain_report (written header parts) bytes)
    → Gained old now (text_of (report_pieces header.cpus (context_of plain_report header) (arranged (enumerate_from 0 lists))))
reported header parts bytes lists old now are sound writes =
    subst (λ (items : List Keyed). Gained old now (text_of (report_pieces header.cpus (context_of plain_report header) items)))
    (ap (reached_of header.layout bytes) (all_chosen parts) ∙ all_reached header.layout bytes parts lists are sound) writes

ok_is : {T E : Type 0} (x y : T) (read : Result T E) → read ≡ Ok x → read ≡ Ok y → x ≡ y
ok_is x y read first second = cc

-- a report without options of a generated file, on any number of threads
generated_reported : (seed events workers : ℕ) (bytes : List ℕ) (header : Header) (words : ReportData) (old now : Option (List ℕ)) → IsGenerated seed events bytes
    → header_of bytes ≡ Ok header → words ≡ record plain_report { workers = workers } → Written old now (report_by words.list words header bytes) → Gained old now (generated_report seed events)
unfolding generated_report generated_items
generated_reported seed events workers bytes header words old now is found plain writes =
    reported header_but_parts is.parts bytes (lists_of seed events) old now is.lists is.sound
    (subst (λ (h : Header). Written old now (report_by None plain_report h bytes)) (ok_is header (written header_but_parts is.parts) (header_of bytes) found is.header_is)
    (subst (λ (w : ReportData). Written old now (report_by w.list w header bytes)) plain writes))

told_reported : (seed events workers : ℕ) (told same : Option (List ℕ)) (bytes : List ℕ) (header : Header) (words : ReportData) (old now : Option (List ℕ)) → told ≡ Some bytes
    → IfSome told (IsGenerated seed events) → same ≡ told → ReadsHeader told (Ok header) → words ≡ record plain_report { workers = workers }
    → IfSome (option_map (report_by words.list words header) same) (Written old now) → Gained old now (generated_report seed events)
told_reported seed events workers told same bytes header words old now is generated kept found plain writes =
    generated_reported seed events workers bytes header words old now
    (subst (λ (t : Option (List ℕ)). IfSome t (IsGenerated seed events)) is generated)
    (subst (λ (t : Option (List ℕ)). ReadsHeader t (Ok header)) is found)
    plain
    (subst (λ (t : Option (List ℕ)). IfSome (option_map (report_by words.list words header) t) (Written old now)) (kept ∙ is) writes)

-- the same, of a file that tells its bytes, by how its report ended beside an empty folder
pub generated_printed : (seed events workers : ℕ) (told same : Option (List ℕ)) (bytes : List ℕ) (header : Header) (words : ReportData) (unread : Type 0) (before now : SinkSeen) → told ≡ Some bytes
    → IfSome told (IsGenerated seed events) → same ≡ told → ReadsHeader told (Ok header) → words ≡ record plain_report { workers = workers }
    → Prints unread (option_map (report_by words.list words header) same) Done before now → Gained before.written now.written (generated_report seed events)
generated_printed seed events workers told same bytes header words unread before now is generated kept found plain prints =
    let none : FolderSeen = record { files = None; counts = no_counts; requested = [] } in
    let ended = prints none in
    told_reported seed events workers told same bytes header words before.written now.written is generated kept found plain
    (known_so (λ m. Ends m Done (beside none before) (beside none now)) (Written before.written now.written)
    (option_map (report_by words.list words header) same) (λ m ends. ends.output) ended.ends)
