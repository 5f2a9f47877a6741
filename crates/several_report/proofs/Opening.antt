-- One input: what is known of it once it is open, and where it could not be shown.
use Rattle.std.proofs.Common.{◌≡◌, ◌≤◌, ℕ, List, [], ◌∷◌, Option, Some, None, Result, Ok, Err, IfSome, refl, sym, ap, ◌∙◌, subst, arith}
use Rattle.std.specs.Prelude.{Bool, IsSome, unwrap_or}
use Rattle.std.specs.FinMap.{get}
use Rattle.trace_base.specs.declared.layout.Layout.{Layout}
use Rattle.trace_base.specs.declared.part.Part.{Part}
use Rattle.trace_outside.specs.Causes.{Rose, raised}
use Rattle.trace_outside.specs.declared.counts.Counts.{Counts}
use Rattle.trace_outside.specs.Folders.{Closes, IsFileOf, Opens, misses_after}
use Rattle.trace_outside.specs.Memory.{KeepsFaults}
use Rattle.trace_outside.specs.Names.{NamedFiles}
use Rattle.trace_outside.specs.Seen.{FileSeen}
use Rattle.trace_outside.specs.Open.{OpensMany}
use Rattle.dat_options.specs.declared.fault.OpenFault.{OpenFault}
use Rattle.dat_header.specs.declared.header.Header.{Header}
use Rattle.dat_header.specs.declared.header.Body.{Body}
use Rattle.dat_header.specs.declared.header.Body.TheVariants.{Latency, Fly}
use Rattle.dat_header.specs.Header.{header_of, IsRefusal, ReadsHeader}
use Rattle.line_holes.specs.Holes.{LineText}
use Rattle.subpage.specs.ItemData.{ItemData}
use Rattle.subpage.specs.Arrangement.{CpusRise}
use Rattle.subpage.specs.WithBytes.{with_bytes}
use Rattle.subpage.proofs.EmptyParts.{rise_same, sum_same}
use Rattle.multi_report.specs.Order as several
use Rattle.multi_report.specs.Sources.{IsFreshSource, shown_of}
use Rattle.new_files.specs.Requested.{AskedAll}
use Rattle.trace_args.specs.Command.{ReportData}
use Rattle.several_report.specs.declared.sources.Basis.{Basis}
use Rattle.run_endings.specs.declared.status.Status.{Status}
use Rattle.run_endings.specs.declared.status.Status.TheVariants.{Done, Usage, Refused, Malformed, ReadFault, WriteFault, NoMemory}
use Rattle.run_endings.specs.Progress.{parts_size}
use Rattle.several_report.specs.Inputs.{shown_in, input_found, input_named, input_with, shown_parts}
use Rattle.run_endings.specs.Outside.{FolderSeen}
use Rattle.report_context.specs.Lines.{item_line}
use Rattle.run_endings.specs.Selection.{has, set_or_all}
use Rattle.several_report.specs.OpenInput.{IsBasis, IsRead, WhyUnread, seen_with}
use Rattle.several_report.specs.Opened.{IsInput, IsOpened, WhyUnopened, IsUnopened, without_empty}
use Rattle.run_endings.proofs.Chosen.{chosen_rise}
use Rattle.run_endings.proofs.Endings.{refused_by}
use Rattle.time_merge.proofs.UnusedLanes.{unused_fresh}

-- the numbers of the processors that are shown rise
shown_rise : (cpus : Option (List Bool)) (body : Body) → CpusRise (shown_parts cpus body)
shown_rise cpus Latency = tt
shown_rise cpus (Fly parts) = (chosen_rise (λ part. has (set_or_all cpus) part.0) 0 parts).1

pub with_bytes_rise : (cpus : Option (List Bool)) (body : Body) → CpusRise (with_bytes (shown_parts cpus body))
with_bytes_rise cpus body = rise_same (shown_parts cpus body) (shown_rise cpus body)

size_same : (parts : List (ℕ × Part)) → parts_size (with_bytes parts) ≡ parts_size parts
size_same parts = sum_same (λ (part : ℕ × Part). part.1.size) parts (λ part none. none)

module _ (words : ReportData) (header : Header) (basis : Basis) (is : IsBasis words header basis) where
  pub basis_fresh : (name : List ℕ) (file : FileSeen) → IsFreshSource (seen_with name file basis)
  basis_fresh name file = unused_fresh header.layout 0 basis.lanes.all is.unused

  basis_shown : (name bytes : List ℕ) (file : FileSeen) → file.bytes ≡ Some bytes
      → shown_of (seen_with name file basis) ≡ without_empty (shown_in words (record { name = name; header = header; bytes = bytes }))
  basis_shown name bytes file told =
      same_shown name is.cpus is.layout (ap (λ (t : Option (List ℕ)). unwrap_or t []) told) is.parts (ap item_line is.context)
    where
      of : List ℕ → ℕ → Layout → List ℕ → List (ℕ × Part) → (ℕ → ItemData → LineText) → several.ShownFile
      of name cpus layout bytes parts text = record { name = name; cpus = cpus; layout = layout; bytes = bytes; parts = parts; text = text }

      same_shown : (name : List ℕ) {c d : ℕ} {l m : Layout} {b e : List ℕ} {p q : List (ℕ × Part)} {t u : ℕ → ItemData → LineText}
          → c ≡ d → l ≡ m → b ≡ e → p ≡ q → t ≡ u → of name c l b p t ≡ of name d m e q u
      same_shown name {d = d} {l = l} {m = m} {b = b} {e = e} {p = p} {q = q} {t = t} c_is l_is b_is p_is t_is =
          ap (λ (x : ℕ). of name x l b p t) c_is ∙ ap (λ (x : Layout). of name d x b p t) l_is ∙ ap (λ (x : List ℕ). of name d m x p t) b_is
          ∙ ap (λ (x : List (ℕ × Part)). of name d m e x t) p_is ∙ ap (λ (x : ℕ → ItemData → LineText). of name d m e q x) t_is

  -- the file is told, and its bytes begin with the header
  pub basis_input : (files : NamedFiles) (name bytes : List ℕ) (file : FileSeen) → get files name ≡ Some bytes → header_of bytes ≡ Ok header
      → file.bytes ≡ Some bytes → file.reads ≤ header.end → IsInput words files name (seen_with name file basis)
  basis_input files name bytes file found read told reads = record {
    input = record { name = name; header = header; bytes = bytes };
    read = ap (input_found name) found ∙ ap (input_with name bytes) read;
    told = subst (λ (t : Option (List ℕ)). IsSome t) (sym told) refl;
    shown = basis_shown name bytes file told;
    reads = omega (arith, reads, ap parts_size is.parts ∙ size_same (shown_parts words.cpus header.body));
  }

-- the same where it is not known whether the files are told
pub opened_input : (words : ReportData) (told : Option NamedFiles) (name : List ℕ) (bytes : Option (List ℕ)) (file : FileSeen) (reads : ℕ) (basis : Basis) → IsFileOf told name bytes
    → file.bytes ≡ bytes → reads ≡ 0 → IsRead words bytes reads file.reads basis → IfSome told (λ files. IsInput words files name (seen_with name file basis))
opened_input words None name bytes file reads basis is kept none read = tt
opened_input words (Some files) name bytes file reads basis is kept none read = by_found (get files name) refl is.0
  where
    by_found : (found : Option (List ℕ)) → get files name ≡ found → IsSome found → IsInput words files name (seen_with name file basis)
    by_found None same there = absurd (let bad : ⊥ = cc in bad)
    by_found (Some known) same there =
        let told : bytes ≡ Some known = is.1 ∙ same in
        let header_is : header_of known ≡ Ok read.header = subst (λ (b : Option (List ℕ)). ReadsHeader b (Ok read.header)) told read.read in
        basis_input words read.header basis read.stands files name known file same header_is (kept ∙ told) (omega (arith, read.reads, none))

-- the file has no header
pub opened_refused : (told : Option NamedFiles) (name : List ℕ) (bytes : Option (List ℕ)) (fault : OpenFault) → IsFileOf told name bytes → IsRefusal fault → ReadsHeader bytes (Err fault)
    → IfSome told (λ files. input_named files name ≡ Err (record { name = name; status = Refused fault }))
opened_refused None name bytes fault is refusal read = tt
opened_refused (Some files) name bytes fault is refusal read = by_found (get files name) refl is.0
  where
    by_found : (found : Option (List ℕ)) → get files name ≡ found → IsSome found → input_named files name ≡ Err (record { name = name; status = Refused fault })
    by_found None same there = absurd (let bad : ⊥ = cc in bad)
    by_found (Some known) same there =
        ap (input_found name) same ∙ ap (input_with name known) (refused_by fault (header_of known) refusal (subst (λ (b : Option (List ℕ)). ReadsHeader b (Err fault)) (is.1 ∙ same) read))

-- A FILE THAT IS OPENED BY ITS NAME

-- the folder opened a file, whose header was read
pub source_opened : (words : ReportData) (name : List ℕ) (file : FileSeen) (bytes : Option (List ℕ)) (reads : ℕ) (basis : Basis) (before now : FolderSeen)
    → now.files ≡ before.files → IsFileOf before.files name bytes → file.bytes ≡ bytes → reads ≡ 0 → IsRead words bytes reads file.reads basis
    → OpensMany before.counts now.counts 1 → file.faults ≡ 0 → KeepsFaults before.counts now.counts → AskedAll (name ∷ []) before.requested now.requested
    → IfSome before.files (λ files. now.counts.misses ≡ misses_after files name before.counts.misses)
    → IsOpened words name (seen_with name file basis) before now
source_opened words name file bytes reads basis before now files is kept none read counts faultless same requested misses = record {
  asked = record { files = files; requested = requested; misses = misses };
  counts = counts;
  kept = same;
  fresh = basis_fresh words read.header basis read.stands name file;
  faultless = faultless;
  input = opened_input words before.files name bytes file reads basis is kept none read;
}

pub opens_one : {I E : Type 0} (told : Option NamedFiles) (name : List ℕ) (before now : Counts) (result : Result I E) → Opens told name before now result → now.opened ≡ raised before.opened 1 → OpensMany before now 1
opens_one told name before now result opens opened = record {
  reading = opens.reading;
  writing = omega (arith, opens.writing);
  misses = opens.misses_later;
  opened = opened;
  closed = opens.closed;
  created = opens.created;
  unfinished = opens.unfinished;
  bytes = opens.bytes;
}

-- the folder could not open it
pub missing_unopened : {I E : Type 0} (name : List ℕ) (before now : FolderSeen) (result : Result I E) → now.files ≡ before.files → Opens before.files name before.counts now.counts result
    → now.counts.opened ≡ before.counts.opened → Rose before.counts.reading now.counts.reading → AskedAll (name ∷ []) before.requested now.requested
    → IsUnopened name ReadFault before now
missing_unopened name before now result files opens opened rose requested = record {
  asked = record { files = files; requested = requested; misses = opens.misses };
  counts = record {
    reading = opens.reading;
    created = opens.created;
    count = 0;
    few = omega arith;
    opened = omega (arith, opened);
    closed = omega (arith, opens.closed);
  };
  reason = rose;
}

module _ {I E : Type 0} (name : List ℕ) (bytes : Option (List ℕ)) (faults faults_now reads : ℕ) (before mid now : FolderSeen) (result : Result I E)
    (first : mid.files ≡ before.files) (then : now.files ≡ mid.files) (is : IsFileOf before.files name bytes)
    (opens : Opens before.files name before.counts mid.counts result) (opened : mid.counts.opened ≡ raised before.counts.opened 1) (none : faults ≡ 0)
    (kept : KeepsFaults before.counts mid.counts) (closes : Closes faults_now reads mid.counts now.counts)
    (asked : AskedAll (name ∷ []) before.requested mid.requested) (still : now.requested ≡ mid.requested) where
  missed_then : (told : Option NamedFiles) → IfSome told (λ files. mid.counts.misses ≡ misses_after files name before.counts.misses) → IfSome told (λ files. now.counts.misses ≡ misses_after files name before.counts.misses)
  missed_then None misses = tt
  missed_then (Some files) misses = closes.misses ∙ misses

  reason_of : (status : Status) → WhyUnread bytes faults faults_now status → WhyUnopened name status before now
  reason_of (Refused fault) why = (why.0, opened_refused before.files name bytes fault is why.0 why.1)
  reason_of ReadFault why =
      let faulty : Rose mid.counts.reading now.counts.reading = closes.faulty (omega (arith, why, none)) in
      omega (arith, faulty, opens.reading)
  reason_of NoMemory why = record { reading = closes.clean (why ∙ none) ∙ kept.reading; writing = closes.writing ∙ kept.writing }
  reason_of Done why = absurd why
  reason_of Usage why = absurd why
  reason_of (Malformed cut) why = absurd why
  reason_of WriteFault why = absurd why

  -- the folder opened a file that cannot be shown, and closed it
  pub closed_unopened : (status : Status) → WhyUnread bytes faults faults_now status → IsUnopened name status before now
  closed_unopened status why = record {
    asked = record { files = then ∙ first; requested = still ∙ asked; misses = missed_then before.files opens.misses };
    counts = record {
      reading = omega (arith, opens.reading, closes.reading);
      created = closes.created ∙ opens.created;
      count = 1;
      few = omega arith;
      opened = closes.opened ∙ opened;
      closed = closes.closed ∙ ap (λ (n : ℕ). raised n 1) opens.closed;
    };
    reason = reason_of status why;
  }
