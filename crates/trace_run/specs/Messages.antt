-- The one line that a run says of an answer that is not Done.
use Rattle.std.specs.Prelude.{◌≡◌, Result, Ok, Err, ℕ, List, [], ◌∷◌, codes}
use Rattle.std.specs.Fmt.{decimal}
use Rattle.dat_options.specs.declared.fault.OpenFault.{OpenFault}
use Rattle.dat_options.specs.declared.fault.OpenFault.TheVariants.{NotTrace, Compressed, OtherVersion, BadEndian, BadLong, BadPageSize, BadHeaderPage, BadSection, Truncated, TooManyCpus, Read, Memory}
use Rattle.trace_outside.specs.Causes.{Rose}
use Rattle.trace_outside.specs.Writing.{Gained, GainedPrefix}
use Rattle.trace_outside.specs.Pieces.{text_of}
use Rattle.subpage.specs.declared.cut_place.CutPlace.{CutPlace}
use Rattle.run_endings.specs.declared.status.Status.{Status}
use Rattle.run_endings.specs.declared.status.Status.TheVariants.{Done, Usage, Refused, Malformed, ReadFault, WriteFault, NoMemory}
use Rattle.run_words.specs.declared.usage.UsageFault.{UsageFault}
use Rattle.run_words.specs.declared.usage.UsageFault.TheVariants.{Word, Filter}
use Rattle.trace_args.specs.KindText.{kind_text}
use Rattle.run_words.specs.Job.{Job}
use Rattle.trace_run.specs.Naming.{IsNamed}
use Rattle.run_endings.specs.Outside.{FolderSeen, SinkSeen}

abbrev pub fault_text : OpenFault → List ℕ
fault_text (NotTrace place) = codes "not a trace file"
fault_text (Compressed place) = codes "version 7 is not read"
fault_text (OtherVersion place) = codes "unknown version"
fault_text (BadEndian place) = codes "bad byte order"
fault_text (BadLong place) = codes "bad long size"
fault_text (BadPageSize place) = codes "bad page size"
fault_text (BadHeaderPage place) = codes "bad header_page"
fault_text (BadSection place) = codes "bad section"
fault_text (Truncated place) = codes "file ends early"
fault_text (TooManyCpus place) = codes "too many processors"
fault_text Read = []
fault_text Memory = []

abbrev pub fault_place : OpenFault → ℕ
fault_place (NotTrace place) = place
fault_place (Compressed place) = place
fault_place (OtherVersion place) = place
fault_place (BadEndian place) = place
fault_place (BadLong place) = place
fault_place (BadPageSize place) = place
fault_place (BadHeaderPage place) = place
fault_place (BadSection place) = place
fault_place (Truncated place) = place
fault_place (TooManyCpus place) = place
fault_place Read = 0
fault_place Memory = 0

-- the line for a fault of the words, or of a filter of theirs
abbrev pub usage_line : UsageFault → List ℕ
usage_line (Word fault) = text_of (codes "trace-cmd: word " ∷ decimal fault.word ∷ codes ": " ∷ kind_text fault.kind ∷ codes "\n" ∷ [])
usage_line (Filter word place) =
    text_of (codes "trace-cmd: word " ∷ decimal word ∷ codes ": bad filter at byte " ∷ decimal place ∷ codes "\n" ∷ [])

-- what is wrong with an input, and where
abbrev pub refused_text : OpenFault → List ℕ
refused_text fault = text_of (fault_text fault ∷ codes " at byte " ∷ decimal (fault_place fault) ∷ [])

abbrev pub malformed_text : CutPlace → List ℕ
malformed_text cut = text_of (codes "malformed sub-page " ∷ decimal cut.page ∷ codes " of processor " ∷ decimal cut.cpu ∷ [])

-- the line for another answer, of an input of this name; nothing for Done
abbrev pub message : List ℕ → Status → List ℕ
message input Done = []
message input Usage = []
message input (Refused fault) = text_of (codes "trace-cmd: " ∷ input ∷ codes ": " ∷ refused_text fault ∷ codes "\n" ∷ [])
message input (Malformed cut) = text_of (codes "trace-cmd: " ∷ input ∷ codes ": " ∷ malformed_text cut ∷ codes "\n" ∷ [])
message input ReadFault = text_of (codes "trace-cmd: " ∷ input ∷ codes ": read failed\n" ∷ [])
message input WriteFault = codes "trace-cmd: write failed\n"
message input NoMemory = codes "trace-cmd: out of memory\n"

-- the line for what was read of the words, for this answer, and for what is seen of the folder before and after
abbrev pub IsLineRead : Result Job UsageFault → Status → FolderSeen → FolderSeen → List ℕ → Type 0
IsLineRead (Ok job) status before now line = (name : List ℕ) × IsNamed job status before now name × (line ≡ message name status)
IsLineRead (Err fault) Usage before now line = line ≡ usage_line fault
IsLineRead (Err fault) status before now line = line ≡ message [] status

-- the sink gained the line, or a prefix of it where its own count of faults rose
pub record Says (line : List ℕ) (before now : SinkSeen) : Type 0 where
  pub prefix : GainedPrefix before.written now.written line
  pub whole : ¬ (Rose before.faults now.faults) → Gained before.written now.written line

-- and the line is that one
pub record SaysOf (read : Result Job UsageFault) (status : Status) (before now : FolderSeen) (said_before said_now : SinkSeen) : Type 0 where
  pub line : List ℕ
  pub is : IsLineRead read status before now line
  pub says : Says line said_before said_now
