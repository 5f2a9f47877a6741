-- What a restoring reads.
use Rattle.std.specs.Prelude.{◌≤◌, ◌+◌, ℕ, List, length, sum_by, IfOk, IfSome}
use Rattle.std.specs.FinMap.{get}
use Rattle.trace_outside.specs.Causes.{raised}
use Rattle.trace_outside.specs.Names.{NamedFiles}
use Rattle.trace_outside.specs.Seen.{FileSeen}
use Rattle.dat_header.specs.Partial.{partial_of}
use Rattle.restore_tool.specs.Meaning.{NamesData, texts_of}

-- of a file that tells its bytes no more was read than these
abbrev pub IsReadOnce : FileSeen → Type 0
IsReadOnce file = IfSome file.bytes (λ bytes. file.reads ≤ length bytes)

-- the bytes that were read of open files
abbrev pub reads_of : List FileSeen → ℕ
reads_of files = sum_by (λ file. file.reads) files

-- how many bytes the data files have, where all are there
abbrev pub DataWithin : NamedFiles → NamesData → (ℕ → Type 0) → Type 0
DataWithin named names claim = IfSome (texts_of named names.files) (λ texts. claim (sum_by length texts))

-- no more was read than the header of the partial file, and each data file once
abbrev pub ReadsOnce : NamedFiles → NamesData → ℕ → ℕ → Type 0
ReadsOnce named names before now = IfSome (get named names.partial) (λ bytes. IfOk (partial_of bytes) (λ header.
    DataWithin named names (λ size. now ≤ raised before (header.end + size))))
