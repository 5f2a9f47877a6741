-- Parts that tell where data files will stand.
use Rattle.std.specs.Prelude.{◌≡◌, ◌%◌, ◌^◌, ℕ, List, length, map}
use Rattle.trace_base.specs.declared.part.Part.{Part}
use Rattle.trace_outside.specs.Seen.{FileSeen}
use Rattle.restore_tool.specs.Copying.{AllTold, text_of}
use Rattle.restore_tool.specs.Restored.{parts_behind}

-- the parts of these files after a place that is told modulo 2^64, where the files tell their bytes
abbrev pub ArePlaced : ℕ → ℕ → List FileSeen → List Part → Type 0
ArePlaced page place files parts =
    (whole : ℕ) → place ≡ whole % 2 ^ 64 → AllTold files → parts ≡ parts_behind page whole (map length (map text_of files))
