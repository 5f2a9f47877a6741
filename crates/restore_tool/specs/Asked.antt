-- The names that a restoring asks for.
-- Source: trace-cmd-restore(1).
use Rattle.std.specs.Prelude.{Result, Ok, Err, ℕ, List, [], ◌∷◌, ◌++◌}
use Rattle.new_files.specs.Requested.{AskedAll, AskedFirst}
use Rattle.restore_tool.specs.declared.named.RestoreFault.{RestoreFault}
use Rattle.restore_tool.specs.declared.named.RestoreFault.TheVariants as code
use Rattle.restore_tool.specs.Failing.{inputs_of}
use Rattle.restore_tool.specs.Meaning.{NamesData}

-- the files that are read, in their order, and then the new one
abbrev pub asked_of : NamesData → List (List ℕ)
asked_of names = inputs_of names ++ names.output ∷ []

-- of these the data files and the new one
abbrev pub asked_behind : NamesData → List (List ℕ)
asked_behind names = names.files ++ names.output ∷ []

-- The first few of these names were asked for: all of them where the new file was finished, or could not be made.
abbrev pub AsksFor : List (List ℕ) → List (List ℕ) → List (List ℕ) → Result Unit RestoreFault → Type 0
AsksFor names before now (Ok done) = AskedAll names before now
AsksFor names before now (Err (code.Refused fault)) = AskedFirst names before now
AsksFor names before now (Err (code.Read source)) = AskedFirst names before now
AsksFor names before now (Err code.Write) = AskedAll names before now
AsksFor names before now (Err code.NoMemory) = AskedFirst names before now
