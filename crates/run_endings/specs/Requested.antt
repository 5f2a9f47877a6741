-- The names that a run, or a part of it, asks the folder for: those of files to open and of files to create.
use Rattle.std.specs.Prelude.{◌≡◌, ℕ, List, Option, IfSome, length}
use Rattle.new_files.specs.Requested.{AskedFirst}
use Rattle.run_endings.specs.Meaning.{Meaning}

-- These are the names, in their order, of what makes so many new files. The first few of them were asked for, each once, and no
-- other name; and where it is known what is meant, the new files are those that are meant.
pub record AsksFor (names_of : ℕ → List (List ℕ)) (means : Option Meaning) (before now : List (List ℕ)) : Type 0 where
  pub news : ℕ
  pub meant : IfSome means (λ m. news ≡ length m.files)
  pub asked : AskedFirst (names_of news) before now
