-- What a split leaves of a folder whatever the bytes of its input are, also where they change between the passes.
-- Source: trace-cmd-split(1).
use Rattle.std.specs.Prelude.{◌≡◌, ◌⊎◌, ℕ, ◌+◌, List, [], ◌∷◌, ◌++◌, length, map, Option, Result, Ok, Err}
use Rattle.std.specs.List.{range_with_len}
use Rattle.trace_outside.specs.Names.{NamedFiles}
use Rattle.trace_outside.specs.Seen.{FolderSeen}
use Rattle.page_pool.specs.declared.lane.Lane.{Lane}
use Rattle.time_merge.specs.declared.ending.End.{End}
use Rattle.time_merge.specs.declared.ending.End.TheVariants as code
use Rattle.time_merge.specs.declared.ending.IoFault.{IoFault}
use Rattle.time_merge.specs.declared.ending.IoFault.TheVariants as fault
use Rattle.new_files.specs.Stored.{FilesStored, IsUnmade, NewFile}
use Rattle.split_tool.specs.Names.{file_name}
use Rattle.split_passes.specs.AllAgain.{TellsHeld}

-- files of these contents, numbered from n on
abbrev pub numbered : List ℕ → ℕ → List (List ℕ) → List NewFile
numbered base n [] = []
numbered base n (content ∷ more) = record { name = file_name base n; content = content } ∷ numbered base (n + 1) more

-- the names of the first so many
abbrev pub first_names : List ℕ → ℕ → List (List ℕ)
first_names base count = map (file_name base) (range_with_len 1 count)

-- So many files were finished, one after another from number 1 on, and every other name is as before; the names that were
-- asked for are theirs and those of so many more.
pub record Numbered (base : List ℕ) (finished more : ℕ) (before now : FolderSeen) : Type 0 where
  pub contents : List (List ℕ)
  pub long : length contents ≡ finished
  pub stored : FilesStored (numbered base 1 contents) before.files now.files
  pub requested : now.requested ≡ before.requested ++ first_names base (finished + more)

-- each file that was begun is finished
abbrev pub AllFinished : List ℕ → FolderSeen → FolderSeen → Type 0
AllFinished base before now = (count : ℕ) × Numbered base count 0 before now

-- all but the last are, and its name is as it was
abbrev pub LastCutOff : List ℕ → FolderSeen → FolderSeen → Type 0
LastCutOff base before now = (count : ℕ) × Numbered base count 1 before now

-- all but the last are, which could not be created, written or finished
pub record LastUnmade (base : List ℕ) (before now : FolderSeen) : Type 0 where
  pub count : ℕ
  pub files : Option NamedFiles
  pub others : Numbered base count 1 before (record now { files = files })
  pub last : IsUnmade before.counts.unfinished now.counts.unfinished (file_name base (count + 1)) files now.files

-- By the answer: no file is cut off where the split is done, and the sub-buffer that is told as malformed is the one that a
-- lane holds where the last file is cut off before it.
abbrev pub LeavesFiles : List ℕ → List Lane → FolderSeen → FolderSeen → Result End IoFault → Type 0
LeavesFiles base lanes before now (Ok code.Done) = AllFinished base before now
LeavesFiles base lanes before now (Ok (code.Malformed cut)) =
    AllFinished base before now ⊎ (LastCutOff base before now × TellsHeld lanes (Ok (code.Malformed cut)))
LeavesFiles base lanes before now (Err fault.Read) = AllFinished base before now ⊎ LastCutOff base before now
LeavesFiles base lanes before now (Err fault.Write) = LastUnmade base before now
