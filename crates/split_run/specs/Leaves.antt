-- What a split leaves of a folder whatever the bytes of its input are, also where they change while it is read.
-- Source: trace-cmd-split(1).
use Rattle.std.specs.Prelude.{◌≡◌, ◌⊎◌, ℕ, List}
use Rattle.split_tool.specs.Numbered.{AllFinished, LastCutOff, LastUnmade}
use Rattle.run_endings.specs.declared.status.Status.{Status}
use Rattle.run_endings.specs.declared.status.Status.TheVariants.{Done, Usage, Refused, Malformed, ReadFault, WriteFault, NoMemory}
use Rattle.run_endings.specs.Outside.{FolderSeen}

-- By the answer: the first so many files are finished, in the order of their numbers, and every other name is as it was. Where
-- the split is done, no file is cut off, and where there was no memory, the folder is as it was.
abbrev pub LeavesFolder : List ℕ → Status → FolderSeen → FolderSeen → Type 0
LeavesFolder base Done before now = AllFinished base before now
LeavesFolder base (Malformed cut) before now = AllFinished base before now ⊎ LastCutOff base before now
LeavesFolder base ReadFault before now = AllFinished base before now ⊎ LastCutOff base before now
LeavesFolder base WriteFault before now = LastUnmade base before now
LeavesFolder base NoMemory before now = now ≡ before
LeavesFolder base Usage before now = ⊥
LeavesFolder base (Refused fault) before now = ⊥
