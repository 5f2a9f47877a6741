-- What a split goes through, and what it is lent.
use Rattle.std.specs.Prelude.{◌≡◌, ℕ, ◌%◌, ◌^◌, ◌<◌, All, List, [], ◌∷◌, length}
use Rattle.trace_base.specs.declared.layout.Layout.{Layout}
use Rattle.trace_base.specs.declared.part.Part.{Part}
use Rattle.dat_header.specs.declared.header.Header.{Header}
use Rattle.dat_header.specs.Allowed.{IsHeader}
use Rattle.dat_header.specs.Written.{text_before_table}
use Rattle.subpage.specs.Arrangement.{CpusRise}
use Rattle.page_pool.specs.Fresh.{IsFresh}
use Rattle.time_merge.specs.LaneRows.{HasLayout, parts_of}
use Rattle.split_passes.specs.ListSeen.{ListSeen}
use Rattle.split_pieces.specs.declared.rules.Rules.{Rules}
use Rattle.split_pieces.specs.Cuts.{is_apart}
use Rattle.split_tool.specs.Lists.{AreGroups, lanes_of}
use Rattle.split_tool.specs.NewFile.{front_len}
use Rattle.split_tool.specs.declared.work.SplitWork.{SplitWork}

-- it was made for this header, and has what each new file's header begins with, and where its first sub-buffer stands
pub record IsWorkFor (header : Header) (work : SplitWork) : Type 0 where
  pub table : length work.table.items ≡ header.cpus
  pub page : length work.page.items ≡ header.layout.page
  pub before : work.before ≡ text_before_table header
  pub at : work.at ≡ front_len header % 2 ^ 64

-- they are the lists that are cut by these rules, over a file with this header: all lanes in one, or each lane in one of its own
pub record AreLists (rules : Rules) (header : Header) (lists : List ListSeen) : Type 0 where
  pub layouts : All (λ list. list.layout ≡ header.layout) lists
  pub groups : AreGroups (is_apart rules) lists
  pub rise : CpusRise (parts_of (lanes_of lists))
  pub cpus : All (λ lane. lane.cpu < header.cpus) (lanes_of lists)

-- its lanes have its layout
abbrev pub HasOwnLayouts : ListSeen → Type 0
HasOwnLayouts list = All (HasLayout list.layout) list.all

-- a file can be cut off the lists, and the work is for it
pub record CanCut (rules : Rules) (header : Header) (lists : List ListSeen) (work : SplitWork) : Type 0 where
  pub allowed : IsHeader header
  pub are : AreLists rules header lists
  pub lent : IsWorkFor header work

-- a list over these parts, before its first items
pub record IsNewList (layout : Layout) (parts : List (ℕ × Part)) (list : ListSeen) : Type 0 where
  pub layout_is : list.layout ≡ layout
  pub parts_are : parts_of list.all ≡ parts
  pub fresh : All (λ lane. IsFresh lane.cursor) list.all

-- one over all
abbrev pub IsAlone : Layout → List (ℕ × Part) → List ListSeen → Type 0
IsAlone layout parts [] = ⊥
IsAlone layout parts (list ∷ []) = IsNewList layout parts list
IsAlone layout parts (list ∷ other ∷ lists) = ⊥

-- one over each
abbrev pub AreOwn : Layout → List (ℕ × Part) → List ListSeen → Type 0
AreOwn layout [] [] = Unit {0}
AreOwn layout [] (list ∷ lists) = ⊥
AreOwn layout (part ∷ parts) [] = ⊥
AreOwn layout (part ∷ parts) (list ∷ lists) = IsNewList layout (part ∷ []) list × AreOwn layout parts lists
