-- What a packer is to its callers.
use Rattle.std.specs.Prelude.{ℕ, List}
use Rattle.trace_base.specs.declared.layout.Layout.{Layout}
use Rattle.subpage.specs.ItemData.{ItemData}

-- the layout, the items that the open sub-buffer holds, and the bytes that stand in the buffer
pub record Packing : Type 0 where
  pub layout : Layout
  pub held : List ItemData
  pub bytes : List ℕ
