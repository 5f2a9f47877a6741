use Rattle.std.proofs.lemmas.Iterator.{YieldsList-from_slice}
use Rattle.dump_tool.specs.RowText.{row_text}
use Rattle.dump_tool.proofs.EntriesPut.{entries_put}
use Rattle.dump_tool.proofs.summary.put_summary.Goals as goal

pub returns : goal.returns
returns g c =
    rw (← c.rows_of-rows.ensures)
    (entries_put row_text _ _ _ (YieldsList-from_slice c.rows_of-rows.result cc) (λ texts yields. c.put_each.ensures _ texts yields (λ _ _ _ _ _ _ put. put)))
