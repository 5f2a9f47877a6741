use Rattle.std.proofs.Common.{refl}
use Rattle.dump_tool.proofs.summary.rows_of.Goals as goal

-- in two steps, since one would take too many
pub returns : goal.returns
returns c =
    rw (c.order_name.ensures, c.as_bytes.ensures, c.as_bytes-2.ensures, c.as_slice.ensures, c.as_slice-2.ensures, c.event_count.ensures)
    (rw (c.as_slice-3.ensures, c.as_bytes-3.ensures, c.as_bytes-4.ensures, c.as_bytes-5.ensures, c.options_of.ensures, c.body_name.ensures) refl)
