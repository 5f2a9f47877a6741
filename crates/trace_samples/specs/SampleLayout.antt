-- The layout of the sample sub-buffers.
-- Source: trace-cmd.dat.v6(5), `header_page`, as a kernel of 64 bits prints it.
use Rattle.std.specs.Prelude.{refl}
use Rattle.trace_base.specs.Allowed.{allowed_is}
use Rattle.trace_base.specs.Layout.{plain_layout}
use Rattle.trace_base.specs.declared.layout.Layout.{Layout}
use Rattle.trace_base.specs.declared.order.Order.TheVariants.{Little}

abbrev pub sample_layout : Layout
sample_layout = plain_layout Little 8 4096 (allowed_is 0 8 8 16 4096 refl)
