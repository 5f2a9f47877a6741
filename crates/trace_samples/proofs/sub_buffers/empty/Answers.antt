use Rattle.std.proofs.Common.{refl}
use Rattle.subpage.specs.Page.{items}
use Rattle.subpage.specs.Reading.{elements, elements_in, walk}
use Rattle.trace_samples.proofs.sub_buffers.empty.Goals as goal

pub returns-clause-tells : goal.returns-clause-tells
unfolding items walk elements elements_in
returns-clause-tells c = refl
