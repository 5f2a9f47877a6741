use Rattle.std.proofs.Common.{ap, sym, ◌∙◌, Some}
use Rattle.std.specs.FinMap.{find, get-from_entries}
use Rattle.std.specs.Ordering.{nat_cmp}
use Rattle.std.specs.Cmp.Lexicographic.{slice_cmp, nat_list_cmp_total}
use Rattle.trace_outside.proofs.memory.folder.MemFolder.get.Goals as goal

pub returns : goal.returns
returns c = ap Some (get-from_entries nat_list_cmp_total _ _ ∙ ap (λ name. find (slice_cmp nat_cmp) name c.args.self.now.log.items) (sym c.as_bytes.ensures.value) ∙ sym c.newest.ensures)
