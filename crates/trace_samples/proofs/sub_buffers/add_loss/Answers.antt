use Rattle.std.proofs.Common.{◌≡◌, true, [], ◌∷◌, subst, sym}
use Rattle.trace_base.specs.declared.layout.Layout.{Layout}
use Rattle.subpage.specs.ItemData.{ItemData}
use Rattle.subpage.specs.ItemView.{item_view}
use Rattle.page_write.specs.PageBytes.{IsPackable, one_page}
use Rattle.trace_samples.specs.SampleLayout.{sample_layout}
use Rattle.trace_samples.proofs.Samples.{begins}
use Rattle.trace_samples.proofs.sub_buffers.add_loss.Goals as goal

pub add-requires : goal.add-requires
add-requires c = record { packable = subst (λ (l : Layout). IsPackable l (item_view c.loss_at.result)) (sym c.requires.layout) c.loss_at.ensures.packable }

pub returns-clause-held : goal.returns-clause-held
returns-clause-held c = begins _ _ _ _ _ _ c.requires.layout c.requires.empty c.loss_at.ensures.value (subst (λ (x : ItemData). one_page sample_layout (x ∷ []) ≡ true) c.loss_at.ensures.value c.loss_at.ensures.packable.alone) c.add.ensures.adds
