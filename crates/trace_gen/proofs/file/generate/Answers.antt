use Rattle.std.proofs.Common.{◌≡◌, ap, sym, subst, Some, List, ◌∙◌, arith}
use Rattle.trace_base.specs.declared.part.Part.{Part}
use Rattle.dat_header.specs.Spelling.{SpellsHeader}
use Rattle.dat_header.specs.Written.{header_text, written}
use Rattle.page_write.specs.Placed.{data_of}
use Rattle.trace_gen.specs.Generated.{lists_of}
use Rattle.trace_gen.specs.GeneratedHeader.{generated_layout, header_but_parts}
use Rattle.trace_gen.specs.GeneratedFile.{file_text}
use Rattle.trace_gen.proofs.Laid.{some_is, file_laid, is_generated}
use Rattle.trace_gen.proofs.file.generate.Goals as goal

pub returns-clause-bytes : goal.returns-clause-bytes
returns-clause-bytes c =
    let stored : c.bytes.result.now ≡ data_of generated_layout (lists_of c.args.seed c.args.events) = some_is _ _ (sym c.bytes.ensures ∙ c.in-Ok.ensures.written) in
    let told : c.write_file.new.out.kept.items ≡ file_text c.args.seed c.args.events =
    file_laid c.args.seed c.args.events c.new-file.result.kept.items c.write_file.new.out.kept.items c.bytes.result.now c.in-Ok.parts (some_is _ _ c.new-file.ensures.empty) c.in-Ok.ensures.parts stored c.in-Ok-write_file.ensures.gained in
    c.new.ensures.bytes ∙ ap Some (c.in_ok-bytes.ensures ∙ sym (some_is _ _ c.bytes-2.ensures) ∙ told)

pub returns-clause-generated : goal.returns-clause-generated
returns-clause-generated c =
    let stored : c.bytes.result.now ≡ data_of generated_layout (lists_of c.args.seed c.args.events) = some_is _ _ (sym c.bytes.ensures ∙ c.in-Ok.ensures.written) in
    let told : c.write_file.new.out.kept.items ≡ file_text c.args.seed c.args.events =
    file_laid c.args.seed c.args.events c.new-file.result.kept.items c.write_file.new.out.kept.items c.bytes.result.now c.in-Ok.parts (some_is _ _ c.new-file.ensures.empty) c.in-Ok.ensures.parts stored c.in-Ok-write_file.ensures.gained in
    let kept : c.new.result.text ≡ c.write_file.new.out.kept.items = some_is _ _ c.new.ensures.bytes ∙ c.in_ok-bytes.ensures ∙ sym (some_is _ _ c.bytes-2.ensures) in
    let spells = subst (λ (ps : List Part). SpellsHeader (written header_but_parts ps) (header_text header_but_parts ps)) c.in-Ok.ensures.parts c.write_file.ensures.spelled in
    is_generated c.args.seed c.args.events c.new.result.text (omega (arith, c.ranges.events.fits)) (kept ∙ told) (omega (arith, c.new.result.size_is, c.new.result.size_fits)) spells
