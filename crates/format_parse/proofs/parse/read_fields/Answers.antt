use Rattle.std.proofs.Common.{◌∙◌, ◌++◌, map, sym, ap}
use Rattle.text_lines.specs.Lines.{lines_left}
use Rattle.format_parse.specs.FieldKinds.{field_of}
use Rattle.format_parse.specs.Format.{field_data, print_text}
use Rattle.format_parse.proofs.Formats.{print_here, fields_end, none_after}
use Rattle.format_parse.proofs.parse.read_fields.Goals as goal

pub returns-in-Some-after_front-clause-fields : goal.returns-in-Some-after_front-clause-fields
returns-in-Some-after_front-clause-fields c =
    fields_end c.in-Some.lines.now c.in-Some-after_front.print.now c.loop-left.fields.items _ c.in-Some-after_front.ensures
    (ap (λ l. c.loop-left.fields.items ++ map field_of (field_data (lines_left l))) (sym c.in-Some.is) ∙ c.loop-left.invariant.fields)

pub returns-in-Some-after_front-clause-print : goal.returns-in-Some-after_front-clause-print
returns-in-Some-after_front-clause-print c =
    print_here c.in-Some.lines.now c.in-Some-after_front.print.now c.in-Some-after_front.ensures
    ∙ ap (λ l. print_text (lines_left l)) (sym c.in-Some.is) ∙ c.loop-left.invariant.print

pub put_fields-requires : goal.put_fields-requires
put_fields-requires c = none_after c.after_front.result c.in-Some.lines.now c.after_front.ensures c.in_default-after_front.not-Some

pub loop-left-preserved : goal.loop-left-preserved
loop-left-preserved c =
    let reads = c.in_ok-left.ensures.reads in
    record {
      fields = reads.fields ∙ ap (λ l. c.loop-left.fields.items ++ map field_of (field_data (lines_left l))) (sym c.in-Some.is) ∙ c.loop-left.invariant.fields;
      print = reads.print ∙ ap (λ l. print_text (lines_left l)) (sym c.in-Some.is) ∙ c.loop-left.invariant.print;
    }
