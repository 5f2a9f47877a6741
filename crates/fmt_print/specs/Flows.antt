-- Texts of the code whose length is known only once they were put.
use Rattle.std.specs.Prelude.{ℕ, true, false, List}
use Rattle.fmt_expr.specs.TreeView.{tree_of}
use Rattle.fmt_eval.specs.Values.{RecData}
use Rattle.trace_base.specs.Kept.{until_nul}
use Rattle.fmt_eval.specs.Texts.{text_of}
use Rattle.fmt_forms.specs.Texts.{cut_to}
use Rattle.fmt_print.specs.Addresses.{network_text}
use Rattle.fmt_print.specs.declared.flow.Flow.{Flow}
use Rattle.fmt_print.specs.declared.flow.Flow.TheVariants.{Text, Ip4, Mac}

abbrev pub flow_text : RecData → Flow → List ℕ
flow_text g (Text tree precision) = cut_to precision (until_nul (text_of g (tree_of tree.now)))
flow_text g (Ip4 bytes) = network_text true bytes.now
flow_text g (Mac bytes) = network_text false bytes.now
