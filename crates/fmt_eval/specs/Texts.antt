-- The texts of trees over a record, one equation a production.
use Rattle.std.specs.Prelude.{ℕ, if◌then◌else◌, List, [], ◌∷◌}
use Rattle.trace_base.specs.Fields.{bytes_in}
use Rattle.trace_base.specs.Kept.{until_nul}
use Rattle.fmt_expr.specs.Tree as tree
use Rattle.fmt_expr.specs.Tree.{Tree, Entries, no_entries, entry}
use Rattle.fmt_eval.specs.Numbers.{pattern, is_true}
use Rattle.fmt_eval.specs.Values.{RecData, number_of}
use Rattle.fmt_eval.specs.Bytes.{bytes_of}
use Rattle.fmt_eval.specs.Flags.{Row, flags_text, symbol_text}
use Rattle.fmt_eval.specs.Arrays.{hex_text, array_text}

-- entries as numbers of 64 bits, sign-extended from signed kinds, with their texts
abbrev pub rows_of : RecData → Entries → List Row
rows_of g no_entries = []
rows_of g (entry value text rest) = (pattern (number_of g value).exact, text) ∷ rows_of g rest

-- the text that a tree is; a number or bytes count as the empty text
abbrev pub text_of : RecData → Tree → List ℕ
text_of g (tree.number bits kind) = []
text_of g (tree.literal text) = text
text_of g (tree.field_number f) = []
text_of g (tree.field_text f) = until_nul (bytes_in g.order g.payload f)
text_of g (tree.field_bytes f) = []
text_of g (tree.element f index) = []
text_of g (tree.len_of f) = []
text_of g (tree.prefix op e) = []
text_of g (tree.cast to e) = text_of g e
text_of g (tree.chain first rest) = []
text_of g (tree.choice test a b) = if is_true (number_of g test) then text_of g a else text_of g b
text_of g (tree.flags value between entries) = flags_text between (pattern (number_of g value).exact) (rows_of g entries)
text_of g (tree.symbolic value entries) = symbol_text (pattern (number_of g value).exact) (rows_of g entries)
text_of g (tree.hex bytes count) = hex_text (number_of g count).exact (bytes_of g bytes)
text_of g (tree.array bytes count size) = array_text g.order (number_of g count).exact (number_of g size).exact (bytes_of g bytes)
