-- The bytes of trees over a record.
use Rattle.std.specs.Prelude.{ℕ, if◌then◌else◌, List, []}
use Rattle.trace_base.specs.Fields.{bytes_in}
use Rattle.fmt_expr.specs.Tree as tree
use Rattle.fmt_expr.specs.Tree.{Tree}
use Rattle.fmt_eval.specs.Numbers.{is_true}
use Rattle.fmt_eval.specs.Values.{RecData, number_of}

-- The bytes that a tree is: those of a whole field, NUL bytes too. A number or any other text counts as none.
abbrev pub bytes_of : RecData → Tree → List ℕ
bytes_of g (tree.number bits kind) = []
bytes_of g (tree.literal text) = []
bytes_of g (tree.field_number f) = []
bytes_of g (tree.field_text f) = bytes_in g.order g.payload f
bytes_of g (tree.field_bytes f) = bytes_in g.order g.payload f
bytes_of g (tree.element f index) = []
bytes_of g (tree.len_of f) = []
bytes_of g (tree.prefix op e) = []
bytes_of g (tree.cast to e) = bytes_of g e
bytes_of g (tree.chain first rest) = []
bytes_of g (tree.choice test a b) = if is_true (number_of g test) then bytes_of g a else bytes_of g b
bytes_of g (tree.flags value between rows) = []
bytes_of g (tree.symbolic value rows) = []
bytes_of g (tree.hex bytes count) = []
bytes_of g (tree.array bytes count size) = []
