-- What a reader reads from, as plain data.
use Rattle.std.specs.Prelude.{ℕ, List}
use Rattle.fmt_lexer.specs.declared.token.Token.{Token}
use Rattle.trace_base.specs.declared.field.Field.{Field}
use Rattle.fmt_expr.specs.Source.{Source}
use Rattle.fmt_expr.specs.declared.reader.Reader.{Reader}

-- the plain data that a reader reads from
abbrev pub source : Reader → Source
source r = record { text = r.text.now; tokens = r.tokens.now; fields = r.fields.now; long = r.long }

abbrev pub source_of : List ℕ → List Token → List Field → ℕ → Source
source_of text tokens fields long = record { text = text; tokens = tokens; fields = fields; long = long }
