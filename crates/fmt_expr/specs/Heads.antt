-- What the token at a place begins.
use Rattle.std.specs.Prelude.{ℕ, List, Option, Some, None, slice_get, if◌then◌else◌, bytes_eq, codes}
use Rattle.fmt_lexer.specs.declared.token.Token.{Token}
use Rattle.fmt_lexer.specs.declared.token.TokenKind.{TokenKind}
use Rattle.fmt_lexer.specs.declared.token.TokenKind.TheVariants.{Name, Number, Letter, Text, Mark}
use Rattle.fmt_lexer.specs.Tokens.{bytes_of}
use Rattle.fmt_expr.specs.Source.{Source}
use Rattle.fmt_expr.specs.declared.expr.PrefixOp.{PrefixOp}
use Rattle.fmt_expr.specs.declared.expr.PrefixOp.TheVariants.{LogicNot, Invert, Plus as Positive, Minus as Negative}
use Rattle.fmt_expr.specs.declared.head.Got.TheVariants.{Text as GotText, Bytes as GotBytes, Length as GotLength}
use Rattle.fmt_expr.specs.declared.head.Builtin.{Builtin}
use Rattle.fmt_expr.specs.declared.head.Builtin.TheVariants.{Get, SizeOf, Flags, Symbolic, Hex, Array}
use Rattle.fmt_expr.specs.declared.head.Head.{Head}
use Rattle.fmt_expr.specs.declared.head.Head.TheVariants.{Operator, Open, Record, Builtin as Called, Other}

-- C11 6.5.3.3
unfoldable pub prefix_of : List ℕ → Option PrefixOp
prefix_of m =
    if bytes_eq m (codes "+") then Some Positive
    else if bytes_eq m (codes "-") then Some Negative
    else if bytes_eq m (codes "!") then Some LogicNot
    else if bytes_eq m (codes "~") then Some Invert
    else None

-- the calls that give something of a field
unfoldable pub get_of : List ℕ → Option Builtin
get_of n =
    if bytes_eq n (codes "__get_str") then Some (Get GotText)
    else if bytes_eq n (codes "__get_rel_str") then Some (Get GotText)
    else if bytes_eq n (codes "__get_dynamic_array") then Some (Get GotBytes)
    else if bytes_eq n (codes "__get_rel_dynamic_array") then Some (Get GotBytes)
    else if bytes_eq n (codes "__get_dynamic_array_len") then Some (Get GotLength)
    else if bytes_eq n (codes "__get_rel_dynamic_array_len") then Some (Get GotLength)
    else None

-- the other calls
unfoldable pub print_of : List ℕ → Option Builtin
print_of n =
    if bytes_eq n (codes "sizeof") then Some SizeOf
    else if bytes_eq n (codes "__print_flags") then Some Flags
    else if bytes_eq n (codes "__print_symbolic") then Some Symbolic
    else if bytes_eq n (codes "__print_hex") then Some Hex
    else if bytes_eq n (codes "__print_array") then Some Array
    else None

abbrev pub or_print : List ℕ → Option Builtin → Option Builtin
or_print n (Some call) = Some call
or_print n None = print_of n

-- the call of a name
unfoldable pub call_of : List ℕ → Option Builtin
call_of n = or_print n (get_of n)

abbrev pub called : Option Builtin → Head
called (Some call) = Called call
called None = Other

unfoldable pub name_head : List ℕ → Head
name_head n = if bytes_eq n (codes "REC") then Record else called (call_of n)

abbrev pub or_open : List ℕ → Option PrefixOp → Head
or_open m (Some op) = Operator op
or_open m None = if bytes_eq m (codes "(") then Open else Other

unfoldable pub mark_head : List ℕ → Head
mark_head m = or_open m (prefix_of m)

abbrev pub token_head : TokenKind → List ℕ → Head
token_head Name bytes = name_head bytes
token_head Number bytes = Other
token_head Letter bytes = Other
token_head Text bytes = Other
token_head Mark bytes = mark_head bytes

abbrev pub some_head : List ℕ → Option Token → Head
some_head text (Some t) = token_head t.kind (bytes_of text t)
some_head text None = Other

unfoldable pub head_at : Source → ℕ → Head
head_at s i = some_head s.text (slice_get s.tokens i)
