-- The plain tokens that tokens stand for.
use Rattle.std.specs.Prelude.{ℕ, List, map}
use Rattle.filter_lang.specs.PlainToken.{PlainToken, name, comma, slash, colon, digits, quoted, identifier, mark, exclamation, tilde, opening, closing}
use Rattle.filter_lang.specs.declared.token.Separator.{Separator}
use Rattle.filter_lang.specs.declared.token.Separator.TheVariants.{Comma, Slash, Colon}
use Rattle.filter_lang.specs.declared.token.Word.{Word}
use Rattle.filter_lang.specs.declared.token.Word.TheVariants.{Name, Separator as Separated, Number, Text, Field, Op, Not, Invert, Open, Close}
use Rattle.filter_lang.specs.declared.token.Token.{Token}

abbrev pub separator_token : Separator → PlainToken
separator_token Comma = comma
separator_token Slash = slash
separator_token Colon = colon

abbrev pub plain_token : Word → PlainToken
plain_token (Name bytes) = name bytes.now
plain_token (Separated separator) = separator_token separator
plain_token (Number value) = digits value
plain_token (Text bytes) = quoted bytes.now
plain_token (Field bytes) = identifier bytes.now
plain_token (Op op) = mark op
plain_token Not = exclamation
plain_token Invert = tilde
plain_token Open = opening
plain_token Close = closing

abbrev pub plain_tokens : List Token → List PlainToken
plain_tokens ts = map (λ (t : Token). plain_token t.word) ts

abbrev pub cut_of : Word × ℕ → PlainToken × ℕ
cut_of x = (plain_token x.0, x.1)
