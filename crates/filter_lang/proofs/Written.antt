-- Tokens that text can write.
use Rattle.std.proofs.Common.{◌≡◌, Bool, true, false, ◌||◌, List, [], ◌∷◌, ◌++◌, refl}
use Rattle.c_operators.specs.Operators.{op_of}
use Rattle.filter_lang.specs.PlainToken.{PlainToken, name, identifier, closing}
use Rattle.filter_lang.specs.Lexing.{before_colon, behind_colon, long_at, short_at, AreWritten}

pub either_true : (a : Bool) {b : Bool} → b ≡ true → (a || b) ≡ true
either_true true e = refl
either_true false e = e

pub name_written : AreWritten false (name (97 ∷ []) ∷ [])
unfolding before_colon
name_written = (record { first = 97; bytes = []; begins = refl; is = refl }, tt)

pub word_written : AreWritten true (identifier (97 ∷ []) ∷ [])
unfolding behind_colon
word_written = (record { first = 97; bytes = []; begins = refl; is = refl }, tt)

pub closing_written : AreWritten true (closing ∷ [])
unfolding behind_colon long_at short_at op_of
closing_written = (record { first = 41; bytes = []; begins = refl; is = refl }, tt)

pub written_more : (ts us : List PlainToken) → AreWritten true ts → AreWritten true us → AreWritten true (ts ++ us)
written_more [] us w v = v
written_more (t ∷ ts) us w v = (w.0, written_more ts us w.1 v)
