-- What stands at a place of the tokens.
use Rattle.std.proofs.Common.{◌≡◌, ℕ, zero, suc, ◌+◌, ◌<◌, List, [], ◌∷◌, length, drop, None, refl, ap, sym, get_or, ◌∙◌, arith, slice_get}
use Rattle.filter_lang.specs.TokenView.{plain_token, plain_tokens}
use Rattle.filter_lang.specs.declared.token.Token.{Token}

there : (ts : List Token) (at : ℕ) (t : Token) → at < length ts → t ≡ get_or ts at t → drop at (plain_tokens ts) ≡ plain_token t.word ∷ drop (suc at) (plain_tokens ts)
there [] at t lt e = absurd (omega arith)
there (u ∷ ts) zero t lt e = ap (λ (x : Token). plain_token x.word ∷ plain_tokens ts) (sym e)
there (u ∷ ts) (suc at) t lt e = there ts at t (omega arith) e

pub from_there : (ts : List Token) (at : ℕ) (t : Token) → at < length ts → t ≡ get_or ts at t → drop at (plain_tokens ts) ≡ plain_token t.word ∷ drop (at + 1) (plain_tokens ts)
from_there ts at t lt e = let next : suc at ≡ at + 1 = omega arith in there ts at t lt e ∙ ap (λ k. plain_token t.word ∷ drop k (plain_tokens ts)) next

pub from_past : (ts : List Token) (at : ℕ) → slice_get ts at ≡ None → drop at (plain_tokens ts) ≡ []
from_past [] zero e = refl
from_past [] (suc at) e = refl
from_past (u ∷ ts) zero e = absurd cc
from_past (u ∷ ts) (suc at) e = from_past ts at e
