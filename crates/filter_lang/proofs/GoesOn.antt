-- What stands before the place where a text is refused goes on, with a blank and some further text after it.
use Rattle.std.proofs.Common.{◌≡◌, ℕ, ◌≤◌, Bool, true, false, ◌||◌, List, [], ◌∷◌, ◌++◌, length, take, drop, Some, refl, ap, sym, ◌∙◌, subst, arith}
use Rattle.std.specs.List.{list_any}
use Rattle.std.proofs.Math.Seq.{drop-append_seam}
use Rattle.std.proofs.lemmas.List.{append_assoc, append-nil, take-append-drop, length-take-le, length-append, map-append, append_cancel_right}
use Rattle.filter_lang.specs.PlainToken.{PlainToken}
use Rattle.filter_lang.specs.Filter.{FilterData}
use Rattle.byte_classes.specs.Bytes.{is_blank}
use Rattle.filter_lang.specs.Lexing.{token_in, is_colon, AreWritten}
use Rattle.filter_lang.specs.Grammar.{IsFilter, CanGoOn}
use Rattle.filter_lang.specs.Texts.{Lexeme, lexeme, AreLexemes, ended, blank, fault, token, tokens_in, RefusedText, at_token, too_short, no_token, TextGoesOn}
use Rattle.filter_lang.proofs.Cuts.{token_again, token_inside}
use Rattle.filter_lang.specs.Reading.{from_first}

-- whether a `:` stands before what follows the tokens
abbrev pub colon_past : Bool → List PlainToken → Bool
colon_past b [] = b
colon_past b (t ∷ ts) = colon_past (b || is_colon t) ts

or_more : (a b c : Bool) → ((a || b) || c) ≡ (a || (b || c))
or_more true b c = refl
or_more false b c = refl

or_none : (b : Bool) → b ≡ (b || false)
or_none true = refl
or_none false = refl

colon_any : (b : Bool) (ts : List PlainToken) → colon_past b ts ≡ (b || list_any is_colon ts)
colon_any b [] = or_none b
colon_any b (t ∷ ts) = colon_any (b || is_colon t) ts ∙ or_more b (is_colon t) (list_any is_colon ts)

-- the text has these tokens
pub record LexesAs (b : Bool) (text : List ℕ) (ts : List PlainToken) : Type 0 where
  pub row : List Lexeme
  pub lexes : AreLexemes b text row []
  pub same : tokens_in row ≡ ts

-- a front of the text has these tokens, also with a blank and anything after it
pub record Front (b : Bool) (text rs : List ℕ) (us : List PlainToken) : Type 0 where
  pub before : List ℕ
  pub is : text ≡ before ++ rs
  pub again : (more : List ℕ) (row : List Lexeme) → AreLexemes (colon_past b us) (32 ∷ more) row [] → LexesAs b (before ++ 32 ∷ more) (us ++ tokens_in row)

front_here : (b : Bool) (text : List ℕ) → Front b text text []
front_here b text = record { before = []; is = refl; again = λ more row d. record { row = row; lexes = d; same = refl } }

at_first : (b : Bool) (text rest : List ℕ) (l : Lexeme) (row vs : List Lexeme) → l.at ≡ text → l ∷ row ≡ vs → Front b text (from_first vs rest) []
at_first b text rest l row vs at e = subst (λ (zs : List Lexeme). Front b text (from_first zs rest) []) e (subst (λ (zs : List ℕ). Front b text zs []) (sym at) (front_here b text))

first_is : (k l : Lexeme) (ks ls : List Lexeme) → k ∷ ks ≡ l ∷ ls → k.plain ≡ l.plain
first_is k l ks ls e = let same : k ≡ l = cc in ap (λ (x : Lexeme). x.plain) same

tail_is : (k l : Lexeme) (ks ls : List Lexeme) → k ∷ ks ≡ l ∷ ls → ks ≡ ls
tail_is k l ks ls e = cc

behind_front : (n : ℕ) (bytes front back : List ℕ) → n ≤ length bytes → drop n ((take n bytes ++ front) ++ back) ≡ front ++ back
behind_front n bytes front back le =
    ap (λ (zs : List ℕ). drop n zs) (append_assoc (take n bytes) front back)
    ∙ ap (λ (k : ℕ). drop k (take n bytes ++ (front ++ back))) (sym (length-take-le n bytes le)) ∙ drop-append_seam (take n bytes) (front ++ back)

module _ (b : Bool) (c n : ℕ) (bytes rs : List ℕ) (t : PlainToken) (us : List PlainToken) (is : token_in b (c ∷ bytes) ≡ Some (t, n)) (f : Front (b || is_colon t) (drop n bytes) rs us) where
  parts : bytes ≡ (take n bytes ++ f.before) ++ rs
  parts = sym (take-append-drop n bytes) ∙ ap (λ (zs : List ℕ). take n bytes ++ zs) f.is ∙ sym (append_assoc (take n bytes) f.before rs)

  inside : n ≤ length (take n bytes ++ f.before)
  inside = omega (arith, length-take-le n bytes (token_inside b c bytes t n is), length-append (take n bytes) f.before)

  token_front : is_blank c ≡ false → Front b (c ∷ bytes) rs (t ∷ us)
  token_front none = record {
    before = c ∷ (take n bytes ++ f.before);
    is = ap (λ (zs : List ℕ). c ∷ zs) parts;
    again = λ more row d.
        let k = f.again more row d in
        let there : token_in b (c ∷ (take n bytes ++ f.before) ++ 32 ∷ more) ≡ Some (t, n) = token_again b c (take n bytes ++ f.before) rs more t n (ap (λ (zs : List ℕ). token_in b (c ∷ zs)) (sym parts) ∙ is) inside in
        let rest = behind_front n bytes f.before (32 ∷ more) (token_inside b c bytes t n is) in
        let lexed : AreLexemes (b || is_colon t) (drop n ((take n bytes ++ f.before) ++ 32 ∷ more)) k.row [] = subst (λ (zs : List ℕ). AreLexemes (b || is_colon t) zs k.row []) (sym rest) k.lexes in record {
          row = lexeme t (c ∷ (take n bytes ++ f.before) ++ 32 ∷ more) ∷ k.row;
          lexes = token none there lexed;
          same = ap (λ (zs : List PlainToken). t ∷ zs) k.same;
        };
  }

blank_front : (b : Bool) (c : ℕ) (bytes rs : List ℕ) (us : List PlainToken) → is_blank c ≡ true → Front b bytes rs us → Front b (c ∷ bytes) rs us
blank_front b c bytes rs us is f = record {
  before = c ∷ f.before;
  is = ap (λ (zs : List ℕ). c ∷ zs) f.is;
  again = λ more row d. let k = f.again more row d in record { row = k.row; lexes = blank is k.lexes; same = k.same };
}

-- the front that ends before some of the tokens
pub front : {b : Bool} {text rest : List ℕ} {row : List Lexeme} (us vs : List Lexeme) → AreLexemes b text row rest → row ≡ us ++ vs → Front b text (from_first vs rest) (tokens_in us)
front {b} [] [] ended e = front_here b []
front [] (v ∷ vs) ended e = absurd cc
front (u ∷ us) vs ended e = absurd cc
front {b} {rest = rest} us vs (blank {c = c} {bytes = bytes} is d) e = blank_front b c bytes (from_first vs rest) (tokens_in us) is (front us vs d e)
front {b} [] [] (fault {c = c} {bytes = bytes} is none) e = front_here b (c ∷ bytes)
front [] (v ∷ vs) (fault is none) e = absurd cc
front (u ∷ us) vs (fault is none) e = absurd cc
front {b} {rest = rest} [] vs (token {c = c} {bytes = bytes} {row = row} {t = t} is i d) e = at_first b (c ∷ bytes) rest (lexeme t (c ∷ bytes)) row vs refl e
front {b} {rest = rest} (u ∷ us) vs (token {c = c} {n = n} {bytes = bytes} {row = row} {t = t} is i d) e =
    let same : t ≡ u.plain = first_is (lexeme t (c ∷ bytes)) u row (us ++ vs) e in
    subst (λ (z : PlainToken). Front b (c ∷ bytes) (from_first vs rest) (z ∷ tokens_in us)) same
    (token_front b c n bytes (from_first vs rest) t (tokens_in us) i (front us vs d (tail_is (lexeme t (c ∷ bytes)) u row (us ++ vs) e)) is)

-- text that writes tokens, each after a blank
pub record Spelled (b : Bool) (ts : List PlainToken) : Type 0 where
  pub text : List ℕ
  pub row : List Lexeme
  pub lexes : AreLexemes b (32 ∷ text) row []
  pub same : tokens_in row ≡ ts

pub spelled : (b : Bool) (ts : List PlainToken) → AreWritten b ts → Spelled b ts
spelled b [] w = record { text = []; row = []; lexes = blank refl ended; same = refl }
spelled b (t ∷ ts) w =
    let k = spelled (b || is_colon t) ts w.1 in
    let first : ℕ = w.0.first in
    let bytes : List ℕ = w.0.bytes in
    let there : token_in b (first ∷ bytes ++ 32 ∷ k.text) ≡ Some (t, length bytes) =
    token_again b first bytes [] k.text t (length bytes) (ap (λ (zs : List ℕ). token_in b (first ∷ zs)) (append-nil bytes) ∙ w.0.is) (omega arith) in
    let rest : AreLexemes (b || is_colon t) (drop (length bytes) (bytes ++ 32 ∷ k.text)) k.row [] = subst (λ (zs : List ℕ). AreLexemes (b || is_colon t) zs k.row []) (sym (drop-append_seam bytes (32 ∷ k.text))) k.lexes in record {
      text = first ∷ bytes ++ 32 ∷ k.text;
      row = lexeme t (first ∷ bytes ++ 32 ∷ k.text) ∷ k.row;
      lexes = blank refl (token w.0.begins there rest);
      same = ap (λ (zs : List PlainToken). t ∷ zs) k.same;
    }

abbrev pub Fronted : List ℕ → List ℕ → Type 0
Fronted text rs = (before : List ℕ) × (text ≡ before ++ rs) × TextGoesOn before

fronted : (text rs : List ℕ) (us ts : List PlainToken) → Front false text rs us → ts ≡ us → CanGoOn ts → Fronted text rs
fronted text rs us ts f e g =
    let s = spelled (list_any is_colon ts) g.on.more g.written in
    let past : list_any is_colon ts ≡ colon_past false us = ap (list_any is_colon) e ∙ sym (colon_any false us) in
    let k = f.again s.text s.row (subst (λ (b : Bool). AreLexemes b (32 ∷ s.text) s.row []) past s.lexes) in
    let all : tokens_in k.row ≡ ts ++ g.on.more = k.same ∙ ap (λ (zs : List PlainToken). us ++ zs) s.same ∙ ap (λ (zs : List PlainToken). zs ++ g.on.more) (sym e) in (
      f.before,
      f.is,
      record {
        more = s.text;
        made = g.on.made;
        whole = record { row = k.row; lexes = k.lexes; is_filter = subst (λ (zs : List PlainToken). IsFilter zs g.on.made) (sym all) g.on.whole };
      },
    )

already : (ts : List PlainToken) (f : FilterData) → IsFilter ts f → CanGoOn ts
already ts f d = record { on = record { more = []; made = f; whole = subst (λ (zs : List PlainToken). IsFilter zs f) (sym (append-nil ts)) d }; written = tt }

pub refused_goes_on : (text rs : List ℕ) → RefusedText text rs → Fronted text rs
refused_goes_on text rs (at_token us vs l d r) =
    let same : r.before ≡ tokens_in us = append_cancel_right r.before (tokens_in us) (tokens_in (l ∷ vs)) (sym r.is ∙ map-append (λ (x : Lexeme). x.plain) us (l ∷ vs)) in
    fronted text l.at (tokens_in us) r.before (front us (l ∷ vs) d refl) same r.goes_on
refused_goes_on text rs (too_short {row = row} d r) =
    fronted text rs (tokens_in row) r.before (front row [] d (sym (append-nil row))) (sym (append-nil r.before) ∙ sym r.is) r.goes_on
refused_goes_on text rs (no_token {row = row} {f = f} d some is) =
    fronted text rs (tokens_in row) (tokens_in row) (front row [] d (sym (append-nil row))) refl (already (tokens_in row) f is)
