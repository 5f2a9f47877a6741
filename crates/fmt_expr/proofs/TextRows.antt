-- Adjoining texts, one after another.
use Rattle.std.proofs.Common.{◌≡◌, ℕ, zero, suc, ◌+◌, ◌<◌, ◌≤◌, List, [], ◌∷◌, ◌++◌, length, drop, Option, Some, None, refl, sym, ap, ap₂, subst, ◌∙◌, arith, rules, append_assoc, option_and_then, inl, inr, true, nat_lt, append-nil}
use Rattle.std.specs.Prelude.{slice_get}
use Rattle.fmt_lexer.specs.declared.token.Token.{Token}
use Rattle.fmt_lexer.specs.Tokens.{bytes_of}
use Rattle.fmt_expr.specs.Source.{Source, as_text, literal_at}
use Rattle.fmt_expr.specs.Texts.{AreTexts, last, joined, Texts, texts, with_text, texts_in, texts_from, Joined, joined_text, text_at}
use Rattle.fmt_expr.proofs.Chances.{option_cases, some_is, guarded}
use Rattle.std.proofs.lemmas.Option.{option_and_then_some, slice_get_within}

abbrev read : List ℕ → Option Token → Option (List ℕ)
read text o = option_and_then (λ t. as_text t.kind (bytes_of text t)) o

row_some : (text : List ℕ) (ts : List Token) (i : ℕ) (b : List ℕ) → read text (slice_get ts i) ≡ Some b → texts_in text (drop i ts) ≡ with_text (Some b) (texts_in text (drop (suc i) ts))
row_some text [] i b e = absurd cc
row_some text (t ∷ ts) zero b e = ap (λ (o : Option (List ℕ)). with_text o (texts_in text ts)) e
row_some text (t ∷ ts) (suc i) b e = row_some text ts i b e

row_none : (text : List ℕ) (ts : List Token) (i : ℕ) → read text (slice_get ts i) ≡ None → texts_in text (drop i ts) ≡ texts [] 0
row_none text [] zero e = refl
row_none text [] (suc i) e = refl
row_none text (t ∷ ts) zero e = ap (λ (o : Option (List ℕ)). with_text o (texts_in text ts)) e
row_none text (t ∷ ts) (suc i) e = row_none text ts i e

next : (i : ℕ) → suc i ≡ i + 1
next i = omega arith

pub texts_more : (s : Source) (i : ℕ) (b : List ℕ) → literal_at s i ≡ Some b → texts_from s i ≡ with_text (Some b) (texts_from s (i + 1))
unfolding literal_at texts_from
texts_more s i b e = row_some s.text s.tokens i b e ∙ ap (λ (k : ℕ). with_text (Some b) (texts_in s.text (drop k s.tokens))) (next i)

pub texts_over : (s : Source) (i : ℕ) → literal_at s i ≡ None → texts_from s i ≡ texts [] 0
unfolding literal_at texts_from
texts_over s i e = row_none s.text s.tokens i e

-- one turn of the loop: bytes that were read, with those that follow, are all of them
pub texts_step : (s : Source) (i : ℕ) (b front more : List ℕ) (all : Texts) → literal_at s i ≡ Some b → more ≡ front ++ b → texts (front ++ (texts_from s i).bytes) (i + (texts_from s i).len) ≡ all
    → texts (more ++ (texts_from s (i + 1)).bytes) (i + 1 + (texts_from s (i + 1)).len) ≡ all
texts_step s i b front more all e m h =
    let rest : Texts = texts_from s (i + 1) in
    let here = texts_more s i b e in
    let place : i + 1 + rest.len ≡ i + (1 + rest.len) = omega arith in
    ap (λ (f : List ℕ). texts (f ++ rest.bytes) (i + 1 + rest.len)) m ∙ ap₂ (λ (f : List ℕ) n. texts f n) (append_assoc front b rest.bytes) place
    ∙ ap (λ (t : Texts). texts (front ++ t.bytes) (i + t.len)) (sym here) ∙ h

pub literal_within : (s : Source) (i : ℕ) (b : List ℕ) → literal_at s i ≡ Some b → i < length s.tokens
unfolding literal_at
literal_within s i b e = option_and_then_some (λ t. as_text t.kind (bytes_of s.text t)) (slice_get s.tokens i) b e (λ t there is. slice_get_within s.tokens i t there)

text_there : (s : Source) (i n : ℕ) (b : List ℕ) → texts_from s i ≡ texts b n → 0 < n → text_at s i ≡ Some (joined_text b (i + n))
unfolding text_at
text_there s i n b e lt = let some : nat_lt 0 n ≡ true = search rules in rw (e, some) refl

pub no_texts : (s : Source) (i at : ℕ) → i ≡ at → literal_at s i ≡ None → text_at s at ≡ None
unfolding text_at
no_texts s i at e none = ap (text_at s) (sym e) ∙ rw (texts_over s i none) refl

pub some_texts : (s : Source) (i at : ℕ) (front : List ℕ) → at < i → literal_at s i ≡ None → texts (front ++ (texts_from s i).bytes) (i + (texts_from s i).len) ≡ texts (texts_from s at).bytes (at + (texts_from s at).len)
    → text_at s at ≡ Some (joined_text front i)
some_texts s i at front lt none h =
    let all : Texts = texts_from s at in
    let over = texts_over s i none in
    let bytes : front ≡ all.bytes = sym (append-nil front) ∙ ap (λ (t : Texts). front ++ t.bytes) (sym over) ∙ ap (λ (t : Texts). t.bytes) h in
    let nothing : (texts_from s i).len ≡ 0 = ap (λ (t : Texts). t.len) over in
    let place : i + (texts_from s i).len ≡ at + all.len = ap (λ (t : Texts). t.len) h in
    let same : i ≡ at + all.len = omega arith in
    text_there s at all.len all.bytes refl (omega arith) ∙ ap₂ (λ (b : List ℕ) n. Some (joined_text b n)) (sym bytes) (sym same)

-- a row of texts, and how many they are
rows : {s : Source} {i j : ℕ} {b : List ℕ} → AreTexts s i b j → (n : ℕ) × (texts_from s i ≡ texts b n) × (0 < n) × (i + n ≡ j)
rows {s} {i} (last {text = text} is none) =
    (1, texts_more s i text is ∙ ap (with_text (Some text)) (texts_over s (i + 1) none) ∙ ap (λ (b : List ℕ). texts b 1) (append-nil text), omega arith, refl)
rows {s} {i} (joined {text = text} {rest = rest} is r) = let m = rows r in (1 + m.0, texts_more s i text is ∙ ap (with_text (Some text)) m.1, omega (arith, m.2), omega (arith, m.3))

pub texts_again : {s : Source} {i j : ℕ} {b : List ℕ} → AreTexts s i b j → text_at s i ≡ Some (joined_text b j)
texts_again {s} {i} {j} {b} r = let n = rows r in text_there s i n.0 b n.1 n.2 ∙ ap (λ (k : ℕ). Some (joined_text b k)) n.3

pub texts_move : {s : Source} {i j : ℕ} {b : List ℕ} → AreTexts s i b j → i < j
texts_move (last is none) = omega arith
texts_move (joined is r) = omega (arith, texts_move r)

pub texts_literal : {s : Source} {i j : ℕ} {b : List ℕ} → AreTexts s i b j → (text : List ℕ) × (literal_at s i ≡ Some text)
texts_literal (last {text = text} is none) = (text, is)
texts_literal (joined {text = text} is r) = (text, is)

-- what is computed is a row of texts: by the number of tokens that are left
stand : (s : Source) (m i : ℕ) → length s.tokens ≤ i + m → (b : List ℕ) → literal_at s i ≡ Some b → AreTexts s i (texts_from s i).bytes (i + (texts_from s i).len)
stand s zero i le b e = absurd (let lt = literal_within s i b e in omega arith)
stand s (suc m) i le b e =
    let here = texts_more s i b e in
    let P : Texts → Type 0 = λ t. AreTexts s i t.bytes (i + t.len) in
    elim (option_cases (literal_at s (i + 1))) [
      | inl none ↦ (
          let one : with_text (Some b) (texts_from s (i + 1)) ≡ texts b 1 = ap (with_text (Some b)) (texts_over s (i + 1) none) ∙ ap (λ (x : List ℕ). texts x 1) (append-nil b) in
          subst P (sym (here ∙ one)) (last e none))
      | inr more ↦ (
          let rest = stand s m (i + 1) (omega arith) more.0 more.1 in
          let place : i + 1 + (texts_from s (i + 1)).len ≡ i + (1 + (texts_from s (i + 1)).len) = omega arith in
          subst P (sym here) (subst (AreTexts s i (b ++ (texts_from s (i + 1)).bytes)) place (joined e rest)))
    ]

pub texts_stand : (s : Source) (i : ℕ) (t : Joined) → text_at s i ≡ Some t → AreTexts s i t.text t.next
unfolding text_at
texts_stand s i t e =
    let g = guarded (nat_lt 0 (texts_from s i).len) _ t e in
    elim (option_cases (literal_at s i)) [
      | inl none ↦ absurd (let f = rw (texts_over s i none) at g.0 in cc)
      | inr there ↦ (
          let same = some_is _ t g.1 in
          subst (λ (x : Joined). AreTexts s i x.text x.next) same (stand s (length s.tokens) i (omega arith) there.0 there.1))
    ]

-- a text that stands alone
pub lone_text : (s : Source) (i : ℕ) (b : List ℕ) → literal_at s i ≡ Some b → literal_at s (i + 1) ≡ None → text_at s i ≡ Some (joined_text b (i + 1))
lone_text s i b e none =
    let row : texts_from s i ≡ texts b 1 =
    texts_more s i b e ∙ ap (λ (t : Texts). with_text (Some b) t) (texts_over s (i + 1) none) ∙ ap (λ (l : List ℕ). texts l 1) (append-nil b) in
    text_there s i 1 b row (omega arith)
