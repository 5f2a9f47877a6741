-- The tokens of a text: what is computed is what the relation says.
use Rattle.std.proofs.Common.{◌≡◌, ℕ, zero, suc, ◌+◌, ◌-◌, ◌<◌, ◌≤◌, true, false, List, [], ◌∷◌, length, take, drop, get_or, Option, Some, None, refl, sym, ap, subst, ◌∙◌, inl, inr, arith}
use Rattle.std.specs.Option.{option_map, option_and_then}
use Rattle.std.proofs.lemmas.Bool.{cases_Bool, cases_lt, cases_order}
use Rattle.std.proofs.lemmas.List.{drop_more, drop_all, length-drop, drop-drop, get_or-drop, length-take, take_rest}
use Rattle.std.proofs.lemmas.Option.{same_Some}
use Rattle.fmt_lexer.specs.declared.token.Token.{Token}
use Rattle.fmt_lexer.specs.declared.token.TokenKind.{TokenKind}
use Rattle.byte_classes.specs.Bytes.{is_blank, is_word}
use Rattle.fmt_lexer.specs.Tokens.{Spells, IsTokenOf}
use Rattle.fmt_lexer.specs.Reading.{first_token, tokens_from}
use Rattle.fmt_lexer.proofs.Steps.{option_cases, map_some}
use Rattle.fmt_lexer.proofs.FirstTokens.{BeginsWith, spelled_some, found, first_sound, first_complete, some_bytes, no_blank}

abbrev pub token : TokenKind → ℕ → ℕ → Token
token kind start end = record { kind = kind; start = start; end = end }

-- bytes that are in a token already are passed over
skipped : (n at : ℕ) (bytes : List ℕ) → n ≤ length bytes → tokens_from n at bytes ≡ tokens_from 0 (at + n) (drop n bytes)
unfolding tokens_from
skipped zero at [] le = refl
skipped zero at (b ∷ bytes) le = ap (λ (k : ℕ). tokens_from 0 k (b ∷ bytes)) (omega arith)
skipped (suc n) at [] le = absurd (omega arith)
skipped (suc n) at (b ∷ bytes) le = skipped n (at + 1) bytes (omega arith) ∙ ap (λ (k : ℕ). tokens_from 0 k (drop n bytes)) (omega arith)

-- the tokens from a place of the text on
abbrev pub rest_of : List ℕ → ℕ → Option (List Token)
rest_of text at = tokens_from 0 at (drop at text)

pub at_end : (text : List ℕ) (at : ℕ) → length text ≤ at → rest_of text at ≡ Some []
unfolding tokens_from
at_end text at le = ap (tokens_from 0 at) (drop_all at text le)

pub at_blank : (text : List ℕ) (at : ℕ) → at < length text → is_blank (get_or text at 0) ≡ true → rest_of text at ≡ rest_of text (at + 1)
unfolding tokens_from
at_blank text at lt blank = ap (tokens_from 0 at) (drop_more text at 0 lt) ∙ rw blank refl

abbrev with_first : ℕ → List ℕ → TokenKind × ℕ → Option (List Token)
with_first at bytes t = option_map (λ ts. token t.0 at (at + t.1) ∷ ts) (tokens_from (t.1 - 1) (at + 1) bytes)

at_first : (at b : ℕ) (bytes : List ℕ) → is_blank b ≡ false → tokens_from 0 at (b ∷ bytes) ≡ option_and_then (with_first at bytes) (first_token (b ∷ bytes))
unfolding tokens_from
at_first at b bytes h = rw h refl

rest_is : (text : List ℕ) (at : ℕ) → at < length text → is_blank (get_or text at 0) ≡ false → rest_of text at ≡ option_and_then (with_first at (drop (at + 1) text)) (first_token (drop at text))
rest_is text at lt h =
    let parts = drop_more text at 0 lt in
    ap (tokens_from 0 at) parts ∙ at_first at (get_or text at 0) (drop (at + 1) text) h ∙ ap (λ (t : List ℕ). option_and_then (with_first at (drop (at + 1) text)) (first_token t)) (sym parts)

pub at_none : (text : List ℕ) (at : ℕ) → at < length text → is_blank (get_or text at 0) ≡ false → first_token (drop at text) ≡ None → rest_of text at ≡ None
at_none text at lt h none = rest_is text at lt h ∙ ap (option_and_then (with_first at (drop (at + 1) text))) none

pub at_token : (text : List ℕ) (at : ℕ) (kind : TokenKind) (n : ℕ) → at < length text → is_blank (get_or text at 0) ≡ false → first_token (drop at text) ≡ Some (found kind n)
    → rest_of text at ≡ option_map (λ ts. token kind at (at + n) ∷ ts) (rest_of text (at + n))
at_token text at kind n lt h first =
    let b = first_sound (drop at text) kind n first in
    let some = some_bytes (drop at text) kind n b in
    let within : n ≤ length text - at = omega (arith, b.within, length-drop at text) in
    let room : n - 1 ≤ length (drop (at + 1) text) = omega (arith, length-drop (at + 1) text) in
    let place : at + 1 + (n - 1) ≡ at + n = omega arith in
    let behind : tokens_from (n - 1) (at + 1) (drop (at + 1) text) ≡ rest_of text (at + n) =
    skipped (n - 1) (at + 1) (drop (at + 1) text) room ∙ ap (tokens_from 0 (at + 1 + (n - 1))) (drop-drop (n - 1) (at + 1) text) ∙ ap (rest_of text) place in
    rest_is text at lt h ∙ ap (option_and_then (with_first at (drop (at + 1) text))) first ∙ ap (option_map (λ ts. token kind at (at + n) ∷ ts)) behind

-- the tokens from a place on, one after another
abbrev pub Follow : List ℕ → ℕ → List Token → Type 0
Follow text at [] = (k : ℕ) → at ≤ k → k < length text → is_blank (get_or text k 0) ≡ true
Follow text at (t ∷ ts) = (at ≤ t.start) × ((k : ℕ) → at ≤ k → k < t.start → is_blank (get_or text k 0) ≡ true) × IsTokenOf text t × Follow text t.end ts

one_blank : (P : ℕ → Type 0) (at k : ℕ) → P at → ((j : ℕ) → at + 1 ≤ j → P j) → at ≤ k → P k
one_blank P at k here after le = elim (cases_order at k) [
  | inl same ↦ subst P same here
  | inr apart ↦ elim apart [ inl less ↦ after k (omega arith) | inr more ↦ absurd (omega arith) ]
]

blank_before : (text : List ℕ) (at : ℕ) (ts : List Token) → is_blank (get_or text at 0) ≡ true → Follow text (at + 1) ts → Follow text at ts
blank_before text at [] blank f = λ k le. one_blank (λ j. j < length text → is_blank (get_or text j 0) ≡ true) at k (λ lt. blank) f le
blank_before text at (t ∷ ts) blank f =
    let le = f.0 in
    (omega arith, λ k low. one_blank (λ j. j < t.start → is_blank (get_or text j 0) ≡ true) at k (λ lt. blank) f.1 low, f.2, f.3)

-- a token of the text, from its start on
pub record Placed (text : List ℕ) (t : Token) : Type 0 where
  pub forward : t.start < t.end
  pub begins : BeginsWith (drop t.start text) t.kind (t.end - t.start)

pub placed : (text : List ℕ) (t : Token) → IsTokenOf text t → Placed text t
placed text t h =
    let n : ℕ = t.end - t.start in
    let rest : List ℕ = drop t.start text in
    let left = length-drop t.start text in
    let within = h.within in
    let some : 0 < length (take n rest) = spelled_some t.kind (take n rest) h.spelled in
    let len = length-take n rest in
    let forward : t.start < t.end = omega arith in
    record {
      forward = forward;
      begins = record {
        within = omega arith;
        spelled = h.spelled;
        longest = λ other more lt le s.
            let back : more ≡ t.start + more - t.start = omega arith in
            h.longest other (t.start + more) (omega arith) (omega arith) (subst (λ (k : ℕ). Spells other (take k rest)) back s);
        whole_run = λ is_number lt word.
            let there : t.start + n ≡ t.end = omega arith in
            h.whole_run is_number (omega arith) (ap (λ (k : ℕ). is_word (get_or text k 0)) (sym there) ∙ ap is_word (sym (get_or-drop t.start text n 0)) ∙ word);
      };
    }

token_there : (text : List ℕ) (at : ℕ) (kind : TokenKind) (n : ℕ) → BeginsWith (drop at text) kind n → IsTokenOf text (token kind at (at + n))
token_there text at kind n b =
    let some = some_bytes (drop at text) kind n b in
    let left = length-drop at text in
    let within = b.within in
    record {
      within = omega arith;
      spelled = subst (λ (k : ℕ). Spells kind (take k (drop at text))) (omega arith) b.spelled;
      longest = λ other end lt le s. b.longest other (end - at) (omega arith) (omega arith) s;
      whole_run = λ is_number lt word. b.whole_run is_number (omega arith) (ap is_word (get_or-drop at text n 0) ∙ word);
    }

nothing_left : (text : List ℕ) (at : ℕ) (ts : List Token) → length text ≤ at → [] ≡ ts → Follow text at ts
nothing_left text at ts le e = subst (Follow text at) e (λ k low lt. absurd (omega arith))

-- what is computed follows
follow_in : (m : ℕ) (text : List ℕ) (at : ℕ) (ts : List Token) → length text ≤ at + m → rest_of text at ≡ Some ts → Follow text at ts
follow_in zero text at ts le h = nothing_left text at ts (omega arith) (same_Some [] ts (sym (at_end text at (omega arith)) ∙ h))
follow_in (suc m) text at ts le h = elim (cases_lt at (length text)) [
  | inr past ↦ nothing_left text at ts past (same_Some [] ts (sym (at_end text at past) ∙ h))
  | inl lt ↦ elim (cases_Bool (is_blank (get_or text at 0))) [
    | inl blank ↦ blank_before text at ts blank (follow_in m text (at + 1) ts (omega arith) (sym (at_blank text at lt blank) ∙ h))
    | inr no_blank ↦ elim (option_cases (first_token (drop at text))) [
      | inl none ↦ absurd (let e : None ≡ Some ts = sym (at_none text at lt no_blank none) ∙ h in cc)
      | inr x ↦
          let kind = x.0.0 in
          let n = x.0.1 in
          let b = first_sound (drop at text) kind n x.1 in
          let some = some_bytes (drop at text) kind n b in
          let others = map_some (λ us. token kind at (at + n) ∷ us) (rest_of text (at + n)) ts (sym (at_token text at kind n lt no_blank x.1) ∙ h) in
          let rest : Follow text (at + n) others.0 = follow_in m text (at + n) others.0 (omega arith) others.1 in
          subst (Follow text at) others.2 (omega arith, λ k low high. absurd (omega arith), token_there text at kind n b, rest)
    ]
  ]
]

blanks_over : (m : ℕ) (text : List ℕ) (at to : ℕ) → at + m ≡ to → to ≤ length text → ((k : ℕ) → at ≤ k → k < to → is_blank (get_or text k 0) ≡ true) → rest_of text at ≡ rest_of text to
blanks_over zero text at to e le blank = ap (rest_of text) (omega arith)
blanks_over (suc m) text at to e le blank =
    at_blank text at (omega arith) (blank at (omega arith) (omega arith)) ∙ blanks_over m text (at + 1) to (omega arith) le (λ k low high. blank k (omega arith) high)

-- what follows is computed
follow_again : (ts : List Token) (text : List ℕ) (at : ℕ) → Follow text at ts → rest_of text at ≡ Some ts
follow_again [] text at f = elim (cases_lt (length text) at) [
  | inl past ↦ at_end text at (omega arith)
  | inr within ↦ blanks_over (length text - at) text at (length text) (omega arith) (omega arith) f ∙ at_end text (length text) (omega arith)
]
follow_again (t ∷ ts) text at f =
    let low = f.0 in
    let n : ℕ = t.end - t.start in
    let p = placed text t f.2 in
    let b : BeginsWith (drop t.start text) t.kind n = p.begins in
    let lt : t.start < length text = let within = f.2.within in let forward = p.forward in omega arith in
    let first : is_blank (get_or text t.start 0) ≡ false = ap (λ (k : ℕ). is_blank (get_or text k 0)) (omega arith) ∙ ap is_blank (sym (get_or-drop t.start text 0 0)) ∙ no_blank (drop t.start text) t.kind n b in
    let there : t.start + n ≡ t.end = let forward = p.forward in omega arith in
    let same : token t.kind t.start (t.start + n) ≡ t = ap (token t.kind t.start) there in
    let rest : rest_of text (t.start + n) ≡ Some ts = ap (rest_of text) there ∙ follow_again ts text t.end f.3 in
    blanks_over (t.start - at) text at t.start (omega arith) (omega arith) f.1 ∙ at_token text t.start t.kind n lt first (first_complete (drop t.start text) t.kind n b)
    ∙ ap (option_map (λ us. token t.kind t.start (t.start + n) ∷ us)) rest ∙ ap (λ (u : Token). Some (u ∷ ts)) same

pub tokens_follow : (text : List ℕ) (ts : List Token) → tokens_from 0 0 text ≡ Some ts → Follow text 0 ts
tokens_follow text ts h = follow_in (length text) text 0 ts (omega arith) h

pub follow_tokens : (text : List ℕ) (ts : List Token) → Follow text 0 ts → tokens_from 0 0 text ≡ Some ts
follow_tokens text ts f = follow_again ts text 0 f

-- the token at a place, as a slice from there on is read, ends after the place and inside the text
pub token_inside : (text : List ℕ) (at : ℕ) (kind : TokenKind) (n : ℕ) → at ≤ length text → Some (found kind n) ≡ first_token (take (length text - at) (drop at text)) → (at < at + n) × (at + n ≤ length text)
token_inside text at kind n le h =
    let b = first_sound (drop at text) kind n (ap first_token (sym (take_rest text at)) ∙ sym h) in
    let some = some_bytes (drop at text) kind n b in
    (omega arith, omega (arith, b.within, length-drop at text))
