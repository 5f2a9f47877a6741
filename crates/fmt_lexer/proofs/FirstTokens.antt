-- The token at the front: what is computed is what the relation says.
use Rattle.std.proofs.Common.{◌≡◌, ℕ, zero, suc, ◌+◌, ◌<◌, ◌≤◌, true, false, eqb, List, [], ◌∷◌, length, take, drop, get_or, Option, Some, None, refl, sym, ap, subst, ◌∙◌, inl, inr, arith}
use Rattle.std.specs.List.{prefix_len}
use Rattle.std.specs.Option.{option_map, is_some}
use Rattle.std.specs.Char.{is_ascii_digit}
use Rattle.std.proofs.lemmas.Bool.{cases_order, ne_eqb}
use Rattle.std.proofs.lemmas.Bool.Decides.{nat_tests}
use Rattle.std.proofs.lemmas.List.{take-append-drop, length-take-le, get_or-take}
use Rattle.std.proofs.lemmas.List.Sums.{prefix_len_passes, prefix_len_stops}
use Rattle.std.proofs.lemmas.Option.{cond_some, same_Some}
use Rattle.fmt_lexer.specs.declared.number.Base.{Base}
use Rattle.fmt_lexer.specs.declared.token.TokenKind.{TokenKind}
use Rattle.fmt_lexer.specs.declared.token.TokenKind.TheVariants.{Name, Number, Letter, Text, Mark}
use Rattle.byte_classes.specs.Bytes.{is_blank, is_word}
use Rattle.fmt_lexer.specs.Quoted.{IsLetter, IsText}
use Rattle.fmt_lexer.specs.Tokens.{Spells}
use Rattle.fmt_lexer.specs.Reading.{kind_from, number_parts, number_len, letter_len, text_len, len_as, first_token}
use Rattle.fmt_lexer.proofs.Steps.{map_some}
use Rattle.fmt_lexer.proofs.Runs.{run_passes, within_run, run_within, run_some}
use Rattle.fmt_lexer.proofs.Numbers.{number_complete, number_sound}
use Rattle.fmt_lexer.proofs.Marks.{mark_first, mark_no_blank, mark_sound, mark_longest}
use Rattle.fmt_lexer.proofs.Quotes.{letter_sound, letter_complete}
use Rattle.fmt_lexer.proofs.Texts.{text_sound, text_complete}
use Rattle.fmt_lexer.proofs.Beginnings.{Begins, letter, text, number, name, mark, begins, kind_is, number_word, number_first}

-- The first len bytes are a token of the kind, as long as it can be.
pub record BeginsWith (bytes : List ℕ) (kind : TokenKind) (len : ℕ) : Type 0 where
  pub within : len ≤ length bytes
  pub spelled : Spells kind (take len bytes)
  pub longest : (other : TokenKind) (more : ℕ) → len < more → more ≤ length bytes → Spells other (take more bytes) → ⊥
  pub whole_run : kind ≡ Number → len < length bytes → is_word (get_or bytes len 0) ≡ true → ⊥

abbrev run : List ℕ → ℕ
run bytes = prefix_len is_word bytes

-- what is spelled at the front has a first byte, which begins its kind
record Starts (kind : TokenKind) (bytes : List ℕ) : Type 0 where
  some : 0 < length bytes
  first : Begins (get_or bytes 0 0) kind

starts : (kind : TokenKind) (bytes : List ℕ) → Spells kind bytes → Starts kind bytes
starts Name bytes s = record { some = s.some; first = name (get_or bytes 0 0) s.no_digit (s.each 0 0 s.some) }
starts Number bytes s = let f = number_first bytes s.0 s.1 s.2 s.3 in record { some = f.0; first = number (get_or bytes 0 0) f.1 }
starts Letter bytes s = record { some = omega (arith, ap length s.whole); first = subst (λ (t : List ℕ). Begins (get_or t 0 0) Letter) (sym s.whole) letter }
starts Text bytes s = record { some = omega (arith, ap length s.whole); first = subst (λ (t : List ℕ). Begins (get_or t 0 0) Text) (sym s.whole) text }
starts Mark [] s = absurd s
starts Mark (b ∷ bytes) s = record { some = omega arith; first = mark b (mark_first b bytes s) }

some_taken : (n : ℕ) (bytes : List ℕ) → 0 < length (take n bytes) → 0 < n
some_taken zero bytes h = absurd (omega arith)
some_taken (suc n) bytes h = omega arith

record Front (kind : TokenKind) (bytes : List ℕ) (n : ℕ) : Type 0 where
  some : 0 < n
  first : Begins (get_or bytes 0 0) kind

front : (kind : TokenKind) (bytes : List ℕ) (n : ℕ) → Spells kind (take n bytes) → Front kind bytes n
front kind bytes n s =
    let t = starts kind (take n bytes) s in
    let some = some_taken n bytes t.some in
    record { some = some; first = subst (λ (b : ℕ). Begins b kind) (get_or-take n bytes 0 0 some) t.first }

-- how far a token at the front goes
number_run : (bytes : List ℕ) (n : ℕ) → n ≤ length bytes → Spells Number (take n bytes) → n ≤ run bytes
number_run bytes n le s = within_run is_word n bytes le (number_word (take n bytes) s.0 s.1 s.2 s.3)

letter_again : (bytes : List ℕ) (n : ℕ) → n ≤ length bytes → IsLetter (take n bytes) → len_as Letter bytes ≡ Some n
unfolding len_as
letter_again bytes n le s =
    ap (λ (t : List ℕ). option_map (λ m. 1 + m) (letter_len (drop 1 t))) (sym (take-append-drop n bytes)) ∙ letter_complete (take n bytes) (drop n bytes) s ∙ ap (λ (m : ℕ). Some m) (length-take-le n bytes le)

text_again : (bytes : List ℕ) (n : ℕ) → n ≤ length bytes → IsText (take n bytes) → len_as Text bytes ≡ Some n
unfolding len_as
text_again bytes n le s =
    ap (λ (t : List ℕ). option_map (λ m. 1 + m) (text_len (drop 1 t))) (sym (take-append-drop n bytes)) ∙ text_complete (take n bytes) (drop n bytes) s ∙ ap (λ (m : ℕ). Some m) (length-take-le n bytes le)

number_len_is : (bytes : List ℕ) (n : ℕ) → number_len bytes ≡ Some n → (is_some (number_parts (take (run bytes) bytes)) ≡ true) × (run bytes ≡ n)
unfolding number_len
number_len_is bytes n h = cond_some (is_some (number_parts (take (run bytes) bytes))) (run bytes) n h

-- nothing longer of the kind stands at the front
no_longer : (kind : TokenKind) (bytes : List ℕ) (m n : ℕ) → m ≤ length bytes → Spells kind (take m bytes) → len_as kind bytes ≡ Some n → m ≤ n
unfolding len_as
no_longer Name bytes m n le s h = omega (arith, within_run is_word m bytes le s.each, same_Some (run bytes) n h)
no_longer Number bytes m n le s h = omega (arith, number_run bytes m le s, (number_len_is bytes n h).1)
no_longer Letter bytes m n le s h = omega (arith, same_Some m n (sym (letter_again bytes m le s) ∙ h))
no_longer Text bytes m n le s h = omega (arith, same_Some m n (sym (text_again bytes m le s) ∙ h))
no_longer Mark bytes m n le s h = let l = mark_longest bytes m le s in omega (arith, l.2, same_Some l.0 n (sym l.1 ∙ h))

-- what is computed of a kind is a token of the kind
record TakenAs (kind : TokenKind) (bytes : List ℕ) (n : ℕ) : Type 0 where
  within : n ≤ length bytes
  spelled : Spells kind (take n bytes)
  whole_run : kind ≡ Number → n < length bytes → is_word (get_or bytes n 0) ≡ true → ⊥

stops : (bytes : List ℕ) (n : ℕ) → run bytes ≡ n → n < length bytes → is_word (get_or bytes n 0) ≡ true → ⊥
stops bytes n e lt h =
    let no : is_word (get_or bytes (run bytes) 0) ≡ false = prefix_len_stops is_word bytes 0 (omega arith) in
    let yes' : is_word (get_or bytes (run bytes) 0) ≡ true = ap (λ (k : ℕ). is_word (get_or bytes k 0)) e ∙ h in
    absurd cc

name_bytes : (b : ℕ) → Begins b Name → (is_ascii_digit b ≡ false) × (is_word b ≡ true)
name_bytes _ (name b no_digit word) = (no_digit, word)

letter_byte : (b : ℕ) → Begins b Letter → b ≡ 39
letter_byte _ letter = refl

text_byte : (b : ℕ) → Begins b Text → b ≡ 34
text_byte _ text = refl

name_taken : (bytes : List ℕ) → 0 < length bytes → Begins (get_or bytes 0 0) Name → TakenAs Name bytes (run bytes)
name_taken bytes some first =
    let b = name_bytes (get_or bytes 0 0) first in
    let n = run_some is_word bytes some b.1 in
    let within = run_within is_word bytes in
    record {
      within = within;
      spelled = record {
        some = omega (arith, length-take-le (run bytes) bytes within);
        each = run_passes is_word bytes;
        no_digit = ap is_ascii_digit (get_or-take (run bytes) bytes 0 0 n) ∙ b.0;
      };
      whole_run = λ e. absurd cc;
    }

parts_given : (bytes : List ℕ) (parts : Option (Base × List ℕ × List ℕ)) → number_parts bytes ≡ parts → is_some parts ≡ true → Spells Number bytes
parts_given bytes None e h = absurd cc
parts_given bytes (Some p) e h = (p.0, p.1, p.2, number_sound bytes p.0 p.1 p.2 e)

behind_mark : (kind : TokenKind) (b : ℕ) (bytes : List ℕ) (k n : ℕ) → 1 + k ≡ n → k ≤ length bytes → Spells kind (b ∷ take k bytes) → (kind ≡ Number → ⊥) → TakenAs kind (b ∷ bytes) n
behind_mark kind b bytes k n e within s never =
    let more : suc k ≡ n = omega arith in
    subst (TakenAs kind (b ∷ bytes)) more (record { within = omega arith; spelled = s; whole_run = λ is_number. absurd (never is_number) })

taken : (kind : TokenKind) (b : ℕ) (bytes : List ℕ) (n : ℕ) → Begins b kind → len_as kind (b ∷ bytes) ≡ Some n → TakenAs kind (b ∷ bytes) n
unfolding len_as
taken Name b bytes n first h = subst (TakenAs Name (b ∷ bytes)) (same_Some (run (b ∷ bytes)) n h) (name_taken (b ∷ bytes) (omega arith) first)
taken Number b bytes n first h =
    let l = number_len_is (b ∷ bytes) n h in
    subst (TakenAs Number (b ∷ bytes)) l.1 (record {
      within = run_within is_word (b ∷ bytes);
      spelled = parts_given (take (run (b ∷ bytes)) (b ∷ bytes)) (number_parts (take (run (b ∷ bytes)) (b ∷ bytes))) refl l.0;
      whole_run = λ e lt. stops (b ∷ bytes) (run (b ∷ bytes)) refl lt;
    })
taken Letter b bytes n first h =
    let k = map_some (λ m. 1 + m) (letter_len bytes) n h in
    let s = letter_sound bytes k.0 k.1 in
    behind_mark Letter b bytes k.0 n k.2 s.0 (subst (λ (x : ℕ). IsLetter (x ∷ take k.0 bytes)) (sym (letter_byte b first)) s.1) (λ e. cc)
taken Text b bytes n first h =
    let k = map_some (λ m. 1 + m) (text_len bytes) n h in
    let s = text_sound bytes k.0 k.1 in
    behind_mark Text b bytes k.0 n k.2 s.0 (subst (λ (x : ℕ). IsText (x ∷ take k.0 bytes)) (sym (text_byte b first)) s.1) (λ e. cc)
taken Mark b bytes n first h = let m = mark_sound (b ∷ bytes) n h in record { within = m.0; spelled = m.1; whole_run = λ e. absurd cc }

abbrev pub found : TokenKind → ℕ → TokenKind × ℕ
found kind n = (kind, n)

first_is : (b : ℕ) (bytes : List ℕ) → first_token (b ∷ bytes) ≡ option_map (found (kind_from b)) (len_as (kind_from b) (b ∷ bytes))
unfolding first_token
first_is b bytes = let some : eqb (length (b ∷ bytes)) 0 ≡ false = ne_eqb _ 0 (λ e. omega arith) in rw some refl

no_more : (b : ℕ) (bytes : List ℕ) (kind : TokenKind) (n : ℕ) → kind_from b ≡ kind → len_as kind (b ∷ bytes) ≡ Some n
    → (other : TokenKind) (more : ℕ) → n < more → more ≤ length (b ∷ bytes) → Spells other (take more (b ∷ bytes)) → ⊥
no_more b bytes kind n is_kind h other more lt le s =
    let f = front other (b ∷ bytes) more s in
    let same : kind ≡ other = sym is_kind ∙ kind_is b other f.first in
    let few : more ≤ n = no_longer other (b ∷ bytes) more n le s (subst (λ (k : TokenKind). len_as k (b ∷ bytes) ≡ Some n) same h) in
    absurd (omega arith)

-- what is computed is the token at the front
pub first_sound : (bytes : List ℕ) (kind : TokenKind) (n : ℕ) → first_token bytes ≡ Some (found kind n) → BeginsWith bytes kind n
unfolding first_token
first_sound [] kind n h = absurd cc
first_sound (b ∷ bytes) kind n h =
    let m = map_some (found (kind_from b)) (len_as (kind_from b) (b ∷ bytes)) (found kind n) (sym (first_is b bytes) ∙ h) in
    let is_kind : kind_from b ≡ kind = ap (λ (p : TokenKind × ℕ). p.0) m.2 in
    let is_len : m.0 ≡ n = ap (λ (p : TokenKind × ℕ). p.1) m.2 in
    let len : len_as kind (b ∷ bytes) ≡ Some n = subst (λ (k : TokenKind). len_as k (b ∷ bytes) ≡ Some n) is_kind (m.1 ∙ ap (λ (k : ℕ). Some k) is_len) in
    let t = taken kind b bytes n (subst (Begins b) is_kind (begins b)) len in
    record { within = t.within; spelled = t.spelled; longest = no_more b bytes kind n is_kind len; whole_run = t.whole_run }

number_again : (bytes : List ℕ) (n : ℕ) → BeginsWith bytes Number n → len_as Number bytes ≡ Some n
unfolding len_as number_len
number_again bytes n b =
    let le = number_run bytes n b.within b.spelled in
    let n_is : run bytes ≡ n = elim (cases_order (run bytes) n) [
      | inl same ↦ same
      | inr apart ↦ elim apart [
        | inl less ↦ absurd (omega arith)
        | inr longer ↦ absurd (let within = run_within is_word bytes in b.whole_run refl (omega arith) (prefix_len_passes is_word bytes n 0 longer))
      ]
    ] in
    let s = b.spelled in
    let is_one : is_some (number_parts (take (run bytes) bytes)) ≡ true =
    ap (λ (k : ℕ). is_some (number_parts (take k bytes))) n_is ∙ ap is_some (number_complete (take n bytes) s.0 s.1 s.2 s.3) in
    rw is_one (ap (λ (k : ℕ). Some k) n_is)

len_again : (kind : TokenKind) (bytes : List ℕ) (n : ℕ) → BeginsWith bytes kind n → len_as kind bytes ≡ Some n
unfolding len_as
len_again Name bytes n b =
    let f = front Name bytes n b.spelled in
    let le = within_run is_word n bytes b.within b.spelled.each in
    let more = name_taken bytes (let within = b.within in let some = f.some in omega arith) f.first in
    ap (λ (k : ℕ). Some k) (elim (cases_order (run bytes) n) [
      | inl same ↦ same
      | inr apart ↦ elim apart [
        | inl less ↦ absurd (omega arith)
        | inr longer ↦ absurd (b.longest Name (run bytes) longer more.within more.spelled)
      ]
    ])
len_again Number bytes n b = number_again bytes n b
len_again Letter bytes n b = letter_again bytes n b.within b.spelled
len_again Text bytes n b = text_again bytes n b.within b.spelled
len_again Mark bytes n b =
    let l = mark_longest bytes n b.within b.spelled in
    let m = mark_sound bytes l.0 l.1 in
    l.1 ∙ ap (λ (k : ℕ). Some k) (elim (cases_order l.0 n) [
      | inl same ↦ same
      | inr apart ↦ elim apart [
        | inl less ↦ absurd (let le = l.2 in omega arith)
        | inr longer ↦ absurd (b.longest Mark l.0 longer m.0 m.1)
      ]
    ])

-- the token at the front is computed
pub first_complete : (bytes : List ℕ) (kind : TokenKind) (n : ℕ) → BeginsWith bytes kind n → first_token bytes ≡ Some (found kind n)
first_complete [] kind n b = absurd (let some = (front kind [] n b.spelled).some in let within = b.within in omega arith)
first_complete (b ∷ bytes) kind n h =
    let is_kind : kind_from b ≡ kind = kind_is b kind (front kind (b ∷ bytes) n h.spelled).first in
    first_is b bytes ∙ ap (λ (k : TokenKind). option_map (found k) (len_as k (b ∷ bytes))) is_kind ∙ ap (option_map (found kind)) (len_again kind (b ∷ bytes) n h)

pub spelled_some : (kind : TokenKind) (bytes : List ℕ) → Spells kind bytes → 0 < length bytes
spelled_some kind bytes s = (starts kind bytes s).some

-- a token is not empty
pub some_bytes : (bytes : List ℕ) (kind : TokenKind) (n : ℕ) → BeginsWith bytes kind n → 0 < n
some_bytes bytes kind n b = (front kind bytes n b.spelled).some

word_no_blank : (b : ℕ) → is_word b ≡ true → is_blank b ≡ false
word_no_blank b h = grind (arith, nat_tests)

spelled_no_blank : (kind : TokenKind) (bytes : List ℕ) → Spells kind bytes → is_blank (get_or bytes 0 0) ≡ false
spelled_no_blank Name bytes s = word_no_blank (get_or bytes 0 0) (s.each 0 0 s.some)
spelled_no_blank Number bytes s = word_no_blank (get_or bytes 0 0) (number_word bytes s.0 s.1 s.2 s.3 0 0 (number_first bytes s.0 s.1 s.2 s.3).0)
spelled_no_blank Letter bytes s = ap (λ (t : List ℕ). is_blank (get_or t 0 0)) s.whole
spelled_no_blank Text bytes s = ap (λ (t : List ℕ). is_blank (get_or t 0 0)) s.whole
spelled_no_blank Mark [] s = absurd s
spelled_no_blank Mark (b ∷ bytes) s = mark_no_blank b bytes s

-- nor does it begin with a blank
pub no_blank : (bytes : List ℕ) (kind : TokenKind) (n : ℕ) → BeginsWith bytes kind n → is_blank (get_or bytes 0 0) ≡ false
no_blank bytes kind n b = ap is_blank (sym (get_or-take n bytes 0 0 (some_bytes bytes kind n b))) ∙ spelled_no_blank kind (take n bytes) b.spelled
