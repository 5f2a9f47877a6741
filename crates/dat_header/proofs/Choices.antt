-- Which word of some stands at a place, by the bytes that are there of it.
use Rattle.std.proofs.Common.{◌≡◌, ℕ, ◌+◌, ◌-◌, ◌≤◌, Bool, true, false, if◌then◌else◌, ◌||◌, inl, inr, min, List, [], ◌∷◌, map, length, take, drop, Option, None, Some, Result, Ok, Err, IfSome, refl, sym, ap, subst, ◌∙◌, arith}
use Rattle.std.proofs.lemmas.Bool.{cases_Bool, false≢true}
use Rattle.std.proofs.lemmas.List.{length-take, take-take}
use Rattle.std.proofs.lemmas.Slice.Eq.{bytes_eq-Decides}
use Rattle.std.specs.Str.{bytes_eq}
use Rattle.std.specs.List.{list_any}
use denote.Ref.{Bor}
use Rattle.trace_outside.specs.Reading.{GivesBytesAt}
use Rattle.trace_outside.specs.Seen.{FileSeen}
use Rattle.dat_options.specs.declared.fault.OpenFault.{OpenFault}
use Rattle.dat_options.specs.declared.fault.OpenFault.TheVariants.{BadSection, Truncated, Read}
use Rattle.dat_options.specs.Answer.{AnswersUnlessFaulty, AnswersTold}
use Rattle.dat_header.specs.declared.pieces.LastSection.{LastSection}
use Rattle.dat_header.specs.declared.pieces.LastSection.TheVariants as kind
use Rattle.dat_header.specs.Items.{options_word, latency_word, fly_word, body_words, section_words}
use Rattle.dat_header.specs.Refusal.{begins_with, word_fault}
use Rattle.dat_header.specs.Found.{Found, ◌>>=◌, or_wrong}
use Rattle.dat_header.specs.Header.{IsRefusal, last_in, last_word_in, first_word_in}
use Rattle.dat_header.specs.Steps.{Steps, GivesThere}
use Rattle.dat_header.proofs.Steps.{erring, erring_is, answers_itself, kept_at, steps_found, steps_fault}
use Rattle.dat_header.proofs.Words.{cut_same, there_is}

-- what a choice of words says of the bytes that are there, of which the first ten tell all
pub record Chooses {V : Type 0} (choose : List ℕ → ℕ → Result V OpenFault) : Type 0 where
  pub by_front : (there : List ℕ) (size : ℕ) → choose (take 10 there) size ≡ choose there size
  pub whole : (there : List ℕ) (size : ℕ) (value : V) → choose there size ≡ Ok value → 10 ≤ length there
  pub refuses : (there : List ℕ) (size : ℕ) (fault : OpenFault) → choose there size ≡ Err fault → IsRefusal fault

begins_long : (there word : List ℕ) → length word ≡ 10 → begins_with there word ≡ true → 10 ≤ length there
begins_long there word long stands =
    let same : length (take (length word) there) ≡ length word = ap length ((bytes_eq-Decides (take (length word) there) word).0 stands) in
    omega (arith, same, long, length-take (length word) there)

abbrev last_by : Bool → Bool → Option LastSection
last_by latency fly = if latency then Some kind.Latency else if fly then Some kind.Fly else None

last_by_front : (there : List ℕ) → last_in (take 10 there) ≡ last_in there
last_by_front there = ap (λ (t : List ℕ). last_by (bytes_eq t latency_word) (bytes_eq t fly_word)) (take-take 10 10 there (omega arith))

last_by_none : (latency fly : Bool) → last_by latency fly ≡ None → (latency ≡ false) × (fly ≡ false)
last_by_none true fly e = cc
last_by_none false true e = cc
last_by_none false false e = (refl, refl)

last_by_some : (latency fly : Bool) (last : LastSection) (P : Type 0) → (latency ≡ true → P) → (fly ≡ true → P) → last_by latency fly ≡ Some last → P
last_by_some true fly last P one two e = one refl
last_by_some false true last P one two e = two refl
last_by_some false false last P one two e = cc

wrong_matters : {V : Type 0} (wrong other : OpenFault) (value : Option V) → (value ≡ None → wrong ≡ other) → or_wrong wrong value ≡ or_wrong other value
wrong_matters wrong other None same = ap (λ (f : OpenFault). or_wrong f None) (same refl)
wrong_matters wrong other (Some value) same = refl

abbrev cut_or : Bool → ℕ → OpenFault → OpenFault
cut_or cut size wrong = if cut then Truncated size else wrong

body_fault_front : (there : List ℕ) (size : ℕ) (wrong : OpenFault) → begins_with there latency_word ≡ false → begins_with there fly_word ≡ false
    → word_fault body_words wrong (take 10 there) size ≡ word_fault body_words wrong there size
body_fault_front there size wrong l f =
    ap (λ (b : Bool). cut_or (b || (begins_with fly_word (take 10 there) || false)) size wrong) (cut_same latency_word there l)
    ∙ ap (λ (b : Bool). cut_or (begins_with latency_word there || (b || false)) size wrong) (cut_same fly_word there f)

section_fault_front : (there : List ℕ) (size : ℕ) (wrong : OpenFault) → begins_with there options_word ≡ false → begins_with there latency_word ≡ false → begins_with there fly_word ≡ false
    → word_fault section_words wrong (take 10 there) size ≡ word_fault section_words wrong there size
section_fault_front there size wrong o l f =
    ap (λ (b : Bool). cut_or (b || (begins_with latency_word (take 10 there) || (begins_with fly_word (take 10 there) || false))) size wrong) (cut_same options_word there o)
    ∙ ap (λ (b : Bool). cut_or (begins_with options_word there || (b || (begins_with fly_word (take 10 there) || false))) size wrong) (cut_same latency_word there l)
    ∙ ap (λ (b : Bool). cut_or (begins_with options_word there || (begins_with latency_word there || (b || false))) size wrong) (cut_same fly_word there f)

last_front : (words : List (List ℕ)) (at : ℕ) (there : List ℕ) (size : ℕ)
    → (begins_with there latency_word ≡ false → begins_with there fly_word ≡ false → word_fault words (BadSection at) (take 10 there) size ≡ word_fault words (BadSection at) there size)
    → last_word_in words at (take 10 there) size ≡ last_word_in words at there size
last_front words at there size same =
    ap (or_wrong (word_fault words (BadSection at) (take 10 there) size)) (last_by_front there)
    ∙ wrong_matters _ _ (last_in there) (λ e. let none = last_by_none (begins_with there latency_word) (begins_with there fly_word) e in same none.0 none.1)

fault_refuses : (words : List (List ℕ)) (at : ℕ) (there : List ℕ) (size : ℕ) → IsRefusal (word_fault words (BadSection at) there size)
fault_refuses words at there size = elim (list_any (λ word. begins_with word there) words) as (λ b. IsRefusal (cut_or b size (BadSection at))) [ true ↦ tt | false ↦ tt ]

or_wrong_ok : {V : Type 0} (wrong : OpenFault) (value : Option V) (is : V) → or_wrong wrong value ≡ Ok is → value ≡ Some is
or_wrong_ok wrong None is e = cc
or_wrong_ok wrong (Some value) is e = cc

or_wrong_err : {V : Type 0} (wrong fault : OpenFault) (value : Option V) → or_wrong wrong value ≡ Err fault → wrong ≡ fault
or_wrong_err {V} wrong fault None e = erring_is V wrong fault e
or_wrong_err wrong fault (Some value) e = cc

last_long : (words : List (List ℕ)) (at : ℕ) (there : List ℕ) (size : ℕ) (last : LastSection) → last_word_in words at there size ≡ Ok last → 10 ≤ length there
last_long words at there size last e =
    last_by_some (begins_with there latency_word) (begins_with there fly_word) last (10 ≤ length there) (begins_long there latency_word refl) (begins_long there fly_word refl) (or_wrong_ok _ (last_in there) last e)

last_refuses : (words : List (List ℕ)) (at : ℕ) (there : List ℕ) (size : ℕ) (fault : OpenFault) → last_word_in words at there size ≡ Err fault → IsRefusal fault
last_refuses words at there size fault e = subst IsRefusal (or_wrong_err _ fault (last_in there) e) (fault_refuses words at there size)

pub last_chooses : (at : ℕ) → Chooses (last_word_in body_words at)
last_chooses at = record {
  by_front = λ there size. last_front body_words at there size (body_fault_front there size (BadSection at));
  whole = last_long body_words at;
  refuses = last_refuses body_words at;
}

abbrev first_by : Bool → Result LastSection OpenFault → Result (Option LastSection) OpenFault
first_by options last = if options then Ok None else (last >>= λ l. Ok (Some l))

first_front : (at : ℕ) (there : List ℕ) (size : ℕ) (options : Bool) → begins_with there options_word ≡ options
    → first_by options (last_word_in section_words at (take 10 there) size) ≡ first_by options (last_word_in section_words at there size)
first_front at there size true o = refl
first_front at there size false o = ap (first_by false) (last_front section_words at there size (section_fault_front there size (BadSection at) o))

first_long : (at : ℕ) (there : List ℕ) (size : ℕ) (options : Bool) (value : Option LastSection) → begins_with there options_word ≡ options
    → first_by options (last_word_in section_words at there size) ≡ Ok value → 10 ≤ length there
first_long at there size true value o e = begins_long there options_word refl o
first_long at there size false value o e = elim (last_word_in section_words at there size) as (λ r. last_word_in section_words at there size ≡ r → first_by false r ≡ Ok value → 10 ≤ length there) [
  | Ok last ↦ λ is f. last_long section_words at there size last is
  | Err fault ↦ λ is f. cc
] refl e

first_refuses : (at : ℕ) (there : List ℕ) (size : ℕ) (options : Bool) (fault : OpenFault)
    → first_by options (last_word_in section_words at there size) ≡ Err fault → IsRefusal fault
first_refuses at there size true fault e = cc
first_refuses at there size false fault e = elim (last_word_in section_words at there size) as (λ r. last_word_in section_words at there size ≡ r → first_by false r ≡ Err fault → IsRefusal fault) [
  | Ok last ↦ λ is f. cc
  | Err other ↦ λ is f. subst IsRefusal (erring_is (Option LastSection) other fault f) (last_refuses section_words at there size other is)
] refl e

pub first_chooses : (at : ℕ) → Chooses (first_word_in at)
first_chooses at = record {
  by_front = λ there size. ap (λ (t : List ℕ). first_by (bytes_eq t options_word) (last_word_in section_words at (take 10 there) size)) (take-take 10 10 there (omega arith))
      ∙ first_front at there size (begins_with there options_word) refl;
  whole = λ there size value e. first_long at there size (begins_with there options_word) value refl e;
  refuses = λ there size fault e. first_refuses at there size (begins_with there options_word) fault e;
}

abbrev chosen_at : {V : Type 0} → (List ℕ → ℕ → Result V OpenFault) → ℕ → List ℕ → Found V
chosen_at choose at bytes = choose (drop at bytes) (length bytes) >>= λ value. Ok (value, at + 10)

told_choice : {V : Type 0} (choose : List ℕ → ℕ → Result V OpenFault) (told : Option (List ℕ)) (at size count : ℕ) (buffer : List ℕ) → Chooses choose → IfSome told (λ file. length file ≡ size)
    → GivesBytesAt told at count buffer → count ≡ min 10 (size - at)
    → AnswersTold (chosen_at choose at) told (choose (take count buffer) size >>= λ value. Ok (value, at + 10))
told_choice choose None at size count buffer chooses is given counted = tt
told_choice {V} choose (Some file) at size count buffer chooses is given counted =
    let there = there_is count 10 at buffer file given (omega (arith, counted, is)) in
    let same = ap (λ (t : List ℕ). choose t size) there ∙ chooses.by_front (drop at file) size ∙ ap (λ (n : ℕ). choose (drop at file) n) (sym is) in
    let whole : Result V OpenFault → Found V = λ r. r >>= λ value. Ok (value, at + 10) in
    subst (λ (r : Result V OpenFault). AnswersUnlessFaulty (whole (choose (take count buffer) size)) (whole r)) same (answers_itself (whole (choose (take count buffer) size)))

-- the choice of a word by the bytes that are there of it
pub choice_found : {V : Type 0} (choose : List ℕ → ℕ → Result V OpenFault) (at count size : ℕ) (buffer : List ℕ) (value : V) (before now : FileSeen) → Chooses choose
    → IfSome before.bytes (λ file. length file ≡ before.size) → length buffer ≡ 10 → at ≤ before.size → GivesThere at buffer before now (Ok count)
    → size ≡ before.size → Ok value ≡ choose (take count buffer) size
    → Steps (λ found. found.1) (chosen_at choose at) at before now (Ok (value, at + count))
choice_found {V} choose at count size buffer value before now chooses is long within gives same chosen =
    let counted : count ≡ min 10 (before.size - at) = omega (arith, gives.counted, long) in
    let ok : choose (take count buffer) before.size ≡ Ok value = sym (chosen ∙ ap (λ (n : ℕ). choose (take count buffer) n) same) in
    let enough = chooses.whole (take count buffer) before.size value ok in
    let all : 10 ≡ count = omega (arith, enough, counted, length-take count buffer) in
    let told = subst (λ (r : Result V OpenFault). AnswersTold (chosen_at choose at) before.bytes (r >>= λ v. Ok (v, at + 10))) ok (told_choice choose before.bytes at before.size count buffer chooses is gives.given counted) in
    steps_found (chosen_at choose at) at (at + count) value before now (subst (λ (n : ℕ). AnswersTold (chosen_at choose at) before.bytes (Ok (value, at + n))) all told)
    gives.bytes gives.size gives.kept (omega (arith, gives.reads)) (omega arith) (omega (arith, counted, within))

pub choice_failed : {V : Type 0} (choose : List ℕ → ℕ → Result V OpenFault) (at count size : ℕ) (buffer : List ℕ) (fault : OpenFault) (before now : FileSeen) → Chooses choose
    → IfSome before.bytes (λ file. length file ≡ before.size) → length buffer ≡ 10 → at ≤ before.size → GivesThere at buffer before now (Ok count)
    → size ≡ before.size → Err fault ≡ choose (take count buffer) size
    → Steps {V = V × ℕ} (λ found. found.1) (chosen_at choose at) at before now (Err fault)
choice_failed {V} choose at count size buffer fault before now chooses is long within gives same chosen =
    let counted : count ≡ min 10 (before.size - at) = omega (arith, gives.counted, long) in
    let err : choose (take count buffer) before.size ≡ Err fault = sym (chosen ∙ ap (λ (n : ℕ). choose (take count buffer) n) same) in
    let told = subst (λ (r : Result V OpenFault). AnswersTold (chosen_at choose at) before.bytes (r >>= λ v. Ok (v, at + 10))) err (told_choice choose before.bytes at before.size count buffer chooses is gives.given counted) in
    steps_fault V (chosen_at choose at) at fault before now told gives.bytes gives.size gives.later
    (λ e. absurd (subst IsRefusal (erring_is V fault Read e) (chooses.refuses (take count buffer) before.size fault err))) (kept_at before.faults now.faults fault gives.kept) gives.most

any_of : (test : List ℕ → Bool) (words : List (Bor (List ℕ))) → list_any (λ word. test word.now) words ≡ list_any test (map (λ word. word.now) words)
any_of test [] = refl
any_of test (word ∷ words) = ap (λ b. test word.now || b) (any_of test words)

-- what is wrong where no last section's word stands
pub last_missing : (words : List (Bor (List ℕ))) (at : ℕ) (there : List ℕ) (size : ℕ) (cut : Bool) → begins_with there latency_word ≡ false → begins_with there fly_word ≡ false
    → cut ≡ list_any (λ word. begins_with word.now there) words → Err (cut_or cut size (BadSection at)) ≡ last_word_in (map (λ word. word.now) words) at there size
last_missing words at there size cut l f is =
    ap (λ (b : Bool). erring LastSection (cut_or b size (BadSection at))) (is ∙ any_of (λ word. begins_with word there) words)
    ∙ ap (λ (b : Bool). or_wrong (word_fault (map (λ word. word.now) words) (BadSection at) there size) (last_by b false)) (sym l)
    ∙ ap (λ (b : Bool). or_wrong (word_fault (map (λ word. word.now) words) (BadSection at) there size) (last_by (begins_with there latency_word) b)) (sym f)

-- std tells a text's beginning with the two sides exchanged
pub begins_not : (there word : List ℕ) (starts : Bool) → starts ≡ bytes_eq word (take (length word) there) → starts ≡ false → begins_with there word ≡ false
begins_not there word starts is never = elim (cases_Bool (begins_with there word)) [
  | inr other ↦ other
  | inl stands ↦ absurd (false≢true (sym never ∙ is ∙ (bytes_eq-Decides word (take (length word) there)).1 (sym ((bytes_eq-Decides (take (length word) there) word).0 stands))))
]
