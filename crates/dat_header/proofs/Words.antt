-- Words that stand at a place, by the bytes that are there of them.
use Rattle.std.proofs.Common.{◌≡◌, ℕ, ◌+◌, ◌-◌, ◌≤◌, Bool, true, false, cond, inl, inr, min, List, [], ◌∷◌, length, take, drop, Option, None, Some, Result, Ok, Err, IfOk, IfSome, refl, sym, ap, subst, ◌∙◌, arith}
use Rattle.std.proofs.lemmas.Bool.{cases_lt, cases_Bool, false≢true}
use Rattle.std.proofs.Math.Bool.{or-false}
use Rattle.std.proofs.lemmas.List.{length-drop, length-take, take_all, take-take}
use Rattle.std.proofs.lemmas.Slice.Eq.{bytes_eq-Decides}
use Rattle.std.specs.Str.{bytes_eq}
use Rattle.trace_outside.specs.Causes.{raised}
use Rattle.trace_outside.specs.Reading.{GivesBytesAt}
use Rattle.trace_outside.specs.Seen.{FileSeen}
use Rattle.dat_options.specs.declared.fault.OpenFault.{OpenFault}
use Rattle.dat_options.specs.declared.fault.OpenFault.TheVariants.{Truncated, Compressed, OtherVersion, Read}
use Rattle.dat_options.specs.Answer.{AnswersUnlessFaulty, AnswersTold}
use Rattle.dat_header.specs.Header.{IsRefusal}
use Rattle.dat_header.specs.Refusal.{begins_with, word_fault, version_fault, seventh}
use Rattle.dat_header.specs.Items.{version_word}
use Rattle.dat_header.specs.ItemsAt.{word_in, word_at}
use Rattle.dat_header.specs.Steps.{Steps, GivesThere}
use Rattle.dat_header.specs.Opening.{version_at}
use Rattle.dat_header.proofs.Steps.{erring_is, answers_itself, kept_still}

bytes_apart : (xs ys : List ℕ) → (xs ≡ ys → ⊥) → bytes_eq xs ys ≡ false
bytes_apart xs ys apart = elim (cases_Bool (bytes_eq xs ys)) [
  | inl same ↦ absurd (apart ((bytes_eq-Decides xs ys).0 same))
  | inr other ↦ other
]

-- where a word does not stand, all that is there begins it just where the bytes up to its length do
pub cut_same : (word rest : List ℕ) → begins_with rest word ≡ false → begins_with word (take (length word) rest) ≡ begins_with word rest
cut_same word rest other = elim (cases_lt (length word) (length rest)) [
  | inr short ↦ ap (begins_with word) (take_all (length word) rest short)
  | inl long ↦
      let front_long : length (take (length word) rest) ≡ length word = omega (arith, length-take (length word) rest) in
      let whole : take (length (take (length word) rest)) word ≡ word = take_all (length (take (length word) rest)) word (omega arith) in
      bytes_apart (take (length (take (length word) rest)) word) (take (length word) rest)
      (λ e. false≢true (sym other ∙ (bytes_eq-Decides (take (length word) rest) word).1 (sym e ∙ whole)))
      ∙ sym (bytes_apart (take (length rest) word) rest (λ e. let lengths : length (take (length rest) word) ≡ length rest = ap length e in absurd (omega (arith, long, lengths, length-take (length rest) word))))
]

-- as many bytes as a word has, of those that are there
pub there_is : (count width at : ℕ) (buffer file : List ℕ) → take count buffer ≡ take count (drop at file) → count ≡ min width (length file - at)
    → take count buffer ≡ take width (drop at file)
there_is count width at buffer file given counted = elim (cases_lt (length file - at) width) [
  | inl short ↦
      given ∙ take_all count (drop at file) (omega (arith, short, counted, length-drop at file)) ∙ sym (take_all width (drop at file) (omega (arith, short, length-drop at file)))
  | inr enough ↦ given ∙ ap (λ (n : ℕ). take n (drop at file)) (let e : count ≡ width = omega (arith, enough, counted) in e)
]

-- the fault of a word that does not stand there
pub fault_in : (word : List ℕ) (wrong : OpenFault) (rest : List ℕ) (size : ℕ) → word_fault (word ∷ []) wrong rest size ≡ cond (begins_with word rest) (Truncated size) wrong
fault_in word wrong rest size = ap (λ b. cond b (Truncated size) wrong) (or-false (begins_with word rest))

abbrev chosen : Bool → Bool → ℕ → ℕ → OpenFault → Result ℕ OpenFault
chosen stands begins place size wrong = cond stands (Ok place) (cond begins (Err (Truncated size)) (Err wrong))

chosen_ends : (stands begins : Bool) (place size : ℕ) (wrong : OpenFault) (P : ℕ → Type 0) → (stands ≡ true → P place) → IfOk (chosen stands begins place size wrong) P
chosen_ends true begins place size wrong P ends = ends refl
chosen_ends false true place size wrong P ends = tt
chosen_ends false false place size wrong P ends = tt

chosen_refuses : (stands begins : Bool) (place size : ℕ) (wrong : OpenFault) → IsRefusal wrong → chosen stands begins place size wrong ≡ Err Read → ⊥
chosen_refuses true begins place size wrong refusal e = cc
chosen_refuses false true place size wrong refusal e = cc
chosen_refuses false false place size wrong refusal e = subst IsRefusal (erring_is ℕ wrong Read e) refusal

by_test : (begins : Bool) (size : ℕ) (wrong : OpenFault) → chosen false begins 0 size wrong ≡ Err (cond begins (Truncated size) wrong)
by_test true size wrong = refl
by_test false size wrong = refl

-- what is said by the bytes that are there is said by the whole file
pub word_by_front : (word : List ℕ) (wrong : OpenFault) (file : List ℕ) (at : ℕ) → word_in word wrong (take (length word) (drop at file)) at (length file) ≡ word_at word wrong file at
unfolding word_at
word_by_front word wrong file at = elim (cases_Bool (begins_with (drop at file) word)) [
  | inl stands ↦ rw (stands) refl
  | inr other ↦ rw (other, cut_same word (drop at file) other, fault_in word wrong (drop at file) (length file)) (by_test (begins_with word (drop at file)) (length file) wrong)
]

told_word : (told : Option (List ℕ)) (word : List ℕ) (wrong : OpenFault) (at size count : ℕ) (buffer : List ℕ) → IfSome told (λ file. length file ≡ size)
    → GivesBytesAt told at count buffer → count ≡ min (length word) (size - at)
    → AnswersTold (λ bytes. word_at word wrong bytes at) told (word_in word wrong (take count buffer) at size)
told_word None word wrong at size count buffer is given counted = tt
told_word (Some file) word wrong at size count buffer is given counted =
    let there = there_is count (length word) at buffer file given (omega (arith, counted, is)) in
    let same = ap (λ (n : ℕ). word_in word wrong (take count buffer) at n) (sym is) ∙ ap (λ (t : List ℕ). word_in word wrong t at (length file)) there ∙ word_by_front word wrong file at in
    subst (λ (r : Result ℕ OpenFault). AnswersUnlessFaulty (word_in word wrong (take count buffer) at size) r) same (answers_itself (word_in word wrong (take count buffer) at size))

word_in_steps : (expected : List ℕ → Result ℕ OpenFault) (word : List ℕ) (wrong : OpenFault) (at count : ℕ) (buffer : List ℕ) (before now : FileSeen)
    → length buffer ≡ length word → at ≤ before.size → IsRefusal wrong → GivesThere at buffer before now (Ok count)
    → AnswersTold expected before.bytes (word_in word wrong (take count buffer) at before.size)
    → Steps (λ next. next) expected at before now (word_in word wrong (take count buffer) at before.size)
word_in_steps expected word wrong at count buffer before now long within refusal gives answer =
    let counted : count ≡ min (length word) (before.size - at) = omega (arith, gives.counted, long) in
    let there = take count buffer in
    let stands = bytes_eq there word in
    let begins = begins_with word there in
    let whole = λ (e : stands ≡ true). let same : length there ≡ length word = ap length ((bytes_eq-Decides there word).0 e) in let all : count ≡ length word = omega (arith, same, counted, long, length-take count buffer) in all in
    record {
      answer = answer;
      bytes = gives.bytes;
      size = gives.size;
      later = gives.later;
      cause = λ e. absurd (chosen_refuses stands begins (at + length word) before.size wrong refusal e);
      kept = kept_still before.faults now.faults (word_in word wrong (take count buffer) at before.size) gives.kept;
      most = gives.most;
      reads = chosen_ends stands begins (at + length word) before.size wrong (λ value. now.reads ≤ raised before.reads (value - at)) (λ e. omega (arith, gives.reads, whole e));
      forward = chosen_ends stands begins (at + length word) before.size wrong (λ value. at ≤ value) (λ e. omega arith);
      inside = chosen_ends stands begins (at + length word) before.size wrong (λ value. value ≤ before.size) (λ e. omega (arith, counted, whole e, within));
    }

-- the test of a word by the bytes that are there of it
pub word_steps : (word : List ℕ) (wrong : OpenFault) (at count size : ℕ) (buffer : List ℕ) (before now : FileSeen) (result : Result ℕ OpenFault) → IfSome before.bytes (λ file. length file ≡ before.size)
    → length buffer ≡ length word → at ≤ before.size → IsRefusal wrong → GivesThere at buffer before now (Ok count)
    → size ≡ before.size → result ≡ word_in word wrong (take count buffer) at size
    → Steps (λ next. next) (λ bytes. word_at word wrong bytes at) at before now result
word_steps word wrong at count size buffer before now result is long within refusal gives same tells =
    let counted : count ≡ min (length word) (before.size - at) = omega (arith, gives.counted, long) in
    let expected = λ (bytes : List ℕ). word_at word wrong bytes at in
    subst (λ (r : Result ℕ OpenFault). Steps (λ next. next) expected at before now r) (sym (tells ∙ ap (λ (n : ℕ). word_in word wrong (take count buffer) at n) same))
    (word_in_steps expected word wrong at count buffer before now long within refusal gives (told_word before.bytes word wrong at before.size count buffer is gives.given counted))

told_version : (told : Option (List ℕ)) (at size count : ℕ) (buffer : List ℕ) → IfSome told (λ file. length file ≡ size)
    → GivesBytesAt told at count buffer → count ≡ min 2 (size - at)
    → AnswersTold (λ bytes. version_at bytes at) told (word_in version_word (version_fault at (take count buffer)) (take count buffer) at size)
unfolding version_at
told_version None at size count buffer is given counted = tt
told_version (Some file) at size count buffer is given counted =
    let there = there_is count 2 at buffer file given (omega (arith, counted, is)) in
    let wrong : version_fault at (take count buffer) ≡ version_fault at (drop at file) = ap (version_fault at) there ∙ ap (λ (t : List ℕ). cond (bytes_eq t seventh) (Compressed at) (OtherVersion at)) (take-take 2 2 (drop at file) (omega arith)) in
    subst (λ (w : OpenFault). AnswersUnlessFaulty (word_in version_word (version_fault at (take count buffer)) (take count buffer) at size) (word_at version_word w file at)) wrong
    (told_word (Some file) version_word (version_fault at (take count buffer)) at size count buffer is given counted)

version_refuses : (at : ℕ) (there : List ℕ) → IsRefusal (version_fault at there)
version_refuses at there = elim (cases_Bool (begins_with there seventh)) [
  | inl seven ↦ subst (λ (b : Bool). IsRefusal (cond b (Compressed at) (OtherVersion at))) (sym seven) tt
  | inr other ↦ subst (λ (b : Bool). IsRefusal (cond b (Compressed at) (OtherVersion at))) (sym other) tt
]

-- the test of the version by the bytes that are there of it
pub version_steps : (at count size : ℕ) (buffer : List ℕ) (before now : FileSeen) (result : Result ℕ OpenFault) → IfSome before.bytes (λ file. length file ≡ before.size)
    → length buffer ≡ 2 → at ≤ before.size → GivesThere at buffer before now (Ok count)
    → size ≡ before.size → result ≡ word_in version_word (version_fault at (take count buffer)) (take count buffer) at size
    → Steps (λ next. next) (λ bytes. version_at bytes at) at before now result
version_steps at count size buffer before now result is long within gives same tells =
    let counted : count ≡ min 2 (before.size - at) = omega (arith, gives.counted, long) in
    let wrong = version_fault at (take count buffer) in
    let expected = λ (bytes : List ℕ). version_at bytes at in
    subst (λ (r : Result ℕ OpenFault). Steps (λ next. next) expected at before now r) (sym (tells ∙ ap (λ (n : ℕ). word_in version_word wrong (take count buffer) at n) same))
    (word_in_steps expected version_word wrong at count buffer before now long within (version_refuses at (take count buffer)) gives (told_version before.bytes at before.size count buffer is gives.given counted))
