-- The lines that name an address or a task: each function computes the one name that a line gives.
use Rattle.std.proofs.Common.{◌≡◌, ◌⊎◌, inl, inr, ℕ, ◌+◌, ◌-◌, ◌^◌, ◌<◌, Bool, true, false, ltb, leb, eqb, ◌&&◌, codes, List, [], ◌∷◌, ◌++◌, length, take, drop, get_or, Option, None, Some, IfSome, IfNone, refl, sym, ap, subst, ◌∙◌, arith}
use Rattle.std.proofs.lemmas.Bool.{ltb-true, lt-ltb, leb-true, le-leb, eqb-true}
use Rattle.std.proofs.lemmas.List.{take_at, drop_at, drop_all, at_drop_more, get_or_at, take-append-drop, length-append}
use Rattle.std.specs.List.{list_all, prefix_len}
use Rattle.std.specs.Option.{option_map, unwrap_or}
use Rattle.std.specs.Char.{is_ascii_alphabetic}
use Rattle.std.specs.Str.Parse.{digits_value}
use Rattle.trace_base.specs.FieldLine.{is_decimal, decimal}
use Rattle.trace_base.specs.FieldReading.{after_word}
use Rattle.trace_base.proofs.FieldSteps.{bind_some, guarded, some_is, both}
use Rattle.trace_base.proofs.FieldRuns as runs
use Rattle.trace_base.proofs.FieldRuns.{run_again, run_all, run_outside}
use Rattle.trace_base.proofs.FieldEntries.{after_again, after_is}
use Rattle.symbols.specs.declared.found.Found.{Found}
use Rattle.symbols.specs.NameMap.{Pair}
use Rattle.symbols.specs.Found.{found_view}
use Rattle.symbols.specs.LineForms.{is_hexadecimal, in_name, BeginsOutside, IsAddress, IsSymbolLine, IsPrintkLine, IsTaskLine}
use Rattle.symbols.specs.Forms.{is_decimal_digit, address_at, leading_number, after_letter, symbol_line, unquoted, without_prefix, printk_line, task_line}

-- runs of bytes at the front
outside_of : (test : ℕ → Bool) (text : List ℕ) → BeginsOutside test text → runs.BeginsOutside test text
outside_of test [] outside = tt
outside_of test (byte ∷ text) outside = outside byte text refl

pub outside_is : (test : ℕ → Bool) (text : List ℕ) → runs.BeginsOutside test text → BeginsOutside test text
outside_is test [] outside = λ first rest e. absurd cc
outside_is test (byte ∷ text) outside = λ first rest e. let same : byte ≡ first = cc in subst (λ (b : ℕ). test b ≡ false) same outside

-- addresses
pub address_again : (digits rest : List ℕ) (address : ℕ) → IsAddress digits address → runs.BeginsOutside is_hexadecimal rest → address_at (digits ++ rest) ≡ Some (address, rest)
unfolding address_at
address_again digits rest address is outside =
    let count : prefix_len is_hexadecimal (digits ++ rest) ≡ length digits = run_again is_hexadecimal digits rest is.digit outside in
    let some : ltb 0 (length digits) ≡ true = lt-ltb _ _ is.some in
    let few : leb (length digits) 16 ≡ true = le-leb _ _ is.few in
    rw (count, some, few, take_at digits rest (length digits) refl, drop_at digits rest (length digits) refl, is.value) refl

pub record AddressTakes (text rest : List ℕ) (address : ℕ) : Type 0 where
  pub digits : List ℕ
  pub whole : text ≡ digits ++ rest
  pub is : IsAddress digits address

pub address_is : (text rest : List ℕ) (address : ℕ) → address_at text ≡ Some (address, rest) → AddressTakes text rest address
unfolding address_at
address_is text rest address is =
    let count = prefix_len is_hexadecimal text in
    let found = guarded (ltb 0 count && leb count 16) (Some (digits_value 16 (take count text), drop count text)) (address, rest) is in
    let sizes = both (ltb 0 count) (leb count 16) found.0 in
    let parts : (digits_value 16 (take count text), drop count text) ≡ (address, rest) = some_is (digits_value 16 (take count text), drop count text) (address, rest) found.1 in
    let long : length (take count text) ≡ count = sym (run_again is_hexadecimal (take count text) (drop count text) (run_all is_hexadecimal text) (run_outside is_hexadecimal text)) ∙ ap (prefix_len is_hexadecimal) (take-append-drop count text) in
    subst (λ (p : Pair). AddressTakes text p.1 p.0) parts (record {
      digits = take count text;
      whole = sym (take-append-drop count text);
      is = record {
        digit = run_all is_hexadecimal text;
        some = omega (arith, long, ltb-true _ _ sizes.0);
        few = omega (arith, long, leb-true _ _ sizes.1);
        value = refl;
      };
    })

-- kallsyms
letter_again : (letter : ℕ) (rest : List ℕ) → is_ascii_alphabetic letter ≡ true → after_letter (letter ∷ (codes " " ++ rest)) ≡ Some rest
unfolding after_letter
letter_again letter rest is = let long : leb 2 (length (letter ∷ (codes " " ++ rest))) ≡ true = le-leb _ _ (omega arith) in rw (long, is) refl

abbrev pub Lettered : List ℕ → List ℕ → Type 0
Lettered text rest = (letter : ℕ) × (text ≡ letter ∷ (codes " " ++ rest)) × (is_ascii_alphabetic letter ≡ true)

pub letter_is : (text rest : List ℕ) → after_letter text ≡ Some rest → Lettered text rest
unfolding after_letter
letter_is [] rest is = absurd cc
letter_is (letter ∷ []) rest is = absurd cc
letter_is (letter ∷ (space ∷ text)) rest is =
    let found = guarded (leb 2 (length (letter ∷ space ∷ text)) && is_ascii_alphabetic letter && eqb space 32) (Some text) rest is in
    let sizes = both (leb 2 (length (letter ∷ space ∷ text)) && is_ascii_alphabetic letter) (eqb space 32) found.0 in
    let letters = both (leb 2 (length (letter ∷ space ∷ text))) (is_ascii_alphabetic letter) sizes.0 in
    (letter, ap (λ (s : ℕ). letter ∷ (s ∷ text)) (eqb-true space 32 sizes.1) ∙ ap (λ (t : List ℕ). letter ∷ (32 ∷ t)) (some_is text rest found.1), letters.1)

pub symbol_again : (line : List ℕ) (symbol : Pair) → IsSymbolLine line symbol → symbol_line line ≡ Some symbol
unfolding symbol_line
symbol_again line symbol is =
    let named = symbol.1 ++ is.behind in
    let count : prefix_len in_name named ≡ length symbol.1 = run_again in_name symbol.1 is.behind is.name_is (outside_of in_name is.behind is.name_ends) in
    let name : take (prefix_len in_name named) named ≡ symbol.1 = ap (λ (n : ℕ). take n named) count ∙ take_at symbol.1 is.behind (length symbol.1) refl in
    rw (
      is.whole,
      address_again is.digits (codes " " ++ (is.letter ∷ (codes " " ++ named))) symbol.0 is.address_is refl,
      after_again (codes " ") (is.letter ∷ (codes " " ++ named)),
      letter_again is.letter named is.letter_is,
      name,
    ) refl

pub symbol_is : (line : List ℕ) (symbol : Pair) → symbol_line line ≡ Some symbol → IsSymbolLine line symbol
unfolding symbol_line
symbol_is line symbol is =
    let address = bind_some (address_at line) _ symbol is in
    let spaced = bind_some (after_word (codes " ") address.0.1) _ symbol address.2 in
    let lettered = bind_some (after_letter spaced.0) _ symbol spaced.2 in
    let taken = address_is line address.0.1 address.0.0 address.1 in
    let letter = letter_is spaced.0 lettered.0 lettered.1 in
    let text = lettered.0 in
    let count = prefix_len in_name text in
    let whole : line ≡ taken.digits ++ (codes " " ++ (letter.0 ∷ (codes " " ++ (take count text ++ drop count text)))) =
    taken.whole ∙ ap (λ (back : List ℕ). taken.digits ++ back) (after_is (codes " ") address.0.1 spaced.0 spaced.1
    ∙ ap (λ (back : List ℕ). codes " " ++ back) (letter.1 ∙ ap (λ (back : List ℕ). letter.0 ∷ (codes " " ++ back)) (sym (take-append-drop count text)))) in
    subst (λ (p : Pair). IsSymbolLine line p) (some_is _ symbol lettered.2) (record {
      digits = taken.digits;
      letter = letter.0;
      behind = drop count text;
      whole = whole;
      address_is = taken.is;
      letter_is = letter.2;
      name_is = run_all in_name text;
      name_ends = outside_is in_name (drop count text) (run_outside in_name text);
    })

-- printk formats
prefix_again : (prefix rest : List ℕ) → (prefix ≡ []) ⊎ (prefix ≡ codes "0x") → after_word (codes "0x") rest ≡ None → without_prefix (prefix ++ rest) ≡ rest
unfolding without_prefix
prefix_again prefix rest (inl none) other = rw (none, other) refl
prefix_again prefix rest (inr some) other = rw (some, after_again (codes "0x") rest) refl

-- an address never begins with `0x`
unworded : (word text : List ℕ) → ((behind : List ℕ) → text ≡ word ++ behind → ⊥) → after_word word text ≡ None
unworded word text never = by (after_word word text) refl
  where
    by : (o : Option (List ℕ)) → after_word word text ≡ o → after_word word text ≡ None
    by None e = e
    by (Some behind) e = absurd (never behind (after_is word text behind e))

abbrev second : List ℕ → ℕ
second text = get_or text 1 0

no_prefix : (digits rest : List ℕ) (address : ℕ) → IsAddress digits address → after_word (codes "0x") (digits ++ (codes " " ++ rest)) ≡ None
no_prefix [] rest address is = let none = is.some in absurd (omega arith)
no_prefix (one ∷ []) rest address is = unworded (codes "0x") (one ∷ (codes " " ++ rest)) (λ behind e. let same : 32 ≡ 120 = ap second e in absurd (omega arith))
no_prefix (one ∷ (two ∷ more)) rest address is = unworded (codes "0x") (one ∷ (two ∷ (more ++ (codes " " ++ rest)))) (λ behind e.
    let same : two ≡ 120 = ap second e in
    let parts = both (is_hexadecimal one) (list_all is_hexadecimal (two ∷ more)) is.digit in
    let digit = both (is_hexadecimal two) (list_all is_hexadecimal more) parts.1 in
    let never : is_hexadecimal 120 ≡ true = ap is_hexadecimal (sym same) ∙ digit.0 in absurd cc)

quote_again : (text : List ℕ) → unquoted (text ++ codes "\"") ≡ Some text
unfolding unquoted
quote_again text =
    let long : length (text ++ codes "\"") - 1 ≡ length text = (let sum = length-append text (codes "\"") in omega (arith, sum)) in
    let some : ltb 0 (length (text ++ codes "\"")) ≡ true = lt-ltb _ _ (let sum = length-append text (codes "\"") in omega (arith, sum)) in
    let last : get_or (text ++ codes "\"") (length text) 0 ≡ 34 = get_or_at text 34 [] 0 (length text) refl in
    rw (some, long, last, take_at text (codes "\"") (length text) refl) refl

last_apart : (text : List ℕ) → 0 < length text → text ≡ take (length text - 1) text ++ get_or text (length text - 1) 0 ∷ []
last_apart text some =
    let n = length text - 1 in
    sym (take-append-drop n text)
    ∙ ap (λ (back : List ℕ). take n text ++ back) (at_drop_more (λ (l : List ℕ). l) text n 0 (omega (arith, some))
    ∙ ap (λ (back : List ℕ). get_or text n 0 ∷ back) (drop_all (n + 1) text (omega (arith, some))))

quote_is : (text inner : List ℕ) → unquoted text ≡ Some inner → text ≡ inner ++ codes "\""
unfolding unquoted
quote_is text inner is =
    let n = length text - 1 in
    let found = guarded (ltb 0 (length text) && eqb (get_or text n 0) 34) (Some (take n text)) inner is in
    let parts = both (ltb 0 (length text)) (eqb (get_or text n 0) 34) found.0 in
    last_apart text (ltb-true _ _ parts.0)
    ∙ ap (λ (front : List ℕ). front ++ get_or text n 0 ∷ []) (some_is (take n text) inner found.1)
    ∙ ap (λ (byte : ℕ). inner ++ byte ∷ []) (eqb-true _ _ parts.1)

pub printk_again : (line : List ℕ) (format : Pair) → IsPrintkLine line format → printk_line line ≡ Some format
unfolding printk_line
printk_again line format is =
    let quoted = format.1 ++ codes "\"" in
    let rest = is.digits ++ (codes " : \"" ++ quoted) in
    let bare : without_prefix line ≡ rest = ap without_prefix is.whole ∙ prefix_again is.prefix rest is.prefix_is (no_prefix is.digits (codes ": \"" ++ quoted) format.0 is.address_is) in
    rw (
      bare,
      address_again is.digits (codes " : \"" ++ quoted) format.0 is.address_is refl,
      after_again (codes " : \"") quoted,
      quote_again format.1,
    ) refl

abbrev Prefixed : List ℕ → List ℕ → Type 0
Prefixed line rest = (prefix : List ℕ) × (line ≡ prefix ++ rest) × ((prefix ≡ []) ⊎ (prefix ≡ codes "0x"))

prefix_is : (line : List ℕ) → Prefixed line (without_prefix line)
unfolding without_prefix
prefix_is line = by (after_word (codes "0x") line) refl
  where
    by : (o : Option (List ℕ)) → after_word (codes "0x") line ≡ o → Prefixed line (unwrap_or o line)
    by None e = ([], refl, inl refl)
    by (Some rest) e = (codes "0x", after_is (codes "0x") line rest e, inr refl)

pub printk_is : (line : List ℕ) (format : Pair) → printk_line line ≡ Some format → IsPrintkLine line format
unfolding printk_line
printk_is line format is =
    let address = bind_some (address_at (without_prefix line)) _ format is in
    let quoted = bind_some (after_word (codes " : \"") address.0.1) _ format address.2 in
    let text = bind_some (unquoted quoted.0) _ format quoted.2 in
    let prefix = prefix_is line in
    let taken = address_is (without_prefix line) address.0.1 address.0.0 address.1 in
    let whole : line ≡ prefix.0 ++ (taken.digits ++ (codes " : \"" ++ (text.0 ++ codes "\""))) =
    prefix.1 ∙ ap (λ (back : List ℕ). prefix.0 ++ back) (taken.whole
    ∙ ap (λ (back : List ℕ). taken.digits ++ back) (after_is (codes " : \"") address.0.1 quoted.0 quoted.1
    ∙ ap (λ (back : List ℕ). codes " : \"" ++ back) (quote_is quoted.0 text.0 text.1))) in
    subst (λ (p : Pair). IsPrintkLine line p) (some_is _ format text.2) (record {
      prefix = prefix.0;
      digits = taken.digits;
      whole = whole;
      prefix_is = prefix.2;
      address_is = taken.is;
    })

-- saved command lines
decimal_digits : (text : List ℕ) (number : ℕ) → decimal text ≡ Some number → list_all is_decimal_digit text ≡ true
unfolding decimal
decimal_digits text number is =
    let found = guarded (is_decimal text && ltb (digits_value 10 text) (2 ^ 32)) (Some (digits_value 10 text)) number is in
    let parts = both (is_decimal text) (ltb (digits_value 10 text) (2 ^ 32)) found.0 in
    (both (ltb 0 (length text)) (list_all is_decimal_digit text) parts.0).1

number_again : (digits rest : List ℕ) (number : ℕ) → decimal digits ≡ Some number → runs.BeginsOutside is_decimal_digit rest → leading_number (digits ++ rest) ≡ Some (number, rest)
unfolding leading_number
number_again digits rest number is outside =
    let count : prefix_len is_decimal_digit (digits ++ rest) ≡ length digits = run_again is_decimal_digit digits rest (decimal_digits digits number is) outside in
    rw (count, take_at digits rest (length digits) refl, drop_at digits rest (length digits) refl, is) refl

abbrev Numbered : List ℕ → List ℕ → ℕ → Type 0
Numbered text rest number = (digits : List ℕ) × (text ≡ digits ++ rest) × (decimal digits ≡ Some number)

number_by : (text rest : List ℕ) (count number : ℕ) (o : Option ℕ) → decimal (take count text) ≡ o → option_map {U = Pair} (λ (n : ℕ). (n, drop count text)) o ≡ Some (number, rest) → Numbered text rest number
number_by text rest count number None e is = absurd cc
number_by text rest count number (Some n) e is = subst (λ (p : Pair). Numbered text p.1 p.0) (some_is (n, drop count text) (number, rest) is) (take count text, sym (take-append-drop count text), e)

pub number_is : (text rest : List ℕ) (number : ℕ) → leading_number text ≡ Some (number, rest) → Numbered text rest number
unfolding leading_number
number_is text rest number is = number_by text rest (prefix_len is_decimal_digit text) number (decimal (take (prefix_len is_decimal_digit text) text)) refl is

pub task_again : (line : List ℕ) (task : Pair) → IsTaskLine line task → task_line line ≡ Some task
unfolding task_line
task_again line task is =
    let fits : ltb task.0 (2 ^ 31) ≡ true = lt-ltb _ _ is.pid_fits in
    let some : ltb 0 (length task.1) ≡ true = lt-ltb _ _ is.named in
    rw (is.whole, number_again is.digits (codes " " ++ task.1) task.0 is.pid_is refl, after_again (codes " ") task.1, fits, some) refl

pub task_is : (line : List ℕ) (task : Pair) → task_line line ≡ Some task → IsTaskLine line task
unfolding task_line
task_is line task is =
    let pid = bind_some (leading_number line) _ task is in
    let named = bind_some (after_word (codes " ") pid.0.1) _ task pid.2 in
    let kept = guarded (ltb pid.0.0 (2 ^ 31) && ltb 0 (length named.0)) (Some (pid.0.0, named.0)) task named.2 in
    let parts = both (ltb pid.0.0 (2 ^ 31)) (ltb 0 (length named.0)) kept.0 in
    let digits = number_is line pid.0.1 pid.0.0 pid.1 in
    subst (λ (p : Pair). IsTaskLine line p) (some_is (pid.0.0, named.0) task kept.1) (record {
      digits = digits.0;
      whole = digits.1 ∙ ap (λ (back : List ℕ). digits.0 ++ back) (after_is (codes " ") pid.0.1 named.0 named.1);
      pid_is = digits.2;
      pid_fits = ltb-true _ _ parts.0;
      named = ltb-true _ _ parts.1;
    })

-- what a search for a form tells of the line
module _ (Is : List ℕ → Pair → Type 0) (form : List ℕ → Option Pair) where
  pub when_found : ((line : List ℕ) (pair : Pair) → form line ≡ Some pair → Is line pair) → (line : List ℕ) (result : Option Found) → option_map found_view result ≡ form line → IfSome result (λ found. Is line (found_view found))
  when_found law line None is = tt
  when_found law line (Some found) is = law line (found_view found) (sym is)

  pub when_none : ((line : List ℕ) (pair : Pair) → Is line pair → form line ≡ Some pair) → (line : List ℕ) (result : Option Found) → option_map found_view result ≡ form line → IfNone result ((pair : Pair) → Is line pair → ⊥)
  when_none law line None is = λ pair has. let never : None ≡ Some pair = is ∙ law line pair has in absurd cc
  when_none law line (Some found) is = tt
