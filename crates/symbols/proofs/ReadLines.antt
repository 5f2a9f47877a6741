-- A loop over lines that names are read from.
use Rattle.std.proofs.Common.{◌≡◌, ℕ, suc, ◌<◌, ◌≤◌, ◌^◌, Bool, ltb, true, List, [], ◌∷◌, ◌++◌, length, take, drop, get_or, codes, Option, Some, None, IfSome, refl, sym, ap, ◌∙◌, append_assoc, arith}
use Rattle.std.specs.List.{cons_option, prefix_len, join_with_byte}
use Rattle.std.specs.Option.{unwrap_or}
use Rattle.std.proofs.lemmas.List.{append-nil, length-append, take_all}
use Rattle.std.proofs.lemmas.Bool.{lt-ltb}
use Rattle.std.proofs.lemmas.List.Splits.{join_with_byte-slice_split}
use Rattle.std.proofs.lemmas.List.Sums.{prefix_len-le-length}
use Rattle.trace_base.specs.FieldReading.{after_word}
use Rattle.trace_base.proofs.FieldEntries.{after_again, after_is}
use Rattle.text_lines.specs.Lines.{lines_of, lines_left}
use Rattle.text_lines.proofs.Splits.{lines_long}
use denote.Ref.{Bor}
use Rattle.symbols.specs.NameMap.{Pair}
use Rattle.symbols.specs.declared.lines.Form.{Form}
use Rattle.symbols.specs.declared.lines.Form.TheVariants.{Kallsyms}
use Rattle.symbols.specs.Forms.{address_at, leading_number, without_prefix, task_line, line_in, pairs_in}
use Rattle.symbols.specs.declared.found.Found.{Found}
use Rattle.symbols.specs.Found.{StandsIn}
use Rattle.symbols.specs.Names.{BeginsWith, EndsWith}
use Rattle.symbols.specs.FirstLine.{IsFirstSymbol, PutsFirst}
use Rattle.symbols.proofs.Forms.{address_is, number_is}

pub prefix_within : (p : ℕ → Bool) (xs : List ℕ) → prefix_len p xs ≤ length xs
prefix_within p xs = prefix_len-le-length p xs

-- a space at the front, and none
pub space_is : (text : List ℕ) → 0 < length text → get_or text 0 0 ≡ 32 → Some (drop 1 text) ≡ after_word (codes " ") text
space_is [] some space = absurd (omega (arith, some))
space_is (byte ∷ text) some space = sym (ap (λ (b : ℕ). after_word (codes " ") (b ∷ text)) space ∙ after_again (codes " ") text)

never_behind : (o : Option (List ℕ)) (text : List ℕ) → after_word (codes " ") text ≡ o → ((rest : List ℕ) → text ≡ codes " " ++ rest → ⊥) → None ≡ after_word (codes " ") text
never_behind None text e never = sym e
never_behind (Some rest) text e never = absurd (never rest (after_is (codes " ") text rest e))

pub no_text : (text : List ℕ) → length text ≡ 0 → None ≡ after_word (codes " ") text
no_text text none = never_behind (after_word (codes " ") text) text refl (λ rest e. absurd (omega (arith, ap length e, none)))

pub no_space : (text : List ℕ) → (get_or text 0 0 ≡ 32 → ⊥) → None ≡ after_word (codes " ") text
no_space text other = never_behind (after_word (codes " ") text) text refl (λ rest e. other (ap (λ (l : List ℕ). get_or l 0 0) e))

-- a line that gives a name, and one that gives none
pub one_put : (o : Option Pair) (front now : List Pair) (name : Pair) → Some name ≡ o → now ≡ front ++ name ∷ [] → now ≡ front ++ cons_option o []
one_put o front now name is next = next ∙ ap (λ (o : Option Pair). front ++ cons_option o []) is

pub none_put : (o : Option Pair) (front : List Pair) → None ≡ o → front ≡ front ++ cons_option o []
none_put o front is = sym (append-nil front) ∙ ap (λ (o : Option Pair). front ++ cons_option o []) is

-- texts that end with one
pub ends_itself : (text : List ℕ) → EndsWith text text
ends_itself text = ([], refl)

pub ends_behind : (text lines end : List ℕ) → EndsWith text lines → EndsWith lines end → EndsWith text end
ends_behind text lines end outer inner = (outer.0 ++ inner.0, outer.1 ∙ ap (λ (l : List ℕ). outer.0 ++ l) inner.1 ∙ sym (append_assoc outer.0 inner.0 end))

-- what stands in the end of a text stands in the text
pub stands_behind : (text lines : List ℕ) (found : Found) → EndsWith text lines → StandsIn lines found → StandsIn text found
stands_behind text lines found ends stands = record { ends = ends_behind text lines found.from.now ends stands.ends; inside = stands.inside }

-- a line ends with what stands from its name on
bare_by : (o : Option (List ℕ)) (line bare : List ℕ) → after_word (codes "0x") line ≡ o → bare ≡ unwrap_or o line → EndsWith line bare
bare_by None line bare e is = ([], sym is)
bare_by (Some rest) line bare e is = (codes "0x", after_is (codes "0x") line rest e ∙ ap (λ (l : List ℕ). codes "0x" ++ l) (sym is))

bare_ends : (line bare : List ℕ) → bare ≡ without_prefix line → EndsWith line bare
unfolding without_prefix
bare_ends line bare is = bare_by (after_word (codes "0x") line) line bare refl is

pub printk_ends : (line bare rest from : List ℕ) (key : ℕ) → bare ≡ without_prefix line → Some (key, rest) ≡ address_at bare → Some from ≡ after_word (codes " : \"") rest → EndsWith line from
printk_ends line bare rest from key is address word =
    let taken = address_is bare rest key (sym address) in
    let front = bare_ends line bare is in (
      front.0 ++ (taken.digits ++ codes " : \""),
      front.1 ∙ ap (λ (l : List ℕ). front.0 ++ l) (taken.whole ∙ ap (λ (l : List ℕ). taken.digits ++ l) (after_is (codes " : \"") rest from (sym word)) ∙ sym (append_assoc taken.digits (codes " : \"") from))
          ∙ sym (append_assoc front.0 (taken.digits ++ codes " : \"") from),
    )

pub task_ends : (line rest from : List ℕ) (pid : ℕ) → Some (pid, rest) ≡ leading_number line → Some from ≡ after_word (codes " ") rest → EndsWith line from
task_ends line rest from pid number space =
    let taken = number_is line rest pid (sym number) in
    (taken.0 ++ codes " ", taken.1 ∙ ap (λ (l : List ℕ). taken.0 ++ l) (after_is (codes " ") rest from (sym space)) ∙ sym (append_assoc taken.0 (codes " ") from))

-- the name of a task is the whole rest of its line
pub task_read : (line rest from : List ℕ) (pid : ℕ) → Some (pid, rest) ≡ leading_number line → Some from ≡ after_word (codes " ") rest → pid < 2 ^ 31 → 0 < length from → Some (pid, take (length from) from) ≡ task_line line
unfolding task_line
task_read line rest from pid number space fits some =
    let low : ltb pid (2 ^ 31) ≡ true = lt-ltb _ _ fits in
    let named : ltb 0 (length from) ≡ true = lt-ltb _ _ some in
    rw (sym number, sym space, low, named) (ap (λ (l : List ℕ). Some (pid, l)) (take_all (length from) from (omega arith)))

-- what follows the first line
line_and : (line rest : List ℕ) (others : List (List ℕ)) → lines_of rest ≡ others → join_with_byte 10 (line ∷ others) ≡ line ++ (10 ∷ rest)
line_and line [] [] is = absurd cc
line_and line (byte ∷ rest) [] is =
    let none : [] ≡ byte ∷ rest = sym (ap (join_with_byte 10) is) ∙ join_with_byte-slice_split 10 (byte ∷ rest) in absurd cc
line_and line rest (other ∷ others) is =
    ap (λ (l : List ℕ). line ++ (10 ∷ l)) (sym (ap (join_with_byte 10) is) ∙ join_with_byte-slice_split 10 rest)

pub first_of : (text line rest : List ℕ) → lines_of text ≡ line ∷ lines_of rest → text ≡ line ++ (10 ∷ rest)
first_of text line rest split = sym (join_with_byte-slice_split 10 text) ∙ ap (join_with_byte 10) split ∙ line_and line rest (lines_of rest) refl

pub ends_left : (text lines line : List ℕ) (behind : Option (Bor (List ℕ))) → EndsWith text lines → lines_of lines ≡ line ∷ lines_left behind → IfSome behind (λ rest. EndsWith text rest.now)
ends_left text lines line None ends split = tt
ends_left text lines line (Some rest) ends split =
    ends_behind text lines rest.now ends (line ++ 10 ∷ [], first_of lines line rest.now split ∙ sym (append_assoc line (10 ∷ []) rest.now))

pub line_begins : (lines line : List ℕ) (behind : Option (Bor (List ℕ))) → lines_of lines ≡ line ∷ lines_left behind → BeginsWith lines line
line_begins lines line None split = ([], sym (join_with_byte-slice_split 10 lines) ∙ ap (join_with_byte 10) split ∙ sym (append-nil line))
line_begins lines line (Some rest) split = (10 ∷ rest.now, first_of lines line rest.now split)

pub shorter_left : (lines line : List ℕ) (behind : Option (Bor (List ℕ))) → lines_of lines ≡ line ∷ lines_left behind → lines_long behind < suc (length lines)
shorter_left lines line None split = omega arith
shorter_left lines line (Some rest) split = omega (arith, ap length (first_of lines line rest.now split) ∙ length-append line (10 ∷ rest.now))

-- the loop
one_more : (o : Option Pair) (ps : List Pair) → cons_option o [] ++ ps ≡ cons_option o ps
one_more None ps = refl
one_more (Some p) ps = refl

pub line_more : (form : Form) (text : List ℕ) (others : List (List ℕ)) (front now whole : List Pair) → PutsFirst form text front now others
    → front ++ pairs_in form (lines_of text) ≡ whole → now ++ pairs_in form others ≡ whole
line_more form text others front now whole puts before =
    ap (λ (l : List Pair). l ++ pairs_in form others) puts.put
    ∙ append_assoc front (cons_option (line_in form puts.line) []) (pairs_in form others)
    ∙ ap (λ (l : List Pair). front ++ l) (one_more (line_in form puts.line) (pairs_in form others) ∙ ap (pairs_in form) (sym puts.split)) ∙ before

pub all_read : (form : Form) (front whole : List Pair) → front ++ pairs_in form [] ≡ whole → front ≡ whole
all_read form front whole before = sym (append-nil front) ∙ before

-- a symbol that was read in one pass is what its line gives
pub symbol_put : (form : Form) (text : List ℕ) (key : ℕ) (from : List ℕ) (len : ℕ) (others : List (List ℕ)) (front now : List Pair) → form ≡ Kallsyms → IsFirstSymbol text key from len others
    → now ≡ front ++ (key, take len from) ∷ [] → PutsFirst form text front now others
symbol_put form text key from len others front now is first next = record {
  line = first.line;
  split = first.split;
  put = next
      ∙ ap (λ (o : Option Pair). front ++ cons_option o []) (sym first.is)
      ∙ ap (λ (f : Form). front ++ cons_option (line_in f first.line) []) (sym is);
}
