-- What stands after a word that asks for help, or for the version, is not read; and words that ask for work have no such word.
use Rattle.std.proofs.Common.{◌≡◌, ◌≢◌, ℕ, ◌+◌, Bool, true, false, ◌||◌, List, [], ◌∷◌, ◌++◌, length, None, if◌then◌else◌, refl, ap, sym, subst, ◌∙◌, append_assoc}
use Rattle.std.proofs.lemmas.Bool.{false≢true}
use Rattle.std.proofs.lemmas.List.Folds.{list_any-append}
use Rattle.trace_args.specs.declared.tool.Tool.{Tool}
use Rattle.trace_args.specs.declared.tool.Tool.TheVariants as tool
use Rattle.trace_args.specs.declared.topic.Topic.{Topic}
use Rattle.trace_args.specs.declared.topic.Topic.TheVariants.{HelpOf}
use Rattle.trace_args.specs.declared.option.FlagOption.{FlagOption}
use Rattle.trace_args.specs.Setting.{Setting, Valued, Stray}
use Rattle.trace_args.specs.Given.{asks_help, is_help}
use Rattle.trace_args.specs.Grammar.{given, operands, Group, WordsSay}
use Rattle.trace_args.specs.Faults.{IsClean, work_fault}
use Rattle.trace_args.specs.Command.{CommandData, About}
use Rattle.trace_args.specs.Asked.{work_of}
use Rattle.trace_args.specs.Reading.{Reads, tool_name}

flags_ask_none : (k : ℕ) (flags : List FlagOption) → asks_help (given k flags) ≡ false
flags_ask_none k [] = refl
flags_ask_none k (f ∷ flags) = flags_ask_none k flags

operands_ask_none : (command : Tool) (k : ℕ) (words : List (List ℕ)) → asks_help (operands command k words) ≡ false
operands_ask_none command k [] = refl
operands_ask_none command k (word ∷ words) = operands_ask_none command (k + 1) words

-- flags, and one more setting
then_asks_none : (k : ℕ) (flags : List FlagOption) (s : Setting) → is_help s ≡ false → asks_help (given k flags ++ (s ∷ [])) ≡ false
then_asks_none k [] s e = ap (λ b. b || false) e
then_asks_none k (f ∷ flags) s e = then_asks_none k flags s e

group_asks_none : (command : Tool) (k : ℕ) (words : List (List ℕ)) (ss : List Setting) → Group command k words ss → asks_help ss ≡ false
group_asks_none command k _ _ (Group.empty_operand _) = refl
group_asks_none command k _ _ (Group.one_operand _ c cs h) = refl
group_asks_none command k _ _ (Group.row _ letters flags some are) = flags_ask_none k flags
group_asks_none command k _ _ (Group.row_with_value _ letter b letters bytes flags v are is) = then_asks_none k flags _ refl
group_asks_none command k _ _ (Group.row_and_value _ letter letters value flags v are is) = then_asks_none k flags _ refl
group_asks_none command k _ _ (Group.long_flag _ name f is e) = refl
group_asks_none command k _ _ (Group.long_with_value _ name value v is e) = refl
group_asks_none command k _ _ (Group.long_and_value _ name value v is e) = refl

later_asks : (first later : List Setting) → asks_help (first ++ later) ≡ true → asks_help first ≡ false → asks_help later ≡ true
later_asks first later h none =
    sym (list_any-append is_help first later ∙ ap (λ b. b || asks_help later) none) ∙ h

none_asked : {A : Type 0} (b : Bool) → b ≡ false → b ≡ true → A
none_asked b none h = absurd (false≢true (sym none ∙ h))

-- where help is asked for, more words say nothing more
says_no_more : (command : Tool) (k : ℕ) (words : List (List ℕ)) (ss : List Setting) (more : List (List ℕ)) → asks_help ss ≡ true → WordsSay command k words ss → WordsSay command k (words ++ more) ss
says_no_more command k _ _ more h (WordsSay.end _) = absurd (false≢true h)
says_no_more command k _ _ more h (WordsSay.more _ words rest first later group says_rest) =
    let after = says_no_more command (k + length words) rest later more (later_asks first later h (group_asks_none command k words first group)) says_rest in
    subst (λ (ws : List (List ℕ)). WordsSay command k ws (first ++ later)) (sym (append_assoc words rest more)) (WordsSay.more k words (rest ++ more) first later group after)
says_no_more command k _ _ more h (WordsSay.only_operands _ rest) = none_asked _ (operands_ask_none command (k + 1) rest) h
says_no_more command k _ _ more h (WordsSay.row_without_value _ letter letters flags v are is) = none_asked _ (then_asks_none k flags (Valued v k None) refl) h
says_no_more command k _ _ more h (WordsSay.long_without_value _ name v is e) = absurd (false≢true h)
says_no_more command k _ _ more h (WordsSay.help_letter _ letter letters others flags rest are is) = WordsSay.help_letter k letter letters others flags (rest ++ more) are is
says_no_more command k _ _ more h (WordsSay.help_name _ name rest is e) = WordsSay.help_name k name (rest ++ more) is e
says_no_more command k _ _ more h (WordsSay.dash_alone _ rest) = absurd (false≢true h)
says_no_more command k _ _ more h (WordsSay.unknown_letter _ letter letters others flags rest are is first) = none_asked _ (then_asks_none k flags (Stray k) refl) h
says_no_more command k _ _ more h (WordsSay.unknown_name _ name rest is some e) = absurd (false≢true h)
says_no_more command k _ _ more h (WordsSay.unknown_with_value _ name value rest is other) = absurd (false≢true h)

work_is_work : (command : Tool) (ss : List Setting) (topic : Topic) → work_of command ss ≡ About topic → ⊥
work_is_work tool.Report ss topic h = cc
work_is_work tool.Dump ss topic h = cc
work_is_work tool.SelfTest ss topic h = cc
work_is_work tool.Split ss topic h = cc
work_is_work tool.Restore ss topic h = cc

asked_by : (command : Tool) (ss : List Setting) (topic : Topic) (b : Bool) → (if b then About (HelpOf command) else work_of command ss) ≡ About topic → b ≡ true
asked_by command ss topic true h = refl
asked_by command ss topic false h = absurd (work_is_work command ss topic h)

more_reads : (words more : List (List ℕ)) (a : CommandData) (topic : Topic) → a ≡ About topic → Reads words a → Reads (words ++ more) a
more_reads _ more _ topic h (Reads.about word words t is) = Reads.about word (words ++ more) t is
more_reads _ more _ topic h (Reads.of_tool command options ss says_is clean whole) =
    let asks = asked_by command ss topic (asks_help ss) h in
    Reads.of_tool command (options ++ more) ss (says_no_more command 2 options ss more asks says_is) clean (ap (λ b. if b then None else work_fault command (length (tool_name command ∷ (options ++ more))) ss) asks)

pub about_and_more : (words more : List (List ℕ)) (topic : Topic) → Reads words (About topic) → Reads (words ++ more) (About topic)
about_and_more words more topic r = more_reads words more (About topic) topic refl r

-- ---- words that ask for work

pub record Works (words : List (List ℕ)) (work : CommandData) : Type 0 where
  pub command : Tool
  pub settings : List Setting
  pub clean : IsClean settings
  pub whole : work_fault command (length words) settings ≡ None
  pub work_is : work ≡ work_of command settings

works_by : (command : Tool) (words : List (List ℕ)) (ss : List Setting) (a : CommandData) (b : Bool) → ((topic : Topic) → a ≢ About topic) → IsClean ss
    → (if b then None else work_fault command (length words) ss) ≡ None → a ≡ (if b then About (HelpOf command) else work_of command ss) → Works words a
works_by command words ss a true other clean whole is = absurd (other (HelpOf command) is)
works_by command words ss a false other clean whole is = record { command = command; settings = ss; clean = clean; whole = whole; work_is = is }

works_from : (words : List (List ℕ)) (a b : CommandData) → b ≡ a → ((topic : Topic) → a ≢ About topic) → Reads words b → Works words a
works_from _ a _ e other (Reads.about word words topic is) = absurd (other topic (sym e))
works_from _ a _ e other (Reads.of_tool command options ss says_is clean whole) =
    works_by command (tool_name command ∷ options) ss a (asks_help ss) other clean whole (sym e)

pub works : (words : List (List ℕ)) (a : CommandData) → ((topic : Topic) → a ≢ About topic) → Reads words a → Works words a
works words a other r = works_from words a a refl other r
