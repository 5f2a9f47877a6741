-- What the words of a split that have a reading keep.
use Rattle.std.proofs.Common.{◌≡◌, ℕ, ◌<◌, ◌≤◌, nat_le, Bool, true, false, ◌&&◌, List, [], ◌∷◌, ◌++◌, length, Option, Some, None, IfSome, option_map, unwrap_or, if◌then◌else◌, refl, ap, sym, subst, ◌∙◌, arith, lit<}
use Rattle.std.specs.Prelude.{is_some, codes}
use Rattle.std.specs.List.{find}
use Rattle.std.specs.Option.{option_and_then, option_map_or, option_or}
use Rattle.std.proofs.lemmas.Bool.Decides.{nat_tests}
use Rattle.split_pieces.specs.Pieces.{IsUnit}
use Rattle.trace_args.specs.declared.fault.WordKind.TheVariants.{LongName}
use Rattle.trace_args.specs.declared.option.ValuedOption.{ValuedOption}
use Rattle.trace_args.specs.declared.option.ValuedOption.TheVariants as valued
use Rattle.word_values.specs.declared.piece.PieceUnit.{PieceUnit}
use Rattle.word_values.specs.declared.piece.PieceUnit.TheVariants.{All}
use Rattle.word_values.specs.declared.piece.PieceOption.{PieceOption}
use Rattle.word_values.specs.declared.piece.PieceOption.TheVariants.{Seconds, Millis, Micros, Events}
use Rattle.trace_args.specs.declared.tool.Tool.{Tool}
use Rattle.trace_args.specs.declared.tool.Tool.TheVariants as tool
use Rattle.trace_args.specs.Asked.{base_of, input_of, piece_by, split_of, unit_of as unit_in, work_of}
use Rattle.trace_args.specs.Command.{SplitData, Split}
use Rattle.trace_args.specs.Faults.{fault, fault_of, input_name_fault, name_fault, value_fault, work_fault, IsClean}
use Rattle.trace_args.specs.Given.{gives, value_in, value_of}
use Rattle.word_values.specs.Number.{number_of, piece_count}
use Rattle.word_values.specs.Pieces.{piece}
use Rattle.trace_args.specs.Reading.{Reads}
use Rattle.trace_args.specs.Setting.{Text, Setting, Flag, Valued, Help, Stray}
use Rattle.trace_args.proofs.HelpLaws.{works}
use Rattle.run_words.specs.Allowed.{IsAllowedSplit}
use Rattle.run_words.proofs.Numbers.{within_of}

-- THE UNIT

abbrev IsGood : PieceUnit → Type 0
IsGood unit = IsUnit unit

piece_good : (option : PieceOption) (n : ℕ) → 0 < n → IsGood (piece option n)
piece_good Seconds n h = omega arith
piece_good Millis n h = omega arith
piece_good Micros n h = omega arith
piece_good Events n h = h

least_of : (n most : ℕ) (number : Option ℕ) → option_and_then (λ m. if nat_le 1 m && nat_le m most then Some m else None) number ≡ Some n → 0 < n
least_of n most number h = omega (arith, (within_of n 1 most number h).0)

count_good : (option : PieceOption) (count : Option ℕ) → ((n : ℕ) → count ≡ Some n → 0 < n) → IfSome (option_map (piece option) count) IsGood
count_good option None h = tt
count_good option (Some n) h = piece_good option n (h n refl)

value_good : (option : PieceOption) (value : Option Text) → IfSome (option_map (piece option) (option_and_then (λ text. piece_count text.bytes) value)) IsGood
value_good option None = tt
value_good option (Some text) = count_good option (piece_count text.bytes) (λ n h. least_of n 1000000000 (number_of text.bytes) h)

by_good : (settings : List Setting) (option : PieceOption) → IfSome (piece_by settings option) IsGood
by_good settings option = value_good option (value_of (valued.Piece option) settings)

or_good : (a b : Option PieceUnit) → IfSome a IsGood → IfSome b IsGood → IfSome (option_or a b) IsGood
or_good None b one two = two
or_good (Some unit) b one two = one

unwrap_good : (a : Option PieceUnit) → IfSome a IsGood → IsGood (unwrap_or a All)
unwrap_good None good = tt
unwrap_good (Some unit) good = good

unit_good : (settings : List Setting) → IsGood (unit_in settings)
unit_good settings =
    let three = or_good _ (piece_by settings Micros)
    (or_good (piece_by settings Seconds) (piece_by settings Millis) (by_good settings Seconds) (by_good settings Millis)) (by_good settings Micros) in
    unwrap_good _ (or_good _ (piece_by settings Events) three (by_good settings Events))

-- THE BASE

second_none : {X : Type 0} (a b : Option X) → option_or a b ≡ None → b ≡ None
second_none None b h = h
second_none (Some x) b h = cc

name_by : (name : Text) (small : Bool) → nat_le (length name.bytes) 4096 ≡ small
    → (if small then None else Some (fault name.word LongName)) ≡ None → length name.bytes ≤ 4096
name_by name true e h = grind (arith, nat_tests, e)
name_by name false e h = cc

name_short : (name : Text) → name_fault name ≡ None → length name.bytes ≤ 4096
name_short name h = name_by name (nat_le (length name.bytes) 4096) refl h

abbrev IsShort : List ℕ → Type 0
IsShort bytes = length bytes ≤ 4096

-- a setting that was found, after others
record Found (p : Setting → Bool) (settings : List Setting) (s : Setting) : Type 0 where
  earlier : List Setting
  later : List Setting
  place : settings ≡ earlier ++ (s ∷ later)
  passes : p s ≡ true

found_by : (p : Setting → Bool) (x : Setting) (xs : List Setting) (s : Setting) (b : Bool) → p x ≡ b → (if b then Some x else find p xs) ≡ Some s
    → (find p xs ≡ Some s → Found p xs s) → Found p (x ∷ xs) s
found_by p x xs s true e h again =
    let same : x ≡ s = cc in
    record { earlier = []; later = xs; place = ap (λ y. y ∷ xs) same; passes = ap p (sym same) ∙ e }
found_by p x xs s false e h again =
    let found = again h in
    record { earlier = x ∷ found.earlier; later = found.later; place = ap (λ ys. x ∷ ys) found.place; passes = found.passes }

found : (p : Setting → Bool) (settings : List Setting) (s : Setting) → find p settings ≡ Some s → Found p settings s
found p [] s h = cc
found p (x ∷ xs) s h = found_by p x xs s (p x) refl h (found p xs s)

-- the value of a base that nothing is wrong with
value_short : (earlier : List Setting) (option : ValuedOption) (word : ℕ) (value : Option Text) (other : List ℕ) → gives valued.Base (Valued option word value) ≡ true
    → value_fault earlier option word value ≡ None → IsShort (option_map_or (λ text. text.bytes) value other)
value_short earlier valued.Base word None other g h = cc
value_short earlier valued.Base word (Some text) other g h = name_short text h
value_short earlier option word value other g h = cc

setting_short : (earlier : List Setting) (s : Setting) (other : List ℕ) → gives valued.Base s ≡ true → fault_of earlier s ≡ None
    → IsShort (option_map_or (λ text. text.bytes) (value_in s) other)
setting_short earlier (Flag given word) other g h = cc
setting_short earlier (Valued option word value) other g h = value_short earlier option word value other g (second_none _ _ h)
setting_short earlier Help other g h = cc
setting_short earlier (Stray word) other g h = cc

input_short : (value : Option Text) → option_and_then name_fault value ≡ None → IsShort (option_map_or (λ text. text.bytes) value (codes "trace.dat"))
input_short None h = lit< tt
input_short (Some text) h = name_short text h

base_by : (settings : List Setting) (base : Option Setting) → find (gives valued.Base) settings ≡ base → IsClean settings
    → (if is_some base then None else option_and_then name_fault (value_of valued.Input settings)) ≡ None
    → IsShort (option_map_or (λ text. text.bytes) (option_and_then value_in base) (input_of settings))
base_by settings None e clean h = input_short (value_of valued.Input settings) h
base_by settings (Some s) e clean h =
    let place = found (gives valued.Base) settings s e in
    setting_short place.earlier s (input_of settings) place.passes (clean place.earlier s place.later place.place)

base_short : (settings : List Setting) → IsClean settings → input_name_fault settings ≡ None → IsShort (base_of settings)
base_short settings clean h = base_by settings (find (gives valued.Base) settings) refl clean h

-- BOTH

by_tool : (command : Tool) (last : ℕ) (settings : List Setting) (words : SplitData) → IsClean settings → work_fault command last settings ≡ None
    → Split words ≡ work_of command settings → IsAllowedSplit words
by_tool tool.Split last settings words clean late is =
    let same : words ≡ split_of settings = cc in
    subst IsAllowedSplit (sym same) record { unit = unit_good settings; base = base_short settings clean late }
by_tool tool.Report last settings words clean late is = cc
by_tool tool.Dump last settings words clean late is = cc
by_tool tool.SelfTest last settings words clean late is = cc
by_tool tool.Restore last settings words clean late is = cc

pub split_allowed : (given : List (List ℕ)) (words : SplitData) → Reads given (Split words) → IsAllowedSplit words
split_allowed given words reads =
    let asks = works given (Split words) (λ topic is. cc) reads in
    by_tool asks.command (length given) asks.settings words asks.clean asks.whole asks.work_is
