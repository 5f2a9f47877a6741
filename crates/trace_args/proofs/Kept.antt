-- The settings that are kept to be asked for are of the same options as all settings, and name the same files.
use Rattle.std.proofs.Common.{◌≡◌, ◌++◌, Bool, true, false, not, ◌||◌, List, [], ◌∷◌, Option, Some, None, is_some, cond, if◌then◌else◌, refl, ap, subst, sym, ◌∙◌}
use Rattle.std.specs.List.{cons_option, filter_map, list_any, find}
use Rattle.std.proofs.lemmas.Bool.{false≢true}
use Rattle.std.proofs.lemmas.List.{append-nil}
use Rattle.std.proofs.lemmas.List.Elements.{filter_map-append}
use Rattle.std.proofs.lemmas.List.Folds.{list_any-append}
use Rattle.trace_args.specs.declared.option.FlagOption.{FlagOption}
use Rattle.trace_args.specs.declared.option.ValuedOption.{ValuedOption}
use Rattle.trace_args.specs.declared.option.ValuedOption.TheVariants.{Source}
use Rattle.trace_args.specs.contracts.option.FlagOptionEq.TheImpl.Laws as flags
use Rattle.trace_args.specs.contracts.option.ValuedOptionEq.TheImpl.Laws as options
use Rattle.trace_args.specs.contracts.option.FlagOptionPartialEq.TheImpl as flag_is
use Rattle.trace_args.specs.contracts.option.ValuedOptionPartialEq.TheImpl as option_is
use Rattle.trace_args.specs.Setting.{Setting, Flag, Valued, Help, Stray}
use Rattle.trace_args.specs.Given.{AskSame, gives, is_given, is_kept, is_set, sets, value_for, values_of, with_one}

-- one more answer that does not come, or is there already
settled : (before now : Bool) → (now ≡ true → before ≡ true) → (before || (now || false)) ≡ before
settled true now h = refl
settled false true h = absurd (false≢true (h refl))
settled false false h = refl

not_false : (b : Bool) → not b ≡ false → b ≡ true
not_false true h = refl
not_false false h = absurd (false≢true (sym h))

or_again : (x y rest others : Bool) → (x ≡ true → y ≡ true) → (rest ≡ true → others ≡ true) → (x || rest) ≡ true → (y || others) ≡ true
or_again true y rest others f g h = ap (λ b. b || others) (f refl)
or_again false true rest others f g h = refl
or_again false false rest others f g h = g h

-- neither of two answers
neither_first : (a b : Bool) → (a || b) ≡ false → a ≡ false
neither_first true b h = h
neither_first false b h = refl

neither_second : (a b : Bool) → (a || b) ≡ false → b ≡ false
neither_second true b h = absurd (false≢true (sym h))
neither_second false b h = h

-- one more setting adds nothing where its option is there
more_by : (p : Setting → Bool) (takes : Bool) (one other : List Setting) (s : Setting) → list_any p one ≡ list_any p other → (takes ≡ false → p s ≡ true → list_any p other ≡ true) → list_any p (with_one takes one s) ≡ list_any p (other ++ (s ∷ []))
more_by p true one other s same known = list_any-append p one (s ∷ []) ∙ ap (λ b. b || (p s || false)) same ∙ sym (list_any-append p other (s ∷ []))
more_by p false one other s same known = same ∙ sym (settled (list_any p other) (p s) (known refl)) ∙ sym (list_any-append p other (s ∷ []))

flag_again : (f o : FlagOption) → flag_is.ghosts.eq f o ≡ true → (ss : List Setting) → list_any (sets f) ss ≡ true → list_any (sets o) ss ≡ true
flag_again f o e [] h = h
flag_again f o e (Flag g w ∷ ss) h = or_again (flag_is.ghosts.eq g f) (flag_is.ghosts.eq g o) (list_any (sets f) ss) (list_any (sets o) ss) (λ same. flags.laws-law.congr g f o same ∙ e) (flag_again f o e ss) h
flag_again f o e (Valued g w v ∷ ss) h = flag_again f o e ss h
flag_again f o e (Help ∷ ss) h = flag_again f o e ss h
flag_again f o e (Stray w ∷ ss) h = flag_again f o e ss h

option_again : (f o : ValuedOption) → option_is.ghosts.eq f o ≡ true → (ss : List Setting) → list_any (gives f) ss ≡ true → list_any (gives o) ss ≡ true
option_again f o e [] h = h
option_again f o e (Flag g w ∷ ss) h = option_again f o e ss h
option_again f o e (Valued g w v ∷ ss) h = or_again (option_is.ghosts.eq g f) (option_is.ghosts.eq g o) (list_any (gives f) ss) (list_any (gives o) ss) (λ same. options.laws-law.congr g f o same ∙ e) (option_again f o e ss) h
option_again f o e (Help ∷ ss) h = option_again f o e ss h
option_again f o e (Stray w ∷ ss) h = option_again f o e ss h

some_cond : (b : Bool) (s : Setting) (found : Option Setting) → is_some (cond b (Some s) found) ≡ (b || is_some found)
some_cond true s found = refl
some_cond false s found = refl

pub given_any : (o : ValuedOption) (ss : List Setting) → is_given o ss ≡ list_any (gives o) ss
given_any o [] = refl
given_any o (s ∷ ss) = some_cond (gives o s) s (find (gives o) ss) ∙ ap (λ b. gives o s || b) (given_any o ss)

-- of an option that names no file
pub kept_else : (same is has given : Bool) → is ≡ same → is ≡ false → has ≡ given → not has ≡ (same || not given)
kept_else same is has given e other h = ap not h ∙ ap (λ b. b || not given) (sym other ∙ e)

pub set_any : (o : FlagOption) (ss : List Setting) → is_set o ss ≡ list_any (sets o) ss
unfolding is_set
set_any o ss = refl

-- a setting that is not kept is of an option that is there, and names no file
set_before : (o : FlagOption) (other : List Setting) (s : Setting) → is_kept other s ≡ false → sets o s ≡ true → list_any (sets o) other ≡ true
unfolding is_set
set_before o other (Flag f w) h e = flag_again f o e other (not_false (is_set f other) h)
set_before o other (Valued f w v) h e = absurd (false≢true e)
set_before o other Help h e = absurd (false≢true e)
set_before o other (Stray w) h e = absurd (false≢true e)

given_before : (o : ValuedOption) (other : List Setting) (s : Setting) → is_kept other s ≡ false → gives o s ≡ true → list_any (gives o) other ≡ true
given_before o other (Flag f w) h e = absurd (false≢true e)
given_before o other (Valued f w v) h e = option_again f o e other (sym (given_any f other) ∙ not_false (is_given f other) (neither_second (option_is.ghosts.eq f Source) (not (is_given f other)) h))
given_before o other Help h e = absurd (false≢true e)
given_before o other (Stray w) h e = absurd (false≢true e)

no_source : (other : List Setting) (s : Setting) → is_kept other s ≡ false → value_for Source s ≡ None
no_source other (Flag f w) h = refl
no_source other (Valued f w v) h = ap (λ b. if b then v else None) (neither_first (option_is.ghosts.eq f Source) (not (is_given f other)) h)
no_source other Help h = refl
no_source other (Stray w) h = refl

-- ---- both lists with one more

flags_more : (one other : List Setting) (s : Setting) → ((o : FlagOption) → is_set o one ≡ is_set o other) → (o : FlagOption) → is_set o (with_one (is_kept other s) one s) ≡ is_set o (with_one true other s)
unfolding is_set
flags_more one other s same o = more_by (sets o) (is_kept other s) one other s (same o) (set_before o other s)

options_more : (one other : List Setting) (s : Setting) → ((o : ValuedOption) → is_given o one ≡ is_given o other) → (o : ValuedOption) → is_given o (with_one (is_kept other s) one s) ≡ is_given o (with_one true other s)
options_more one other s same o =
    given_any o (with_one (is_kept other s) one s)
    ∙ more_by (gives o) (is_kept other s) one other s (sym (given_any o one) ∙ same o ∙ given_any o other) (given_before o other s)
    ∙ sym (given_any o (other ++ (s ∷ [])))

sources_by : (takes : Bool) (one other : List Setting) (s : Setting) → values_of Source one ≡ values_of Source other → (takes ≡ false → value_for Source s ≡ None) → values_of Source (with_one takes one s) ≡ values_of Source (other ++ (s ∷ []))
sources_by true one other s same none =
    filter_map-append (value_for Source) one (s ∷ [])
    ∙ ap (λ values. values ++ filter_map (value_for Source) (s ∷ [])) same
    ∙ sym (filter_map-append (value_for Source) other (s ∷ []))
sources_by false one other s same none =
    same
    ∙ sym (append-nil (values_of Source other))
    ∙ ap (λ value. values_of Source other ++ cons_option value []) (sym (none refl))
    ∙ sym (filter_map-append (value_for Source) other (s ∷ []))

ask_more : (one other : List Setting) (s : Setting) → AskSame one other → AskSame (with_one (is_kept other s) one s) (with_one true other s)
ask_more one other s same =
    record {
      flags = flags_more one other s same.flags;
      options = options_more one other s same.options;
      sources = sources_by (is_kept other s) one other s same.sources (no_source other s);
    }

-- the same of lists that are so
pub kept_more : (one other more all : List Setting) (s : Setting) (takes : Bool) → AskSame one other → takes ≡ is_kept other s → more ≡ with_one takes one s → all ≡ with_one true other s → AskSame more all
kept_more one other more all s takes same is more_is all_is =
    subst (λ (rest : List Setting). AskSame more rest) (sym all_is)
    (subst (λ (first : List Setting). AskSame first (with_one true other s)) (sym (more_is ∙ ap (λ b. with_one b one s) is)) (ask_more one other s same))
