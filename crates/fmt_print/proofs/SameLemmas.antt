-- Arguments that are the same over a record print the same.
use Rattle.std.proofs.Common.{◌≡◌, ◌∙◌, ℕ, Bool, true, false, List, [], ◌∷◌, ◌++◌, map, Option, Some, None, refl, ap, sym, option_map}
use Rattle.std.specs.Prelude.{ℤ, pos, ◌%◌, ◌^◌, int_lt, unsigned_abs, option_and_then}
use Rattle.std.specs.Option.{unwrap_or}
use Rattle.std.proofs.lemmas.Bool.{false≢true}
use Rattle.fmt_directives.specs.declared.directive.Amount.{Amount}
use Rattle.fmt_directives.specs.declared.directive.Amount.TheVariants.{Absent, Fixed, FromArgument}
use Rattle.fmt_directives.specs.declared.directive.Base.{Base}
use Rattle.fmt_directives.specs.declared.directive.Spec.{Spec}
use Rattle.fmt_directives.specs.declared.directive.Directive.{Directive}
use Rattle.fmt_directives.specs.declared.directive.Length.{Length}
use Rattle.fmt_directives.specs.declared.directive.Directive.TheVariants as directive
use Rattle.fmt_directives.specs.declared.directive.PointerForm.{PointerForm}
use Rattle.symbols.specs.NameMap.{first_at}
use Rattle.symbols.specs.Maps.{Maps}
use Rattle.fmt_expr.specs.Tree.{Tree}
use Rattle.fmt_expr.specs.Kinds.{kind_of}
use Rattle.fmt_expr.specs.declared.kinds.Kind.{Kind}
use Rattle.fmt_expr.specs.declared.kinds.Kind.TheVariants.{Number, Text, Bytes}
use Rattle.fmt_eval.specs.Numbers.{pattern}
use Rattle.fmt_eval.specs.Operators.{cast_bits}
use Rattle.fmt_eval.specs.Pieces.{hexadecimal}
use Rattle.trace_base.specs.Kept.{until_nul}
use Rattle.fmt_eval.specs.Values.{RecData}
use Rattle.fmt_fold.specs.Same.{Meaning, meaning_of}
use Rattle.fmt_forms.specs.declared.form.Form.{Form}
use Rattle.fmt_forms.specs.Integers.{is_signed, integer_text}
use Rattle.fmt_forms.specs.Texts.{padded, cut_to}
use Rattle.fmt_print.specs.Strings.{letter_text, string_by, string_text}
use Rattle.fmt_print.specs.Addresses.{number_address, bytes_address, address_by, address_text, pointer_text}
use Rattle.fmt_forms.specs.Forms.{form_of}
use Rattle.fmt_print.specs.Arguments.{first_of, amount_of, Taken, taken, by}
use Rattle.fmt_print.specs.Printed.{bits_of, number_text, Source, printed_one, printed}

-- arguments that are the same, one by one
abbrev AreSame : RecData → List Tree → List Tree → Type 0
AreSame g [] [] = Unit {0}
AreSame g (t ∷ ts) (u ∷ us) = (meaning_of g t ≡ meaning_of g u) × AreSame g ts us
AreSame g [] (u ∷ us) = ⊥
AreSame g (t ∷ ts) [] = ⊥

abbrev is_empty : List Meaning → Bool
is_empty [] = true
is_empty (m ∷ ms) = false

abbrev head_or : Meaning → List Meaning → Meaning
head_or d [] = d
head_or d (m ∷ ms) = m

abbrev behind : List Meaning → List Meaning
behind [] = []
behind (m ∷ ms) = ms

same_each : (g : RecData) (ts us : List Tree) → map (meaning_of g) ts ≡ map (meaning_of g) us → AreSame g ts us
same_each g [] [] e = tt
same_each g (t ∷ ts) (u ∷ us) e = (ap (head_or (meaning_of g t)) e, same_each g ts us (ap behind e))
same_each g [] (u ∷ us) e = absurd (false≢true (sym (ap is_empty e)))
same_each g (t ∷ ts) [] e = absurd (false≢true (ap is_empty e))

abbrev SameFirst : RecData → Option (Tree × List Tree) → Option (Tree × List Tree) → Type 0
SameFirst g None None = Unit {0}
SameFirst g (Some a) (Some b) = (meaning_of g a.0 ≡ meaning_of g b.0) × AreSame g a.1 b.1
SameFirst g None (Some b) = ⊥
SameFirst g (Some a) None = ⊥

first_same : (g : RecData) (ts us : List Tree) → AreSame g ts us → SameFirst g (first_of ts) (first_of us)
first_same g [] [] s = tt
first_same g (t ∷ ts) (u ∷ us) s = s
first_same g [] (u ∷ us) s = absurd s
first_same g (t ∷ ts) [] s = absurd s

abbrev SameAmount : RecData → Option (Option ℤ × List Tree) → Option (Option ℤ × List Tree) → Type 0
SameAmount g None None = Unit {0}
SameAmount g (Some a) (Some b) = (a.0 ≡ b.0) × AreSame g a.1 b.1
SameAmount g None (Some b) = ⊥
SameAmount g (Some a) None = ⊥

amount_same : (g : RecData) (amount : Amount) (ts us : List Tree) → AreSame g ts us → SameAmount g (amount_of g amount ts) (amount_of g amount us)
amount_same g Absent ts us s = (refl, s)
amount_same g (Fixed n) ts us s = (refl, s)
amount_same g FromArgument [] [] s = tt
amount_same g FromArgument (t ∷ ts) (u ∷ us) s = (ap (λ (m : Meaning). Some m.number.exact) s.0, s.1)
amount_same g FromArgument [] (u ∷ us) s = absurd s
amount_same g FromArgument (t ∷ ts) [] s = absurd s

abbrev SameTaken : RecData → Option Taken → Option Taken → Type 0
SameTaken g None None = Unit {0}
SameTaken g (Some a) (Some b) = (a.0 ≡ b.0) × (meaning_of g a.1 ≡ meaning_of g b.1) × AreSame g a.2 b.2
SameTaken g None (Some b) = ⊥
SameTaken g (Some a) None = ⊥

abbrev with_first : Spec → Option ℤ → Option ℤ → Option (Tree × List Tree) → Option Taken
with_first spec width precision o = option_map (λ a. (form_of spec width precision, a.0, a.1)) o

abbrev with_precision : Spec → Option ℤ → Option (Option ℤ × List Tree) → Option Taken
with_precision spec width o = option_and_then (λ p. with_first spec width p.0 (first_of p.1)) o

last_same : (g : RecData) (spec : Spec) (w v p q : Option ℤ) (a b : Option (Tree × List Tree)) → w ≡ v → p ≡ q → SameFirst g a b → SameTaken g (with_first spec w p a) (with_first spec v q b)
last_same g spec w v p q None None e f s = tt
last_same g spec w v p q (Some a) (Some b) e f s = (ap (λ (x : Option ℤ). form_of spec x p) e ∙ ap (form_of spec v) f, s.0, s.1)
last_same g spec w v p q None (Some b) e f s = absurd s
last_same g spec w v p q (Some a) None e f s = absurd s

behind_same : (g : RecData) (spec : Spec) (w v : Option ℤ) (a b : Option (Option ℤ × List Tree)) → w ≡ v → SameAmount g a b → SameTaken g (with_precision spec w a) (with_precision spec v b)
behind_same g spec w v None None e s = tt
behind_same g spec w v (Some a) (Some b) e s = last_same g spec w v a.0 b.0 (first_of a.1) (first_of b.1) e s.0 (first_same g a.1 b.1 s.1)
behind_same g spec w v None (Some b) e s = absurd s
behind_same g spec w v (Some a) None e s = absurd s

both_same : (g : RecData) (spec : Spec) (ts us : Option (Option ℤ × List Tree)) → SameAmount g ts us
    → SameTaken g (option_and_then (λ w. with_precision spec w.0 (amount_of g spec.precision w.1)) ts) (option_and_then (λ w. with_precision spec w.0 (amount_of g spec.precision w.1)) us)
both_same g spec None None s = tt
both_same g spec (Some a) (Some b) s =
    behind_same g spec a.0 b.0 (amount_of g spec.precision a.1) (amount_of g spec.precision b.1) s.0 (amount_same g spec.precision a.1 b.1 s.1)
both_same g spec None (Some b) s = absurd s
both_same g spec (Some a) None s = absurd s

taken_same : (g : RecData) (spec : Spec) (ts us : List Tree) → AreSame g ts us → SameTaken g (taken g spec ts) (taken g spec us)
unfolding taken
taken_same g spec ts us s = both_same g spec (amount_of g spec.width ts) (amount_of g spec.width us) (amount_same g spec.width ts us s)

-- a conversion that shows trees that are the same as the same text
abbrev IsFair : RecData → (Form → Tree → List ℕ) → Type 0
IsFair g f = (form : Form) (t u : Tree) → meaning_of g t ≡ meaning_of g u → f form t ≡ f form u

abbrev SameText : RecData → List ℕ × List Tree → List ℕ × List Tree → Type 0
SameText g a b = (a.0 ≡ b.0) × AreSame g a.1 b.1

by_same : (g : RecData) (f : Form → Tree → List ℕ) (a b : Option Taken) → IsFair g f → SameTaken g a b → SameText g (by f a) (by f b)
by_same g f None None fair s = (refl, tt)
by_same g f (Some a) (Some b) fair s = (ap (λ (form : Form). f form a.1) s.0 ∙ fair b.0 a.1 b.1 s.1, s.2)
by_same g f None (Some b) fair s = absurd s
by_same g f (Some a) None fair s = absurd s

number_fair : (g : RecData) (long : ℕ) (size : Length) (base : Base) → IsFair g (number_text g long size base)
number_fair g long size base = λ form t u h.
    ap (λ (m : Meaning). let z = (cast_bits (bits_of size long) (is_signed base) m.number.exact).exact in integer_text base form (int_lt z (pos 0)) (unsigned_abs z)) h

letter_fair : (g : RecData) → IsFair g (letter_text g)
letter_fair g = λ form t u h. ap (λ (m : Meaning). padded form.left form.width (pattern m.number.exact % 2 ^ 8 ∷ [])) h

abbrev string_meant : Kind → Maps → Meaning → List ℕ
string_meant Number maps m = unwrap_or (first_at (pattern m.number.exact) maps.printk) (hexadecimal (pattern m.number.exact))
string_meant Text maps m = until_nul m.text
string_meant Bytes maps m = until_nul m.bytes

string_is : (k : Kind) (g : RecData) (maps : Maps) (t : Tree) → string_by k g maps t ≡ string_meant k maps (meaning_of g t)
string_is Number g maps t = refl
string_is Text g maps t = refl
string_is Bytes g maps t = refl

string_fair : (g : RecData) (maps : Maps) → IsFair g (string_text g maps)
string_fair g maps = λ form t u h.
    ap (λ (text : List ℕ). padded form.left form.width (cut_to form.precision text))
    (string_is (kind_of t) g maps t ∙ ap (λ (m : Meaning). string_meant m.kind maps m) h ∙ sym (string_is (kind_of u) g maps u))

abbrev address_meant : Kind → PointerForm → Maps → Meaning → List ℕ
address_meant Number p maps m = number_address p (pattern m.number.exact) maps
address_meant Text p maps m = bytes_address p m.text
address_meant Bytes p maps m = bytes_address p m.bytes

address_is : (k : Kind) (p : PointerForm) (g : RecData) (maps : Maps) (t : Tree) → address_by k p g maps t ≡ address_meant k p maps (meaning_of g t)
address_is Number p g maps t = refl
address_is Text p g maps t = refl
address_is Bytes p g maps t = refl

address_fair : (p : PointerForm) (g : RecData) (maps : Maps) (t u : Tree) → meaning_of g t ≡ meaning_of g u → address_text p g maps t ≡ address_text p g maps u
address_fair p g maps t u h =
    address_is (kind_of t) p g maps t ∙ ap (λ (m : Meaning). address_meant m.kind p maps m) h ∙ sym (address_is (kind_of u) p g maps u)

pointer_fair : (p : PointerForm) (g : RecData) (maps : Maps) → IsFair g (pointer_text p g maps)
pointer_fair p g maps = λ form t u h. ap (padded form.left form.width) (address_fair p g maps t u h)

one_same : (s : Source) (d : Directive) (ts us : List Tree) → AreSame s.given ts us → SameText s.given (printed_one s d ts) (printed_one s d us)
one_same s (directive.Literal start end) ts us same = (refl, same)
one_same s (directive.Number spec base) ts us same =
    by_same s.given (number_text s.given s.long spec.length base) (taken s.given spec ts) (taken s.given spec us) (number_fair s.given s.long spec.length base) (taken_same s.given spec ts us same)
one_same s (directive.Letter spec) ts us same =
    by_same s.given (letter_text s.given) (taken s.given spec ts) (taken s.given spec us) (letter_fair s.given) (taken_same s.given spec ts us same)
one_same s (directive.Text spec) ts us same =
    by_same s.given (string_text s.given s.maps) (taken s.given spec ts) (taken s.given spec us) (string_fair s.given s.maps) (taken_same s.given spec ts us same)
one_same s (directive.Pointer spec p) ts us same =
    by_same s.given (pointer_text p s.given s.maps) (taken s.given spec ts) (taken s.given spec us) (pointer_fair p s.given s.maps) (taken_same s.given spec ts us same)

all_same : (s : Source) (ds : List Directive) (ts us : List Tree) → AreSame s.given ts us → printed s ds ts ≡ printed s ds us
all_same s [] ts us same = refl
all_same s (d ∷ ds) ts us same =
    let a = printed_one s d ts in
    let b = printed_one s d us in
    let one = one_same s d ts us same in
    ap (λ (x : List ℕ). x ++ printed s ds a.1) one.0 ∙ ap (λ (x : List ℕ). b.0 ++ x) (all_same s ds a.1 b.1 one.1)

pub printed_same : (s : Source) (ds : List Directive) (ts us : List Tree) → map (meaning_of s.given) ts ≡ map (meaning_of s.given) us → printed s ds ts ≡ printed s ds us
printed_same s ds ts us e = all_same s ds ts us (same_each s.given ts us e)
