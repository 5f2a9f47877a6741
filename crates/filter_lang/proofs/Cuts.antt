-- A token stays what it is where a blank follows it in place of what did.
use Rattle.std.proofs.Common.{◌≡◌, ℕ, suc, ◌+◌, ◌<◌, ◌≤◌, Bool, true, false, not, ◌&&◌, ◌||◌, ◌==◌, if◌then◌else◌, nat_lt, List, [], ◌∷◌, ◌++◌, length, take, Option, Some, None, refl, ap, ap₂, sym, ◌∙◌, arith}
use Rattle.std.specs.List.{prefix_len}
use Rattle.std.specs.Char.{is_ascii_digit}
use Rattle.std.proofs.lemmas.Bool.{lt-ltb, ltb-true}
use Rattle.std.proofs.lemmas.List.{take-append-le, length-append}
use Rattle.std.proofs.lemmas.List.Sums.{prefix_len-le-length}
use Rattle.c_operators.specs.Operators.{op_of}
use Rattle.byte_classes.specs.Bytes.{is_word}
use Rattle.fmt_lexer.specs.Bytes.{quote, apostrophe}
use Rattle.filter_lang.specs.PlainToken.{PlainToken, name, comma, slash, colon, identifier, mark, quoted, digits}
use Rattle.filter_lang.specs.Lexing.{is_name_byte, Cut, number_in, number_cut, text_cut, long_at, short_at, marked, before_colon, behind_colon, token_in}
use Rattle.c_operators.specs.declared.binary.BinaryOp.{BinaryOp}

abbrev pub cut : PlainToken → ℕ → Cut
cut t n = (t, n)

len_is : (t u : PlainToken) (n m : ℕ) → Some (cut t n) ≡ Some (cut u m) → n ≡ m
len_is t u n m e = let same : cut t n ≡ cut u m = cc in ap (λ (x : Cut). x.1) same

-- a run that ends in the front, or at its end
run_by : (p : ℕ → Bool) (y : ℕ) (b : Bool) (front tail back : List ℕ) → p y ≡ b → (prefix_len p (front ++ tail) ≤ length front → prefix_len p (front ++ back) ≡ prefix_len p (front ++ tail))
    → prefix_len p (y ∷ front ++ tail) ≤ length (y ∷ front) → prefix_len p (y ∷ front ++ back) ≡ prefix_len p (y ∷ front ++ tail)
run_by p y true front tail back e more le = let le' : 1 + prefix_len p (front ++ tail) ≤ length (y ∷ front) = rw e at le in rw e (ap (λ n. 1 + n) (more (omega arith)))
run_by p y false front tail back e more le = rw e refl

pub run_again : (p : ℕ → Bool) (x : ℕ) (front tail more : List ℕ) → p x ≡ false → prefix_len p (front ++ tail) ≤ length front → prefix_len p (front ++ x ∷ more) ≡ prefix_len p (front ++ tail)
run_again p x [] tail more e le = let none : prefix_len p (x ∷ more) ≡ 0 = rw e refl in omega arith
run_again p x (y ∷ front) tail more e le = run_by p y (p y) front tail (x ∷ more) refl (run_again p x front tail more e) le

inside_by : (p : ℕ → Bool) (y : ℕ) (b : Bool) (front tail back : List ℕ) → p y ≡ b → (prefix_len p (front ++ tail) < length front → prefix_len p (front ++ back) ≡ prefix_len p (front ++ tail))
    → prefix_len p (y ∷ front ++ tail) < length (y ∷ front) → prefix_len p (y ∷ front ++ back) ≡ prefix_len p (y ∷ front ++ tail)
inside_by p y true front tail back e more lt = let lt' : 1 + prefix_len p (front ++ tail) < length (y ∷ front) = rw e at lt in rw e (ap (λ n. 1 + n) (more (omega arith)))
inside_by p y false front tail back e more lt = rw e refl

pub inside_again : (p : ℕ → Bool) (front tail back : List ℕ) → prefix_len p (front ++ tail) < length front → prefix_len p (front ++ back) ≡ prefix_len p (front ++ tail)
inside_again p [] tail back lt = absurd (omega arith)
inside_again p (y ∷ front) tail back lt = inside_by p y (p y) front tail back refl (inside_again p front tail back) lt

-- the bytes that are taken are the front's
taken_again : (front tail back : List ℕ) (n m : ℕ) → n ≤ length front → m ≡ n → take m (front ++ back) ≡ take n (front ++ tail)
taken_again front tail back n m le e = ap (λ (k : ℕ). take k (front ++ back)) e ∙ take-append-le n front back le ∙ sym (take-append-le n front tail le)

abbrev before_by : Bool → Bool → Bool → ℕ → List ℕ → Option Cut
before_by a s b c bytes =
    if a then Some (comma, 0)
    else (if s then Some (slash, 0)
    else (if b then Some (colon, 0)
    else (let n = prefix_len is_name_byte bytes in Some (name (c ∷ take n bytes), n))))

again_before : (a s b : Bool) (c : ℕ) (front tail more : List ℕ) (t : PlainToken) (n : ℕ) → before_by a s b c (front ++ tail) ≡ Some (t, n) → n ≤ length front → before_by a s b c (front ++ 32 ∷ more) ≡ Some (t, n)
again_before true s b c front tail more t n e le = e
again_before false true b c front tail more t n e le = e
again_before false false true c front tail more t n e le = e
again_before false false false c front tail more t n e le =
    let m : ℕ = prefix_len is_name_byte (front ++ tail) in
    let k : ℕ = prefix_len is_name_byte (front ++ 32 ∷ more) in
    let is : m ≡ n = len_is (name (c ∷ take m (front ++ tail))) t m n e in
    let fits : m ≤ length front = omega arith in
    let same : k ≡ m = run_again is_name_byte 32 front tail more refl fits in
    ap₂ (λ (ys : List ℕ) (j : ℕ). Some (cut (name (c ∷ ys)) j)) (taken_again front tail (32 ∷ more) m k fits same) same ∙ e

number_len : (o : Option ℕ) (m n : ℕ) (t : PlainToken) → number_cut m o ≡ Some (t, n) → m ≡ n
number_len None m n t e = absurd cc
number_len (Some v) m n t e = len_is (digits v) t m n e

text_by : (b : Bool) (bytes : List ℕ) (m n : ℕ) (t : PlainToken) → (if b then Some (cut (quoted (take m bytes)) (m + 1)) else None) ≡ Some (t, n) → (b ≡ true) × (m + 1 ≡ n)
text_by true bytes m n t e = (refl, len_is (quoted (take m bytes)) t (m + 1) n e)
text_by false bytes m n t e = absurd cc

again_text : (q : ℕ) (front tail more : List ℕ) (t : PlainToken) (n : ℕ) → text_cut q (front ++ tail) ≡ Some (t, n) → n ≤ length front → text_cut q (front ++ 32 ∷ more) ≡ Some (t, n)
again_text q front tail more t n e le =
    let p : ℕ → Bool = λ c. not (c == q) in
    let m : ℕ = prefix_len p (front ++ tail) in
    let k : ℕ = prefix_len p (front ++ 32 ∷ more) in
    let is = text_by (nat_lt m (length (front ++ tail))) (front ++ tail) m n t e in
    let fits : m < length front = omega (arith, is.1) in
    let same : k ≡ m = inside_again p front tail (32 ∷ more) fits in
    let there : nat_lt k (length (front ++ 32 ∷ more)) ≡ true = lt-ltb _ _ (omega (arith, same, fits, length-append front (32 ∷ more))) in
    rw there (ap₂ (λ (ys : List ℕ) (j : ℕ). Some (cut (quoted ys) (j + 1))) (taken_again front tail (32 ∷ more) m k (omega arith) same) same ∙ (rw is.0 at e))

and_none : (a : Bool) → (a && false) ≡ false
and_none true = refl
and_none false = refl

blank_ends : (c : ℕ) (more : List ℕ) → long_at c (32 ∷ more) ≡ None
unfolding long_at op_of
blank_ends c more = simp and_none

marked_len : (op : BinaryOp) (o : Option PlainToken) (t : PlainToken) (n : ℕ) → marked (Some op) o ≡ Some (t, n) → 1 ≡ n
marked_len op o t n e = len_is (mark op) t 1 n e

again_marked : (c : ℕ) (tail more : List ℕ) (o : Option BinaryOp) (t : PlainToken) (n : ℕ) → marked o (short_at c) ≡ Some (t, n) → n ≤ 0 → marked (long_at c (32 ∷ more)) (short_at c) ≡ Some (t, n)
again_marked c tail more None t n e le = ap (λ (o : Option BinaryOp). marked o (short_at c)) (blank_ends c more) ∙ e
again_marked c tail more (Some op) t n e le = absurd (omega (arith, marked_len op (short_at c) t n e))

long_same : (c d : ℕ) (bytes back : List ℕ) → long_at c (d ∷ bytes) ≡ long_at c (d ∷ back)
unfolding long_at
long_same c d bytes back = refl

again_mark : (c : ℕ) (front tail more : List ℕ) (t : PlainToken) (n : ℕ) → marked (long_at c (front ++ tail)) (short_at c) ≡ Some (t, n) → n ≤ length front → marked (long_at c (front ++ 32 ∷ more)) (short_at c) ≡ Some (t, n)
again_mark c [] tail more t n e le = again_marked c tail more (long_at c tail) t n e le
again_mark c (d ∷ front) tail more t n e le = ap (λ (o : Option BinaryOp). marked o (short_at c)) (long_same c d (front ++ 32 ∷ more) (front ++ tail)) ∙ e

abbrev behind_by : Bool → Bool → Bool → ℕ → List ℕ → Option Cut
behind_by a w q c bytes =
    let n = prefix_len is_word bytes in
    if a then number_cut n (number_in (c ∷ take n bytes))
    else (if w then Some (identifier (c ∷ take n bytes), n)
    else (if q then text_cut c bytes
    else marked (long_at c bytes) (short_at c)))

again_behind : (a w q : Bool) (c : ℕ) (front tail more : List ℕ) (t : PlainToken) (n : ℕ) → behind_by a w q c (front ++ tail) ≡ Some (t, n) → n ≤ length front → behind_by a w q c (front ++ 32 ∷ more) ≡ Some (t, n)
again_behind true w q c front tail more t n e le =
    let m : ℕ = prefix_len is_word (front ++ tail) in
    let k : ℕ = prefix_len is_word (front ++ 32 ∷ more) in
    let is : m ≡ n = number_len (number_in (c ∷ take m (front ++ tail))) m n t e in
    let fits : m ≤ length front = omega arith in
    let same : k ≡ m = run_again is_word 32 front tail more refl fits in
    ap₂ (λ (ys : List ℕ) (j : ℕ). number_cut j (number_in (c ∷ ys))) (taken_again front tail (32 ∷ more) m k fits same) same ∙ e
again_behind false true q c front tail more t n e le =
    let m : ℕ = prefix_len is_word (front ++ tail) in
    let k : ℕ = prefix_len is_word (front ++ 32 ∷ more) in
    let is : m ≡ n = len_is (identifier (c ∷ take m (front ++ tail))) t m n e in
    let fits : m ≤ length front = omega arith in
    let same : k ≡ m = run_again is_word 32 front tail more refl fits in
    ap₂ (λ (ys : List ℕ) (j : ℕ). Some (cut (identifier (c ∷ ys)) j)) (taken_again front tail (32 ∷ more) m k fits same) same ∙ e
again_behind false false true c front tail more t n e le = again_text c front tail more t n e le
again_behind false false false c front tail more t n e le = again_mark c front tail more t n e le

-- a token is the same before a blank
pub token_again : (b : Bool) (c : ℕ) (front tail more : List ℕ) (t : PlainToken) (n : ℕ) → token_in b (c ∷ front ++ tail) ≡ Some (t, n) → n ≤ length front → token_in b (c ∷ front ++ 32 ∷ more) ≡ Some (t, n)
unfolding before_colon behind_colon
token_again false c front tail more t n e le = again_before (c == 44) (c == 47) (c == 58) c front tail more t n e le
token_again true c front tail more t n e le = again_behind (is_ascii_digit c) (is_word c) (c == quote || c == apostrophe) c front tail more t n e le

-- a token lies in its text
in_before : (a s b : Bool) (c : ℕ) (bytes : List ℕ) (t : PlainToken) (n : ℕ) → before_by a s b c bytes ≡ Some (t, n) → n ≤ length bytes
in_before true s b c bytes t n e = omega (arith, len_is comma t 0 n e)
in_before false true b c bytes t n e = omega (arith, len_is slash t 0 n e)
in_before false false true c bytes t n e = omega (arith, len_is colon t 0 n e)
in_before false false false c bytes t n e =
    let m : ℕ = prefix_len is_name_byte bytes in
    omega (arith, len_is (name (c ∷ take m bytes)) t m n e, prefix_len-le-length is_name_byte bytes)

in_text : (q : ℕ) (bytes : List ℕ) (t : PlainToken) (n : ℕ) → text_cut q bytes ≡ Some (t, n) → n ≤ length bytes
in_text q bytes t n e =
    let m : ℕ = prefix_len (λ c. not (c == q)) bytes in
    let is = text_by (nat_lt m (length bytes)) bytes m n t e in
    omega (arith, is.1, ltb-true _ _ is.0)

short_len : (o : Option PlainToken) (t : PlainToken) (n : ℕ) → marked None o ≡ Some (t, n) → 0 ≡ n
short_len None t n e = absurd cc
short_len (Some u) t n e = len_is u t 0 n e

in_marked : (o : Option BinaryOp) (s : Option PlainToken) (k : ℕ) (t : PlainToken) (n : ℕ) → marked o s ≡ Some (t, n) → n ≤ suc k
in_marked None s k t n e = omega (arith, short_len s t n e)
in_marked (Some op) s k t n e = omega (arith, marked_len op s t n e)

never_long : (c : ℕ) → long_at c [] ≡ None
unfolding long_at
never_long c = refl

in_mark : (c : ℕ) (bytes : List ℕ) (t : PlainToken) (n : ℕ) → marked (long_at c bytes) (short_at c) ≡ Some (t, n) → n ≤ length bytes
in_mark c [] t n e = omega (arith, short_len (short_at c) t n (ap (λ (o : Option BinaryOp). marked o (short_at c)) (sym (never_long c)) ∙ e))
in_mark c (d ∷ bytes) t n e = in_marked (long_at c (d ∷ bytes)) (short_at c) (length bytes) t n e

in_behind : (a w q : Bool) (c : ℕ) (bytes : List ℕ) (t : PlainToken) (n : ℕ) → behind_by a w q c bytes ≡ Some (t, n) → n ≤ length bytes
in_behind true w q c bytes t n e =
    let m : ℕ = prefix_len is_word bytes in
    omega (arith, number_len (number_in (c ∷ take m bytes)) m n t e, prefix_len-le-length is_word bytes)
in_behind false true q c bytes t n e =
    let m : ℕ = prefix_len is_word bytes in
    omega (arith, len_is (identifier (c ∷ take m bytes)) t m n e, prefix_len-le-length is_word bytes)
in_behind false false true c bytes t n e = in_text c bytes t n e
in_behind false false false c bytes t n e = in_mark c bytes t n e

pub token_inside : (b : Bool) (c : ℕ) (bytes : List ℕ) (t : PlainToken) (n : ℕ) → token_in b (c ∷ bytes) ≡ Some (t, n) → n ≤ length bytes
unfolding before_colon behind_colon
token_inside false c bytes t n e = in_before (c == 44) (c == 47) (c == 58) c bytes t n e
token_inside true c bytes t n e = in_behind (is_ascii_digit c) (is_word c) (c == quote || c == apostrophe) c bytes t n e
