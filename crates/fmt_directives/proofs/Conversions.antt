-- Conversions: what is computed is what stands there.
use Rattle.std.proofs.Common.{◌≡◌, ℕ, ◌+◌, ◌<◌, ◌≤◌, List, ◌∷◌, ◌++◌, length, take, drop, Some, None, refl, sym, ap, subst, ◌∙◌, append_assoc, length-append, arith}
use Rattle.std.specs.List.{prefix_len, AllPass}
use Rattle.std.proofs.lemmas.List.{take_at, drop_at, drop-drop, take-append-drop, length-take-le}
use Rattle.std.proofs.lemmas.List.Sums.{prefix_len-le-length}
use Rattle.std.proofs.lemmas.Option.{option_and_then_some}
use Rattle.fmt_directives.specs.declared.directive.Amount.{Amount}
use Rattle.fmt_directives.specs.declared.directive.Directive.{Directive}
use Rattle.fmt_directives.specs.Bytes.{is_flag, BeginsOutside}
use Rattle.fmt_directives.specs.Directives.{IsConversion, Ends, length_text, spec_of}
use Rattle.fmt_directives.specs.Reading.{amount, precision, length_of, kind_of, conversion}
use Rattle.fmt_directives.proofs.Runs.{run_passes, run_exact, run_stops}
use Rattle.fmt_directives.proofs.Fronts.{pair, found_is, is_size, is_amount, is_precision, before_precision, before_size, before_kind, outside_less, no_amount, no_precision, no_size}
use Rattle.fmt_directives.proofs.Amounts.{amount_sound, amount_complete, amount_begins, no_zero, precision_sound, precision_complete, precision_begins}
use Rattle.fmt_directives.proofs.Lengths.{length_sound, length_complete, length_begins}
use Rattle.fmt_directives.proofs.KindRows.{kind_sound, kind_complete, kind_begins}

-- the parts of a conversion, by how many bytes each has
pub record Parts (bytes : List ℕ) (d : Directive) (n : ℕ) : Type 0 where
  pub f : ℕ
  pub w : ℕ
  pub p : ℕ
  pub k : ℕ
  pub width : Amount
  pub wanted : Amount
  pub f_is : prefix_len is_flag bytes ≡ f
  pub w_is : amount (drop f bytes) ≡ Some (pair width w)
  pub p_is : precision (drop (f + w) bytes) ≡ Some (pair wanted p)
  pub k_is : kind_of (spec_of (take f bytes) width wanted (length_of (drop (f + w + p) bytes)).0) (drop (f + w + p + (length_of (drop (f + w + p) bytes)).1) bytes) ≡ Some (pair d k)
  pub n_is : f + w + p + (length_of (drop (f + w + p) bytes)).1 + k ≡ n

parts_of : (bytes : List ℕ) (d : Directive) (n : ℕ) → conversion bytes ≡ Some (pair d n) → Parts bytes d n
unfolding conversion
parts_of bytes d n h =
    let f = prefix_len is_flag bytes in
    option_and_then_some _ (amount (drop f bytes)) (pair d n) h (λ w w_is h1.
    option_and_then_some _ (precision (drop (f + w.1) bytes)) (pair d n) h1 (λ p p_is h2.
    let l = length_of (drop (f + w.1 + p.1) bytes) in
    option_and_then_some _ (kind_of (spec_of (take f bytes) w.0 p.0 l.0) (drop (f + w.1 + p.1 + l.1) bytes)) (pair d n) h2 (λ k k_is found.
    found_is (λ d n. Parts bytes d n) k.0 d (f + w.1 + p.1 + l.1 + k.1) n found (record {
      f = f;
      w = w.1;
      p = p.1;
      k = k.1;
      width = w.0;
      wanted = p.0;
      f_is = refl;
      w_is = w_is;
      p_is = p_is;
      k_is = k_is;
      n_is = refl;
    }))))

from_parts : (bytes : List ℕ) (d : Directive) (n : ℕ) → Parts bytes d n → conversion bytes ≡ Some (pair d n)
unfolding conversion
from_parts bytes d n c = rw (c.f_is, c.w_is, c.p_is, c.k_is) (ap (λ m. Some (pair d m)) c.n_is)

pub record ConversionAt (bytes : List ℕ) (d : Directive) (n : ℕ) : Type 0 where
  pub some : 0 < n
  pub within : n ≤ length bytes
  pub spelling : List ℕ
  pub rest : List ℕ
  pub whole : bytes ≡ spelling ++ rest
  pub is : IsConversion spelling d
  pub ends : Ends d rest
  pub long : n ≡ length spelling

cut : (n m : ℕ) (bytes : List ℕ) → drop n bytes ≡ take m (drop n bytes) ++ drop (n + m) bytes
cut n m bytes = sym (take-append-drop m (drop n bytes)) ∙ ap (λ rest. take m (drop n bytes) ++ rest) (drop-drop m n bytes)

abbrev five : List ℕ → List ℕ → List ℕ → List ℕ → List ℕ → List ℕ
five a b c d e = a ++ (b ++ (c ++ (d ++ e)))

regroup : (a b c d e rest : List ℕ) → a ++ (b ++ (c ++ (d ++ (e ++ rest)))) ≡ five a b c d e ++ rest
regroup a b c d e rest = simp append_assoc

cut_five : (bytes : List ℕ) (f w p l k : ℕ) → bytes ≡ five (take f bytes) (take w (drop f bytes)) (take p (drop (f + w) bytes)) (take l (drop (f + w + p) bytes)) (take k (drop (f + w + p + l) bytes)) ++ drop (f + w + p + l + k) bytes
cut_five bytes f w p l k =
    let a = take f bytes in
    let b = take w (drop f bytes) in
    let c = take p (drop (f + w) bytes) in
    let d = take l (drop (f + w + p) bytes) in
    let e = take k (drop (f + w + p + l) bytes) in
    sym (take-append-drop f bytes)
    ∙ ap (λ r. a ++ r) (cut f w bytes ∙ ap (λ r. b ++ r) (cut (f + w) p bytes ∙ ap (λ r. c ++ r) (cut (f + w + p) l bytes ∙ ap (λ r. d ++ r) (cut (f + w + p + l) k bytes))))
    ∙ regroup a b c d e (drop (f + w + p + l + k) bytes)

length_five : (a b c d e : List ℕ) → length (five a b c d e) ≡ length a + length b + length c + length d + length e
length_five a b c d e = simp length-append (omega arith)

pub conversion_sound : (bytes : List ℕ) (d : Directive) (n : ℕ) → conversion bytes ≡ Some (pair d n) → ConversionAt bytes d n
conversion_sound bytes d n h =
    let c = parts_of bytes d n h in
    let l = length_of (drop (c.f + c.w + c.p) bytes) in
    let flags_within : c.f ≤ length bytes = omega (arith, prefix_len-le-length is_flag bytes, c.f_is) in
    let width_at = amount_sound (drop c.f bytes) c.width c.w c.w_is in
    let precision_at = precision_sound (drop (c.f + c.w) bytes) c.wanted c.p c.p_is in
    let length_at = length_sound (drop (c.f + c.w + c.p) bytes) in
    let kind_at = kind_sound (spec_of (take c.f bytes) c.width c.wanted l.0) (drop (c.f + c.w + c.p + l.1) bytes) d c.k c.k_is in
    let a = take c.f bytes in
    let b = take c.w (drop c.f bytes) in
    let e = take c.p (drop (c.f + c.w) bytes) in
    let g = take l.1 (drop (c.f + c.w + c.p) bytes) in
    let k = take c.k (drop (c.f + c.w + c.p + l.1) bytes) in
    let long : n ≡ length (five a b e g k) = omega (
      arith,
      c.n_is,
      length_five a b e g k,
      length-take-le c.f bytes flags_within,
      length-take-le c.w (drop c.f bytes) width_at.within,
      length-take-le c.p (drop (c.f + c.w) bytes) precision_at.within,
      length-take-le l.1 (drop (c.f + c.w + c.p) bytes) length_at.within,
      length-take-le c.k (drop (c.f + c.w + c.p + l.1) bytes) kind_at.within,
    ) in
    let rest = drop (c.f + c.w + c.p + l.1 + c.k) bytes in
    let whole : bytes ≡ five a b e g k ++ rest = cut_five bytes c.f c.w c.p l.1 c.k in
    record {
      some = omega (arith, c.n_is, kind_at.some);
      within = omega (arith, long, ap length whole, length-append (five a b e g k) rest);
      spelling = five a b e g k;
      rest = rest;
      whole = whole;
      is = record {
        flags = a;
        width_text = b;
        width = c.width;
        precision_text = e;
        precision = c.wanted;
        length = l.0;
        kind_text = k;
        whole = ap (λ t. five a b e t k) length_at.is;
        flags_are = subst (λ m. AllPass is_flag (take m bytes)) c.f_is (run_passes is_flag bytes);
        width_is = width_at.is;
        no_zero = no_zero (drop c.f bytes) c.w (subst (λ m. BeginsOutside is_flag (drop m bytes)) c.f_is (run_stops is_flag bytes));
        precision_is = precision_at.is;
        kind_is = kind_at.is;
      };
      ends = subst (Ends d) (drop-drop c.k (c.f + c.w + c.p + l.1) bytes) kind_at.ends;
      long = long;
    }

pub conversion_complete : (spelling : List ℕ) (d : Directive) (rest : List ℕ) → IsConversion spelling d → Ends d rest → conversion (spelling ++ rest) ≡ Some (pair d (length spelling))
conversion_complete spelling d rest c ends =
    let r4 = c.kind_text ++ rest in
    let r3 = length_text c.length ++ r4 in
    let r2 = c.precision_text ++ r3 in
    let r1 = c.width_text ++ r2 in
    let bytes = c.flags ++ r1 in
    let whole : spelling ++ rest ≡ bytes = ap (λ t. t ++ rest) c.whole ∙ sym (regroup c.flags c.width_text c.precision_text (length_text c.length) c.kind_text rest) in
    let out4 = kind_begins (spec_of c.flags c.width c.precision c.length) c.kind_text d rest c.kind_is in
    let out3 = length_begins c.length r4 out4 in
    let out2 = precision_begins c.precision_text c.precision r3 c.precision_is out3 in
    let out1 = amount_begins c.width_text c.width r2 c.width_is c.no_zero out2 in
    let f = length c.flags in
    let w = length c.width_text in
    let p = length c.precision_text in
    let l = length (length_text c.length) in
    let k = length c.kind_text in
    let d1 : drop f bytes ≡ r1 = drop_at c.flags r1 f refl in
    let d2 : drop (f + w) bytes ≡ r2 = sym (drop-drop w f bytes) ∙ ap (drop w) d1 ∙ drop_at c.width_text r2 w refl in
    let d3 : drop (f + w + p) bytes ≡ r3 = sym (drop-drop p (f + w) bytes) ∙ ap (drop p) d2 ∙ drop_at c.precision_text r3 p refl in
    let d4 : drop (f + w + p + l) bytes ≡ r4 = sym (drop-drop l (f + w + p) bytes) ∙ ap (drop l) d3 ∙ drop_at (length_text c.length) r4 l refl in
    let size : length_of (drop (f + w + p) bytes) ≡ (c.length, l) = ap length_of d3 ∙ length_complete c.length r4 (outside_less is_size before_kind r4 no_size out4) in
    let kind : kind_of (spec_of (take f bytes) c.width c.precision (length_of (drop (f + w + p) bytes)).0) (drop (f + w + p + (length_of (drop (f + w + p) bytes)).1) bytes) ≡ Some (pair d k)
    = ap (λ m. kind_of (spec_of (take f bytes) c.width c.precision m.0) (drop (f + w + p + m.1) bytes)) size
    ∙ ap (λ t. kind_of (spec_of t c.width c.precision c.length) (drop (f + w + p + l) bytes)) (take_at c.flags r1 f refl)
    ∙ ap (kind_of (spec_of c.flags c.width c.precision c.length)) d4
    ∙ kind_complete (spec_of c.flags c.width c.precision c.length) c.kind_text d rest c.kind_is ends in
    ap conversion whole ∙ from_parts bytes d (length spelling) (record {
      f = f;
      w = w;
      p = p;
      k = k;
      width = c.width;
      wanted = c.precision;
      f_is = run_exact is_flag c.flags r1 c.flags_are out1;
      w_is = ap amount d1 ∙ amount_complete c.width_text c.width r2 c.width_is (outside_less is_amount before_precision r2 no_amount out2);
      p_is = ap precision d2 ∙ precision_complete c.precision_text c.precision r3 c.precision_is (outside_less is_precision before_size r3 no_precision out3);
      k_is = kind;
      n_is = omega (arith, ap length c.whole, length_five c.flags c.width_text c.precision_text (length_text c.length) c.kind_text, ap (λ m. m.1) size);
    })

-- no conversion begins with a percent sign
pub no_percent : (bytes : List ℕ) → conversion (37 ∷ bytes) ≡ None
unfolding conversion amount precision kind_of
no_percent bytes = refl
