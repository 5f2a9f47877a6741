-- Each item of a header is read as it is spelled, or is wrong as its kind says.
use Rattle.std.proofs.Common.{◌≡◌, ℕ, ◌+◌, ◌^◌, ◌<◌, ◌≤◌, Bool, true, false, cond, ◌||◌, eqb, ltb, List, [], ◌∷◌, ◌++◌, length, take, drop, Option, None, Some, Result, Ok, Err, refl, sym, ap, subst, ◌∙◌, ◌⊎◌, inl, inr, arith}
use Rattle.std.proofs.Math.Pow.{pow_mono}
use Rattle.std.proofs.lemmas.Bool.{cases_Bool, cases_lt, le-ltb, lt-ltb, ltb-false, eqb-true, false≢true}
use Rattle.std.proofs.lemmas.List.{length-drop, length-take, take_at, take-append-drop, drop-drop}
use Rattle.std.proofs.lemmas.Slice.Eq.{bytes_eq-Decides}
use Rattle.trace_base.specs.Number.{num, bytes_of}
use Rattle.trace_base.specs.declared.order.Order.{Order}
use Rattle.trace_base.specs.declared.order.Order.TheVariants.{Little, Big}
use Rattle.dat_options.specs.declared.fault.OpenFault.{OpenFault}
use Rattle.dat_options.specs.declared.fault.OpenFault.TheVariants.{Truncated, BadEndian, BadLong, BadPageSize, TooManyCpus}
use Rattle.dat_options.proofs.Numbers.{limit}
use Rattle.dat_options.proofs.Steps.{some_is}
use Rattle.dat_header.specs.Allowed.{IsLong, IsPageSize}
use Rattle.dat_header.specs.Items.{Kind, value, carried, order_byte}
use Rattle.dat_header.specs.Refusal.{begins_with, word_fault, fault_at}
use Rattle.dat_header.specs.ItemsAt.{word_at, number_at, bytes_at, value_at, order_of, long_of, page_of, cpus_of}
use Rattle.dat_header.specs.Found.{Found, ◌>>=◌}
use Rattle.dat_options.specs.Place.{AreBytes}
use Rattle.dat_header.proofs.Values.{checked_is, checked_not, page_known, page_allowed, IsListed}
use Rattle.dat_header.proofs.ReadPieces.{bytes_found, bytes_short}
use Rattle.dat_header.proofs.Grammar.{Reads, Stands, found_value, err_or_ok, at_ok, at_err, not_both, same_value, same_fault}
use Rattle.dat_header.proofs.Wrongs.{Right, one_item, right_item}
use Rattle.dat_header.proofs.Texts.{EndsEarly, reads_number}

pub number_long : (width : ℕ) (order : Order) (file : List ℕ) (at : ℕ) → at + width ≤ length file → number_at width order file at ≡ Ok (num order (take width (drop at file)), at + width)
unfolding number_at
number_long width order file at within = at_ok (bytes_at width file at) (λ found. Ok (num order found.0, found.1)) (take width (drop at file)) (at + width) (bytes_found width at file within)

pub number_short : (width : ℕ) (order : Order) (file : List ℕ) (at : ℕ) → at ≤ length file → length file < at + width → number_at width order file at ≡ Err (Truncated (length file))
unfolding number_at
number_short width order file at within short = at_err (bytes_at width file at) (λ found. Ok (num order found.0, found.1)) (Truncated (length file)) (bytes_short width at file within short)

pub options_of : {V : Type 0} (found : Option V) → (found ≡ None) ⊎ ((v : V) × (found ≡ Some v))
options_of None = inl refl
options_of (Some v) = inr (v, refl)

-- an item whose number has to stand for a value
module _ {V : Type 0} (width : ℕ) (order : Order) (value_of : ℕ → Option V) (wrong : ℕ → OpenFault) (spell : V → List ℕ) (allowed : V → Type 0) (back : V → ℕ) where
  abbrev read_value : List ℕ → ℕ → Found V
  read_value file at = value_at width order value_of (wrong at) file at

  abbrev pub Fits : Type 0
  Fits = (v : V) → allowed v → (back v < limit width) × (spell v ≡ bytes_of order width (back v)) × (value_of (back v) ≡ Some v)

  abbrev pub Known : Type 0
  Known = (number : ℕ) (v : V) → value_of number ≡ Some v → allowed v × (back v ≡ number)

  value_reads : Fits → Known → Reads spell allowed read_value
  unfolding value_at
  value_reads fits known = record {
    again = λ file at v rest within is here.
        let fit = fits v is in
        let number = (reads_number width order).again file at (back v) rest within fit.0 (here ∙ ap (λ (t : List ℕ). t ++ rest) fit.1) in
        at_ok (number_at width order file at) _ (back v) (at + length (bytes_of order width (back v))) number
        ∙ checked_is (wrong at) (value_of (back v)) (λ x. Ok (x, at + length (bytes_of order width (back v)))) v fit.2
        ∙ ap (λ (t : List ℕ). found_value v (at + length t)) (sym fit.1);
    sound = λ file at v end bytes within e. elim (err_or_ok (number_at width order file at)) [
      | inl bad ↦ absurd (not_both _ (v, end) bad.0 e (at_err (number_at width order file at) _ bad.0 bad.1))
      | inr found ↦
          let stands = (reads_number width order).sound file at found.0 found.1 bytes within found.2 in
          let after = sym (at_ok (number_at width order file at) _ found.0 found.1 found.2) ∙ e in
          elim (options_of (value_of found.0)) [
            | inl none ↦ absurd (not_both _ (v, end) (wrong at) after (checked_not (wrong at) (value_of found.0) (λ x. Ok (x, found.1)) none))
            | inr some ↦
                let same = same_value _ some.0 v found.1 end (checked_is (wrong at) (value_of found.0) (λ x. Ok (x, found.1)) some.0 some.1) after in
                let is = known found.0 some.0 some.1 in
                let fit = fits some.0 is.0 in
                let spelled : spell some.0 ≡ bytes_of order width found.0 = fit.1 ∙ ap (bytes_of order width) is.1 in
                let P : V → Type 0 = λ x. Stands spell allowed file at x end in
                subst P same.0 (record {
                  is = is.0;
                  here = stands.here ∙ ap (λ (n : ℕ). bytes_of order width found.0 ++ drop n file) same.1 ∙ ap (λ (t : List ℕ). t ++ drop end file) (sym spelled);
                  place = omega (arith, same.1, stands.place, ap length spelled);
                  inside = omega (arith, same.1, stands.inside);
                })
          ]
    ];
  }

  value_fails : (file : List ℕ) (at : ℕ) (fault : OpenFault) → AreBytes file → at ≤ length file → read_value file at ≡ Err fault → fault ≡ fault_at (value width wrong) file at
  unfolding value_at
  value_fails file at fault bytes within e = elim (cases_lt (length file) (at + width)) [
    | inl short ↦
        let few : ltb (length (drop at file)) width ≡ true = lt-ltb _ _ (omega (arith, short, length-drop at file)) in
        same_fault _ fault (Truncated (length file)) e (at_err (number_at width order file at) _ (Truncated (length file)) (number_short width order file at within short))
        ∙ ap (λ (b : Bool). cond b (Truncated (length file)) (wrong at)) (sym few)
    | inr enough ↦
        let number = num order (take width (drop at file)) in
        let many : ltb (length (drop at file)) width ≡ false = le-ltb _ _ (omega (arith, enough, length-drop at file)) in
        let after = sym (at_ok (number_at width order file at) _ number (at + width) (number_long width order file at enough)) ∙ e in
        elim (options_of (value_of number)) [
          | inl none ↦
              same_fault _ fault (wrong at) after (checked_not (wrong at) (value_of number) (λ x. Ok (x, at + width)) none) ∙ ap (λ (b : Bool). cond b (Truncated (length file)) (wrong at)) (sym many)
          | inr some ↦ absurd (not_both _ (some.0, at + width) fault (checked_is (wrong at) (value_of number) (λ x. Ok (x, at + width)) some.0 some.1) after)
        ]
  ]

  pub right_value : (some : V) → allowed some → Fits → Known → Right (one_item (value width wrong) spell) allowed read_value
  right_value some is fits known = right_item (value width wrong) spell allowed read_value some is (value_reads fits known) value_fails

chosen : {V : Type 0} (test : Bool) (one two : Option V) (v : V) → cond test one two ≡ Some v → ((test ≡ true) × (one ≡ Some v)) ⊎ ((test ≡ false) × (two ≡ Some v))
chosen true one two v e = inl (refl, e)
chosen false one two v e = inr (refl, e)

abbrev AnyOrder : Order → Type 0
AnyOrder order = Unit {0}

order_fits : Fits 1 Little order_of BadEndian (λ order. order_byte order ∷ []) AnyOrder order_byte
order_fits Little is = (omega arith, refl, refl)
order_fits Big is = (omega arith, refl, refl)

order_known : Known 1 Little order_of BadEndian (λ order. order_byte order ∷ []) AnyOrder order_byte
order_known number order e = (
  tt,
  elim (chosen (eqb number 0) (Some Little) (cond (eqb number 1) (Some Big) None) order e) [
    | inl zero_byte ↦ ap order_byte (sym (some_is Little order zero_byte.1)) ∙ sym (eqb-true number 0 zero_byte.0)
    | inr other ↦ elim (chosen (eqb number 1) (Some Big) None order other.1) [
      | inl one_byte ↦ ap order_byte (sym (some_is Big order one_byte.1)) ∙ sym (eqb-true number 1 one_byte.0)
      | inr none ↦ let never = none.1 in absurd (cc)
    ]
  ],
)

pub right_order : Right (one_item (value 1 BadEndian) (λ order. order_byte order ∷ [])) AnyOrder (λ file at. value_at 1 Little order_of (BadEndian at) file at)
right_order = right_value 1 Little order_of BadEndian (λ order. order_byte order ∷ []) AnyOrder order_byte Little tt order_fits order_known

either_true : (one two : Bool) → (one || two) ≡ true → (one ≡ true) ⊎ (two ≡ true)
either_true true two e = inl refl
either_true false two e = inr e

long_fits : Fits 1 Little long_of BadLong (λ long. long ∷ []) IsLong (λ long. long)
long_fits long (inl four) = let P : ℕ → Type 0 = λ n. (n < 256) × (n ∷ [] ≡ bytes_of Little 1 n) × (long_of n ≡ Some n) in let here : P 4 = (omega arith, refl, refl) in subst P (sym four) here
long_fits long (inr eight) = let P : ℕ → Type 0 = λ n. (n < 256) × (n ∷ [] ≡ bytes_of Little 1 n) × (long_of n ≡ Some n) in let here : P 8 = (omega arith, refl, refl) in subst P (sym eight) here

long_of_known : Known 1 Little long_of BadLong (λ long. long ∷ []) IsLong (λ long. long)
long_of_known number long e = elim (chosen (eqb number 4 || eqb number 8) (Some number) None long e) [
  | inl passed ↦
      let same = some_is number long passed.1 in
      let is : IsLong number = elim (either_true (eqb number 4) (eqb number 8) passed.0) [ inl four ↦ inl (eqb-true number 4 four) | inr eight ↦ inr (eqb-true number 8 eight) ] in
      (subst IsLong same is, sym same)
  | inr failed ↦ let never = failed.1 in absurd (cc)
]

pub right_long : Right (one_item (value 1 BadLong) (λ long. long ∷ [])) IsLong (λ file at. value_at 1 Little long_of (BadLong at) file at)
right_long = right_value 1 Little long_of BadLong (λ long. long ∷ []) IsLong (λ long. long) 4 (inl refl) long_fits long_of_known

power_listed : (power page : ℕ) → 12 ≤ power → power ≤ 16 → page ≡ 2 ^ power → IsListed page
power_listed power page least most is = elim (cases_lt power 13) [
  | inl a ↦ inl (is ∙ ap (λ (n : ℕ). 2 ^ n) (let e : power ≡ 12 = omega (arith, a, least) in e))
  | inr a ↦ inr (elim (cases_lt power 14) [
    | inl b ↦ inl (is ∙ ap (λ (n : ℕ). 2 ^ n) (let e : power ≡ 13 = omega (arith, a, b) in e))
    | inr b ↦ inr (elim (cases_lt power 15) [
      | inl c ↦ inl (is ∙ ap (λ (n : ℕ). 2 ^ n) (let e : power ≡ 14 = omega (arith, b, c) in e))
      | inr c ↦ inr (elim (cases_lt power 16) [
        | inl d ↦ inl (is ∙ ap (λ (n : ℕ). 2 ^ n) (let e : power ≡ 15 = omega (arith, c, d) in e))
        | inr d ↦ inr (is ∙ ap (λ (n : ℕ). 2 ^ n) (let e : power ≡ 16 = omega (arith, d, most) in e))
      ])
    ])
  ])
]

page_fits : (order : Order) → Fits 4 order page_of BadPageSize (bytes_of order 4) IsPageSize (λ page. page)
page_fits order page is =
    (omega (arith, is.3, pow_mono is.2), refl, page_known page (power_listed is.0 page is.1 is.2 is.3))

listed_is : (number : ℕ) → (eqb number 4096 || (eqb number 8192 || (eqb number 16384 || (eqb number 32768 || (eqb number 65536 || false))))) ≡ true → IsListed number
listed_is number e = elim (either_true _ _ e) [
  | inl a ↦ inl (eqb-true number 4096 a)
  | inr f ↦ inr (elim (either_true _ _ f) [
    | inl b ↦ inl (eqb-true number 8192 b)
    | inr g ↦ inr (elim (either_true _ _ g) [
      | inl c ↦ inl (eqb-true number 16384 c)
      | inr h ↦ inr (elim (either_true _ _ h) [
        | inl d ↦ inl (eqb-true number 32768 d)
        | inr k ↦ inr (elim (either_true _ _ k) [ inl last ↦ eqb-true number 65536 last | inr never ↦ absurd (false≢true never) ])
      ])
    ])
  ])
]

page_of_known : (order : Order) → Known 4 order page_of BadPageSize (bytes_of order 4) IsPageSize (λ page. page)
page_of_known order number page e = elim (chosen (eqb number 4096 || (eqb number 8192 || (eqb number 16384 || (eqb number 32768 || (eqb number 65536 || false))))) (Some number) None page e) [
  | inl passed ↦ let same = some_is number page passed.1 in (subst IsPageSize same (page_allowed number (listed_is number passed.0)), sym same)
  | inr failed ↦ let never = failed.1 in absurd (cc)
]

pub right_page : (order : Order) → Right (one_item (value 4 BadPageSize) (bytes_of order 4)) IsPageSize (λ file at. value_at 4 order page_of (BadPageSize at) file at)
right_page order = right_value 4 order page_of BadPageSize (bytes_of order 4) IsPageSize (λ page. page) 4096 (12, omega arith, omega arith, refl) (page_fits order) (page_of_known order)

cpus_fits : (order : Order) → Fits 4 order cpus_of TooManyCpus (bytes_of order 4) (λ cpus. cpus ≤ 1024) (λ cpus. cpus)
cpus_fits order cpus few =
    let test : ltb 1024 cpus ≡ false = le-ltb _ _ few in
    (omega arith, refl, ap (λ (b : Bool). cond b None (Some cpus)) test)

cpus_known : (order : Order) → Known 4 order cpus_of TooManyCpus (bytes_of order 4) (λ cpus. cpus ≤ 1024) (λ cpus. cpus)
cpus_known order number cpus e = elim (chosen (ltb 1024 number) None (Some number) cpus e) [
  | inl many ↦ let never = many.1 in absurd (cc)
  | inr few ↦ let same = some_is number cpus few.1 in (omega (arith, same, ltb-false 1024 number few.0), sym same)
]

pub right_cpus : (order : Order) → Right (one_item (value 4 TooManyCpus) (bytes_of order 4)) (λ cpus. cpus ≤ 1024) (λ file at. value_at 4 order cpus_of (TooManyCpus at) file at)
right_cpus order = right_value 4 order cpus_of TooManyCpus (bytes_of order 4) (λ cpus. cpus ≤ 1024) (λ cpus. cpus) 0 (omega arith) (cpus_fits order) (cpus_known order)

-- a fixed word
module _ (kind : Kind) (fixed : List ℕ) (wrong : List ℕ → ℕ → OpenFault) where
  abbrev pub read_fixed : List ℕ → ℕ → Found Unit
  read_fixed file at = word_at fixed (wrong file at) file at >>= λ after. Ok (tt, after)

  abbrev AnyWord : Unit {0} → Type 0
  AnyWord done = Unit {0}

  stands_again : (file : List ℕ) (at : ℕ) (rest : List ℕ) → drop at file ≡ fixed ++ rest → begins_with (drop at file) fixed ≡ true
  stands_again file at rest here = (bytes_eq-Decides (take (length fixed) (drop at file)) fixed).1 (ap (take (length fixed)) here ∙ take_at fixed rest (length fixed) refl)

  word_stands : (file : List ℕ) (at : ℕ) → begins_with (drop at file) fixed ≡ true → word_at fixed (wrong file at) file at ≡ Ok (at + length fixed)
  unfolding word_at
  word_stands file at stands = rw stands refl

  word_missing : (file : List ℕ) (at : ℕ) → begins_with (drop at file) fixed ≡ false → word_at fixed (wrong file at) file at ≡ Err (word_fault (fixed ∷ []) (wrong file at) (drop at file) (length file))
  unfolding word_at
  word_missing file at missing = rw missing refl

  pub right_word : ((file : List ℕ) (at : ℕ) → word_fault (fixed ∷ []) (wrong file at) (drop at file) (length file) ≡ fault_at kind file at) → Right (one_item kind (λ done. fixed)) AnyWord read_fixed
  right_word same = right_item kind (λ done. fixed) AnyWord read_fixed tt tt (record {
    again = λ file at value rest within is here. ap (λ (r : Result ℕ OpenFault). r >>= λ after. found_value value after) (word_stands file at (stands_again file at rest here));
    sound = λ file at value end bytes within e. elim (cases_Bool (begins_with (drop at file) fixed)) [
      | inl stands ↦
          let found = same_value (read_fixed file at) tt value (at + length fixed) end (ap (λ (r : Result ℕ OpenFault). r >>= λ after. found_value tt after) (word_stands file at stands)) e in
          let whole : length (take (length fixed) (drop at file)) ≡ length fixed = ap length ((bytes_eq-Decides (take (length fixed) (drop at file)) fixed).0 stands) in
          record {
            is = tt;
            here = sym (take-append-drop (length fixed) (drop at file)) ∙ ap (λ front. front ++ drop (length fixed) (drop at file)) ((bytes_eq-Decides (take (length fixed) (drop at file)) fixed).0 stands)
                ∙ ap (λ back. fixed ++ back) (drop-drop (length fixed) at file ∙ ap (λ (n : ℕ). drop n file) found.1);
            place = sym found.1;
            inside = omega (arith, found.1, whole, within, length-take (length fixed) (drop at file), length-drop at file);
          }
      | inr missing ↦ absurd (not_both (read_fixed file at) (value, end) (word_fault (fixed ∷ []) (wrong file at) (drop at file) (length file)) e (ap (λ (r : Result ℕ OpenFault). r >>= λ after. found_value tt after) (word_missing file at missing)))
    ];
  }) (λ file at fault bytes within e. elim (cases_Bool (begins_with (drop at file) fixed)) [
    | inl stands ↦ absurd (not_both (read_fixed file at) (tt, at + length fixed) fault (ap (λ (r : Result ℕ OpenFault). r >>= λ after. found_value tt after) (word_stands file at stands)) e)
    | inr missing ↦
        same_fault (read_fixed file at) fault (word_fault (fixed ∷ []) (wrong file at) (drop at file) (length file)) e (ap (λ (r : Result ℕ OpenFault). r >>= λ after. found_value tt after) (word_missing file at missing))
        ∙ same file at
  ])

-- numbers and texts that any will do
pub right_carried : {V : Type 0} (spell : V → List ℕ) (allowed : V → Type 0) (read : List ℕ → ℕ → Found V) (some : V) → allowed some → Reads spell allowed read → EndsEarly read → Right (one_item carried spell) allowed read
right_carried spell allowed read some is reads ends = right_item carried spell allowed read some is reads ends
