-- Lengths: what is computed is what stands there.
use Rattle.std.proofs.Common.{◌≡◌, ℕ, false, ◌||◌, List, [], ◌∷◌, ◌++◌, length, refl, ap, ◌∙◌, arith, inl, inr}
use Rattle.std.specs.Prelude.{◌==◌}
use Rattle.std.proofs.lemmas.Bool.{cases_Bool, eqb-true, or_parts}
use Rattle.fmt_directives.specs.declared.directive.Length.{Length}
use Rattle.fmt_directives.specs.declared.directive.Length.TheVariants as len
use Rattle.fmt_directives.specs.Bytes.{BeginsOutside}
use Rattle.fmt_directives.specs.Directives.{length_text}
use Rattle.fmt_directives.specs.Reading.{length_of}
use Rattle.fmt_directives.proofs.Fronts.{Front, is_size, before_size, before_kind, outside_less, not_before_size}

abbrev IsLength : List ℕ → Length → Type 0
IsLength text l = text ≡ length_text l

abbrev LengthAt : List ℕ → Length × ℕ → Type 0
LengthAt bytes l = Front IsLength bytes l.0 l.1

one : (a : ℕ) (b : ℕ) (rest : List ℕ) (l : Length) → a ≡ b → b ∷ [] ≡ length_text l → LengthAt (a ∷ rest) (l, 1)
one a b rest l e is = record { within = omega arith; is = ap (λ x. x ∷ []) e ∙ is }

two : (a b c : ℕ) (rest : List ℕ) (l : Length) → a ≡ c → b ≡ c → c ∷ c ∷ [] ≡ length_text l → LengthAt (a ∷ b ∷ rest) (l, 2)
two a b c rest l e f is = record { within = omega arith; is = ap (λ x. x ∷ b ∷ []) e ∙ ap (λ x. c ∷ x ∷ []) f ∙ is }

usual : (bytes : List ℕ) → LengthAt bytes (len.Usual, 0)
usual bytes = record { within = omega arith; is = refl }

-- the bytes that are no `h` and no `l`
other_sound : (a : ℕ) (rest : List ℕ) → a == 104 ≡ false → a == 108 ≡ false → LengthAt (a ∷ rest) (length_of (a ∷ rest))
other_sound a rest no_h no_l = rw (no_h, no_l) (elim (cases_Bool (a == 122)) [
  | inl z ↦ rw z (one a 122 rest len.SizeSize (eqb-true a 122 z) refl)
  | inr no_z ↦ rw no_z (elim (cases_Bool (a == 116)) [
    | inl t ↦ rw t (one a 116 rest len.DiffSize (eqb-true a 116 t) refl)
    | inr no_t ↦ rw no_t (elim (cases_Bool (a == 106)) [
      | inl j ↦ rw j (one a 106 rest len.MaxSize (eqb-true a 106 j) refl)
      | inr no_j ↦ rw no_j (elim (cases_Bool (a == 76)) [
        | inl big ↦ rw big (one a 76 rest len.BigSize (eqb-true a 76 big) refl)
        | inr none ↦ rw none (usual (a ∷ rest))
      ])
    ])
  ])
])

doubled : (a b : ℕ) (rest : List ℕ) → LengthAt (a ∷ b ∷ rest) (length_of (a ∷ b ∷ rest))
doubled a b rest = elim (cases_Bool (a == 104)) [
  | inl h ↦ elim (cases_Bool (b == 104)) [
    | inl hh ↦ rw (h, hh) (two a b 104 rest len.CharSize (eqb-true a 104 h) (eqb-true b 104 hh) refl)
    | inr single ↦ rw (h, single) (one a 104 (b ∷ rest) len.ShortSize (eqb-true a 104 h) refl)
  ]
  | inr no_h ↦ elim (cases_Bool (a == 108)) [
    | inl l ↦ elim (cases_Bool (b == 108)) [
      | inl ll ↦ rw (no_h, l, ll) (two a b 108 rest len.LongLongSize (eqb-true a 108 l) (eqb-true b 108 ll) refl)
      | inr single ↦ rw (no_h, l, single) (one a 108 (b ∷ rest) len.LongSize (eqb-true a 108 l) refl)
    ]
    | inr no_l ↦ other_sound a (b ∷ rest) no_h no_l
  ]
]

alone : (a : ℕ) → LengthAt (a ∷ []) (length_of (a ∷ []))
alone a = elim (cases_Bool (a == 104)) [
  | inl h ↦ rw h (one a 104 [] len.ShortSize (eqb-true a 104 h) refl)
  | inr no_h ↦ elim (cases_Bool (a == 108)) [
    | inl l ↦ rw (no_h, l) (one a 108 [] len.LongSize (eqb-true a 108 l) refl)
    | inr no_l ↦ other_sound a [] no_h no_l
  ]
]

pub length_sound : (bytes : List ℕ) → LengthAt bytes (length_of bytes)
length_sound [] = usual []
length_sound (a ∷ []) = alone a
length_sound (a ∷ b ∷ rest) = doubled a b rest

abbrev pair : Length → ℕ → Length × ℕ
pair l n = (l, n)

record NoSize (b : ℕ) : Type 0 where
  h : b == 104 ≡ false
  l : b == 108 ≡ false
  z : b == 122 ≡ false
  t : b == 116 ≡ false
  j : b == 106 ≡ false
  big : b == 76 ≡ false

no_sizes : (b : ℕ) → is_size b ≡ false → NoSize b
no_sizes b e =
    let p = or_parts ((((b == 104 || b == 108) || b == 122) || b == 116) || b == 106) (b == 76) e in
    let q = or_parts (((b == 104 || b == 108) || b == 122) || b == 116) (b == 106) p.0 in
    let r = or_parts ((b == 104 || b == 108) || b == 122) (b == 116) q.0 in
    let s = or_parts (b == 104 || b == 108) (b == 122) r.0 in
    let t = or_parts (b == 104) (b == 108) s.0 in
    record { h = t.0; l = t.1; z = s.1; t = r.1; j = q.1; big = p.1 }

pub length_complete : (l : Length) (rest : List ℕ) → BeginsOutside is_size rest → length_of (length_text l ++ rest) ≡ pair l (length (length_text l))
length_complete len.Usual [] out = refl
length_complete len.Usual (b ∷ rest) out = let n = no_sizes b (out (omega arith)) in rw (n.h, n.l, n.z, n.t, n.j, n.big) refl
length_complete len.CharSize rest out = refl
length_complete len.ShortSize [] out = refl
length_complete len.ShortSize (b ∷ rest) out = let n = no_sizes b (out (omega arith)) in rw (n.h) refl
length_complete len.LongSize [] out = refl
length_complete len.LongSize (b ∷ rest) out = let n = no_sizes b (out (omega arith)) in rw (n.l) refl
length_complete len.LongLongSize rest out = refl
length_complete len.SizeSize rest out = refl
length_complete len.DiffSize rest out = refl
length_complete len.MaxSize rest out = refl
length_complete len.BigSize rest out = refl

pub length_begins : (l : Length) (rest : List ℕ) → BeginsOutside before_kind rest → BeginsOutside before_size (length_text l ++ rest)
length_begins len.Usual rest out = outside_less before_size before_kind rest not_before_size out
length_begins len.CharSize rest out = λ some. refl
length_begins len.ShortSize rest out = λ some. refl
length_begins len.LongSize rest out = λ some. refl
length_begins len.LongLongSize rest out = λ some. refl
length_begins len.SizeSize rest out = λ some. refl
length_begins len.DiffSize rest out = λ some. refl
length_begins len.MaxSize rest out = λ some. refl
length_begins len.BigSize rest out = λ some. refl
