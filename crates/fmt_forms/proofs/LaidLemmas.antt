-- A text in its width, as spaces, a mark, zeros, a text and spaces.
use Rattle.std.proofs.Common.{◌≡◌, ℕ, ◌+◌, ◌-◌, Bool, true, false, List, [], ◌++◌, length, replicate, sym, ap, ◌∙◌, append_assoc, length-append, arith, inl, inr}
use Rattle.std.specs.Prelude.{◌&&◌, is_none}
use Rattle.std.proofs.lemmas.Bool.{cases_Bool}
use Rattle.std.proofs.lemmas.List.{append-nil, length-replicate, replicate-append-replicate}
use Rattle.fmt_forms.specs.declared.form.Form.{Form}
use Rattle.fmt_forms.specs.Integers.{parts, laid}
use Rattle.fmt_forms.specs.Texts.{padded}

body_len : (mark text : List ℕ) (width zeros : ℕ) → width - (length mark + length (replicate zeros 48 ++ text)) ≡ width - (length mark + (zeros + length text))
body_len mark text width zeros = omega (arith, length-append (replicate zeros 48) text, length-replicate {A = ℕ} zeros 48)

pub laid_left : (form : Form) (mark text : List ℕ) (zeros pad : ℕ) → form.left ≡ true → pad ≡ form.width - (length mark + (zeros + length text)) → laid form mark (replicate zeros 48 ++ text) ≡ parts 0 mark zeros text pad
laid_left form mark text zeros pad left is_pad =
    rw left (ap (λ (n : ℕ). mark ++ (replicate zeros 48 ++ text ++ replicate n 32)) (body_len mark text form.width zeros ∙ sym is_pad)
    ∙ ap (λ (l : List ℕ). mark ++ l) (append_assoc (replicate zeros 48) text (replicate pad 32)))

pub laid_zero : (form : Form) (mark text : List ℕ) (zeros pad : ℕ) → form.left ≡ false → form.zero && is_none form.precision ≡ true → pad ≡ form.width - (length mark + (zeros + length text)) → laid form mark (replicate zeros 48 ++ text) ≡ parts 0 mark (pad + zeros) text 0
laid_zero form mark text zeros pad left zero is_pad =
    rw left (rw zero (ap (λ (n : ℕ). mark ++ (replicate n 48 ++ (replicate zeros 48 ++ text))) (body_len mark text form.width zeros ∙ sym is_pad)
    ∙ ap (λ (l : List ℕ). mark ++ l) (sym (append_assoc (replicate pad 48) (replicate zeros 48) text) ∙ ap (λ (l : List ℕ). l ++ text) (replicate-append-replicate pad zeros 48)
    ∙ ap (λ (l : List ℕ). replicate (pad + zeros) 48 ++ l) (sym (append-nil text)))))

pub laid_right : (form : Form) (mark text : List ℕ) (zeros pad : ℕ) → form.left ≡ false → form.zero && is_none form.precision ≡ false → pad ≡ form.width - (length mark + (zeros + length text)) → laid form mark (replicate zeros 48 ++ text) ≡ parts pad mark zeros text 0
laid_right form mark text zeros pad left zero is_pad =
    rw left (rw zero (ap (λ (n : ℕ). replicate n 32 ++ (mark ++ (replicate zeros 48 ++ text))) (body_len mark text form.width zeros ∙ sym is_pad)
    ∙ ap (λ (l : List ℕ). replicate pad 32 ++ (mark ++ (replicate zeros 48 ++ l))) (sym (append-nil text))))

bare_at : (form : Form) (mark text : List ℕ) → 0 ≡ form.width - (length mark + (0 + length text)) → laid form mark text ≡ mark ++ text
bare_at form mark text is_pad =
    let bare = ap (λ (l : List ℕ). mark ++ l) (append-nil text) in
    elim (cases_Bool form.left) as (λ _. laid form mark text ≡ mark ++ text) [
      | inl left ↦ laid_left form mark text 0 0 left is_pad ∙ bare
      | inr right ↦ elim (cases_Bool (form.zero && is_none form.precision)) as (λ _. laid form mark text ≡ mark ++ text) [
        | inl zero ↦ laid_zero form mark text 0 0 right zero is_pad ∙ bare
        | inr none ↦ laid_right form mark text 0 0 right none is_pad ∙ bare
      ]
    ]

pub laid_bare : (form : Form) (mark text : List ℕ) (zeros pad : ℕ) → zeros ≡ 0 → pad ≡ 0 → pad ≡ form.width - (length mark + (zeros + length text)) → laid form mark (replicate zeros 48 ++ text) ≡ mark ++ text
laid_bare form mark text zeros pad no_zeros no_pad is_pad =
    ap (λ (n : ℕ). laid form mark (replicate n 48 ++ text)) no_zeros ∙ bare_at form mark text (omega (arith, no_zeros, no_pad, is_pad))

-- ---- texts of pieces between spaces

text_len : (one two three : List ℕ) → length (one ++ (two ++ three)) ≡ length one + (length two + length three)
text_len one two three = length-append one (two ++ three) ∙ ap (λ n. length one + n) (length-append two three)

pub padded_left : (left : Bool) (width : ℕ) (one two three : List ℕ) (pad : ℕ) → left ≡ true → pad ≡ width - (length one + (length two + length three)) → padded left width (one ++ (two ++ three)) ≡ replicate 0 32 ++ (one ++ (two ++ (three ++ replicate pad 32)))
unfolding padded
padded_left left width one two three pad is is_pad =
    rw is (ap (λ n. one ++ (two ++ three) ++ replicate n 32) (ap (λ m. width - m) (text_len one two three) ∙ sym is_pad)
    ∙ append_assoc one (two ++ three) (replicate pad 32) ∙ ap (λ l. one ++ l) (append_assoc two three (replicate pad 32)))

pub padded_right : (left : Bool) (width : ℕ) (one two three : List ℕ) (pad : ℕ) → left ≡ false → pad ≡ width - (length one + (length two + length three)) → padded left width (one ++ (two ++ three)) ≡ replicate pad 32 ++ (one ++ (two ++ (three ++ replicate 0 32)))
unfolding padded
padded_right left width one two three pad is is_pad =
    rw is (ap (λ n. replicate n 32 ++ (one ++ (two ++ three))) (ap (λ m. width - m) (text_len one two three) ∙ sym is_pad)
    ∙ ap (λ l. replicate pad 32 ++ (one ++ (two ++ l))) (sym (append-nil three)))

pub padded_alone : (left : Bool) (width : ℕ) (text : List ℕ) → padded left width (text ++ ([] ++ [])) ≡ padded left width text
padded_alone left width text = ap (padded left width) (append-nil text)
