-- What a format text begins with, computed.
use Rattle.std.specs.Prelude.{ℕ, zero, suc, ◌+◌, ◌-◌, ◌&&◌, ◌||◌, nat_lt, ◌==◌, if◌then◌else◌, List, [], ◌∷◌, take, drop, slice_index, Option, Some, None, option_and_then}
use Rattle.std.specs.List.{prefix_len}
use Rattle.std.specs.Option.{option_map}
use Rattle.std.specs.Str.Parse.{digits_value}
use Rattle.fmt_directives.specs.declared.directive.Amount.{Amount}
use Rattle.fmt_directives.specs.declared.directive.Amount.TheVariants.{Absent, Fixed, FromArgument}
use Rattle.fmt_directives.specs.declared.directive.Length.{Length}
use Rattle.fmt_directives.specs.declared.directive.Length.TheVariants as len
use Rattle.fmt_directives.specs.declared.directive.Base.TheVariants as base
use Rattle.fmt_directives.specs.declared.directive.PointerForm.{PointerForm}
use Rattle.fmt_directives.specs.declared.directive.PointerForm.TheVariants as form
use Rattle.fmt_directives.specs.declared.directive.Spec.{Spec}
use Rattle.fmt_directives.specs.declared.directive.Directive.{Directive}
use Rattle.fmt_directives.specs.declared.directive.Directive.TheVariants as directive
use Rattle.fmt_directives.specs.Bytes.{is_flag, is_decimal, is_alphanumeric, is_plain}
use Rattle.fmt_directives.specs.Directives.{behind_dot, spec_of}

abbrev pub digits_len : List ℕ → ℕ
digits_len bytes = prefix_len is_decimal bytes

-- a width at the front, and its length; none above 65,535
unfoldable pub amount : List ℕ → Option (Amount × ℕ)
amount bytes =
    if slice_index bytes 0 == 42 then Some (FromArgument, 1)
    else (if digits_len bytes == 0 then Some (Absent, 0)
    else (if nat_lt 65535 (digits_value 10 (take (digits_len bytes) bytes)) then None else Some (Fixed (digits_value 10 (take (digits_len bytes) bytes)), digits_len bytes)))

unfoldable pub precision : List ℕ → Option (Amount × ℕ)
precision bytes = if slice_index bytes 0 == 46 then option_and_then (λ a. Some (behind_dot a.0, 1 + a.1)) (amount (drop 1 bytes)) else Some (Absent, 0)

-- a length at the front, and how many bytes it has
abbrev pub length_of : List ℕ → Length × ℕ
length_of bytes =
    let a = slice_index bytes 0 in
    let b = slice_index bytes 1 in
    if a == 104 then (if b == 104 then (len.CharSize, 2) else (len.ShortSize, 1))
    else (if a == 108 then (if b == 108 then (len.LongLongSize, 2) else (len.LongSize, 1))
    else (if a == 122 then (len.SizeSize, 1) else (if a == 116 then (len.DiffSize, 1) else (if a == 106 then (len.MaxSize, 1) else (if a == 76 then (len.BigSize, 1) else (len.Usual, 0))))))

-- the form of a pointer, by all letters and digits that follow its `p`
abbrev pub one_letter_form : ℕ → Option PointerForm
one_letter_form a = if a == 115 || a == 102 then Some form.Name else (if a == 83 || a == 70 then Some form.NameOffset else (if a == 77 then Some form.Mac else None))

abbrev pub pointer_form : List ℕ → Option PointerForm
pointer_form [] = Some form.Plain
pointer_form (a ∷ []) = one_letter_form a
pointer_form (a ∷ b ∷ []) = if a == 73 && b == 52 then Some form.Ip4 else None
pointer_form (a ∷ b ∷ c ∷ rest) = None

-- what a letter asks for, if it is no `p`
abbrev pub letter_kind : Spec → ℕ → Option Directive
letter_kind spec a =
    if a == 100 || a == 105 then Some (directive.Number spec base.Signed)
    else (if a == 117 then Some (directive.Number spec base.Unsigned)
    else (if a == 120 then Some (directive.Number spec base.Hex)
    else (if a == 88 then Some (directive.Number spec base.UpperHex)
    else (if a == 111 then Some (directive.Number spec base.Octal)
    else (if a == 99 then Some (directive.Letter spec)
    else (if a == 115 then Some (directive.Text spec)
    else None))))))

-- what the front asks for, and how many bytes it has
unfoldable pub kind_of : Spec → List ℕ → Option (Directive × ℕ)
kind_of spec [] = None
kind_of spec (a ∷ bytes) =
    let run = prefix_len is_alphanumeric bytes in
    if a == 112 then option_and_then (λ f. Some (directive.Pointer spec f, 1 + run)) (pointer_form (take run bytes))
    else option_and_then (λ d. Some (d, 1)) (letter_kind spec a)

-- a conversion after its percent sign, and its length
unfoldable pub conversion : List ℕ → Option (Directive × ℕ)
conversion bytes =
    let flags = prefix_len is_flag bytes in
    option_and_then (λ w. option_and_then (λ p.
    let length = length_of (drop (flags + w.1 + p.1) bytes) in
    option_and_then (λ k. Some (k.0, flags + w.1 + p.1 + length.1 + k.1))
    (kind_of (spec_of (take flags bytes) w.0 p.0 length.0) (drop (flags + w.1 + p.1 + length.1) bytes)))
    (precision (drop (flags + w.1) bytes)))
    (amount (drop flags bytes))

-- the directive that begins at a place, and how many bytes spell it
unfoldable pub first_directive : ℕ → List ℕ → Option (Directive × ℕ)
first_directive at [] = None
first_directive at (b ∷ bytes) =
    let run = 1 + prefix_len is_plain bytes in
    if b == 37 then
    (if slice_index bytes 0 == 37 then Some (directive.Literal (at + 1) (at + 2), 2) else option_and_then (λ k. Some (k.0, 1 + k.1)) (conversion bytes))
    else Some (directive.Literal at (at + run), run)

-- The directives of the bytes from a place on, where so many of these are in a directive already.
unfoldable pub directives_from : ℕ → ℕ → List ℕ → Option (List Directive)
directives_from skip at [] = Some []
directives_from (suc skip) at (b ∷ bytes) = directives_from skip (at + 1) bytes
directives_from zero at (b ∷ bytes) = option_and_then (λ d. option_map (λ ds. d.0 ∷ ds) (directives_from (d.1 - 1) (at + 1) bytes)) (first_directive at (b ∷ bytes))

unfoldable pub directives_of : List ℕ → Option (List Directive)
directives_of text = directives_from 0 0 text
