-- The conversions of integers (C11 7.21.6.1).
use Rattle.std.specs.Prelude.{ℕ, ◌+◌, ◌-◌, Bool, true, false, not, ◌&&◌, ◌==◌, if◌then◌else◌, List, [], ◌++◌, length, replicate, slice_index, codes, Option, Some, None, is_none}
use Rattle.std.specs.Fmt.{digits}
use Rattle.fmt_directives.specs.declared.directive.Base.{Base}
use Rattle.fmt_directives.specs.declared.directive.Base.TheVariants.{Signed, Unsigned, Hex, UpperHex, Octal}
use Rattle.fmt_forms.specs.declared.form.Form.{Form}

abbrev pub radix : Base → ℕ
radix Signed = 10
radix Unsigned = 10
radix Hex = 16
radix UpperHex = 16
radix Octal = 8

abbrev pub is_upper : Base → Bool
is_upper UpperHex = true
is_upper Signed = false
is_upper Unsigned = false
is_upper Hex = false
is_upper Octal = false

abbrev pub is_decimal : Base → Bool
is_decimal base = radix base == 10

abbrev pub is_signed : Base → Bool
is_signed Signed = true
is_signed Unsigned = false
is_signed Hex = false
is_signed UpperHex = false
is_signed Octal = false

-- the least number of digits
abbrev pub least : Option ℕ → ℕ
least None = 1
least (Some p) = p

-- the digits; none of 0 with a precision of 0
abbrev pub shown : Base → Option ℕ → ℕ → List ℕ
shown base precision n = if n == 0 && least precision == 0 then [] else digits (radix base) (is_upper base) n

-- the zeros that the precision asks for; by `#` an octal number begins with one
abbrev pub octal_zero : Base → Bool → List ℕ → ℕ
octal_zero Octal true ds = if slice_index ds 0 == 48 then 0 else 1
octal_zero Octal false ds = 0
octal_zero Signed alternate ds = 0
octal_zero Unsigned alternate ds = 0
octal_zero Hex alternate ds = 0
octal_zero UpperHex alternate ds = 0

abbrev pub zeros : Base → Form → List ℕ → ℕ
zeros base form ds = if least form.precision - length ds == 0 then octal_zero base form.alternate ds else least form.precision - length ds

-- the sign of a signed conversion, and the `0x` of a hexadecimal one by `#`
abbrev pub sign : Form → Bool → List ℕ
sign form true = codes "-"
sign form false = if form.plus then codes "+" else (if form.space then codes " " else [])

abbrev pub mark : Base → Form → Bool → ℕ → List ℕ
mark Signed form negative n = sign form negative
mark Unsigned form negative n = []
mark Octal form negative n = []
mark Hex form negative n = if form.alternate && not (n == 0) then codes "0x" else []
mark UpperHex form negative n = if form.alternate && not (n == 0) then codes "0X" else []

-- spaces, a mark, zeros, a text and spaces
abbrev pub parts : ℕ → List ℕ → ℕ → List ℕ → ℕ → List ℕ
parts before mark zeros text after = replicate before 32 ++ (mark ++ (replicate zeros 48 ++ (text ++ replicate after 32)))

-- A text in its width: spaces after it by `-`, else zeros between its mark and its digits by `0` where no
-- precision was given, else spaces before it.
abbrev pub laid : Form → List ℕ → List ℕ → List ℕ
laid form mark body =
    let pad = form.width - (length mark + length body) in
    if form.left then mark ++ (body ++ replicate pad 32)
    else (if form.zero && is_none form.precision then mark ++ (replicate pad 48 ++ body) else replicate pad 32 ++ (mark ++ body))

-- an integer of this sign and magnitude
abbrev pub integer_text : Base → Form → Bool → ℕ → List ℕ
integer_text base form negative n =
    let ds = shown base form.precision n in
    laid form (mark base form negative n) (replicate (zeros base form ds) 48 ++ ds)
