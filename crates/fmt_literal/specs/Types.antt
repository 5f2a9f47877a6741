-- Types by their names (C11 6.7.2, and the kernel's names of them in linux/types.h): what a cast to one makes of a
-- number, and how many bytes it has.
use Rattle.std.specs.Prelude.{ℕ, ◌*◌, ◌/◌, Bool, true, false, ◌||◌, nat_lt, List, [], ◌∷◌, bytes_eq, codes, Option, Some, None, option_map, if◌then◌else◌}
use Rattle.fmt_literal.specs.declared.ckind.CKind.{CKind}
use Rattle.fmt_literal.specs.declared.ckind.CKind.TheVariants.{U32, U64}
use Rattle.fmt_literal.specs.declared.cast_to.CastTo.{CastTo}
use Rattle.fmt_literal.specs.declared.cast_to.CastTo.TheVariants.{Bits, Truth, Same}

abbrev pub is_in : List ℕ → List (List ℕ) → Bool
is_in words [] = false
is_in words (w ∷ ws) = bytes_eq words w || is_in words ws

-- the names of a type are joined by one blank, and `const` and `volatile` are left out
abbrev pub is_qualifier : List ℕ → Bool
is_qualifier word = is_in word (codes "const" ∷ codes "volatile" ∷ [])

unfoldable pub is_i8 : List ℕ → Bool
is_i8 words = is_in words (codes "char" ∷ codes "signed char" ∷ codes "s8" ∷ codes "__s8" ∷ codes "int8_t" ∷ [])

unfoldable pub is_u8 : List ℕ → Bool
is_u8 words = is_in words (codes "unsigned char" ∷ codes "u8" ∷ codes "__u8" ∷ codes "uint8_t" ∷ [])

unfoldable pub is_i16 : List ℕ → Bool
is_i16 words = is_in words (codes "short" ∷ codes "short int" ∷ codes "s16" ∷ codes "__s16" ∷ codes "int16_t" ∷ [])

unfoldable pub is_u16 : List ℕ → Bool
is_u16 words = is_in words (codes "unsigned short" ∷ codes "unsigned short int" ∷ codes "u16" ∷ codes "__u16" ∷ codes "uint16_t" ∷ [])

unfoldable pub is_i32 : List ℕ → Bool
is_i32 words = is_in words (codes "int" ∷ codes "signed" ∷ codes "signed int" ∷ codes "s32" ∷ codes "__s32" ∷ codes "int32_t" ∷ codes "pid_t" ∷ [])

unfoldable pub is_u32 : List ℕ → Bool
is_u32 words = is_in words (codes "unsigned" ∷ codes "unsigned int" ∷ codes "u32" ∷ codes "__u32" ∷ codes "uint32_t" ∷ [])

unfoldable pub is_long : List ℕ → Bool
is_long words = is_in words (codes "long" ∷ codes "long int" ∷ codes "ssize_t" ∷ [])

unfoldable pub is_unsigned_long : List ℕ → Bool
is_unsigned_long words = is_in words (codes "unsigned long" ∷ codes "unsigned long int" ∷ codes "size_t" ∷ [])

unfoldable pub is_i64 : List ℕ → Bool
is_i64 words = is_in words (codes "long long" ∷ codes "long long int" ∷ codes "s64" ∷ codes "__s64" ∷ codes "int64_t" ∷ [])

unfoldable pub is_u64 : List ℕ → Bool
is_u64 words = is_in words (codes "unsigned long long" ∷ codes "unsigned long long int" ∷ codes "u64" ∷ codes "__u64" ∷ codes "uint64_t" ∷ [])

-- the number types of eight, 16 and 32 bits
unfoldable pub narrow_cast : List ℕ → Option CastTo
narrow_cast words =
    if is_i8 words then Some (Bits 8 true)
    else (if is_u8 words then Some (Bits 8 false)
    else (if is_i16 words then Some (Bits 16 true)
    else (if is_u16 words then Some (Bits 16 false)
    else (if is_i32 words then Some (Bits 32 true)
    else (if is_u32 words then Some (Bits 32 false)
    else None)))))

-- the kernel's long, the number types of 64 bits, and `bool`
unfoldable pub wide_cast : List ℕ → ℕ → Option CastTo
wide_cast words long =
    if is_long words then Some (Bits (8 * long) true)
    else (if is_unsigned_long words then Some (Bits (8 * long) false)
    else (if is_i64 words then Some (Bits 64 true)
    else (if is_u64 words then Some (Bits 64 false)
    else (if bytes_eq words (codes "bool") then Some Truth
    else None))))

abbrev pub or_wide : List ℕ → ℕ → Option CastTo → Option CastTo
or_wide words long (Some to) = Some to
or_wide words long None = wide_cast words long

-- What a cast to a type with these names and so many `*` makes of a number, if the type is known. A pointer is an
-- unsigned long.
unfoldable pub known_cast : List ℕ → ℕ → ℕ → Option CastTo
known_cast words stars long = if nat_lt 0 stars then Some (Bits (8 * long) false) else or_wide words long (narrow_cast words)

abbrev pub or_same : Option CastTo → CastTo
or_same (Some to) = to
or_same None = Same

-- a cast to an unknown type leaves a number as it is
abbrev pub cast_of : List ℕ → ℕ → ℕ → CastTo
cast_of words stars long = or_same (known_cast words stars long)

-- the bytes of a type, by what a cast to it makes
abbrev pub bytes_in : CastTo → ℕ
bytes_in (Bits width signed) = width / 8
bytes_in Truth = 1
bytes_in Same = 0

-- `sizeof`, which an unknown type has none of
abbrev pub size_of : List ℕ → ℕ → ℕ → Option ℕ
size_of words stars long = option_map bytes_in (known_cast words stars long)

-- the kind of an unsigned long
abbrev pub unsigned_long : ℕ → CKind
unsigned_long long = if nat_lt long 8 then U32 else U64
