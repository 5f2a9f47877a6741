-- The bytes of a text, wherever they stand.
use Rattle.std.specs.Prelude.{ℕ, List, take}
use Rattle.trace_base.specs.declared.byte_text.Held.{Held}
use Rattle.trace_base.specs.declared.byte_text.Held.TheVariants.{Few, Many}

abbrev pub text_bytes : Held → List ℕ
text_bytes (Few few) = take few.len few.bytes
text_bytes (Many bytes) = bytes.items
