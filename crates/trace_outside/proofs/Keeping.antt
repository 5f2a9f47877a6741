-- What a file or a sink keeps over one call after another.
use Rattle.std.proofs.Common.{refl, ◌∙◌, arith}
use Rattle.trace_outside.specs.declared.outside.File as file
use Rattle.trace_outside.specs.declared.outside.Sink as sink
use Rattle.trace_outside.specs.Keeping.{KeepsFile, KeepsSink}

pub file_still : {F : Type 0} (f : file.Ghosts F) (a : F) → KeepsFile f a a
file_still f a = record { bytes = refl; size = refl; later = omega arith }

pub file_kept : {F : Type 0} {f : file.Ghosts F} {a b c : F} → KeepsFile f a b → KeepsFile f b c → KeepsFile f a c
file_kept one two = record { bytes = two.bytes ∙ one.bytes; size = two.size ∙ one.size; later = omega (arith, one.later, two.later) }

pub sink_still : {O : Type 0} (o : sink.Ghosts O) (a : O) → KeepsSink o a a
sink_still o a = record { name = refl; later = omega arith }

pub sink_kept : {O : Type 0} {o : sink.Ghosts O} {a b c : O} → KeepsSink o a b → KeepsSink o b c → KeepsSink o a c
sink_kept one two = record { name = two.name ∙ one.name; later = omega (arith, one.later, two.later) }
