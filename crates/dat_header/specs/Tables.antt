-- The tables of new files.
-- Source: trace-cmd.dat.v6(5), the entries after `flyrecord`: eight bytes for an offset and eight for a size.
use Rattle.std.specs.Prelude.{ℕ, List, replicate}
use Rattle.trace_base.specs.declared.part.Part.{Part}
use Rattle.trace_base.specs.Parts.{part_of}

-- a table of this many processors before their parts are known
abbrev pub blank : ℕ → List Part
blank cpus = replicate cpus (part_of 0 0)
