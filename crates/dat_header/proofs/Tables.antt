-- A header is as long whatever its table tells.
use Rattle.std.proofs.Common.{◌≡◌, List, length, arith}
use Rattle.std.proofs.lemmas.List.{length-replicate}
use Rattle.trace_base.specs.declared.part.Part.{Part}
use Rattle.dat_header.specs.declared.header.Header.{Header}
use Rattle.trace_base.specs.Parts.{part_of}
use Rattle.dat_header.specs.Tables.{blank}
use Rattle.dat_header.specs.Written.{header_text}
use Rattle.dat_header.proofs.Wrapped.{length-header_text}

pub same_len : (header : Header) (parts : List Part) → length parts ≡ header.cpus → length (header_text header parts) ≡ length (header_text header (blank header.cpus))
same_len header parts each =
    omega (arith, length-header_text header parts, length-header_text header (blank header.cpus), each, length-replicate {A = Part} header.cpus (part_of 0 0))
