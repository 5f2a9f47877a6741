-- Where the first sub-buffer stands.
use Rattle.std.proofs.Common.{◌≡◌, ℕ, ◌<◌, List, length, sym, ap, arith}
use Rattle.std.proofs.lemmas.Nat.{pow_pos}
use Rattle.trace_base.specs.declared.part.Part.{Part}
use Rattle.dat_header.specs.declared.header.Header.{Header}
use Rattle.dat_header.specs.Allowed.{IsPageSize}
use Rattle.dat_header.specs.Written.{header_text}
use Rattle.dat_header.proofs.Tables.{same_len}
use Rattle.new_files.specs.Padding.{IsPage, up_to_page}
use Rattle.split_tool.specs.NewFile.{front_len}

pub is_page : (page : ℕ) → IsPageSize page → IsPage page
is_page page p = (p.0, p.2, p.3)

pub page_some : (page : ℕ) → IsPageSize page → 0 < page
page_some page p = omega (arith, p.3, pow_pos p.0)

pub front_of : (header : Header) (parts : List Part) → length parts ≡ header.cpus → front_len header ≡ up_to_page header.page (length (header_text header parts))
unfolding front_len
front_of header parts each = ap (up_to_page header.page) (sym (same_len header parts each))
