use Rattle.std.proofs.Common.{◌≡◌, ◌+◌, ◌%◌, ◌^◌, ℕ, length, ap, ◌∙◌, arith}
use Rattle.std.proofs.Math.Nat.{mod-add-mod}
use Rattle.std.proofs.lemmas.List.{length-replicate}
use Rattle.trace_base.specs.declared.part.Part.{Part}
use Rattle.trace_base.specs.Parts.{part_of}
use Rattle.dat_header.specs.Written.{header_text}
use Rattle.dat_header.specs.Tables.{blank}
use Rattle.new_files.specs.Padding.{up_to_page}
use Rattle.split_tool.specs.NewFile.{front_len}
use Rattle.split_tool.proofs.Placing.{is_page}
use Rattle.split_tool.proofs.front.data_place.Goals as goal

pub gap-requires : goal.gap-requires
gap-requires c = is_page c.args.header.now.page c.requires.page

pub returns : goal.returns
unfolding front_len
returns c =
    let header = c.args.header.now in
    let whole = length (header_text header (blank header.cpus)) in
    let is = c.header_len-len.ensures (blank header.cpus) (length-replicate {A = Part} header.cpus (part_of 0 0)) in
    let all : whole + c.from.result ≡ up_to_page header.page whole = omega (arith, c.gap.ensures.gap whole is, c.from.ensures) in
    ap (λ (n : ℕ). (n + c.from.result) % 2 ^ 64) is ∙ mod-add-mod whole (2 ^ 64) c.from.result ∙ ap (λ (n : ℕ). n % 2 ^ 64) all
