use Rattle.std.proofs.Common.{◌≡◌, ◌+◌, ◌-◌, ◌++◌, ℕ, List, [], refl, length, sym, ap, ◌∙◌, arith}
use Rattle.std.proofs.lemmas.List.{append-nil}
use Rattle.std.specs.Io.KnownBytes.{append_known}
use Rattle.trace_outside.proofs.Gains.{gained_both, gained_nothing, on_err, prefix_behind}
use Rattle.dat_header.specs.Written.{header_text}
use Rattle.page_write.specs.Record.{zeros}
use Rattle.split_tool.specs.NewFile.{front_len, front_text}
use Rattle.split_tool.proofs.Placing.{front_of, is_page}
use Rattle.split_tool.proofs.Wholes.{when_err, when_ok}
use Rattle.split_tool.proofs.front.write_front.Goals as goal

pub gap-requires : goal.gap-requires
gap-requires g c = is_page c.args.header.now.page c.requires.allowed.page

pub returns-clause-gained : goal.returns-clause-gained
unfolding front_text
returns-clause-gained g c =
    let header = c.args.header.now in
    let text = header_text header c.args.parts.now in
    let whole = length text in
    let front : front_len header ≡ whole + c.gap.result = front_of header c.args.parts.now c.requires.each ∙ c.gap.ensures.gap whole c.in_ok-len.ensures.len in
    let missing : c.gap.result ≡ front_len header - whole = omega (arith, front) in
    let old = g.O.Sink.written c.args.out.now in
    let mid = g.O.Sink.written c.write_with_table.new.out in
    let new = g.O.Sink.written c.write_zeros.new.out in
    when_ok c.write_zeros.result _ _ (λ zero. gained_both old mid new text (zeros c.gap.result) c.in_ok-len.ensures.gained zero
    ∙ ap (λ (n : ℕ). append_known old (text ++ zeros n)) missing) c.write_zeros.ensures.gained

pub returns-clause-prefix : goal.returns-clause-prefix
unfolding front_text
returns-clause-prefix g c =
    let header = c.args.header.now in
    let text = header_text header c.args.parts.now in
    let whole = length text in
    let front : front_len header ≡ whole + c.gap.result = front_of header c.args.parts.now c.requires.each ∙ c.gap.ensures.gap whole c.in_ok-len.ensures.len in
    let missing : front_len header - whole ≡ c.gap.result = omega (arith, front) in
    let old = g.O.Sink.written c.args.out.now in
    let mid = g.O.Sink.written c.write_with_table.new.out in
    let new = g.O.Sink.written c.write_zeros.new.out in
    let all : text ++ zeros (front_len header - whole) ≡ text ++ (zeros c.gap.result ++ []) = ap (λ (t : List ℕ). text ++ t) (ap zeros missing ∙ sym (append-nil (zeros c.gap.result))) in
    when_err c.write_zeros.result _ _ (λ part. prefix_behind old mid new text (zeros c.gap.result) [] _ all c.in_ok-len.ensures.gained part) c.write_zeros.ensures.prefix

pub returns-in_err-len-clause-prefix : goal.returns-in_err-len-clause-prefix
unfolding front_text
returns-in_err-len-clause-prefix g c =
    let header = c.args.header.now in
    let text = header_text header c.args.parts.now in
    let old = g.O.Sink.written c.args.out.now in
    let behind = zeros (front_len header - length text) in
    on_err _ (prefix_behind old old (g.O.Sink.written c.write_with_table.new.out) [] text behind (text ++ behind) refl (gained_nothing old) c.in_err-len.ensures.prefix)
