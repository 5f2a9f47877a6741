use Rattle.std.proofs.Common.{◌≡◌, ◌%◌, ◌^◌, ◌-◌, ℕ, length, sym, subst, arith}
use Rattle.trace_outside.specs.Writing.{Gained}
use Rattle.dat_header.specs.declared.header.Header.{Header}
use Rattle.dat_header.specs.Allowed.{IsHeader}
use Rattle.dat_header.specs.Written.{header_text}
use Rattle.page_write.specs.Record.{zeros}
use Rattle.trace_gen.specs.GeneratedHeader.{header_but_parts}
use Rattle.trace_gen.specs.GeneratedFile.{front_len}
use Rattle.trace_gen.proofs.Fronts.{is_header, header_len}
use Rattle.trace_gen.proofs.Laid.{three_gained}
use Rattle.trace_gen.proofs.file.write_file.Goals as goal

pub write_header-requires-clause-allowed : goal.write_header-requires-clause-allowed
write_header-requires-clause-allowed g c = subst IsHeader (sym c.requires.value) is_header

pub overflow_sub-len : goal.overflow_sub-len
overflow_sub-len g c =
    let told = subst (λ (h : Header). c.in_ok-len.len ≡ length (header_text h c.args.parts.now) % 2 ^ 64) c.requires.value c.in_ok-len.ensures.len in
    omega (arith, told, header_len c.args.parts.now c.requires.four)

pub returns-clause-gained : goal.returns-clause-gained
returns-clause-gained g c =
    let parts = c.args.parts.now in
    let told = subst (λ (h : Header). c.in_ok-len.len ≡ length (header_text h parts) % 2 ^ 64) c.requires.value c.in_ok-len.ensures.len in
    let gap : front_len - c.in_ok-len.len ≡ front_len - length (header_text header_but_parts parts) = omega (arith, told, header_len parts c.requires.four) in
    let first = subst (λ (h : Header). Gained (g.O.Sink.written c.args.out.now) (g.O.Sink.written c.write_header.new.out) (header_text h parts)) c.requires.value c.in_ok-len.ensures.gained in
    let second = subst (λ (n : ℕ). Gained (g.O.Sink.written c.write_header.new.out) (g.O.Sink.written c.write_zeros.new.out) (zeros n)) gap c.in_ok-write_zeros.ensures in
    three_gained c.write_all.result (g.O.Sink.written c.args.out.now) (g.O.Sink.written c.write_header.new.out) (g.O.Sink.written c.write_zeros.new.out) (g.O.Sink.written c.write_all.new.out)
    (header_text header_but_parts parts) (zeros (front_len - length (header_text header_but_parts parts))) c.args.sub_buffers.now first second c.write_all.ensures.gained
