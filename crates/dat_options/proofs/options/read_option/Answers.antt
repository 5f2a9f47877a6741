use Rattle.std.proofs.Common.{◌≡◌, ℕ, ◌<◌, ◌≤◌, ◌+◌, None, Err, drop, IfSome, arith, refl, ◌∙◌, subst}
use Rattle.std.proofs.lemmas.Result.{err_from_is_err_and}
use Rattle.trace_base.specs.Number.{bytes_of}
use Rattle.dat_options.specs.Answer.{KeptAt, fault_of_piece}
use Rattle.dat_options.specs.Options.{option_at}
use Rattle.dat_options.proofs.Pieces.{kept_piece}
use Rattle.dat_options.proofs.FirstLaws.{HoldsAt, faulty, faulty_piece, no_id, no_size, no_content, filled_holds, option_holds, given_holds, length-option_text, fills_same, gives_same}
use Rattle.dat_options.proofs.options.read_option.Goals as goal

pub returns-in_err-read_piece-clause-first : goal.returns-in_err-read_piece-clause-first
returns-in_err-read_piece-clause-first g c =
    let p = err_from_is_err_and c.from_residual.result c.from_residual.ensures.1 in
    rw (p.1, p.2) (faulty c.args.order _ _ c.args.at c.in_err-read_piece.field-0.0 c.read_piece.new.into c.args.at
    (λ short. no_id c.args.order _ _ c.args.at (g.met.F.File.size_is c.args.file.now) (omega (arith, short))) c.in_err-read_piece.ensures.filled)

pub returns-in_err-read_piece-clause-kept : goal.returns-in_err-read_piece-clause-kept
returns-in_err-read_piece-clause-kept g c =
    let p = err_from_is_err_and c.from_residual.result c.from_residual.ensures.1 in
    rw (p.1, p.2) (kept_piece _ _ c.in_err-read_piece.field-0.0 c.in_err-read_piece.ensures.kept)

pub overflow_add-result : goal.overflow_add-result
overflow_add-result g c = omega (arith, c.in_ok-read_piece.ensures.filled, c.in_ok-read_piece.ensures.fits)

pub overflow_add-at : goal.overflow_add-at
overflow_add-at g c = omega (arith, c.in_ok-read_piece.ensures.filled, c.in_ok-read_piece.ensures.fits)

pub overflow_add-at-2 : goal.overflow_add-at-2
overflow_add-at-2 g c = omega (arith, c.in_ok-read_piece-2.ensures.filled, c.in_ok-read_piece-2.ensures.fits)

pub overflow_add-result-2 : goal.overflow_add-result-2
overflow_add-result-2 g c = omega (arith, c.in_ok-bytes.ensures.given, c.in_ok-bytes.ensures.fits)

pub overflow_add-result-3 : goal.overflow_add-result-3
overflow_add-result-3 g c = omega (arith, c.in_ok-bytes.ensures.given, c.in_ok-bytes.ensures.fits)

pub returns-in_err-read_piece-2-clause-first : goal.returns-in_err-read_piece-2-clause-first
returns-in_err-read_piece-2-clause-first g c =
    let order = c.args.order in
    let told = g.F.File.bytes c.args.file.now in
    let size = g.F.File.size c.args.file.now in
    let id : HoldsAt told c.args.at (bytes_of order 2 c.id_of-id.result) = filled_holds told _ size c.args.at c.read_piece.new.into _ refl c.in_ok-read_piece.ensures.filled c.id_of-id.ensures in
    let short : size < c.args.at + 2 + 4 → IfSome told (λ bytes. option_at order (drop c.args.at bytes) ≡ None) = no_size order told size c.args.at c.id_of-id.result (g.met.F.File.size_is c.args.file.now) c.if-id-eq0.false c.id_of-id.type_inv id in
    let p = err_from_is_err_and c.from_residual-in_err-read_piece-2.result c.from_residual-in_err-read_piece-2.ensures.1 in
    rw (p.1, p.2) (faulty order told size c.args.at c.in_err-read_piece-2.field-0.0 c.read_piece-2.new.into (c.args.at + 2) (λ past. short (omega (arith, past)))
    (fills_same told _ size _ (c.args.at + 2) (Err c.in_err-read_piece-2.field-0.0) c.read_piece-2.new.into c.in_ok-read_piece.ensures.keeps.bytes c.in_ok-read_piece.ensures.keeps.size c.in_err-read_piece-2.ensures.filled))

pub returns-in_err-read_piece-2-clause-kept : goal.returns-in_err-read_piece-2-clause-kept
returns-in_err-read_piece-2-clause-kept g c =
    let p = err_from_is_err_and c.from_residual-in_err-read_piece-2.result c.from_residual-in_err-read_piece-2.ensures.1 in
    rw (p.1, p.2) (subst (λ (count : ℕ). KeptAt count (g.F.File.faults c.read_piece-2.new.file) (fault_of_piece c.in_err-read_piece-2.field-0.0)) c.in_ok-read_piece.ensures.kept (kept_piece _ _ c.in_err-read_piece-2.field-0.0 c.in_err-read_piece-2.ensures.kept))

pub returns-in_err-bytes-clause-first : goal.returns-in_err-bytes-clause-first
returns-in_err-bytes-clause-first g c =
    let order = c.args.order in
    let at = c.args.at in
    let told = g.F.File.bytes c.args.file.now in
    let size = g.F.File.size c.args.file.now in
    let same = c.in_ok-read_piece-2.ensures.keeps.bytes ∙ c.in_ok-read_piece.ensures.keeps.bytes in
    let as_long = c.in_ok-read_piece-2.ensures.keeps.size ∙ c.in_ok-read_piece.ensures.keeps.size in
    let id : HoldsAt told at (bytes_of order 2 c.id_of-id.result) = filled_holds told _ size at c.read_piece.new.into _ refl c.in_ok-read_piece.ensures.filled c.id_of-id.ensures in
    let count : HoldsAt told (at + 2) (bytes_of order 4 c.size_of-size.result) = filled_holds told _ _ (at + 2) c.read_piece-2.new.into _ c.in_ok-read_piece.ensures.keeps.bytes c.in_ok-read_piece-2.ensures.filled c.size_of-size.ensures in
    let room : at + 6 ≤ size = omega (arith, c.in_ok-read_piece-2.ensures.filled, c.in_ok-read_piece.ensures.keeps.size) in
    let short = no_content order told size at c.id_of-id.result c.size_of-size.result (g.met.F.File.size_is c.args.file.now) c.if-id-eq0.false c.id_of-id.type_inv c.size_of-size.type_inv id count room in
    let p = err_from_is_err_and c.from_residual-in_err-bytes.result c.from_residual-in_err-bytes.ensures.1 in
    rw (p.1, p.2) (faulty_piece order told size at c.in_err-bytes.field-0.0 c.size_of-size.result (at + 6) short
    (gives_same told _ size _ (at + 6) c.size_of-size.result (Err c.in_err-bytes.field-0.0) same as_long c.in_err-bytes.ensures.given))

pub returns-in_err-bytes-clause-kept : goal.returns-in_err-bytes-clause-kept
returns-in_err-bytes-clause-kept g c =
    let p = err_from_is_err_and c.from_residual-in_err-bytes.result c.from_residual-in_err-bytes.ensures.1 in
    rw (p.1, p.2) (subst (λ (count : ℕ). KeptAt count (g.F.File.faults c.read_bytes.new.file) (fault_of_piece c.in_err-bytes.field-0.0)) (c.in_ok-read_piece-2.ensures.kept ∙ c.in_ok-read_piece.ensures.kept)
    (kept_piece _ _ c.in_err-bytes.field-0.0 c.in_err-bytes.ensures.kept))

pub returns-clause-first : goal.returns-clause-first
returns-clause-first g c =
    let order = c.args.order in
    let at = c.args.at in
    let told = g.F.File.bytes c.args.file.now in
    let size = g.F.File.size c.args.file.now in
    let id : HoldsAt told at (bytes_of order 2 c.id_of-id.result) = filled_holds told _ size at c.read_piece.new.into _ refl c.in_ok-read_piece.ensures.filled c.id_of-id.ensures in
    let count : HoldsAt told (at + 2) (bytes_of order 4 c.size_of-size.result) = filled_holds told _ _ (at + 2) c.read_piece-2.new.into _ c.in_ok-read_piece.ensures.keeps.bytes c.in_ok-read_piece-2.ensures.filled c.size_of-size.ensures in
    let given = c.in_ok-bytes.ensures.given in
    let content : HoldsAt told (at + 6) c.in_ok-bytes.bytes = given_holds told _ (at + 6) c.size_of-size.result c.in_ok-bytes.bytes (c.in_ok-read_piece-2.ensures.keeps.bytes ∙ c.in_ok-read_piece.ensures.keeps.bytes) given.0 given.2 in
    record {
      allowed = record { may_be_written = record { id_is_some = c.if-id-eq0.false; size_fits = omega (arith, given.0, c.size_of-size.type_inv) }; id_fits = c.id_of-id.type_inv };
      behind = omega (arith, length-option_text order (record { id = c.id_of-id.result; bytes = c.in_ok-bytes.bytes }), given.0);
      inside = omega (arith, given.1, c.in_ok-read_piece-2.ensures.keeps.size, c.in_ok-read_piece.ensures.keeps.size);
      text = option_holds order told at c.id_of-id.result c.size_of-size.result c.in_ok-bytes.bytes given.0 id count content;
    }
