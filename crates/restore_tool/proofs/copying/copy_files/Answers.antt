use Rattle.std.proofs.Common.{rules, refl, arith, ◌≡◌, ◌<◌, ◌≤◌, ◌∙◌, ◌+◌, ◌%◌, ◌^◌, ℕ, ap, length, get_or, get_or-set_same, map}
use Rattle.std.proofs.lemmas.List.{length-map}
use Rattle.trace_outside.specs.Seen.{file_seen}
use Rattle.restore_tool.proofs.FilesBehind.{copied_all, copied_more, copied_none}
use Rattle.restore_tool.proofs.FilesKept.{all_unread, keep_none, keep_set, rose_at, unread_here, unread_set}
use Rattle.restore_tool.proofs.copying.copy_files.Goals as goal

pub loop-i-init : goal.loop-i-init
loop-i-init g c =
    let first = map (file_seen g.F.File) c.args.files.now in
    record { keeps = keep_none first; unread = all_unread first; copied = copied_none c.args.page c.args.place first (g.O.Sink.written c.args.out.now); name = refl; out_later = omega arith }

pub loop-i-preserved : goal.loop-i-preserved
loop-i-preserved g c =
    let f = file_seen g.F.File in
    let lt : c.loop-i.i < length c.loop-i.files = search rules in
    let long : length c.loop-i.files ≡ length c.args.files.now = search rules in
    let before = c.loop-i.invariant in
    let first = map f c.args.files.now in
    let old = get_or c.loop-i.files c.loop-i.i c.index-files-i.result in
    let size : c.len.result ≡ g.F.File.size old = c.len.ensures ∙ ap g.F.File.size (get_or-set_same c.loop-i.files c.loop-i.i c.copy_file.new.file c.index-files-i-in-loop-i.result lt) ∙ c.copy_file.ensures.keeps.size in
    record {
      keeps = keep_set f c.args.files.now c.loop-i.files c.loop-i.i c.index-files-i.result c.copy_file.new.file long lt c.copy_file.ensures.keeps before.unread before.keeps;
      unread = unread_set f c.args.files.now c.loop-i.files c.loop-i.i c.index-files-i.result c.copy_file.new.file long lt before.unread;
      copied = copied_more c.args.page c.args.place first c.loop-i.i c.loop-i.place c.gap-missing.result (g.F.File.size old) _ (f old) (g.O.Sink.written c.args.out.now) (g.O.Sink.written c.loop-i.out) (g.O.Sink.written c.copy_file.new.out)
          (omega (arith, lt, long, length-map c.args.files.now f)) c.gap-missing.ensures.gap
          (unread_here f c.args.files.now c.loop-i.files c.loop-i.i c.index-files-i.result c.copy_file.new.file long lt before.unread (f old)) (g.met.F.File.size_is old)
          (ap (λ (n : ℕ). ((c.loop-i.place + n) % 2 ^ 64 + c.len.result) % 2 ^ 64) c.from.ensures ∙ ap (λ (n : ℕ). ((c.loop-i.place + c.gap-missing.result) % 2 ^ 64 + n) % 2 ^ 64) size)
          c.in-Ok.ensures.gained before.copied;
      name = c.copy_file.ensures.keeps_out.name ∙ before.name;
      out_later = omega (arith, before.out_later, c.copy_file.ensures.keeps_out.later);
    }

pub returns-in-Err-Read-clause-cause : goal.returns-in-Err-Read-clause-cause
returns-in-Err-Read-clause-cause g c =
    let lt : c.loop-i.i < length c.loop-i.files = search rules in
    let long : length c.loop-i.files ≡ length c.args.files.now = search rules in
    rose_at (file_seen g.F.File) c.args.files.now c.loop-i.files c.loop-i.i c.index-files-i.result c.copy_file.new.file long lt c.loop-i.invariant.unread (c.in-Err-Read.ensures.read (search rules))

pub returns-in-Err-Read-clause-keep : goal.returns-in-Err-Read-clause-keep
returns-in-Err-Read-clause-keep g c =
    let lt : c.loop-i.i < length c.loop-i.files = search rules in
    let long : length c.loop-i.files ≡ length c.args.files.now = search rules in
    keep_set (file_seen g.F.File) c.args.files.now c.loop-i.files c.loop-i.i c.index-files-i.result c.copy_file.new.file long lt c.copy_file.ensures.keeps c.loop-i.invariant.unread c.loop-i.invariant.keeps

pub returns-in-Err-Write-clause-keep : goal.returns-in-Err-Write-clause-keep
returns-in-Err-Write-clause-keep g c =
    let lt : c.loop-i.i < length c.loop-i.files = search rules in
    let long : length c.loop-i.files ≡ length c.args.files.now = search rules in
    keep_set (file_seen g.F.File) c.args.files.now c.loop-i.files c.loop-i.i c.index-files-i.result c.copy_file.new.file long lt c.copy_file.ensures.keeps c.loop-i.invariant.unread c.loop-i.invariant.keeps

pub returns-clause-copies : goal.returns-clause-copies
returns-clause-copies g c =
    let f = file_seen g.F.File in
    let long : length c.loop-i.files ≡ length c.args.files.now = search rules in
    let over : length c.args.files.now ≤ c.loop-i.i = search rules in
    copied_all c.args.page c.args.place (map f c.args.files.now) c.loop-i.i c.loop-i.place _ _ (omega (arith, over, length-map c.args.files.now f)) c.loop-i.invariant.copied
