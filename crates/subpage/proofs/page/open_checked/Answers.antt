use Rattle.std.proofs.Common.{◌≡◌, List, drop, Some, ap, ◌∙◌, arith}
use Rattle.trace_base.proofs.Layouts.{carried}
use Rattle.subpage.specs.ItemData.{ItemData}
use Rattle.subpage.specs.Left.{loss_items}
use Rattle.subpage.specs.Page.{data_area, losses}
use Rattle.subpage.proofs.Settling.{opens_checked, room_checked}
use Rattle.subpage.proofs.page.open_checked.Goals as goal

pub split_at-requires : goal.split_at-requires
split_at-requires c =
    room_checked c.args.layout.now c.args.bytes.now c.data_area_of-area.result.now c.commit_word_of-word.result c.committed_size_of-size.result
    c.commit_word_of-word.ensures c.committed_size_of-size.ensures.size c.data_area_of-area.ensures c.requires.checked

pub settle-requires : goal.settle-requires
settle-requires c =
    let l = c.args.layout.now in
    let page = c.args.bytes.now in
    let size = c.committed_size_of-size.result in
    let told : loss_items c.loss_of-loss.result ≡ losses l c.commit_word_of-word.result c.timestamp_of-time.result (drop size (data_area l page)) =
    c.loss_of-loss.ensures ∙ ap (losses l c.commit_word_of-word.result c.timestamp_of-time.result) (c.split_at.ensures.back ∙ ap (drop size) c.data_area_of-area.ensures) in
    (opens_checked l page c.loss_of-loss.result c.timestamp_of-time.result c.commit_word_of-word.result size
    c.timestamp_of-time.ensures c.commit_word_of-word.ensures c.committed_size_of-size.ensures.size (omega (arith, carried c.args.layout.now)) told c.requires.checked).1

pub returns-clause-exact : goal.returns-clause-exact
returns-clause-exact c =
    let l = c.args.layout.now in
    let page = c.args.bytes.now in
    let size = c.committed_size_of-size.result in
    let told : loss_items c.loss_of-loss.result ≡ losses l c.commit_word_of-word.result c.timestamp_of-time.result (drop size (data_area l page)) =
    c.loss_of-loss.ensures ∙ ap (losses l c.commit_word_of-word.result c.timestamp_of-time.result) (c.split_at.ensures.back ∙ ap (drop size) c.data_area_of-area.ensures) in
    ap (λ (xs : List ItemData). Some xs) c.settle.ensures.same
    ∙ (opens_checked l page c.loss_of-loss.result c.timestamp_of-time.result c.commit_word_of-word.result size
    c.timestamp_of-time.ensures c.commit_word_of-word.ensures c.committed_size_of-size.ensures.size (omega (arith, carried c.args.layout.now)) told c.requires.checked).0
