use Rattle.std.proofs.Common.{arith, ap, ◌∙◌, ◌≡◌, ◌-◌, ◌+◌, ℕ, List, length}
use Rattle.page_write.specs.Record.{zeros}
use Rattle.page_write.specs.PageBytes.{put_at}
use Rattle.page_write.specs.Held.{lost_text}
use Rattle.page_write.proofs.Finished.{filled_behind}
use Rattle.page_write.proofs.closing.fill_behind.Goals as goal

pub returns : goal.returns
returns c =
    let lost = lost_text c.args.layout.now c.args.lost in
    let area = c.args.area.now in
    let put = c.put_lost-behind.new.area in
    let place = c.put_lost-behind.result in
    let count = length area - (c.args.at + length lost) in
    let same : length put - place ≡ count = omega (arith, c.put_lost-behind.auto.area, c.put_lost-behind.ensures.end) in
    c.put_zeros.ensures
    ∙ ap (λ (n : ℕ). put_at place (zeros n) put) same
    ∙ ap (λ (t : List ℕ). put_at place (zeros count) t) c.put_lost-behind.ensures.put
    ∙ filled_behind c.args.at place count lost area c.put_lost-behind.ensures.end (omega (arith, c.put_lost-behind.ensures.end, c.requires.room))
