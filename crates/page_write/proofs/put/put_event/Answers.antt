use Rattle.std.proofs.Common.{◌≡◌, true, length, ◌∙◌, sym, arith}
use Rattle.page_write.specs.Record.{is_short}
use Rattle.page_write.proofs.Filling.{event_len-short, length-event_text}
use Rattle.page_write.proofs.Putting.{put_short}
use Rattle.page_write.proofs.put.put_event.Goals as goal

pub returns-then-is_in_first_word : goal.returns-then-is_in_first_word
returns-then-is_in_first_word c =
    let n = length c.args.payload.now in
    let short : is_short n ≡ true = sym c.is_in_first_word.ensures ∙ c.if-is_in_first_word.true in
    record {
      put = rw (c.put_piece.ensures, c.put_first_word.ensures)
          (put_short c.args.order c.args.delta c.args.payload.now c.args.at c.args.into.now short (omega (arith, c.requires.room, event_len-short n short)));
      end = omega (arith, event_len-short n short, length-event_text c.args.order c.args.delta c.args.payload.now);
    }
