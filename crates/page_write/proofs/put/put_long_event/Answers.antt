use Rattle.std.proofs.Common.{length, arith}
use Rattle.page_write.proofs.Filling.{event_len-long, length-event_text}
use Rattle.page_write.proofs.Putting.{put_long_event}
use Rattle.page_write.proofs.put.put_long_event.Goals as goal

pub returns : goal.returns
returns c =
    let n = length c.args.payload.now in
    record {
      put = rw (c.put_zeros.ensures, c.put_piece.ensures, c.put_word.ensures, c.put_first_word.ensures, c.filled_up-filled.ensures)
          (put_long_event c.args.order c.args.delta c.args.payload.now c.args.at c.args.into.now c.requires.long (omega (arith, c.requires.room, event_len-long n c.requires.long)));
      end = omega (arith, c.filled_up-filled.ensures, event_len-long n c.requires.long, length-event_text c.args.order c.args.delta c.args.payload.now);
    }
