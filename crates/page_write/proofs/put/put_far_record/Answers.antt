use Rattle.std.proofs.Common.{◌≡◌, ◌+◌, length, arith}
use Rattle.page_write.specs.Record.{event_text, record_text}
use Rattle.page_write.proofs.Filling.{length-record_text}
use Rattle.page_write.proofs.Putting.{length-far_text, put_far}
use Rattle.page_write.proofs.put.put_far_record.Goals as goal

pub returns : goal.returns
returns c =
    let order = c.args.order in
    let payload = c.args.payload.now in
    let long : length (record_text order c.args.step payload) ≡ 8 + length (event_text order 0 payload) = length-far_text order c.args.step payload c.requires.far in
    record {
      put = rw (c.put_event.ensures.put, c.put_extend.ensures)
          (put_far order c.args.step payload c.args.at c.args.into.now c.requires.far (omega (arith, c.requires.room, long, length-record_text order c.args.step payload)));
      end = omega (arith, c.put_event.ensures.end, long);
    }
