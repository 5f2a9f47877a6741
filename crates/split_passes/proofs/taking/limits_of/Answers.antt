use Rattle.std.proofs.Common.{arith}
use Rattle.std.proofs.lemmas.List.Elements.{All-weaker}
use Rattle.trace_base.proofs.Layouts.{carried}
use Rattle.split_pieces.specs.Allowing.{IsEventUpTo}
use Rattle.split_passes.proofs.taking.limits_of.Goals as goal

pub overflow_cast-bytes : goal.overflow_cast-bytes
overflow_cast-bytes c = omega (arith, c.room-bytes.ensures.most, (carried c.args.layout.now).page_most)

pub returns : goal.returns
returns c =
    let allowance = c.in-Some.allowance in
    record {
      until = c.until_of-until.ensures.turn;
      takes = λ xs all few. c.in-Some.ensures xs (All-weaker (IsEventUpTo c.until_of-until.result) (IsEventUpTo allowance.until) (λ x e. (e.0, omega (arith, e.1, c.until_of-until.ensures.allowed))) xs all) (omega (arith, few));
      inside = c.until_of-until.ensures.inside;
      room = λ xs count. c.room-bytes.ensures.room xs count;
    }
