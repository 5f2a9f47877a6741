use Rattle.std.proofs.Common.{◌≡◌, ℕ, length, false, ap, sym, ◌∙◌, rules}
use Rattle.cpu_workers.specs.Shares.{are_worth, busy_lanes, threads_for}
use Rattle.cpu_workers.proofs.Marked.{busy_most}
use Rattle.cpu_workers.proofs.Sharing.{few_lanes, one_asked}
use Rattle.cpu_workers.proofs.shares.threads_for.Goals as goal
use Rattle.cpu_workers.proofs.shares.threads_for.Goals.{then-asked-eq1-via-then-asked-eq1, then-asked-eq1-via-else-asked-eq1+then-not-are_worth}

pub returns-then-asked-eq1-clause-value : goal.returns-then-asked-eq1-clause-value
returns-then-asked-eq1-clause-value c =
    let lanes = c.args.lanes.now in
    let from = c.args.shared_from in
    let busy = busy_lanes lanes c.args.moved.now in
    elim c.then-asked-eq1.branch [
      | then-asked-eq1-via-then-asked-eq1 w ↦ sym (ap (λ (n : ℕ). threads_for n from c.args.page busy) w.if-asked-eq1.true ∙ one_asked from c.args.page busy)
      | then-asked-eq1-via-else-asked-eq1+then-not-are_worth w ↦
          let few : are_worth from c.args.page (length lanes) ≡ false = search rules in
          sym (few_lanes c.args.asked from c.args.page busy (length lanes) (busy_most lanes c.args.moved.now) few)
    ]
