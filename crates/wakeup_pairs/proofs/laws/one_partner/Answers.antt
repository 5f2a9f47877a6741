use Rattle.wakeup_pairs.proofs.Partners.{one_wake, one_switch}
use Rattle.wakeup_pairs.proofs.laws.one_partner.Goals as goal

pub returns-clause-wake : goal.returns-clause-wake
returns-clause-wake c = one_wake

pub returns-clause-switch : goal.returns-clause-switch
returns-clause-switch c = one_switch
