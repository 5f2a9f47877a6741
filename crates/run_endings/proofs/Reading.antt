-- Claims for the answers after a header.
use Rattle.run_endings.specs.declared.status.Status.{Status}
use Rattle.run_endings.specs.declared.status.Status.TheVariants.{Done, Usage, Refused, Malformed, ReadFault, WriteFault, NoMemory}
use Rattle.run_endings.specs.Progress.{BehindHeader}

-- what follows from a claim for the answers after a header
pub behind_header_map : {one two : Type 0} → (status : Status) → (one → two) → BehindHeader status one → BehindHeader status two
behind_header_map Done follows claim = follows claim
behind_header_map (Malformed cut) follows claim = follows claim
behind_header_map WriteFault follows claim = follows claim
behind_header_map Usage follows claim = tt
behind_header_map (Refused fault) follows claim = tt
behind_header_map ReadFault follows claim = tt
behind_header_map NoMemory follows claim = tt

-- what holds for any answer
pub any_answer : {claim : Type 0} → (status : Status) → claim → BehindHeader status claim
any_answer Done holds = holds
any_answer (Malformed cut) holds = holds
any_answer WriteFault holds = holds
any_answer Usage holds = tt
any_answer (Refused fault) holds = tt
any_answer ReadFault holds = tt
any_answer NoMemory holds = tt

-- what follows from two claims for the same answers
pub both_behind : {one two three : Type 0} → (status : Status) → (one → two → three) → BehindHeader status one → BehindHeader status two → BehindHeader status three
both_behind Done follows a b = follows a b
both_behind (Malformed cut) follows a b = follows a b
both_behind WriteFault follows a b = follows a b
both_behind Usage follows a b = tt
both_behind (Refused fault) follows a b = tt
both_behind ReadFault follows a b = tt
both_behind NoMemory follows a b = tt
