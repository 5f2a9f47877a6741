use Rattle.split_tool.proofs.ShortHeader.{still_header, text_short}
use Rattle.split_tool.proofs.laws.new_headers_are_short.Goals as goal

pub returns-clause-allowed : goal.returns-clause-allowed
returns-clause-allowed c = still_header

pub returns-clause-short : goal.returns-clause-short
returns-clause-short c = text_short
