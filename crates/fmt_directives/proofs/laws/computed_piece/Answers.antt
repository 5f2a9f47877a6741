use Rattle.fmt_directives.proofs.PieceLemmas.{piece_sound, piece_complete}
use Rattle.fmt_directives.proofs.laws.computed_piece.Goals as goal

pub returns : goal.returns
returns c at bytes d n = (λ h. (piece_sound at bytes d n h).is, λ is. piece_complete at bytes d n is)
