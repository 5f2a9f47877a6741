-- `none` makes a value of no names.
use Rattle.std.proofs.Common.{◌≡◌, [], ◌∷◌, refl}
use mir.Val.{Val}
use base.Logic.{emp}
use types.Kit.{‵, raw, ◌⊛◌, ◌$◌, ◌∵◌, !, qed, by, keep, split, fjoin, use0}
use types.Run.{no_more, returns, enter}
use types.ByLocal.{alloc_all, pass_all, free_all, look_at, sets}
use types.Part.{agg}
use contract.Monad.{fact, fact_i}
use contract.Running.{tables}
use denote.RattleType.{owns}
use denote.Signature.{types_at}
use denote.Steps.{nothing}
use denote.Triple.Entry.{alive}
use denote.Triple.Walked.{Stays, walk_of}
use Rattle.std.proofs.raw_atomic.Walks.{proved_at, leaves}
use Rattle.trace_outside.proofs.Unwritten.{token, Fields, fields_made}
use Rattle.trace_outside.specs.contracts.requests.Requests as requests
use Rattle.trace_outside.specs.contracts.requests.Requests.none.{ended, clauses}
use Rattle.trace_outside.specs.contracts.requests.Requests.none.Key.{name as #self}
use Rattle.trace_outside.proofs.requests.Requests.none.Statement.{statement}
use Rattle.trace_outside.proofs.requests.Requests.none.Code as code

pub none_spec : {M : Type 1} → statement M
none_spec 𝓤 𝓛 𝓜 𝓡 wired =
    let H = 𝓛.H in let 𝓣 = tables 𝓤 H 𝓜 𝓡 𝓡.env in let En = ended in let c = clauses 𝓛 𝓜.mem 𝓡.returns in
    let hs : Stays En.signature.params En.kept = tt in
    proved_at 𝓛 En hs c 𝓜 𝓡 tt #self code.function (code.unfolded 𝓤 H 𝓜 𝓡 wired) (λ z are.
    let κs = z.0.0 in let qs = z.0.1 in
    let Post : Val → _ = (walk_of 𝓛 En hs c).post z in
    let made : requests.the_row.Denot = record { names = [] } in
    let Told : Type 0 = made.names ≡ [] in
    qed 𝓛 ((raw (alive 𝓛 En.signature κs qs) ⊛ ‵ (owns (types_at En.signature.params κs) z.0.3 z.0.4)) ∷ raw ((c κs z.0.3).requires z.1) ∷ []) ∵
    split ! $ keep ! (0 ∷ []) $
    enter ! 𝓣.C 𝓣.Λ code.function [] Post $ alloc_all ! (λ l. pass_all ! refl tt $
    sets ! (agg ! (no_more !)) refl (tt, tt) $
    nothing ! $ use0 𝓛 (‵ (Fields 𝓛)) (fields_made 𝓛) $ fjoin ! $
    use0 𝓛 (raw (fact 𝓤 Told)) (fact_i 𝓤 Told (emp 𝓤) refl) $ nothing ! $
    returns ! (look_at ! 0 refl) $ free_all ! refl $ keep ! (3 ∷ 0 ∷ 2 ∷ 1 ∷ []) $ by ! (leaves 𝓛 En hs c z token made tt tt)))
