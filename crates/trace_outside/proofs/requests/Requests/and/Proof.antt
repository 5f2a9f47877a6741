-- `and` makes a value of the names that were there and the one that it is given.
use Rattle.std.proofs.Common.{◌≡◌, List, [], ◌∷◌, ◌++◌, length, refl, sym, subst}
use mir.Val.{Val, vptr}
use base.Logic.{ent, emp, id⊢, SProp}
use prog.Wp.{WpFn}
use types.Kit.{‵, raw, ◌⊛◌, ◌$◌, ◌∵◌, !, qed, by, keep, split, fjoin, suffices, use0}
use types.Run.{no_more, returns, enter}
use types.ByLocal.{alloc_all, pass_all, free_all, look_at, sets}
use types.Part.{agg}
use contract.Monad.{fact, fact_i}
use contract.Running.{tables}
use denote.Exit.{yes}
use denote.RattleType.{owns}
use denote.Builtin.{RefOf}
use denote.Slice.{slice_val}
use denote.Text.{StrRefOf}
use denote.Signature.{types_at, plain}
use denote.Steps.{nothing}
use denote.Triple.Entry.{alive}
use denote.Triple.Walked.{Stays, stay_dropped, walk_of, Goes-dropped}
use Rattle.std.proofs.raw_atomic.Walks.{proved_at, leaves}
use Rattle.trace_outside.proofs.Unwritten.{token, Fields, fields_made}
use Rattle.trace_outside.specs.contracts.requests.Requests as requests
use Rattle.trace_outside.specs.contracts.requests.Requests.and.{ended, clauses}
use Rattle.trace_outside.specs.contracts.requests.Requests.and.Key.{name as #self}
use Rattle.trace_outside.proofs.requests.Requests.and.Statement.{statement}
use Rattle.trace_outside.proofs.requests.Requests.and.Code as code

pub and_spec : {M : Type 1} → statement M
and_spec 𝓤 𝓛 𝓜 𝓡 wired =
    let H = 𝓛.H in let 𝓣 = tables 𝓤 H 𝓜 𝓡 𝓡.env in let En = ended in let c = clauses 𝓛 𝓜.mem 𝓡.returns in
    let old_slot = RefOf (0 ∷ []) tt (plain (λ _. requests.the_row)) (λ _. tt) in let name_slot = StrRefOf (1 ∷ []) tt in
    let hs : Stays En.signature.params En.kept = (stay_dropped old_slot yes, (stay_dropped name_slot yes, tt)) in
    proved_at 𝓛 En hs c 𝓜 𝓡 (Goes-dropped 𝓛 2 old_slot yes (λ κs x f. refl), (Goes-dropped 𝓛 2 name_slot yes (λ κs x f. refl), tt)) #self code.function (code.unfolded 𝓤 H 𝓜 𝓡 wired) (λ z are.
    let κs = z.0.0 in let qs = z.0.1 in
    let Post : Val → SProp 𝓤 = (walk_of 𝓛 En hs c).post z in
    let Run : List Val → SProp 𝓤 = λ ws. WpFn 𝓤 H 𝓣.C 𝓣.Λ code.function ws Post in
    let old = z.0.3.0 in let name = z.0.3.1.0 in
    let Vs : List Val = vptr old.ref_ptr.0 old.ref_ptr.1 ∷ slice_val name.ref_ptr (length name.now) ∷ [] in
    let made : requests.the_row.Denot = record { names = old.now.names ++ name.now ∷ [] } in
    let Told : Type 0 = made.names ≡ old.now.names ++ name.now ∷ [] in
    qed 𝓛 ((raw (alive 𝓛 En.signature κs qs) ⊛ ‵ (owns (types_at En.signature.params κs) z.0.3 z.0.4)) ∷ raw ((c κs z.0.3).requires z.1) ∷ []) ∵
    split ! $ keep ! (0 ∷ []) $
    suffices ! (Run Vs) (subst (λ (us : List Val). ent 𝓤 (Run Vs) (Run us)) (sym (λ i. are.0.0 i ++ (are.1.0.0.0.0 i ++ []))) (id⊢ 𝓤 (Run Vs))) $
    enter ! 𝓣.C 𝓣.Λ code.function Vs Post $ alloc_all ! (λ l. pass_all ! refl ((tt, tt), ((tt, (tt, (record { fits = are.1.0.0.0.1.0 }, tt))), tt)) $
    sets ! (agg ! (no_more !)) refl (tt, tt) $
    nothing ! $ use0 𝓛 (‵ (Fields 𝓛)) (fields_made 𝓛) $ fjoin ! $
    use0 𝓛 (raw (fact 𝓤 Told)) (fact_i 𝓤 Told (emp 𝓤) refl) $
    nothing ! $ nothing ! $ fjoin ! $ nothing ! $ fjoin ! $
    returns ! (look_at ! 0 refl) $ free_all ! refl $ keep ! (3 ∷ 0 ∷ 2 ∷ 1 ∷ []) $ by ! (leaves 𝓛 En hs c z token made (tt, (tt, tt)) (tt, (tt, tt)))))
