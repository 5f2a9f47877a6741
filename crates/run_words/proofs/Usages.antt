-- What words ask for, by what was read of them.
use Rattle.std.proofs.Common.{◌≡◌, ℕ, suc, ◌+◌, ◌-◌, ◌<◌, ◌≤◌, Bool, List, [], ◌∷◌, ◌++◌, map, length, take, drop, get_or, Result, Ok, Err, ap, sym, subst, ◌∙◌, arith}
use Rattle.std.proofs.Math.Seq.{split_at}
use Rattle.std.proofs.lemmas.List.{map-append, length-drop, take_all, take_more}
use Rattle.trace_args.specs.declared.fault.WordFault.{WordFault}
use Rattle.trace_args.specs.declared.command.FilterWord.{FilterWord}
use Rattle.trace_args.specs.Command.{FilterData, filter_view}
use Rattle.run_words.specs.Job.{Job, job_of}
use Rattle.std.specs.Result.{result_unwrap_or}
use Rattle.filter_lang.specs.Filter as lang
use Rattle.filter_lang.specs.FaultView.{IsRefusedAt, IsPlaceIn}
use Rattle.filter_lang.specs.Texts.{IsFilterText, RefusedText}
use Rattle.filter_lang.specs.declared.fault.FilterFault.{FilterFault}
use Rattle.filter_lang.specs.declared.fault.FilterFault.TheVariants as code
use Rattle.filter_lang.proofs.Computed.{filter_read, refusal_read}
use Rattle.filter_truth.specs.Selection.{UseData}
use Rattle.filter_truth.specs.SelectionView.{use_of}
use Rattle.filter_truth.specs.declared.select.FilterUse.{FilterUse}
use Rattle.run_words.specs.declared.usage.UsageFault.{UsageFault}
use Rattle.run_words.specs.declared.usage.UsageFault.TheVariants.{Word, Filter}
use Rattle.run_words.specs.declared.usage.AskFault.{AskFault}
use Rattle.run_words.specs.declared.usage.AskFault.TheVariants.{Usage, Memory}
use Rattle.run_words.proofs.Readings.{readings_fault, readings_more}
use Rattle.run_words.specs.Usage.{use_by, use_read, filters_read, job_filters, with_filters, asked_by, asked, uses_in}
use Rattle.run_words.specs.UsageView.{IsFaultOf, ask_fault}

abbrev use' : Bool → lang.FilterData → UseData
use' hide filter = record { hide = hide; filter = filter }

abbrev no_use : ℕ → ℕ → Result UseData UsageFault
no_use word place = Err (Filter word place)

abbrev pub Filters : Type 0
Filters = Result (List UseData) UsageFault

-- what the first few words' filters give
abbrev pub read_up_to : List FilterWord → ℕ → Filters
read_up_to ws i = filters_read (map filter_view (take i ws))

-- one more filter was read
pub one_more : (ws : List FilterWord) (i : ℕ) (w : FilterWord) (done all : List FilterUse) (one : FilterUse) → i < length ws → w ≡ get_or ws i w → all ≡ done ++ one ∷ [] → use_read (filter_view w) ≡ Ok (use_of one)
    → read_up_to ws i ≡ Ok (map use_of done) → read_up_to ws (i + 1) ≡ Ok (map use_of all)
one_more ws i w done all one lt is pushed read so_far =
    ap (λ (us : List FilterWord). filters_read (map filter_view us)) (take_more ws i w lt ∙ ap (λ (u : FilterWord). take i ws ++ u ∷ []) (sym is))
    ∙ ap filters_read (map-append filter_view (take i ws) (w ∷ []))
    ∙ readings_more use_read (map filter_view (take i ws)) (filter_view w) (map use_of done) (use_of one) so_far read
    ∙ ap Ok (sym (map-append use_of done (one ∷ []))) ∙ ap (λ (us : List FilterUse). Ok (map use_of us)) (sym pushed)

-- all were read
pub all_read : (ws : List FilterWord) (i : ℕ) (done : List FilterUse) → length ws ≤ i → read_up_to ws i ≡ Ok (map use_of done) → filters_read (map filter_view ws) ≡ Ok (map use_of done)
all_read ws i done past so_far = ap (λ (us : List FilterWord). filters_read (map filter_view us)) (sym (take_all i ws past)) ∙ so_far

-- one was none
pub one_none : (ws : List FilterWord) (i : ℕ) (w : FilterWord) (done : List FilterUse) (why : AskFault) → i < length ws → w ≡ get_or ws i w → IsFaultOf (use_read (filter_view w)) why
    → read_up_to ws i ≡ Ok (map use_of done) → IsFaultOf (filters_read (map filter_view ws)) why
one_none ws i w done (Usage fault) lt is bad so_far =
    let rest = drop (suc i) ws in
    ap (λ (us : List FilterWord). filters_read (map filter_view us)) (split_at ws i w lt ∙ ap (λ (u : FilterWord). take i ws ++ u ∷ rest) (sym is))
    ∙ ap filters_read (map-append filter_view (take i ws) (w ∷ rest))
    ∙ readings_fault use_read (map filter_view (take i ws)) (filter_view w) (map use_of done) (map filter_view rest) fault so_far bad
one_none ws i w done Memory lt is bad so_far = tt

-- the words have a reading, and all filters have one
pub all_asked : (words : List (List ℕ)) (job : Job) (uses : List UseData) → job_of words ≡ Ok job → filters_read (job_filters job) ≡ Ok uses → asked words ≡ Ok job
unfolding asked
all_asked words job uses read filters = ap asked_by read ∙ ap (with_filters job) filters

-- a filter has none
filter_fault : (job : Job) (read : Filters) (why : AskFault) → IsFaultOf read why → IsFaultOf (with_filters job read) why
filter_fault job read (Usage fault) is = ap (with_filters job) is
filter_fault job read Memory is = tt

pub filter_asked : (words : List (List ℕ)) (job : Job) (why : AskFault) → job_of words ≡ Ok job → IsFaultOf (filters_read (job_filters job)) why → IsFaultOf (asked words) why
unfolding asked
filter_asked words job why read fault =
    subst (λ (r : Result Job WordFault). IsFaultOf (asked_by r) why) (sym read) (filter_fault job (filters_read (job_filters job)) why fault)

-- the words have none
pub word_asked : (words : List (List ℕ)) (fault : WordFault) → job_of words ≡ Err fault → asked words ≡ Err (Word fault)
unfolding asked
word_asked words fault read = ap asked_by read

-- what a filter's text gives
pub text_read : (w : FilterData) (filter : lang.FilterData) → IsFilterText w.text filter → use_read w ≡ Ok (use' w.hide filter)
text_read w filter is = ap (use_by w) (filter_read w.text filter is)

text_refused : (w : FilterData) (place : ℕ) → RefusedText w.text (drop place w.text) → place ≤ length w.text → use_read w ≡ Err (Filter w.word place)
text_refused w place refused within =
    let long : length w.text - length (drop place w.text) ≡ place = omega (arith, length-drop place w.text) in
    ap (use_by w) (refusal_read w.text (drop place w.text) refused) ∙ ap (no_use w.word) long

-- a filter's fault is one of the words
pub fault_asked : (w : FilterData) (fault : FilterFault) → IsRefusedAt w.text fault → IsPlaceIn w.text fault → IsFaultOf (use_read w) (ask_fault w.word fault)
fault_asked w (code.At place) refused within = text_refused w place refused within
fault_asked w code.Memory refused within = tt

-- the filters of words that were read
pub uses_known : (ws : List FilterData) (uses : List UseData) → filters_read ws ≡ Ok uses → uses_in ws ≡ uses
unfolding uses_in
uses_known ws uses read = ap (λ (r : Filters). result_unwrap_or r []) read
