-- A processor's events on their way to a sink.
use Rattle.std.proofs.Common.{◌≡◌, ℕ, ◌+◌, ◌^◌, ◌<◌, List, [], ◌∷◌, ◌++◌, Option, Result, Ok, Err, OnOk, sym, subst, arith}
use Rattle.trace_base.specs.declared.layout.Layout.{Layout}
use Rattle.trace_base.specs.Layout.{IsLayout}
use Rattle.subpage.specs.ItemData.{ItemData}
use Rattle.page_write.specs.PageBytes.{IsPackable}
use Rattle.page_write.specs.Pack.{pack}
use Rattle.trace_outside.specs.Writing.{Gained}
use Rattle.page_write.proofs.Packable.{few_packable}
use Rattle.page_write.specs.Passes.{HasPages, GoesOn, Ends}
use Rattle.page_write.proofs.Steps.{no_pages}
use Rattle.trace_gen.specs.Generated.{cpu_at, pid_at, value_at, payload_of, time_behind, event_at, events_of}
use Rattle.trace_gen.proofs.Drawn.{time_small}

pub no_events : (l : Layout) (told : Option (List ℕ)) (seed cpu : ℕ) (held : List ItemData) → held ≡ [] → HasPages l told told (events_of seed cpu 0) held
unfolding events_of
no_events l told seed cpu held none = no_pages l told held none

pub event_packable : (l : Layout) (seed n : ℕ) → IsLayout l → n < 2 ^ 32 → IsPackable l (event_at seed n)
unfolding event_at
event_packable l seed n allowed few =
    few_packable l (time_behind seed (cpu_at seed n) (n + 1)) (payload_of (pid_at seed n) (value_at seed n)) allowed (omega (arith, time_small seed (cpu_at seed n) (n + 1), few)) (omega arith)

pub packable_as : (l m : Layout) (seed n : ℕ) (x : ItemData) → IsLayout l → m ≡ l → n < 2 ^ 32 → x ≡ event_at seed n → IsPackable m x
packable_as l m seed n x allowed same few is =
    subst (λ (y : ItemData). IsPackable m y) (sym is) (subst (λ (k : Layout). IsPackable k (event_at seed n)) (sym same) (event_packable l seed n allowed few))

pub more_pages : (l m : Layout) (before old now : Option (List ℕ)) (xs ys held held_now : List ItemData) (x : ItemData) → m ≡ l → ys ≡ xs ++ x ∷ [] → GoesOn m x old held now held_now → HasPages l before old xs held → HasPages l before now ys held_now
more_pages l m before old now xs ys held held_now x same is goes h =
    let on = subst (λ (k : Layout). GoesOn k x old held now held_now) same goes in
    subst (λ (zs : List ItemData). HasPages l before now zs held_now) (sym is) (on before xs h)

pub all_written : {T E : Type 0} (r : Result T E) (l m : Layout) (before old now : Option (List ℕ)) (xs ys held : List ItemData) → m ≡ l → xs ≡ ys → OnOk r (Ends m old held now) → HasPages l before old xs held → OnOk r (Gained before now (pack l ys))
all_written (Ok x) l m before old now xs ys held same is ends h =
    let on = subst (λ (k : Layout). Ends k old held now) same ends in
    subst (λ (zs : List ItemData). Gained before now (pack l zs)) is (on before xs h)
all_written (Err e) l m before old now xs ys held same is ends h = tt
