-- A latency file's report: the first line, and after it the rest of the file in pieces of one byte.
use Rattle.std.proofs.Common.{◌≡◌, ℕ, zero, suc, ◌-◌, arith, List, [], ◌∷◌, ◌++◌, length, map, take, drop, Option, None, Some, IfSome, refl, sym, ap, ◌∙◌, subst}
use Rattle.std.proofs.lemmas.List.{append-nil, take_all, length-drop}
use Rattle.std.proofs.lemmas.List.Concat.{flat_map-cons}
use Rattle.std.specs.Io.KnownBytes.{append_known}
use Rattle.trace_outside.specs.Writing.{Gained, GainedPrefix}
use Rattle.trace_outside.proofs.Gains.{gained_both, prefix_behind}
use Rattle.trace_outside.proofs.PendingLemmas.{prefix_longer}
use Rattle.trace_outside.specs.Pieces.{text_of}
use Rattle.file_report.specs.Meaning.{latency_report}
use Rattle.report_context.specs.Lines.{cpus_line}
use Rattle.run_endings.specs.Output.{WritesFor}
use Rattle.run_endings.specs.declared.status.Status.TheVariants.{Done, ReadFault, WriteFault}

bytes_alone : (bytes : List ℕ) (n : ℕ) → text_of (take n (map (λ byte. byte ∷ []) bytes)) ≡ take n bytes
bytes_alone [] zero = refl
bytes_alone [] (suc n) = refl
bytes_alone (byte ∷ bytes) zero = refl
bytes_alone (byte ∷ bytes) (suc n) =
    flat_map-cons (λ piece. piece) (byte ∷ []) (take n (map (λ b. b ∷ []) bytes)) ∙ ap (λ rest. byte ∷ rest) (bytes_alone bytes n)

all_alone : (bytes : List ℕ) → text_of (map (λ byte. byte ∷ []) bytes) ≡ bytes
all_alone [] = refl
all_alone (byte ∷ bytes) = flat_map-cons (λ piece. piece) (byte ∷ []) (map (λ b. b ∷ []) bytes) ∙ ap (λ rest. byte ∷ rest) (all_alone bytes)

whole_text : (cpus end : ℕ) (bytes : List ℕ) → text_of ((latency_report cpus end bytes).pieces) ≡ cpus_line cpus ++ drop end bytes
whole_text cpus end bytes =
    flat_map-cons (λ piece. piece) (cpus_line cpus) (map (λ byte. byte ∷ []) (drop end bytes)) ∙ ap (λ rest. cpus_line cpus ++ rest) (all_alone (drop end bytes))

rest_is : (size end : ℕ) (bytes : List ℕ) → length bytes ≡ size → take (size - end) (drop end bytes) ≡ drop end bytes
rest_is size end bytes is = take_all (size - end) (drop end bytes) (omega (arith, length-drop end bytes, is))

pub latency_done : (told : Option (List ℕ)) (size cpus end : ℕ) (old mid now : Option (List ℕ)) → IfSome told (λ file. length file ≡ size)
    → Gained old mid (cpus_line cpus) → IfSome told (λ bytes. Gained mid now (take (size - end) (drop end bytes)))
    → WritesFor (latency_report cpus end) told Done old now
latency_done None size cpus end old mid now is first copied = tt
latency_done (Some bytes) size cpus end old mid now is first copied = (
  refl,
  gained_both old mid now (cpus_line cpus) (drop end bytes)
      first (copied ∙ ap (append_known mid) (rest_is size end bytes is))
      ∙ ap (append_known old) (sym (whole_text cpus end bytes)),
)

pub latency_unread : (told : Option (List ℕ)) (size cpus end : ℕ) (old mid now : Option (List ℕ)) → IfSome told (λ file. length file ≡ size)
    → Gained old mid (cpus_line cpus) → IfSome told (λ bytes. GainedPrefix mid now (take (size - end) (drop end bytes)))
    → WritesFor (latency_report cpus end) told ReadFault old now
latency_unread None size cpus end old mid now is first copied = tt
latency_unread (Some bytes) size cpus end old mid now is first copied = (
  suc copied.0,
  gained_both old mid now (cpus_line cpus) (take copied.0 (drop end bytes))
      first (copied.1 ∙ ap (λ rest. append_known mid (take copied.0 rest)) (rest_is size end bytes is))
      ∙ ap (append_known old) (sym (flat_map-cons (λ piece. piece) (cpus_line cpus) (take copied.0 (map (λ byte. byte ∷ []) (drop end bytes)))
      ∙ ap (λ rest. cpus_line cpus ++ rest) (bytes_alone (drop end bytes) copied.0))),
)

pub latency_unwritten : (told : Option (List ℕ)) (size cpus end : ℕ) (old mid now : Option (List ℕ)) → IfSome told (λ file. length file ≡ size)
    → Gained old mid (cpus_line cpus) → IfSome told (λ bytes. GainedPrefix mid now (take (size - end) (drop end bytes)))
    → WritesFor (latency_report cpus end) told WriteFault old now
latency_unwritten None size cpus end old mid now is first copied = tt
latency_unwritten (Some bytes) size cpus end old mid now is first copied =
    prefix_behind old mid now (cpus_line cpus) (drop end bytes) [] (text_of ((latency_report cpus end bytes).pieces))
    (whole_text cpus end bytes ∙ ap (λ rest. cpus_line cpus ++ rest) (sym (append-nil (drop end bytes))))
    first
    (subst (λ (rest : List ℕ). GainedPrefix mid now rest) (rest_is size end bytes is) copied)

pub latency_unbegun : (told : Option (List ℕ)) (cpus end : ℕ) (old now : Option (List ℕ))
    → GainedPrefix old now (cpus_line cpus) → WritesFor (latency_report cpus end) told WriteFault old now
latency_unbegun None cpus end old now first = tt
latency_unbegun (Some bytes) cpus end old now first =
    subst (λ (whole : List ℕ). GainedPrefix old now whole) (sym (whole_text cpus end bytes))
    (prefix_longer old now (cpus_line cpus) (drop end bytes) first)
