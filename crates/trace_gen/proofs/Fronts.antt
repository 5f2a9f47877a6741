-- The command lines of a generated file, made one after another, and its header, which may be written and fits into a
-- page.
use Rattle.std.proofs.Common.{◌≡◌, ℕ, zero, suc, ◌+◌, ◌-◌, ◌*◌, ◌^◌, ◌<◌, ◌≤◌, List, [], ◌∷◌, ◌++◌, length, map, codes, inr, refl, ap, ◌∙◌, append-nil, rules, arith}
use Rattle.std.specs.List.{range_with_len}
use Rattle.std.proofs.lemmas.List.{map-append}
use Rattle.std.proofs.lemmas.Grind.{flat_map-append}
use Rattle.trace_base.specs.declared.part.Part.{Part}
use Rattle.std.specs.Fmt.{decimal}
use Rattle.std.proofs.lemmas.List.{length-append}
use Rattle.std.proofs.lemmas.List.Elements.{All-nil, All-cons}
use Rattle.std.proofs.lemmas.Fmt.{length-decimal-le}
use Rattle.trace_base.specs.Layout.{layout_with}
use Rattle.dat_header.specs.Allowed.{IsHeader, IsSystem}
use Rattle.dat_header.specs.PageText.{layout_of}
use Rattle.dat_header.specs.Written.{header_text}
use Rattle.dat_header.proofs.Wrapped.{length-header_text}
use Rattle.trace_gen.specs.GeneratedHeader.{format_text, task_line, task_lines, text_of_lines, header_but_parts}
use Rattle.trace_gen.proofs.Drawn.{range_push}

-- the lines of the tasks before this pid
abbrev pub tasks_before : ℕ → List ℕ
tasks_before pid = text_of_lines (map task_line (range_with_len 1 (pid - 1)))

pub more_tasks : (pid : ℕ) → 1 ≤ pid → tasks_before (pid + 1) ≡ tasks_before pid ++ (task_line pid ++ codes "\n")
more_tasks pid some =
    let n = pid - 1 in
    let next : pid + 1 - 1 ≡ suc n = omega arith in
    let this : 1 + n ≡ pid = omega arith in
    ap (λ k. text_of_lines (map task_line (range_with_len 1 k))) next
    ∙ ap (λ (ks : List ℕ). text_of_lines (map task_line ks)) (range_push 1 n ∙ ap (λ k. range_with_len 1 n ++ k ∷ []) this)
    ∙ ap text_of_lines (map-append task_line (range_with_len 1 n) (pid ∷ []))
    ∙ flat_map-append (λ line. line ++ codes "\n") (map task_line (range_with_len 1 n)) (task_line pid ∷ [])
    ∙ ap (λ (t : List ℕ). tasks_before pid ++ t) (append-nil (task_line pid ++ codes "\n"))

task_len : (pid : ℕ) → pid < 100 → length (task_line pid ++ codes "\n") ≤ 11
task_len pid few =
    let digits = length-decimal-le 2 pid (omega arith) (omega arith) (omega arith) in
    omega (arith, digits, length-append (task_line pid) (codes "\n"), length-append (decimal pid) (codes " task-" ++ decimal pid), length-append (codes " task-") (decimal pid))

tasks_len : (n : ℕ) → n ≤ 99 → length (tasks_before (n + 1)) ≤ 11 * n
tasks_len zero few = omega arith
tasks_len (suc n) few =
    let same : suc n ≡ n + 1 = omega arith in
    let more : length (tasks_before (n + 1 + 1)) ≡ length (tasks_before (n + 1) ++ (task_line (n + 1) ++ codes "\n")) = ap length (more_tasks (n + 1) (omega arith)) in
    rw same (omega (arith, more, length-append (tasks_before (n + 1)) (task_line (n + 1) ++ codes "\n"), task_len (n + 1) (omega arith), tasks_len n (omega arith)))

pub all_tasks_len : length (text_of_lines task_lines) ≤ 1089
all_tasks_len = tasks_len 99 (omega arith)

format_len : length format_text ≡ 478
format_len = refl

pub header_len : (parts : List Part) → length parts ≡ 4 → length (header_text header_but_parts parts) ≤ 4096
header_len parts four = omega (arith, length-header_text header_but_parts parts, four, all_tasks_len, format_len)

pub is_header : IsHeader header_but_parts
unfolding layout_of layout_with
is_header = record {
  long = inr refl;
  page = (12, omega arith, omega arith, refl);
  page_text = omega arith;
  layout = refl;
  event_text = omega arith;
  ftrace = record { counted = omega arith; sized = All-nil (λ text. length text < 2 ^ 64) };
  systems = record { counted = omega arith; each = All-cons IsSystem (record { name = codes "selftest"; formats = format_text ∷ [] }) [] is_system (All-nil IsSystem) };
  kallsyms = omega arith;
  printk = omega arith;
  cmdlines = omega (arith, all_tasks_len);
  cpus = omega arith;
  options = tt;
  body = tt;
}
  where
    is_system : IsSystem (record { name = codes "selftest"; formats = format_text ∷ [] })
    is_system = record {
      name = search rules;
      formats = record { counted = omega arith; sized = All-cons (λ text. length text < 2 ^ 64) format_text [] (omega (arith, format_len)) (All-nil (λ text. length text < 2 ^ 64)) };
    }
