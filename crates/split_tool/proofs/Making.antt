-- One file more in the folder, and the end of a split.
use Rattle.std.proofs.Common.{◌≡◌, ℕ, zero, suc, ◌+◌, ◌-◌, ◌*◌, ◌^◌, ◌<◌, ◌≤◌, Bool, true, false, ◌&&◌, not, if◌then◌else◌, List, [], ◌∷◌, ◌++◌, length, drop, map, Option, Some, None, Result, Ok, Err, refl, sym, ap, subst, ◌∙◌, arith}
use Rattle.std.specs.Option.{IfSome}
use Rattle.std.specs.List.{All, take_while}
use Rattle.std.specs.FinMap.{insert}
use Rattle.std.specs.Io.KnownBytes.{append_known}
use Rattle.std.proofs.lemmas.Bool.{and_parts}
use Rattle.std.proofs.Math.Nat.{mul-le-mul}
use Rattle.std.proofs.lemmas.List.{length-append, length-map}
use Rattle.std.proofs.lemmas.List.Elements.{All-head, All-tail, All-weaker}
use Rattle.trace_base.specs.declared.layout.Layout.{Layout}
use Rattle.trace_base.specs.declared.part.Part.{Part}
use Rattle.trace_base.specs.Layout.{IsLayout}
use Rattle.trace_outside.specs.declared.counts.Counts.{Counts}
use Rattle.trace_outside.specs.Causes.{raised}
use Rattle.trace_outside.specs.Names.{NamedFiles, stored}
use Rattle.trace_outside.specs.Folders.{IsEmptySink, Stores}
use Rattle.trace_outside.specs.Writing.{Gained}
use Rattle.dat_header.specs.declared.header.Header.{Header}
use Rattle.dat_header.specs.Allowed.{IsHeader}
use Rattle.trace_base.proofs.Layouts.{carried}
use Rattle.subpage.specs.Arrangement.{Keyed, CpusRise, all_keyed}
use Rattle.subpage.specs.Cut.{reached_of, lists_of as lists_in}
use Rattle.subpage.specs.declared.cut_place.CutPlace.{CutPlace}
use Rattle.page_pool.specs.Fresh.{IsFresh}
use Rattle.page_pool.specs.declared.lane.Lane.{Lane}
use Rattle.page_write.specs.Placed.{data_of}
use Rattle.event_cursor.specs.Standing.{Stands}
use Rattle.time_merge.specs.LaneRows.{HasLayout, parts_of}
use Rattle.time_merge.proofs.LaneLaws.{after_above}
use Rattle.time_merge.proofs.Starting.{fresh_stands}
use Rattle.time_merge.specs.declared.ending.End.{End}
use Rattle.time_merge.specs.declared.ending.End.TheVariants as code
use Rattle.time_merge.specs.declared.ending.IoFault.{IoFault}
use Rattle.time_merge.specs.declared.ending.IoFault.TheVariants as fault
use Rattle.word_values.specs.declared.moment.Moment.{Moment}
use Rattle.split_pieces.specs.declared.rules.Rules.{Rules}
use Rattle.split_pieces.specs.Moments.{is_past, is_before}
use Rattle.split_pieces.specs.Cuts.{is_apart, own_list, lists_to_cut, bad_reached, file_items}
use Rattle.split_pieces.specs.Pieces.{IsUnit, is_some_left, joined_lists, behind_file, from_start, up_to_end, left_in}
use Rattle.split_pieces.proofs.Cutting.{front_whole}
use Rattle.split_passes.specs.AllAgain.{owns}
use Rattle.split_passes.specs.ListSeen.{ListSeen}
use Rattle.split_tool.specs.Names.{file_name}
use Rattle.split_tool.specs.NewFile.{file_text, front_text, table_of}
use Rattle.split_tool.specs.declared.lists.Ends.{Ends}
use Rattle.split_tool.specs.Counted.{lists_of}
use Rattle.split_tool.specs.Lists.{EachList, lanes_of, files_of, files_behind, lists_left, bad_left}
use Rattle.split_tool.specs.Made.{Prepared, Written, Made, IsMade, LeavesFile}
use Rattle.split_tool.specs.Unmaking.{ending_of}
use Rattle.split_tool.specs.declared.unmade.Unmade.{Unmade}
use Rattle.split_tool.specs.declared.unmade.Unmade.TheVariants as unmade
use Rattle.split_tool.specs.Measured.{taken_of}
use Rattle.split_tool.specs.NewFiles.{Creates, files_from, new_files, end_by, IsSplit}
use Rattle.split_tool.specs.Started.{Started}
use Rattle.split_tool.specs.Work.{AreLists, CanCut, IsWorkFor}
use Rattle.split_tool.specs.declared.work.SplitWork.{SplitWork}
use Rattle.new_files.specs.Stored.{NewFile}
use Rattle.split_tool.proofs.Beginning.{started_lists, started_bad}
use Rattle.split_tool.proofs.FewItems.{Few, few_keyed, few_reached}
use Rattle.split_tool.proofs.FileAfterFile.{goes_on, ends as no_files, fewer_left, some_length}
use Rattle.split_tool.proofs.Owning.{IsAfter}
use Rattle.split_tool.proofs.Preparing.{left_still, same_cpus}
use Rattle.split_tool.proofs.Flat.{Kept, groups_kept, parts_kept}
use Rattle.split_tool.proofs.Packing.{never_fault}
use Rattle.split_tool.proofs.Tables.{IsBelow, IsFrom}
use Rattle.split_tool.proofs.Storing.{Stages, stages_none, stages_more, all_stored, some_stored, first_stored, unmade_since}
use Rattle.split_passes.proofs.PieceLaws.{filter_few}
use Rattle.split_passes.proofs.Running.{rises_tail}

-- A FILE WAS FINISHED

pub stored_is : (old1 old new : Option NamedFiles) (w0 w : Option (List ℕ)) (name name1 content : List ℕ) → old1 ≡ old → name1 ≡ name → IsEmptySink old w0 → Gained w0 w content → Stores old1 new name1 w → IfSome old (λ files. new ≡ Some (insert files name content))
stored_is old1 None new w0 w name name1 content e n empty gained stores = tt
stored_is old1 (Some files) new w0 w name name1 content e n empty gained stores =
    let is : w ≡ Some content = gained ∙ ap (λ (o : Option (List ℕ)). append_known o content) empty in
    let s : new ≡ stored old1 name1 content = subst (λ (o : Option (List ℕ)). IfSome o (λ bytes. new ≡ stored old1 name1 bytes)) is stores in
    s ∙ ap (λ (o : Option NamedFiles). stored o name1 content) e ∙ ap (λ (m : List ℕ). stored (Some files) m content) n

pub finished : (header : Header) (file : List ℕ) (rules : Rules) (name name1 : List ℕ) (first mid now : List ListSeen) (table : List Part) (old old1 new : Option NamedFiles) (w0 w : Option (List ℕ)) (ends : Ends)
    → old1 ≡ old → name1 ≡ name → IsEmptySink old w0 → Stores old1 new name1 w → Prepared header file rules first mid table ends
    → Written header file table (owns (lanes_of mid) (taken_of file rules (lanes_of first))) (record { lanes = lanes_of mid; written = w0 }) (record { lanes = lanes_of now; written = w })
    → Made (record { header = header; rules = rules; name = name }) file (record { lanes = lanes_of first; files = old }) (record { lanes = lanes_of now; files = new }) ends
unfolding file_text
finished header file rules name name1 first mid now table old old1 new w0 w ends e n empty stores p written =
    let lists = lists_of header.cpus (taken_of file rules (lanes_of first)) in
    let content : front_text header table ++ data_of header.layout (owns (lanes_of mid) (taken_of file rules (lanes_of first))) ≡ front_text header (table_of header lists) ++ data_of header.layout lists =
    ap (λ (bytes : List ℕ). front_text header table ++ bytes) p.bytes ∙ ap (λ (ps : List Part). front_text header ps ++ data_of header.layout lists) p.table_is in
    record {
      left = left_still file rules (lanes_of first) (lanes_of first) (lanes_of mid) (lanes_of now) ends refl written.rows written.stands p.left;
      stored = stored_is old1 old new w0 w name name1 _ e n empty (subst (Gained w0 w) content written.gained) stores;
    }

-- THE NUMBER OF ITEMS

up_few : (stop : Option Moment) (xs : List Keyed) → length (up_to_end stop xs) ≤ length xs
up_few None xs = omega arith
up_few (Some m) xs =
    let p = λ (x : Keyed). not (is_past m x.key) in
    let parts : length (take_while p xs ++ drop (length (take_while p xs)) xs) ≡ length xs = ap length (front_whole p xs) in
    omega (arith, parts, length-append (take_while p xs) (drop (length (take_while p xs)) xs))

start_few : (start : Option Moment) (xs : List Keyed) → length (from_start start xs) ≤ length xs
start_few None xs = omega arith
start_few (Some m) xs = filter_few (λ x. not (is_before m x.key)) xs

pub left_few : (rules : Rules) (lists : List (List Keyed)) → length (joined_lists (map (left_in rules) lists)) ≤ length (joined_lists lists)
left_few rules [] = omega arith
left_few rules (xs ∷ lists) =
    omega (arith, length-append (left_in rules xs) (joined_lists (map (left_in rules) lists)), length-append xs (joined_lists lists), up_few rules.stop (from_start rules.start xs), start_few rules.start xs, left_few rules lists)

own_joined : (l : Layout) (file : List ℕ) (parts : List (ℕ × Part)) → joined_lists (map (own_list l file) parts) ≡ all_keyed (lists_in l file parts)
own_joined l file [] = refl
own_joined l file (p ∷ parts) = ap (λ (xs : List Keyed). own_list l file p ++ xs) (own_joined l file parts)

pub cut_few : (l : Layout) (file : List ℕ) (rules : Rules) (parts : List (ℕ × Part)) → IsLayout l → Few (length (joined_lists (lists_to_cut rules l file parts))) (length parts * length file)
cut_few l file rules parts allowed = by_apart (is_apart rules)
  where
    by_apart : (b : Bool) → Few (length (joined_lists (if b then map (own_list l file) parts else reached_of l file parts ∷ []))) (length parts * length file)
    by_apart true = let e : length (joined_lists (map (own_list l file) parts)) ≡ length (all_keyed (lists_in l file parts)) = ap length (own_joined l file parts) in omega (arith, e, few_keyed l file parts allowed)
    by_apart false = omega (arith, length-append (reached_of l file parts) [], few_reached l file parts allowed)

lanes_few : (n k : ℕ) (lanes : List Lane) → CpusRise (parts_of lanes) → All (IsFrom k) lanes → All (IsBelow (k + n)) lanes → length lanes ≤ n
lanes_few n k [] rise least most = omega arith
lanes_few zero k (a ∷ lanes) rise least most = absurd (omega (arith, All-head (IsBelow (k + 0)) a lanes most, All-head (IsFrom k) a lanes least))
lanes_few (suc n) k (a ∷ lanes) rise least most =
    let lt : a.cpu < k + suc n = All-head (IsBelow (k + suc n)) a lanes most in
    let least_here : k ≤ a.cpu = All-head (IsFrom k) a lanes least in
    let later : All (IsFrom (k + 1)) lanes = All-weaker (IsAfter a.cpu) (IsFrom (k + 1)) (λ x h. omega (arith, h, least_here)) lanes (after_above a lanes rise) in
    let more : All (IsBelow (k + 1 + n)) lanes = All-weaker (IsBelow (k + suc n)) (IsBelow (k + 1 + n)) (λ x h. omega (arith, h)) lanes (All-tail (IsBelow (k + suc n)) a lanes most) in
    omega (arith, lanes_few n (k + 1) lanes (rises_tail a lanes rise) later more)

pub few_lanes : (cpus : ℕ) (lanes : List Lane) → CpusRise (parts_of lanes) → All (λ (a : Lane). a.cpu < cpus) lanes → length lanes ≤ cpus
few_lanes cpus lanes rise below =
    lanes_few cpus 0 lanes rise (λ i d lt. omega arith) (λ i d lt. omega (arith, below i d lt))

-- FILE AFTER FILE

pub record Progress (header : Header) (base : List ℕ) (file : List ℕ) (rules : Rules) (news : List NewFile) (bad : Option CutPlace) (number : ℕ) (now : List Lane) (old new : Option NamedFiles) : Type 0 where
  pub stands : All (Stands file) now
  pub stage : Stages news (files_from header base number (files_of rules (lists_left file rules now))) old new
  pub small : length file < 2 ^ 64
  pub bad_is : bad_left file rules now ≡ bad
  pub counted : length news + 1 ≡ number + length (files_from header base number (files_of rules (lists_left file rules now)))
  pub few : number + length (joined_lists (lists_left file rules now)) ≤ 2 ^ 75

pub progress_none : (header : Header) (base : List ℕ) (rules : Rules) (file : List ℕ) (first now : List Lane) (old : Option NamedFiles) → IsHeader header → All (HasLayout header.layout) first → All (HasLayout header.layout) now → CpusRise (parts_of first) → All (λ (a : Lane). a.cpu < header.cpus) first
    → All (λ (a : Lane). IsFresh a.cursor) first → parts_of now ≡ parts_of first → length file < 2 ^ 64 → Started file rules first now
    → Progress header base file rules (new_files rules base header file (parts_of first)) (bad_reached rules header.layout file (parts_of first)) 1 now old old
progress_none header base rules file first now old allowed layouts layouts_now rise cpus fresh parts small s =
    let l = header.layout in
    let lists : lists_left file rules now ≡ map (left_in rules) (lists_to_cut rules l file (parts_of first)) = started_lists l file rules first now layouts fresh s in
    let items : files_of rules (lists_left file rules now) ≡ file_items rules l file (parts_of first) = ap (files_of rules) lists in
    let news : new_files rules base header file (parts_of first) ≡ files_from header base 1 (files_of rules (lists_left file rules now)) = ap (files_from header base 1) (sym items) in
    let layout = carried header.layout in
    let lanes : length first ≤ header.cpus = few_lanes header.cpus first rise cpus in
    let few : length (joined_lists (lists_left file rules now)) ≤ length first * length file =
    let cut = cut_few l file rules (parts_of first) layout in
    let some : length (joined_lists (lists_left file rules now)) ≡ length (joined_lists (map (left_in rules) (lists_to_cut rules l file (parts_of first)))) = ap (λ (xss : List (List Keyed)). length (joined_lists xss)) lists in
    let long : length (parts_of first) * length file ≡ length first * length file = ap (λ (n : ℕ). n * length file) (length-map first (λ (a : Lane). (a.cpu, a.part))) in
    omega (arith, some, left_few rules (lists_to_cut rules l file (parts_of first)), cut, long) in
    let most_lanes : length first ≤ 1024 = omega (arith, lanes, allowed.cpus) in
    let room : length file ≤ 2 ^ 64 = omega (arith, small) in
    let most : length first * length file ≤ 1024 * 2 ^ 64 = mul-le-mul most_lanes room in
    record {
      stands = s.stands;
      stage = subst (λ (more : List NewFile). Stages (new_files rules base header file (parts_of first)) more old old) news (stages_none (new_files rules base header file (parts_of first)) old);
      small = small;
      counted = omega (arith, ap (λ (fs : List NewFile). length fs) news);
      bad_is = started_bad l file rules first now layouts layouts_now fresh parts s;
      few = omega (arith, few, most);
    }

module _ (header : Header) (base : List ℕ) (file : List ℕ) (rules : Rules) (news : List NewFile) (bad : Option CutPlace) (number : ℕ) (now later : List Lane) (old mid new : Option NamedFiles) where
  pub progress_more : (ends : Ends) → IsUnit rules.unit → (ends.more && rules.repeat) ≡ true → Made (record { header = header; rules = rules; name = file_name base number }) file (record { lanes = now; files = mid }) (record { lanes = later; files = new }) ends
      → Progress header base file rules news bad number now old mid → Progress header base file rules news bad (number + 1) later old new
  progress_more ends unit more m p =
      let lists = lists_left file rules now in
      let both = and_parts ends.more rules.repeat more in
      let some : is_some_left (joined_lists (behind_file rules.unit lists)) ≡ true = ap (λ (xss : List (List Keyed)). is_some_left (joined_lists xss)) (sym m.left.left) ∙ sym m.left.more ∙ both.0 in
      let rest : files_behind rules lists ≡ files_of rules (lists_left file rules later) = goes_on rules lists unit both.1 some ∙ ap (files_of rules) (sym m.left.left) in
      let fewer : length (joined_lists (behind_file rules.unit lists)) < length (joined_lists lists) = fewer_left rules.unit lists unit (some_length _ some) in
      let long : length (joined_lists (lists_left file rules later)) ≡ length (joined_lists (behind_file rules.unit lists)) = ap (λ (xss : List (List Keyed)). length (joined_lists xss)) m.left.left in
      record {
        stands = m.left.stands;
        stage = subst (λ (fs : List (List Keyed)). Stages news (files_from header base (number + 1) fs) old new) rest (stages_more news _ _ old mid new m.stored p.stage);
        small = p.small;
        counted = subst (λ (fs : List (List Keyed)). length news + 1 ≡ number + 1 + length (files_from header base (number + 1) fs)) rest (omega (arith, p.counted));
        bad_is = m.left.bad both.1 ∙ p.bad_is;
        few = omega (arith, p.few, fewer, long);
      }

  pub progress_last : (ends : Ends) (result : End) (counts now_counts : Counts) (asked asked_now : List (List ℕ)) → (ends.more && rules.repeat) ≡ false → result ≡ end_by ends.bad → Made (record { header = header; rules = rules; name = file_name base number }) file (record { lanes = now; files = mid }) (record { lanes = later; files = new }) ends
      → Progress header base file rules news bad number now old mid → IsSplit news (end_by bad) (record { files = old; counts = counts; requested = asked }) (record { files = new; counts = now_counts; requested = asked_now }) (Ok result)
  progress_last ends result counts now_counts asked asked_now more is m p =
      let lists = lists_left file rules now in
      let none : (is_some_left (joined_lists (behind_file rules.unit lists)) && rules.repeat) ≡ false =
      ap (λ (xss : List (List Keyed)). is_some_left (joined_lists xss) && rules.repeat) (sym m.left.left) ∙ ap (λ (b : Bool). b && rules.repeat) (sym m.left.more) ∙ more in
      let stored : Stages news [] old new = subst (λ (fs : List (List Keyed)). Stages news (files_from header base (number + 1) fs) old new) (no_files rules lists none) (stages_more news _ _ old mid new m.stored p.stage) in
      (is ∙ ap end_by (m.left.bad_ends more ∙ p.bad_is), all_stored news old new stored)

  none_behind : (ends : Ends) → (ends.more && rules.repeat) ≡ false → Made (record { header = header; rules = rules; name = file_name base number }) file (record { lanes = now; files = mid }) (record { lanes = later; files = new }) ends
      → files_behind rules (lists_left file rules now) ≡ []
  none_behind ends more m =
      no_files rules (lists_left file rules now)
      (ap (λ (xss : List (List Keyed)). is_some_left (joined_lists xss) && rules.repeat) (sym m.left.left) ∙ ap (λ (b : Bool). b && rules.repeat) (sym m.left.more) ∙ more)

  -- the last file is that of this number
  pub last_counted : (ends : Ends) → (ends.more && rules.repeat) ≡ false → Made (record { header = header; rules = rules; name = file_name base number }) file (record { lanes = now; files = mid }) (record { lanes = later; files = new }) ends
      → Progress header base file rules news bad number now old mid → length news ≡ number
  last_counted ends more m p =
      let none : length (files_from header base (number + 1) (files_behind rules (lists_left file rules now))) ≡ 0 =
      ap (λ (fs : List (List Keyed)). length (files_from header base (number + 1) fs)) (none_behind ends more m) in
      omega (arith, p.counted, none)

  -- there are at least as many files
  pub some_counted : Progress header base file rules news bad number now old mid → number ≤ length news
  some_counted p = omega (arith, p.counted)

  pub created_last : (ends : Ends) (result : End) (first before after : ℕ) → (ends.more && rules.repeat) ≡ false → Made (record { header = header; rules = rules; name = file_name base number }) file (record { lanes = now; files = mid }) (record { lanes = later; files = new }) ends
      → 1 ≤ number → before ≡ raised first (number - 1) → after ≡ raised before 1
      → Progress header base file rules news bad number now old mid → Creates (length news) first after (Ok result)
  created_last ends result first before after more m least so_far one p = omega (arith, last_counted ends more m p, least, so_far, one)

  pub created_stops : (kind : Unmade) (result : Result End IoFault) (first before after : ℕ) → result ≡ ending_of kind → IsMade (record { header = header; rules = rules; name = file_name base number }) file (record { lanes = now; files = mid }) (record { lanes = later; files = new }) (Err kind)
      → 1 ≤ number → before ≡ raised first (number - 1) → after ≤ raised before 1
      → Progress header base file rules news bad number now old mid → Creates (length news) first after result
  created_stops (unmade.Malformed cut) result first before after is m least so_far one p = absurd m
  created_stops (unmade.Fault one) result first before after is m least so_far next p =
      subst (λ (r : Result End IoFault). Creates (length news) first after r) (sym is) (omega (arith, some_counted p, least, so_far, next))

  pub progress_stops : (kind : Unmade) (result : Result End IoFault) (counts between now_counts : Counts) (first_asked asked asked_now : List (List ℕ)) → result ≡ ending_of kind → counts.unfinished ≤ between.unfinished
      → IsMade (record { header = header; rules = rules; name = file_name base number }) file (record { lanes = now; files = mid }) (record { lanes = later; files = new }) (Err kind)
      → LeavesFile (file_name base number) later (record { files = mid; counts = between; requested = asked }) (record { files = new; counts = now_counts; requested = asked_now }) (Err kind)
      → Progress header base file rules news bad number now old mid → IsSplit news (end_by bad) (record { files = old; counts = counts; requested = first_asked }) (record { files = new; counts = now_counts; requested = asked_now }) result
  progress_stops (unmade.Malformed cut) result counts between now_counts first_asked asked asked_now is since m leaves p = absurd m
  progress_stops (unmade.Fault fault.Read) result counts between now_counts first_asked asked asked_now is since m leaves p = subst (λ (e : Result End IoFault). IsSplit news (end_by bad) (record { files = old; counts = counts; requested = first_asked }) (record { files = new; counts = now_counts; requested = asked_now }) e) (sym is) (some_stored news _ old mid new leaves p.stage)
  progress_stops (unmade.Fault fault.Write) result counts between now_counts first_asked asked asked_now is since m leaves p =
      subst (λ (e : Result End IoFault). IsSplit news (end_by bad) (record { files = old; counts = counts; requested = first_asked }) (record { files = new; counts = now_counts; requested = asked_now }) e) (sym is)
      (first_stored news _ _ counts now_counts old mid new (unmade_since counts.unfinished between.unfinished now_counts.unfinished (file_name base number) mid new since leaves) p.stage)

-- a failed read or write is told as one
same_fault : (one f : IoFault) (result : Result End IoFault) → result ≡ Err one → result ≡ Err f → one ≡ f
same_fault one f result is was = cc

pub fault_is : (kind : Unmade) (f : IoFault) (result : Result End IoFault) → result ≡ ending_of kind → result ≡ Err f → kind ≡ unmade.Fault f
fault_is (unmade.Malformed cut) f result is was = absurd (never_fault (code.Malformed cut) f result is was)
fault_is (unmade.Fault one) f result is was = ap unmade.Fault (same_fault one f result is was)

-- lists that went on
pub still_lists : (rules : Rules) (header : Header) (first now : List ListSeen) → length now ≡ length first → EachList Kept first now → AreLists rules header first → AreLists rules header now
still_lists rules header first now long goes are =
    let parts = parts_kept first now long goes in
    record {
      layouts = λ k e lt. let inside : k < length first = omega (arith, lt, long) in (goes k e inside).0 ∙ are.layouts k e inside;
      groups = groups_kept (is_apart rules) first now long goes are.groups;
      rise = subst CpusRise (sym parts) are.rise;
      cpus = same_cpus header.cpus (lanes_of first) (lanes_of now) parts are.cpus;
    }

pub still_cut : (rules : Rules) (header : Header) (first now : List ListSeen) (work work_now : SplitWork) → length now ≡ length first → EachList Kept first now → IsWorkFor header work_now → CanCut rules header first work → CanCut rules header now work_now
still_cut rules header first now work work_now long goes for can = record {
  allowed = can.allowed;
  are = still_lists rules header first now long goes can.are;
  lent = for;
}

pub fresh_stand : (file : List ℕ) (lanes : List Lane) → All (λ (a : Lane). IsFresh a.cursor) lanes → All (Stands file) lanes
fresh_stand file lanes f = All-weaker (λ (a : Lane). IsFresh a.cursor) (Stands file) (λ a fresh. fresh_stands file a fresh) lanes f
