use Rattle.std.proofs.Common.{◌≡◌, ℕ, ◌+◌, ◌-◌, List, ◌++◌, length, take, drop, map, replicate, sym, ap, subst, ◌∙◌, length-drop, arith}
use Rattle.std.proofs.lemmas.List.{take_at}
use Rattle.std.proofs.Math.Seq.{take-length}
use Rattle.page_pool.specs.declared.region.LineEntry.{LineEntry}
use Rattle.page_pool.specs.Lines.{Lines, earlier, joined}
use Rattle.page_pool.proofs.LineEntries.{ends_le}
use Rattle.page_pool.specs.RegionView.{marks_of}
use Rattle.page_pool.proofs.RegionLaws.{count_of}
use Rattle.page_pool.proofs.ClosingUp.{kept_closed, ends_closed, holes_closed, free_closed}
use Rattle.page_pool.proofs.region.Region.close_up.Goals as goal

pub move_bytes-requires : goal.move_bytes-requires
move_bytes-requires c =
    (ends_le c.self.inside.from c.self.inside.to (marks_of c.self.inside) c.self.invariant.ends, omega (arith, c.self.invariant.to, c.self.inside.text.ok.0, ap length c.as_mut_slice-2.ensures.value))

pub overflow_sub-self : goal.overflow_sub-self
overflow_sub-self c = ends_le c.self.inside.from c.self.inside.to (marks_of c.self.inside) c.self.invariant.ends

pub invariant_of-self : goal.invariant_of-self
invariant_of-self c =
    let is = c.self.invariant in
    let r = c.self.inside in
    let new_marks : List LineEntry = c.move_marks.new.marks in
    let new_text : List ℕ = c.move_bytes.new.bytes in
    let marks_long : length new_marks ≡ length r.marks.items = c.move_marks.ensures.long ∙ ap length c.as_mut_slice.ensures.value in
    let text_long : length new_text ≡ length r.text.items = c.move_bytes.ensures.long ∙ ap length c.as_mut_slice-2.ensures.value in
    let marks : List LineEntry = take r.marks.len (new_marks ++ drop (length new_marks) r.marks.items) in
    let text : List ℕ = take r.text.len (new_text ++ drop (length new_text) r.text.items) in
    let marks_are : marks ≡ new_marks = take_at new_marks (drop (length new_marks) r.marks.items) r.marks.len (marks_long ∙ sym r.marks.ok.0) in
    let text_is : text ≡ new_text = take_at new_text (drop (length new_text) r.text.items) r.text.len (text_long ∙ sym r.text.ok.0) in
    let long : length text ≡ length r.text.items = ap length text_is ∙ text_long in
    let moved : take (r.to - r.from) text ≡ take (r.to - r.from) (drop r.from r.text.items) =
    ap (take (r.to - r.from)) text_is ∙ c.move_bytes.ensures.moved ∙ ap (λ (s : List ℕ). take (r.to - r.from) (drop r.from s)) c.as_mut_slice-2.ensures.value in
    let count : c.len.result - r.first ≡ length (marks_of r) = omega (arith, c.len.ensures, r.marks.ok.0, length-drop r.first r.marks.items) in
    let marked : c.truncate.new.self.items ≡ map (earlier r.from) (marks_of r) =
    c.truncate.ensures.items ∙ ap (take (c.len.result - r.first)) marks_are ∙ c.move_marks.ensures.moved
    ∙ ap (λ (ms : List LineEntry). map (earlier r.from) (take (c.len.result - r.first) (drop r.first ms))) c.as_mut_slice.ensures.value
    ∙ ap (λ (n : ℕ). map (earlier r.from) (take n (marks_of r))) count ∙ ap (map (earlier r.from)) (take-length (marks_of r)) in
    let left : c.truncate.new.self.len ≡ r.marks.len - r.first = omega (arith, c.truncate.ensures.len, c.len.ensures) in
    record {
      most = is.most;
      bound = is.bound;
      marks = omega (arith, is.marks, c.truncate.ensures.capacity);
      few = omega (arith, is.few, left);
      first = omega arith;
      room = is.room;
      lent = is.lent;
      to = omega (arith, is.to);
      ends = ends_closed r is text c.truncate.new.self.items long moved marked;
      holes = holes_closed r is text c.truncate.new.self.items long moved marked;
    }

pub returns : goal.returns
returns c =
    let is = c.self.invariant in
    let r = c.self.inside in
    let new_marks : List LineEntry = c.move_marks.new.marks in
    let new_text : List ℕ = c.move_bytes.new.bytes in
    let marks_long : length new_marks ≡ length r.marks.items = c.move_marks.ensures.long ∙ ap length c.as_mut_slice.ensures.value in
    let text_long : length new_text ≡ length r.text.items = c.move_bytes.ensures.long ∙ ap length c.as_mut_slice-2.ensures.value in
    let marks : List LineEntry = take r.marks.len (new_marks ++ drop (length new_marks) r.marks.items) in
    let text : List ℕ = take r.text.len (new_text ++ drop (length new_text) r.text.items) in
    let marks_are : marks ≡ new_marks = take_at new_marks (drop (length new_marks) r.marks.items) r.marks.len (marks_long ∙ sym r.marks.ok.0) in
    let text_is : text ≡ new_text = take_at new_text (drop (length new_text) r.text.items) r.text.len (text_long ∙ sym r.text.ok.0) in
    let long : length text ≡ length r.text.items = ap length text_is ∙ text_long in
    let moved : take (r.to - r.from) text ≡ take (r.to - r.from) (drop r.from r.text.items) =
    ap (take (r.to - r.from)) text_is ∙ c.move_bytes.ensures.moved ∙ ap (λ (s : List ℕ). take (r.to - r.from) (drop r.from s)) c.as_mut_slice-2.ensures.value in
    let count : c.len.result - r.first ≡ length (marks_of r) = omega (arith, c.len.ensures, r.marks.ok.0, length-drop r.first r.marks.items) in
    let marked : c.truncate.new.self.items ≡ map (earlier r.from) (marks_of r) =
    c.truncate.ensures.items ∙ ap (take (c.len.result - r.first)) marks_are ∙ c.move_marks.ensures.moved
    ∙ ap (λ (ms : List LineEntry). map (earlier r.from) (take (c.len.result - r.first) (drop r.first ms))) c.as_mut_slice.ensures.value
    ∙ ap (λ (n : ℕ). map (earlier r.from) (take n (marks_of r))) count ∙ ap (map (earlier r.from)) (take-length (marks_of r)) in
    let left : c.truncate.new.self.len ≡ r.marks.len - r.first = omega (arith, c.truncate.ensures.len, c.len.ensures) in
    let Free : Lines → Type 0 = λ v. length (drop (r.to - r.from) text ++ replicate (r.room - r.text.len) 0) + length (joined v.kept) ≡ v.room in
    record {
      kept = kept_closed r is text c.truncate.new.self.items long moved marked ∙ ap (λ (v : Lines). v.kept) c.self.view_is;
      used = left ∙ count_of r c.args.self.now c.self.view_is;
      room = ap (λ (v : Lines). v.room) c.self.view_is;
      limit = ap (λ (v : Lines). v.limit) c.self.view_is;
      free = subst Free c.self.view_is (free_closed r is text c.truncate.new.self.items long moved marked);
    }
