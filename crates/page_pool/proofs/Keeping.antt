-- What a lane keeps over one call after another.
use Rattle.std.proofs.Common.{◌≡◌, ◌≤◌, Bool, true, false, refl, ap, ◌∙◌, arith}
use mathlib.Core.HLevel.{is_prop→PathP}
use Rattle.trace_base.specs.declared.layout.Layout.{Layout}
use Rattle.trace_base.specs.declared.part.Part.{Part}
use Rattle.page_pool.specs.declared.lane.Lane.{Lane}
use Rattle.page_pool.specs.InOrder.{IsInOrder, in_order_prop}
use Rattle.page_pool.specs.Keeping.{MayChange, Unless, KeepsLane}

unless_at : (b : Bool) (P : Type 0) → P → Unless b P
unless_at true P p = tt
unless_at false P p = p

unless_both : (b : Bool) (P Q R : Type 0) → (P → Q → R) → Unless b P → Unless b Q → Unless b R
unless_both true P Q R f p q = tt
unless_both false P Q R f p q = f p q

pub lane_still : (may : MayChange) (a : Lane) → KeepsLane may a a
lane_still may a = record {
  cpu = refl;
  layout = refl;
  part = refl;
  region = unless_at may.region (a.region ≡ a.region) refl;
  page = unless_at may.page (a.page ≡ a.page) refl;
  state = unless_at may.page (a.cursor.state ≡ a.cursor.state) refl;
  held = unless_at may.page (a.cursor.held ≡ a.cursor.held) refl;
  next = unless_at may.page (a.cursor.next ≡ a.cursor.next) refl;
  forward = unless_at may.back (a.cursor.next ≤ a.cursor.next) (omega arith);
  high = unless_at may.high (a.cursor.high ≡ a.cursor.high) refl;
  cursor = unless_at may.cursor (a.cursor ≡ a.cursor) refl;
}

pub lane_kept : {may : MayChange} {a b c : Lane} → KeepsLane may a b → KeepsLane may b c → KeepsLane may a c
lane_kept {may} {a} {b} {c} p q = record {
  cpu = q.cpu ∙ p.cpu;
  layout = q.layout ∙ p.layout;
  part = q.part ∙ p.part;
  region = unless_both may.region (b.region ≡ a.region) (c.region ≡ b.region) (c.region ≡ a.region) (λ one two. two ∙ one) p.region q.region;
  page = unless_both may.page (b.page ≡ a.page) (c.page ≡ b.page) (c.page ≡ a.page) (λ one two. two ∙ one) p.page q.page;
  state = unless_both may.page (b.cursor.state ≡ a.cursor.state) (c.cursor.state ≡ b.cursor.state) (c.cursor.state ≡ a.cursor.state) (λ one two. two ∙ one) p.state q.state;
  held = unless_both may.page (b.cursor.held ≡ a.cursor.held) (c.cursor.held ≡ b.cursor.held) (c.cursor.held ≡ a.cursor.held) (λ one two. two ∙ one) p.held q.held;
  next = unless_both may.page (b.cursor.next ≡ a.cursor.next) (c.cursor.next ≡ b.cursor.next) (c.cursor.next ≡ a.cursor.next) (λ one two. two ∙ one) p.next q.next;
  forward = unless_both may.back (a.cursor.next ≤ b.cursor.next) (b.cursor.next ≤ c.cursor.next) (a.cursor.next ≤ c.cursor.next) (λ one two. omega (arith, one, two)) p.forward q.forward;
  high = unless_both may.high (b.cursor.high ≡ a.cursor.high) (c.cursor.high ≡ b.cursor.high) (c.cursor.high ≡ a.cursor.high) (λ one two. two ∙ one) p.high q.high;
  cursor = unless_both may.cursor (b.cursor ≡ a.cursor) (c.cursor ≡ b.cursor) (c.cursor ≡ a.cursor) (λ one two. two ∙ one) p.cursor q.cursor;
}

-- what a layout and a part tell is told by the same two
pub by_both : {X : Type 0} (f : Layout → Part → X) {l m : Layout} {p q : Part} → l ≡ m → p ≡ q → f l p ≡ f m q
by_both f {l} {m} {p} {q} same_layout same_part = ap (λ (k : Layout). f k p) same_layout ∙ ap (f m) same_part

-- lanes with the same fields are one
pub one_lane : (a b : Lane) → a.cpu ≡ b.cpu → a.layout ≡ b.layout → a.part ≡ b.part → a.cursor ≡ b.cursor → a.page ≡ b.page → a.region ≡ b.region → a ≡ b
one_lane a b cpu layout part cursor page region = λ i. record {
  cpu = cpu i;
  layout = layout i;
  part = part i;
  cursor = cursor i;
  page = page i;
  region = region i;
  in_order = is_prop→PathP (λ j. IsInOrder (layout j) (page j) (cursor j)) (λ j. in_order_prop (layout j) (page j) (cursor j)) a.in_order b.in_order i;
}
