-- Lists that are made over parts.
use Rattle.std.proofs.Common.{◌≡◌, ℕ, ◌+◌, ◌<◌, Bool, true, false, List, [], ◌∷◌, ◌++◌, length, get_or, take, refl, sym, ap, subst, ◌∙◌, append-nil, arith}
use Rattle.std.specs.List.{All}
use Rattle.std.proofs.lemmas.List.{get_or-map, length-map, map-append, take_more}
use Rattle.std.proofs.lemmas.List.Elements.{All-append, All-cons, All-nil}
use Rattle.trace_base.specs.declared.layout.Layout.{Layout}
use Rattle.trace_base.specs.declared.part.Part.{Part}
use Rattle.dat_header.specs.declared.header.Header.{Header}
use Rattle.subpage.specs.Arrangement.{CpusRise}
use Rattle.page_pool.specs.Fresh.{IsFresh}
use Rattle.page_pool.specs.declared.lane.Lane.{Lane}
use Rattle.time_merge.specs.LaneRows.{parts_of}
use Rattle.split_passes.specs.ListSeen.{ListSeen}
use Rattle.split_pieces.specs.Cuts.{is_apart}
use Rattle.split_pieces.specs.declared.rules.Rules.{Rules}
use Rattle.split_tool.specs.Lists.{AreGroups, lanes_of}
use Rattle.split_tool.specs.Work.{AreLists, AreOwn, IsAlone, IsNewList}

abbrev IsNew : Lane → Type 0
IsNew lane = IsFresh lane.cursor

-- what lists over all parts have
pub record Cover (layout : Layout) (b : Bool) (parts : List (ℕ × Part)) (lists : List ListSeen) : Type 0 where
  pub layouts : All (λ (list : ListSeen). list.layout ≡ layout) lists
  pub groups : AreGroups b lists
  pub parts_are : parts_of (lanes_of lists) ≡ parts
  pub fresh : All (λ (lane : Lane). IsFresh lane.cursor) (lanes_of lists)

pub alone_cover : (layout : Layout) (parts : List (ℕ × Part)) (lists : List ListSeen) → IsAlone layout parts lists → Cover layout false parts lists
alone_cover layout parts [] one = absurd one
alone_cover layout parts (x ∷ y ∷ lists) one = absurd one
alone_cover layout parts (x ∷ []) one = record {
  layouts = All-cons (λ (list : ListSeen). list.layout ≡ layout) x [] one.layout_is (All-nil (λ (list : ListSeen). list.layout ≡ layout));
  groups = refl;
  parts_are = ap parts_of (append-nil x.all) ∙ one.parts_are;
  fresh = subst (λ (ls : List Lane). All IsNew ls) (sym (append-nil x.all)) one.fresh;
}

pub own_cover : (layout : Layout) (parts : List (ℕ × Part)) (lists : List ListSeen) → AreOwn layout parts lists → Cover layout true parts lists
own_cover layout [] [] own = record {
  layouts = All-nil (λ (list : ListSeen). list.layout ≡ layout);
  groups = All-nil (λ (list : ListSeen). length list.all ≡ 1);
  parts_are = refl;
  fresh = All-nil IsNew;
}
own_cover layout [] (x ∷ lists) own = absurd own
own_cover layout (p ∷ parts) [] own = absurd own
own_cover layout (p ∷ parts) (x ∷ lists) own =
    let one = own.0 in
    let rest = own_cover layout parts lists own.1 in
    let made : Lane → ℕ × Part = λ lane. (lane.cpu, lane.part) in
    let long : length x.all ≡ 1 = sym (length-map x.all made) ∙ ap length one.parts_are in
    record {
      layouts = All-cons (λ (list : ListSeen). list.layout ≡ layout) x lists one.layout_is rest.layouts;
      groups = All-cons (λ (list : ListSeen). length list.all ≡ 1) x lists long rest.groups;
      parts_are = map-append made x.all (lanes_of lists) ∙ ap (λ (ps : List (ℕ × Part)). ps ++ parts_of (lanes_of lists)) one.parts_are ∙ ap (λ (ps : List (ℕ × Part)). p ∷ ps) rest.parts_are;
      fresh = All-append IsNew x.all (lanes_of lists) one.fresh rest.fresh;
    }

below : (cpus : ℕ) (lanes : List Lane) (parts : List (ℕ × Part)) → parts_of lanes ≡ parts → All (λ (part : ℕ × Part). part.0 < cpus) parts → All (λ (lane : Lane). lane.cpu < cpus) lanes
below cpus lanes parts is all i d inside =
    let made : Lane → ℕ × Part = λ lane. (lane.cpu, lane.part) in
    let here = subst (λ (ps : List (ℕ × Part)). All (λ (part : ℕ × Part). part.0 < cpus) ps) (sym is) all in
    let there : i < length (parts_of lanes) = omega (arith, inside, length-map lanes made) in
    subst (λ (p : ℕ × Part). p.0 < cpus) (get_or-map made lanes i d (d.cpu, d.part) inside) (here i (d.cpu, d.part) there)

pub are_lists : (rules : Rules) (header : Header) (b : Bool) (parts : List (ℕ × Part)) (lists : List ListSeen) → is_apart rules ≡ b → CpusRise parts → All (λ (part : ℕ × Part). part.0 < header.cpus) parts → Cover header.layout b parts lists → AreLists rules header lists
are_lists rules header b parts lists is rise cpus cover = record {
  layouts = cover.layouts;
  groups = subst (λ (k : Bool). AreGroups k lists) (sym is) cover.groups;
  rise = subst CpusRise (sym cover.parts_are) rise;
  cpus = below header.cpus (lanes_of lists) parts cover.parts_are cpus;
}

-- ONE LIST MORE

pub own_more : (layout : Layout) (parts : List (ℕ × Part)) (lists : List ListSeen) (p : ℕ × Part) (x : ListSeen) → AreOwn layout parts lists → IsNewList layout (p ∷ []) x → AreOwn layout (parts ++ p ∷ []) (lists ++ x ∷ [])
own_more layout [] [] p x own one = (one, tt)
own_more layout [] (y ∷ lists) p x own one = absurd own
own_more layout (q ∷ parts) [] p x own one = absurd own
own_more layout (q ∷ parts) (y ∷ lists) p x own one = (own.0, own_more layout parts lists p x own.1 one)

pub own_on : (layout : Layout) (parts : List (ℕ × Part)) (i : ℕ) (lists pushed : List ListSeen) (x : ListSeen) (d : ℕ × Part) → i < length parts → pushed ≡ lists ++ x ∷ [] → AreOwn layout (take i parts) lists
    → x.layout ≡ layout → parts_of x.all ≡ get_or parts i d ∷ [] → All (λ (lane : Lane). IsFresh lane.cursor) x.all → AreOwn layout (take (i + 1) parts) pushed
own_on layout parts i lists pushed x d lt is own layout_is parts_are fresh =
    subst (λ (ps : List (ℕ × Part)). AreOwn layout ps pushed) (sym (take_more parts i d lt))
    (subst (λ (ls : List ListSeen). AreOwn layout (take i parts ++ get_or parts i d ∷ []) ls) (sym is)
    (own_more layout (take i parts) lists (get_or parts i d) x own (record { layout_is = layout_is; parts_are = parts_are; fresh = fresh })))
