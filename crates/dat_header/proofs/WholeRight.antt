-- The whole header is read as it is spelled, or its first wrong item is found.
use Rattle.std.proofs.Common.{◌≡◌, ℕ, ◌≤◌, List, Ok, refl, sym, ap}
use Rattle.dat_options.specs.declared.fault.OpenFault.TheVariants.{TooManyCpus}
use Rattle.dat_header.specs.declared.header.Header.{Header}
use Rattle.dat_header.specs.declared.pieces.Opening.{Opening}
use Rattle.dat_header.specs.declared.pieces.Described.{Described}
use Rattle.dat_header.specs.declared.pieces.Carried.{Carried}
use Rattle.dat_header.specs.declared.pieces.Sections.{Sections}
use Rattle.dat_header.specs.Allowed.{IsHeader}
use Rattle.dat_header.specs.Pieces.{IsCarried, AreSections, IsOpening}
use Rattle.dat_header.specs.Items.{items}
use Rattle.dat_header.specs.ItemsAt.{value_at, cpus_of}
use Rattle.dat_header.specs.Header.{carried_at, sections_at, joined}
use Rattle.dat_header.specs.Opening.{opening_at}
use Rattle.dat_header.specs.Found.{Found, ◌>>=◌}
use Rattle.dat_header.proofs.Headers.{header_allowed}
use Rattle.dat_header.proofs.Wrongs.{Right, right_made, rights_then, rights_as}
use Rattle.dat_header.proofs.ItemRights.{right_cpus}
use Rattle.dat_header.proofs.HeaderRight.{carried_items, right_carried_texts}
use Rattle.dat_header.proofs.OpeningRight.{opening_items, right_opening}
use Rattle.dat_header.proofs.SectionsRight.{right_sections}

-- the pieces of a header
abbrev pub opening_in : Header → Opening
opening_in header = record { machine = record { order = header.order; long = header.long; page = header.page }; page = record { text = header.page_text; layout = header.layout } }

abbrev described_in : Header → Described
described_in header = record { event_text = header.event_text; ftrace = header.ftrace; systems = header.systems; kallsyms = header.kallsyms; printk = header.printk }

abbrev pub carried_in : Header → Carried
carried_in header = record { described = described_in header; cmdlines = header.cmdlines }

abbrev sections_in : Header → Sections
sections_in header = record { options = header.options; body = header.body }

-- what is read after each piece; the end is told apart
abbrev read_3 : Opening → Carried → ℕ → List ℕ → ℕ → Found Header
read_3 o t n file at = sections_at o.machine.order n file at >>= λ s. Ok (joined o t n s.0 0, s.1)

abbrev read_2 : Opening → Carried → List ℕ → ℕ → Found Header
read_2 o t file at = value_at 4 o.machine.order cpus_of (TooManyCpus at) file at >>= λ n. read_3 o t n.0 file n.1

abbrev read_1 : Opening → List ℕ → ℕ → Found Header
read_1 o file at = carried_at o.machine.order file at >>= λ t. read_2 o t.0 file t.1

abbrev pub whole_at : List ℕ → ℕ → Found Header
whole_at file at = opening_at file at >>= λ o. read_1 o.0 file o.1

-- a header whose end is left open
pub record IsOpen (header : Header) : Type 0 where
  pub is : IsHeader header
  pub open_end : header.end ≡ 0

pub is_opening : (header : Header) → IsHeader header → IsOpening (opening_in header)
is_opening header h = record {
  machine = record { long = h.long; page = h.page };
  page = record { text = h.page_text; layout = h.layout };
}

pub is_carried : (header : Header) → IsHeader header → IsCarried (carried_in header)
is_carried header h = record {
  described = record { event_text = h.event_text; ftrace = h.ftrace; systems = h.systems; kallsyms = h.kallsyms; printk = h.printk };
  cmdlines = h.cmdlines;
}

-- what is allowed piece by piece
abbrev ArePieces : Header → Type 0
ArePieces header =
    IsOpening (opening_in header) × (IsCarried (carried_in header) × ((header.cpus ≤ 1024) × (AreSections header.cpus (sections_in header)
    × (joined (opening_in header) (carried_in header) header.cpus (sections_in header) 0 ≡ header))))

all_pieces : (header : Header) → IsOpen header → ArePieces header
all_pieces header all =
    let h = all.is in
    let sections : AreSections header.cpus (sections_in header) = record { options = h.options; body = h.body } in
    (is_opening header h, (is_carried header h, (h.cpus, (sections, ap (λ (n : ℕ). record header { end = n }) (sym all.open_end)))))

pub right_whole : Right items IsOpen whole_at
unfolding items
right_whole = rights_as _ items _ IsOpen _ whole_at
    (λ header all. record {
      is = header_allowed (opening_in header) (carried_in header) header.cpus (sections_in header) header.end all.0 all.1.0 all.1.1.0 all.1.1.1.0;
      open_end = sym (ap (λ (h : Header). h.end) all.1.1.1.1);
    })
    all_pieces (λ header all. refl) (λ file at. refl)
    (rights_then opening_items IsOpening opening_at _ _ read_1 opening_in 8 right_opening (λ o. refl)
    (λ o is. rights_then (carried_items o.machine.order) IsCarried (carried_at o.machine.order) _ _ (read_2 o) carried_in 6 (right_carried_texts o.machine.order) (λ t. refl)
    (λ t is. rights_then _ (λ n. n ≤ 1024) (λ file at. value_at 4 o.machine.order cpus_of (TooManyCpus at) file at) _ _ (read_3 o t) (λ h. h.cpus) 1 (right_cpus o.machine.order) (λ n. refl)
    (λ n few. right_made _ (AreSections n) (sections_at o.machine.order n) (λ s. joined o t n s 0) sections_in (λ s. refl) (right_sections o.machine.order n))
    (λ n h e. sym (ap (λ (x : Header). x.cpus) e.1)))
    (λ t h e. sym (ap carried_in e.1.1)))
    (λ o h e. sym (ap opening_in e.1.1.1)))
