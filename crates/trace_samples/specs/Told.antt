-- What the sample sub-buffers tell.
use Rattle.std.specs.Prelude.{◌≡◌, ℕ, true, List, [], ◌∷◌, ◌++◌, length, map, Some, None}
use Rattle.trace_base.specs.declared.order.Order.TheVariants.{Little}
use Rattle.trace_base.specs.Number.{bytes_of}
use Rattle.subpage.specs.ItemData.{ItemData, EventAt, LossAt}
use Rattle.subpage.specs.Page.{items}
use Rattle.page_write.specs.PageBytes.{one_page}
use Rattle.trace_samples.specs.SampleLayout.{sample_layout}
use Rattle.trace_samples.specs.declared.sub_buffers.Page.{Page}
use Rattle.trace_samples.specs.declared.sub_buffers.Page.TheVariants as code

-- an event's payload is its time
abbrev pub sample_event : ℕ → ItemData
sample_event time = EventAt time (bytes_of Little 8 time)

abbrev pub told : Page → List ItemData
told (code.Of times) = map sample_event times.now
told (code.Lossy time count times) = LossAt time count ∷ map sample_event times.now
told code.Malformed = []

-- these bytes tell just the items, where one sub-buffer can
abbrev pub TellsAll : List ItemData → List ℕ → Type 0
TellsAll xs bytes = one_page sample_layout xs ≡ true → items sample_layout bytes ≡ Some xs

-- these bytes tell just what they are to tell, where one sub-buffer can, or are malformed where that is asked
abbrev pub Tells : Page → List ℕ → Type 0
Tells (code.Of times) bytes = TellsAll (told (code.Of times)) bytes
Tells (code.Lossy time count times) bytes = TellsAll (told (code.Lossy time count times)) bytes
Tells code.Malformed bytes = items sample_layout bytes ≡ None

-- a sub-buffer was put after what was there
pub record HasPage (page : Page) (before now : List ℕ) : Type 0 where
  pub bytes : List ℕ
  pub appended : now ≡ before ++ bytes
  pub whole : length bytes ≡ 4096
  pub tells : Tells page bytes

-- these were put there one after another
abbrev pub HasPages : List Page → List ℕ → List ℕ → Type 0
HasPages [] before now = now ≡ before
HasPages (page ∷ pages) before now = (next : List ℕ) × HasPage page before next × HasPages pages next now
