-- The layouts that a file's header may give to its sub-buffers.
-- Source: trace-cmd.dat.v6(5), `header_page`; the kernel's ring_buffer_print_page_header.
use Rattle.std.specs.Prelude.{◌≡◌, ℕ, ◌+◌, Bool, true, false, IsTrue, refl, Option, Some, None}
use Rattle.trace_base.specs.declared.order.Order.{Order}
use Rattle.trace_base.specs.declared.layout.Layout.{Layout}
use Rattle.trace_base.specs.Allowed.{IsAllowed, is_allowed, allowed_is}

-- what each layout carries
abbrev pub IsLayout : Layout → Type 0
IsLayout layout = IsAllowed layout.time_at layout.commit_at layout.commit_size layout.data_at layout.page

abbrev pub layout_from : Order → (time_at commit_at commit_size data_at page : ℕ) → IsAllowed time_at commit_at commit_size data_at page → Layout
layout_from order time_at commit_at commit_size data_at page allowed =
    record { order = order; time_at = time_at; commit_at = commit_at; commit_size = commit_size; data_at = data_at; page = page; allowed = allowed }

-- the timestamp, a commit word of a long, and the data after it
abbrev pub plain_layout : Order → (long page : ℕ) → IsAllowed 0 8 long (8 + long) page → Layout
plain_layout order long page allowed = layout_from order 0 8 long (8 + long) page allowed

-- that the layout is this one, number by number
pub record IsPlainLayout (by : Order) (long size : ℕ) (layout : Layout) : Type 0 where
  pub order : layout.order ≡ by
  pub time_at : layout.time_at ≡ 0
  pub commit_at : layout.commit_at ≡ 8
  pub commit_size : layout.commit_size ≡ long
  pub data_at : layout.data_at ≡ 8 + long
  pub page : layout.page ≡ size

-- a value where a test holds
abbrev pub where_true : {X : Type 0} → (test : Bool) → (IsTrue test → X) → Option X
where_true true value = Some (value refl)
where_true false value = None

-- the layout of these numbers, where they are allowed
unfoldable pub layout_with : Order → (time_at commit_at commit_size data_at page : ℕ) → Option Layout
layout_with order time_at commit_at commit_size data_at page =
    where_true (is_allowed time_at commit_at commit_size data_at page)
    (λ test. layout_from order time_at commit_at commit_size data_at page (allowed_is time_at commit_at commit_size data_at page test))
