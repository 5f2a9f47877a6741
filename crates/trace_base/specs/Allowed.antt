-- The numbers that the layout of a sub-buffer may have.
-- Source: trace-cmd.dat.v6(5), `header_page`; the kernel's ring_buffer_print_page_header. The limits on the places and on the
-- size are this program's.
use Rattle.std.specs.Prelude.{◌≡◌, ℕ, ◌+◌, ◌≤◌, ◌%◌, Bool, ◌&&◌, ◌||◌, ◌==◌, nat_le, IsTrue}
use Rattle.std.proofs.lemmas.Bool.{and_parts, leb-true, eqb-true}

-- a kernel's long
abbrev pub is_long : ℕ → Bool
is_long size = size == 4 || size == 8

abbrev pub are_apart : (time_at commit_at commit_size : ℕ) → Bool
are_apart time_at commit_at commit_size = nat_le (time_at + 8) commit_at || nat_le (commit_at + commit_size) time_at

-- a timestamp and a commit word of a long, apart from each other and in front of data that begin early at a multiple of 4, in
-- 4,096 to 262,144 bytes
pub record IsAllowed (time_at commit_at commit_size data_at page : ℕ) : Type 0 where
  pub commit_is_long : IsTrue (is_long commit_size)
  pub time_before_data : time_at + 8 ≤ data_at
  pub commit_before_data : commit_at + commit_size ≤ data_at
  pub apart : IsTrue (are_apart time_at commit_at commit_size)
  pub data_in_front : data_at ≤ 256
  pub data_aligned : data_at % 4 ≡ 0
  pub page_least : 4096 ≤ page
  pub page_most : page ≤ 262144

-- the same as a test
abbrev pub is_allowed : (time_at commit_at commit_size data_at page : ℕ) → Bool
is_allowed time_at commit_at commit_size data_at page =
    is_long commit_size
    && nat_le (time_at + 8) data_at
    && nat_le (commit_at + commit_size) data_at
    && are_apart time_at commit_at commit_size
    && nat_le data_at 256
    && (data_at % 4 == 0)
    && nat_le 4096 page
    && nat_le page 262144

pub allowed_is : (time_at commit_at commit_size data_at page : ℕ) → IsTrue (is_allowed time_at commit_at commit_size data_at page)
    → IsAllowed time_at commit_at commit_size data_at page
allowed_is time_at commit_at commit_size data_at page test =
    let seven = and_parts _ _ test in
    let six = and_parts _ _ seven.0 in
    let five = and_parts _ _ six.0 in
    let four = and_parts _ _ five.0 in
    let three = and_parts _ _ four.0 in
    let two = and_parts _ _ three.0 in
    let one = and_parts _ _ two.0 in
    record {
      commit_is_long = one.0;
      time_before_data = leb-true _ _ one.1;
      commit_before_data = leb-true _ _ two.1;
      apart = three.1;
      data_in_front = leb-true _ _ four.1;
      data_aligned = eqb-true _ _ five.1;
      page_least = leb-true _ _ six.1;
      page_most = leb-true _ _ seven.1;
    }
