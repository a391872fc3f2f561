-- Memory that is kept in pages, each found by its number: its address divided by 4,096.
--
-- What is asked of a memory are three traits: `CodeSpace`, fetches; `ReadSpace`, loads too, as an
-- unwinder needs; and `AddressSpace`, the machine's stores and `protect`. Each equals its
-- definition in flat_memory on the memory that it means.
use Rattle.std.specs.Prelude.{◌≡◌, ℕ, ◌+◌, ◌-◌, ◌*◌, ◌/◌, ◌%◌, ◌^◌, ◌<◌, ◌≤◌, Bool, true, ◌==◌, replicate, ◌&&◌, nat_le, nat_lt, List, length, Option, Some, None, is_some, Result, Ok, Err, slice_index, if◌then◌else◌}
use Rattle.host_layout.specs.declared.range.TheConstants.{ARENA_START, ARENA_END, PAGE}
use Rattle.flat_memory.specs.declared.protection.Protection.{Protection}
use Rattle.flat_memory.specs.declared.protection.TheConstants.{UNMAPPED}
use Rattle.flat_memory.specs.Memory.{Memory, first_refused, may_read, number_at}
use Rattle.x64_memory.specs.declared.page.Page.{Page}

abbrev pub page_mode : Option Page → Protection
page_mode None = UNMAPPED
page_mode (Some p) = p.protection

abbrev pub page_byte : Option Page → ℕ → ℕ
page_byte None i = 0
page_byte (Some p) i = slice_index p.bytes i

-- the page of an address, where pages are found by their numbers
abbrev pub page_of : (ℕ → Option Page) → ℕ → Option Page
page_of pages a = pages (a / PAGE)

-- a page holds the address
abbrev pub has_page : (ℕ → Option Page) → ℕ → Bool
has_page pages a = is_some (page_of pages a)

-- each address has the protection of its page, and there its byte
unfoldable pub paged : (ℕ → Option Page) → Memory
paged pages =
    record {
      protection = λ a. page_mode (page_of pages a);
      byte = λ a. page_byte (page_of pages a) (a % PAGE);
    }

-- memory with one page in the place of another, or of none
abbrev pub with_page : Memory → ℕ → Page → Memory
with_page m k p =
    record {
      protection = λ a. if a / PAGE == k then p.protection
          else m.protection a;
      byte = λ a. if a / PAGE == k then slice_index p.bytes (a % PAGE)
          else m.byte a;
    }

abbrev pub zero_page : Protection → Page
zero_page protection = record { protection = protection; bytes = replicate PAGE 0 }

-- the protection at an address, and the bytes from there to the end of its page, or none
pub record IsRestOfPage (m : Memory) (at : ℕ) (protection : Protection)
    (bytes : List ℕ) : Type 0 where
  pub mode_is : m.protection at ≡ protection
  pub modes : (i : ℕ) → i < length bytes → m.protection (at + i) ≡ protection
  pub bytes_are : (i : ℕ) → i < length bytes → m.byte (at + i) ≡ slice_index bytes i
  pub inside : at + length bytes ≤ 2 ^ 64
  pub small : (i : ℕ) → slice_index bytes i < 256
  pub unmapped : length bytes ≡ 0 → protection ≡ UNMAPPED

-- a number, or the first address at which it can't be read
abbrev pub or_number : Option ℕ → ℕ → Result ℕ ℕ
or_number None v = Ok v
or_number (Some a) v = Err a

abbrev pub number_or_refused : Memory → ℕ → ℕ → Result ℕ ℕ
number_or_refused m n at = or_number (first_refused (may_read m) n at) (number_at m.byte n at)

abbrev pub readable_byte : Memory → ℕ → Option ℕ
readable_byte m at = if may_read m at then Some (m.byte at) else None

-- a byte of a page after the low bytes of a number were put from a place on
abbrev pub page_with_number : List ℕ → ℕ → ℕ → ℕ → ℕ → ℕ
page_with_number bytes from count v i =
    if nat_le from i && nat_lt i (from + count) then v / 256 ^ (i - from) % 256
    else slice_index bytes i

-- the pages of the arena are there
abbrev pub HasArena : (ℕ → Option Page) → Type 0
HasArena pages = (q : ℕ) → ARENA_START ≤ PAGE * q → PAGE * q < ARENA_END → is_some (pages q) ≡ true
