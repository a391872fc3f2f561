-- Memory as a map from each address to what may be done there and to a byte.
--
-- `loaded`, `stored`, `after_store`: an access of 1, 2, 4 or 8 bytes, the lowest first (Intel
-- manual, volume 1, "Bit and Byte Order"). It is refused by its first byte that may not be
-- accessed: as the guard where that byte is in the stack's guard (own), else as a fault. A store
-- changes the bytes of its range and no protection; a refused one changes nothing.
--
-- The main definitions: `Memory`, `executable`, `protected`.
use Rattle.std.specs.Prelude.{ℕ, zero, suc, ◌+◌, ◌-◌, ◌*◌, ◌/◌, ◌%◌, ◌^◌, Bool, true, false, ◌&&◌, ◌==◌, nat_lt, nat_eq, if◌then◌else◌, List, [], ◌∷◌, ℤ, Option, Some, None, Result, Ok, Err}
use Rattle.seh_num.specs.declared.width.Width.{Width}
use Rattle.seh_num.specs.declared.width.Width.TheVariants.{W64}
use Rattle.seh_num.specs.Widths.{bytes_of}
use Rattle.host_layout.specs.Ranges.{in_guard, in_arena}
use Rattle.host_layout.specs.declared.range.TheConstants.{PAGE, DATA_STACK_START, FIRST_DATA_STACK}
use Rattle.flat_memory.specs.declared.protection.Protection.{Protection}
use Rattle.flat_memory.specs.declared.protection.Rights.{Rights}
use Rattle.flat_memory.specs.declared.access.RefusedAccess.{RefusedAccess}
use Rattle.flat_memory.specs.declared.access.RefusedAccess.TheVariants.{Fault, Guard}
use Rattle.flat_memory.specs.Protections.{is_readable, is_writable, rights_numbered}

-- two functions on addresses, one to a protection and one to a byte. A protection says whether the
-- byte may be read, read and written, or neither, and whether it may be executed; what may be
-- written may be read. Sums of addresses go round at 2^64.
pub record Memory : Type 0 where
  pub protection : ℕ → Protection
  pub byte : ℕ → ℕ

-- the address after one
abbrev pub next : ℕ → ℕ
next a = (a + 1) % 2 ^ 64

-- the first of the n addresses from at on at which the test fails
unfoldable pub first_refused : (ℕ → Bool) → ℕ → ℕ → Option ℕ
first_refused may zero at = None
first_refused may (suc n) at = if may at then first_refused may n (next at) else Some at

-- the number that the n bytes from at on spell, the lowest first
unfoldable pub number_at : (ℕ → ℕ) → ℕ → ℕ → ℕ
number_at byte zero at = 0
number_at byte (suc n) at = byte at + 256 * number_at byte n (next at)

-- one byte changed
abbrev pub with_byte : (ℕ → ℕ) → ℕ → ℕ → ℕ → ℕ
with_byte byte at b a = if nat_eq a at then b else byte a

-- how far an address lies after another
abbrev pub distance : ℕ → ℕ → ℕ
distance at a = (a + (2 ^ 64 - at)) % 2 ^ 64

-- an address is one of the n from at on
abbrev pub is_among : ℕ → ℕ → ℕ → Bool
is_among n at a = nat_lt a (2 ^ 64) && nat_lt (distance at a) n

-- the n lowest bytes of a number written from at on
unfoldable pub with_number : (ℕ → ℕ) → ℕ → ℕ → ℕ → ℕ → ℕ
with_number byte n at v a = if is_among n at a then v / 256 ^ distance at a % 256 else byte a

-- the bytes that a run begins with outside what is loaded: zeros, but for the data stack's pointer
abbrev pub first_byte : ℕ → ℕ
first_byte = with_number (λ a. 0) 8 DATA_STACK_START FIRST_DATA_STACK

-- a refused access, by the place of its first byte that may not be accessed
abbrev pub refused : Bool → ℕ → RefusedAccess
refused write a = if in_guard a then Guard a else Fault a write

abbrev pub access : {A : Type 0} → Bool → Option ℕ → A → Result A RefusedAccess
access write None x = Ok x
access write (Some a) x = Err (refused write a)

abbrev pub may_read : Memory → ℕ → Bool
may_read m a = is_readable (m.protection a).rights

abbrev pub may_write : Memory → ℕ → Bool
may_write m a = is_writable (m.protection a).rights

-- what a load answers
abbrev pub loaded : Memory → ℕ → Width → Result ℕ RefusedAccess
loaded m at w =
    access false (first_refused (may_read m) (bytes_of w) at) (number_at m.byte (bytes_of w) at)

-- what a store answers, and the memory after it
abbrev pub stored : Memory → ℕ → Width → Result Unit RefusedAccess
stored m at w = access true (first_refused (may_write m) (bytes_of w) at) tt

abbrev pub unless_refused : Option ℕ → Memory → Memory → Memory
unless_refused None new old = new
unless_refused (Some a) new old = old

abbrev pub with_bytes : Memory → (ℕ → ℕ) → Memory
with_bytes m byte = record { protection = m.protection; byte = byte }

abbrev pub after_store : Memory → ℕ → Width → ℕ → Memory
after_store m at w v =
    unless_refused (first_refused (may_write m) (bytes_of w) at)
    (with_bytes m (with_number m.byte (bytes_of w) at v)) m

-- ---- the data stack's pointer, the number at its start

abbrev pub pointer_of : Memory → ℕ
pointer_of m = number_at m.byte 8 DATA_STACK_START

abbrev pub with_pointer : Memory → ℕ → Memory
with_pointer m v = after_store m DATA_STACK_START W64 v

-- the bytes from an address on that may be executed, as many as there are of a number
unfoldable pub executable : Memory → ℕ → ℕ → List ℕ
executable m zero at = []
executable m (suc n) at =
    if (m.protection at).execute then m.byte at ∷ executable m n (next at) else []

-- ---- the arena, whose pages a program may protect

-- whether a page's rights can be set so, and the memory after it
abbrev pub rights_asked : ℕ → ℤ → Option Rights
rights_asked at number = if in_arena at then rights_numbered number else None

abbrev pub with_rights : Memory → ℕ → Option Rights → Memory
with_rights m at None = m
with_rights m at (Some r) =
    record {
      protection = λ a. if a / PAGE == at / PAGE then record (m.protection a) { rights = r }
          else m.protection a;
      byte = m.byte;
    }

-- the rights of one page of the arena, set by a number: none (0), reading (1), reading and writing
-- (2) (own)
abbrev pub protected : Memory → ℕ → ℤ → Memory
protected m at number = with_rights m at (rights_asked at number)
