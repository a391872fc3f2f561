-- What a filter reads of its exception (Windows headers, `EXCEPTION_POINTERS` and
-- `EXCEPTION_RECORD`).
use Rattle.std.specs.Prelude.{◌≡◌, ℕ, ◌+◌, ◌^◌, ◌<◌, ◌≤◌, true}
use Rattle.seh_num.specs.declared.width.Width.{Width}
use Rattle.seh_num.specs.declared.width.Width.TheVariants.{W32, W64}
use Rattle.seh_num.specs.Widths.{bytes_of}
use Rattle.seh_num.specs.declared.size.TheConstants.{EXCEPTION_MAXIMUM_PARAMETERS}
use Rattle.flat_memory.specs.Memory.{Memory, may_read, number_at}
use Rattle.c_operations.specs.declared.field.Field.{Field}
use Rattle.c_operations.specs.declared.field.Field.TheVariants.{ExceptionCode, ExceptionFlags, NumberParameters, ExceptionInformation}
use Rattle.template_code.specs.Calls.{field_at}

abbrev pub field_width : Field → Width
field_width ExceptionCode = W32
field_width ExceptionFlags = W32
field_width NumberParameters = W32
field_width (ExceptionInformation k) = W64

abbrev pub IsField : Field → Type 0
IsField ExceptionCode = Unit {0}
IsField ExceptionFlags = Unit {0}
IsField NumberParameters = Unit {0}
IsField (ExceptionInformation k) = k < EXCEPTION_MAXIMUM_PARAMETERS

-- n bytes that may be read, and the number that they are
pub record MayRead (m : Memory) (n at x : ℕ) : Type 0 where
  pub high : at + n < 2 ^ 63
  pub readable : (a : ℕ) → at ≤ a → a < at + n → may_read m a ≡ true
  pub number : number_at m.byte n at ≡ x

-- the frame keeps the address of the pointers, of which the first leads to the record, in which the
-- field is x
pub record HasException (m : Memory) (kept : ℕ) (field : Field) (x : ℕ) : Type 0 where
  pub pointers : ℕ
  pub exception : ℕ
  pub keeps : MayRead m 8 kept pointers
  pub leads : MayRead m 8 pointers exception
  pub holds : MayRead m (bytes_of (field_width field)) (exception + field_at field) x
