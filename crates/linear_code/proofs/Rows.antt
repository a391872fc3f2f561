-- Worked cases of the meaning, computed.
use Rattle.std.proofs.Common.{◌≡◌, ℕ, Bool, false, true, cond, ltb, refl, Some, None}
use Rattle.std.specs.Prelude.{◌&&◌}
use Rattle.seh_num.specs.declared.width.Width.TheVariants.{W8, W16, W32, W64}
use Rattle.flat_memory.specs.declared.protection.Rights.TheVariants.{Nothing, ReadWrite}
use Rattle.flat_memory.specs.Memory.{Memory, first_refused, number_at}
use Rattle.c_operations.specs.declared.operation.Size.TheVariants.{Int, Long}
use Rattle.c_operations.specs.declared.operation.Signedness.TheVariants.{Unsigned, Signed}
use Rattle.c_operations.specs.declared.operation.Relation.TheVariants as relations
use Rattle.c_operations.specs.declared.operation.Pure.TheVariants as pures
use Rattle.c_operations.specs.declared.operation.Operation.TheVariants as operations
use Rattle.linear_code.specs.declared.slot.Slot.TheVariants.{Local}
use Rattle.linear_code.specs.declared.instruction.Instruction.TheVariants as instructions
use Rattle.c_operations.specs.Numbers.{result_of}
use Rattle.linear_code.specs.BodyState.{BodyState}
use Rattle.c_operations.specs.Performed.{Gives, Raises, Undefined, performed}
use Rattle.linear_code.specs.Meaning.{Next, step}

-- -1 as int and as long long, and -128 as char
minus_one : result_of (pures.Negate Int) 1 0 ≡ 0xFFFFFFFF
minus_one = refl

wrapped_sum : result_of (pures.Add Int) 0xFFFFFFFF 1 ≡ 0
wrapped_sum = refl

long_sum : result_of (pures.Add Long) 0xFFFFFFFF 1 ≡ 0x100000000
long_sum = refl

extended_char : result_of (pures.Extend Signed W8 Int) 0x80 0 ≡ 0xFFFFFF80
extended_char = refl

extended_int : result_of (pures.Extend Signed W32 Long) 0xFFFFFFFF 0 ≡ 0xFFFFFFFFFFFFFFFF
extended_int = refl

cut_long : result_of (pures.Extend Signed W64 Int) 0x1FFFFFFFF 0 ≡ 0xFFFFFFFF
cut_long = refl

-- -8 >> 1 is -4, and counts are taken modulo 32
shifted_signed : result_of (pures.ShiftRight Signed Int) 0xFFFFFFF8 33 ≡ 0xFFFFFFFC
shifted_signed = refl

shifted_unsigned : result_of (pures.ShiftRight Unsigned Int) 0xFFFFFFF8 1 ≡ 0x7FFFFFFC
shifted_unsigned = refl

-- -1 is less than 1 where it is signed, and not where it isn't
signed_less : result_of (pures.Compare relations.Less Signed Int) 0xFFFFFFFF 1 ≡ 1
signed_less = refl

unsigned_less : result_of (pures.Compare relations.Less Unsigned Int) 0xFFFFFFFF 1 ≡ 0
unsigned_less = refl

greater_or_equal : result_of (pures.Compare relations.GreaterOrEqual Signed Long) 5 5 ≡ 1
greater_or_equal = refl

-- ---- faults, in a memory of which 16 bytes from 4096 on may be read and written, and those from
-- 8192 on are reserved

some_memory : Memory
some_memory = record {
  protection = λ a. record {
    rights = cond (ltb 4095 a && ltb a 4112) ReadWrite
        Nothing;
    execute = false;
  };
  byte = λ a. 7;
}

some_reserved : ℕ → Bool
some_reserved a = ltb 8191 a

by_zero : performed some_reserved (operations.Divide Signed Int) 7 0 some_memory
    ≡ Raises (record { 0 = 0xC0000094 }) None
by_zero = refl

too_large : performed some_reserved (operations.Remainder Signed Int) 0x80000000 0xFFFFFFFF
    some_memory ≡ Raises (record { 0 = 0xC0000095 }) None
too_large = refl

seven_by_minus_two : performed some_reserved (operations.Divide Signed Int) 7 0xFFFFFFFE some_memory
    ≡ Gives 0xFFFFFFFD some_memory
seven_by_minus_two = refl

loaded_word : performed some_reserved (operations.Load W16) 4096 0 some_memory
    ≡ Gives 0x0707 some_memory
unfolding some_memory some_reserved first_refused number_at
loaded_word = refl

-- the first byte that may not be read is the third
loaded_over_the_end : performed some_reserved (operations.Load W32) 4110 0 some_memory
    ≡ Raises (record { 0 = 0xC0000005 }) (Some (false, 4112))
unfolding some_memory some_reserved first_refused number_at
loaded_over_the_end = refl

stored_nowhere : performed some_reserved (operations.Store W8) 0 1 some_memory
    ≡ Raises (record { 0 = 0xC0000005 }) (Some (true, 0))
unfolding some_memory some_reserved first_refused
stored_nowhere = refl

reserved_byte : performed some_reserved (operations.Load W32) 8190 0 some_memory ≡ Undefined 8192
unfolding some_memory some_reserved first_refused number_at
reserved_byte = refl

-- ---- instructions

some_body : BodyState
some_body = record { slots = λ x. 3; memory = some_memory }

jumps_not : step some_reserved (instructions.JumpIfZero (Local 0) 5) some_body ≡ Next some_body
unfolding some_body
jumps_not = refl
