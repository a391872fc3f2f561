-- The pages that are mapped, with the globals and the data stack's pointer in them, are the memory
-- that a program begins with.
use Rattle.std.proofs.Common.{◌≡◌, ℕ, ◌+◌, ◌-◌, ◌/◌, ◌%◌, ◌^◌, ◌<◌, ◌≤◌, Bool, true, false, cond}
use Rattle.std.proofs.Common.{List, length, None, refl, sym, ap, ◌∙◌, arith, inl, inr}
use Rattle.std.specs.Prelude.{◌&&◌, ◌||◌, nat_lt, get_or, slice_index}
use Rattle.std.proofs.lemmas.Bool.{cases_lt, lt-ltb, le-ltb, le-leb, lt-leb}
use Rattle.std.proofs.lemmas.List.{get_or_past}
use Rattle.host_layout.specs.declared.range.TheConstants.{FIRST_DATA, DATA_STACK_START}
use Rattle.host_layout.specs.declared.range.TheConstants.{FIRST_DATA_STACK}
use Rattle.host_layout.specs.Ranges.{in_data_stack}
use Rattle.flat_memory.specs.declared.protection.Rights.TheVariants.{Nothing, ReadWrite}
use Rattle.flat_memory.specs.Memory.{Memory, distance, first_byte, first_refused, is_among}
use Rattle.flat_memory.specs.Memory.{may_write, with_bytes, with_number, with_pointer}
use Rattle.flat_memory.specs.Memory.{unless_refused}
use Rattle.flat_memory.proofs.Stores.{beyond, outside}
use Rattle.x64_memory.specs.declared.region.TheConstants.{ARENA}
use Rattle.x64_memory.specs.Regions.{mapped, filled, covers}
use Rattle.source_meaning.specs.Source.{data_end, is_data, plain_mode, first_memory}
use Rattle.source_operations.specs.Regions.{regions}

same_mode : (b c d : Bool) → cond b (plain_mode ReadWrite)
    (cond c (plain_mode ReadWrite) (cond d (plain_mode Nothing) (plain_mode Nothing)))
    ≡ cond (b || c) (plain_mode ReadWrite) (plain_mode Nothing)
same_mode true c d = refl
same_mode false true d = refl
same_mode false false true = refl
same_mode false false false = refl

always_zero : (b c d : Bool) → ◌≡◌ {A = ℕ} (cond b 0 (cond c 0 (cond d 0 0))) 0
always_zero true c d = refl
always_zero false true d = refl
always_zero false false true = refl
always_zero false false false = refl

module _ (xs : List ℕ) where
  abbrev pub before : Memory
  before = filled (mapped (regions (data_end xs))) FIRST_DATA xs

  zero_at : (a : ℕ) → (mapped (regions (data_end xs))).byte a ≡ 0
  zero_at a = always_zero (is_data xs a) (in_data_stack a) (covers ARENA a)

  below_data : (a : ℕ) → a < FIRST_DATA → before.byte a ≡ 0
  below_data a lt =
      ap (λ b. cond (b && nat_lt a (FIRST_DATA + length xs)) (slice_index xs (a - FIRST_DATA))
      ((mapped (regions (data_end xs))).byte a)) (lt-leb FIRST_DATA a lt)
      ∙ zero_at a

  in_data : (a : ℕ) → FIRST_DATA ≤ a → before.byte a ≡ get_or xs (a - FIRST_DATA) 0
  in_data a le =
      ap (λ b. cond (b && nat_lt a (FIRST_DATA + length xs)) (slice_index xs (a - FIRST_DATA))
      ((mapped (regions (data_end xs))).byte a)) (le-leb FIRST_DATA a le)
      ∙ elim (cases_lt a (FIRST_DATA + length xs)) [
        | inl lt ↦ ap (λ b. cond b (slice_index xs (a - FIRST_DATA))
            ((mapped (regions (data_end xs))).byte a)) (lt-ltb a (FIRST_DATA + length xs) lt)
        | inr ge ↦ ap (λ b. cond b (slice_index xs (a - FIRST_DATA))
            ((mapped (regions (data_end xs))).byte a)) (le-ltb a (FIRST_DATA + length xs) ge)
            ∙ zero_at a ∙ sym (get_or_past xs (a - FIRST_DATA) 0 (omega arith))
      ]

  -- the pointer's bytes are below the globals
  kept : (a : ℕ) → FIRST_DATA ≤ a
      → with_number before.byte 8 DATA_STACK_START FIRST_DATA_STACK a ≡ before.byte a
  kept a le = elim (cases_lt a (2 ^ 64)) [
    | inl lt ↦ beyond before.byte 8 DATA_STACK_START FIRST_DATA_STACK a lt (omega arith)
    | inr ge ↦ outside before.byte 8 DATA_STACK_START FIRST_DATA_STACK a ge
  ]

  over_zero : (a : ℕ) → before.byte a ≡ 0
      → with_number before.byte 8 DATA_STACK_START FIRST_DATA_STACK a ≡ first_byte a
  unfolding with_number
  over_zero a e = ap (λ z. cond (is_among 8 DATA_STACK_START a)
      (FIRST_DATA_STACK / 256 ^ distance DATA_STACK_START a % 256) z) e

  same_byte : (a : ℕ) → with_number before.byte 8 DATA_STACK_START FIRST_DATA_STACK a
      ≡ cond (nat_lt a FIRST_DATA) (first_byte a) (get_or xs (a - FIRST_DATA) 0)
  same_byte a = elim (cases_lt a FIRST_DATA) [
    | inl lt ↦ over_zero a (below_data a lt)
        ∙ sym (ap (λ b. cond b (first_byte a) (get_or xs (a - FIRST_DATA) 0))
        (lt-ltb a FIRST_DATA lt))
    | inr ge ↦ kept a ge ∙ in_data a ge
        ∙ sym (ap (λ b. cond b (first_byte a) (get_or xs (a - FIRST_DATA) 0))
        (le-ltb a FIRST_DATA ge))
  ]

  may_all : first_refused (may_write before) 8 DATA_STACK_START ≡ None
  unfolding first_refused
  may_all = refl

  pointed : with_bytes before (with_number before.byte 8 DATA_STACK_START FIRST_DATA_STACK)
      ≡ first_memory xs
  pointed = λ i. record {
    protection =
        λ a. same_mode (is_data xs a) (in_data_stack a) (covers ARENA a) i;
    byte = λ a. same_byte a i;
  }

  pub globals_mapped : with_pointer before FIRST_DATA_STACK ≡ first_memory xs
  globals_mapped = ap (λ o. unless_refused o
      (with_bytes before (with_number before.byte 8 DATA_STACK_START FIRST_DATA_STACK)) before)
      may_all ∙ pointed
