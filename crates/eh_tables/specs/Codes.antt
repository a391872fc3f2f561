-- Unwind codes, as cases on a list of slots. A slot has two bytes.
--
-- The main definition: `checked`.
use Rattle.std.specs.Prelude.{ℕ, zero, suc, ◌+◌, ◌*◌, ◌/◌, ◌%◌, Bool, true, false, ◌==◌, nat_lt, if◌then◌else◌, List, [], ◌∷◌, Option, Some, None, Ok, Err}
use Rattle.pe_image.specs.Field.{field}
use Rattle.eh_tables.specs.declared.layout.TheConstants.{UWOP_PUSH_NONVOL, UWOP_ALLOC_LARGE, UWOP_ALLOC_SMALL, UWOP_SET_FPREG, UWOP_SAVE_NONVOL, UWOP_SAVE_NONVOL_FAR, UWOP_SAVE_XMM128, UWOP_SAVE_XMM128_FAR, UWOP_PUSH_MACHFRAME}
use Rattle.eh_tables.specs.declared.code.UnwindOperation.{UnwindOperation}
use Rattle.eh_tables.specs.declared.code.UnwindOperation.TheVariants.{Push, Allocate, SetFrame, Save, SaveVector, MachineFrame}
use Rattle.eh_tables.specs.declared.code.UnwindCode.{UnwindCode}
use Rattle.eh_tables.specs.declared.refusal.TableErr.TheVariants as refusals
use Rattle.eh_tables.specs.Answer.{Table}

-- ---- one code

-- an operation, and how many slots of operands follow its code's first slot
abbrev pub OperationAndSlots : Type 0
OperationAndSlots = Option (UnwindOperation × ℕ)

-- one slot of operands, a number of 16 bits, or two, a number of 32 bits
abbrev pub one_slot : List ℕ → Option ℕ
one_slot (a ∷ b ∷ rest) = Some (field 2 (a ∷ b ∷ rest) 0)
one_slot (a ∷ []) = None
one_slot [] = None

abbrev pub two_slots : List ℕ → Option ℕ
two_slots (a ∷ b ∷ c ∷ d ∷ rest) = Some (field 4 (a ∷ b ∷ c ∷ d ∷ rest) 0)
two_slots (a ∷ b ∷ c ∷ []) = None
two_slots (a ∷ b ∷ []) = None
two_slots (a ∷ []) = None
two_slots [] = None

abbrev pub taken : (ℕ → UnwindOperation) → ℕ → Option ℕ → OperationAndSlots
taken f n None = None
taken f n (Some v) = Some (f v, n)

-- UWOP_ALLOC_LARGE: the size in units of 8 bytes, or the size
abbrev pub large : ℕ → List ℕ → OperationAndSlots
large info rest =
    if info == 0 then taken (λ n. Allocate (8 * n)) 1 (one_slot rest)
    else (if info == 1 then taken (λ n. Allocate n) 2 (two_slots rest) else None)

-- the table of unwind operation codes. None where the operation isn't listed, its info isn't
-- allowed, there is no frame register to set, or its operands aren't there
unfoldable pub operation : Bool → ℕ → ℕ → List ℕ → OperationAndSlots
operation framed op info rest =
    if op == UWOP_PUSH_NONVOL then Some (Push info, 0)
    else (if op == UWOP_ALLOC_LARGE then large info rest
    else (if op == UWOP_ALLOC_SMALL then Some (Allocate (8 * info + 8), 0)
    else (if op == UWOP_SET_FPREG then (if framed then Some (SetFrame, 0) else None)
    else (if op == UWOP_SAVE_NONVOL then taken (λ n. Save info (8 * n)) 1 (one_slot rest)
    else (if op == UWOP_SAVE_NONVOL_FAR then taken (λ n. Save info n) 2 (two_slots rest)
    else (if op == UWOP_SAVE_XMM128 then taken (λ n. SaveVector info (16 * n)) 1 (one_slot rest)
    else (if op == UWOP_SAVE_XMM128_FAR then taken (λ n. SaveVector info n) 2 (two_slots rest)
    else (if op == UWOP_PUSH_MACHFRAME
    then (if nat_lt info 2 then Some (MachineFrame info, 0) else None)
    else None))))))))

-- ---- the codes of the slots, of which the first `skip` are still operands

-- what they must be: each operation known, and no prologue offset above the one before. The first
-- refusal names the first slot of its code
abbrev pub in_order : ℕ → ℕ → Table Unit → Bool → Table Unit
in_order index slot others true = Err (refusals.CodeOrder index slot)
in_order index slot others false = others

abbrev pub code_checked : ℕ → ℕ → ℕ → ℕ → (ℕ → Table Unit) → OperationAndSlots → Table Unit
code_checked index slot last offset others None = Err (refusals.Op index slot)
code_checked index slot last offset others (Some x) =
    in_order index slot (others x.1) (nat_lt last offset)

-- a list of slots, case by case. Each code's offset is no greater than the one before, its
-- operation is known, its info is one that it may have, and its operands are there.
abbrev pub checked : ℕ → Bool → ℕ → ℕ → ℕ → List ℕ → Table Unit
checked index framed slot last skip [] = Ok tt
checked index framed slot last skip (a ∷ []) = Ok tt
checked index framed slot last (suc k) (a ∷ b ∷ rest) = checked index framed (slot + 1) last k rest
checked index framed slot last zero (a ∷ b ∷ rest) =
    code_checked index slot last a (λ k. checked index framed (slot + 1) a k rest)
    (operation framed (b % 16) (b / 16) rest)

-- what they say, up to the first that isn't known
abbrev pub code_before : ℕ → (ℕ → List UnwindCode) → OperationAndSlots → List UnwindCode
code_before offset others None = []
code_before offset others (Some x) = record { offset = offset; operation = x.0 } ∷ others x.1

abbrev pub codes : Bool → ℕ → List ℕ → List UnwindCode
codes framed skip [] = []
codes framed skip (a ∷ []) = []
codes framed (suc k) (a ∷ b ∷ rest) = codes framed k rest
codes framed zero (a ∷ b ∷ rest) =
    code_before a (λ k. codes framed k rest) (operation framed (b % 16) (b / 16) rest)
