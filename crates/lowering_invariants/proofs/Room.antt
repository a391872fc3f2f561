-- The slots of a body of a program that is nested within the limits are enough.
use Rattle.std.proofs.Common.{◌≡◌, ℕ, zero, suc, ◌≤◌, List, [], ◌∷◌, refl, subst, arith}
use Rattle.std.specs.List.{AllByRecursion}
use Rattle.std.specs.Prelude.{slice_get, get_or, Option, Some, None}
use Rattle.lowering_invariants.specs.Words.{Program, IsSound, Slot, Local, Temporary, Instruction, LinearBody, LinearFunction, LinearFunclet, BodyName, FunctionBody, FuncletBody, function_body, funclet_body, body_of, instruction_temporaries, temporaries_in, instruction_passes, passed_in, slot_temporaries, lowered, AreShallow, IsPlain, IsSmallBody, IsSmallFunction, IsSmallFunclet, IsAmong, with_written, with_tested, after, depths, LoweredHasRoom}
use Rattle.linear_code.specs.declared.instruction.Instruction.TheVariants as instructions
use Rattle.linear_code.specs.BodyState.{Counts}
use Rattle.linear_code.specs.Meaning.{IsSlot, HasSlots}
use Rattle.lowering_invariants.proofs.SmallNumbers.Small.{lowered_is_small}
use Rattle.lowering_invariants.specs.Room.{counts_of, PassesWell, BodyHasRoom}
use Rattle.lowering_invariants.proofs.EveryBody.{every_body}
use Rattle.lowering_invariants.proofs.Stacks.StackTargets.{same_it, all_at}

-- a body has as many temporaries and places of arguments as its code uses
record IsCounted (b : LinearBody) : Type 0 where
  temporaries : b.temporaries ≡ temporaries_in b.code
  passed : b.passed ≡ passed_in b.code

counted : (program : Program) (name : BodyName) (b : LinearBody)
    → body_of (lowered program) name ≡ Some b → IsCounted b
counted = every_body IsCounted (λ owner names e. record { temporaries = refl; passed = refl })
    (λ owner names last. record { temporaries = refl; passed = refl })
    (λ f. record { temporaries = refl; passed = refl })

-- ---- slots

slot_there : (n : Counts) (x : Slot) → IsAmong n.locals x → slot_temporaries x ≤ n.temporaries
    → IsSlot n x
slot_there n (Local i) h le = h
slot_there n (Temporary i) h le = omega arith

slots_there : (n : Counts) (i : Instruction) → IsPlain n.locals i
    → instruction_temporaries i ≤ n.temporaries → HasSlots n i
slots_there n (instructions.Compute to o first second) h
    le = (
      slot_there n to h.0 (omega arith),
      slot_there n first h.1 (omega arith),
      slot_there n second h.2 (omega arith),
    )
slots_there n (instructions.Information to field) h le = slot_there n to h.0 le
slots_there n (instructions.Jump label) h le = tt
slots_there n (instructions.JumpIfZero slot label) h le = slot_there n slot h le
slots_there n (instructions.Call f first count) h le = (omega arith, omega arith)
slots_there n (instructions.CallBuiltIn f first) h le = le
slots_there n (instructions.CallFinally k) h le = tt
slots_there n (instructions.LocalUnwind label) h le = tt
slots_there n (instructions.Landing to) h le = slot_there n to h le
slots_there n instructions.Separator h le = tt
slots_there n (instructions.Return from) h le = slot_there n from h le

all_slots : (n : Counts) (is : List Instruction) → AllByRecursion (IsPlain n.locals) is
    → temporaries_in is ≤ n.temporaries → AllByRecursion (HasSlots n) is
all_slots n [] h le = tt
all_slots n (i ∷ is) h le = (slots_there n i h.0 (omega arith), all_slots n is h.1 (omega arith))

-- ---- depths

written_within : (to : Slot) (d m : ℕ) → d ≤ m → slot_temporaries to ≤ m → with_written to d ≤ m
written_within (Local x) d m a b = a
written_within (Temporary i) d m a b = omega arith

tested_within : (to : Slot) (d m : ℕ) → d ≤ m → slot_temporaries to ≤ m → with_tested to d ≤ m
tested_within (Local x) d m a b = a
tested_within (Temporary i) d m a b = omega arith

after_within : (i : Instruction) (d m : ℕ) → d ≤ m → instruction_temporaries i ≤ m → after i d ≤ m
after_within (instructions.Compute to o first second) d m a b = written_within to d m a
    (omega arith)
after_within (instructions.Information to field) d m a b = written_within to d m a b
after_within (instructions.Jump label) d m a b = omega arith
after_within (instructions.JumpIfZero slot label) d m a b = tested_within slot d m a b
after_within (instructions.Call f first count) d m a b = omega arith
after_within (instructions.CallBuiltIn f first) d m a b = omega arith
after_within (instructions.CallFinally k) d m a b = a
after_within (instructions.LocalUnwind label) d m a b = a
after_within (instructions.Landing to) d m a b = written_within to d m a b
after_within instructions.Separator d m a b = omega arith
after_within (instructions.Return from) d m a b = omega arith

depths_within : (is : List Instruction) (d m label : ℕ) → d ≤ m → temporaries_in is ≤ m
    → get_or (depths is d) label 0 ≤ m
depths_within [] d m zero a b = a
depths_within [] d m (suc label) a b = omega arith
depths_within (i ∷ is) d m zero a b = a
depths_within (i ∷ is) d m (suc label) a b = depths_within is (after i d) m label
    (after_within i d m a (omega arith)) (omega arith)

-- ---- calls

passes : (n m : ℕ) (i : Instruction) → IsPlain n i → instruction_passes i ≤ m → PassesWell m i
passes n m (instructions.Call f first count) h le = (h, omega arith)
passes n m i h le = tt

all_passes : (n m : ℕ) (is : List Instruction) → AllByRecursion (IsPlain n) is → passed_in is ≤ m
    → AllByRecursion (PassesWell m) is
all_passes n m [] h le = tt
all_passes n m (i ∷ is) h le = (passes n m i h.0 (omega arith), all_passes n m is h.1 (omega arith))

-- ---- bodies

roomy : (b : LinearBody) → IsCounted b → IsSmallBody b → BodyHasRoom b
roomy b c s =
    let t = c.temporaries in
    let p = c.passed in
    record {
      slots = all_slots (counts_of b) b.code s.code (omega arith);
      depths = λ label. depths_within b.code 0 b.temporaries label (omega arith) (omega arith);
      calls = all_passes b.locals b.passed b.code s.code (omega arith);
    }

function_small : (fs : List LinearFunction) → AllByRecursion IsSmallFunction fs
    → (k : ℕ) (o : Option LinearFunction) (b : LinearBody) → slice_get fs k ≡ o
    → function_body o ≡ Some b → IsSmallBody b
function_small fs h k None b e g = absurd (cc)
function_small fs h k (Some f) b e g = subst IsSmallBody (same_it f.body b g)
    (all_at IsSmallFunction fs k f h e).body

module _ (program : Program) (h : IsSound program) (shallow : AreShallow program.functions) where
  funclet_small : (fs : List LinearFunclet) → AllByRecursion (IsSmallFunclet (lowered program)) fs
      → (k : ℕ) (o : Option LinearFunclet) (b : LinearBody) → slice_get fs k ≡ o
      → funclet_body o ≡ Some b → IsSmallBody b
  funclet_small fs h k None b e g = absurd (cc)
  funclet_small fs h k (Some f) b e g = subst IsSmallBody (same_it f.body b g)
      (all_at (IsSmallFunclet (lowered program)) fs k f h e).body

  pub body_small : (name : BodyName) (b : LinearBody) → body_of (lowered program) name ≡ Some b
      → IsSmallBody b
  body_small (FunctionBody k) b e = function_small (lowered program).functions
      (lowered_is_small program h shallow).functions k (slice_get (lowered program).functions k) b
      refl e
  body_small (FuncletBody k) b e = funclet_small (lowered program).funclets
      (lowered_is_small program h shallow).funclets k (slice_get (lowered program).funclets k) b
      refl e

pub has_room : LoweredHasRoom
has_room program h shallow name b e = roomy b (counted program name b e)
    (body_small program h shallow name b e)
