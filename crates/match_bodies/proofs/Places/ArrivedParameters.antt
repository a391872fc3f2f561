-- The parameters of a leaf function stay in the registers in which they arrive.
use Rattle.std.proofs.Common.{◌≡◌, ◌<◌, ℕ, zero, suc, Bool, true, false, cond, Some, List, [], ◌∷◌, refl, subst, arith}
use Rattle.std.specs.Prelude.{◌==◌, slice_get, slice_index}
use Rattle.std.specs.List.{AllByRecursion}
use Rattle.match_bodies.specs.Words.{State, Rcx, Rdx, Local, Temporary, Slot, Instruction, LinearBody, BodyName, body_of, Layout, registers_of, seen_by_templates, arriving, arrived_in, IsKept, KeepsArrivals, Setting}
use Rattle.x64_instr.specs.declared.register.Reg.TheVariants.{R8, R9}
use Rattle.x64_instr.specs.Registers.{number}
use Rattle.x64_machine.specs.declared.cpu.Cpu.{Cpu}
use Rattle.linear_code.specs.declared.instruction.Instruction.TheVariants as instructions
use Rattle.match_bodies.proofs.Places.StackTop.{leaf_layout, none_arrive}

-- what of a list holds of each of its elements
pub each : {A : Type 0} → (P : A → Type 0) (xs : List A) (i : ℕ) (x : A) → AllByRecursion P xs
    → slice_get xs i ≡ Some x → P x
each P [] i x h e = cc
each {A = A} P (y ∷ xs) zero x h e = subst P (the_same y x e) h.0
  where
    the_same : (a b : A) → Some a ≡ Some b → a ≡ b
    the_same a b e = cc
each P (y ∷ xs) (suc i) x h e = each P xs i x h.1 e

-- templates see the numbers of the processor's registers
pub arriving_is : (s : State) (i : ℕ) → arriving (seen_by_templates s) i ≡ arrived_in s.cpu i
arriving_is s i = by (i == 0) (i == 1) (i == 2)
  where
    by : (x y z : Bool)
        → slice_index (registers_of (seen_by_templates s))
        (number (cond x Rcx (cond y Rdx (cond z R8 R9))))
        ≡ slice_index s.cpu.registers (number (cond x Rcx (cond y Rdx (cond z R8 R9))))
    by true y z = refl
    by false true z = refl
    by false false true = refl
    by false false false = refl

-- where none stays every slot is another
kept_where_none : (y : Layout) (x : Slot) → y.arrivals ≡ 0 → IsKept y x
kept_where_none y (Temporary i) none = tt
kept_where_none y (Local i) none = omega arith

keeps_where_none : (y : Layout) (i : Instruction) → y.arrivals ≡ 0 → KeepsArrivals y i
keeps_where_none y (instructions.Compute to o first second) none = kept_where_none y to none
keeps_where_none y (instructions.Information to field) none = kept_where_none y to none
keeps_where_none y (instructions.Landing to) none = kept_where_none y to none
keeps_where_none y i none = tt

-- the result of a body's instruction goes to no parameter that stays in its register
pub keeps_arrivals : (setting : Setting) (name : BodyName) (b : LinearBody)
    → body_of setting.program name ≡ Some b → (label : ℕ) (i : Instruction)
    → slice_get b.code label ≡ Some i → KeepsArrivals (setting.plan.layout name) i
keeps_arrivals setting name b there label i at = by (p.leaf name) refl
  where
    open setting use {functions as t, funclets as fs, program, plan as p, sites as q, image}

    by : (leaf : Bool) → p.leaf name ≡ leaf → KeepsArrivals (p.layout name) i
    by false e = keeps_where_none (p.layout name) i
        (none_arrive t fs program p q name b e (image.laid_out name b there))
    by true e = each (KeepsArrivals (p.layout name)) b.code label i
        (leaf_layout t fs program p q name b e (image.laid_out name b there)).keeps at

-- where a body has a frame none stays
pub no_arrivals : (setting : Setting) (name : BodyName) (b : LinearBody)
    → body_of setting.program name ≡ Some b → setting.plan.leaf name ≡ false → (cpu cpu' : Cpu)
    (i : ℕ) → i < (setting.plan.layout name).arrivals → arrived_in cpu' i ≡ arrived_in cpu i
no_arrivals setting name b there framed cpu cpu' i lt =
    let none = none_arrive setting.functions setting.funclets setting.program setting.plan
    setting.sites name b framed (setting.image.laid_out name b there) in
    absurd (omega arith)
