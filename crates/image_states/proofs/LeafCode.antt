-- What makes a function a leaf: few slots, and code that writes RAX alone.
use Rattle.std.proofs.Common.{◌≡◌, ℕ, ◌+◌, ◌≤◌, ◌==◌, true, List, [], ◌∷◌, length}
use Rattle.std.specs.Prelude.{◌&&◌, nat_le}
use Rattle.std.specs.List.{AllByRecursion}
use Rattle.std.proofs.lemmas.Bool.{and_parts, leb-true, false≢true}
use Rattle.image_states.specs.Words.{Slot, Local, Temporary, Instruction, LinearFunction, Layout, is_kept, is_spare, all_spare}
use Rattle.linear_code.specs.declared.instruction.Instruction.TheVariants as instructions
use Rattle.template_code.specs.Operands.{needs_rax_alone}
use Rattle.x64_templates.specs.Frames.{IsKept}
use Rattle.x64_templates.specs.InstructionRuns.{IsSpare, KeepsArrivals}
use Rattle.image_link.specs.Routines as link

-- its parameters are among its locals, and all its slots are in four words
pub record IsLeafFunction (f : LinearFunction) : Type 0 where
  pub parameters : f.parameters ≤ f.body.locals
  pub few : f.body.locals + f.body.temporaries ≤ 4
  pub spare : all_spare f.parameters f.body.code ≡ true

pub leaf_facts : (f : LinearFunction) → link.is_leaf f ≡ true → IsLeafFunction f
leaf_facts f e =
    let b = f.body in
    let bare = (length b.regions == 0) && all_spare f.parameters b.code in
    let few = nat_le (b.locals + b.temporaries) 4 in
    let q = and_parts (nat_le f.parameters b.locals) (few && bare) e in
    let r = and_parts few bare q.1 in
    record {
      parameters = leb-true f.parameters b.locals q.0;
      few = leb-true (b.locals + b.temporaries) 4 r.0;
      spare = (and_parts (length b.regions == 0) (all_spare f.parameters b.code) r.1).1;
    }

-- ---- instructions

slot_kept : (y : Layout) (x : Slot) → is_kept y.arrivals x ≡ true → IsKept y x
slot_kept y (Temporary i) e = tt
slot_kept y (Local i) e = leb-true y.arrivals i e

one_spare : (n : ℕ) (i : Instruction) → is_spare n i ≡ true → IsSpare i
one_spare n (instructions.Compute to o first second) e =
    (and_parts (needs_rax_alone o) (is_kept n to) e).0
one_spare n (instructions.Jump label) e = tt
one_spare n (instructions.JumpIfZero slot label) e = tt
one_spare n instructions.Separator e = tt
one_spare n (instructions.Return from) e = tt
one_spare n i e = absurd (false≢true e)

one_kept : (y : Layout) (i : Instruction) → is_spare y.arrivals i ≡ true → KeepsArrivals y i
one_kept y (instructions.Compute to o first second) e =
    slot_kept y to (and_parts (needs_rax_alone o) (is_kept y.arrivals to) e).1
one_kept y (instructions.Information to field) e = absurd (false≢true e)
one_kept y (instructions.Landing to) e = absurd (false≢true e)
one_kept y i e = tt

-- ---- code

pub code_spare : (n : ℕ) (is : List Instruction) → all_spare n is ≡ true
    → AllByRecursion IsSpare is
code_spare n [] e = tt
code_spare n (i ∷ is) e =
    let p = and_parts (is_spare n i) (all_spare n is) e in
    (one_spare n i p.0, code_spare n is p.1)

pub code_kept : (y : Layout) (is : List Instruction) → all_spare y.arrivals is ≡ true
    → AllByRecursion (KeepsArrivals y) is
code_kept y [] e = tt
code_kept y (i ∷ is) e =
    let p = and_parts (is_spare y.arrivals i) (all_spare y.arrivals is) e in
    (one_kept y i p.0, code_kept y is p.1)
