-- The code of a leaf function writes RAX alone: parameters stay in the registers in which they
-- arrive.
use Rattle.std.proofs.Common.{◌≡◌, ℕ, ◌+◌, ◌<◌, ◌≤◌, ◌==◌, Bool, true, false, cond, List, [], ◌∷◌, ◌++◌, length, Option, Some, None, Ok, refl, sym, ap, subst, ◌∙◌, arith}
use Rattle.std.specs.Prelude.{slice_index}
use Rattle.x64_templates.specs.Words.{W8, W16, W32, W64, Rax, Rcx, Rdx, R8, R9, Width, Size, Int, Long, Signedness, Unsigned, Signed, Instr, Cpu, State, Answer, number, holds, with_rip, effect, target_of, jumped, Operation, Pure, Slot, Local, Temporary, Instruction, Layout, MachineView, registers_of, size, before, work, extended, pure_code, local_at, fetch_local, keep_local, fetch, fetch_if, keep, fetch_placed, keep_placed, has_first, has_second, needs_rax_alone, operands_code, finish_code, compute_code, compare_zero, jump_equal, test_code, Links, template, Place, InRegister, InFrame, Arriving, place_of, parameter_register, HasCode, Reaches, FramePlace, AreArrived, IsKept, KeepsArrivals, IsSpare, is_rax, writes_only, spares_registers, SparesRegisters, sizes}
use Rattle.c_operations.specs.declared.operation.Pure.TheVariants as pures
use Rattle.c_operations.specs.declared.operation.Operation.TheVariants as operations
use Rattle.linear_code.specs.declared.instruction.Instruction.TheVariants as instructions
use Rattle.x64_instr.specs.declared.instruction.Instr.TheVariants as instrs
use Rattle.x64_templates.proofs.PlacedCode.{Encodable}
use Rattle.x64_templates.proofs.Keeping.{KeepsAllButRax, bound, rax_alone}
use Rattle.x64_templates.proofs.Chains.{decoded, next_code}
use Rattle.x64_templates.specs.Epilogues.{IsReturn}

-- ---- one instruction

-- RIP alone changed
moved_spares : (s : State) (c : Cpu) (t : State) → c.registers ≡ s.cpu.registers
    → ◌≡◌ {A = Answer State} (Ok (record s { cpu = c })) (Ok t)
    → KeepsAllButRax s.cpu.registers t.cpu.registers
moved_spares s c t same e =
    let u : State = record s { cpu = c } in
    let at : u ≡ t = cc in
    λ n lt. ap (λ (x : State). slice_index x.cpu.registers n) (sym at)
    ∙ ap (λ (xs : List ℕ). slice_index xs n) same

jumped_same : (c : Cpu) (b : Bool) (rip : ℕ)
    → (cond b (record c { rip = rip }) c).registers ≡ c.registers
jumped_same c true rip = refl
jumped_same c false rip = refl

pub spares : (i : Instr) (s t : State) → spares_registers i ≡ true → effect s i ≡ Ok t
    → KeepsAllButRax s.cpu.registers t.cpu.registers
spares (instrs.Jump to) s t q e =
    let b = bound (target_of s to) (λ a. Ok (with_rip s a)) t e in
    moved_spares s (record s.cpu { rip = b.0 }) t refl b.1
spares (instrs.JumpIf c d) s t q e =
    moved_spares s (jumped s.cpu c d) t (jumped_same s.cpu (holds s.cpu.flags c) _) e
spares i s t q e = (rax_alone i s t q e).registers

-- ---- a run over code

-- all registers but RAX are as they were where such code ends
pub run_spares : (is : List Instr) (u w : State) → Encodable is → SparesRegisters is
    → HasCode u.memory u.cpu.rip is → Reaches (length is) u w
    → KeepsAllButRax u.cpu.registers w.cpu.registers
run_spares [] u w spelling keep code r =
    λ n lt. ap (λ (x : State). slice_index x.cpu.registers n) (sym r)
run_spares (i ∷ []) u w spelling keep code r =
    let d = decoded u i [] spelling.0 code in
    let k = spares i (with_rip u (u.cpu.rip + size i)) r.0 keep
    (sym d.does ∙ r.1.steps.steps) in
    λ n lt. ap (λ (x : State). slice_index x.cpu.registers n) (sym r.2) ∙ k n lt
run_spares (i ∷ j ∷ is) u w spelling keep code r =
    let d = decoded u i (j ∷ is) spelling.0 code in
    let k = rax_alone i (with_rip u (u.cpu.rip + size i)) r.0 keep.0
    (sym d.does ∙ r.1.steps.steps) in
    let next = next_code i (j ∷ is) u r.0 r.1 k.rip code in
    λ n lt. run_spares (j ∷ is) r.0 w spelling.1 keep.1 next r.2 n lt ∙ k.registers n lt

-- ---- lists

abbrev pub WritesRax : List Instr → Type 0
WritesRax [] = Unit {0}
WritesRax (i ∷ is) = (writes_only is_rax i ≡ true) × WritesRax is

pub rax_both : (a b : List Instr) → WritesRax a → WritesRax b → WritesRax (a ++ b)
rax_both [] b p q = q
rax_both (i ∷ a) b p q = (p.0, rax_both a b p.1 q)

-- what writes RAX alone spares the others
rax_spares_one : (i : Instr) → writes_only is_rax i ≡ true → spares_registers i ≡ true
rax_spares_one (instrs.Jump to) e = refl
rax_spares_one (instrs.JumpIf c d) e = refl
rax_spares_one i e = e

spares_on : (a : List Instr) (j : Instr) (b : List Instr) → WritesRax a → SparesRegisters (j ∷ b)
    → SparesRegisters (a ++ (j ∷ b))
spares_on [] j b p q = q
spares_on (i ∷ []) j b p q = (p.0, q)
spares_on (i ∷ k ∷ a) j b p q = (p.0, spares_on (k ∷ a) j b p.1 q)

pub rax_spares : (a : List Instr) → WritesRax a → SparesRegisters a
rax_spares [] p = tt
rax_spares (i ∷ []) p = rax_spares_one i p.0
rax_spares (i ∷ j ∷ a) p = (p.0, rax_spares (j ∷ a) p.1)

-- ---- slots

fetch_local_rax : (o : Option ℕ) (d : ℕ) → WritesRax (fetch_local o Rax d)
fetch_local_rax None d = (refl, tt)
fetch_local_rax (Some b) d = (refl, (refl, tt))

fetch_placed_rax : (y : Layout) (i : ℕ) (q : Place) → WritesRax (fetch_placed y Rax i q)
fetch_placed_rax y i (InRegister r) = (refl, tt)
fetch_placed_rax y i InFrame = fetch_local_rax y.base (local_at y i)
fetch_placed_rax y i Arriving = (refl, tt)

pub fetch_rax : (y : Layout) (x : Slot) → WritesRax (fetch y Rax x)
fetch_rax y (Temporary i) = (refl, tt)
fetch_rax y (Local i) = fetch_placed_rax y i (place_of y i)

fetch_if_rax : (read : Bool) (y : Layout) (x : Slot) → WritesRax (fetch_if read y Rax x)
fetch_if_rax true y x = fetch_rax y x
fetch_if_rax false y x = tt

keep_rax : (y : Layout) (x : Slot) → y.base ≡ None
    → ((i : ℕ) → y.arrivals ≤ i → place_of y i ≡ InFrame) → IsKept y x → WritesRax (keep y x)
keep_rax y (Temporary i) none framed kept = (refl, tt)
keep_rax y (Local i) none framed kept =
    subst (λ (q : Place). WritesRax (keep_placed y i q)) (sym (framed i kept))
    (subst (λ (o : Option ℕ). WritesRax (keep_local o (local_at y i))) (sym none) (refl, tt))

-- ---- operations

extended_rax : (s : Signedness) (n : Width) (z : Size) → WritesRax (extended s n z)
extended_rax Unsigned W8 z = (refl, tt)
extended_rax Unsigned W16 z = (refl, tt)
extended_rax Unsigned W32 z = (refl, tt)
extended_rax Unsigned W64 z = (refl, tt)
extended_rax Signed W8 z = (refl, tt)
extended_rax Signed W16 z = (refl, tt)
extended_rax Signed W32 Int = (refl, tt)
extended_rax Signed W32 Long = (refl, tt)
extended_rax Signed W64 z = (refl, tt)

pure_rax : (p : Pure) → needs_rax_alone (operations.Pure p) ≡ true → WritesRax (pure_code p)
pure_rax (pures.Constant v) e = (refl, tt)
pure_rax pures.First e = tt
pure_rax (pures.Extend s n z) e = extended_rax s n z
pure_rax (pures.Not z) e = (refl, tt)
pure_rax (pures.Negate z) e = (refl, tt)
pure_rax p e = absurd cc

work_rax : (o : Operation) → needs_rax_alone o ≡ true → WritesRax (work o)
work_rax (operations.Pure p) e = pure_rax p e
work_rax (operations.Load W8) e = (refl, tt)
work_rax (operations.Load W16) e = (refl, tt)
work_rax (operations.Load W32) e = (refl, tt)
work_rax (operations.Load W64) e = (refl, tt)
work_rax o e = absurd cc

before_rax : (o : Operation) → needs_rax_alone o ≡ true → WritesRax (before o)
before_rax (operations.Pure p) e = tt
before_rax (operations.Load w) e = tt
before_rax o e = absurd cc

-- such an operation has no second operand
pure_alone : (p : Pure) → needs_rax_alone (operations.Pure p) ≡ true
    → has_second (operations.Pure p) ≡ false
pure_alone (pures.Constant v) e = refl
pure_alone pures.First e = refl
pure_alone (pures.Extend s n z) e = refl
pure_alone (pures.Not z) e = refl
pure_alone (pures.Negate z) e = refl
pure_alone p e = absurd cc

no_second : (o : Operation) → needs_rax_alone o ≡ true → has_second o ≡ false
no_second (operations.Pure p) e = pure_alone p e
no_second (operations.Load w) e = refl
no_second o e = absurd cc

-- up to where it begins
pub operands_rax : (y : Layout) (o : Operation) (first second : Slot) → needs_rax_alone o ≡ true
    → WritesRax (operands_code y o first second)
operands_rax y o first second e =
    rax_both (fetch_if (has_first o) y Rax first) (fetch_if (has_second o) y Rcx second ++ before o)
    (fetch_if_rax (has_first o) y first)
    (rax_both (fetch_if (has_second o) y Rcx second) (before o)
    (subst (λ (read : Bool). WritesRax (fetch_if read y Rcx second)) (sym (no_second o e)) tt)
    (before_rax o e))

pub finish_rax : (y : Layout) (o : Operation) (to : Slot) → y.base ≡ None
    → ((i : ℕ) → y.arrivals ≤ i → place_of y i ≡ InFrame) → IsKept y to → needs_rax_alone o ≡ true
    → WritesRax (finish_code y o to)
finish_rax y o to none framed kept e =
    rax_both (work o) (keep y to) (work_rax o e) (keep_rax y to none framed kept)

-- ---- templates

-- the template of an instruction of a leaf function
pub template_spares : (k : Links) (y : Layout) (at : ℕ) (i : Instruction) → y.base ≡ None
    → ((x : ℕ) → y.arrivals ≤ x → place_of y x ≡ InFrame) → IsSpare i → KeepsArrivals y i
    → (IsReturn i → ⊥) → SparesRegisters (template k y at i)
template_spares k y at (instructions.Compute to o first second) none framed e kept goes =
    rax_spares (compute_code y to o first second)
    (rax_both (operands_code y o first second) (finish_code y o to)
    (operands_rax y o first second e) (finish_rax y o to none framed kept e))
template_spares k y at (instructions.Jump label) none framed e kept goes = refl
template_spares k y at (instructions.JumpIfZero slot label) none framed e kept goes =
    spares_on (fetch y Rax slot) compare_zero
    (jump_equal (at + sizes (test_code y slot) + 6) (k.label label) ∷ []) (fetch_rax y slot)
    (refl, refl)
template_spares k y at instructions.Separator none framed e kept goes = refl
template_spares k y at (instructions.Return from) none framed e kept goes = absurd (goes tt)
template_spares k y at i none framed e kept goes = absurd e

-- ---- parameters

-- they are in other registers than RAX
pub parameter_number : (i : ℕ) → 0 < number (parameter_register i)
parameter_number i = by (i == 0) (i == 1) (i == 2)
  where
    by : (a b c : Bool) → 0 < number (cond a Rcx (cond b Rdx (cond c R8 R9)))
    by true b c = omega arith
    by false true c = omega arith
    by false false true = omega arith
    by false false false = omega arith

-- so they have their numbers after such a run
pub arrived_after : (p : FramePlace) (v w : MachineView)
    → KeepsAllButRax (registers_of v) (registers_of w) → AreArrived p v → AreArrived p w
arrived_after p v w kept here i lt =
    kept (number (parameter_register i)) (parameter_number i) ∙ here i lt
