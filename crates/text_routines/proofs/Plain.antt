-- Code that refers to no address: no instruction of it is a call or takes an address relative to
-- the next instruction.
use Rattle.std.proofs.Common.{◌≡◌, ℕ, zero, suc, ◌+◌, Bool, true, false, ◌&&◌, ◌==◌, ltb, cond, List, [], ◌∷◌, ◌++◌, Option, Some, None, refl, sym, ap, subst, ◌∙◌, arith}
use Rattle.std.specs.List.{AllByRecursion, flat_map}
use Rattle.std.proofs.lemmas.Bool.{false≢true, and_parts, and_from}
use Rattle.seh_num.specs.declared.width.Width.{Width}
use Rattle.seh_num.specs.declared.width.Width.TheVariants.{W8, W16, W32, W64}
use Rattle.x64_instr.specs.declared.register.Reg.{Reg}
use Rattle.x64_instr.specs.declared.register.Reg.TheVariants.{Rax, Rcx, Rsp}
use Rattle.x64_instr.specs.declared.operand.Base.{Base}
use Rattle.x64_instr.specs.declared.operand.Base.TheVariants as bases
use Rattle.x64_instr.specs.declared.instruction.Instr.{Instr}
use Rattle.x64_instr.specs.declared.instruction.Instr.TheVariants as instrs
use Rattle.c_operations.specs.declared.field.Field.{Field}
use Rattle.c_operations.specs.declared.field.Field.TheVariants.{ExceptionCode, ExceptionFlags, NumberParameters, ExceptionInformation}
use Rattle.c_operations.specs.declared.operation.Size.{Size}
use Rattle.c_operations.specs.declared.operation.Size.TheVariants.{Int, Long}
use Rattle.c_operations.specs.declared.operation.Signedness.{Signedness}
use Rattle.c_operations.specs.declared.operation.Signedness.TheVariants.{Unsigned, Signed}
use Rattle.c_operations.specs.declared.operation.Relation.{Relation}
use Rattle.c_operations.specs.declared.operation.Relation.TheVariants as relations
use Rattle.c_operations.specs.declared.operation.Pure.{Pure}
use Rattle.c_operations.specs.declared.operation.Pure.TheVariants as pures
use Rattle.c_operations.specs.declared.operation.Operation.{Operation}
use Rattle.c_operations.specs.declared.operation.Operation.TheVariants as operations
use Rattle.c_operations.specs.Numbers.{width}
use Rattle.linear_code.specs.declared.slot.Slot.{Slot}
use Rattle.linear_code.specs.declared.slot.Slot.TheVariants.{Local, Temporary}
use Rattle.linear_code.specs.declared.instruction.Instruction.{Instruction}
use Rattle.linear_code.specs.declared.instruction.Instruction.TheVariants as instructions
use Rattle.frame_rules.specs.Plan.{FramePlan, Saved, epilogue, loads_then, opening_then, opening_by, pops_then}
use Rattle.template_code.specs.declared.layout.Layout.{Layout}
use Rattle.template_code.specs.declared.layout.Place.{Place}
use Rattle.template_code.specs.declared.layout.Place.TheVariants.{InRegister, InFrame, Arriving}
use Rattle.template_code.specs.Places.{parameter_register, place_of}
use Rattle.template_code.specs.Operands.{has_first, has_second}
use Rattle.template_code.specs.Operations.{move, set, extended, compare, pure_code, high_half, load, before, work}
use Rattle.template_code.specs.Slots.{fetched, temporary_at, local_at, fetch_local, keep_local, fetch_placed, keep_placed, fetch, keep, fetch_if, operands_code, finish_code, compute_code}
use Rattle.template_code.specs.Bytes.{sizes}
use Rattle.template_code.specs.Jumps.{jump_equal, compare_zero, test_code, jump_if_zero_code}
use Rattle.template_code.specs.Template.{Links, template, template_size, code_from}
use Rattle.template_code.specs.Calls.{keep_register, stack_parameter, arguments_code, passing_code, return_code, information_code, field_load, parameter_placed, parameter_code, parameters_code}
use Rattle.template_code.specs.Frames.{plan_of_layout}
use Rattle.x64_emit.specs.Entries.{keep_base}
use Rattle.image_link.specs.Routines.{is_spare, all_spare}
use Rattle.image_link.specs.declared.routine.Entry.{Entry}
use Rattle.image_link.specs.declared.routine.Entry.TheVariants as entries
use Rattle.image_link.specs.Text.{argument_code, base_of}

-- not relative to the next instruction
abbrev pub is_apart : Base → Bool
is_apart bases.Rip = false
is_apart b = true

abbrev pub is_plain : Instr → Bool
is_plain (instrs.Call to) = false
is_plain (instrs.LoadAddress w to a) = is_apart a.base
is_plain i = true

abbrev pub all_plain : List Instr → Bool
all_plain [] = true
all_plain (i ∷ is) = is_plain i && all_plain is

pub plain_both : (a b : List Instr) → all_plain a ≡ true → all_plain b ≡ true
    → all_plain (a ++ b) ≡ true
plain_both [] b p q = q
plain_both (i ∷ a) b p q =
    let r = and_parts (is_plain i) (all_plain a) p in
    and_from (is_plain i) (all_plain (a ++ b)) r.0 (plain_both a b r.1 q)

-- ---- slots

fetch_local_plain : (o : Option ℕ) (r : Reg) (d : ℕ) → all_plain (fetch_local o r d) ≡ true
fetch_local_plain None r d = refl
fetch_local_plain (Some b) r d = refl

keep_local_plain : (o : Option ℕ) (d : ℕ) → all_plain (keep_local o d) ≡ true
keep_local_plain None d = refl
keep_local_plain (Some b) d = refl

fetch_placed_plain : (y : Layout) (r : Reg) (i : ℕ) (p : Place)
    → all_plain (fetch_placed y r i p) ≡ true
fetch_placed_plain y r i (InRegister q) = refl
fetch_placed_plain y r i InFrame = fetch_local_plain y.base r (local_at y i)
fetch_placed_plain y r i Arriving = refl

keep_placed_plain : (y : Layout) (i : ℕ) (p : Place) → all_plain (keep_placed y i p) ≡ true
keep_placed_plain y i (InRegister q) = refl
keep_placed_plain y i InFrame = keep_local_plain y.base (local_at y i)
keep_placed_plain y i Arriving = refl

pub fetch_plain : (y : Layout) (r : Reg) (x : Slot) → all_plain (fetch y r x) ≡ true
fetch_plain y r (Temporary i) = refl
fetch_plain y r (Local i) = fetch_placed_plain y r i (place_of y i)

pub keep_plain : (y : Layout) (x : Slot) → all_plain (keep y x) ≡ true
keep_plain y (Temporary i) = refl
keep_plain y (Local i) = keep_placed_plain y i (place_of y i)

fetch_if_plain : (read : Bool) (y : Layout) (r : Reg) (x : Slot)
    → all_plain (fetch_if read y r x) ≡ true
fetch_if_plain true y r x = fetch_plain y r x
fetch_if_plain false y r x = refl

-- ---- operations

extended_plain : (s : Signedness) (n : Width) (z : Size) → all_plain (extended s n z) ≡ true
extended_plain Unsigned W8 z = refl
extended_plain Unsigned W16 z = refl
extended_plain Unsigned W32 z = refl
extended_plain Unsigned W64 z = refl
extended_plain Signed W8 z = refl
extended_plain Signed W16 z = refl
extended_plain Signed W32 Int = refl
extended_plain Signed W32 Long = refl
extended_plain Signed W64 z = refl

compare_plain : (r : Relation) (s : Signedness) (w : Width) → all_plain (compare r s w) ≡ true
compare_plain relations.Equal s w = refl
compare_plain relations.NotEqual s w = refl
compare_plain relations.Less s w = refl
compare_plain relations.LessOrEqual s w = refl
compare_plain relations.Greater s w = refl
compare_plain relations.GreaterOrEqual s w = refl

pure_plain : (p : Pure) → all_plain (pure_code p) ≡ true
pure_plain (pures.Extend s n z) = extended_plain s n z
pure_plain (pures.Compare r s z) = compare_plain r s (width z)
pure_plain p = refl

half_plain : (s : Signedness) (w : Width) → all_plain (high_half s w ∷ []) ≡ true
half_plain Unsigned w = refl
half_plain Signed w = refl

before_plain : (o : Operation) → all_plain (before o) ≡ true
before_plain (operations.Divide s z) = half_plain s (width z)
before_plain (operations.Remainder s z) = half_plain s (width z)
before_plain o = refl

work_plain : (o : Operation) → all_plain (work o) ≡ true
work_plain (operations.Pure p) = pure_plain p
work_plain (operations.Load W8) = refl
work_plain (operations.Load W16) = refl
work_plain (operations.Load W32) = refl
work_plain (operations.Load W64) = refl
work_plain o = refl

pub compute_plain : (y : Layout) (to : Slot) (o : Operation) (first second : Slot)
    → all_plain (compute_code y to o first second) ≡ true
compute_plain y to o first second =
    plain_both (operands_code y o first second) (finish_code y o to)
    (plain_both (fetch_if (has_first o) y Rax first)
    (fetch_if (has_second o) y Rcx second ++ before o)
    (fetch_if_plain (has_first o) y Rax first)
    (plain_both (fetch_if (has_second o) y Rcx second) (before o)
    (fetch_if_plain (has_second o) y Rcx second) (before_plain o)))
    (plain_both (work o) (keep y to) (work_plain o) (keep_plain y to))

-- ---- around calls

pub arguments_plain : (y : Layout) (first : ℕ) → all_plain (arguments_code y first) ≡ true
arguments_plain y first = refl

pub passing_plain : (y : Layout) (first i n : ℕ) → all_plain (passing_code y first i n) ≡ true
passing_plain y first i zero = refl
passing_plain y first i (suc n) = passing_plain y first (i + 1) n

field_plain : (f : Field) → all_plain (field_load f ∷ []) ≡ true
field_plain ExceptionCode = refl
field_plain ExceptionFlags = refl
field_plain NumberParameters = refl
field_plain (ExceptionInformation k) = refl

pub information_plain : (y : Layout) (to : Slot) (f : Field)
    → all_plain (information_code y to f) ≡ true
information_plain y to f =
    plain_both (field_load f ∷ []) (keep y to) (field_plain f) (keep_plain y to)

-- ---- returns

loads_plain : (ss : List Saved) (is : List Instr) → all_plain is ≡ true
    → all_plain (loads_then ss is) ≡ true
loads_plain [] is h = h
loads_plain (s ∷ ss) is h = loads_plain ss is h

pops_plain : (rs : List ℕ) (is : List Instr) → all_plain is ≡ true
    → all_plain (pops_then rs is) ≡ true
pops_plain [] is h = h
pops_plain (r ∷ rs) is h = pops_plain rs is h

opening_one : (p : FramePlan) (frameless : Bool) → is_plain (opening_by p frameless) ≡ true
opening_one p true = refl
opening_one p false = refl

opening_plain : (p : FramePlan) (none : Bool) (is : List Instr) → all_plain is ≡ true
    → all_plain (opening_then p none is) ≡ true
opening_plain p true is h = h
opening_plain p false is h =
    and_from (is_plain (opening_by p (p.frame == 0))) (all_plain is)
    (opening_one p (p.frame == 0)) h

epilogue_plain : (p : FramePlan) → all_plain (epilogue p) ≡ true
epilogue_plain p =
    let pops = pops_then p.pushes (instrs.Return ∷ []) in
    loads_plain p.saves (opening_then p (p.size == 0) pops)
    (opening_plain p (p.size == 0) pops (pops_plain p.pushes (instrs.Return ∷ []) refl))

pub return_plain : (y : Layout) (from : Slot) → all_plain (return_code y from) ≡ true
return_plain y from =
    plain_both (fetch y Rax from) (epilogue (plan_of_layout y 0)) (fetch_plain y Rax from)
    (epilogue_plain (plan_of_layout y 0))

-- ---- what a routine is called with

register_plain : (y : Layout) (i : ℕ) (r : Reg) (few : Bool)
    → all_plain (cond few (move W64 r (parameter_register i) ∷ [])
    (fetched r Rsp (stack_parameter y i) ∷ [])) ≡ true
register_plain y i r true = refl
register_plain y i r false = refl

frame_plain : (y : Layout) (i : ℕ) (few : Bool)
    → all_plain (cond few (keep_register (parameter_register i) (local_at y i) ∷ [])
    (fetched Rax Rsp (stack_parameter y i) ∷ keep_register Rax (local_at y i) ∷ [])) ≡ true
frame_plain y i true = refl
frame_plain y i false = refl

placed_plain : (y : Layout) (i : ℕ) (q : Place) → all_plain (parameter_placed y i q) ≡ true
placed_plain y i (InRegister r) = register_plain y i r (ltb i 4)
placed_plain y i InFrame = frame_plain y i (ltb i 4)
placed_plain y i Arriving = refl

parameters_plain : (y : Layout) (i n : ℕ) → all_plain (parameters_code y i n) ≡ true
parameters_plain y i zero = refl
parameters_plain y i (suc n) =
    plain_both (parameter_code y i) (parameters_code y (i + 1) n)
    (placed_plain y i (place_of y i)) (parameters_plain y (i + 1) n)

base_plain : (parent : Option ℕ) (b : ℕ) → all_plain (keep_base parent b) ≡ true
base_plain None b = refl
base_plain (Some parent) b = refl

pub argument_plain : (y : Layout) (e : Entry) → all_plain (argument_code y e) ≡ true
argument_plain y (entries.Function count) = parameters_plain y 0 count
argument_plain y (entries.Filter parent) =
    plain_both (keep_base parent (base_of y y.base)) (keep_register Rcx y.pointers ∷ [])
    (base_plain parent (base_of y y.base)) refl
argument_plain y (entries.Finally parent flag) =
    plain_both (keep_base parent (base_of y y.base)) (move W32 Rax Rcx ∷ keep y (Local flag))
    (base_plain parent (base_of y y.base)) (keep_plain y (Local flag))

-- ---- leaf functions

pub test_plain : (y : Layout) (slot : Slot) (at to : ℕ)
    → all_plain (jump_if_zero_code y slot at to) ≡ true
test_plain y slot at to =
    plain_both (fetch y Rax slot)
    (compare_zero ∷ jump_equal (at + sizes (test_code y slot) + 6) to ∷ [])
    (fetch_plain y Rax slot) refl

spare_plain : (k : Links) (y : Layout) (at n : ℕ) (i : Instruction) → is_spare n i ≡ true
    → all_plain (template k y at i) ≡ true
spare_plain k y at n (instructions.Compute to o first second) e =
    compute_plain y to o first second
spare_plain k y at n (instructions.Jump label) e = refl
spare_plain k y at n (instructions.JumpIfZero slot label) e =
    test_plain y slot at (k.label label)
spare_plain k y at n instructions.Separator e = refl
spare_plain k y at n (instructions.Return from) e = return_plain y from
spare_plain k y at n i e = absurd (false≢true e)

pub spare_code_plain : (k : Links) (y : Layout) (at n : ℕ) (is : List Instruction)
    → AllByRecursion (λ i. is_spare n i ≡ true) is → all_plain (code_from k y at is) ≡ true
spare_code_plain k y at n [] all = refl
spare_code_plain k y at n (i ∷ is) all =
    plain_both (template k y at i) (code_from k y (at + template_size y i) is)
    (spare_plain k y at n i all.0) (spare_code_plain k y (at + template_size y i) n is all.1)

pub all_are_spare : (n : ℕ) (is : List Instruction) → all_spare n is ≡ true
    → AllByRecursion (λ i. is_spare n i ≡ true) is
all_are_spare n [] e = tt
all_are_spare n (i ∷ is) e =
    let p = and_parts (is_spare n i) (all_spare n is) e in (p.0, all_are_spare n is p.1)
