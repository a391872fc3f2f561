-- How many bytes come before a body, and where its instructions are.
use Rattle.std.proofs.Common.{◌≡◌, ℕ, zero, suc, ◌+◌, ◌*◌, ◌<◌, ◌≤◌, Bool, true, false, cond, ltb, List, [], ◌∷◌, ◌++◌, length, get_or, map, take, drop, drop-cons, Option, Some, None, refl, sym, ap, ◌∙◌, arith, append_assoc, length-append}
use Rattle.std.specs.List.{AllByRecursion}
use Rattle.std.specs.Prelude.{if◌then◌else◌}
use Rattle.linear_code.specs.declared.program.LabelRange.{LabelRange}
use Rattle.template_code.specs.ColdParts.{is_cold}
use Rattle.template_code.proofs.ColdParts.{sides_sum}
use Rattle.image_link.specs.Words.{W32, Local, Instruction, FrameLayout, plan_of, Layout, spelled, size, sizes, template_size, AreNear, IsInstructionNear, IsNear, keep_base, code_room, LinearFunction, prologue_bytes, FitsFrame, RoutineView, function_facts, function_frame, framed, IsFrameNear, IsEntryNear, IsRoutineNear, SiteView, routine_bytes, routines_bytes, apart_bytes, all_apart_bytes, room, routine_room, routine_size, cold_size, total, cold_total, bounds, frame_code, base_of, argument_code, entry_code, entry_size}
use Rattle.x64_instr.specs.declared.instruction.Instr.{Instr}
use Rattle.seh_num.specs.declared.width.Width.TheVariants.{W64}
use Rattle.x64_instr.specs.declared.register.Reg.{Reg}
use Rattle.x64_instr.specs.declared.register.Reg.TheVariants.{Rax, Rcx, Rsp}
use Rattle.frame_rules.specs.Bytes.{prologue_code}
use Rattle.frame_layout.proofs.Frames.{registers_few}
use Rattle.frame_layout.proofs.Steps.{frame_registers}
use Rattle.frame_layout.proofs.Sizes.{run, prologue_taken, prologue_few}
use Rattle.template_code.specs.Operations.{move}
use Rattle.template_code.specs.Slots.{fetched, keep, local_at}
use Rattle.template_code.specs.Frames.{probing}
use Rattle.template_code.specs.declared.layout.Place.{Place}
use Rattle.template_code.specs.declared.layout.Place.TheVariants.{InRegister, InFrame, Arriving}
use Rattle.template_code.specs.Places.{place_of}
use Rattle.template_code.specs.Calls.{parameter_placed, keep_register, parameter_register, stack_parameter, parameter_code, parameters_code}
use Rattle.image_link.proofs.Lemmas.{sizes_append, sizes_spelled, instruction_in_room, code_in_room}
use Rattle.template_code.proofs.Lengths.{sizes_small, keep_length}
use Rattle.x64_emit.specs.Bodies.{label_list}
use Rattle.image_link.specs.declared.routine.Entry.{Entry}
use Rattle.image_link.specs.declared.routine.Entry.TheVariants as entries

-- ---- frames

-- the sizes of instructions as they are fetched
pub run_sizes : (is : List Instr) → run is ≡ sizes is
unfolding size
run_sizes [] = refl
run_sizes (i ∷ is) = let e = run_sizes is in omega arith

-- a prologue takes as many bytes as its info says
pub prologue_sizes : (f : FrameLayout) (probe : ℕ)
    → sizes (prologue_code (plan_of f probe)) ≡ prologue_bytes f
prologue_sizes f probe = sym (run_sizes (prologue_code (plan_of f probe)))
    ∙ prologue_taken f probe

frame_sizes : (at check : ℕ) (o : Option FrameLayout)
    → sizes (frame_code at check o) ≡ sizes (frame_code 0 0 o)
frame_sizes at check None = refl
frame_sizes at check (Some f) = prologue_sizes f (probing (plan_of f) at check).probe
    ∙ sym (prologue_sizes f (probing (plan_of f) 0 0).probe)

frame_small : (at check : ℕ) (o : Option FrameLayout) → IsFrameNear o
    → sizes (frame_code at check o) ≤ 57
frame_small at check None near = omega arith
frame_small at check (Some f) near =
    let p = prologue_sizes f (probing (plan_of f) at check).probe in
    let few = (prologue_few f (frame_registers f near.0)).1 in
    omega arith

-- ---- what it is called with

parameter_by : (y : Layout) (i : ℕ) (few : Bool)
    → length (cond few (keep_register (parameter_register i) (local_at y i) ∷ [])
    (fetched Rax Rsp (stack_parameter y i) ∷ keep_register Rax (local_at y i) ∷ [])) ≤ 2
parameter_by y i true = omega arith
parameter_by y i false = omega arith

register_by : (y : Layout) (i : ℕ) (r : Reg) (few : Bool)
    → length (cond few (move W64 r (parameter_register i) ∷ [])
    (fetched r Rsp (stack_parameter y i) ∷ [])) ≤ 2
register_by y i r true = omega arith
register_by y i r false = omega arith

parameter_few : (y : Layout) (i : ℕ) (p : Place) → length (parameter_placed y i p) ≤ 2
parameter_few y i (InRegister r) = register_by y i r (ltb i 4)
parameter_few y i InFrame = parameter_by y i (ltb i 4)
parameter_few y i Arriving = omega arith

parameters_small : (y : Layout) (i n : ℕ) → sizes (parameters_code y i n) ≤ 30 * n
parameters_small y i zero = omega arith
parameters_small y i (suc n) =
    let r = parameters_small y (i + 1) n in
    let l : length (parameter_code y i) ≤ 2 = parameter_few y i (place_of y i) in
    omega (
      arith,
      sizes_append (parameter_code y i) (parameters_code y (i + 1) n),
      sizes_small (parameter_code y i),
    )

base_small : (parent : Option ℕ) (b : ℕ) → length (keep_base parent b) ≤ 2
base_small None b = omega arith
base_small (Some parent) b = omega arith

argument_small : (y : Layout) (e : Entry) → IsEntryNear y e → sizes (argument_code y e) ≤ 240
argument_small y (entries.Function count) near = let few = near.0 in
    let p = parameters_small y 0 count in omega arith
argument_small y (entries.Filter parent) near =
    let b = base_small parent (base_of y y.base) in
    let kept = keep_base parent (base_of y y.base) in
    let last = keep_register Rcx y.pointers ∷ [] in
    omega (arith, sizes_append kept last, sizes_small kept, sizes_small last)
argument_small y (entries.Finally parent flag) near =
    let b = base_small parent (base_of y y.base) in
    let k = keep_length y (Local flag) in
    let kept = keep_base parent (base_of y y.base) in
    let last = move W32 Rax Rcx ∷ keep y (Local flag) in
    omega (arith, sizes_append kept last, sizes_small kept, sizes_small last)

-- ---- both

pub entry_sizes : (at check : ℕ) (r : RoutineView) → IsRoutineNear r
    → sizes (entry_code at check r) ≡ entry_size r
unfolding entry_size
entry_sizes at check r near =
    let f = frame_sizes at check r.frame in
    omega (
      arith,
      sizes_append (frame_code at check r.frame) (argument_code r.layout r.entry),
      sizes_append (frame_code 0 0 r.frame) (argument_code r.layout r.entry),
    )

pub entry_small : (r : RoutineView) → IsRoutineNear r → entry_size r ≤ 297
unfolding entry_size
entry_small r near =
    let f = frame_small 0 0 r.frame near.frame in
    let a = argument_small r.layout r.entry near.entry in
    omega (arith, sizes_append (frame_code 0 0 r.frame) (argument_code r.layout r.entry))

-- ---- bodies

pub labels_near : (y : Layout) (rs : List LabelRange) (at hot cold : ℕ) (body : List Instruction)
    → AllByRecursion (IsInstructionNear y) body → IsNear (hot + code_room body)
    → IsNear (cold + code_room body) → AreNear (label_list y rs at hot cold body)
labels_near y rs at hot cold [] near lt lt' = tt
labels_near y rs at hot cold (i ∷ is) near lt lt' =
    let s = instruction_in_room y i near.0 in
    by (is_cold rs at) (labels_near y rs (suc at) hot (cold + template_size y i) is near.1
    (omega arith) (omega arith))
    (labels_near y rs (suc at) (hot + template_size y i) cold is near.1 (omega arith) (omega arith))
  where
    by : (b : Bool)
        → AreNear (label_list y rs (suc at) hot (cold + template_size y i) is)
        → AreNear (label_list y rs (suc at) (hot + template_size y i) cold is)
        → AreNear (if b then cold ∷ label_list y rs (suc at) hot (cold + template_size y i) is
        else hot ∷ label_list y rs (suc at) (hot + template_size y i) cold is)
    by true a b = (omega arith, a)
    by false a b = (omega arith, b)

-- ---- routines

pub routine_small : (r : RoutineView) → IsRoutineNear r
    → routine_size r + cold_size r + 215 ≤ routine_room r
routine_small r near =
    let e = entry_small r near in
    let b = code_in_room r.layout r.body.code near.code in
    let s = sides_sum r.layout r.body.cold 0 r.body.code in
    omega arith

after : (i : ℕ) → suc i ≡ i + 1
after i = omega arith

pub room_next : (rs : List RoutineView) (i : ℕ) (d : RoutineView) → i < length rs
    → room (drop i rs) ≡ routine_room (get_or rs i d) + room (drop (i + 1) rs)
room_next rs i d lt = ap room (drop-cons rs i d lt)
    ∙ ap (λ (n : ℕ). routine_room (get_or rs i d) + room (drop n rs)) (after i)

pub entries_next : (rs : List RoutineView) (i : ℕ) (d : RoutineView) → i < length rs
    → map entry_size (drop i rs) ≡ entry_size (get_or rs i d) ∷ map entry_size (drop (i + 1) rs)
entries_next rs i d lt = ap (map entry_size) (drop-cons rs i d lt)
    ∙ ap (λ (n : ℕ). entry_size (get_or rs i d) ∷ map entry_size (drop n rs)) (after i)

pub total_next : (rs : List RoutineView) (i : ℕ) (d : RoutineView) → i < length rs
    → total (drop i rs) ≡ routine_size (get_or rs i d) + total (drop (i + 1) rs)
total_next rs i d lt = ap total (drop-cons rs i d lt)
    ∙ ap (λ (n : ℕ). routine_size (get_or rs i d) + total (drop n rs)) (after i)

pub cold_total_next : (rs : List RoutineView) (i : ℕ) (d : RoutineView) → i < length rs
    → cold_total (drop i rs) ≡ cold_size (get_or rs i d) + cold_total (drop (i + 1) rs)
cold_total_next rs i d lt = ap cold_total (drop-cons rs i d lt)
    ∙ ap (λ (n : ℕ). cold_size (get_or rs i d) + cold_total (drop n rs)) (after i)

pub bounds_next : (at : ℕ) (rs : List RoutineView) (i : ℕ) (d : RoutineView) → i < length rs
    → bounds at (drop i rs) ≡ at ∷ bounds (at + routine_size (get_or rs i d)) (drop (i + 1) rs)
bounds_next at rs i d lt = ap (bounds at) (drop-cons rs i d lt)
    ∙ ap (λ (n : ℕ). at ∷ bounds (at + routine_size (get_or rs i d)) (drop n rs)) (after i)

-- the code of an entry alone
pub entry_alone : (at check : ℕ) (r : RoutineView) (old new : List ℕ) → IsRoutineNear r → old ≡ []
    → new ≡ old ++ spelled (entry_code at check r) → length new ≡ entry_size r
entry_alone at check r old new near none e =
    let l = ap length e in
    let z = ap length none in
    let s = entry_sizes at check r near in
    omega (
      arith,
      length-append old (spelled (entry_code at check r)),
      sizes_spelled (entry_code at check r),
    )

pub text_next : (s : SiteView) (at cold : ℕ) (rs : List RoutineView) (i : ℕ) (d : RoutineView)
    → i < length rs → routines_bytes s at cold (drop i rs)
    ≡ routine_bytes s at cold (get_or rs i d)
    ++ routines_bytes s (at + routine_size (get_or rs i d)) (cold + cold_size (get_or rs i d))
    (drop (i + 1) rs)
text_next s at cold rs i d lt = ap (routines_bytes s at cold) (drop-cons rs i d lt)
    ∙ ap (λ (n : ℕ). routine_bytes s at cold (get_or rs i d)
    ++ routines_bytes s (at + routine_size (get_or rs i d)) (cold + cold_size (get_or rs i d))
    (drop n rs)) (after i)

pub apart_next : (s : SiteView) (at cold : ℕ) (rs : List RoutineView) (i : ℕ) (d : RoutineView)
    → i < length rs → all_apart_bytes s at cold (drop i rs)
    ≡ apart_bytes s at cold (get_or rs i d)
    ++ all_apart_bytes s (at + routine_size (get_or rs i d)) (cold + cold_size (get_or rs i d))
    (drop (i + 1) rs)
apart_next s at cold rs i d lt = ap (all_apart_bytes s at cold) (drop-cons rs i d lt)
    ∙ ap (λ (n : ℕ). apart_bytes s at cold (get_or rs i d)
    ++ all_apart_bytes s (at + routine_size (get_or rs i d)) (cold + cold_size (get_or rs i d))
    (drop n rs)) (after i)

-- where the cold parts of a routine begin among those of all
abbrev pub cold_after : ℕ → List RoutineView → ℕ → ℕ
cold_after cold rs i = cold + cold_total (take i rs)

pub cold_after_next : (cold : ℕ) (rs : List RoutineView) (i : ℕ) (d : RoutineView) → i < length rs
    → cold_after cold rs (i + 1) ≡ cold_after cold rs i + cold_size (get_or rs i d)
cold_after_next cold rs i d lt = let s = sum rs i lt in
    ap (λ (n : ℕ). cold + cold_total (take n rs)) (sym (after i))
    ∙ (let e : cold + cold_total (take (suc i) rs)
    ≡ cold + cold_total (take i rs) + cold_size (get_or rs i d) = omega arith in e)
  where
    sum : (rs : List RoutineView) (i : ℕ) → i < length rs
        → cold_total (take (suc i) rs) ≡ cold_total (take i rs) + cold_size (get_or rs i d)
    sum [] i lt = absurd (omega arith)
    sum (r ∷ rs) zero lt = omega arith
    sum (r ∷ rs) (suc i) lt = let s = sum rs i (omega arith) in omega arith

pub cold_after_first : (cold : ℕ) (rs : List RoutineView) → cold_after cold rs 0 ≡ cold
cold_after_first cold rs = omega arith

-- what is whole grows by the first part of what is to come
pub appended : {A : Type 0} (old new whole a more all : List A) → new ≡ old ++ a → all ≡ a ++ more
    → old ++ all ≡ whole → new ++ more ≡ whole
appended old new whole a more all e f g = ap (λ t. t ++ more) e ∙ append_assoc old a more
    ∙ ap (λ t. old ++ t) (sym f) ∙ g

-- ---- a frame takes an instruction

pub framed_some : (f : LinearFunction) → FitsFrame (function_facts f)
    → 0 < routine_size (framed f)
unfolding entry_size
framed_some f fits =
    let frame = function_frame f in
    let p = prologue_sizes frame (probing (plan_of frame) 0 0).probe in
    let some = (prologue_few frame (registers_few (function_facts f) fits.registers)).0 in
    omega (
      arith,
      sizes_append (frame_code 0 0 (Some frame))
          (argument_code (framed f).layout (framed f).entry),
    )
