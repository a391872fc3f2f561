-- The frame of a routine saves the registers in which locals of its function stand.
use Rattle.std.proofs.Common.{◌≡◌, ℕ, zero, suc, ◌-◌, ◌≤◌, ◌==◌, Bool, true, false, not, cond, List, [], ◌∷◌, ◌++◌, length, map, take, Some, None, refl, sym, ap, ◌∙◌, subst, arith}
use Rattle.std.specs.Prelude.{◌&&◌, min, nat_lt, replicate}
use Rattle.std.specs.List.{AllByRecursion}
use Rattle.std.proofs.lemmas.Bool.{and_parts}
use Rattle.eh_tables.specs.declared.code.UnwindOperation.{UnwindOperation}
use Rattle.x64_instr.specs.declared.register.Reg.{Reg}
use Rattle.x64_instr.specs.Registers.{number}
use Rattle.template_code.specs.declared.layout.Place.{Place}
use Rattle.template_code.specs.declared.layout.Place.TheVariants.{InRegister, InFrame, Arriving}
use Rattle.template_code.specs.declared.layout.TheConstants.{MOST_REGISTERS, LOCAL_REGISTERS}
use Rattle.template_code.specs.Places.{place_among, place_of}
use Rattle.template_code.specs.Frames.{frame_register_if, pushes_of, saves_of, plan_of_layout}
use Rattle.frame_rules.specs.Codes.{is_saved, pushed}
use Rattle.frame_rules.specs.Plan.{operations_of, saves_then, frame_then, allocation_then}
use Rattle.image_link.specs.Words.{LinearFunction, LinearFunclet, LinearProgram, Layout, RoutineView, is_leaf, leaf_if, leaf_layout, function_layout, function_frame, functions_from, funclet, routines, FitsFunction, FitsProgram}
use Rattle.template_code.proofs.Places.{place_late}
use Rattle.image_link.proofs.Nearness.{both}

-- the register of each local of a layout is one that its frame saves
abbrev pub SavesLocals : Layout → Type 0
SavesLocals y = (x : ℕ) (r : Reg) → place_of y x ≡ InRegister r
    → is_saved (number r) (operations_of (plan_of_layout y 0)) ≡ true

abbrev pub RoutineSaves : RoutineView → Type 0
RoutineSaves r = SavesLocals r.layout

-- ---- so many of the registers of locals

abbrev all_saved : List UnwindOperation → List Reg → Bool
all_saved ops [] = true
all_saved ops (r ∷ rs) = is_saved (number r) ops && all_saved ops rs

abbrev register_in : Reg → Place → Reg
register_in q (InRegister r) = r
register_in q InFrame = q
register_in q Arriving = q

-- a local among so many stands in one of so many registers
first_saved : (ops : List UnwindOperation) (xs : List ℕ) (k : ℕ) (rs : List Reg) (x : ℕ) (r : Reg)
    → all_saved ops (take (length xs) rs) ≡ true
    → place_among (map Some xs ++ replicate k None) rs x ≡ InRegister r
    → is_saved (number r) ops ≡ true
first_saved ops [] zero rs x r all e = absurd cc
first_saved ops [] (suc k) rs x r all e = absurd cc
first_saved ops (n ∷ ns) k [] x r all e = absurd cc
first_saved ops (n ∷ ns) k (q ∷ rs) x r all e =
    let p = and_parts (is_saved (number q) ops) (all_saved ops (take (length ns) rs)) all in
    by (n == x) p.0 e (λ f. first_saved ops ns k rs x r p.1 f)
  where
    by : (t : Bool) → is_saved (number q) ops ≡ true
        → cond t (InRegister q) (place_among (map Some ns ++ replicate k None) rs x) ≡ InRegister r
        → (place_among (map Some ns ++ replicate k None) rs x ≡ InRegister r
        → is_saved (number r) ops ≡ true)
        → is_saved (number r) ops ≡ true
    by true own e more =
        subst (λ (s : Reg). is_saved (number s) ops ≡ true) (ap (register_in q) e) own
    by false own e more = more e

-- the operations of a frame that saves so many, with a frame register or without
abbrev saving : ℕ → Bool → Bool → ℕ → ℕ → List UnwindOperation
saving n framed some size slots =
    saves_then (saves_of slots (n - 3)) (frame_then (not (frame_register_if framed == 0))
    (allocation_then some size (pushed (pushes_of (min n 3) framed))))

by_count : (n : ℕ) (framed some : Bool) (size slots : ℕ) → n ≤ MOST_REGISTERS
    → all_saved (saving n framed some size slots) (take n LOCAL_REGISTERS) ≡ true
by_count zero framed some size slots le = refl
by_count (suc zero) true true size slots le = refl
by_count (suc zero) true false size slots le = refl
by_count (suc zero) false true size slots le = refl
by_count (suc zero) false false size slots le = refl
by_count (suc (suc zero)) true true size slots le = refl
by_count (suc (suc zero)) true false size slots le = refl
by_count (suc (suc zero)) false true size slots le = refl
by_count (suc (suc zero)) false false size slots le = refl
by_count (suc (suc (suc zero))) true true size slots le = refl
by_count (suc (suc (suc zero))) true false size slots le = refl
by_count (suc (suc (suc zero))) false true size slots le = refl
by_count (suc (suc (suc zero))) false false size slots le = refl
by_count (suc (suc (suc (suc zero)))) true true size slots le = refl
by_count (suc (suc (suc (suc zero)))) true false size slots le = refl
by_count (suc (suc (suc (suc zero)))) false true size slots le = refl
by_count (suc (suc (suc (suc zero)))) false false size slots le = refl
by_count (suc (suc (suc (suc (suc zero))))) true true size slots le = refl
by_count (suc (suc (suc (suc (suc zero))))) true false size slots le = refl
by_count (suc (suc (suc (suc (suc zero))))) false true size slots le = refl
by_count (suc (suc (suc (suc (suc zero))))) false false size slots le = refl
by_count (suc (suc (suc (suc (suc (suc zero)))))) true true size slots le = refl
by_count (suc (suc (suc (suc (suc (suc zero)))))) true false size slots le = refl
by_count (suc (suc (suc (suc (suc (suc zero)))))) false true size slots le = refl
by_count (suc (suc (suc (suc (suc (suc zero)))))) false false size slots le = refl
by_count (suc (suc (suc (suc (suc (suc (suc zero))))))) true true size slots le = refl
by_count (suc (suc (suc (suc (suc (suc (suc zero))))))) true false size slots le = refl
by_count (suc (suc (suc (suc (suc (suc (suc zero))))))) false true size slots le = refl
by_count (suc (suc (suc (suc (suc (suc (suc zero))))))) false false size slots le = refl
by_count n framed some size slots le = absurd (omega arith)

-- ---- routines

-- that of a function does
pub function_saves : (b : Bool) (f : LinearFunction) → FitsFunction f → RoutineSaves (leaf_if b f)
function_saves true f fits x r e = by (nat_lt x f.parameters) e
  where
    by : (t : Bool) → cond t Arriving InFrame ≡ InRegister r
        → is_saved (number r) (operations_of (plan_of_layout (leaf_layout f) 0)) ≡ true
    by true e = absurd cc
    by false e = absurd cc
function_saves false f fits x r e =
    let y = function_layout (function_frame f) f.registers in
    let late : y.arrivals ≤ x = omega arith in
    let frame = function_frame f in
    let n = length f.registers in
    first_saved (saving n frame.framed (not (frame.size == 0)) frame.size frame.slots) f.registers
    (MOST_REGISTERS - n) LOCAL_REGISTERS x r
    (by_count n frame.framed (not (frame.size == 0)) frame.size frame.slots fits.registers)
    (sym (place_late y x late) ∙ e)

functions_save : (main index : ℕ) (fs : List LinearFunction) → AllByRecursion FitsFunction fs
    → AllByRecursion RoutineSaves (functions_from main index fs)
functions_save main index [] all = tt
functions_save main index (f ∷ fs) all = (
  function_saves (not (index == main) && is_leaf f) f all.0,
  functions_save main (suc index) fs all.1,
)

funclets_save : (p : LinearProgram) (fs : List LinearFunclet)
    → AllByRecursion RoutineSaves (map (funclet p) fs)
funclets_save p [] = tt
funclets_save p (f ∷ fs) = (
  λ x r e.
      let y = (funclet p f).layout in
      let late : y.arrivals ≤ x = omega arith in
      let never : InFrame ≡ InRegister r = sym (place_late y x late) ∙ e in
      absurd cc,
  funclets_save p fs,
)

-- each routine of a program that fits saves the registers of its locals
pub routines_save : (p : LinearProgram) → FitsProgram p → AllByRecursion RoutineSaves (routines p)
routines_save p fits = both RoutineSaves (functions_from p.main 0 p.functions)
    (map (funclet p) p.funclets) (functions_save p.main 0 p.functions fits.functions)
    (funclets_save p p.funclets)
