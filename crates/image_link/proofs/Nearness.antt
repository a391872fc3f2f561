-- Each routine of a program that fits is near, and all of them have room.
use Rattle.std.proofs.Common.{◌≡◌, ℕ, suc, ◌+◌, ◌^◌, ◌<◌, ◌≤◌, ◌==◌, Bool, true, false, not, List, [], ◌∷◌, ◌++◌, length, map, Option, Some, None, refl, sym, ap, subst, arith}
use Rattle.std.specs.Prelude.{◌&&◌}
use Rattle.std.specs.List.{AllByRecursion}
use Rattle.linear_code.specs.declared.slot.Slot.{Slot}
use Rattle.image_link.specs.Words.{Local, Temporary, Instruction, LinearBody, LinearFunction, LinearFunclet, LinearProgram, Layout, IsBaseNear, IsSlotNear, IsInstructionNear, IsParentNear, code_room, FitsFrame, RoutineView, is_leaf, function_facts, function_frame, leaf_layout, function_layout, leaf, framed, leaf_if, functions_from, funclet_facts, funclet_frame, nothing, no_function, function_of_index, body_of_funclet, kept_by, HasParent, entry_of, funclet_layout, funclet, routines, IsEntryNear, IsRoutineNear, FitsSlot, FitsInstruction, FitsBody, FitsFunction, FitsKind, FitsFunclet, function_bodies, funclet_bodies, text_room, FitsProgram}
use Rattle.linear_code.specs.declared.instruction.Instruction.TheVariants as instructions
use Rattle.linear_code.specs.declared.program.FuncletKind.{FuncletKind}
use Rattle.linear_code.specs.declared.program.FuncletKind.TheVariants.{Filter, Finally}
use Rattle.frame_layout.specs.declared.frame.FrameLayout.{FrameLayout}
use Rattle.frame_layout.specs.Layout.{IsFrame}
use Rattle.x64_emit.specs.Near.{IsFrameIf, IsFrameNear, frame_of_layout}
use Rattle.std.proofs.lemmas.Bool.{ne_eqb}
use Rattle.frame_layout.proofs.Frames.{parts, small}
use Rattle.image_link.proofs.Lemmas.{all_at}
use Rattle.image_link.specs.Text as texts
use Rattle.image_link.specs.Fits.{room}

-- the parts of a frame end below so many bytes
abbrev low_end : ℕ
low_end = 2 ^ 20

-- a layout all of whose parts are below that
record IsLow (y : Layout) : Type 0 where
  base : IsBaseNear y.base
  pointers : y.pointers ≤ low_end
  locals : y.locals ≤ low_end
  temporaries : y.temporaries ≤ low_end
  ending : IsFrameNear y

-- ---- frames

pub function_facts_fit : (f : LinearFunction) → FitsFunction f → FitsFrame (function_facts f)
function_facts_fit f fits =
    let r = fits.registers in
    let w = fits.words in
    record { registers = omega arith; weight = fits.weight; words = omega arith }

pub funclet_facts_fit : (b : LinearBody) → FitsBody b → FitsFrame (funclet_facts b)
funclet_facts_fit b fits =
    let w = fits.words in
    record { registers = omega arith; weight = omega arith; words = omega arith }

-- the epilogue of a frame is in its layout
ending_near : (y : Layout) (h : IsFrame (frame_of_layout y)) → IsFrameNear y
ending_near y h = subst (IsFrameIf y) (sym (ne_eqb y.size 0
    (λ z. (let e : y.size ≡ 0 = z in let some = h.some in absurd (omega arith))))) h

function_ending : (f : FrameLayout) (registers : List ℕ) → IsFrame f
    → IsFrameNear (function_layout f registers)
function_ending f registers h = ending_near (function_layout f registers) (record {
  pushes = h.pushes;
  saves = h.saves;
  some = h.some;
  saved = h.saved;
  depth = h.depth;
  small = h.small;
})

funclet_ending : (function f : FrameLayout) → IsFrame f → IsFrameNear (funclet_layout function f)
funclet_ending function f h = ending_near (funclet_layout function f) (record {
  pushes = h.pushes;
  saves = h.saves;
  some = h.some;
  saved = h.saved;
  depth = h.depth;
  small = h.small;
})

-- ---- instructions

slot_near : (y : Layout) (b : LinearBody) (x : Slot) → IsLow y → FitsBody b → FitsSlot b x
    → IsSlotNear y x
slot_near y b (Temporary i) low fits lt = let t = low.temporaries in let w = fits.words in
    omega arith
slot_near y b (Local i) low fits lt = (
  let l = low.locals in let w = fits.locals in
      omega arith,
  low.base,
)

instruction_near : (y : Layout) (b : LinearBody) (i : Instruction) → IsLow y → FitsBody b
    → FitsInstruction b i → IsInstructionNear y i
instruction_near y b (instructions.Compute to o first second) low fits h = (
  slot_near y b to low fits h.0,
  slot_near y b first low fits h.1,
  slot_near y b second low fits h.2,
)
instruction_near y b (instructions.Information to field) low fits h =
    (slot_near y b to low fits h.0, (let p = low.pointers in omega arith), h.1)
instruction_near y b (instructions.Landing to) low fits h = slot_near y b to low fits h
instruction_near y b (instructions.Jump label) low fits h = tt
instruction_near y b (instructions.JumpIfZero slot label) low fits h = slot_near y b slot low fits h
instruction_near y b (instructions.Call function first count) low fits h =
    let t = low.temporaries in let w = fits.words in let a = h.0 in
    record { few = h.1; temporaries = omega arith }
instruction_near y b (instructions.CallBuiltIn function first) low fits h =
    let t = low.temporaries in let w = fits.words in
    record { few = omega arith; temporaries = omega arith }
instruction_near y b (instructions.CallFinally f) low fits h = tt
instruction_near y b (instructions.LocalUnwind label) low fits h = tt
instruction_near y b instructions.Separator low fits h = tt
instruction_near y b (instructions.Return from) low fits
    h = (slot_near y b from low fits h, low.ending)

code_near : (y : Layout) (b : LinearBody) (is : List Instruction) → IsLow y → FitsBody b
    → AllByRecursion (FitsInstruction b) is → AllByRecursion (IsInstructionNear y) is
code_near y b [] low fits all = tt
code_near y b (i ∷ is) low fits all = (
  instruction_near y b i low fits all.0,
  code_near y b is low fits all.1,
)

-- ---- functions

leaf_near : (f : LinearFunction) → FitsFunction f → IsRoutineNear (leaf f)
leaf_near f fits =
    let w = fits.words in
    let light = fits.weight in
    let few = fits.parameters in
    let low : IsLow (leaf_layout f) = record {
      base = tt;
      pointers = omega arith;
      locals = omega arith;
      temporaries = omega arith;
      ending = (refl, refl, refl);
    } in
    record {
      frame = tt;
      entry = (few, record { locals = omega arith; stack = omega arith });
      code = code_near (leaf_layout f) f.body f.body.code low fits.body fits.body.code;
      regions = fits.body.regions;
      cold = fits.body.cold;
    }

framed_near : (f : LinearFunction) → FitsFunction f → IsRoutineNear (framed f)
framed_near f fits =
    let w = fits.words in
    let light = fits.weight in
    let few = fits.parameters in
    let r = fits.registers in
    let facts = function_facts_fit f fits in
    let all = small (function_facts f) facts in
    let y = function_layout (function_frame f) f.registers in
    let low : IsLow y = record {
      base = tt;
      pointers = omega arith;
      locals = omega arith;
      temporaries = omega arith;
      ending = function_ending (function_frame f) f.registers (parts (function_facts f) facts);
    } in
    record {
      frame = (parts (function_facts f) facts, omega arith);
      entry = (few, record { locals = omega arith; stack = omega arith });
      code = code_near y f.body f.body.code low fits.body fits.body.code;
      regions = fits.body.regions;
      cold = fits.body.cold;
    }

function_near : (b : Bool) (f : LinearFunction) → FitsFunction f → IsRoutineNear (leaf_if b f)
function_near true f fits = leaf_near f fits
function_near false f fits = framed_near f fits

functions_near : (main index : ℕ) (fs : List LinearFunction) → AllByRecursion FitsFunction fs
    → AllByRecursion IsRoutineNear (functions_from main index fs)
functions_near main index [] all = tt
functions_near main index (f ∷ fs) all = (
  function_near (not (index == main) && is_leaf f) f
      all.0,
  functions_near main (suc index) fs all.1,
)

-- ---- funclets

funclet_at : (p : LinearProgram) (index : ℕ) → FitsProgram p → index < length p.funclets
    → FitsBody (body_of_funclet p index)
funclet_at p index fits lt = (all_at (FitsFunclet p) p.funclets index
    (record { kind = Filter; function = 0; parent = None; body = nothing }) fits.funclets lt).body

pub function_at : (p : LinearProgram) (index : ℕ) → FitsProgram p → index < length p.functions
    → FitsFunction (function_of_index p index)
function_at p index fits lt =
    all_at FitsFunction p.functions index no_function fits.functions lt

parent_near : (p : LinearProgram) (o : Option ℕ) → FitsProgram p → HasParent p o
    → IsParentNear (kept_by p o)
parent_near p None fits h = tt
parent_near p (Some index) fits h = let b = funclet_at p index fits h in let w = b.words in
    omega arith

funclet_low : (p : LinearProgram) (f : LinearFunclet) → FitsProgram p → FitsFunclet p f
    → IsLow (funclet_layout (function_frame (function_of_index p f.function))
    (funclet_frame f.body))
funclet_low p f fits h =
    let b = function_at p f.function fits h.function in
    let v = b.words in
    let light = b.weight in
    let w = h.body.words in
    let all = small (funclet_facts f.body) (funclet_facts_fit f.body h.body) in
    record {
      base = omega arith;
      pointers = omega arith;
      locals = omega arith;
      temporaries = omega arith;
      ending = funclet_ending (function_frame (function_of_index p f.function))
          (funclet_frame f.body) (parts (funclet_facts f.body) (funclet_facts_fit f.body h.body));
    }

entry_near : (p : LinearProgram) (f : LinearFunclet) (k : FuncletKind) → FitsProgram p
    → FitsFunclet p f → FitsKind f.body k → IsEntryNear
    (funclet_layout (function_frame (function_of_index p f.function)) (funclet_frame f.body))
    (entry_of k (kept_by p f.parent))
entry_near p f Filter fits h kind =
    let w = h.body.words in (
      record { parent_near = parent_near p f.parent fits h.parent; base_near = omega arith },
      omega arith,
    )
entry_near p f (Finally flag) fits h kind =
    let w = h.body.words in
    let y = funclet_layout (function_frame (function_of_index p f.function))
    (funclet_frame f.body) in (
      record { parent_near = parent_near p f.parent fits h.parent; base_near = omega arith },
      slot_near y f.body (Local flag) (funclet_low p f fits h) h.body kind,
    )

funclet_near : (p : LinearProgram) (f : LinearFunclet) → FitsProgram p → FitsFunclet p f
    → IsRoutineNear (funclet p f)
funclet_near p f fits h =
    let facts = funclet_facts_fit f.body h.body in
    let all = small (funclet_facts f.body) facts in
    let y = funclet_layout (function_frame (function_of_index p f.function))
    (funclet_frame f.body) in
    record {
      frame = (parts (funclet_facts f.body) facts, omega arith);
      entry = entry_near p f f.kind fits h h.kind;
      code = code_near y f.body f.body.code (funclet_low p f fits h) h.body h.body.code;
      regions = h.body.regions;
      cold = h.body.cold;
    }

funclets_near : (p : LinearProgram) (fs : List LinearFunclet) → FitsProgram p
    → AllByRecursion (FitsFunclet p) fs → AllByRecursion IsRoutineNear (map (funclet p) fs)
funclets_near p [] fits all = tt
funclets_near p (f ∷ fs) fits all = (funclet_near p f fits all.0, funclets_near p fs fits all.1)

-- ---- programs

-- what holds of the routines of two lists holds of those of both
pub both : (P : RoutineView → Type 0) (a b : List RoutineView) → AllByRecursion P a
    → AllByRecursion P b → AllByRecursion P (a ++ b)
both P [] b p q = q
both P (r ∷ a) b p q = (p.0, both P a b p.1 q)

pub routines_near : (p : LinearProgram) → FitsProgram p → AllByRecursion IsRoutineNear (routines p)
routines_near p fits = both IsRoutineNear (functions_from p.main 0 p.functions) (map (funclet p)
    p.funclets)
    (functions_near p.main 0 p.functions fits.functions)
    (funclets_near p p.funclets fits fits.funclets)

-- ---- room

same_body : (b : Bool) (f : LinearFunction) → (leaf_if b f).body ≡ f.body
same_body true f = refl
same_body false f = refl

functions_room : (main index : ℕ) (fs : List LinearFunction)
    → texts.room (functions_from main index fs) ≡ room (function_bodies fs)
functions_room main index [] = refl
functions_room main index (f ∷ fs) =
    let r = functions_room main (suc index) fs in
    let s = ap (λ (b : LinearBody). code_room b.code)
    (same_body (not (index == main) && is_leaf f) f) in
    omega arith

funclets_room : (p : LinearProgram) (fs : List LinearFunclet)
    → texts.room (map (funclet p) fs) ≡ room (funclet_bodies fs)
funclets_room p [] = refl
funclets_room p (f ∷ fs) = let r = funclets_room p fs in omega arith

both_room : (a b : List RoutineView) → texts.room (a ++ b) ≡ texts.room a + texts.room b
both_room [] b = omega arith
both_room (r ∷ a) b = let s = both_room a b in omega arith

-- all its routines have the room of its bodies
pub routines_room : (p : LinearProgram) → texts.room (routines p) ≡ text_room p
routines_room p =
    let a = functions_room p.main 0 p.functions in
    let b = funclets_room p p.funclets in
    omega (arith, both_room (functions_from p.main 0 p.functions) (map (funclet p) p.funclets))
