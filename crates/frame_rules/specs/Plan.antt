-- The prologue, the epilogue and the unwind info of a planned frame.
use Rattle.std.specs.Prelude.{◌≡◌, ℕ, ◌+◌, ◌-◌, ◌*◌, ◌%◌, ◌^◌, ◌<◌, Bool, true, false, not, ◌==◌, ◌&&◌, nat_le, List, [], ◌∷◌, ◌++◌, length, None}
use Rattle.seh_num.specs.declared.width.Width.TheVariants.{W32, W64}
use Rattle.host_layout.specs.declared.range.TheConstants.{PAGE}
use Rattle.x64_instr.specs.declared.register.Reg.TheVariants.{Rax, Rsp}
use Rattle.x64_instr.specs.declared.operand.MemRef.{MemRef}
use Rattle.x64_instr.specs.declared.operand.Base.TheVariants as bases
use Rattle.x64_instr.specs.declared.operand.RegisterOrMemory.TheVariants as places
use Rattle.x64_instr.specs.declared.operand.Operand.TheVariants as operands
use Rattle.x64_instr.specs.declared.instruction.Operation.TheVariants.{Add, Sub}
use Rattle.x64_instr.specs.declared.instruction.Target.TheVariants.{Relative}
use Rattle.x64_instr.specs.declared.instruction.Instr.{Instr}
use Rattle.x64_instr.specs.declared.instruction.Instr.TheVariants as instrs
use Rattle.x64_instr.specs.Registers.{register}
use Rattle.x64_encode.specs.Chosen.{is_encodable, is_signed}
use Rattle.eh_tables.specs.declared.code.UnwindOperation.{UnwindOperation}
use Rattle.eh_tables.specs.declared.code.UnwindOperation.TheVariants.{Push, Allocate, SetFrame, Save}
use Rattle.eh_tables.specs.Infos.{Info}
use Rattle.virtual_unwind.specs.Tail.{FetchedInstr, role_of}
use Rattle.frame_rules.specs.Codes.{pushed, are_allowed}
use Rattle.frame_rules.specs.Prologue.{bytes, PrologueStep, items, codes_onto}
use Rattle.frame_rules.specs.Body.{written, may_write_all}
use Rattle.frame_rules.specs.States.{is_other}
use Rattle.frame_rules.specs.Rules.{FramedFunction}

-- a register saved by a mov, so far above the base
pub record Saved : Type 0 where
  pub register : ℕ
  pub offset : ℕ

-- what a frame has; lists are from the last one that the prologue handles to the first
pub record FramePlan : Type 0 where
  pub pushes : List ℕ
  pub size : ℕ  -- of the allocation, 0 for none
  pub frame : ℕ  -- the frame register, 0 for none, and its distance from the base
  pub distance : ℕ
  pub saves : List Saved
  pub probe : ℕ  -- the displacement of the call of `__chkstk`

abbrev pub saves_then : List Saved → List UnwindOperation → List UnwindOperation
saves_then [] xs = xs
saves_then (s ∷ ss) xs = Save s.register s.offset ∷ saves_then ss xs

abbrev pub frame_then : Bool → List UnwindOperation → List UnwindOperation
frame_then true xs = SetFrame ∷ xs
frame_then false xs = xs

abbrev pub allocation_then : Bool → ℕ → List UnwindOperation → List UnwindOperation
allocation_then true n xs = Allocate n ∷ xs
allocation_then false n xs = xs

-- the operations of the codes
abbrev pub operations_of : FramePlan → List UnwindOperation
operations_of p =
    saves_then p.saves (frame_then (not (p.frame == 0)) (allocation_then (not (p.size == 0)) p.size
    (pushed p.pushes)))

-- a plan that fits
pub record IsPlan (p : FramePlan) : Type 0 where
  pub size : p.size < 2 ^ 31
  pub distance : p.distance < 2 ^ 16
  pub probe : is_signed W32 W64 p.probe ≡ true
  pub allowed : are_allowed p.frame (operations_of p) ≡ true

-- ---- the instructions, each as it is spelled

pub record IsSpelling (spell : Instr → FetchedInstr) : Type 0 where
  pub instr : (i : Instr) → (spell i).instr ≡ i
  pub sized : (i : Instr) → is_encodable i ≡ true → 0 < (spell i).size
  pub plain : (spell instrs.Return).plain ≡ true

abbrev pub stack_place : ℕ → MemRef
stack_place n = record { base = bases.Register Rsp; index = None; displacement = n }

-- a page more than is guarded has to be probed
abbrev pub allocating : ℕ → ℕ → Bool → List Instr
allocating probe n true =
    instrs.Arithmetic Sub W64 (places.Register Rsp) (operands.Immediate n) ∷ []
allocating probe n false =
    instrs.Move W32 (places.Register Rax) (operands.Immediate n) ∷ instrs.Call (Relative probe)
    ∷ instrs.Arithmetic Sub W64 (places.Register Rsp) (operands.Register Rax) ∷ []

abbrev pub instructions_of : FramePlan → UnwindOperation → List Instr
instructions_of p (Push r) = instrs.Push (register r) ∷ []
instructions_of p (Allocate n) = allocating p.probe n (nat_le n PAGE)
instructions_of p SetFrame = instrs.LoadAddress W64 (register p.frame) (stack_place p.distance) ∷ []
instructions_of p (Save r n) =
    instrs.Move W64 (places.Memory (stack_place n)) (operands.Register (register r)) ∷ []
instructions_of p x = []

abbrev pub spelled_by : (Instr → FetchedInstr) → List Instr → List FetchedInstr
spelled_by spell [] = []
spelled_by spell (i ∷ is) = spell i ∷ spelled_by spell is

abbrev pub all_encodable : List Instr → Bool
all_encodable [] = true
all_encodable (i ∷ is) = is_encodable i && all_encodable is

-- ---- the prologue

abbrev pub turned : List UnwindOperation → List UnwindOperation → List UnwindOperation
turned done [] = done
turned done (x ∷ xs) = turned (x ∷ done) xs

abbrev pub step_of : (Instr → FetchedInstr) → FramePlan → ℕ → UnwindOperation → PrologueStep
step_of spell p at x =
    let is = spelled_by spell (instructions_of p x) in record
    { code = record { offset = at + bytes is; operation = x }; items = is }

abbrev pub steps_of : (Instr → FetchedInstr) → FramePlan → ℕ → List UnwindOperation
    → List PrologueStep
steps_of spell p at [] = []
steps_of spell p at (x ∷ xs) =
    step_of spell p at x ∷ steps_of spell p (at + bytes (spelled_by spell (instructions_of p x))) xs

abbrev pub prologue : (Instr → FetchedInstr) → FramePlan → List PrologueStep
prologue spell p = steps_of spell p 0 (turned [] (operations_of p))

abbrev pub unwind_of : (Instr → FetchedInstr) → FramePlan → Info
unwind_of spell p =
    record {
      bytes = [];
      flags = 0;
      prologue_size = bytes (items (prologue spell p));
      frame_register = p.frame;
      frame_offset = p.distance;
      codes =
          codes_onto [] (prologue spell p);
      handler = None;
      parent = None;
      has_c_handler = false;
      scopes =
          [];
    }

-- ---- the epilogue, with the loads before it

abbrev pub load_of : Saved → Instr
load_of s =
    instrs.Move W64 (places.Register (register s.register)) (operands.Memory (stack_place s.offset))

abbrev pub loads_then : List Saved → List Instr → List Instr
loads_then [] is = is
loads_then (s ∷ ss) is = load_of s ∷ loads_then ss is

abbrev pub opening_by : FramePlan → Bool → Instr
opening_by p true = instrs.Arithmetic Add W64 (places.Register Rsp) (operands.Immediate p.size)
opening_by p false =
    instrs.LoadAddress W64 Rsp (record {
      base = bases.Register (register p.frame);
      index = None;
      displacement = (p.size + (2 ^ 64 - p.distance)) % 2 ^ 64;
    })

abbrev pub opening_then : FramePlan → Bool → List Instr → List Instr
opening_then p true is = is
opening_then p false is = opening_by p (p.frame == 0) ∷ is

abbrev pub pops_then : List ℕ → List Instr → List Instr
pops_then [] is = is
pops_then (r ∷ rs) is = instrs.Pop (register r) ∷ pops_then rs is

abbrev pub epilogue : FramePlan → List Instr
epilogue p =
    loads_then p.saves (opening_then p (p.size == 0) (pops_then p.pushes (instrs.Return ∷ [])))

-- ---- a function

-- an instruction that keeps RSP and the frame register, writes no nonvolatile register that isn't
-- saved, and begins no trailing part of an epilogue
abbrev pub is_inner : FramePlan → FetchedInstr → Bool
is_inner p x =
    is_other (role_of p.frame x.plain x.instr) && may_write_all p.frame (operations_of p)
    (written x.instr)

abbrev pub are_inner : FramePlan → List FetchedInstr → Bool
are_inner p [] = true
are_inner p (x ∷ xs) = is_inner p x && are_inner p xs

-- parts of a body, an epilogue after each; after the last there may be more of the body
abbrev pub with_epilogues : (Instr → FetchedInstr) → FramePlan → List (List FetchedInstr)
    → List FetchedInstr → List FetchedInstr
with_epilogues spell p [] last = last
with_epilogues spell p (xs ∷ xss) last =
    xs ++ (spelled_by spell (epilogue p) ++ with_epilogues spell p xss last)

abbrev pub all_inner : FramePlan → List (List FetchedInstr) → Bool
all_inner p [] = true
all_inner p (xs ∷ xss) = are_inner p xs && all_inner p xss

abbrev pub function_of : (Instr → FetchedInstr) → FramePlan → List (List FetchedInstr)
    → List FetchedInstr → FramedFunction
function_of spell p parts last =
    record {
      info = unwind_of spell p;
      steps = prologue spell p;
      rest = with_epilogues spell p parts last;
    }

-- ---- the size of a frame, its return address counted

abbrev pub frame_size : FramePlan → ℕ
frame_size p = 8 * length p.pushes + p.size + 8
