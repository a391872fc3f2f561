-- What is in memory at an operation of a body, and that no funclet begins within it.
use Rattle.std.proofs.Common.{◌≡◌, ◌≢◌, ℕ, ◌+◌, ◌*◌, ◌^◌, ◌<◌, ◌≤◌, Bool, true, false, List, [], ◌∷◌, length, Option, Some, None, refl, sym, ap, subst, ◌∙◌, arith, inl, inr}
use Rattle.std.specs.Prelude.{◌⊎◌, slice_get}
use Rattle.std.proofs.lemmas.Option.{slice_get_cases}
use Rattle.match_turns.specs.Words.{weight_of, Memory, executable, Instr, leading, chosen, Cpu, State, Functions, distance, Funclet, arrivals, no_flags, Operation, Slot, Instruction, HasSlots, LinearProgram, LinearBody, BodyName, FunctionBody, FuncletBody, body_of, Layout, spelled, sizes, keep, operands_code, finish_code, template, template_size, HasBase, SlotsHaveRoom, HasCode, HaveRoom, ImagePlan, Sites, links_of, IsFunctionLayout, IsLeafLayout, IsLayoutIf, IsLaidOut, IsFuncletLayout, IsProgramImage, counts_of, setting_of, Counts, work}
use Rattle.match_turns.proofs.Lemmas.{longest, sizes_append, bytes_split, spells, reads, code_split, Fine, none_taking, finish_fine, funclet_makes, template_there, template_some, each}
use Rattle.linear_code.specs.declared.instruction.Instruction.TheVariants as instructions
use Rattle.match_bodies.specs.ProgramImages.{HasProgram}

-- ---- sizes

-- the code that makes an operation and keeps its result has an instruction
pub some_finish : (y : Layout) (o : Operation) (to : Slot) → 1 ≤ sizes (finish_code y o to)
unfolding template_size
some_finish y o to = let k = template_some y (instructions.Landing to) in
    omega (arith, sizes_append (work o) (keep y to))

pub record IsSome (code : List Instr) : Type 0 where
  pub item : Instr
  pub left : List Instr
  pub parts : code ≡ item ∷ left

pub is_some : (code : List Instr) → 1 ≤ sizes code → IsSome code
is_some [] le = absurd (omega arith)
is_some (i ∷ is) le = record { item = i; left = is; parts = refl }

-- its parts, and the whole
pub whole_size : (y : Layout) (to : Slot) (o : Operation) (first second : Slot)
    → template_size y (instructions.Compute to o first second)
    ≡ sizes (operands_code y o first second) + sizes (finish_code y o to)
unfolding template_size
whole_size y to o first second = sizes_append (operands_code y o first second) (finish_code y o to)

-- ---- slots

-- somewhere a body's slots have room
pub record HasRoomSomewhere (y : Layout) (n : Counts) : Type 0 where
  pub sp : ℕ
  pub base : ℕ
  pub room : SlotsHaveRoom y n sp base

own_room : (y : Layout) (n : Counts) → y.base ≡ None → y.temporaries + 8 * n.temporaries < 2 ^ 31
    → y.locals + 8 * n.locals < 2 ^ 31
    → (0 + (y.locals + 8 * n.locals) ≤ 0 + y.temporaries)
    ⊎ (0 + (y.temporaries + 8 * n.temporaries) ≤ 0 + y.locals) → HasRoomSomewhere y n
own_room y n none temporaries locals apart = record {
  sp = 0;
  base = 0;
  room = record {
    temporaries = temporaries;
    locals = locals;
    high = omega arith;
    base_high = omega arith;
    apart = apart;
    kept_base = subst (λ (o : Option ℕ). HasBase y o 0 0) (sym none) refl;
  };
}

function_room : (weight : ℕ) (y : Layout) (b : LinearBody) → IsFunctionLayout weight y b
    → HasRoomSomewhere y (counts_of b)
function_room weight y b l =
    let x = l.temporaries in
    let z = l.locals in
    let w = l.within in
    let s = l.small in
    let few = l.light in
    own_room y (counts_of b) l.none (omega arith) (omega arith) (inr (omega arith))

leaf_room : (y : Layout) (b : LinearBody) → IsLeafLayout y b → HasRoomSomewhere y (counts_of b)
leaf_room y b l =
    let x = l.temporaries in
    let z = l.locals in
    let s = l.few in
    own_room y (counts_of b) l.none (omega arith) (omega arith) (inl (omega arith))

funclet_room : (weight : ℕ) (y f : Layout) (b g : LinearBody) → IsFuncletLayout y f b
    → IsFunctionLayout weight f g → b.locals ≡ g.locals → HasRoomSomewhere y (counts_of b)
funclet_room weight y f b g l m same =
    let x = l.temporaries in
    let z = l.locals in
    let w = l.within in
    let s = l.small in
    let k = l.kept in
    let u = m.locals in
    let i = m.within in
    let v = m.small in
    let few = m.light in
    record {
      sp = 0;
      base = 8192;
      room = record {
        temporaries = omega arith;
        locals = omega arith;
        high = omega arith;
        base_high = omega arith;
        apart = inr (omega arith);
        kept_base = subst (λ (o : Option ℕ). HasBase y o 0 8192) (sym l.base)
            (omega arith, omega arith);
      };
    }

module _ (t : Functions) (fs : List Funclet) (program : LinearProgram) (p : ImagePlan) (q : Sites)
    (image : IsProgramImage t fs program p q) where
  by_leaf : (f : ℕ) (b : LinearBody) (leaf : Bool)
      → IsLayoutIf program p (weight_of (slice_get program.functions f)) (p.layout (FunctionBody f))
      b leaf
      → HasRoomSomewhere (p.layout (FunctionBody f)) (counts_of b)
  by_leaf f b true l = leaf_room (p.layout (FunctionBody f)) b l
  by_leaf f b false l = function_room (weight_of (slice_get program.functions f))
      (p.layout (FunctionBody f)) b l

  by_name : (name : BodyName) (b : LinearBody) → IsLaidOut program p name b
      → HasRoomSomewhere (p.layout name) (counts_of b)
  by_name (FunctionBody f) b l = by_leaf f b (p.leaf (FunctionBody f)) l
  by_name (FuncletBody k) b l =
      let g : IsLaidOut program p (FunctionBody l.funclet.function) l.function = image.laid_out
      (FunctionBody l.funclet.function) l.function l.function_there in
      let weight = weight_of (slice_get program.functions l.funclet.function) in
      funclet_room weight (p.layout (FuncletBody k)) (p.layout (FunctionBody l.funclet.function)) b
      l.function l.layout
      (subst (λ (leaf : Bool). IsLayoutIf program p weight
      (p.layout (FunctionBody l.funclet.function)) l.function leaf) l.function_framed g)
      l.same_locals

  -- ---- code

  -- the template of an instruction is at its address
  pub template_is_at : (m : Memory) (name : BodyName) (b : LinearBody) (label : ℕ) (i : Instruction)
      → HasProgram t fs program p q m → body_of program name ≡ Some b
      → slice_get b.code label ≡ Some i
      → HasCode m (p.address name label) (template (links_of p q name) (p.layout name)
      (p.address name label) i)
  template_is_at m name b label i has there is = template_there (setting_of t fs program p q image)
      name b there
      m has label i is

  -- an operation's instructions from the one on that may fault
  pub finish_is_at : (m : Memory) (name : BodyName) (b : LinearBody) (label : ℕ) (to : Slot)
      (o : Operation) (first second : Slot)
      → HasProgram t fs program p q m → body_of program name ≡ Some b
      → slice_get b.code label ≡ Some (instructions.Compute to o first second)
      → HasCode m (p.address name label + sizes (operands_code (p.layout name) o first second))
      (finish_code (p.layout name) o to)
  finish_is_at m name b label to o first second has there is =
      (code_split m (p.address name label) (operands_code (p.layout name) o first second)
      (finish_code (p.layout name) o to)
      (template_is_at m name b label (instructions.Compute to o first second) has there is)).1

  -- ---- a funclet's first instruction makes its frame

  abbrev at_place : Memory → ℕ → State
  at_place m at = record {
    cpu = record { registers = []; rip = at; flags = no_flags };
    memory = m;
    vectored = [];
  }

  -- what is read at code
  first_read : (m : Memory) (at : ℕ) (i : Instr) (is : List Instr) → Fine (i ∷ is)
      → HasCode m at (i ∷ is) → leading (executable m 15 at) ≡ Some (i, length (chosen i))
  unfolding Rattle.template_code.specs.Bytes.size
  first_read m at i is fine code =
      let parts = bytes_split m at (chosen i) (spelled is) code.is_there in
      let l = code.placed.low in
      let h = code.placed.high in
      reads (at_place m at) i (chosen i) (spells i fine.0) (longest i) parts.0
      (record { low = l; high = omega arith })

  -- ---- so none begins at other code

  elsewhere : (m : Memory) (at k : ℕ) (code : List Instr) → Fine code → 1 ≤ sizes code
      → HasCode m at code → HasProgram t fs program p q m → k < length program.funclets
      → at ≢ p.funclet k
  elsewhere m at k [] fine some code has lt e = absurd (omega arith)
  elsewhere m at k (i ∷ is) fine some code has lt e =
      let read = first_read m at i is fine code in
      let silent = none_taking (i ∷ is) fine in
      elim (slice_get_cases program.funclets k).1 [
        | inl x ↦ funclet_makes t fs program p q image m k x.0 i (length (chosen i)) x.2 has
            (ap (λ (a : ℕ). leading (executable m 15 a)) (sym e) ∙ read) silent.0
        | inr x ↦ let le = x.0 in absurd (omega arith)
      ]

  -- where an operation of a body may fault
  pub silent_within : (roomy : HaveRoom program) (m : Memory) (name : BodyName) (b : LinearBody)
      (label : ℕ) (to : Slot) (o : Operation) (first second : Slot)
      → HasProgram t fs program p q m → body_of program name ≡ Some b
      → slice_get b.code label ≡ Some (instructions.Compute to o first second)
      → (c : Cpu) → arrivals c (distance t.base
      (p.address name label + sizes (operands_code (p.layout name) o first second))) 1 fs ≡ []
  silent_within roomy m name b label to o first second has there is c =
      let y = p.layout name in
      let at = p.address name label + sizes (operands_code y o first second) in
      let code = finish_is_at m name b label to o first second has there is in
      let slots : HasSlots (counts_of b) (instructions.Compute to o first second) = each
      (HasSlots (counts_of b)) b.code label (instructions.Compute to o first second)
      (roomy name b there).slots is in
      let somewhere = by_name name b (image.laid_out name b there) in
      let fine = finish_fine y (counts_of b) somewhere.sp somewhere.base o to somewhere.room
      slots.0 in
      let high = code.placed.high in
      image.funclets.none at (omega arith) (λ k lt. elsewhere m at k (finish_code y o to) fine
      (some_finish y o to) code has lt) c
