-- In every state that represents a configuration the walk gives the live frames.
use Rattle.std.proofs.Common.{◌≡◌, ◌⊎◌, inl, inr, ℕ, ◌+◌, ◌^◌, ◌<◌, ◌≤◌, Bool, true, false, Some, List, [], ◌∷◌, ◌++◌, refl, sym, ap, ◌∙◌, arith}
use Rattle.std.specs.Prelude.{slice_get}
use Rattle.image_runs.specs.Words.{Rsp, Instr, context_of, State, register, Functions, Funclet, Slot, Temporary, Instruction, LinearProgram, Waits, Configuration, instruction_in, instruction_at, sizes, template, IsReturn, context_below, ImagePlan, Activation, activations_below, locals_of, Sites, links_of, HasProgram, IsResumed, IsProgramImage, InBody, RepresentsAt, IsKnown, Represents, WorksOn, IsReturning, ReturnsWait, WalkGives, operands_code, finish_code, WalksGiveTheFrames}
use Rattle.linear_code.specs.declared.instruction.Instruction.TheVariants as instructions
use Rattle.image_runs.proofs.Lemmas.{template_sizes, template_some, OnTop, leaf_frame, framed_here, framed_top, leaf_top, body_on_top, one_entry, some_finish, is_some}
use Rattle.match_stack.proofs.ListEnds.{in_stack}
use Rattle.image_runs.proofs.WalkFrames.{frames, gives}
use Rattle.image_runs.proofs.LiveFrames.{as_many, are_frames}

return_or : (i : Instruction) → (IsReturn i → ⊥) ⊎ ((from : Slot) × (i ≡ instructions.Return from))
return_or (instructions.Return from) = inr (from, refl)
return_or i = inl (λ h. h)

module _ (t : Functions) (fs : List Funclet) (program : LinearProgram) (p : ImagePlan) (q : Sites)
    (image : IsProgramImage t fs program p q) where
  pub record IsTop (s : State) (c : Configuration) : Type 0 where
    pub acts : List Activation
    pub store : c.store.activations ≡ locals_of acts
    pub top : OnTop t fs program p q s c acts

  pub from_top : (s : State) (c : Configuration) → IsTop s c → WalkGives t fs program p s c
  from_top s c h =
      let m = s.memory in
      let from = context_of s.cpu in
      let top = h.top in
      let is_there = top.on.is_there in
      let n = as_many t fs program p m from top.is (Waits c.frame ∷ c.below) h.acts
      is_there.linked in
      record {
        acts = h.acts;
        store = h.store;
        frames = frames from top.is;
        live = are_frames t fs program p q image m from top.is (Waits c.frame ∷ c.below) h.acts
            is_there.stack is_there.linked;
        walks = λ k le. gives t m from 0 top.is k is_there.stack (omega arith);
      }

  -- an instruction that a configuration is at is in its body's code
  in_code : (s : State) (c : Configuration) (i : Instruction) (at : InBody t fs program p q s c)
      → instruction_at program c ≡ Some i → slice_get at.slots.code.code c.frame.next ≡ Some i
  in_code s c i at e = sym (ap (λ o. instruction_in o c.frame.next) at.slots.body) ∙ e

  module _ (s : State) (c : Configuration) (at : InBody t fs program p q s c) where
    is_top : OnTop t fs program p q s c at.acts → IsTop s c
    is_top top = record { acts = at.acts; store = at.store; top = top }

    -- where a return begins
    module _ (still : ReturnsWait t fs program p q) (has : HasProgram t fs program p q s.memory)
        (r : IsReturning t fs program p q at.slots.code c.frame.body c.frame.next s.cpu.rip) where
      abbrev sp : ℕ
      sp = register s.cpu Rsp

      abbrev size : ℕ
      size = (p.layout c.frame.body).frame

      below_end : sp + size + 8 < 2 ^ 64
      below_end =
          let top = in_stack t fs program p s.memory
          (context_below at.back (sp + size + 8) at.others) at.is c.below
          (activations_below c.frame.body at.acts) at.below.is_there.stack
          at.below.is_there.linked in
          omega arith

      returning_top : (leaf : Bool) → p.leaf c.frame.body ≡ leaf
          → OnTop t fs program p q s c at.acts
      returning_top false e =
          let f = still.frames s.memory c.frame.body at.slots.code c.frame.next (context_of s.cpu)
          at.back at.others at.slots.body e has r (framed_here t fs program p q s c at e) in
          framed_top t fs program p q s c c.frame.next at
          (one_entry t fs program p q image s c c.frame.next at e f.found) e f
      returning_top true e =
          let lt = below_end in
          leaf_top t fs program p q image s c at e
          (still.leaves s.memory c.frame.body at.slots.code c.frame.next (context_of s.cpu) at.back
          at.slots.body e r refl (omega arith) (leaf_frame t fs program p q s c at e).returns)

  -- where an instruction begins
  begun : ReturnsWait t fs program p q → (s : State) (c : Configuration) (i : Instruction)
      → (b : RepresentsAt t fs program p q s c) → instruction_at program c ≡ Some i → IsTop s c
  begun still s c i b e = by (return_or i)
    where
      code : List Instr
      code = template (links_of p q c.frame.body) (p.layout c.frame.body)
          (p.address c.frame.body c.frame.next) i

      some : 1 ≤ sizes code
      some =
          let n = template_sizes (links_of p q c.frame.body) (p.layout c.frame.body)
          (p.address c.frame.body c.frame.next) i in
          let k = template_some (p.layout c.frame.body) i in
          omega arith

      by : (IsReturn i → ⊥) ⊎ ((from : Slot) × (i ≡ instructions.Return from)) → IsTop s c
      by (inl goes) =
          let x = is_some code some in
          let here = b.rip in
          let resumed : IsResumed t fs program p q c.frame.body b.body.slots.code c.frame.next
          s.cpu.rip =
          record {
            instruction = i;
            there = in_code s c i b.body e;
            continues = goes;
            done = [];
            item = x.item;
            left = x.left;
            parts = x.parts;
            here = omega arith;
          } in
          is_top s c b.body (body_on_top t fs program p q image s c c.frame.next b.body resumed
          b.memory.code)
      by (inr r) =
          is_top s c b.body
          (returning_top s c b.body still b.memory.code
          (record {
            from = r.0;
            there = in_code s c i b.body e
                ∙ ap (λ (j : Instruction). Some j) r.1;
            here = b.rip;
          }) (p.leaf c.frame.body) refl)

  -- within an operation that is made again
  working : (s : State) (c : Configuration) → WorksOn t fs program p q s c → IsTop s c
  working s c w = is_top s c w.body (body_on_top t fs program p q image s c c.frame.next w.body
      resumed w.memory.code)
    where
      ops : List Instr
      ops = operands_code (p.layout c.frame.body) w.again.operation (Temporary w.again.first)
          (Temporary w.again.second)

      finish : List Instr
      finish = finish_code (p.layout c.frame.body) w.again.operation w.again.to

      i : Instruction
      i = instructions.Compute w.again.to w.again.operation (Temporary w.again.first)
          (Temporary w.again.second)

      resumed : IsResumed t fs program p q c.frame.body w.body.slots.code c.frame.next s.cpu.rip
      resumed =
          let x = is_some finish (some_finish (p.layout c.frame.body) w.again.operation
          w.again.to) in
          record {
            instruction = i;
            there = in_code s c i w.body w.again.works;
            continues = λ h. h;
            done = ops;
            item = x.item;
            left = x.left;
            parts = ap (λ rest. ops ++ rest) x.parts;
            here = w.again.here;
          }

  -- on top of what waits below it, in every state that represents a configuration
  pub tops : ReturnsWait t fs program p q → (s : State) (c : Configuration)
      → Represents t fs program p q s c → IsKnown program c → IsTop s c
  tops still s c (inl b) known = begun still s c known.continues.instruction b known.continues.at
  tops still s c (inr w) known = working s c w

pub walks_give_the_frames : WalksGiveTheFrames
walks_give_the_frames t fs program p q image still s c is_there known = from_top t fs program p q
    image s c (tops t fs program p q image still s c is_there known)
