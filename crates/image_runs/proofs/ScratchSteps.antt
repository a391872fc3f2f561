-- After a machine instruction that writes no memory a state is still within its instruction.
use Rattle.std.proofs.Common.{◌≡◌, ℕ, ◌+◌, ◌%◌, ◌^◌, ◌≤◌, true, false, eqb, ◌||◌, Ok, List, [], ◌∷◌, ◌++◌, length, refl, sym, ap, subst, ◌∙◌, arith, append_assoc}
use Rattle.std.proofs.lemmas.Bool.{ne_eqb}
use Rattle.image_runs.specs.Words.{Memory, Rax, Rsp, Rcx, Rdx, RegisterOrMemory, Instr, chosen, is_encodable, State, register, effect, with_rip, step, Functions, Funclet, LinearProgram, Configuration, sizes, spelled, size, HasCode, ImagePlan, InCode, Sites, links_of, HasProgram, IsResumed, IsProgramImage, is_free_place, scratch_only, is_free, IsWithinInstruction, ScratchOnlyHere, kept_of, ScratchStepsStayWithin}
use Rattle.x64_instr.specs.declared.register.Reg.{Reg}
use Rattle.x64_instr.specs.declared.operand.RegisterOrMemory.TheVariants as places
use Rattle.x64_instr.specs.declared.instruction.Operation.TheVariants as operations
use Rattle.x64_instr.specs.declared.instruction.Instr.TheVariants as instrs
use Rattle.x64_instr.specs.Registers.{number}
use Rattle.x64_encode.proofs.Lengths.{longest}
use Rattle.frame_rules.specs.Body.{written, written_place, has, is_a_call}
use Rattle.frame_rules.proofs.Writing.{writes_no_other}
use Rattle.image_runs.proofs.Lemmas.{sizes_append, template_sizes, outside_page, bytes_split, spells, reads, code_ends, template_is_at}
use Rattle.match_bodies.specs.Setting.{setting_of}
use Rattle.x64_templates.proofs.Computes.{code_split}
use Rattle.match_stack.specs.ListLaws.{KeepsStack}
use Rattle.image_runs.proofs.ScratchInstructions.{leaves}

-- ---- no register but RAX, RCX and RDX is written

free_register : (k : Reg) (r : ℕ) → 3 ≤ r → is_free k ≡ true → eqb (number k) r ≡ false
free_register Rax r le q = ne_eqb 0 r (λ z. (let e : 0 ≡ r = z in absurd (omega arith)))
free_register Rcx r le q = ne_eqb 1 r (λ z. (let e : 1 ≡ r = z in absurd (omega arith)))
free_register Rdx r le q = ne_eqb 2 r (λ z. (let e : 2 ≡ r = z in absurd (omega arith)))
free_register k r le q = absurd cc

alone : (k : Reg) (r : ℕ) → 3 ≤ r → is_free k ≡ true → has r (number k ∷ []) ≡ false
alone k r le q = ap (λ b. b || false) (free_register k r le q)

place_alone : (to : RegisterOrMemory) (r : ℕ) → 3 ≤ r → is_free_place to ≡ true
    → has r (written_place to) ≡ false
place_alone (places.Register k) r le q = alone k r le q
place_alone (places.Memory a) r le q = refl

not_written : (i : Instr) (r : ℕ) → 3 ≤ r → scratch_only i ≡ true → has r (written i) ≡ false
not_written (instrs.Move w to from) r le q = place_alone to r le q
not_written (instrs.LoadAddress w to m) r le q = alone to r le q
not_written (instrs.Arithmetic operations.Add w to from) r le q = place_alone to r le q
not_written (instrs.Arithmetic operations.Or w to from) r le q = place_alone to r le q
not_written (instrs.Arithmetic operations.And w to from) r le q = place_alone to r le q
not_written (instrs.Arithmetic operations.Sub w to from) r le q = place_alone to r le q
not_written (instrs.Arithmetic operations.Xor w to from) r le q = place_alone to r le q
not_written (instrs.Arithmetic operations.Compare w to from) r le q = refl
not_written (instrs.Test w first second) r le q = refl
not_written (instrs.Divide d w by) r le q =
    ap (λ b. b || has r (2 ∷ [])) (free_register Rax r le refl) ∙ alone Rdx r le refl
not_written (instrs.ExtendRax w) r le q = alone Rdx r le refl
not_written (instrs.Set c to) r le q = place_alone to r le q
not_written instrs.NoOperation r le q = refl
not_written (instrs.Extend x w to narrow from) r le q = alone to r le q
not_written (instrs.Multiply w to from) r le q = alone to r le q
not_written (instrs.MultiplyBy w to from v) r le q = alone to r le q
not_written (instrs.Unary o w to) r le q = place_alone to r le q
not_written (instrs.Shift d w to by) r le q = place_alone to r le q
not_written i r le q = absurd cc

no_call : (i : Instr) → scratch_only i ≡ true → is_a_call i ≡ false
no_call (instrs.Call to) q = absurd cc
no_call i q = refl

kept_same : (s t : State) (i : Instr) → scratch_only i ≡ true → effect s i ≡ Ok t
    → kept_of t.cpu.registers ≡ kept_of s.cpu.registers
kept_same s t i q e =
    let w = λ (r : ℕ) (le : 3 ≤ r). writes_no_other s t i r (no_call i q) e
    (not_written i r le q) in
    λ j. w 4 (omega arith) j ∷ w 3 (omega arith) j ∷ w 5 (omega arith) j ∷ w 6 (omega arith) j
    ∷ w 7 (omega arith) j ∷ w 12 (omega arith) j ∷ w 13 (omega arith) j ∷ w 14 (omega arith) j
    ∷ w 15 (omega arith) j ∷ []

-- ---- one step

-- what a step does where an instruction is
stepped : (u : State) (i : Instr) (rest : List Instr) → scratch_only i ≡ true
    → HasCode u.memory u.cpu.rip (i ∷ rest) → is_encodable i ≡ true
    → step u ≡ effect (with_rip u (u.cpu.rip + size i)) i
unfolding step size
stepped u i rest q h spelling =
    let low = h.placed.low in
    let high = h.placed.high in
    let parts = bytes_split u.memory u.cpu.rip (chosen i) (spelled rest) h.is_there in
    let read = reads u i (chosen i) (spells i spelling) (longest i) parts.0
    (record { low = low; high = omega arith }) in
    let rip : (u.cpu.rip + length (chosen i)) % 2 ^ 64
    ≡ u.cpu.rip + length (chosen i) = omega arith in
    rw (outside_page u.cpu.rip low, read, rip) refl

module _ (t : Functions) (fs : List Funclet) (program : LinearProgram) (p : ImagePlan) (q : Sites)
    (image : IsProgramImage t fs program p q) (s u v : State) (c : Configuration)
    (w : IsWithinInstruction t fs program p q s u c) (scratch : ScratchOnlyHere t fs program p q s u
    c w)
    (e : step u ≡ Ok v) where
  abbrev r : IsResumed t fs program p q c.frame.body w.code c.frame.next u.cpu.rip
  r = w.resumed

  code_here : HasCode u.memory u.cpu.rip (r.item ∷ r.left)
  code_here =
      let is_there = template_is_at t fs program p q image u.memory c.frame.body w.code c.frame.next
      r.instruction w.program_there w.body r.there in
      let split = subst (HasCode u.memory (p.address c.frame.body c.frame.next)) r.parts is_there in
      subst (λ a. HasCode u.memory a (r.item ∷ r.left)) (sym r.here)
      (code_split u.memory (p.address c.frame.body c.frame.next) r.done (r.item ∷ r.left) split).1

  does : effect (with_rip u (u.cpu.rip + size r.item)) r.item ≡ Ok v
  does = sym (stepped u r.item r.left scratch.scratch code_here scratch.spelling) ∙ e

  goes_to : v.cpu.rip ≡ u.cpu.rip + size r.item
  goes_to = (leaves (with_rip u (u.cpu.rip + size r.item)) v r.item scratch.scratch does).rip

  same_memory : v.memory ≡ u.memory
  same_memory = (leaves (with_rip u (u.cpu.rip + size r.item)) v r.item scratch.scratch does).memory

  inside : InCode p c.frame.body c.frame.next v.cpu.rip
  inside =
      let here = r.here in
      let to = goes_to in
      let n = code_ends (setting_of t fs program p q image) c.frame.body w.code w.body c.frame.next
      r.instruction r.there in
      let l = template_sizes (links_of p q c.frame.body) (p.layout c.frame.body)
      (p.address c.frame.body c.frame.next) r.instruction in
      let k = ap sizes r.parts in
      let m = ap sizes scratch.more in
      let some = scratch.some in
      record { low = omega arith; high = omega (arith, sizes_append r.done (r.item ∷ r.left)) }

  still_within : IsWithinInstruction t fs program p q s v c
  still_within =
      let to = goes_to in
      let here = r.here in
      let high = code_here.placed.high in
      record {
        code = w.code;
        body = w.body;
        resumed = record {
          instruction = r.instruction;
          there = r.there;
          continues = r.continues;
          done = r.done ++ (r.item ∷ []);
          item = scratch.next;
          left = scratch.rest;
          parts = r.parts ∙ ap (λ (xs : List Instr). r.done ++ (r.item ∷ xs)) scratch.more
              ∙ sym (append_assoc r.done (r.item ∷ []) (scratch.next ∷ scratch.rest));
          here = omega (arith, sizes_append r.done (r.item ∷ []));
        };
        inside = inside;
        small = omega arith;
        kept = kept_same (with_rip u (u.cpu.rip + size r.item)) v r.item scratch.scratch does ∙
            w.kept;
        program_there = subst (HasProgram t fs program p q) (sym same_memory) w.program_there;
        stack = subst (λ (m : Memory). KeepsStack s.memory m (register s.cpu Rsp)) (sym same_memory)
            w.stack;
      }

pub scratch_steps_stay_within : ScratchStepsStayWithin
scratch_steps_stay_within t fs program p q image s u v c w scratch e = still_within t fs program p q
    image s u v c w scratch e
