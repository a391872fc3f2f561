-- Where an instruction is that makes no frame, no funclet begins.
use Rattle.std.proofs.Common.{◌≡◌, ℕ, ◌^◌, ◌<◌, Bool, true, false, [], ◌∷◌, length, Option, Some, None, refl, sym, ap, subst, ◌∙◌, arith, inl, inr}
use Rattle.std.specs.Prelude.{slice_get}
use Rattle.std.proofs.lemmas.Option.{slice_get_cases}
use Rattle.template_code.specs.ColdParts.{hot_code}
use Rattle.match_turns.specs.Words.{W64, Memory, executable, Rsp, Instr, leading, chosen, is_encodable, Cpu, State, distance, arrivals, no_flags, LinearFunclet, FuncletBody, body_of, funclet_body, size, code_from, HasCode, frame_code, entry_code, links_of, IsFuncletPlan, Setting, HasProgram, takes_frame}
use Rattle.match_bodies.specs.CodeSites.{arguments_code, body_plan}
use Rattle.x64_instr.specs.declared.operand.RegisterOrMemory.TheVariants as places
use Rattle.x64_instr.specs.declared.operand.Operand.TheVariants as operands
use Rattle.x64_instr.specs.declared.instruction.Operation.TheVariants as operations
use Rattle.x64_instr.specs.declared.instruction.Instr.TheVariants as instrs
use Rattle.match_bodies.proofs.Prologues.FrameCode.{funclet_bare, made_small}
use Rattle.match_turns.proofs.Lemmas.{longest, bytes_split, spells, reads, code_split, near}

-- the first instruction of code that is somewhere is read there
reads_first : (m : Memory) (at : ℕ) (j : Instr) → is_encodable j ≡ true → HasCode m at (j ∷ [])
    → leading (executable m 15 at) ≡ Some (j, length (chosen j))
unfolding size
reads_first m at j fine code =
    let parts = bytes_split m at (chosen j) [] code.is_there in
    let l = code.placed.low in
    let h = code.placed.high in
    let s : State = record {
      cpu = record { registers = []; rip = at; flags = no_flags };
      memory = m;
      vectored = [];
    } in
    reads s j (chosen j) (spells j fine) (longest j) parts.0
    (record { low = l; high = omega arith })

abbrev taking : Option (Instr × ℕ) → Bool
taking None = true
taking (Some x) = takes_frame x.0

never_both : (i j : Instr) (m n : ℕ) → ◌≡◌ {A = Option (Instr × ℕ)} (Some (i, m)) (Some (j, n))
    → takes_frame i ≡ true → takes_frame j ≡ false → ⊥
never_both i j m n e makes silent = let z : true ≡ false = sym makes ∙ ap taking e ∙ silent in
    absurd cc

module _ (setting : Setting) where
  open setting use {functions as t, funclets as fs, program, plan as p, sites as q, image}

  -- a funclet begins with an instruction that makes its frame
  makes_frame : (m : Memory) (k : ℕ) (f : LinearFunclet) (j : Instr)
      → slice_get program.funclets k ≡ Some f → HasProgram setting m
      → is_encodable j ≡ true → takes_frame j ≡ false → HasCode m (p.funclet k) (j ∷ []) → ⊥
  makes_frame m k f j there has fine silent code =
      let name = FuncletBody k in
      let is : body_of program name ≡ Some f.body = ap funclet_body there in
      let plan : IsFuncletPlan program p k f.body = image.laid_out name f.body is in
      let small = plan.layout.small in
      let y = p.layout name in
      let first = frame_code (body_plan p q name) (p.leaf name) in
      let all = has.code name f.body is in
      let entry = code_split m (p.funclet k) (entry_code program p q name)
      (code_from (links_of p q name) y (p.address name 0) (hot_code f.body)) all in
      let frame = code_split m (p.funclet k) first (arguments_code program p name) entry.0 in
      let i = instrs.Arithmetic operations.Sub W64 (places.Register Rsp)
      (operands.Immediate y.frame) in
      let made : HasCode m (p.funclet k) (i ∷ []) = subst (HasCode m (p.funclet k))
      (made_small y (body_plan p q name).probe (p.leaf name) plan.framed
      (funclet_bare y _ f.body plan.layout))
      frame.0 in
      never_both i j (length (chosen i)) (length (chosen j))
      (sym (reads_first m (p.funclet k) i (near y.frame (omega arith)) made)
      ∙ reads_first m (p.funclet k) j fine code) refl silent

  pub silent_code : (m : Memory) (at : ℕ) (j : Instr) (c : Cpu) → HasProgram setting m
      → is_encodable j ≡ true → takes_frame j ≡ false → HasCode m at (j ∷ []) → at < 2 ^ 64
      → arrivals c (distance t.base at) 1 fs ≡ []
  silent_code m at j c has fine silent code small =
      image.funclets.none at small (λ k inside e. elim (slice_get_cases program.funclets k).1 [
        | inl x ↦ makes_frame m k x.0 j x.2 has fine silent
            (subst (λ a. HasCode m a (j ∷ [])) e code)
        | inr x ↦ let le = x.0 in absurd (omega arith)
      ]) c
