-- Where a body continues after an exception that is continued, as a test.
use Rattle.std.proofs.Common.{◌≡◌, ℕ, ◌+◌, ◌==◌, Bool, true, false, Option, Some, None, List, [], ◌∷◌, refl, ap, ◌∙◌}
use Rattle.std.specs.Prelude.{slice_get, slice_index, ◌&&◌}
use Rattle.std.proofs.lemmas.Bool.{and_from, and_parts, eq-eqb, eqb-true, false≢true}
use Rattle.image_states.specs.Words.{Rax, Rcx, Cpu, RaiseException, Temporary, Instruction, LinearProgram, body_of, instruction_in, Layout, sizes, routine_of, address_of, functions_of, funclets_of, plan_of, sites_of, Frame, Resumption, AfterCall, SameOperation, operands_code, return_at, view_of, ReturnsThere, WorksAgain, SaysResumptions, is_some, is_some_if, is_ready, returns_there, works_again, register_by, is_in_register, registers_hold, now_of, IsInRegister, RegistersHold}
use Rattle.seh_num.specs.Widths.{low}
use Rattle.x64_machine.specs.Effect.{register}
use Rattle.c_operations.specs.declared.operation.Operation.{Operation}
use Rattle.c_operations.specs.declared.operation.Operation.TheVariants as operations
use Rattle.c_operations.specs.Numbers.{width}
use Rattle.linear_code.specs.declared.instruction.Instruction.TheVariants as instructions
use Rattle.template_code.specs.Operands.{has_first, has_second}
use Rattle.x64_templates.specs.Straight.{MachineView}
use Rattle.x64_templates.specs.Implements.{high_of, IsReady}

-- ---- tests

some_is : (o : Option ℕ) (v : ℕ) → is_some o v ≡ true → o ≡ Some v
some_is None v e = absurd (false≢true e)
some_is (Some w) v e = ap (λ (n : ℕ). Some n) (eqb-true w v e)

is_some_of : (o : Option ℕ) (v : ℕ) → o ≡ Some v → is_some o v ≡ true
is_some_of o v e = ap (λ (q : Option ℕ). is_some q v) e ∙ eq-eqb v v refl

some_if_is : (read : Bool) (o : Option ℕ) (v : ℕ) → is_some_if read o v ≡ true → read ≡ true
    → o ≡ Some v
some_if_is true o v e r = some_is o v e
some_if_is false o v e r = absurd (false≢true r)

is_some_if_of : (read : Bool) (o : Option ℕ) (v : ℕ) → (read ≡ true → o ≡ Some v)
    → is_some_if read o v ≡ true
is_some_if_of true o v e = is_some_of o v (e refl)
is_some_if_of false o v e = refl

ready_is : (o : Operation) (v : MachineView) → is_ready o v ≡ true → IsReady o v
ready_is (operations.Pure p) v e = tt
ready_is (operations.Divide s z) v e = eqb-true (low (width z) v.rdx) (high_of s (width z) v.rax) e
ready_is (operations.Remainder s z) v e = eqb-true (low (width z) v.rdx) (high_of s (width z) v.rax)
    e
ready_is o v e = tt

is_ready_of : (o : Operation) (v : MachineView) → IsReady o v → is_ready o v ≡ true
is_ready_of (operations.Pure p) v e = refl
is_ready_of (operations.Divide s z) v e = eq-eqb (low (width z) v.rdx) (high_of s (width z) v.rax) e
is_ready_of (operations.Remainder s z) v e = eq-eqb (low (width z) v.rdx)
    (high_of s (width z) v.rax) e
is_ready_of o v e = refl

-- locals in registers
module _ (saved : Cpu) where
  held : (v : ℕ) (o : Option ℕ) → is_in_register saved.registers v o ≡ true
      → IsInRegister (now_of true saved) v o
  held v None e = tt
  held v (Some r) e = eqb-true (slice_index saved.registers r) v e

  is_held : (v : ℕ) (o : Option ℕ) → IsInRegister (now_of true saved) v o
      → is_in_register saved.registers v o ≡ true
  is_held v None h = refl
  is_held v (Some r) h = eq-eqb (slice_index saved.registers r) v h

  all_held : (register : ℕ → Option ℕ) (i : ℕ) (vs : List ℕ)
      → registers_hold saved.registers register i vs ≡ true
      → RegistersHold (now_of true saved) register i vs
  all_held register i [] e = tt
  all_held register i (v ∷ vs) e =
      let p = and_parts (is_in_register saved.registers v (register i))
      (registers_hold saved.registers register (i + 1) vs) e in
      (held v (register i) p.0, all_held register (i + 1) vs p.1)

  are_held : (register : ℕ → Option ℕ) (i : ℕ) (vs : List ℕ)
      → RegistersHold (now_of true saved) register i vs
      → registers_hold saved.registers register i vs ≡ true
  are_held register i [] h = refl
  are_held register i (v ∷ vs) h =
      and_from (is_in_register saved.registers v (register i))
      (registers_hold saved.registers register (i + 1) vs) (is_held v (register i) h.0)
      (are_held register (i + 1) vs h.1)

module _ (program : LinearProgram) (b : Frame) (values : List ℕ) (saved : Cpu) where
  abbrev y : Layout
  y = (routine_of program b.body).routine.layout

  abbrev at : ℕ
  at = address_of program b.body b.next

  abbrev here : Option Instruction
  here = instruction_in (body_of program b.body) b.next

  abbrev Returns : Type 0
  Returns = ReturnsThere (functions_of program) (funclets_of program) program (plan_of program)
      (sites_of program) b saved

  abbrev Works : Type 0
  Works = WorksAgain (functions_of program) (funclets_of program) program (plan_of program)
      (sites_of program) b values saved

  abbrev hold : Bool
  hold = registers_hold saved.registers (register_by program b.body) 0 values

  -- ---- after a call

  returns_says : Returns → returns_there y at saved here ≡ true
  returns_says h =
      ap (returns_there y at saved) h.calls
      ∙ and_from (saved.rip == return_at y h.first (at + 5)) (register saved Rax == 0)
      (eq-eqb saved.rip (return_at y h.first (at + 5)) h.here)
      (eq-eqb (register saved Rax) 0 h.no_result)

  returns_said : (o : Option Instruction) → here ≡ o → returns_there y at saved o ≡ true → Returns
  returns_said (Some (instructions.CallBuiltIn RaiseException first)) e t =
      let p = and_parts (saved.rip == return_at y first (at + 5)) (register saved Rax == 0) t in
      record {
        first = first;
        calls = e;
        here = eqb-true saved.rip (return_at y first (at + 5)) p.0;
        no_result = eqb-true (register saved Rax) 0 p.1;
      }
  returns_said o e t = absurd (false≢true t)

  -- ---- at the instruction that faulted

  abbrev place : Operation → ℕ → ℕ → ℕ
  place o first second = at + sizes (operands_code y o (Temporary first) (Temporary second))

  works_says : Works → works_again y at b.temporaries saved here ≡ true
  works_says h =
      let o = h.operation in
      ap (works_again y at b.temporaries saved) h.works
      ∙ and_from (saved.rip == place o h.first h.second) _
      (eq-eqb saved.rip (place o h.first h.second) h.here)
      (and_from (is_some_if (has_first o) (slice_get b.temporaries h.first)
      (register saved Rax)) _
      (is_some_if_of (has_first o) (slice_get b.temporaries h.first) (register saved Rax)
      h.has_first)
      (and_from (is_some_if (has_second o) (slice_get b.temporaries h.second)
      (register saved Rcx)) (is_ready o (view_of saved))
      (is_some_if_of (has_second o) (slice_get b.temporaries h.second) (register saved Rcx)
      h.has_second) (is_ready_of o (view_of saved) h.ready)))

  works_said : (o : Option Instruction) → here ≡ o → hold ≡ true
      → works_again y at b.temporaries saved o ≡ true → Works
  works_said (Some (instructions.Compute to o (Temporary first) (Temporary second))) e h t =
      let has = is_some_if (has_first o) (slice_get b.temporaries first) (register saved Rax) in
      let has' = is_some_if (has_second o) (slice_get b.temporaries second)
      (register saved Rcx) in
      let p = and_parts (saved.rip == place o first second)
      (has && (has' && is_ready o (view_of saved))) t in
      let q = and_parts has (has' && is_ready o (view_of saved)) p.1 in
      let r = and_parts has' (is_ready o (view_of saved)) q.1 in
      record {
        to = to;
        operation = o;
        first = first;
        second = second;
        works = e;
        here = eqb-true saved.rip (place o first second) p.0;
        has_first = some_if_is (has_first o) (slice_get b.temporaries first)
            (register saved Rax) q.0;
        has_second = some_if_is (has_second o) (slice_get b.temporaries second)
            (register saved Rcx) r.0;
        ready = ready_is o (view_of saved) r.1;
        locals = all_held saved (register_by program b.body) 0 values h;
      }
  works_said o e h t = absurd (false≢true t)

  pub resumptions : (resumption : Resumption)
      → SaysResumptions (functions_of program) (funclets_of program) program (plan_of program)
      (sites_of program) resumption b values saved
  resumptions AfterCall = record { says = returns_says; said = returns_said here refl }
  resumptions SameOperation = record {
    says = λ h. and_from (works_again y at b.temporaries saved here) hold (works_says h)
        (are_held saved (register_by program b.body) 0 values h.locals);
    said = λ e. (let p = and_parts (works_again y at b.temporaries saved here) hold e in
        works_said here refl p.1 p.0);
  }
