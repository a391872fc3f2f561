-- Each operation is matched, wherever the machine is.
use Rattle.std.proofs.Common.{◌≡◌, ℕ, zero, ◌+◌, Bool, Option, Some, sym, subst, ◌∙◌, arith, inl, inr}
use Rattle.match_turns.proofs.Filters.AskSteps.{taken_slower, taken_after}
use Rattle.match_turns.specs.Words.{Code, State, Operation, OperationResult, Gives, Raises, Undefined, is_reserved, Slot, Local, Temporary, Instruction, LinearProgram, Configuration, body_of, act, instruction_at, exec, IsTemporary, ReadsWell, IsInstructionOf, IsReady, HasRule, IsWellMade, IsKnown, KnownNext, turns_per_step, FlagsFit, ComesTo, Setting, setting_of, WorksOn, RetriesAreMatched, ContinuationsAtOperations, OperationsAreMatched, IsTakenWithin, IsMatchedOrAsks}
use Rattle.linear_code.specs.declared.instruction.Instruction.TheVariants as instructions
use Rattle.match_turns.proofs.Lemmas.{comes_nowhere, each, some_is, label_in, body_there}
use Rattle.match_bodies.specs.Bodies.{RepresentsAt}
use Rattle.match_bodies.proofs.Steps.BodySteps.{within_body}
use Rattle.match_turns.proofs.Operations.OperationMeaning.{comes_to_something, undefined, not_constant, fault_reads}
use Rattle.match_turns.proofs.Operations.OperationOperands.{fetched}
use Rattle.match_turns.proofs.Raises.FaultRaise.{raised_at_once}
use Rattle.match_turns.proofs.Operations.OperationCompletion.{completed}
use Rattle.match_turns.proofs.Raises.FaultContinuation.{silent_there, works_on}
use Rattle.match_turns.proofs.Dispatches.DispatchOutcomeSteps.{matched_there}

-- the operation that an instruction is comes to this
abbrev Meets : LinearProgram → Configuration → OperationResult → Instruction → Type 0
Meets program c x (instructions.Compute to o first second) = ComesTo program c o first second x
Meets program c x i = ⊥

ready_at : (program : LinearProgram) (c : Configuration) (i : Instruction) → IsKnown program c
    → instruction_at program c ≡ Some i → IsReady program c i
ready_at program c i known e = subst (IsReady program c)
    (some_is known.continues.instruction i (sym known.continues.at ∙ e)) known.continues.ready

module _ (setting : Setting) (made : IsWellMade setting.program setting.plan)
    (fits : FlagsFit setting.program) where
  open setting use {functions as t, funclets as fs, program, plan as p, sites as q, image}

  -- the instruction that is made again
  abbrev again : (s : State) (c : Configuration) → WorksOn setting s c → Instruction
  again s c w = instructions.Compute w.again.to w.again.operation (Temporary w.again.first)
      (Temporary w.again.second)

  -- ---- within an operation

  pub within_operation : (s : State) (c : Configuration) (w : WorksOn setting s c)
      (known : IsKnown program c)
      → (x : OperationResult) → ComesTo program c w.again.operation (Temporary w.again.first)
      (Temporary w.again.second) x
      → HasRule (act program (again s c w) (exec program zero) c)
      → KnownNext program c (again s c w)
      → IsMatchedOrAsks setting s c (again s c w)
  within_operation s c w known (Gives value m) h rule next = inl (matched_there t fs program p q
      turns_per_step s c (again s c w) (inl (completed setting made s c w known value m h rule)))
  within_operation s c w known (Raises code access) h rule next =
      taken_slower t fs program p q 7 turns_per_step s c (again s c w) (omega arith)
      (raised_at_once setting made fits s c w known code access h rule next)
  within_operation s c w known (Undefined at) h rule next =
      inl (inr (inr (inr (undefined t fs program s c w.again.to w.again.operation
      (Temporary w.again.first) (Temporary w.again.second) at h))))

  pub retried : (s : State) (c : Configuration) (i : Instruction) → WorksOn setting s c
      → IsKnown program c → instruction_at program c ≡ Some i
      → HasRule (act program i (exec program zero) c) → KnownNext program c i
      → IsMatchedOrAsks setting s c i
  retried s c i w known e = subst (λ j. HasRule (act program j (exec program zero) c)
      → KnownNext program c j → IsMatchedOrAsks setting s c j) same
      (λ rule next. let x = comes_to_something program c w.again.to w.again.operation
      (Temporary w.again.first) (Temporary w.again.second)
      (ready_at program c (again s c w) known w.again.works) in
      within_operation s c w known x.0 x.1 rule next)
    where
      same : again s c w ≡ i
      same = some_is (again s c w) i (sym w.again.works ∙ e)

  -- one that faults takes no more turns than the host's own
  faults_within : (s : State) (c : Configuration) (i : Instruction) (code : Code)
      (access : Option (Bool × ℕ)) → WorksOn setting s c → IsKnown program c
      → instruction_at program c ≡ Some i
      → Meets program c (Raises code access) i → HasRule (act program i (exec program zero) c)
      → KnownNext program c i → IsTakenWithin setting 7 s c i
  faults_within s c i code access w known e =
      subst (λ j. Meets program c (Raises code access) j
      → HasRule (act program j (exec program zero) c) → KnownNext program c j
      → IsTakenWithin setting 7 s c j)
      (some_is (again s c w) i (sym w.again.works ∙ e))
      (λ h rule next. raised_at_once setting made fits s c w known code access h rule next)

  -- ---- where an operation begins

  module _ (s : State) (c : Configuration) (to : Slot) (o : Operation)
      (b : RepresentsAt t fs program p q s c) (known : IsKnown program c) where
    -- one that faults: its operands are fetched first
    faults : (first second : Slot) (code : Code) (access : Option (Bool × ℕ))
        → IsTemporary first × IsTemporary second
        → (h : ComesTo program c o first second (Raises code access))
        → instruction_at program c ≡ Some (instructions.Compute to o first second)
        → HasRule (act program (instructions.Compute to o first second) (exec program zero) c)
        → KnownNext program c (instructions.Compute to o first second)
        → IsMatchedOrAsks setting s c (instructions.Compute to o first second)
    faults (Local x) second code access temporaries h e rule next = absurd temporaries.0
    faults (Temporary x) (Local y) code access temporaries h e rule next = absurd temporaries.1
    faults (Temporary x) (Temporary y) code access temporaries h e rule next =
        let i = instructions.Compute to o (Temporary x) (Temporary y) in
        let l = fetched setting made s c to o x y b known
        (not_constant (is_reserved program.globals) o h.a h.b c.store.memory code access h.comes)
        e in
        let few = l.few in
        taken_slower t fs program p q (l.turns + 7) turns_per_step s c i (omega arith)
        (taken_after t fs program p q l.turns 7 s l.state c i l.comes (faults_within l.state c i
        code access l.is_there known e h rule next))

    from_beginning : (first second : Slot) (x : OperationResult)
        → ComesTo program c o first second x → instruction_at program c
        ≡ Some (instructions.Compute to o first second)
        → HasRule (act program (instructions.Compute to o first second) (exec program zero) c)
        → KnownNext program c (instructions.Compute to o first second)
        → IsMatchedOrAsks setting s c (instructions.Compute to o first second)
    from_beginning first second (Gives value m) h e rule next =
        inl (matched_there t fs program p q turns_per_step s c
        (instructions.Compute to o first second)
        (inl (within_body t fs program p q image made s c (instructions.Compute to o first second) b
        known e (record {
          a = h.a;
          b = h.b;
          reads_first = h.reads_first;
          reads_second = h.reads_second;
          value = value;
          memory = m;
          gives = h.comes;
        }) rule)))
    from_beginning first second (Raises code access) h e rule next =
        let i = instructions.Compute to o first second in
        let there = body_there (body_of program c.frame.body) c.frame.next i e in
        let well : ReadsWell o first second =
        each (IsInstructionOf program c.frame.body) there.0.code c.frame.next i
        (made.whole.bodies c.frame.body there.0 there.1).code
        (label_in (body_of program c.frame.body) there.0 c.frame.next i there.1 e) in
        faults first second code access (fault_reads (is_reserved program.globals) o first second
        h.a h.b c.store.memory code access h.comes well) h e rule next
    from_beginning first second (Undefined at) h e rule next = inl (inr
        (inr (inr (undefined t fs program s c to o first second at h))))

pub operations : OperationsAreMatched
operations t fs program p q image made fits s c to o first second (inl b) known e rule next =
    let i = instructions.Compute to o first second in
    let x = comes_to_something program c to o first second (ready_at program c i known e) in
    from_beginning (setting_of t fs program p q image) made fits s c to o b known first second x.0
    x.1 e rule
    next
operations t fs program p q image made fits s c to o first second (inr w) known e rule next =
    retried (setting_of t fs program p q image) made fits s c (instructions.Compute to o first
    second) w known e
    rule next

pub retries : RetriesAreMatched
retries t fs program p q image made fits s c i w known e rule next = retried
    (setting_of t fs program p q image)
    made fits s c i w known e rule next

pub continuations : ContinuationsAtOperations
continuations t fs program p q image made s saved is acts c on well_formed resumes memory store = (
  silent_there (setting_of t fs program p q image) made s saved is acts c on well_formed resumes
      memory store,
  record {
    turns = 0;
    few = omega arith;
    state = record s { cpu = saved };
    comes = comes_nowhere t fs (record s { cpu = saved });
    is_there = inr (works_on (setting_of t fs program p q image) made s saved is acts c on
        well_formed resumes memory
        store);
  },
)
