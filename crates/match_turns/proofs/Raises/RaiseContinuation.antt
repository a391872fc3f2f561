-- Where the exception of a call of RaiseException is continued, the instruction after the call
-- begins, with the result 0.
use Rattle.std.proofs.Common.{◌≡◌, ℕ, suc, ◌+◌, ◌*◌, ◌≤◌, Bool, true, false, List, [], ◌∷◌, ◌++◌, length, Some, None, refl, sym, ap, subst, ◌∙◌, arith, length-append}
use Rattle.std.specs.Prelude.{slice_get}
use Rattle.match_turns.specs.Words.{Rsp, Instr, Cpu, context_of, State, distance, arrivals, RaiseException, Temporary, Instruction, HasSlots, LinearProgram, LinearBody, BodyName, FunctionBody, FuncletBody, body_of, AfterCall, Waits, Configuration, resumed, Layout, sizes, put_back, keep, temporary_at, call, return_at, begin_call, clear_result, HasCode, StackItem, ImagePlan, Activation, locals_of, On, on_top, IsWellFormed, LeadsTo, IsLayoutIf, IsLaidOut, IsWellMade, IsKnown, counts_of, entry_turns, FRAME_BY_WEIGHT, MOST_WEIGHT, weight_of, Setting, setting_of, IsMachineMemory, RepresentsAt, ReturnsThere, ContinuationsAfterCalls, arguments_code, leaf_values, ResumesFrom, host_list}
use Rattle.linear_code.specs.declared.instruction.Instruction.TheVariants as instructions
use Rattle.match_turns.proofs.Lemmas.{sizes_append, call_size, code_split, near, template_there, reaches_silently, locals_count, label_in, body_there, counted_here, each, IsCounted}
use Rattle.lowering_invariants.specs.Depths.{depth_at, depth_in}
use Rattle.lowering_invariants.proofs.Scans.{depth_next}
use Rattle.match_turns.proofs.Calls.CallResult as kept
use Rattle.match_turns.proofs.Calls.CallSteps.{surrounded}
use Rattle.match_turns.proofs.Services.BuiltInRequest.{clear_size}
use Rattle.match_turns.proofs.Funclets.FuncletFirstInstruction.{silent_code}
use Rattle.match_turns.proofs.Calls.CallResult.{caller_framed}

-- the locals of an activation
abbrev locals_in : List (List ℕ) → ℕ → List ℕ
locals_in xs k = elim (slice_get xs k) [ Some locals ↦ locals | None ↦ [] ]

-- temporaries are near RSP
temporaries_near : (program : LinearProgram) (p : ImagePlan) (name : BodyName) (b : LinearBody)
    → IsLaidOut program p name b → (p.layout name).temporaries + 8 * b.temporaries + 8
    ≤ FRAME_BY_WEIGHT * MOST_WEIGHT
temporaries_near program p (FunctionBody f) b h = by (p.leaf (FunctionBody f)) h
  where
    by : (leaf : Bool) → IsLayoutIf program p (weight_of (slice_get program.functions f))
        (p.layout (FunctionBody f)) b leaf
        → (p.layout (FunctionBody f)).temporaries + 8 * b.temporaries + 8
        ≤ FRAME_BY_WEIGHT * MOST_WEIGHT
    by true l = let a = l.temporaries in let e = l.few in omega arith
    by false l = let a = l.temporaries in let e = l.locals in let w = l.within in let z = l.small in
        let few = l.light in omega arith
temporaries_near program p (FuncletBody k) b h = let a = h.layout.temporaries in
    let w = h.layout.within in let z = h.layout.small in omega arith

module _ (setting : Setting) where
  open setting use {functions as t, funclets as fs, program, plan as p, sites as q, image}

  module _ (made : IsWellMade program p) (s : State) (saved : Cpu) (is : List StackItem)
      (acts : List Activation) (c : Configuration)
      (on : On t fs program p s.memory (context_of saved) is (Waits c.frame ∷ c.below) acts)
      (well_formed : IsWellFormed (host_list p c.store) (record s { cpu = saved }))
      (says : ResumesFrom p AfterCall c.frame acts saved)
      (memory : IsMachineMemory setting s.memory c.store.memory)
      (store : c.store.activations ≡ locals_of acts) where
    abbrev name : BodyName
    name = c.frame.body

    abbrev y : Layout
    y = p.layout c.frame.body

    abbrev place : ℕ
    place = p.address c.frame.body c.frame.next

    returns : ReturnsThere t fs program p q c.frame saved
    returns = (image.resumptions AfterCall c.frame
        (leaf_values (p.leaf c.frame.body) c.frame.body acts) saved).said says

    abbrev first : ℕ
    first = returns.first

    abbrev i : Instruction
    i = instructions.CallBuiltIn RaiseException first

    code : (o : LinearBody) × (body_of program name ≡ Some o)
    code = body_there (body_of program name) c.frame.next i returns.calls

    here : slice_get code.0.code c.frame.next ≡ Some i
    here = label_in (body_of program name) code.0 c.frame.next i code.1 returns.calls

    fits : first + 4 ≤ code.0.temporaries
    fits = each (HasSlots (counts_of code.0)) code.0.code c.frame.next i
        (made.room name code.0 code.1).slots here

    abbrev done : List Instr
    done = clear_result ∷ begin_call y first (place + 5) (q.thunk RaiseException)

    back_is : saved.rip ≡ place + sizes done
    back_is =
        let n = clear_size in
        let back = return_at y first (place + 5) in
        let five = call_size back (q.thunk RaiseException) in
        omega (
          arith,
          returns.here,
          sizes_append (arguments_code y first)
              (call back (q.thunk RaiseException) ∷ []),
        )

    -- the code that keeps the result
    keeps : HasCode s.memory saved.rip (put_back Rsp (temporary_at y first) ∷ [])
    keeps =
        let h = code_split s.memory place done (keep y (Temporary first))
        (template_there setting name code.0 code.1 s.memory memory.code c.frame.next i here) in
        subst (λ x. HasCode s.memory x (keep y (Temporary first))) (sym back_is) h.1

    pub silent_there : arrivals saved (distance t.base saved.rip) 1 fs ≡ []
    silent_there =
        let n = temporaries_near program p name code.0 (image.laid_out name code.0 code.1) in
        let f = fits in
        silent_code setting s.memory saved.rip (put_back Rsp (temporary_at y first)) saved
        memory.code (near (temporary_at y first) (omega arith)) refl keeps well_formed.rip_small

    module _ (known : IsKnown program (resumed AfterCall c)) (free : c.frame.landed ≡ None) where
      held : length c.frame.temporaries ≡ first
      held =
          let d = known.depths.held ∙ ap (λ o. depth_in o (c.frame.next + 1)) code.1 in
          let one : c.frame.next + 1 ≡ suc c.frame.next = omega arith in
          let n = ap (depth_at code.0.code) one ∙ depth_next code.0.code 0 c.frame.next i here in
          let more = length-append c.frame.temporaries (0 ∷ []) in
          omega (arith, d, n, more)

      abbrev caller : Configuration
      caller = on_top c.frame c.below c.store acts c.events

      counted : IsCounted setting caller
      counted b there = ap (λ (xs : List (List ℕ)). length (locals_in xs c.frame.activation))
          (sym store) ∙ counted_here setting made (resumed AfterCall c) known b there

      pub continues : LeadsTo t fs entry_turns (RepresentsAt setting)
          (record s { cpu = saved }) (resumed AfterCall c)
      continues =
          let around = surrounded setting made (resumed AfterCall c) known code.0
          code.1 (length acts) (sym (locals_count acts) ∙ sym (ap length store)) in
          let u : State = record s { cpu = saved } in
          let f = fits in
          let z = kept.resumes setting made.room u c.frame c.below acts
          c.store c.events (context_of saved) is on refl well_formed memory code.0 code.1 i
          first
          done here (λ h. h) refl refl (omega arith)
          ((made.apart name code.0 code.1).within c.frame.next i here refl) held free back_is
          (caller_framed setting made name code.0 c.frame.next i code.1 here refl)
          counted around in
          record {
            turns = 1;
            few = omega arith;
            state = z.state;
            comes = reaches_silently t fs program p q image 1 u z.state z.reaches z.keeps
                memory.code
                z.silent;
            is_there = subst (λ xs. RepresentsAt setting z.state (record {
              frame = record c.frame {
                next = c.frame.next + 1;
                temporaries = c.frame.temporaries ++ 0 ∷ [];
              };
              below = c.below;
              store = record c.store { memory = c.store.memory; activations = xs };
              events = c.events;
            })) (sym store) (subst (λ x. RepresentsAt setting z.state
                (kept.answered setting made.room c.frame c.below c.store acts c.events x))
                returns.no_result z.begins);
          }

pub continuations_after_calls : ContinuationsAfterCalls
continuations_after_calls t fs program p q image made s saved is acts c on well_formed says memory
    store = (
      silent_there (setting_of t fs program p q image) made s saved is acts c on well_formed says
          memory
          store,
      λ known free. continues (setting_of t fs program p q image) made s saved is acts c on
          well_formed
          says memory
          store known free,
    )
