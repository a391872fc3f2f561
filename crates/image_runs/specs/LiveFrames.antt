-- The frames that are live in a configuration of linear code: those of the body that runs and of
-- each that waits, innermost first.
--
-- The main definitions: `AreFrames`, `WalkGives`.
use Rattle.std.specs.Prelude.{◌≡◌, ℕ, ◌+◌, ◌≤◌, Bool, true, false, List, [], ◌∷◌, length, drop, Option, Some}
use Rattle.flat_memory.specs.Memory.{Memory}
use Rattle.x64_machine.specs.declared.context.Context.{Context}
use Rattle.x64_machine.specs.Contexts.{context_of}
use Rattle.x64_machine.specs.Effect.{State}
use Rattle.virtual_unwind.specs.Contexts.{get, rsp}
use Rattle.virtual_unwind.specs.CallerOf.{Functions}
use Rattle.seh_records.specs.declared.dispatch.DispatchRecord.{DispatchRecord}
use Rattle.seh_records.specs.Record.{fetched}
use Rattle.seh_walk.specs.Walk.{filter_return, finally_return, vectored_return}
use Rattle.host_model.specs.declared.funclet.Funclet.{Funclet}
use Rattle.linear_code.specs.Program.{LinearProgram}
use Rattle.linear_machine.specs.Frames as linear
use Rattle.linear_machine.specs.Frames.{BodyName, body_of, Asked, FilterOf, VectoredAt, Item, Waits, Searches, Unwinds, Configuration}
use Rattle.linear_machine.specs.Run.{instruction_in}
use Rattle.match_stack.specs.Stack.{IsAsTold}
use Rattle.match_stack.specs.PlainWalks.{state}
use Rattle.match_stack.specs.ImagePlan.{ImagePlan}
use Rattle.match_stack.specs.ItemMatches.{Activation, locals_of, activations_below, return_of, BodyWaits}
use Rattle.match_bodies.specs.ProgramImages.{frame_of}
use Rattle.match_bodies.specs.Bodies.{slots_end, last_temporary}
use Rattle.match_runs.specs.Walked.{LiveFrame, walked}

-- where what a search asks returns to in the host
abbrev pub answers_to : Asked → ℕ
answers_to (FilterOf h rest) = filter_return
answers_to (VectoredAt place) = vectored_return

module _ (t : Functions) (fs : List Funclet) (program : LinearProgram) (p : ImagePlan) where
  -- where a body returns to, by what is below it: the first one to 0, a called one past its call; a
  -- vectored handler, a filter or a block that the dispatcher called to the host's return address
  -- for it
  abbrev pub back_to : List Item → Option ℕ
  back_to [] = Some 0
  back_to (Waits w ∷ below) =
      return_of (p.layout w.body) (p.address w.body w.next)
      (instruction_in (body_of program w.body) w.next)
  back_to (Searches exception resumption asked ∷ below) = Some (answers_to asked)
  back_to (Unwinds rest target ∷ below) = Some finally_return

  -- a leaf function leaves the nonvolatile registers; what another body's codes tell of, above its
  -- slots, gives its caller's
  abbrev pub KeepsCaller : Memory → Context → BodyName → Bool → Context → Type 0
  KeepsCaller m c name true caller = drop 1 caller.kept ≡ drop 1 c.kept
  KeepsCaller m c name false caller =
      IsAsTold m c (frame_of p name caller.rip (drop 1 caller.kept))

  -- the frame of a body: RIP is in its code, its slots hold what linear code has in them, and above
  -- them are the registers of its caller that it saved, and its return address
  pub record IsFrameOf (m : Memory) (c : Context) (b : linear.Frame) (below : List Item)
      (acts : List Activation) (f : LiveFrame) : Type 0 where
    -- a walk finds the nonvolatile registers, in which locals of a body with a frame may stand
    pub now : ℕ → ℕ
    pub found : p.leaf b.body ≡ false → now ≡ get c
    pub waits : BodyWaits t fs program p m c now (slots_end (p.layout b.body) (p.leaf b.body))
        (last_temporary (p.layout b.body) b.body (p.leaf b.body)) b acts
    pub at : f.at ≡ rsp c
    pub back : back_to below ≡ Some f.caller.rip
    pub after : rsp f.caller ≡ rsp c + (p.layout b.body).frame + 8
    pub kept : KeepsCaller m c b.body (p.leaf b.body) f.caller

  -- a suspended search or unwinding: its record is at RSP, at the host's return address for it
  pub record IsRecordAt (m : Memory) (c : Context) (address : ℕ) (r : DispatchRecord) : Type 0 where
    pub here : c.rip ≡ address
    pub is : fetched m (rsp c) ≡ Some r

  -- the frames of a configuration's bodies, innermost first. RIP is in the body's code, its slots
  -- hold what linear code has in them, and it returns past its caller's call, to the host's return
  -- address of its record, or to 0. Past a search the list continues at the record's saved state,
  -- past an unwinding at the record's frame.
  abbrev pub AreFrames : Memory → Context → List Item → List Activation → List LiveFrame → Type 0
  AreFrames m c [] acts [] = (c.rip ≡ 0) × (acts ≡ [])
  AreFrames m c (Waits b ∷ below) acts (f ∷ frames) =
      IsFrameOf m c b below acts f × AreFrames m f.caller below
      (activations_below b.body acts) frames
  AreFrames m c (Searches exception resumption asked ∷ below) acts frames =
      (r : DispatchRecord) × IsRecordAt m c (answers_to asked) r
      × AreFrames m (context_of r.saved) below acts frames
  AreFrames m c (Unwinds rest target ∷ below) acts frames =
      (r : DispatchRecord) × IsRecordAt m c finally_return r × AreFrames m r.walk below acts frames
  AreFrames m c items acts frames = ⊥

  -- the walk from a state gives the frames that are live in a configuration, and then RIP 0
  pub record WalkGives (s : State) (c : Configuration) : Type 0 where
    pub acts : List Activation
    pub store : c.store.activations ≡ locals_of acts
    pub frames : List LiveFrame
    pub live : AreFrames s.memory (context_of s.cpu) (Waits c.frame ∷ c.below) acts frames
    pub walks : (n : ℕ) → length c.below + 3 ≤ n
        → walked n t s.memory (state (context_of s.cpu) 0) ≡ Some frames
