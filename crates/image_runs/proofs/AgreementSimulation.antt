-- The machine keeps representing where linear code is, in all locals that have been set.
use Rattle.std.proofs.Common.{◌≡◌, ℕ, zero, ◌+◌, false, length, Some, refl, inl, inr, sym, ap, subst, ◌∙◌, arith}
use Rattle.std.specs.Prelude.{List}
use Rattle.image_runs.specs.Words.{State, Functions, Funclet, Program, IsSound, Temporary, Instruction, LinearProgram, Frame, Configuration, body_of, act, instruction_in, instruction_at, exec, ImagePlan, lowered, HasRule, is_separator, Moves, IsMatched, IsTakenIf, IsTaken, StepIsMatched, IsReady, CanContinue, ReadsNoUnset, AgreeOnSet, StepsAgree, Sites, turns_left, RepresentsAt, IsKnown, KnownNext, turns_per_step, IsWithinBody, Represents, WorksOn, IsSoundImage, RepresentsWhereSet, AgreementSimulates}
use Rattle.linear_code.specs.declared.instruction.Instruction.TheVariants as instructions
use Rattle.image_runs.proofs.Lemmas.{agreement_continues}
use Rattle.match_bodies.proofs.Steps.BodySteps.{within_body, separators_are_matched}
use Rattle.match_turns.proofs.Calls.CallSteps.{calls_begin}
use Rattle.match_turns.proofs.FinallyBlocks.FinallyCallSteps.{block_calls_are_matched}
use Rattle.match_turns.proofs.Operations.OperationSteps.{operations, retries}
use Rattle.match_turns.proofs.Services.ServiceSteps.{information_is_matched, puts_are_matched, protects_are_matched, walks_are_matched, adds_are_matched, removes_are_matched}
use Rattle.match_turns.proofs.Raises.RaiseCall.{raises_are_matched}
use Rattle.match_turns.proofs.FinallyBlocks.LocalUnwindCall.{local_unwinds_are_matched}
use Rattle.match_turns.proofs.Dispatches.DispatchOutcomeSteps.{matched_there}
use Rattle.c_operations.specs.declared.built_in.BuiltIn.{BuiltIn}
use Rattle.c_operations.specs.declared.built_in.BuiltIn.TheVariants.{Put, Protect, RaiseException, Walk, AddVectored, RemoveVectored}
use Rattle.lowering_invariants.proofs.Moves.{Turn}
use Rattle.lowering_locals.specs.Marks.{arguments_passed}
use Rattle.image_runs.specs.StepMatches.{StepMatches, MatchesOrAsks}
use Rattle.image_runs.proofs.AgreementFacts.{known, known_next}
use Rattle.image_runs.proofs.AgreementSteps.{carried, carried_there}
use Rattle.image_runs.proofs.FirstSeparators.{first_separators_weigh}
use Rattle.image_runs.proofs.AgreementCalls.{called}
use Rattle.image_runs.proofs.AgreementAsks.{carried_or_asks}
use Rattle.image_runs.proofs.AgreementReturns.{asking, returned}
use Rattle.image_runs.proofs.AskedFunctions.{Ok, operations_ask, raises_ask}
use Rattle.image_runs.proofs.LiveStates.{live}

same_instruction : (i j : Instruction) → Some i ≡ Some j → i ≡ j
same_instruction i j e = cc

-- ---- at an actual configuration, by what is known of it

module _ (t : Functions) (fs : List Funclet) (program : LinearProgram) (p : ImagePlan) (q : Sites)
    (image : IsSoundImage t fs program p q) (s : State) (d : Configuration)
    (b : RepresentsAt t fs program p q s d) (known : IsKnown program d) where
  abbrev Matches : Instruction → Type 0
  Matches i = StepMatches t fs program p q s d i

  abbrev At : Instruction → Type 0
  At i = instruction_at program d ≡ Some i

  abbrev Ruled : Instruction → Type 0
  Ruled i = HasRule (act program i (exec program zero) d)

  -- from the beginning of an instruction to that of the next one
  to_next : (i : Instruction)
      → IsMatched t fs program turns_per_step turns_left (RepresentsAt t fs program p q) s d i
      → Matches i
  to_next i m = matched_there t fs program p q turns_per_step s d i m

  -- a step within one body
  plainly : (i : Instruction) → At i → Ruled i → IsWithinBody program d i → Matches i
  plainly i at rule is_plain =
      to_next i (inl (within_body t fs program p q image.image image.made s d i b known at is_plain
      rule))

  -- a call of RaiseException
  raised : (first : ℕ) → At (instructions.CallBuiltIn RaiseException first)
      → Ruled (instructions.CallBuiltIn RaiseException first)
      → KnownNext program d (instructions.CallBuiltIn RaiseException first)
      → MatchesOrAsks t fs program p q s d (instructions.CallBuiltIn RaiseException first)
  raised first at rule next =
      asking t fs program p q s d known (instructions.CallBuiltIn RaiseException first)
      (raises_ask program d known.stacked first)
      (raises_are_matched t fs program p q image.image image.made image.flags s d first b known at
      rule next)

  served : (i : Instruction)
      → Moves t fs program turns_per_step turns_left (RepresentsAt t fs program p q) s d i
      → MatchesOrAsks t fs program p q s d i
  served i v = inl (to_next i (inl v))

  -- a call of a service
  called_built_in : (f : BuiltIn) (first : ℕ) → At (instructions.CallBuiltIn f first)
      → Ruled (instructions.CallBuiltIn f first)
      → KnownNext program d (instructions.CallBuiltIn f first)
      → MatchesOrAsks t fs program p q s d (instructions.CallBuiltIn f first)
  called_built_in Put first at rule next = served (instructions.CallBuiltIn Put first)
      (puts_are_matched t fs program p q image.image image.made s d first b known at)
  called_built_in Protect first at rule next = served (instructions.CallBuiltIn Protect first)
      (protects_are_matched t fs program p q image.image image.made s d first b known at)
  called_built_in Walk first at rule next = served (instructions.CallBuiltIn Walk first)
      (walks_are_matched t fs program p q image.image image.made s d first b known at)
  called_built_in (AddVectored f) first at rule next =
      served (instructions.CallBuiltIn (AddVectored f) first)
      (adds_are_matched t fs program p q image.image image.made s d f first b known at)
  called_built_in (RemoveVectored f) first at rule next =
      served (instructions.CallBuiltIn (RemoveVectored f) first)
      (removes_are_matched t fs program p q image.image image.made s d f first b known at)
  called_built_in RaiseException first at rule next = raised first at rule next

  -- the temporaries of a call are its arguments
  arguments_held : (f first count : ℕ) → At (instructions.Call f first count)
      → length d.frame.temporaries ≡ first + count
  arguments_held f first count at = by known.continues
    where
      by : CanContinue program d → length d.frame.temporaries ≡ first + count
      by k = (subst (IsReady program d) (same_instruction k.instruction
          (instructions.Call f first count) (sym k.at ∙ at)) k.ready).0

module _ (program : Program) (sound : IsSound program) (reads : ReadsNoUnset (lowered program))
    (t : Functions) (fs : List Funclet) (p : ImagePlan) (q : Sites)
    (image : IsSoundImage t fs (lowered program) p q) (s : State) (c d : Configuration)
    (agreement : AgreeOnSet (lowered program) c d) where
  abbrev linear : LinearProgram
  linear = lowered program

  abbrev Goal : Instruction → Type 0
  Goal i = IsTaken t fs linear turns_per_step turns_left (RepresentsWhereSet t fs linear p q) s c i

  actual : IsKnown linear d
  actual = known program sound reads c d agreement

  -- the actual configuration is at the same instruction, and does the same
  at_actual : (i : Instruction) → instruction_at linear c ≡ Some i
      → instruction_at linear d ≡ Some i
  at_actual i at = ap (λ (f : Frame). instruction_in (body_of linear f.body) f.next)
      agreement.alike.frame ∙ at

  on_actual : (i : Instruction) → instruction_at linear d ≡ Some i → StepsAgree linear i c d
  on_actual i at = agreement_continues linear reads c d agreement i at

  back : (i : Instruction) → is_separator i ≡ false → instruction_at linear d ≡ Some i
      → StepMatches t fs linear p q s d i → Goal i
  back i plain at m = subst (λ x. IsTakenIf t fs linear turns_per_step turns_left x
      (RepresentsWhereSet t fs linear p q) s c i) (sym plain)
      (inl (carried t fs linear p q c d agreement s i (on_actual i at) turns_per_step m))

  -- a step that may ask a vectored handler
  back_or_asks : (i : Instruction) → is_separator i ≡ false → arguments_passed i ≡ 2
      → instruction_at linear d ≡ Some i → MatchesOrAsks t fs linear p q s d i → Goal i
  back_or_asks i plain two at m =
      subst (λ x. IsTakenIf t fs linear turns_per_step turns_left x
      (RepresentsWhereSet t fs linear p q) s c i) (sym plain)
      (carried_or_asks t fs linear p q image.made.whole reads c d agreement s i at two
      (on_actual i at) m)

  separated : RepresentsAt t fs linear p q s d
      → instruction_at linear d ≡ Some instructions.Separator → Goal instructions.Separator
  separated b at = (
    omega arith,
    carried_there t fs linear p q c d agreement s instructions.Separator
        (on_actual instructions.Separator at) 1
        (separators_are_matched t fs linear p q image.image image.made s d b actual at),
  )

  -- at the beginning of an instruction
  begun : RepresentsAt t fs linear p q s d → (i : Instruction) → instruction_at linear d ≡ Some i
      → HasRule (act linear i (exec linear zero) d) → KnownNext linear d i → Goal i
  begun b (instructions.Compute to o first second) at rule next =
      back_or_asks (instructions.Compute to o first second) refl refl at
      (asking t fs linear p q s d actual (instructions.Compute to o first second)
      (operations_ask linear d actual.stacked to o first second)
      (operations t fs linear p q image.image image.made image.flags s d to o first second (inl b)
      actual at rule next))
  begun b (instructions.Information to field) at rule next =
      back (instructions.Information to field) refl at
      (to_next t fs linear p q image s d b actual (instructions.Information to field)
      (inl (information_is_matched t fs linear p q image.image image.made image.informs s d to field
      b actual at)))
  begun b (instructions.Jump label) at rule next = back (instructions.Jump label) refl at
      (plainly t fs linear p q image s d b actual (instructions.Jump label) at rule tt)
  begun b (instructions.JumpIfZero slot label) at rule next =
      back (instructions.JumpIfZero slot label) refl at
      (plainly t fs linear p q image s d b actual (instructions.JumpIfZero slot label) at rule tt)
  begun b (instructions.Call f first count) at rule next =
      called t fs linear p q c d agreement s f first count at
      (arguments_held t fs linear p q image s d b actual f first count at)
      (first_separators_weigh program f)
      (on_actual (instructions.Call f first count) at)
      (calls_begin t fs linear p q image.image image.made image.apart s d f first count b actual at)
  begun b (instructions.CallBuiltIn f first) at rule next =
      back_or_asks (instructions.CallBuiltIn f first) refl refl at
      (called_built_in t fs linear p q image s d b actual f first at rule next)
  begun b (instructions.CallFinally k) at rule next =
      back (instructions.CallFinally k) refl at
      (to_next t fs linear p q image s d b actual (instructions.CallFinally k)
      (block_calls_are_matched t fs linear p q image.image image.made image.flags image.separators
      s d k b actual at next))
  begun b (instructions.LocalUnwind label) at rule next =
      back (instructions.LocalUnwind label) refl at
      (local_unwinds_are_matched t fs linear p q image.image image.made image.followed image.inside
      image.flags s d label b actual at rule next)
  begun b (instructions.Landing to) at rule next = back (instructions.Landing to) refl at
      (plainly t fs linear p q image s d b actual (instructions.Landing to) at rule tt)
  begun b instructions.Separator at rule next = separated b at
  begun b (instructions.Return from) at rule next =
      back_or_asks (instructions.Return from) refl refl at
      (returned t fs linear p q s d actual image b from at rule next)

  step : Represents t fs linear p q s d → StepIsMatched t fs linear turns_per_step turns_left
      (RepresentsWhereSet t fs linear p q) s c
  step r i at rule = by r
    where
      there : instruction_at linear d ≡ Some i
      there = at_actual i at

      ruled : HasRule (act linear i (exec linear zero) d)
      ruled = subst HasRule (sym (on_actual i there).seen) rule

      -- what is made again is an operation
      again : WorksOn t fs linear p q s d → Instruction
      again w = instructions.Compute w.again.to w.again.operation (Temporary w.again.first)
          (Temporary w.again.second)

      same : (w : WorksOn t fs linear p q s d) → again w ≡ i
      same w = same_instruction (again w) i (sym w.again.works ∙ there)

      asks : (w : WorksOn t fs linear p q s d) → Turn (Ok linear i d) (λ next. act linear i next d)
      asks w = subst (λ j. Turn (Ok linear j d) (λ next. act linear j next d)) (same w)
          (operations_ask linear d actual.stacked w.again.to w.again.operation
          (Temporary w.again.first) (Temporary w.again.second))

      by : Represents t fs linear p q s d → Goal i
      by (inl b) = begun b i there ruled (known_next program sound reads c d agreement i there)
      by (inr w) = back_or_asks i (ap is_separator (sym (same w)))
          (ap arguments_passed (sym (same w))) there
          (asking t fs linear p q s d actual i (asks w)
          (retries t fs linear p q image.image image.made image.flags s d i w actual there ruled
          (known_next program sound reads c d agreement i there)))

pub agreement_simulates : AgreementSimulates
agreement_simulates t fs program p q sound reads image = record {
  live = λ s c r. live t fs (lowered program) p q image.image s r.actual r.is_there;
  steps = λ n s c r. step program sound reads t fs p q image s c r.actual r.agreement r.is_there;
}
