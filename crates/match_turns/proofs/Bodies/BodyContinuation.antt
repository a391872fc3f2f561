-- A body continues wherever an exception of it is continued: after its call, or at the same
-- operation.
use Rattle.std.proofs.Common.{ℕ, List, inl}
use Rattle.match_turns.specs.Words.{State, Functions, Funclet, LinearProgram, AfterCall, SameOperation, Configuration, ImagePlan, LeadsTo, Sites, BodiesContinue}
use Rattle.match_bodies.specs.Bodies.{RepresentsAt}
use Rattle.match_turns.specs.DispatchOutcome.{Represents}
use Rattle.match_turns.proofs.Operations.OperationSteps.{continuations}
use Rattle.match_turns.proofs.Raises.RaiseContinuation.{continuations_after_calls}

begun_represents : (t : Functions) (fs : List Funclet) (program : LinearProgram) (p : ImagePlan)
    (q : Sites) (most : ℕ) (s : State) (c : Configuration)
    → LeadsTo t fs most (RepresentsAt t fs program p q) s c
    → LeadsTo t fs most (Represents t fs program p q) s c
begun_represents t fs program p q most s c l =
    record {
      turns = l.turns;
      few = l.few;
      state = l.state;
      comes = l.comes;
      is_there = inl l.is_there;
    }

pub bodies_continue : BodiesContinue
bodies_continue t fs program p q image made s saved is acts AfterCall c on well_formed says memory
    store =
    let x = continuations_after_calls t fs program p q image made s saved is acts c on well_formed
    says
    memory store in
    (x.0, λ known free. begun_represents t fs program p q _ _ _ (x.1 known free))
bodies_continue t fs program p q image made s saved is acts SameOperation c on well_formed says
    memory
    store =
    let x = continuations t fs program p q image made s saved is acts c on well_formed says memory
    store in
    (x.0, λ known free. x.1)
