-- The outcomes of turns, in the setting of the proofs: what DispatchOutcome, CallOutcome and
-- ExceptionContinuation say, of a setting's parts.
use Rattle.std.specs.Prelude.{ℕ, List}
use Rattle.seh_num.specs.declared.event.Event.{Event}
use Rattle.x64_machine.specs.Effect.{State}
use Rattle.host_model.specs.Turns.{Turn}
use Rattle.linear_machine.specs.Frames.{Configuration, Seen, Next}
use Rattle.match_bodies.specs.Setting.{Setting}
use Rattle.match_turns.specs.CallOutcome as calls
use Rattle.match_turns.specs.DispatchOutcome.{LiveCallers}
use Rattle.match_turns.specs.DispatchOutcome as outcomes
use Rattle.linear_code.specs.declared.instruction.Instruction.{Instruction}
use Rattle.match_turns.specs.AskOutcome as asks
use Rattle.match_turns.specs.ExceptionContinuation as continuations

module _ (setting : Setting) where
  open setting use {functions as t, funclets as fs, program, plan as p, sites as q}

  abbrev pub CallBegins : State → Configuration → (f first count : ℕ) → Type 0
  CallBegins = calls.CallBegins t fs program p q

  abbrev pub WorksOn : State → Configuration → Type 0
  WorksOn = outcomes.WorksOn t fs program p q

  abbrev pub Represents : State → Configuration → Type 0
  Represents = outcomes.Represents t fs program p q

  abbrev pub WalkContinues : LiveCallers → State → List Event → Type 0
  WalkContinues = outcomes.WalkContinues t fs program p q

  abbrev pub ContinuesAs : Turn → (Next → Seen) → List Event → ℕ → LiveCallers → Type 0
  ContinuesAs = outcomes.ContinuesAs t fs program p q

  abbrev pub EntersFunclet : Turn → (Next → Seen) → List Event → ℕ → LiveCallers → Type 0
  EntersFunclet = outcomes.EntersFunclet t fs program p q

  abbrev pub Outcome : Turn → (Next → Seen) → List Event → ℕ → LiveCallers → Type 0
  Outcome = outcomes.Outcome t fs program p q

  abbrev pub Shows : Turn → List Event → (Next → Seen) → List Event → ℕ → LiveCallers → Type 0
  Shows = outcomes.Shows t fs program p q

  abbrev pub ShowsOrAsks : Turn → List Event → (Next → Seen) → List Event → (left here : ℕ)
      → LiveCallers → Type 0
  ShowsOrAsks = asks.ShowsOrAsks t fs program p q

  abbrev pub EntersHandler : Turn → (Next → Seen) → List Event → (left here : ℕ) → LiveCallers
      → Type 0
  EntersHandler = asks.EntersHandler t fs program p q

  abbrev pub OutcomeOrAsks : Turn → (Next → Seen) → List Event → (left here : ℕ) → LiveCallers
      → Type 0
  OutcomeOrAsks = asks.OutcomeOrAsks t fs program p q

  abbrev pub IsTakenWithin : ℕ → State → Configuration → Instruction → Type 0
  IsTakenWithin = asks.IsTakenWithin t fs program p q

  abbrev pub IsMatchedOrAsks : State → Configuration → Instruction → Type 0
  IsMatchedOrAsks = asks.IsMatchedOrAsks t fs program p q

  abbrev pub Continuations : Type 0
  Continuations = continuations.Continuations t fs program p q
