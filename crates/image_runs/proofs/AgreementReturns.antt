-- A return of a body: to what waits below it, or where a search waits, it may ask the next vectored
-- handler.
use Rattle.std.proofs.Common.{◌≡◌, ℕ, zero, Option, Some, None, List, ◌++◌, refl, inl, inr}
use Rattle.std.specs.Prelude.{slice_get}
use Rattle.linear_code.specs.declared.instruction.Instruction.TheVariants as instructions
use Rattle.linear_code.specs.declared.program.FuncletKind.{FuncletKind}
use Rattle.linear_code.specs.declared.program.FuncletKind.TheVariants as funclets
use Rattle.match_turns.specs.AskOutcome.{IsMatchedOrAsks}
use Rattle.match_bodies.specs.Setting.{setting_of}
use Rattle.image_runs.specs.StepMatches.{MatchesOrAsks}
use Rattle.image_runs.specs.SoundImages.{IsSoundImage}
use Rattle.image_runs.specs.Words.{State, Functions, Funclet, Slot, Instruction, LinearProgram, LinearFunclet, weight, BodyName, FunctionBody, FuncletBody, Configuration, act, instruction_at, exec, ImagePlan, Sites, HasRule, RepresentsAt, IsKnown, KnownNext}
use Rattle.lowering_invariants.proofs.Moves.{Turn}
use Rattle.match_turns.proofs.Calls.CallSteps.{returns_are_matched}
use Rattle.match_turns.proofs.Funclets.FuncletReturnSteps.{funclet_returns_are_matched}
use Rattle.match_turns.proofs.Bodies.BodyContinuation.{bodies_continue}
use Rattle.image_runs.proofs.AskedFunctions.{Ok, IsNoBlock, returns_ask, asked_at}
use Rattle.image_runs.proofs.BlockReturns.{block_is_matched}

-- ---- a body by its name

no_function : (name : BodyName) (f k : ℕ) → name ≡ FunctionBody f → name ≡ FuncletBody k → ⊥
no_function name f k e g = cc

-- a funclet is the one of its number
same_kind : (kinds : List LinearFunclet) (name : BodyName) (k j : ℕ) (g h : LinearFunclet)
    → name ≡ FuncletBody k → slice_get kinds k ≡ Some g → name ≡ FuncletBody j
    → slice_get kinds j ≡ Some h → g.kind ≡ funclets.Filter → h.kind ≡ funclets.Filter
same_kind kinds name k j g h e there f is kind = cc

module _ (t : Functions) (fs : List Funclet) (program : LinearProgram) (p : ImagePlan) (q : Sites)
    (s : State) (d : Configuration) (known : IsKnown program d) where
  -- a step that may ask one, by the handler that it asks
  pub asking : (i : Instruction) → Turn (Ok program i d) (λ next. act program i next d)
      → IsMatchedOrAsks t fs program p q s d i → MatchesOrAsks t fs program p q s d i
  asking i turn (inl m) = inl m
  asking i turn (inr v) = inr (
    v,
    asked_at program i d turn v.handler v.function v.arguments v.held v.below v.store
        (d.events ++ v.events) v.acts (weight v.function) v.weighs,
  )

  module _ (image : IsSoundImage t fs program p q) (b : RepresentsAt t fs program p q s d)
      (from : Slot) (at : instruction_at program d ≡ Some (instructions.Return from))
      (rule : HasRule (act program (instructions.Return from) (exec program zero) d))
      (next : KnownNext program d (instructions.Return from)) where
    abbrev i : Instruction
    i = instructions.Return from

    abbrev Goal : Type 0
    Goal = MatchesOrAsks t fs program p q s d i

    -- a function, or a filter
    by_asking : IsNoBlock program d known.stacked → IsMatchedOrAsks t fs program p q s d i → Goal
    by_asking no_block m = asking i (returns_ask program d known.stacked from no_block) m

    module _ (k : ℕ) (name : d.frame.body ≡ FuncletBody k) where
      any : IsMatchedOrAsks t fs program p q s d i
      any = funclet_returns_are_matched t fs program p q image.image image.made image.flags
          (bodies_continue t fs program p q image.image image.made) s d k from b known name at rule
          next

      by_kind : (g : LinearFunclet) → slice_get program.funclets k ≡ Some g → (kind : FuncletKind)
          → g.kind ≡ kind → Goal
      by_kind g there funclets.Filter kind = by_asking (λ j h e is. same_kind program.funclets
          d.frame.body k j g h name there e is kind) any
      by_kind g there (funclets.Finally flag) kind =
          inl (block_is_matched (setting_of t fs program p q image.image) image.made image.flags s d
          k from b known name at rule next g there flag kind)

      by_funclet : (o : Option LinearFunclet) → slice_get program.funclets k ≡ o → Goal
      by_funclet None there = by_asking (λ j h e is. absurd
          (nothing program.funclets d.frame.body k j h name there e is)) any
        where
          nothing : (kinds : List LinearFunclet) (name : BodyName) (k j : ℕ) (h : LinearFunclet)
              → name ≡ FuncletBody k → slice_get kinds k ≡ None → name ≡ FuncletBody j
              → slice_get kinds j ≡ Some h → ⊥
          nothing kinds name k j h e there f is = cc
      by_funclet (Some g) there = by_kind g there g.kind refl

    by_name : (name : BodyName) → d.frame.body ≡ name → Goal
    by_name (FunctionBody f) e = by_asking
        (λ j h g is. absurd (no_function d.frame.body f j e g))
        (returns_are_matched t fs program p q image.image image.made image.flags
        (bodies_continue t fs program p q image.image image.made) s d f from b known e at rule next)
    by_name (FuncletBody k) e = by_funclet k e (slice_get program.funclets k) refl

    pub returned : Goal
    returned = by_name d.frame.body refl
