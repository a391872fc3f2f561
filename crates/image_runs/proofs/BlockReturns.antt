-- A `__finally` block returns, to the body that has called it or to the unwinding that runs it: no
-- exception is raised there, and so no vectored handler is asked.
use Rattle.std.proofs.Common.{◌≡◌, ℕ, zero, Some, List, [], ◌∷◌, refl, sym, subst, ◌∙◌, inl}
use Rattle.std.specs.Prelude.{slice_get}
use Rattle.linear_code.specs.declared.instruction.Instruction.TheVariants as instructions
use Rattle.linear_code.specs.declared.program.FuncletKind.TheVariants as funclets
use Rattle.match_turns.specs.Words.{State, Slot, LinearFunclet, FuncletBody, Item, Waits, Searches, Unwinds, Configuration, read, act, instruction_at, exec, FuncletIsAbove, IsAbove, HasRule, IsMatched, turns_left, IsWellMade, IsKnown, KnownNext, turns_per_step, FlagsFit, Setting, RepresentsAt, Represents, VectoredAt, FilterOf}
use Rattle.match_bodies.proofs.Steps.StepNeeds.{counted_here, code_at, ready_here}
use Rattle.match_turns.proofs.Funclets.FuncletSteps.{reads_some, returns_of_blocks_are_matched}
use Rattle.match_turns.proofs.Dispatches.DispatchOutcomeSteps.{matched_there}
use Rattle.match_turns.proofs.Funclets.FuncletReturn.{block_returns}

module _ (setting : Setting) (made : IsWellMade setting.program setting.plan)
    (fits : FlagsFit setting.program) where
  open setting use {functions as t, funclets as fs, program, plan as p, sites as q, image}

  module _ (s : State) (c : Configuration) (k : ℕ) (from : Slot) (b : RepresentsAt setting s c)
      (known : IsKnown program c) (name : c.frame.body ≡ FuncletBody k)
      (at : instruction_at program c ≡ Some (instructions.Return from))
      (rule : HasRule (act program (instructions.Return from) (exec program zero) c))
      (after : KnownNext program c (instructions.Return from)) (g : LinearFunclet)
      (there : slice_get program.funclets k ≡ Some g) (flag : ℕ)
      (kind : g.kind ≡ funclets.Finally flag) where
    abbrev Goal : Type 0
    Goal = IsMatched t fs program turns_per_step turns_left (Represents setting) s c
        (instructions.Return from)

    value : (x : ℕ) × (read c from ≡ Some x)
    value = reads_some c from (ready_here setting made s c b known (instructions.Return from) at)

    no_filter : g.kind ≡ funclets.Filter → ⊥
    no_filter e = let z : funclets.Finally flag ≡ funclets.Filter = sym kind ∙ e in cc

    by_list : (items : List Item) → c.below ≡ items
        → FuncletIsAbove t fs program p k c.frame (Some g) items → Goal
    by_list [] e h = absurd h
    by_list (Searches exception resumption (VectoredAt place) ∷ below) e h = absurd h
    by_list (Searches exception resumption (FilterOf asked rest) ∷ []) e h = absurd h
    by_list (Searches exception resumption (FilterOf asked rest) ∷ Searches x y z ∷ below) e h =
        absurd h
    by_list (Searches exception resumption (FilterOf asked rest) ∷ Unwinds x y ∷ below) e h =
        absurd h
    by_list (Searches exception resumption (FilterOf asked rest) ∷ Waits w ∷ below) e h =
        absurd (no_filter h.0)
    by_list (Unwinds rest target ∷ []) e h = absurd h
    by_list (Unwinds rest target ∷ Searches x y z ∷ below) e h = absurd h
    by_list (Unwinds rest target ∷ Unwinds x y ∷ below) e h = absurd h
    by_list (Unwinds rest target ∷ Waits f ∷ below) e h =
        block_returns setting made.room s c b (counted_here setting made c known) k name from
        (code_at setting made s c b known (instructions.Return from) at) value.0 value.1 g there
        rule after fits h.0 h.1 rest target f below e known.stacked.below
    by_list (Waits w ∷ below) e h =
        matched_there t fs program p q turns_per_step s c (instructions.Return from)
        (inl (returns_of_blocks_are_matched t fs program p q image made s c from b known at
        (record {
          number = k;
          name = name;
          funclet = g;
          there = there;
          flag = h.0;
          kind = h.1;
          body = w;
          items = below;
          below = e;
        })))

    is_above : FuncletIsAbove t fs program p k c.frame (Some g) c.below
    is_above = subst (λ o. FuncletIsAbove t fs program p k c.frame o c.below) there
        (subst (λ x. IsAbove t fs program p c.frame x c.below) name b.body.above)

    pub block_is_matched : Goal
    block_is_matched = by_list c.below refl is_above
