-- A funclet returns, by what waits below it.
use Rattle.std.proofs.Common.{◌≡◌, ℕ, zero, Option, Some, None, List, ◌∷◌, refl, subst, inl, []}
use Rattle.std.specs.Prelude.{slice_get}
use Rattle.match_turns.specs.Words.{State, Slot, LinearFunclet, FuncletBody, Item, Waits, Searches, Unwinds, Configuration, read, act, instruction_at, exec, FuncletIsAbove, IsAbove, HasRule, IsWellMade, IsKnown, KnownNext, turns_per_step, FlagsFit, Setting, setting_of, RepresentsAt, Continuations, VectoredAt, IsMatchedOrAsks, FilterOf}
use Rattle.linear_code.specs.declared.instruction.Instruction.TheVariants as instructions
use Rattle.match_turns.proofs.Lemmas.{counted_here, code_at, ready_here, askable_here}
use Rattle.match_turns.proofs.Funclets.FuncletSteps.{reads_some, returns_of_blocks_are_matched}
use Rattle.match_turns.proofs.Dispatches.DispatchOutcomeSteps.{matched_there}
use Rattle.match_turns.specs.EndLaws.{FuncletReturnsAreMatched}
use Rattle.match_turns.proofs.Funclets.FuncletReturn.{filter_returns, block_returns}

module _ (setting : Setting) (made : IsWellMade setting.program setting.plan)
    (fits : FlagsFit setting.program) (continues : Continuations setting) where
  open setting use {functions as t, funclets as fs, program, plan as p, sites as q, image}

  module _ (s : State) (c : Configuration) (k : ℕ) (from : Slot) (b : RepresentsAt setting s c)
      (known : IsKnown program c) (name : c.frame.body ≡ FuncletBody k)
      (at : instruction_at program c ≡ Some (instructions.Return from))
      (rule : HasRule (act program (instructions.Return from) (exec program zero) c))
      (after : KnownNext program c (instructions.Return from)) where
    abbrev Goal : Type 0
    Goal = IsMatchedOrAsks setting s c (instructions.Return from)

    value : (x : ℕ) × (read c from ≡ Some x)
    value = reads_some c from (ready_here setting made s c b known (instructions.Return from) at)

    module _ (g : LinearFunclet) (there : slice_get program.funclets k ≡ Some g) where
      by_list : (items : List Item) → c.below ≡ items
          → FuncletIsAbove t fs program p k c.frame (Some g) items → Goal
      by_list [] e h = absurd h
      by_list (Searches exception resumption (VectoredAt place) ∷ below) e h = absurd h
      by_list (Searches exception resumption (FilterOf asked rest) ∷ []) e h = absurd h
      by_list (Searches exception resumption (FilterOf asked rest) ∷ Searches x y z ∷ below) e h =
          absurd h
      by_list (Searches exception resumption (FilterOf asked rest) ∷ Unwinds x y ∷ below) e h =
          absurd h
      by_list (Searches exception resumption (FilterOf asked rest) ∷ Waits w ∷ below) e h =
          filter_returns setting made.room s c b (counted_here setting made c known) k name from
          (code_at setting made s c b known (instructions.Return from) at) value.0 value.1 g there
          rule after fits continues h.0 exception resumption asked rest w below e
          known.stacked.below (askable_here program c.store.vectored made.whole
          known.stacked.handlers)
      by_list (Unwinds rest target ∷ []) e h = absurd h
      by_list (Unwinds rest target ∷ Searches x y z ∷ below) e h = absurd h
      by_list (Unwinds rest target ∷ Unwinds x y ∷ below) e h = absurd h
      by_list (Unwinds rest target ∷ Waits f ∷ below) e h =
          inl (block_returns setting made.room s c b (counted_here setting made c known) k name from
          (code_at setting made s c b known (instructions.Return from) at) value.0 value.1 g there
          rule after fits h.0 h.1 rest target f below e known.stacked.below)
      by_list (Waits w ∷ below) e h =
          inl (matched_there t fs program p q turns_per_step s c (instructions.Return from)
          (inl (returns_of_blocks_are_matched t fs program p q image made s c from b known at
          (record {
            number = k;
            name = name;
            funclet = g;
            there = there;
            flag = h.0;
            kind = h.1;
            body = w;
            items = below;
            below = e;
          }))))

    by_funclet : (o : Option LinearFunclet) → slice_get program.funclets k ≡ o
        → FuncletIsAbove t fs program p k c.frame o c.below → Goal
    by_funclet None there h = absurd h
    by_funclet (Some g) there h = by_list g there c.below refl h

    pub returned : Goal
    returned = by_funclet (slice_get program.funclets k) refl
        (subst (λ x. IsAbove t fs program p c.frame x c.below) name b.body.above)

pub funclet_returns_are_matched : FuncletReturnsAreMatched
funclet_returns_are_matched t fs program p q image made fits continues s c k from b known name at
    rule after =
    returned (setting_of t fs program p q image) made fits continues s c k from b known name at rule
    after
