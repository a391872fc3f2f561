-- A program that doesn't call `walk` shows no event of a printed walk.
use Rattle.std.proofs.Common.{◌+◌, ◌*◌, List, [], ◌∷◌, ◌++◌, sym, subst, ◌∙◌, arith}
use Rattle.std.proofs.lemmas.Bool.{false≢true}
use Rattle.std.specs.List.{AllByRecursion}
use Rattle.seh_num.specs.declared.event.Event.{Event}
use Rattle.linear_machine.specs.BuiltInCalls.{IsNotAt}
use Rattle.linear_machine.proofs.WalkEvents.{walks_are_called}
use Rattle.lowering_follows.proofs.ProgramLowering.{lowered_follows}
use Rattle.image_states.proofs.FunctionNames.{called_is_named}
use Rattle.image_runs.specs.Words.{meaning, lowered}
use Rattle.image_runs.specs.WalkEvents.{MeaningsWalkByCalls}

front_has : (es more : List Event) → AllByRecursion IsNotAt (es ++ more) → AllByRecursion IsNotAt es
front_has [] more h = tt
front_has (e ∷ es) more h = (h.0, front_has es more h.1)

pub meanings_walk_by_calls : MeaningsWalkByCalls
meanings_walk_by_calls program sound without arg n =
    let turns = 16 * n + 6 in
    let front = (lowered_follows program sound arg n turns (omega arith)).0 in
    front_has (meaning program arg n).events front.0
    (subst (AllByRecursion IsNotAt) (sym front.1)
    (walks_are_called (lowered program) arg turns
    (λ c. false≢true (sym without ∙ called_is_named (lowered program) c))))
