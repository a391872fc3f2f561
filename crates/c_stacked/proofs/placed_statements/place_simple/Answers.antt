use Rattle.std.proofs.Common.{◌∙◌, sym, ap}
use Rattle.c_checked.specs.Statement.{statement}
use Rattle.c_stacked.specs.Views.{layout}
use Rattle.c_stacked.proofs.PlacedStatements.{declare_placed, evaluate_placed, return_placed}
use Rattle.c_stacked.proofs.placed_statements.place_simple.Goals as goal
use Rattle.c_stacked.proofs.placed_statements.place_simple.Goals.{in-Declare, in-Evaluate, in-Return}

pub returns : goal.returns
returns c =
    let l = layout c.args.places.now in
    let s = c.args.stmt.now in
    let was = sym c.replace-taken.ensures.value in
    elim c.match-taken.branch [
      | in-Declare w ↦ ap statement w.t-10-is
          ∙ declare_placed l _ _ s (was ∙ w.in-Declare.is) w.place_declared.ensures
      | in-Evaluate w ↦ ap statement w.t-10-is
          ∙ evaluate_placed l _ _ s (was ∙ w.in-Evaluate.is) w.place_optional.ensures
      | in-Return w ↦ ap statement w.t-10-is
          ∙ return_placed l _ _ s (was ∙ w.in-Return.is) w.place_optional-in-Return.ensures
    ]
