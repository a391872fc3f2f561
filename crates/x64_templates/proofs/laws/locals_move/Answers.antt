use Rattle.x64_templates.proofs.Locals.{locals_are_fetched, locals_are_kept}
use Rattle.x64_templates.proofs.laws.locals_move.Goals as goal

pub returns : goal.returns
returns c = record {
  fetched = locals_are_fetched;
  kept = locals_are_kept;
}
