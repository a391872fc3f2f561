use Rattle.source_operations.proofs.Loads.{loaded_number}
use Rattle.source_operations.proofs.performing.load_number.Goals as goal

pub returns-in-Ok : goal.returns-in-Ok
returns-in-Ok g c =
    loaded_number c.args.width c.args.at c.in-Ok.number (g.S.CodeSpace.memory c.args.space.now)
    c.in-Ok.ensures.value c.in-Ok.ensures.fits
