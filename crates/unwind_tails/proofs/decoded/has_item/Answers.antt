use Rattle.std.proofs.Common.{sym, ap}
use Rattle.unwind_tails.specs.Instructions.{is_some}
use Rattle.unwind_tails.proofs.Decoding.{first_items}
use Rattle.unwind_tails.proofs.decoded.has_item.Goals as goal

pub returns-in-None : goal.returns-in-None
returns-in-None g c = sym (ap is_some c.in-None.ensures.none)

pub returns-in-Some : goal.returns-in-Some
returns-in-Some g c = sym (ap is_some (first_items (g.S.CodeSpace.memory c.args.space.now)
    c.args.end c.args.at c.in-Some.field-0 c.in-Some.ensures))
