use Rattle.std.proofs.Common.{◌∙◌, ap, sym, Ok, Err, arith}
use Rattle.x64_memory.proofs.RestsOfPages.{load_here, load_all}
use Rattle.x64_memory.proofs.paged.load.Goals as goal

pub returns-then-not-is_readable-clause-value : goal.returns-then-not-is_readable-clause-value
returns-then-not-is_readable-clause-value g c = ap Err c.refusal-then-not-is_readable.ensures
    ∙ load_here (g.P.ReadPages.memory c.args.space.now) c.args.at c.args.width _ _
    c.rest_of_page.ensures (sym c.if-not-is_readable.ensures)

pub returns-clause-value : goal.returns-clause-value
returns-clause-value g c = ap Ok c.little_number.ensures
    ∙ load_all (g.P.ReadPages.memory c.args.space.now) c.args.at c.args.width _ _
    c.rest_of_page.ensures (omega arith) (sym c.if-not-is_readable.ensures)
