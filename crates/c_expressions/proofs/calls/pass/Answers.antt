use Rattle.std.proofs.Common.{◌∙◌, ap, sym}
use Rattle.std.specs.Prelude.{option_map}
use Rattle.c_expressions.proofs.Passing.{missing_kept, fits_kept, unfit_kept}
use Rattle.c_expressions.proofs.calls.pass.Goals as goal
use Rattle.c_expressions.specs.Words.{least_of, kept, wanted, fault_at, TypeClash, expression, start, typed_node}
use Rattle.c_resolved.specs.Expressions as definitions

pub returns-in-None-clause-faults : goal.returns-in-None-clause-faults
returns-in-None-clause-faults c = λ first fs rest p.
    let w = wanted c.args.want in
    let at = start (expression c.args.e.now) in
    missing_kept first (least_of c.args.faults.now) w at fs rest p
    ∙ ap (λ o. kept first (definitions.pass w at fs (option_map typed_node o) rest).faults)
    (sym c.in-None.is)

pub returns-then-fits-clause-faults : goal.returns-then-fits-clause-faults
returns-then-fits-clause-faults c = λ first fs rest p.
    let w = wanted c.args.want in
    let at = start (expression c.args.e.now) in
    fits_kept first (least_of c.args.faults.now) w at fs (typed_node c.in-Some.a) rest
    (sym c.fits.ensures ∙ c.if-fits.true) p
    ∙ ap (λ o. kept first (definitions.pass w at fs (option_map typed_node o) rest).faults)
    (sym c.in-Some.is)

pub returns-else-fits-clause-faults : goal.returns-else-fits-clause-faults
returns-else-fits-clause-faults c = λ first fs rest p.
    let w = wanted c.args.want in
    let at = start (expression c.args.e.now) in
    unfit_kept first (least_of c.args.faults.now) (least_of c.add.new.self) w at fs
    (typed_node c.in-Some.a) rest (sym c.fits.ensures ∙ c.if-fits.false) p
    (c.add.ensures ∙ ap (λ k. kept (least_of c.args.faults.now) (fault_at k TypeClash))
    c.start.ensures)
    ∙ ap (λ o. kept first (definitions.pass w at fs (option_map typed_node o) rest).faults)
    (sym c.in-Some.is)
