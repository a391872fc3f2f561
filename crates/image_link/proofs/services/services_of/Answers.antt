use Rattle.std.proofs.Common.{◌∙◌}
use Rattle.image_link.specs.Words.{linear_program}
use Rattle.image_link.proofs.Front.{services_are}
use Rattle.image_link.proofs.Images.{if_ok}
use Rattle.image_link.proofs.services.services_of.Goals as goal

pub returns : goal.returns
returns c =
    let is = services_are (linear_program c.args.program.now) c.calls.result c.calls-2.result
    c.calls-3.result c.calls.ensures c.calls-2.ensures c.calls-3.ensures in
    if_ok _ _ c.services_if.result (λ v e. e ∙ is) c.services_if.ensures
