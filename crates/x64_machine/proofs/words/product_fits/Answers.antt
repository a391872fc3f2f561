use Rattle.std.proofs.Common.{◌∙◌, ap}
use Rattle.seh_num.specs.Division.{is_signed}
use Rattle.x64_machine.proofs.Signed.{product_through}
use Rattle.x64_machine.proofs.words.product_fits.Goals as goal

pub returns : goal.returns
returns c = c.is_signed.ensures ∙ ap (is_signed c.args.width)
    (product_through c.args.first c.args.second c.from.result c.from-2.result c.ranges.first
    c.ranges.second c.from.ensures c.from-2.ensures)
