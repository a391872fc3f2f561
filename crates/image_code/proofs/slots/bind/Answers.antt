use Rattle.std.proofs.Common.{◌<◌, ◌∙◌, get_or, refl, ap, sym, w64, rules}
use Rattle.std.specs.Int.{to_le_bytes}
use Rattle.flat_memory.proofs.Stores.{with_number-zero}
use Rattle.host_layout.specs.Services.{address_of}
use Rattle.image_code.specs.Code.{laid_over}
use Rattle.image_code.proofs.BoundBytes.{over_more, digit}
use Rattle.image_code.proofs.slots.bind.Goals as goal

pub loop-n-init : goal.loop-n-init
loop-n-init c byte = sym (with_number-zero (laid_over c.args.bytes.now byte) 0 c.args.slot
    (address_of c.args.service) refl)

pub loop-n-preserved : goal.loop-n-preserved
loop-n-preserved c =
    let n = c.loop-n.n in
    let v = address_of c.args.service in
    let bytes = c.to_le_bytes-address.ensures ∙ ap (to_le_bytes w64) c.address.ensures in
    let small : n < 8 = search rules in
    let byte = ap (λ xs. get_or xs n 0) bytes ∙ digit n v small in
    over_more c.args.bytes.now c.loop-n.bytes c.insert.new.self n c.args.slot v _ c.ranges.slot.fits
    small byte c.in_ok-insert.ensures.updates.0 c.loop-n.invariant
