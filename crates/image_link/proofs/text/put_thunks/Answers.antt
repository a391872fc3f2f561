use Rattle.std.proofs.Common.{◌+◌, [], ◌∷◌, get_or, map, drop}
use Rattle.host_layout.specs.declared.imported.ImportedService.TheVariants.{AddVectored}
use Rattle.image_link.specs.Words.{service_thunk}
use Rattle.image_link.proofs.Lemmas.{stepped}
use Rattle.image_link.proofs.Front.{thunks_next}
use Rattle.image_link.proofs.text.put_thunks.Goals as goal

pub loop-service-preserved : goal.loop-service-preserved
loop-service-preserved c =
    let ss = c.args.imports.now in
    let i = c.loop-service.service-index in
    let thunk = service_thunk ss c.args.text c.args.rdata in
    stepped c.loop-service.code.items c.put_service.new.code.items _
    (thunk (get_or ss i AddVectored) ∷ []) (map thunk (drop (i + 1) ss)) (map thunk (drop i ss))
    c.in_ok-put_service.ensures
    (thunks_next ss c.args.text c.args.rdata ss i AddVectored c.loop-service-test.true)
    c.loop-service.invariant
