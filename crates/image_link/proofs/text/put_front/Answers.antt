use Rattle.std.proofs.Common.{map}
use Rattle.template_code.specs.Probing.{check_stack}
use Rattle.image_link.specs.Words.{service_thunk}
use Rattle.image_link.proofs.Lemmas.{on_ok, spelled_both}
use Rattle.image_link.proofs.text.put_front.Goals as goal

pub returns : goal.returns
returns c =
    on_ok _ _ c.put_check_stack.result
    (λ e. spelled_both c.args.code.now.items c.put_thunks.new.code.items
    c.put_check_stack.new.code.items
    (map (service_thunk c.args.imports.now c.args.text c.args.rdata) c.args.imports.now)
    check_stack c.in_ok-put_thunks.ensures e) c.put_check_stack.ensures
