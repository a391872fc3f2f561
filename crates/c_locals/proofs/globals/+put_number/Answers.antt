use Rattle.std.proofs.Common.{◌∙◌, ◌++◌, ◌-◌, ◌/◌, ap}
use Rattle.std.proofs.lemmas.Result.{on_ok_weaker}
use Rattle.c_locals.proofs.Bytes.{number_step}
use Rattle.c_locals.proofs.globals.+put_number.Goals as goal
use Rattle.c_locals.specs.Words.{bytes_of_number}

pub returns : goal.returns
returns t c =
    on_ok_weaker c.put_number.result
    (λ h. h ∙ ap (λ k. k ++ bytes_of_number (c.args.count - 1) (c.args.value / 256))
    c.in_ok-push.ensures.items ∙ number_step c.args.bytes.now.items c.args.count c.args.value
    c.if-count-eq0.false) c.put_number.ensures
