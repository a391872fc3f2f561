use Rattle.std.proofs.Common.{◌+◌, ◌-◌, Option, sym, ap, ◌∙◌, arith}
use Rattle.eh_tables.specs.Known.{counted}
use Rattle.eh_tables.specs.Words.{RuntimeFunction, parents}
use Rattle.eh_tables.proofs.KnownInfos.{rest_refused, rest_counted, chain_kept}
use Rattle.eh_tables.proofs.known.+chain_len.Goals as goal

pub returns-in_ok-insert-in-Ok-2-clause-len : goal.returns-in_ok-insert-in-Ok-2-clause-len
returns-in_ok-insert-in-Ok-2-clause-len t c =
    let some = c.if-room-eq0.false in
    rest_counted c.args.image.now c.args.index c.args.room (c.args.room - 1) c.in-Ok-2.rest
    c.in-Some.range c.in-Ok.info c.parent.result (omega arith)
    (sym c.in_ok-info.ensures.answer ∙ c.in-Ok.is) c.parent.ensures
    (sym c.in-Ok-2.is ∙ c.in_ok-rest.ensures.len)
    ∙ ap (λ (o : Option RuntimeFunction). counted (parents c.args.room c.args.image.now c.args.index
    o)) (sym c.in-Some.is)

pub returns-in-Err-2-clause-len : goal.returns-in-Err-2-clause-len
returns-in-Err-2-clause-len t c =
    let some = c.if-room-eq0.false in
    rest_refused c.args.image.now c.args.index c.args.room (c.args.room - 1) c.in-Some.range
    c.in-Ok.info c.parent.result c.in-Err-2.refusal (omega arith)
    (sym c.in_ok-info.ensures.answer ∙ c.in-Ok.is) c.parent.ensures
    (sym c.in-Err-2.is ∙ c.in_ok-rest.ensures.len)
    ∙ ap (λ (o : Option RuntimeFunction). counted (parents c.args.room c.args.image.now c.args.index
    o)) (sym c.in-Some.is)

pub returns-in_ok-insert-in-Ok-2-clause-known : goal.returns-in_ok-insert-in-Ok-2-clause-known
returns-in_ok-insert-in-Ok-2-clause-known t c =
    let some = c.if-room-eq0.false in
    let few = c.requires.few in
    chain_kept c.args.image.now c.chain_len.new.known c.insert.new.self c.args.index c.args.room
    (1 + c.in-Ok-2.rest) c.in-Some.range c.in_ok-insert-in-Ok-2.ensures.updates.0
    c.in_ok-rest.ensures.known (omega arith)
    (rest_counted c.args.image.now c.args.index c.args.room (c.args.room - 1) c.in-Ok-2.rest
    c.in-Some.range c.in-Ok.info c.parent.result (omega arith)
    (sym c.in_ok-info.ensures.answer ∙ c.in-Ok.is) c.parent.ensures
    (sym c.in-Ok-2.is ∙ c.in_ok-rest.ensures.len))
