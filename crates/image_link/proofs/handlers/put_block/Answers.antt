use Rattle.std.proofs.Common.{◌++◌, ◌∙◌}
use Rattle.template_code.specs.Handlers.{name_thunk}
use Rattle.image_link.specs.Words.{spelled, adding_code, removing_code, block_bytes}
use Rattle.image_link.proofs.Lemmas.{on_ok, spelled_both}
use Rattle.image_link.proofs.handlers.put_block.Goals as goal

pub returns : goal.returns
unfolding block_bytes
returns c =
    let imports = c.args.imports.now in
    let old = c.args.code.now.items in
    let name = name_thunk c.args.at c.args.function in
    let adding = adding_code imports c.args.rdata c.args.blocks c.args.at in
    let removing = removing_code imports c.args.rdata c.args.blocks c.args.at in
    on_ok _ _ c.put_removing.result
    (λ e. spelled_both old c.put_adding.new.code.items c.put_removing.new.code.items
    (name ++ adding) removing
    (spelled_both old c.put_name_thunk.new.code.items c.put_adding.new.code.items name adding
    (c.in_ok-put_name_thunk.ensures
    ∙ (λ j. old ++ spelled (name_thunk (c.from.ensures j) (c.from-2.ensures j))))
    c.in_ok-put_adding.ensures) e) c.put_removing.ensures
