use Rattle.std.proofs.Common.{◌≡◌, [], ◌∷◌, ◌++◌, sym, ap, subst, ◌∙◌}
use Rattle.std.specs.List.{AllByRecursion}
use Rattle.eh_tables.specs.declared.code.UnwindOperation.TheVariants.{Allocate}
use Rattle.frame_layout.specs.Plans.{IsStep}
use Rattle.frame_layout.proofs.Steps.{pushing, setting, saving, executed, parts_joined, operations_executed, executed_steps}
use Rattle.frame_layout.proofs.operations.operations.Goals as goal

are_executed : (c : goal.After-put_saves)
    → c.put_saves.new.operations.items ≡ executed c.args.frame.now
are_executed c =
    let f = c.args.frame.now in
    let saves = saving f.slots f.saves in
    c.put_saves.ensures
    ∙ ap (λ t. t ++ saves) (c.put_frame.ensures.items
    ∙ ap (λ t. t ++ setting f.framed) (c.push.ensures.items
    ∙ ap (λ t. t ++ (Allocate f.size ∷ [])) c.pushes-operations.ensures.value))
    ∙ parts_joined (pushing f.pushes f.framed) (setting f.framed) saves (Allocate f.size)

pub returns-clause-value : goal.returns-clause-value
returns-clause-value c = λ probe. are_executed c
    ∙ sym (operations_executed c.args.frame.now probe c.requires.some)

pub returns-clause-steps : goal.returns-clause-steps
returns-clause-steps c =
    let f = c.args.frame.now in
    subst (AllByRecursion (IsStep f.framed)) (sym (are_executed c)) (executed_steps f c.requires)
