use Rattle.std.proofs.Common.{[], ◌∷◌, ◌++◌, refl, sym, ap, subst, ◌∙◌}
use Rattle.std.specs.List.{AllByRecursion}
use Rattle.x64_encode.specs.Chosen.{IsEncodable}
use Rattle.x64_instr.specs.declared.instruction.Instr.TheVariants.{Return}
use Rattle.frame_rules.specs.Plan.{loads_then, pops_then, epilogue}
use Rattle.frame_rules.proofs.Bytes.{plans_are_encodable}
use Rattle.frame_layout.specs.Plans.{pushes_of, saves_of, plan_of}
use Rattle.frame_layout.proofs.Steps.{epilogue_is, all_encodable_are}
use Rattle.frame_layout.proofs.Planned.{frames_are_planned}
use Rattle.frame_layout.proofs.instructions.epilogue.Goals as goal

pub returns-clause-code : goal.returns-clause-code
returns-clause-code c = λ probe.
    let f = c.args.frame.now in
    c.push-2.ensures.items
    ∙ ap (λ t. t ++ (Return ∷ [])) (c.put_pops.ensures.items
    ∙ ap (λ t. t ++ pops_then (pushes_of f.pushes f.framed) []) (c.push.ensures.items
    ∙ ap (λ t. t ++ (c.opening.result ∷ [])) c.put_loads.ensures
    ∙ ap (λ i. loads_then (saves_of f.slots f.saves) [] ++ (i ∷ [])) (c.opening.ensures probe)))
    ∙ sym (epilogue_is f probe c.requires.some)

pub returns-clause-encodable : goal.returns-clause-encodable
returns-clause-encodable c =
    let f = c.args.frame.now in
    subst (AllByRecursion IsEncodable) (sym (returns-clause-code c 0))
    (all_encodable_are (epilogue (plan_of f 0))
    (plans_are_encodable (plan_of f 0) (frames_are_planned f 0 c.requires refl)).1)
