use Rattle.std.proofs.Common.{◌++◌, drop, refl, sym, ap, subst, ◌∙◌, arith, append-nil, length, length-append}
use Rattle.std.proofs.lemmas.List.{drop_all}
use Rattle.std.specs.List.{flat_map, AllByRecursion}
use Rattle.x64_encode.specs.Chosen.{IsEncodable}
use Rattle.frame_rules.specs.Plan.{instructions_of}
use Rattle.frame_rules.specs.Bytes.{prologue_code}
use Rattle.frame_rules.proofs.Bytes.{plans_are_encodable}
use Rattle.frame_layout.specs.Plans.{plan_of}
use Rattle.frame_layout.proofs.Steps.{prologue_counted, step_added, all_encodable_are}
use Rattle.frame_layout.proofs.Planned.{frames_are_planned}
use Rattle.frame_layout.proofs.instructions.prologue.Goals as goal

pub loop-operation-init : goal.loop-operation-init
loop-operation-init c =
    let p = plan_of c.args.frame.now c.args.probe in
    let are = c.as_slice-operation-items.ensures.value
    ∙ c.operations-operations.ensures.value c.args.probe in
    λ i. c.new-instrs.ensures i ++ flat_map (instructions_of p) (are i)

pub put_step-requires-clause-room : goal.put_step-requires-clause-room
put_step-requires-clause-room c =
    let p = plan_of c.args.frame.now c.args.probe in
    let few = prologue_counted c.args.frame.now c.args.probe c.requires.frame in
    let l = ap length c.loop-operation.invariant in
    omega (
      arith,
      length-append c.loop-operation.instrs.items (flat_map (instructions_of p)
          (drop c.loop-operation.operation-index c.as_slice-operation-items.result.now)),
    )

pub loop-operation-preserved : goal.loop-operation-preserved
loop-operation-preserved c =
    let f = c.args.frame.now in
    step_added (instructions_of (plan_of f c.args.probe)) c.loop-operation.instrs.items
    c.put_step.new.instrs.items c.as_slice-operation-items.result.now
    c.loop-operation.operation-index _ c.loop-operation-test.true (c.put_step.ensures f refl)
    ∙ c.loop-operation.invariant

pub returns-clause-code : goal.returns-clause-code
returns-clause-code c =
    let p = plan_of c.args.frame.now c.args.probe in
    let instrs = c.loop-operation.instrs.items in
    sym (append-nil instrs)
    ∙ ap (λ t. instrs ++ flat_map (instructions_of p) t) (sym (drop_all
    c.loop-operation.operation-index c.as_slice-operation-items.result.now
    c.loop-operation-test.false))
    ∙ c.loop-operation.invariant

pub returns-clause-encodable : goal.returns-clause-encodable
returns-clause-encodable c =
    let f = c.args.frame.now in
    let p = plan_of f c.args.probe in
    subst (AllByRecursion IsEncodable) (sym (returns-clause-code c))
    (all_encodable_are (prologue_code p)
    (plans_are_encodable p (frames_are_planned f c.args.probe c.requires.frame c.requires.near)).0)
