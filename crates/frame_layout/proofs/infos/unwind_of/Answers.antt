use Rattle.std.proofs.Common.{refl, sym, subst, ◌∙◌, arith}
use Rattle.eh_tables.specs.declared.code.UnwindOperation.TheVariants.{Push}
use Rattle.eh_write.specs.Written.{CanBeWritten}
use Rattle.eh_write.specs.declared.unwind_info.UnwindInfo.{UnwindInfo}
use Rattle.eh_write.specs.declared.unwind_info.Trailer.TheVariants.{Nothing}
use Rattle.frame_rules.specs.Plan.{unwind_of}
use Rattle.frame_rules.specs.Bytes.{spell}
use Rattle.frame_layout.specs.Plans.{plan_of}
use Rattle.frame_layout.specs.Infos.{Describes}
use Rattle.frame_layout.proofs.Steps.{frame_registers}
use Rattle.frame_layout.proofs.Sizes.{offset_few}
use Rattle.frame_layout.proofs.Codes.{info_made, describes, can_be_written}
use Rattle.frame_layout.proofs.infos.unwind_of.Goals as goal

pub overflow_add-offset : goal.overflow_add-offset
overflow_add-offset c =
    let f = c.args.frame.now in
    let few = offset_few f c.as_slice-operation-items.result.now c.loop-operation.offset
    c.loop-operation.operation-index (Push 0) (frame_registers f c.requires)
    (c.as_slice-operation-items.ensures.value ∙ c.operations-operations.ensures.value 0)
    c.loop-operation-test.true c.loop-operation.invariant.left in
    let same = c.step_size-offset.ensures f refl in
    omega arith

pub returns-clause-value : goal.returns-clause-value
returns-clause-value c =
    let i = c.loop-operation.invariant in
    info_made c.args.frame.now c.loop-operation.offset _ _ c.loop-operation.codes
    c.as_slice-operation-items.result.now c.loop-operation.operation-index
    (c.as_slice-operation-items.ensures.value ∙ c.operations-operations.ensures.value 0)
    c.loop-operation-test.false i.codes i.left c.frame_register.ensures c.frame_distance.ensures

pub returns-clause-describes : goal.returns-clause-describes
returns-clause-describes c = λ probe. subst (λ (i : UnwindInfo). Describes i
    (unwind_of spell (plan_of c.args.frame.now probe))) (sym (returns-clause-value c))
    (describes c.args.frame.now probe)

pub returns-clause-written : goal.returns-clause-written
returns-clause-written c = subst CanBeWritten (sym (returns-clause-value c))
    (can_be_written c.args.frame.now Nothing c.requires (λ e. refl))
