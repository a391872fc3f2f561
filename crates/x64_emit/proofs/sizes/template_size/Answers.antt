use Rattle.std.proofs.Common.{sym, ap, ◌∙◌}
use Rattle.x64_emit.specs.Words.{Rax, Instruction, template_size}
use Rattle.x64_emit.proofs.TemplateSizes.{jump_if_zero_is, call_built_in_is, jump_is, separator_is}
use Rattle.x64_emit.proofs.sizes.template_size.Goals as goal

pub returns-in_ok-slot_size-in-JumpIfZero : goal.returns-in_ok-slot_size-in-JumpIfZero
returns-in_ok-slot_size-in-JumpIfZero c =
    jump_if_zero_is c.args.layout.now c.in-JumpIfZero.slot c.in-JumpIfZero.label
    c.in_ok-slot_size-in-JumpIfZero.field-0 (c.in_ok-slot_size-in-JumpIfZero.ensures.fetched Rax)
    ∙ sym (ap (λ (i : Instruction). template_size c.args.layout.now i) c.in-JumpIfZero.is)

pub returns-in-CallBuiltIn : goal.returns-in-CallBuiltIn
returns-in-CallBuiltIn c =
    call_built_in_is c.args.layout.now c.in-CallBuiltIn.function c.in-CallBuiltIn.first
    c.arguments_size.result c.word_size-kept.result c.arguments_size.ensures.value
    c.word_size-kept.ensures.value
    ∙ sym (ap (λ (i : Instruction). template_size c.args.layout.now i) c.in-CallBuiltIn.is)

pub returns-in-Jump : goal.returns-in-Jump
returns-in-Jump c = jump_is c.args.layout.now c.in-Jump.label
    ∙ sym (ap (λ (i : Instruction). template_size c.args.layout.now i) c.in-Jump.is)

pub returns-in-Separator : goal.returns-in-Separator
returns-in-Separator c = separator_is c.args.layout.now
    ∙ sym (ap (λ (i : Instruction). template_size c.args.layout.now i) c.in-Separator.is)
