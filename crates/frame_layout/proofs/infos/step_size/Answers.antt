use Rattle.std.proofs.Common.{◌∙◌, ap, subst}
use Rattle.eh_tables.specs.declared.code.UnwindOperation.{UnwindOperation}
use Rattle.frame_rules.specs.Plan.{instructions_of}
use Rattle.frame_layout.specs.Plans.{plan_of, IsStep}
use Rattle.frame_layout.proofs.Sizes.{run, push_size, setting_size, saving_five, saving_eight}
use Rattle.frame_layout.proofs.infos.step_size.Goals as goal

pub returns-in-Push : goal.returns-in-Push
returns-in-Push c = λ f same.
    ap (λ (x : UnwindOperation). run (instructions_of (plan_of f 0) x)) c.in-Push.is
    ∙ push_size c.in-Push.register (subst (IsStep c.args.framed) c.in-Push.is c.requires)

pub returns-in-SetFrame : goal.returns-in-SetFrame
returns-in-SetFrame c = λ f same.
    ap (λ (x : UnwindOperation). run (instructions_of (plan_of f 0) x)) c.in-SetFrame.is
    ∙ setting_size f 0 (same ∙ subst (IsStep c.args.framed) c.in-SetFrame.is c.requires)

pub returns-then-offset-lt128 : goal.returns-then-offset-lt128
returns-then-offset-lt128 c = λ f same.
    ap (λ (x : UnwindOperation). run (instructions_of (plan_of f 0) x)) c.in-Save.is
    ∙ saving_five f 0 c.in-Save.register c.in-Save.offset c.if-offset-lt128.true

pub returns-else-offset-lt128 : goal.returns-else-offset-lt128
returns-else-offset-lt128 c = λ f same.
    ap (λ (x : UnwindOperation). run (instructions_of (plan_of f 0) x)) c.in-Save.is
    ∙ saving_eight f 0 c.in-Save.register c.in-Save.offset c.if-offset-lt128.false
    (subst (IsStep c.args.framed) c.in-Save.is c.requires).1
