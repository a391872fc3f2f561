use Rattle.std.proofs.Common.{rules, false, ◌≡◌, ◌∙◌, ap₂, codes}
use Rattle.std.proofs.lemmas.Result.{IfOk-weaker}
use Rattle.clap.specs.Words.{rule_of, with_rule}
use Rattle.command_line.specs.Lines.{number_option, flag}
use Rattle.command_line.proofs.Apps.{neither}
use Rattle.command_line.proofs.reading.run_command.Goals as goal

pub returns : goal.returns
returns c =
    let turns_is : rule_of c.action.result ≡ number_option (codes "turns") = search rules in
    let argument_is : rule_of c.action-2.result ≡ number_option (codes "arg") = search rules in
    let trace_is : rule_of c.action-3.result ≡ flag (codes "trace") = search rules in
    let turns_local : c.action.result.global ≡ false = search rules in
    let argument_local : c.action-2.result.global ≡ false = search rules in
    let trace_local : c.action-3.result.global ≡ false = search rules in
    record {
      app = IfOk-weaker c.arg-3.result _ _ (λ r h. h.shape (search rules)
          ∙ ap₂ with_rule (c.in_ok-arg-2.ensures.shape (search rules)
          ∙ ap₂ with_rule (c.in_ok-arg.ensures.shape (search rules)
          ∙ ap₂ with_rule c.new.ensures.app turns_is) argument_is) trace_is) c.arg-3.ensures;
      local = IfOk-weaker c.arg-3.result _ _ (λ r h. h.globals
          ∙ neither _ _ (c.in_ok-arg-2.ensures.globals
          ∙ neither _ _ (c.in_ok-arg.ensures.globals ∙ neither _ _ c.new.ensures.local turns_local)
          argument_local) trace_local) c.arg-3.ensures;
    }
