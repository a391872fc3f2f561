use Rattle.std.proofs.Common.{rules, false, ◌≡◌, ◌∙◌, ap₂, codes}
use Rattle.std.proofs.lemmas.Result.{IfOk-weaker}
use Rattle.clap.specs.Words.{rule_of, with_rule}
use Rattle.command_line.specs.Lines.{required_word}
use Rattle.command_line.proofs.Apps.{neither}
use Rattle.command_line.proofs.reading.selftest_command.Goals as goal

pub returns : goal.returns
returns c =
    let number_is : rule_of c.action.result ≡ required_word (codes "number") = search rules in
    let number_local : c.action.result.global ≡ false = search rules in
    record {
      app = IfOk-weaker c.arg.result _ _ (λ r h. h.shape (search rules)
          ∙ ap₂ with_rule c.new.ensures.app number_is) c.arg.ensures;
      local = IfOk-weaker c.arg.result _ _ (λ r h. h.globals
          ∙ neither _ _ c.new.ensures.local number_local) c.arg.ensures;
    }
