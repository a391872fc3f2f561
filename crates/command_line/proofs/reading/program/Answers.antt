use Rattle.std.proofs.Common.{◌∙◌, ap, ap₂}
use Rattle.std.proofs.lemmas.Result.{IfOk-weaker}
use Rattle.clap.specs.Words.{App, with_subcommand}
use Rattle.command_line.specs.Lines.{check_app, exec_app, run_app, meaning_app, selftest_app}
use Rattle.command_line.proofs.reading.program.Goals as goal

pub returns : goal.returns
returns c =
    let first = c.in_ok-compiling.ensures.shape c.new.ensures.local
    ∙ ap₂ with_subcommand c.bare.ensures (ap (λ (a : App). a.top) c.new.ensures.app) in
    let second = c.in_ok-showing.ensures.shape c.new-2.ensures.local
    ∙ ap₂ with_subcommand first (ap (λ (a : App). a.top) c.new-2.ensures.app) in
    let third = c.in_ok-checking.ensures ∙ ap (λ (a : App). with_subcommand a check_app.top)
    second in
    let fourth = c.in_ok-executing.ensures ∙ ap (λ (a : App). with_subcommand a exec_app.top)
    third in
    let fifth = c.in_ok-running.ensures ∙ ap (λ (a : App). with_subcommand a run_app.top) fourth in
    let sixth = c.in_ok-meaning.ensures ∙ ap (λ (a : App). with_subcommand a meaning_app.top)
    fifth in
    IfOk-weaker c.with_selftest.result _ _ (λ r h. h
    ∙ ap (λ (a : App). with_subcommand a selftest_app.top) sixth) c.with_selftest.ensures
