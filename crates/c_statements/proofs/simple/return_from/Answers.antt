use Rattle.std.proofs.Common.{[], ◌∷◌, refl, ap, ◌∙◌}
use Rattle.std.specs.Prelude.{option_map}
use Rattle.c_checked.specs.Statement as checked
use Rattle.c_statements.proofs.Lemmas.{kept_more}
use Rattle.c_statements.specs.Words.{least_of, environment, reach, jump, returned, expression}
use Rattle.c_resolved.specs.declared.fault.Fault.TheVariants.{JumpOutOfFinally}
use Rattle.c_statements.proofs.simple.return_from.Goals as goal

pub returns : goal.returns
returns c =
    let v = c.in_ok-value.ensures in
    let a = c.args in
    record {
      done = ap (λ s. s ∷ []) (c.return_of.ensures ∙ ap checked.Return v.value);
      counts = refl;
      block = refl;
      faults =
          kept_more (least_of a.state.now.faults) _ _
          (jump (reach a.env.now.function) JumpOutOfFinally a.at)
          (returned (environment a.env.now a.names.now.around) a.names.now.block a.at
          (option_map expression a.e.now)).faults c.jump.ensures v.faults;
    }
