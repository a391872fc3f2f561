use Rattle.std.proofs.Common.{sym, ap, ◌∙◌, subst}
use Rattle.c_check.proofs.FileInOrder.{function_named}
use Rattle.c_check.proofs.declarations.declare.Goals as goal
use Rattle.c_check.specs.Words.{with_block, IsFile, UserFunction, parameter_types, with_external_declaration, spelled, with_name, external_declaration}
use Rattle.c_locals.specs.declared.globals.File.{File}

pub returns-in_ok-name-in-Function : goal.returns-in_ok-name-in-Function
returns-in_ok-name-in-Function c =
    let before = c.args.file.now in
    let named = c.name.new.file in
    let after : File = record {
      names = named.names;
      bytes = named.bytes;
      functions = c.in_ok-count-in-Function.count;
      faults = named.faults;
    } in
    let t = c.in-Function.returns in
    let n = c.in-Function.n in
    let text = c.args.text.now in
    λ d h. subst (λ x. IsFile after (with_external_declaration text (external_declaration x) d))
    (sym c.in-Function.is)
    (function_named text t n c.in-Function.parameters.items before after
    (c.in_ok-name-in-Function.ensures.names ∙ ap
    (λ ps. with_block before.names (with_name before.names.block (spelled text n)
    (UserFunction before.functions t (parameter_types ps)))) c.deref-in-Function.ensures.value)
    (ap (λ b. b.items) c.in_ok-name-in-Function.ensures.bytes) c.in_ok-count-in-Function.ensures
    c.in_ok-name-in-Function.ensures.faults d h)
