use Rattle.std.proofs.Common.{◌≡◌, ◌-◌, List, Some, ap, ◌∙◌, subst, arith}
use Rattle.std.specs.Prelude.{get_or}
use Rattle.c_checked.specs.declared.function.Function.{Function}
use Rattle.c_meaning.proofs.FunctionNames.{function_named}
use Rattle.c_meaning.proofs.function_names.FunctionNamesNames.name.Goals as goal

pub returns-in-Some : goal.returns-in-Some
returns-in-Some c =
    let p = c.args.self.now.program.now in
    let q = c.in-Some.ensures.lookup in
    let f = c.in-Some.function.now in
    ap Some c.deref-in-Some.ensures.value
    ∙ function_named p.functions.items p.main p.globals.items c.args.number f (omega arith)
    (omega (arith, q.0))
    (subst (λ (fs : List Function). f ≡ get_or fs (c.args.number - 1) f) c.deref.ensures.value
    q.1)
