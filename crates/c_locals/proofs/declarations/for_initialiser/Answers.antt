use Rattle.std.proofs.Common.{None, refl, sym, subst}
use Rattle.c_locals.proofs.ForInitialisers.{declaring}
use Rattle.c_locals.proofs.declarations.for_initialiser.Goals as goal
use Rattle.c_locals.specs.Words.{Beginning, IsBeginning, environment, numbering, resolve_for_initialiser, first}

pub returns-in_ok-declared-in-Declaration : goal.returns-in_ok-declared-in-Declaration
returns-in_ok-declared-in-Declaration c =
    let a = environment c.args.env.now c.args.names.now.around in
    let d = c.in-Declaration.declaration in
    let w = c.args.state.now in
    let b : Beginning = record {
      declared = c.in_ok-declared-in-Declaration.declared;
      first = None;
    } in
    subst (λ f. IsBeginning c.args.names.now c.declare_each.new.names w c.declare_each.new.state b
    (resolve_for_initialiser a (first f) (numbering w))) (sym c.in-Declaration.is)
    (declaring a d.base d.locals.items c.deref.result.now c.args.names.now
    c.declare_each.new.names w c.declare_each.new.state b c.requires c.deref.ensures.value
    refl c.in_ok-declared-in-Declaration.ensures)
