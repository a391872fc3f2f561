-- What a `for` does first.
use Rattle.std.proofs.Common.{◌≡◌, List, [], map, append-nil, None, sym, ap, ◌∙◌, subst}
use Rattle.std.specs.Prelude.{option_map}
use Rattle.c_checked.specs.Expression.{expression}
use Rattle.c_locals.specs.Words.{least_of, kept, SymbolTable, Scope, Beginning, FunctionState, Resolves, IsBeginning, declares, numbering, Environment, declare_all, names_only, resolve_for_initialiser, Base, Declaring, local}
use Rattle.c_locals.proofs.DeclarationLocals.{only_declared}
use Rattle.c_syntax.specs.declared.statement.Local.{Local as Local'}

pub declaring : (a : Environment) (base : Base) (ls slice : List Local') (was now : SymbolTable)
    (w w' : FunctionState) (b : Beginning)
    → was.block ≡ [] → slice ≡ ls → b.first ≡ None
    → Resolves was now w w' (map declares b.declared.items)
    (declare_all a base (map local slice) was.block (numbering w))
    → IsBeginning was now w w' b (resolve_for_initialiser a (Declaring base (map local ls))
    (numbering w))
declaring a base ls slice was now w w' b empty same none h =
    let m = declare_all a base (map local ls) [] (numbering w) in
    let made = map declares b.declared.items in
    let own : Resolves was now w w' made m = subst
    (λ (k : Scope). Resolves was now w w' made (declare_all a base (map local ls) k (numbering w)))
    empty
    (subst (λ k. Resolves was now w w' made
    (declare_all a base (map local k) was.block (numbering w))) same h) in
    record {
      declared = sym (only_declared b.declared.items) ∙ ap names_only own.done;
      first = ap (option_map expression) none;
      counts = own.counts;
      names = own.names;
      faults = own.faults ∙ ap (kept (least_of w.faults)) (sym (append-nil m.faults));
    }
