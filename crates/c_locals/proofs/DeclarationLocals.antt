-- Locals of a declaration, one after another.
use Rattle.std.proofs.Common.{◌≡◌, ℕ, ◌+◌, ◌<◌, ◌≤◌, List, [], ◌∷◌, ◌++◌, map, length, drop, get_or, append-nil, Option, refl, sym, ap, ◌∙◌, subst, None}
use Rattle.std.proofs.lemmas.List.{drop_all, map-append}
use Rattle.std.specs.Prelude.{not, option_map}
use Rattle.c_locals.proofs.Lemmas.{next_of, kept_more}
use Rattle.c_locals.specs.Words.{Expr, declared, statement, layer, LeastFault, least_of, kept, SymbolTable, with_block, environment, FunctionState, Resolves, declares, MayEvaluate, numbering, Duplicate, TypeClash, Scope, spelled, Environment, Optional, ResolvedStatements, declare, declare_all, is_taken, names_only, unless_holds, with_name, is_scalar, size_of, Base, CType, local, local_entity, variable_of, elements_of, length_faults, local_value_in}
use Rattle.c_checked.specs.declared.statement.Declared.{Declared as Declared'}
use Rattle.c_checked.specs.declared.statement.Stmt.TheVariants as statements
use Rattle.c_checked.specs.declared.statement.Stmt.TheOpen as opened
use Rattle.c_checked.specs.declared.statement.Stmt.TheFolds.{fold-roll-Stmt}
use Rattle.c_checked.specs.Expression.{Expression, expression}
use Rattle.c_checked.specs.Statement as checked
use Rattle.c_locals.specs.declared.environment.Environment.{Environment as Environment'}
use Rattle.c_locals.proofs.WalkResults.{StillToMake, one_made}
use Rattle.c_syntax.specs.declared.statement.Local.{Local as Local'}

-- what is still to be declared from here
abbrev pub rest_of : Environment → Base → List Local' → Scope → FunctionState → ResolvedStatements
rest_of a base ls block w = declare_all a base (map local ls) block (numbering w)

abbrev pub StillToDeclare : Environment → Base → ResolvedStatements → FunctionState → List Declared'
    → List Local' → Scope → FunctionState → Type 0
StillToDeclare a base whole before made ls block w = StillToMake whole (least_of before.faults)
    (map declares made) (least_of w.faults) (rest_of a base ls block w)

pub one_declared : (e : Environment') (base : Base) (whole : ResolvedStatements)
    (start t t' : SymbolTable) (before w w' : FunctionState) (made made' : List Declared')
    (d : Declared')
    (ls : List Local') (i : ℕ) (l : Local')
    → i < length ls → l ≡ get_or ls i l → t ≡ with_block start t.block
    → Resolves t t' w w' (declares d ∷ [])
    (declare (environment e t.around) base (local l) t.block (numbering w)) → made' ≡ made ++ d ∷ []
    → StillToDeclare (environment e start.around) base whole before made (drop i ls) t.block w
    → (t' ≡ with_block start t'.block)
    × StillToDeclare (environment e start.around) base whole before made' (drop (i + 1) ls) t'.block
    w'
one_declared e base whole start t t' before w w' made made' d ls i l lt is same one0 more h =
    let a = environment e start.around in
    let one : Resolves t t' w w' (declares d ∷ [])
    (declare a base (local l) t.block (numbering w)) =
    subst (λ (k : SymbolTable). Resolves t t' w w' (declares d ∷ [])
    (declare (environment e k.around) base (local l) t.block (numbering w))) same one0 in
    let ends = drop (i + 1) ls in
    let now : StillToDeclare a base whole before made (l ∷ ends) t.block w = subst
    (λ k. StillToDeclare a base whole before made k t.block w) (next_of ls i l lt is) h in (
      one.names ∙ ap (λ (k : SymbolTable). with_block k
          (declare a base (local l) t.block (numbering w)).block) same
          ∙ ap (with_block start) (sym (ap (λ (k : SymbolTable). k.block) one.names)),
      subst (λ k. StillToMake whole (least_of before.faults) k (least_of w'.faults)
          (rest_of a base ends t'.block w')) (sym (ap (map declares) more
          ∙ map-append declares made (d ∷ [])))
          (one_made whole (declare a base (local l) t.block (numbering w))
          (declare_all a base (map local ends)) (least_of before.faults) (least_of w.faults)
          (least_of w'.faults) (map declares made) (declares d ∷ []) t'.block (numbering w')
          one.done one.counts (ap (λ (k : SymbolTable). k.block) one.names) one.faults now),
    )

pub all_declared : (a : Environment) (base : Base) (whole : ResolvedStatements)
    (start t : SymbolTable) (before w : FunctionState) (made : List Declared') (ls : List Local')
    (i : ℕ)
    → length ls ≤ i → t ≡ with_block start t.block
    → StillToDeclare a base whole before made (drop i ls) t.block w
    → Resolves start t before w (map declares made) whole
all_declared a base whole start t before w made ls i past same h =
    let now : StillToDeclare a base whole before made [] t.block w = subst
    (λ k. StillToDeclare a base whole before made k t.block w) (drop_all i ls past) h in
    record {
      done = sym (now.done ∙ append-nil (map declares made));
      counts = sym now.counts;
      names = same ∙ ap (with_block start) (sym now.block);
      faults = sym now.faults;
    }

-- the declared locals alone
pub only_declared : (ds : List Declared') → names_only (map declares ds) ≡ map declared ds
only_declared [] = refl
only_declared (d ∷ ds) = ap (λ k. declared d ∷ k) (only_declared ds)

-- ---- each as a statement

declare_is : (d : Declared') → statement (statements.Declare d) ≡ declares d
declare_is d = ap statement (sym (statements.rolls-Declare d))
    ∙ fold-roll-Stmt checked.Statement layer (opened.Declare d)

pub statements_are : (ds : List Declared') → map statement (map (λ d. statements.Declare d) ds)
    ≡ map declares ds
statements_are [] = refl
statements_are (d ∷ ds) = ap (λ s. s ∷ map statement (map (λ x. statements.Declare x) ds))
    (declare_is d) ∙ ap (λ k. declares d ∷ k) (statements_are ds)

-- what was made is the same in other terms
pub resolves_as : (was now : SymbolTable) (before after : FunctionState)
    (made made' : List checked.Statement) (r : ResolvedStatements) → made' ≡ made
    → Resolves was now before after made r → Resolves was now before after made' r
resolves_as was now before after made made' r is
    h = record { done = is ∙ h.done; counts = h.counts; names = h.names; faults = h.faults }

-- ---- one local

pub declared_local : (a : Environment') (base : Base) (l : Local') (w w' : FunctionState)
    (middle : LeastFault)
    (n : ℕ) (v : Option Expr) (t t' : SymbolTable)
    → (let of : CType = record { base = base; pointers = l.pointers } in
    let name = spelled a.text.now l.name in
    n ≡ length w.sizes.items
    → t' ≡ with_block t (with_name t.block name (local_entity n of l.length))
    → w'.sizes.items ≡ w.sizes.items ++ size_of of ∷ []
    → w'.variables.items ≡ w.variables.items ++ variable_of of (elements_of l.length) ∷ []
    → w'.number ≡ w.number
    → least_of middle ≡ kept (least_of w.faults)
    (unless_holds (not (is_taken t.block name)) l.name.start Duplicate
    ++ unless_holds (is_scalar of) l.name.start TypeClash ++ length_faults l.length)
    → MayEvaluate middle w'.faults v (local_value_in of l.length a t' l.initialiser)
    → Resolves t t' w w' (declares (record { local = n; stacked = None; value = v }) ∷ [])
    (declare (environment a t.around) base (local l) t.block (numbering w)))
declared_local a base l w w' middle n v t t' at named sized varied numbered checks valued =
    let of : CType = record { base = base; pointers = l.pointers } in
    let name = spelled a.text.now l.name in
    let made : SymbolTable = with_block t
    (with_name t.block name (local_entity (length w.sizes.items) of l.length)) in
    let is : t' ≡ made = named
    ∙ ap (λ k. with_block t (with_name t.block name (local_entity k of l.length))) at in
    let rule : SymbolTable → Optional = λ s. local_value_in of l.length a s l.initialiser in
    let own : MayEvaluate middle w'.faults v (rule made) = subst
    (λ s. MayEvaluate middle w'.faults v (rule s)) is valued in
    let declared_as : ℕ → Option Expression → List checked.Statement = λ k o.
    checked.Declare (record { local = k; stacked = None; value = o }) ∷ [] in
    record {
      done = ap (λ k. declared_as k (option_map expression v)) at
          ∙ ap (declared_as (length w.sizes.items)) own.value;
      counts = λ i. record { sizes = sized i; variables = varied i; number = numbered i };
      names = is;
      faults = kept_more (least_of w.faults) (least_of middle) (least_of w'.faults)
          (unless_holds (not (is_taken t.block name)) l.name.start Duplicate
          ++ unless_holds (is_scalar of) l.name.start TypeClash ++ length_faults l.length)
          (rule made).faults checks own.faults;
    }
