-- Arguments of a call that names a vectored handler.
use Rattle.std.proofs.Common.{◌≡◌, ℕ, ◌+◌, ◌<◌, true, false, nat_eq, List, [], ◌∷◌, ◌++◌, map, length, get_or, Option, Some, None, refl, sym, ap, ◌∙◌, arith}
use Rattle.std.specs.Global.{Vec}
use Rattle.std.specs.Prelude.{option_map}
use Rattle.c_checked.specs.declared.expression.Expr.{Expr as Checked}
use Rattle.c_checked.specs.Expression as nodes
use Rattle.c_expressions.proofs.Calling.{map_long, all_long}
use Rattle.c_expressions.specs.Words.{resolved_all, passed_of, naming_with, naming_of, naming_call, wanted, ArgCount, Names, NamedHandler, Passed, Wanted, Argument, bad, given_that, fault_at, faults_of, pass_all, resolve_expression, name_of, resolve_handler, handler_after, call_naming, call_with_handler, TypedNode, typed, int, expression, start}
use Rattle.c_expressions.specs.declared.wanted.Wanted.{Wanted as Wanted'}
use Rattle.c_expressions.specs.declared.handlers.NamingCall.{NamingCall}
use Rattle.c_operations.specs.declared.built_in.BuiltIn.{BuiltIn}
use Rattle.c_syntax.specs.declared.expression.Expr.{Expr}

pub one_more : (s : Names) (ws : List Wanted') (es : List Expr)
    → nat_eq (length (map wanted ws) + 1) (length (resolved_all s es))
    ≡ nat_eq (length ws + 1) (length es)
one_more s ws es = ap (λ n. nat_eq (n + 1) (length (resolved_all s es))) (map_long wanted ws)
    ∙ ap (nat_eq (length ws + 1)) (all_long s es)

pub naming_refused : (at : ℕ) (ws : List Wanted) (of : ℕ → BuiltIn) (args : List Argument)
    → nat_eq (length ws + 1) (length args) ≡ false
    → call_with_handler at ws of args ≡ bad (faults_of args ++ fault_at at ArgCount)
naming_refused at ws of args e = ap (λ b. given_that b at ArgCount (faults_of args)
    (call_naming (λ f. nodes.CallBuiltIn (of f)) (pass_all ws args) (handler_after ws args))) e

pub naming_passed : (at : ℕ) (ws : List Wanted) (of : ℕ → BuiltIn) (args : List Argument)
    → nat_eq (length ws + 1) (length args) ≡ true
    → call_with_handler at ws of args
    ≡ call_naming (λ f. nodes.CallBuiltIn (of f)) (pass_all ws args) (handler_after ws args)
naming_passed at ws of args e = ap (λ b. given_that b at ArgCount (faults_of args)
    (call_naming (λ f. nodes.CallBuiltIn (of f)) (pass_all ws args) (handler_after ws args))) e

-- the argument after those that are wanted names the handler
pub last_named : (s : Names) (ws : List Wanted') (es : List Expr) (e : Expr)
    → length ws < length es → e ≡ get_or es (length ws) e
    → handler_after (map wanted ws) (resolved_all s es)
    ≡ resolve_handler s (start (expression e)) (name_of (expression e))
    (resolve_expression s (expression e))
last_named s [] [] e lt is = absurd (omega arith)
last_named s (w ∷ ws) [] e lt is = absurd (omega arith)
last_named s [] (x ∷ es) e lt is =
    ap (λ y. resolve_handler s (start (expression y)) (name_of (expression y))
    (resolve_expression s (expression y))) (sym is)
last_named s (w ∷ ws) (x ∷ es) e lt is =
    let below : length ws < length es = omega arith in last_named s ws es e below is

abbrev named_node : (ℕ → BuiltIn) → Option nodes.Arguments → Option ℕ → Option TypedNode
named_node of o k =
    elim o [
      | Some es ↦ elim k [ Some f ↦ Some (typed int (nodes.CallBuiltIn (of f) es)) | None ↦ None ]
      | None ↦ None
    ]

both_good : (of : ℕ → BuiltIn) (passed : Option (Vec Checked)) (handler : Option ℕ)
    → option_map (λ (n : ℕ × nodes.Arguments). typed int (nodes.CallBuiltIn (of n.0) n.1))
    (naming_with passed handler)
    ≡ named_node of (option_map (λ v. passed_of v.items) passed) handler
both_good of None handler = refl
both_good of (Some v) None = refl
both_good of (Some v) (Some f) = refl

-- a call by its handler and its arguments, if they are good
pub naming_found : (of : ℕ → BuiltIn) (r : Option NamingCall) (passed : Option (Vec Checked))
    (handler : Option ℕ) (p : Passed) (h : NamedHandler)
    → naming_of r ≡ naming_with passed handler
    → option_map (λ v. passed_of v.items) passed ≡ p.found → handler ≡ h.found
    → naming_call of r ≡ (call_naming (λ f. nodes.CallBuiltIn (of f)) p h).found
naming_found of r passed handler p h made put named =
    ap (option_map (λ (n : ℕ × nodes.Arguments). typed int (nodes.CallBuiltIn (of n.0) n.1))) made
    ∙ both_good of passed handler ∙ ap (λ o. named_node of o handler) put
    ∙ ap (named_node of p.found) named
