-- Rules on the value of an expression, after the expression's own faults.
use Rattle.std.proofs.Common.{◌≡◌, ℕ, Bool, true, false, cond, ◌++◌, Option, Some, None, refl, sym, ap, ◌∙◌, subst}
use Rattle.std.specs.Prelude.{option_map}
use Rattle.c_locals.specs.Words.{Expr, LeastFault, least_of, kept, Evaluates, MayEvaluate, resolved_at, TypeClash, ResolvedExpression, fault_at, Scope, Environment, Value, Optional, returned, to_type, is_void, Expression, start, typed_node}
use Rattle.c_expressions.specs.Values.{Values}
use Rattle.c_types.specs.declared.typed.TypedNode.{TypedNode}

pub ruled : (before middle after : LeastFault) (found : Option TypedNode) (j : ResolvedExpression)
    (e : Expr) (rule : ResolvedExpression → Value)
    → option_map typed_node found ≡ j.found → least_of middle ≡ kept (least_of before) j.faults
    → Values middle after found e rule → Evaluates before after e (rule j)
ruled before middle after found j e rule is first v =
    record {
      value = v.value j.faults ∙ ap (λ o. (rule (record { found = o; faults = j.faults })).value)
          is;
      faults = v.faults (least_of before) j.faults first
          ∙ ap (λ o. kept (least_of before) (rule (record { found = o; faults = j.faults })).faults)
          is;
    }

-- a rule whose place is that of the first token
pub ruled_at : (before middle after : LeastFault) (found : Option TypedNode)
    (j : ResolvedExpression)
    (e : Expr) (rule : ℕ → ResolvedExpression → Value) (at place : ℕ)
    → at ≡ place → option_map typed_node found ≡ j.found
    → least_of middle ≡ kept (least_of before) j.faults → Values middle after found e (rule at)
    → Evaluates before after e (rule place j)
ruled_at before middle after found j e rule at place same is first v = subst
    (λ k. Evaluates before after e (rule k j)) same
    (ruled before middle after found j e (rule at) is first v)

-- ---- what a function returns, by whether its type is void

abbrev returned_by : Environment → Scope → ℕ → Expression → Bool → Optional
returned_by a block at x void =
    let j = resolved_at a block x in
    cond void (record { value = None; faults = j.faults ++ fault_at at TypeClash })
    (record {
      value = Some (to_type a.returns (start x) j).value;
      faults = (to_type a.returns (start x) j).faults;
    })

pub nothing_returned : (a : Environment) (block : Scope) (at : ℕ) (x : Expression)
    (before after : LeastFault)
    → is_void a.returns ≡ true → least_of after
    ≡ kept (least_of before) ((resolved_at a block x).faults ++ fault_at at TypeClash)
    → MayEvaluate before after None (returned a block at (Some x))
nothing_returned a block at x before after void k = subst
    (λ b. MayEvaluate before after None (returned_by a block at x b)) (sym void)
    (record { value = refl; faults = k })

pub value_returned : (a : Environment) (block : Scope) (at : ℕ) (x : Expression)
    (before after : LeastFault) (e : Expr)
    → is_void a.returns ≡ false → Evaluates before after e
    (to_type a.returns (start x) (resolved_at a block x))
    → MayEvaluate before after (Some e) (returned a block at (Some x))
value_returned a block at x before after e void h = subst
    (λ b. MayEvaluate before after (Some e) (returned_by a block at x b)) (sym void)
    (record { value = ap Some h.value; faults = h.faults })
