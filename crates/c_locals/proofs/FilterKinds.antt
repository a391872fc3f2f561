-- The filter of an `__except`, by whether it is always the same.
use Rattle.std.proofs.Common.{◌≡◌, ℕ, ◌+◌, Bool, true, false, cond, [], Some, None, refl, sym, ap, subst}
use Rattle.c_locals.specs.Words.{Expr, Always, Funclet, LeastFault, Evaluates, ResolvesFilter, filter_resolved_at, Scope, Environment, ResolvedFilter, always, resolve_filter, to_answer, Expression, start}

abbrev filter_by : Environment → Scope → Expression → Bool → ℕ → ResolvedFilter
filter_by a block x same number =
    let v = to_answer (start x) (filter_resolved_at a block x) in
    cond same (record { filter = Always; number = number; faults = [] })
    (record { filter = Funclet number v.value; number = number + 1; faults = v.faults })

pub always_same : (a : Environment) (block : Scope) (x : Expression) (before : LeastFault)
    → always a block x ≡ true → ResolvesFilter before before None (resolve_filter a block x)
always_same a block x before same = subst (λ b. ResolvesFilter before before None
    (filter_by a block x b)) (sym same) (record
    { filter = λ n. refl; number = λ n. refl; faults = λ n. refl })

pub answered : (a : Environment) (block : Scope) (x : Expression) (before after : LeastFault)
    (e : Expr)
    → always a block x ≡ false → Evaluates before after e
    (to_answer (start x) (filter_resolved_at a block x))
    → ResolvesFilter before after (Some e) (resolve_filter a block x)
answered a block x before after e same h =
    subst (λ b. ResolvesFilter before after (Some e) (filter_by a block x b)) (sym same)
    (record { filter = λ n. ap (Funclet n) h.value; number = λ n. refl; faults = λ n. h.faults })
