-- Statements are resolved to such that name locals that are seen alone.
use Rattle.std.proofs.Common.{◌≡◌, ◌+◌, refl}
use Rattle.std.specs.Prelude.{true, List, [], ◌∷◌}
use Rattle.c_checked.specs.Statement as checked
use Rattle.c_syntax.specs.Statement as statements
use Rattle.c_resolved.specs.Words.{Statement, Statements, FaultAt, resolve_expression, Scope, Near, Beyond, past_finally, with_number, Environment, Numbering, names_at, inside, any, condition, resolve_filter, resolve_for_initialiser, resolve_statement, resolve_statements, SeenNames, after_all_declared, statement_within}
use Rattle.c_resolved.proofs.Operands.{and_true}
use Rattle.c_resolved.proofs.NameScopes.{ScopeSeen, scope_wider, seen_append, names_seen}
use Rattle.c_resolved.proofs.DeclarationScopes.{any_within, condition_within, value_within, returned_within, resolved_filter_within, after_all, statement_grows, all_grow, ResolvesWithin, follow_within, only_within, declare_all_within, declared_grow, begins_within}

-- one statement, which leaves the names of its block as they are
one_within : (seen : SeenNames) (block : Scope) (s : checked.Statement) (counts : Numbering)
    (faults : List FaultAt) → ScopeSeen seen block → statement_within seen s ≡ true
    → ResolvesWithin seen (record {
      done = s ∷ [];
      counts = counts;
      block = block;
      faults = faults;
    })
one_within seen block s counts faults h e = record {
  within = and_true e refl;
  block = scope_wider seen _ (statement_grows seen s) block h;
}

mutual
  pub resolves_within : (seen : SeenNames) (s : Statement) (a : Environment) (block : Scope)
      (n : Numbering) → ScopeSeen seen block → ScopeSeen seen a.outer
      → ResolvesWithin seen (resolve_statement s a block n)
  resolves_within seen (statements.Declare base ls) a block n h k = declare_all_within seen a base
      ls block n h k
  resolves_within seen (statements.Block ss) a block n h k =
      one_within seen block _ _ _ h (all_resolve_within seen ss (inside a block) [] n tt
      (seen_append seen block a.outer h k)).within
  resolves_within seen (statements.Evaluate e) a block n h k =
      one_within seen block _ _ _ h (value_within seen
      (λ e. any (resolve_expression (names_at a block) e))
      (λ e. any_within seen (names_at a block) (names_seen seen a block h k) e) e)
  resolves_within seen (statements.If at c s) a block n h k =
      let here = inside a block in
      let r = resolves_within seen s here [] n tt (seen_append seen block a.outer h k) in
      one_within seen block _ _ _ h (and_true
      (condition_within seen (names_at a block) (names_seen seen a block h k) at c)
      (only_within seen (resolve_statement s here [] n).done r.within))
  resolves_within seen (statements.IfElse at c s t) a block n h k =
      let here = inside a block in
      let m = resolve_statement s here [] n in
      let outer = seen_append seen block a.outer h k in
      let r = resolves_within seen s here [] n tt outer in
      let q = resolves_within seen t here [] m.counts tt outer in
      one_within seen block _ _ _ h
      (and_true
      (and_true (condition_within seen (names_at a block) (names_seen seen a block h k) at c)
      (only_within seen m.done r.within))
      (only_within seen (resolve_statement t here [] m.counts).done q.within))
  resolves_within seen (statements.While at c s) a block n h k =
      let here = record (inside a block) { loop = Near } in
      let r = resolves_within seen s here [] n tt (seen_append seen block a.outer h k) in
      one_within seen block _ _ _ h
      (and_true (and_true (condition_within seen (names_at a block) (names_seen seen a block h k) at
      c) refl) (only_within seen (resolve_statement s here [] n).done r.within))
  resolves_within seen (statements.DoWhile s at c) a block n h k =
      let here = record (inside a block) { loop = Near } in
      let r = resolves_within seen s here [] n tt (seen_append seen block a.outer h k) in
      one_within seen block _ _ _ h (and_true
      (condition_within seen (names_at a block) (names_seen seen a block h k) at c)
      (only_within seen (resolve_statement s here [] n).done r.within))
  resolves_within seen (statements.For at f c next s) a block n h k =
      let out = inside a block in
      let b = resolve_for_initialiser out f n in
      let names = names_at out b.resolved.block in
      let here = record (inside out b.resolved.block) { loop = Near } in
      let outer = seen_append seen block a.outer h k in
      let i = begins_within seen out f n outer in
      let inner = after_all_declared seen b.declared in
      let wide = scope_wider seen inner (declared_grow seen b.declared) out.outer outer in
      let known = names_seen inner out b.resolved.block i.block wide in
      let v = value_within inner (λ e. condition at (resolve_expression names e))
      (λ e. condition_within inner names known at e) c in
      let w = value_within inner (λ e. any (resolve_expression names e))
      (λ e. any_within inner names known e) next in
      let r = resolves_within inner s here [] b.resolved.counts tt
      (seen_append inner b.resolved.block out.outer i.block wide) in
      one_within seen block _ _ _ h
      (and_true (and_true (and_true (and_true i.declared i.first) v) w)
      (only_within inner (resolve_statement s here [] b.resolved.counts).done r.within))
  resolves_within seen (statements.Return at e) a block n h k = one_within seen block _ _ _ h
      (returned_within seen a block (names_seen seen a block h k) at e)
  resolves_within seen (statements.Break at) a block n h k = one_within seen block _ _ _ h refl
  resolves_within seen (statements.Continue at) a block n h k = one_within seen block _ _ _ h refl
  resolves_within seen (statements.Leave at) a block n h k = one_within seen block _ _ _ h refl
  resolves_within seen (statements.TryExcept body at f handler) a block n h k =
      let out = inside a block in
      let m = resolve_statements body (record out { body = Near }) [] n in
      let q = resolve_filter a block f m.counts.number in
      let outer = seen_append seen block a.outer h k in
      let r = all_resolve_within seen body (record out { body = Near }) [] n tt outer in
      let p = all_resolve_within seen handler (record out { code = true }) []
      (with_number m.counts q.number) tt outer in
      one_within seen block _ _ _ h (and_true
      (and_true r.within (resolved_filter_within seen a block h k f m.counts.number)) p.within)
  resolves_within seen (statements.TryFinally body at last) a block n h k =
      let out = inside a block in
      let m = resolve_statements body (record out { body = Near }) [] n in
      let there = record out {
        loop = past_finally a.loop;
        body = past_finally a.body;
        function = Beyond;
        abnormal = true;
      } in
      let outer = seen_append seen block a.outer h k in
      let r = all_resolve_within seen body (record out { body = Near }) [] n tt outer in
      let p = all_resolve_within seen last there [] (with_number m.counts (m.counts.number + 1)) tt
      outer in
      one_within seen block _ _ _ h (and_true r.within p.within)

  pub all_resolve_within : (seen : SeenNames) (ss : Statements) (a : Environment) (block : Scope)
      (n : Numbering) → ScopeSeen seen block → ScopeSeen seen a.outer
      → ResolvesWithin seen (resolve_statements ss a block n)
  all_resolve_within seen statements.Empty a block n h k = record { within = refl; block = h }
  all_resolve_within seen (statements.Then s ss) a block n h k =
      let m = resolve_statement s a block n in
      let inner = after_all seen m.done in
      let r = resolves_within seen s a block n h k in
      follow_within seen m (resolve_statements ss a m.block m.counts) r
      (all_resolve_within inner ss a m.block m.counts r.block
      (scope_wider seen inner (all_grow seen m.done) a.outer k))
