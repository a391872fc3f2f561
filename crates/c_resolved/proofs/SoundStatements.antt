-- What statements without faults are resolved to is sound.
use Rattle.std.proofs.Common.{◌≡◌, ℕ, ◌+◌, refl, ap, subst}
use Rattle.std.specs.Prelude.{Bool, true, false, ◌&&◌, if◌then◌else◌, List, [], ◌∷◌, ◌++◌, Option, Some, None}
use Rattle.c_resolved.specs.Words.{Size, same_sizes, Expression, start, Statement, Statements, Fault, TypeClash, JumpOutOfFinally, JumpOutsideLoop, LeaveOutsideTry, is_void, size_of, FaultAt, fault_at, ResolvedExpression, resolve_expression, result_size, Scope, Reach, Nowhere, Beyond, Near, past_finally, Environment, Numbering, names_at, filter_names, inside, any, condition, to_type, to_answer, Optional, optional, jump, returned, always, ResolvedFilter, resolve_filter, with_number, resolve_for_initialiser, resolve_statement, resolve_statements, Layout}
use Rattle.c_resolved.proofs.Settings.{Inside, expression_size, expression_sound, condition_sound, result_sound, filter_sound, statement_sound, statements_sound, Setting}
use Rattle.c_operations.specs.declared.operation.Size.TheVariants as sizes
use Rattle.c_checked.specs.Program.{Function}
use Rattle.c_checked.specs.Statement as checked
use Rattle.c_checked.specs.Sound as sound
use Rattle.c_syntax.specs.Statement as statements
use Rattle.c_resolved.proofs.TypeFacts.{void_size, scalar_size}
use Rattle.c_resolved.proofs.Operands.{and_true, has_size, alike_sizes}
use Rattle.c_resolved.proofs.ResolvedExpressions.{settled}
use Rattle.c_resolved.proofs.Numbers.{if_both, statement_counted, statements_counted}
use Rattle.c_resolved.proofs.SoundDeclarations.{none_in_both, holds, ScopeFits, fits_append, is_near, scope_of, inside_of, filter_scope, names_fit, filter_names_fit, condition_holds, to_type_has, to_answer_has, optional_any, optional_condition, Resolves, follow_resolves, only_sound, declare_all_resolves, for_initialiser_resolves, around_of, Reaches, reaches_through}

-- ---- jumps and filters

near : (r : Reach) (f : Fault) (at : ℕ) → jump r f at ≡ [] → is_near r ≡ true
near Nowhere f at h = absurd (cc)
near Beyond f at h = absurd (cc)
near Near f at h = refl

past_not_near : (r : Reach) → is_near (past_finally r) ≡ false
past_not_near Nowhere = refl
past_not_near Beyond = refl
past_not_near Near = refl

returned_sound : (fs : List Function) (zs : List Size) (layout : Layout) (a : Environment)
    (block : Scope)
    → ScopeFits fs zs layout block → ScopeFits fs zs layout a.outer → (at : ℕ)
    (o : Option Expression)
    → (returned a block at o).faults ≡ []
    → result_sound (inside_of fs zs layout a) (returned a block at o).value ≡ true
returned_sound fs zs layout a block h k at None none = ap (same_sizes None)
    (void_size a.returns (holds (is_void a.returns) at TypeClash none))
returned_sound fs zs layout a block h k at (Some e) none = by_void (is_void a.returns) refl none
  where
    S : Setting
    S = scope_of fs zs layout a

    j : ResolvedExpression
    j = resolve_expression (names_at a block) e

    void : Optional
    void = record { value = None; faults = j.faults ++ fault_at at TypeClash }

    value : Optional
    value = record {
      value = Some (to_type a.returns (start e) j).value;
      faults = (to_type a.returns (start e) j).faults;
    }

    by_void : (x : Bool) → is_void a.returns ≡ x → (if x then void else value).faults ≡ []
        → result_sound (inside_of fs zs layout a) (if x then void else value).value ≡ true
    by_void true v none = absurd (nothing (none_in_both j.faults (fault_at at TypeClash) none).1)
      where
        nothing : fault_at at TypeClash ≡ [] → ⊥
        nothing e = absurd (cc)
    by_void false v none =
        let r = to_type_has S a.returns (start e) j.found j.faults
        (settled S (names_at a block) (names_fit fs zs layout a block h k) e) none in
        let size = scalar_size a.returns r.1 in
        and_true (and_true r.0.sound (ap sound.is_number size))
        (alike_sizes (expression_size S (to_type a.returns (start e) j).value)
        (result_size a.returns) (size_of a.returns) r.0.size size)

filter_resolves : (fs : List Function) (zs : List Size) (layout : Layout) (a : Environment)
    (block : Scope)
    → ScopeFits fs zs layout block → ScopeFits fs zs layout a.outer → (e : Expression) (number : ℕ)
    → (resolve_filter a block e number).faults ≡ []
    → filter_sound (scope_of fs zs layout a) (resolve_filter a block e number).filter ≡ true
filter_resolves fs zs layout a block h k e number none = if_both {A = ResolvedFilter}
    (λ r. r.faults ≡ [] → filter_sound (scope_of fs zs layout a) r.filter ≡ true) (always a block e)
    _ _
    (λ t none. refl) (λ t none. asked none) none
  where
    S : Setting
    S = filter_scope fs zs layout a

    j : ResolvedExpression
    j = resolve_expression (filter_names a block) e

    asked : (to_answer (start e) j).faults ≡ []
        → (expression_sound S (to_answer (start e) j).value
        && sound.is_size sizes.Int (expression_size S (to_answer (start e) j).value)) ≡ true
    asked none =
        let r = to_answer_has S (start e) j.found j.faults
        (settled S (filter_names a block) (filter_names_fit fs zs layout a block h k) e) none in
        and_true r.sound (has_size S (to_answer (start e) j).value sizes.Int r)

-- ---- statements

-- one statement, in a block of its own
one_resolves : (fs : List Function) (zs : List Size) (layout : Layout) (a : Environment)
    (block : Scope)
    (s : checked.Statement) (counts : Numbering) (faults : List FaultAt) → ScopeFits fs zs layout
    block
    → statement_sound (inside_of fs zs layout a) s ≡ true
    → Resolves fs zs layout a (record {
      done = s ∷ [];
      counts = counts;
      block = block;
      faults =
          faults;
    })
one_resolves fs zs layout a block s counts faults h e = record {
  sound = and_true e refl;
  block = h;
}

condition_resolves : (fs : List Function) (zs : List Size) (layout : Layout) (a : Environment)
    (block : Scope)
    → ScopeFits fs zs layout block → ScopeFits fs zs layout a.outer → (at : ℕ) (c : Expression)
    → (condition at (resolve_expression (names_at a block) c)).faults ≡ []
    → condition_sound (scope_of fs zs layout a) (condition at
    (resolve_expression (names_at a block) c)).value ≡ true
condition_resolves fs zs layout a block h k at c none =
    let j = resolve_expression (names_at a block) c in
    condition_holds (scope_of fs zs layout a) at j.found j.faults
    (settled (scope_of fs zs layout a) (names_at a block) (names_fit fs zs layout a block h k) c)
    none

-- a `__finally` block is left by no jump
last_sound : (fs : List Function) (zs : List Size) (layout : Layout) (a : Environment)
    (last : checked.Statements)
    → statements_sound (record {
      inside = record (inside_of fs zs layout a).inside {
        scope = record (around_of fs zs a) { abnormal = true };
        loop = is_near (past_finally a.loop);
        body = is_near (past_finally a.body);
        function = false;
      };
      layout = layout;
    }) last ≡ true
    → statements_sound (record {
      inside = record (inside_of fs zs layout a).inside {
        scope = record (around_of fs zs a) { abnormal = true };
        loop = false;
        body = false;
        function = false;
      };
      layout = layout;
    }) last ≡ true
last_sound fs zs layout a last h =
    let scope : sound.TypingContext = record (around_of fs zs a) { abnormal = true } in
    let at : Bool → Bool → Inside = λ x y. record {
      inside = record {
        scope = scope;
        returns = result_size a.returns;
        loop = x;
        body = y;
        function = false;
      };
      layout = layout;
    } in
    subst (λ y. statements_sound (at false y) last ≡ true) (past_not_near a.body)
    (subst (λ x. statements_sound (at x (is_near (past_finally a.body))) last ≡ true)
    (past_not_near a.loop) h)

mutual
  pub statement_resolves : (fs : List Function) (zs : List Size) (layout : Layout) (s : Statement)
      (a : Environment)
      (block : Scope) (n : Numbering) → ScopeFits fs zs layout block → ScopeFits fs zs layout
      a.outer
      → Reaches (resolve_statement s a block n).counts zs layout
      → (resolve_statement s a block n).faults ≡ []
      → Resolves fs zs layout a (resolve_statement s a block n)
  statement_resolves fs zs layout (statements.Declare base ls) a block n h k front none =
      declare_all_resolves fs zs layout a base ls block n h k front none
  statement_resolves fs zs layout (statements.Block ss) a block n h k front none =
      let r = statements_resolve fs zs layout ss (inside a block) [] n tt
      (fits_append fs zs layout block a.outer h k) front none in
      one_resolves fs zs layout a block _ _ _ h r.sound
  statement_resolves fs zs layout (statements.Evaluate e) a block n h k front none = one_resolves fs
      zs layout a
      block _ _ _ h (optional_any (scope_of fs zs layout a) (names_at a block)
      (names_fit fs zs layout a block h k) e none)
  statement_resolves fs zs layout (statements.If at c s) a block n h k front none =
      let here = inside a block in
      let m = resolve_statement s here [] n in
      let v = condition at (resolve_expression (names_at a block) c) in
      let apart = none_in_both v.faults m.faults none in
      let r = statement_resolves fs zs layout s here [] n tt (fits_append fs zs layout block a.outer
      h k) front
      apart.1 in
      one_resolves fs zs layout a block _ _ _ h (and_true
      (condition_resolves fs zs layout a block h k at c apart.0)
      (only_sound (inside_of fs zs layout a) m.done r.sound))
  statement_resolves fs zs layout (statements.IfElse at c s t) a block n h k front none =
      let here = inside a block in
      let m = resolve_statement s here [] n in
      let o = resolve_statement t here [] m.counts in
      let v = condition at (resolve_expression (names_at a block) c) in
      let apart = none_in_both v.faults (m.faults ++ o.faults) none in
      let inner = none_in_both m.faults o.faults apart.1 in
      let fit = fits_append fs zs layout block a.outer h k in
      let grown = (statement_counted t here [] m.counts).grows in
      let r = statement_resolves fs zs layout s here [] n tt fit
      (reaches_through m.counts o.counts zs layout grown front) inner.0 in
      let q = statement_resolves fs zs layout t here [] m.counts tt fit front inner.1 in
      one_resolves fs zs layout a block _ _ _ h
      (and_true (and_true (condition_resolves fs zs layout a block h k at c apart.0)
      (only_sound (inside_of fs zs layout a) m.done r.sound))
      (only_sound (inside_of fs zs layout a) o.done q.sound))
  statement_resolves fs zs layout (statements.While at c s) a block n h k front none =
      let here = record (inside a block) { loop = Near } in
      let m = resolve_statement s here [] n in
      let v = condition at (resolve_expression (names_at a block) c) in
      let apart = none_in_both v.faults m.faults none in
      let r = statement_resolves fs zs layout s here [] n tt (fits_append fs zs layout block a.outer
      h k) front
      apart.1 in
      one_resolves fs zs layout a block _ _ _ h (and_true
      (and_true (condition_resolves fs zs layout a block h k at c apart.0) refl)
      (only_sound (inside_of fs zs layout here) m.done r.sound))
  statement_resolves fs zs layout (statements.DoWhile s at c) a block n h k front none =
      let here = record (inside a block) { loop = Near } in
      let m = resolve_statement s here [] n in
      let v = condition at (resolve_expression (names_at a block) c) in
      let apart = none_in_both v.faults m.faults none in
      let r = statement_resolves fs zs layout s here [] n tt (fits_append fs zs layout block a.outer
      h k) front
      apart.1 in
      one_resolves fs zs layout a block _ _ _ h (and_true
      (condition_resolves fs zs layout a block h k at c apart.0)
      (only_sound (inside_of fs zs layout here) m.done r.sound))
  statement_resolves fs zs layout (statements.For at f c next s) a block n h k front none =
      let out = inside a block in
      let b = resolve_for_initialiser out f n in
      let names = names_at out b.resolved.block in
      let here = record (inside out b.resolved.block) { loop = Near } in
      let v = optional (λ e. condition at (resolve_expression names e)) c in
      let w = optional (λ e. any (resolve_expression names e)) next in
      let m = resolve_statement s here [] b.resolved.counts in
      let apart = none_in_both (b.resolved.faults ++ b.first.faults ++ v.faults ++ w.faults)
      m.faults none in
      let three = none_in_both (b.resolved.faults ++ b.first.faults ++ v.faults) w.faults apart.0 in
      let two = none_in_both (b.resolved.faults ++ b.first.faults) v.faults three.0 in
      let one = none_in_both b.resolved.faults b.first.faults two.0 in
      let fit = fits_append fs zs layout block a.outer h k in
      let grown = (statement_counted s here [] b.resolved.counts).grows in
      let i = for_initialiser_resolves fs zs layout out f n fit
      (reaches_through b.resolved.counts m.counts zs layout grown front) one.0 one.1 in
      let known = names_fit fs zs layout out b.resolved.block i.block fit in
      let r = statement_resolves fs zs layout s here [] b.resolved.counts tt
      (fits_append fs zs layout b.resolved.block out.outer i.block fit) front apart.1 in
      one_resolves fs zs layout a block _ _ _ h
      (and_true
      (and_true
      (and_true (and_true i.declared i.first)
      (optional_condition (scope_of fs zs layout out) names known at c two.1))
      (optional_any (scope_of fs zs layout out) names known next three.1))
      (only_sound (inside_of fs zs layout here) m.done r.sound))
  statement_resolves fs zs layout (statements.Return at e) a block n h k front none =
      let apart = none_in_both (jump a.function JumpOutOfFinally at) (returned a block at e).faults
      none in
      one_resolves fs zs layout a block _ _ _ h
      (and_true (near a.function JumpOutOfFinally at apart.0)
      (returned_sound fs zs layout a block h k at e apart.1))
  statement_resolves fs zs layout (statements.Break at) a block n h k front none = one_resolves fs
      zs layout a
      block _ _ _ h (near a.loop JumpOutsideLoop at none)
  statement_resolves fs zs layout (statements.Continue at) a block n h k front none = one_resolves
      fs zs layout a
      block _ _ _ h (near a.loop JumpOutsideLoop at none)
  statement_resolves fs zs layout (statements.Leave at) a block n h k front none = one_resolves fs
      zs layout a
      block _ _ _ h (near a.body LeaveOutsideTry at none)
  statement_resolves fs zs layout (statements.TryExcept body at f handler) a block n h k front none
      =
      let out = inside a block in
      let m = resolve_statements body (record out { body = Near }) [] n in
      let q = resolve_filter a block f m.counts.number in
      let after = with_number m.counts q.number in
      let o = resolve_statements handler (record out { code = true }) [] after in
      let apart = none_in_both q.faults (m.faults ++ o.faults) none in
      let inner = none_in_both m.faults o.faults apart.1 in
      let fit = fits_append fs zs layout block a.outer h k in
      let grown = (statements_counted handler (record out { code = true }) [] after).grows in
      let r = statements_resolve fs zs layout body (record out { body = Near }) [] n tt fit
      (reaches_through m.counts o.counts zs layout grown front) inner.0 in
      let p = statements_resolve fs zs layout handler (record out { code = true }) [] after tt fit
      front
      inner.1 in
      one_resolves fs zs layout a block _ _ _ h (and_true
      (and_true r.sound (filter_resolves fs zs layout a block h k f m.counts.number apart.0))
      p.sound)
  statement_resolves fs zs layout (statements.TryFinally body at last) a block n h k front none =
      let out = inside a block in
      let m = resolve_statements body (record out { body = Near }) [] n in
      let after = with_number m.counts (m.counts.number + 1) in
      let there = record out {
        loop = past_finally a.loop;
        body = past_finally a.body;
        function = Beyond;
        abnormal = true;
      } in
      let o = resolve_statements last there [] after in
      let inner = none_in_both m.faults o.faults none in
      let fit = fits_append fs zs layout block a.outer h k in
      let grown = (statements_counted last there [] after).grows in
      let r = statements_resolve fs zs layout body (record out { body = Near }) [] n tt fit
      (reaches_through m.counts o.counts zs layout grown front) inner.0 in
      let p = statements_resolve fs zs layout last there [] after tt fit front inner.1 in
      one_resolves fs zs layout a block _ _ _ h (and_true r.sound
      (last_sound fs zs layout a (checked.statements o.done) p.sound))

  pub statements_resolve : (fs : List Function) (zs : List Size) (layout : Layout) (ss : Statements)
      (a : Environment)
      (block : Scope) (n : Numbering) → ScopeFits fs zs layout block → ScopeFits fs zs layout
      a.outer
      → Reaches (resolve_statements ss a block n).counts zs layout
      → (resolve_statements ss a block n).faults ≡ []
      → Resolves fs zs layout a (resolve_statements ss a block n)
  statements_resolve fs zs layout statements.Empty a block n h k front none =
      record { sound = refl; block = h }
  statements_resolve fs zs layout (statements.Then s ss) a block n h k front none =
      let m = resolve_statement s a block n in
      let rest = resolve_statements ss a m.block m.counts in
      let apart = none_in_both m.faults rest.faults none in
      let grown = (statements_counted ss a m.block m.counts).grows in
      let r = statement_resolves fs zs layout s a block n h k
      (reaches_through m.counts rest.counts zs layout grown front) apart.0 in
      follow_resolves fs zs layout a m rest r (statements_resolve fs zs layout ss a m.block m.counts
      r.block k
      front apart.1)
