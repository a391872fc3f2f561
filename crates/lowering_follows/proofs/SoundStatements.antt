-- What is known of each expression, each filter's and each declared local of sound statements.
use Rattle.std.proofs.Common.{◌≡◌, ℕ, ◌<◌, List, [], ◌∷◌, ◌++◌, length, refl, subst, length-append}
use Rattle.std.proofs.lemmas.Bool.{ltb-true}
use Rattle.std.specs.Prelude.{true, false, slice_get, Option, Some, None}
use Rattle.lowering_follows.specs.Words.{Size, Expression, StackedVariable, stacked_sound, Program, Function, Inside, function_sound, optional_sound, test_sound, value_fits, declared_sound, all_declared_sound, result_sound, filter_sound, statement_sound, statements_sound, Declared, Filter, Always, Funclet, Statement, Declare, Block, Evaluate, If, IfElse, For, DoWhile, Break, Continue, Leave, TryExcept, TryFinally, Statements, Empty, Then, own_locals, ExpressionFits, Return}
use Rattle.c_checked.specs.Sound as sound
use Rattle.seh_ir.proofs.StatementParts.{OptionalHas, StackedHas, DeclaredHas, AllDeclaredHave, FilterHas, StatementHas, StatementsHave, statements_have}
use Rattle.lowering_follows.proofs.SoundExpressions.{both_left, both_right, Knows, expression_fits, place_fits}

-- ---- what is around the body of a function, and around a `__finally` block

abbrev pub inside_function : Program → Function → Inside
inside_function program fn = record {
  scope = record {
    functions = program.functions;
    sizes = fn.parameters ++ fn.locals;
    code = false;
    information = false;
    abnormal = false;
  };
  returns = fn.returns;
  loop = false;
  body = false;
  function = true;
}

pub knows_function : (program : Program) (fn : Function)
    → Knows program (own_locals fn) false (inside_function program fn).scope
knows_function program fn = record {
  functions = refl;
  sizes = length-append fn.parameters fn.locals;
  information = refl;
}

abbrev pub inside_finally : Inside → Inside
inside_finally i = record {
  scope = record i.scope { abnormal = true };
  returns = i.returns;
  loop = false;
  body = false;
  function = false;
}

-- ---- what was known before, and that the expressions fit

module _ (program : Program) (own : ℕ) (A B E F : Expression → Type 0) (D : ℕ → Type 0)
    (of_value : (e : Expression) → A e → ExpressionFits program own false e → E e)
    (of_filter : (e : Expression) → B e → ExpressionFits program own true e → F e)
    (of_local : (x : ℕ) → x < own → D x) where
  module _ (s : sound.TypingContext) (k : Knows program own false s) where
    value_sound : (e : Expression) → sound.expression_sound s e ≡ true → A e → E e
    value_sound e ok h = of_value e h (expression_fits program own false s k e ok)

    optional_sound_has : (e : Option Expression) → optional_sound s e ≡ true → OptionalHas A e
        → OptionalHas E e
    optional_sound_has None ok h = tt
    optional_sound_has (Some e) ok h = value_sound e ok h

    test_sound_has : (e : Option Expression) → test_sound s e ≡ true → OptionalHas A e
        → OptionalHas E e
    test_sound_has None ok h = tt
    test_sound_has (Some e) ok h = value_sound e (both_left _ _ ok) h

    initialiser_sound_has : (z : Option Size) (e : Option Expression) → value_fits s z e ≡ true
        → OptionalHas A e → OptionalHas E e
    initialiser_sound_has z None ok h = tt
    initialiser_sound_has z (Some e) ok h = value_sound e (both_left _ _ ok) h

    stacked_sound_has : (v : Option StackedVariable) (e : Option Expression)
        → stacked_sound s v e ≡ true → StackedHas D v
    stacked_sound_has None e ok = tt
    stacked_sound_has (Some v) e ok = of_local v.base
        (place_fits s own v.base v.offset k.sizes (both_left _ _ ok)).is_local

    declared_sound_has : (d : Declared) → declared_sound s d ≡ true
        → DeclaredHas A (λ x. Unit {0}) d → DeclaredHas E D d
    declared_sound_has d ok h = (
      of_local d.local (subst (λ m. d.local < m) k.sizes
          (ltb-true d.local (length s.sizes) (both_left _ _ (both_left _ _ ok)))),
      initialiser_sound_has (slice_get s.sizes d.local) d.value
          (both_right _ _ (both_left _ _ ok)) h.1,
      stacked_sound_has d.stacked d.value (both_right _ _ ok),
    )

    all_declared_sound_have : (ds : List Declared) → all_declared_sound s ds ≡ true
        → AllDeclaredHave A (λ x. Unit {0}) ds → AllDeclaredHave E D ds
    all_declared_sound_have [] ok h = tt
    all_declared_sound_have (d ∷ ds) ok h = (
      declared_sound_has d (both_left _ _ ok) h.0,
      all_declared_sound_have ds (both_right _ _ ok) h.1,
    )

    filter_sound_has : (f : Filter) → filter_sound s f ≡ true → FilterHas B f → FilterHas F f
    filter_sound_has Always ok h = tt
    filter_sound_has (Funclet n e) ok h =
        let inner = record s { code = true; information = true } in
        let knows : Knows program own true inner =
        record { functions = k.functions; sizes = k.sizes; information = refl } in
        of_filter e h (expression_fits program own true inner knows e (both_left _ _ ok))

  result_sound_has : (i : Inside) → Knows program own false i.scope → (e : Option Expression)
      → result_sound i e ≡ true → OptionalHas A e → OptionalHas E e
  result_sound_has i k None ok h = tt
  result_sound_has i k (Some e) ok h = value_sound i.scope k e
      (both_left _ _ (both_left _ _ ok)) h

  mutual
    -- of a sound statement
    pub statement_sound_has : (s : Statement) (i : Inside) → Knows program own false i.scope
        → statement_sound i s ≡ true → StatementHas A B (λ x. Unit {0}) s → StatementHas E F D s
    statement_sound_has (Declare d) i k ok h = declared_sound_has i.scope k d ok h
    statement_sound_has (Block ss) i k ok h = statements_sound_have ss i k ok h
    statement_sound_has (Evaluate e) i k ok h = optional_sound_has i.scope k e ok h
    statement_sound_has (If c s) i k ok h = (
      value_sound i.scope k c (both_left _ _ (both_left _ _ ok)) h.0,
      statement_sound_has s i k (both_right _ _ ok) h.1,
    )
    statement_sound_has (IfElse c s t) i k ok h = (
      value_sound i.scope k c (both_left _ _ (both_left _ _ (both_left _ _ ok))) h.0,
      statement_sound_has s i k (both_right _ _ (both_left _ _ ok)) h.1,
      statement_sound_has t i k (both_right _ _ ok) h.2,
    )
    statement_sound_has (For ds first c next s) i k ok h =
        let before = both_left _ _ (both_left _ _ (both_left _ _ ok)) in (
          all_declared_sound_have i.scope k ds (both_left _ _ before) h.0,
          optional_sound_has i.scope k first (both_right _ _ before) h.1,
          test_sound_has i.scope k c (both_right _ _ (both_left _ _ (both_left _ _ ok))) h.2,
          optional_sound_has i.scope k next (both_right _ _ (both_left _ _ ok)) h.3,
          statement_sound_has s (record i { loop = true }) k (both_right _ _ ok) h.4,
        )
    statement_sound_has (DoWhile s c) i k ok h = (
      statement_sound_has s (record i { loop = true }) k (both_right _ _ ok) h.0,
      value_sound i.scope k c (both_left _ _ (both_left _ _ ok)) h.1,
    )
    statement_sound_has (Return e) i k ok h = result_sound_has i k e (both_right _ _ ok) h
    statement_sound_has Break i k ok h = tt
    statement_sound_has Continue i k ok h = tt
    statement_sound_has Leave i k ok h = tt
    statement_sound_has (TryExcept body filter block) i k ok h = (
      statements_sound_have body (record i { body = true }) k (both_left _ _ (both_left _ _ ok))
          h.0,
      filter_sound_has i.scope k filter (both_right _ _ (both_left _ _ ok)) h.1,
      statements_sound_have block (record i { scope = record i.scope { code = true } })
          (record { functions = k.functions; sizes = k.sizes; information = k.information })
          (both_right _ _ ok) h.2,
    )
    statement_sound_has (TryFinally body n last) i k ok h = (
      statements_sound_have body (record i { body = true }) k (both_left _ _ ok) h.0,
      statements_sound_have last (inside_finally i)
          (record { functions = k.functions; sizes = k.sizes; information = k.information })
          (both_right _ _ ok) h.1,
    )

    -- of sound statements
    pub statements_sound_have : (ss : Statements) (i : Inside) → Knows program own false i.scope
        → statements_sound i ss ≡ true → StatementsHave A B (λ x. Unit {0}) ss
        → StatementsHave E F D ss
    statements_sound_have Empty i k ok h = tt
    statements_sound_have (Then s ss) i k ok h = (
      statement_sound_has s i k (both_left _ _ ok) h.0,
      statements_sound_have ss i k (both_right _ _ ok) h.1,
    )

-- ---- that they fit

-- the expressions of a part fit, those of its filters too, and its locals are the function's
abbrev pub StatementsFit : Program → ℕ → Statements → Type 0
StatementsFit program own ss = StatementsHave (ExpressionFits program own false)
    (ExpressionFits program own true) (λ x. x < own) ss

pub statements_fit : (program : Program) (own : ℕ) (ss : Statements) (i : Inside)
    → Knows program own false i.scope → statements_sound i ss ≡ true → StatementsFit program own ss
statements_fit program own ss i k ok = statements_sound_have program own (λ e. Unit {0})
    (λ e. Unit {0}) (ExpressionFits program own false) (ExpressionFits program own true)
    (λ x. x < own) (λ e h f. f) (λ e h f. f) (λ x lt. lt) ss i k ok
    (statements_have (λ e. Unit {0}) (λ e. Unit {0}) (λ x. Unit {0}) (λ e. tt) (λ e. tt) (λ x. tt)
    ss)

-- of the body of a sound function
pub function_fits : (program : Program) (fn : Function)
    → function_sound program.functions fn ≡ true → StatementsFit program (own_locals fn) fn.body
function_fits program fn ok = statements_fit program (own_locals fn) fn.body
    (inside_function program fn) (knows_function program fn)
    (both_left _ _ (both_left _ _ (both_left _ _ ok)))
