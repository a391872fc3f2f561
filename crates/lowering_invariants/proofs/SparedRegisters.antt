-- Filters and `__finally` blocks read and write no local that stands in a register.
use Rattle.std.proofs.Common.{◌≡◌, ℕ, suc, ◌+◌, ◌-◌, ◌<◌, ◌≤◌, Bool, true, false, List, [], ◌∷◌, ◌++◌, map, refl, sym, ap, ◌∙◌, arith}
use Rattle.std.proofs.lemmas.Bool.{eq-eqb, eqb-true, or_from, or_left, or_right, false_from_ne_true}
use Rattle.std.proofs.lemmas.Option.{slice_get-map}
use Rattle.std.specs.List.{AllByRecursion, list_any}
use Rattle.std.specs.Prelude.{◌||◌, nat_eq, slice_get, option_map, Option, Some, None}
use Rattle.c_checked.specs.declared.function.DataPart.{DataPart}
use Rattle.c_checked.specs.declared.statement.StackedVariable.{StackedVariable}
use Rattle.seh_ir.specs.Funclets.{finally_begin}
use Rattle.c_checked.specs.Program.{DataFrame, part_of}
use Rattle.lowering_registers.specs.Naming.{stacked_names}
use Rattle.lowering_registers.specs.Shared.{is_stacked, is_brought, is_kept}
use Rattle.seh_ir.specs.Statements.{reset_code}
use Rattle.seh_ir.proofs.StatementParts.{StackedHas, DeclaredHas}
use Rattle.lowering_invariants.specs.Words.{Expression, Function, Declared, Filter, Always, Funclet, Statement, Declare, Block, Evaluate, If, IfElse, For, DoWhile, Return, Break, Continue, Leave, TryExcept, TryFinally, Statements, Empty, Then, funclets, Local, Temporary, LinearProgram, LinearFunclet, Owner, Names, LoweringContext, statements_notes, except_names, filter_names, finally_names, finally_scope, expression_code, statements_code, filter_funclets, finally_funclet, in_funclet, statement_funclets, statements_funclets, own_locals, all_locals, scope_of, lowered_function, lowered_funclets, all_funclets, lowered}
use Rattle.linear_code.specs.declared.instruction.Instruction.TheVariants as instructions
use Rattle.seh_ir.specs.Funclets as funclets_of
use Rattle.lowering_registers.specs.Naming.{expression_names, optional_names, declared_names, all_declared_name, statement_names, statements_name}
use Rattle.lowering_registers.specs.Naming as naming
use Rattle.lowering_registers.specs.Shared.{statement_shares, statements_share, register_locals}
use Rattle.lowering_registers.specs.RegisterLaws.{IsUnshared}
use Rattle.lowering_registers.proofs.RegisterLocals.{are_few, are_unshared, are_in_order}
use Rattle.lowering_invariants.specs.Registers.{SlotsHave, FlagHas, IsInFrame, SparesRegisters, HasRegisters, LoweredSparesRegisters, LoweredHasRegisters}
use Rattle.lowering_invariants.proofs.Lemmas.{all_append, OptionalHas, AllDeclaredHave, FilterHas, StatementHas, StatementsHave, HoldsOfInstructions, statements_all, any_numbers, HoldsOfFunclets, all_funclets_every}
use Rattle.lowering_invariants.proofs.Places.NamedLocals.{NamesHave, NamedHave, expression_has}
use Rattle.lowering_invariants.proofs.Stacks.StackTargets.{all_at}

-- ---- what a statement names, its parts name

module _ (L : ℕ → Type 0) where
  abbrev Keeps : Expression → Type 0
  Keeps e = NamedHave L (λ x. expression_names x e)

  left : (f g : ℕ → Bool) → NamedHave L (λ x. f x || g x) → NamedHave L f
  left f g h x e = h x (or_left (f x) (g x) e)

  right : (f g : ℕ → Bool) → NamedHave L (λ x. f x || g x) → NamedHave L g
  right f g h x e = h x (or_right (f x) (g x) e)

  optional_keeps : (e : Option Expression) → NamedHave L (λ x. optional_names x e)
      → OptionalHas Keeps e
  optional_keeps None h = tt
  optional_keeps (Some e) h = h

  stacked_keeps : (v : Option StackedVariable) → NamedHave L (λ x. stacked_names x v)
      → StackedHas L v
  stacked_keeps None h = tt
  stacked_keeps (Some v) h = h v.base (eq-eqb v.base v.base refl)

  declared_keeps : (d : Declared) → NamedHave L (λ x. declared_names x d)
      → DeclaredHas Keeps L d
  declared_keeps d h =
      let rest = right (λ x. nat_eq x d.local)
      (λ x. stacked_names x d.stacked || optional_names x d.value) h in (
        h d.local (or_left (nat_eq d.local d.local)
            (stacked_names d.local d.stacked || optional_names d.local d.value)
            (eq-eqb d.local d.local refl)),
        optional_keeps d.value (right (λ x. stacked_names x d.stacked)
            (λ x. optional_names x d.value) rest),
        stacked_keeps d.stacked (left (λ x. stacked_names x d.stacked)
            (λ x. optional_names x d.value) rest),
      )

  all_declared_keep : (ds : List Declared) → NamedHave L (λ x. all_declared_name x ds)
      → AllDeclaredHave Keeps L ds
  all_declared_keep [] h = tt
  all_declared_keep (d ∷ ds) h = (
    declared_keeps d (left (λ x. declared_names x d) (λ x. all_declared_name x ds) h),
    all_declared_keep ds (right (λ x. declared_names x d) (λ x. all_declared_name x ds) h),
  )

  filter_keeps : (f : Filter) → NamedHave L (λ x. naming.filter_names x f) → FilterHas Keeps f
  filter_keeps Always h = tt
  filter_keeps (Funclet k e) h = h

  mutual
    statement_keeps : (s : Statement) → NamedHave L (λ x. statement_names x s)
        → StatementHas Keeps Keeps L s
    statement_keeps (Declare d) h = declared_keeps d h
    statement_keeps (Block ss) h = statements_keep ss h
    statement_keeps (Evaluate e) h = optional_keeps e h
    statement_keeps (If c s) h = (
      left (λ x. expression_names x c) (λ x. statement_names x s) h,
      statement_keeps s (right (λ x. expression_names x c) (λ x. statement_names x s) h),
    )
    statement_keeps (IfElse c s t) h =
        let others = right (λ x. expression_names x c)
        (λ x. statement_names x s || statement_names x t) h in (
          left (λ x. expression_names x c) (λ x. statement_names x s || statement_names x t) h,
          statement_keeps s (left (λ x. statement_names x s) (λ x. statement_names x t) others),
          statement_keeps t (right (λ x. statement_names x s) (λ x. statement_names x t) others),
        )
    statement_keeps (For ds first c next s) h =
        let after_names = right (λ x. all_declared_name x ds) (λ x. optional_names x first
        || (optional_names x c || (optional_names x next || statement_names x s))) h in
        let after_first = right (λ x. optional_names x first) (λ x. optional_names x c
        || (optional_names x next || statement_names x s)) after_names in
        let after_test = right (λ x. optional_names x c)
        (λ x. optional_names x next || statement_names x s) after_first in (
          all_declared_keep ds (left (λ x. all_declared_name x ds) (λ x. optional_names x first
              || (optional_names x c || (optional_names x next || statement_names x s))) h),
          optional_keeps first (left (λ x. optional_names x first) (λ x. optional_names x c
              || (optional_names x next || statement_names x s)) after_names),
          optional_keeps c (left (λ x. optional_names x c)
              (λ x. optional_names x next || statement_names x s) after_first),
          optional_keeps next (left (λ x. optional_names x next) (λ x. statement_names x s)
              after_test),
          statement_keeps s (right (λ x. optional_names x next) (λ x. statement_names x s)
              after_test),
        )
    statement_keeps (DoWhile s c) h = (
      statement_keeps s (left (λ x. statement_names x s) (λ x. expression_names x c) h),
      right (λ x. statement_names x s) (λ x. expression_names x c) h,
    )
    statement_keeps (Return e) h = optional_keeps e h
    statement_keeps Break h = tt
    statement_keeps Continue h = tt
    statement_keeps Leave h = tt
    statement_keeps (TryExcept body filter block) h =
        let others = right (λ x. statements_name x body)
        (λ x. naming.filter_names x filter || statements_name x block) h in (
          statements_keep body (left (λ x. statements_name x body)
              (λ x. naming.filter_names x filter || statements_name x block) h),
          filter_keeps filter (left (λ x. naming.filter_names x filter)
              (λ x. statements_name x block) others),
          statements_keep block (right (λ x. naming.filter_names x filter)
              (λ x. statements_name x block) others),
        )
    statement_keeps (TryFinally body k last) h = (
      statements_keep body (left (λ x. statements_name x body) (λ x. statements_name x last) h),
      statements_keep last (right (λ x. statements_name x body) (λ x. statements_name x last) h),
    )

    statements_keep : (ss : Statements) → NamedHave L (λ x. statements_name x ss)
        → StatementsHave Keeps Keeps L ss
    statements_keep Empty h = tt
    statements_keep (Then s ss) h = (
      statement_keeps s (left (λ x. statement_names x s) (λ x. statements_name x ss) h),
      statements_keep ss (right (λ x. statement_names x s) (λ x. statements_name x ss) h),
    )

  -- ---- code of statements

  abbrev PartHas : Option DataPart → Type 0
  PartHas None = Unit {0}
  PartHas (Some p) = L p.base

  -- names of locals that have it, as all that are free do
  record Known (names : Names) (m : ℕ) : Type 0 where
    has : NamesHave L names
    free : (x : ℕ) → names.free ≤ x → L x
    part : PartHas names.part

  except_known : (names : Names) (m k : ℕ) → 1 + k ≤ m → Known names m
      → Known (except_names names) k
  except_known names m k le h = record {
    has = record { source = h.free names.free (omega arith); flag = h.has.flag };
    free = λ x lt. h.free x (omega arith);
    part = h.part;
  }

  finally_known : (names : Names) (m k : ℕ) → Known names m → Known (finally_names names) k
  finally_known names m k h = record {
    has = record { source = h.has.source; flag = h.free names.free (omega arith) };
    free = λ x lt. h.free x (omega arith);
    part = h.part;
  }

  reset_keeps : (part : Option DataPart) → PartHas part → SlotsHave L (reset_code part)
  reset_keeps None h = tt
  reset_keeps (Some p) h = (h, h, h)

  begin_keeps : (part : Option DataPart) (x : ℕ) → PartHas part → L x
      → AllByRecursion (SlotsHave L) (finally_begin part x)
  begin_keeps None x h l = (tt, (tt, (tt, tt)))
  begin_keeps (Some p) x h l = (l, ((h, h, h), (tt, tt)))

  instructions_keep : HoldsOfInstructions (SlotsHave L) (λ label. Unit {0}) (λ label. Unit {0})
      Known Keeps L
  instructions_keep = record {
    of_value = λ names m e at n h. expression_has L names n.has e 0 at h;
    of_constant = (tt, tt, tt);
    of_zeroed = λ x d. (d, d, d);
    of_kept = λ x d. (d, tt, tt);
    of_separator = tt;
    of_jump = λ label l. tt;
    of_test = λ label l. tt;
    of_unwind = λ label l. tt;
    of_exit_jump = λ label l. tt;
    of_exit = λ label l. tt;
    of_landing = λ names m le n. n.free names.free (omega arith);
    of_put = λ v d. (tt, d, tt);
    of_counted = λ names m k le n.
        let l = n.free names.free (omega arith) in (l, l, l);
    of_rest_test = λ names m label le n l. n.free names.free (omega arith);
    of_cleared = λ names m v le n d.
        let l = n.free names.free (omega arith) in (l, d, l);
    of_reset = λ names m le n. reset_keeps names.part n.part;
    of_finally = λ k. tt;
  }

  block_keeps : (ss : Statements) (scope : LoweringContext) (at : ℕ)
      → Known scope.names (statements_notes ss) → StatementsHave Keeps Keeps L ss
      → AllByRecursion (SlotsHave L) (statements_code scope ss at)
  block_keeps ss scope at n h = statements_all (SlotsHave L) Known Keeps Keeps L except_known
      instructions_keep ss scope at (statements_notes ss) (omega arith) n h

  -- ---- funclets of a function

  module _ (number : ℕ) where
    record Spares (f : LinearFunclet) : Type 0 where
      owner : f.function ≡ number
      flag : FlagHas L f.kind
      code : AllByRecursion (SlotsHave L) f.body.code

    abbrev Owned : Owner → Type 0
    Owned owner = owner.function ≡ number

    filter_spares : (owner : Owner) (names : Names) (m : ℕ) (e : Expression) → Owned owner
        → Known names m → Keeps e → Spares (funclets_of.filter_funclet owner (filter_names names) e)
    filter_spares owner names m e o n h = record {
      owner = o;
      flag = tt;
      code = all_append (SlotsHave L) (expression_code (filter_names names) e 0 0)
          (instructions.Return (Temporary 0) ∷ [])
          (expression_has L (filter_names names) (record { source = tt; flag = n.has.flag }) e 0 0
          h) (tt, tt);
    }

    block_spares : (owner : Owner) (names : Names) (m : ℕ) (last : Statements) → Owned owner
        → Known names m → StatementsHave Keeps Keeps L last
        → Spares (finally_funclet owner names last)
    block_spares owner names m last o n h = record {
      owner = o;
      flag = n.free names.free (omega arith);
      code = all_append (SlotsHave L) (finally_begin names.part names.free)
          (statements_code (finally_scope names) last 3
          ++ instructions.Return (Local names.free) ∷ [])
          (begin_keeps names.part names.free n.part (n.free names.free (omega arith)))
          (all_append (SlotsHave L) (statements_code (finally_scope names) last 3)
          (instructions.Return (Local names.free) ∷ [])
          (block_keeps last (finally_scope names) 3
          (finally_known names m (statements_notes last) n) h)
          (n.free names.free (omega arith), tt));
    }

    -- those inside a block, of which all is known
    inner_spare : HoldsOfFunclets Spares Owned (λ k. Unit {0}) Known Keeps Keeps L
    inner_spare = record {
      in_except = except_known;
      in_finally = λ names m k le n. finally_known names m k n;
      in_block = λ owner k o t. o;
      of_filter = filter_spares;
      of_block = λ owner names m last o le n h. block_spares owner names m last o n h;
    }

    filters_spare : (f : Filter) (owner : Owner) (names : Names) → Owned owner → Known names 0
        → FilterHas Keeps f → AllByRecursion Spares (filter_funclets owner (filter_names names) f)
    filters_spare Always owner names o n h = tt
    filters_spare (Funclet k e) owner names o n h = (filter_spares owner names 0 e o n h, tt)

    mutual
      -- where the locals that its filters and blocks name have it
      statement_spares : (s : Statement) (owner : Owner) (names : Names) → Owned owner
          → Known names 0 → NamedHave L (λ x. statement_shares x s)
          → AllByRecursion Spares (statement_funclets owner names s)
      statement_spares (Declare d) owner names o n h = tt
      statement_spares (Block ss) owner names o n h = statements_spare ss owner names o n h
      statement_spares (Evaluate e) owner names o n h = tt
      statement_spares (If c s) owner names o n h = statement_spares s owner names o n h
      statement_spares (IfElse c s t) owner names o n h =
          all_append Spares (statement_funclets owner names s) (statement_funclets owner names t)
          (statement_spares s owner names o n
          (left (λ x. statement_shares x s) (λ x. statement_shares x t) h))
          (statement_spares t owner names o n
          (right (λ x. statement_shares x s) (λ x. statement_shares x t) h))
      statement_spares (For ds first c next s) owner names o n h =
          statement_spares s owner names o n
          (right (λ x. is_stacked x ds) (λ x. statement_shares x s) h)
      statement_spares (DoWhile s c) owner names o n h = statement_spares s owner names o n h
      statement_spares (Return e) owner names o n h = tt
      statement_spares Break owner names o n h = tt
      statement_spares Continue owner names o n h = tt
      statement_spares Leave owner names o n h = tt
      statement_spares (TryExcept body filter block) owner names o n h =
          let others = right (λ x. statements_share x body)
          (λ x. naming.filter_names x filter || statements_share x block) h in
          let own = filter_funclets owner (filter_names names) filter in
          let after = statements_funclets owner (except_names names) block in
          all_append Spares (statements_funclets owner names body) (own ++ after)
          (statements_spare body owner names o n (left (λ x. statements_share x body)
          (λ x. naming.filter_names x filter || statements_share x block) h))
          (all_append Spares own after
          (filters_spare filter owner names o n (filter_keeps filter
          (left (λ x. naming.filter_names x filter) (λ x. statements_share x block) others)))
          (statements_spare block owner (except_names names) o
          (except_known names 1 0 (omega arith)
          (record { has = n.has; free = n.free; part = n.part }))
          (right (λ x. naming.filter_names x filter) (λ x. statements_share x block) others)))
      statement_spares (TryFinally body k last) owner names o n h =
          let inner = in_funclet (k - 1) owner in
          let known = statements_keep last (right (λ x. statements_share x body)
          (λ x. statements_name x last) h) in
          all_append Spares (statements_funclets owner names body)
          (finally_funclet owner names last
          ∷ statements_funclets inner (finally_names names) last)
          (statements_spare body owner names o n
          (left (λ x. statements_share x body) (λ x. statements_name x last) h)) (
            block_spares owner names 0 last o n known,
            all_funclets_every Spares Owned (λ j. Unit {0}) Known Keeps Keeps L inner_spare last
                inner (finally_names names) (statements_notes last) (omega arith) o
                (finally_known names 0 (statements_notes last) n) known
                (any_numbers (funclets last)),
          )

      statements_spare : (ss : Statements) (owner : Owner) (names : Names) → Owned owner
          → Known names 0 → NamedHave L (λ x. statements_share x ss)
          → AllByRecursion Spares (statements_funclets owner names ss)
      statements_spare Empty owner names o n h = tt
      statements_spare (Then s ss) owner names o n h =
          all_append Spares (statement_funclets owner names s) (statements_funclets owner names ss)
          (statement_spares s owner names o n
          (left (λ x. statement_shares x s) (λ x. statements_share x ss) h))
          (statements_spare ss owner names o n
          (right (λ x. statement_shares x s) (λ x. statements_share x ss) h))

-- ---- locals of the frame

-- one that isn't among some
none_of : (x : ℕ) (rs : List ℕ) → AllByRecursion (λ r. x ≡ r → ⊥) rs → IsInFrame rs x
none_of x [] h = refl
none_of x (r ∷ rs) h = or_from (nat_eq x r) (list_any (nat_eq x) rs)
    (false_from_ne_true (nat_eq x r) (λ e. h.0 (eqb-true x r e))) (none_of x rs h.1)

weaker : (P Q : ℕ → Type 0) (xs : List ℕ) → ((x : ℕ) → P x → Q x) → AllByRecursion P xs
    → AllByRecursion Q xs
weaker P Q [] f h = tt
weaker P Q (x ∷ xs) f h = (f x h.0, weaker P Q xs f h.1)

no_left : (a b : Bool) → (a || b) ≡ false → a ≡ false
no_left true b h = absurd (cc)
no_left false b h = refl

no_right : (a b : Bool) → (a || b) ≡ false → b ≡ false
no_right true b h = absurd (cc)
no_right false b h = h

shared_in_frame : (f : Function) → NamedHave (IsInFrame (register_locals f))
    (λ x. statements_share x f.body)
shared_in_frame f x s = none_of x (register_locals f)
    (weaker (IsUnshared f) (λ r. x ≡ r → ⊥) (register_locals f) (λ r u same.
    (let h : true ≡ false = sym s ∙ ap (λ z. statements_share z f.body) same
    ∙ no_right (is_kept r f.data_frame) (statements_share r f.body) u.unshared in
    absurd (cc))) (are_unshared f))

-- nor is the base of its part of the data stack one
kept_in_frame : (f : Function) (x : ℕ) → is_kept x f.data_frame ≡ true
    → IsInFrame (register_locals f) x
kept_in_frame f x s = none_of x (register_locals f)
    (weaker (IsUnshared f) (λ r. x ≡ r → ⊥) (register_locals f) (λ r u same.
    (let h : true ≡ false = sym s ∙ ap (λ z. is_kept z f.data_frame) same
    ∙ no_left (is_kept r f.data_frame) (statements_share r f.body) u.unshared in
    absurd (cc))) (are_unshared f))

base_in_frame : (f : Function) → PartHas (IsInFrame (register_locals f)) (part_of f.data_frame)
base_in_frame f = of f.data_frame (kept_in_frame f)
  where
    of : (d : Option DataFrame)
        → ((x : ℕ) → is_kept x d ≡ true → IsInFrame (register_locals f) x)
        → PartHas (IsInFrame (register_locals f)) (part_of d)
    of None h = tt
    of (Some d) h = h d.base (or_left (nat_eq d.base d.base) (is_brought d.base d.parameters)
        (eq-eqb d.base d.base refl))

free_in_frame : (f : Function) (x : ℕ) → own_locals f ≤ x → IsInFrame (register_locals f) x
free_in_frame f x le = none_of x (register_locals f)
    (weaker (IsUnshared f) (λ r. x ≡ r → ⊥) (register_locals f) (λ r u same.
    (let lt = u.own in absurd (omega arith))) (are_unshared f))

-- ---- programs

module _ (linear : LinearProgram) where
  spares : (number : ℕ) (f : Function) (g : LinearFunclet)
      → slice_get linear.functions number ≡ Some (lowered_function f)
      → Spares (IsInFrame (register_locals f)) number g → SparesRegisters linear g
  spares number f g there h = record {
    function = lowered_function f;
    there = ap (λ k. slice_get linear.functions k) h.owner ∙ there;
    flag = h.flag;
    code = h.code;
  }

  all_spare : (number : ℕ) (f : Function) (gs : List LinearFunclet)
      → slice_get linear.functions number ≡ Some (lowered_function f)
      → AllByRecursion (Spares (IsInFrame (register_locals f)) number) gs
      → AllByRecursion (SparesRegisters linear) gs
  all_spare number f [] there h = tt
  all_spare number f (g ∷ gs) there h =
      (spares number f g there h.0, all_spare number f gs there h.1)

  of_function : (number : ℕ) (f : Function)
      → slice_get linear.functions number ≡ Some (lowered_function f)
      → AllByRecursion (SparesRegisters linear) (lowered_funclets number f)
  of_function number f there = all_spare number f (lowered_funclets number f) there
      (statements_spare (IsInFrame (register_locals f)) number f.body
      (record { function = number; locals = all_locals f; parent = None }) (scope_of f).names refl
      (record {
        has = record { source = tt; flag = tt };
        free = free_in_frame f;
        part = base_in_frame f;
      }) (shared_in_frame f))

  of_functions : (number : ℕ) (fs : List Function)
      → ((j : ℕ) (f : Function) → slice_get fs j ≡ Some f
      → slice_get linear.functions (number + j) ≡ Some (lowered_function f))
      → AllByRecursion (SparesRegisters linear) (all_funclets number fs)
  of_functions number [] there = tt
  of_functions number (f ∷ fs) there =
      let first : number + 0 ≡ number = omega arith in
      all_append (SparesRegisters linear) (lowered_funclets number f)
      (all_funclets (number + 1) fs)
      (of_function number f (ap (λ k. slice_get linear.functions k) (sym first) ∙ there 0 f refl))
      (of_functions (number + 1) fs (λ j g e. (let next : number + 1 + j ≡ number + suc j =
      omega arith in ap (λ k. slice_get linear.functions k) next ∙ there (suc j) g e)))

pub lowered_spares : LoweredSparesRegisters
lowered_spares program k f e =
    all_at (SparesRegisters (lowered program)) (lowered program).funclets k f
    (of_functions (lowered program) 0 program.functions (λ j g there.
    (let same : 0 + j ≡ j = omega arith in ap (λ k. slice_get (lowered program).functions k) same
    ∙ slice_get-map lowered_function program.functions j
    ∙ ap (option_map lowered_function) there))) e

-- ---- the registers of a function

function_has : (f : Function) → HasRegisters (lowered_function f)
function_has f = record {
  few = are_few f;
  rising = are_in_order f;
  locals = weaker (IsUnshared f) (λ x. x < all_locals f) (register_locals f)
      (λ x u. (let lt = u.own in omega arith)) (are_unshared f);
}

functions_have : (fs : List Function) → AllByRecursion HasRegisters (map lowered_function fs)
functions_have [] = tt
functions_have (f ∷ fs) = (function_has f, functions_have fs)

pub lowered_has : LoweredHasRegisters
lowered_has program k f e = all_at HasRegisters (lowered program).functions k f
    (functions_have program.functions) e
