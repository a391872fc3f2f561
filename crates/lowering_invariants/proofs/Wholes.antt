-- What the regions and calls of lowered statements name is there, and so it is in their filters and
-- `__finally` blocks.
use Rattle.std.proofs.Common.{◌≡◌, ℕ, ◌+◌, ◌-◌, ◌<◌, List, [], ◌∷◌, ◌++◌, length, refl, sym, ap, subst, ◌∙◌, arith, append_assoc, length-append}
use Rattle.std.specs.List.{AllByRecursion}
use Rattle.std.specs.Prelude.{true, false, slice_get, Option, Some, None}
use Rattle.c_checked.specs.declared.function.DataPart.{DataPart}
use Rattle.seh_ir.specs.Funclets.{finally_begin}
use Rattle.seh_ir.specs.Statements.{reset_code}
use Rattle.lowering_invariants.proofs.Places.DepthStatements.{begin_three}
use Rattle.lowering_invariants.specs.Bodies.{IsInstructionOf}
use Rattle.lowering_invariants.specs.Words.{Expression, Program, funclets, count_up, funclets_in, Filter, Always, Funclet, Statement, Declare, Block, Evaluate, If, IfElse, For, DoWhile, Return, Break, Continue, Leave, TryExcept, TryFinally, Statements, Empty, Then, Local, Instruction, Region, LinearProgram, LinearBody, LinearFunclet, BodyName, FuncletBody, funclet_body, body_of, instruction_in, expression_size, statements_size, discarded_size, condition_size, all_declared_size, statement_size, Owner, Names, Way, Nowhere, Jumps, LoweringContext, except_names, filter_names, finally_names, finally_scope, expression_code, return_code, returned_code, statements_code, statements_regions, except_kind, region, statement_regions, finally_funclet, filter_funclets, in_funclet, statement_funclets, statements_funclets, IsFinallyKind, function_of, owner_of, IsFuncletOf, IsKindOf, IsRegionOf, IsBodyOf, parent_of}
use Rattle.c_checked.specs.Sound.{filter_funclet}
use Rattle.linear_code.specs.declared.instruction.Instruction.TheVariants as instructions
use Rattle.linear_code.specs.declared.program.RegionKind.{RegionKind}
use Rattle.linear_code.specs.declared.program.RegionKind.TheVariants as kinds
use Rattle.lowering_invariants.proofs.Lemmas.{Range, part_of, both_parts, no_part, one_part, filter_count, statement_count, statements_count, count_front, count_back, counted, IsSegmentAt, front, back, whole_is_at, both_right, all_append}
use Rattle.lowering_expressions.specs.declared.scope.Way.TheVariants.{Unwinds}
use Rattle.seh_ir.specs.Funclets as funclets_of
use Rattle.lowering_invariants.proofs.Calls.{HasCallees, AllCall, append, expression_calls}
use Rattle.lowering_invariants.proofs.Stacks.StackTargets.{same_it}
use Rattle.seh_ir.proofs.StatementParts.{FilterHas, OptionalHas, StatementHas}
use Rattle.seh_ir.proofs.EveryStatement.{HoldsOfPieces, any_neutral, any_place, any_ways, statements_every}
use Rattle.lowering_sizes.specs.Sizes.{statements_notes}
use Rattle.lowering_invariants.specs.Words.{ExpressionFits}
use Rattle.lowering_invariants.specs.Bodies.{IsFilterKind}
use Rattle.lowering_follows.proofs.SoundStatements.{StatementsFit}

all_front : {X : Type 0} (P : X → Type 0) (xs ys : List X) → AllByRecursion P (xs ++ ys)
    → AllByRecursion P xs
all_front P [] ys h = tt
all_front P (x ∷ xs) ys h = (h.0, all_front P xs ys h.1)

all_back : {X : Type 0} (P : X → Type 0) (xs ys : List X) → AllByRecursion P (xs ++ ys)
    → AllByRecursion P ys
all_back P [] ys h = h
all_back P (x ∷ xs) ys h = all_back P xs ys h.1

module _ (linear : LinearProgram) where
  -- the body of the funclet of a number
  abbrev pub Fine : ℕ → Type 0
  Fine i = (b : LinearBody) → body_of linear (FuncletBody i) ≡ Some b
      → IsBodyOf linear (FuncletBody i) b

  -- whose body a part is in
  pub record IsOwner (name : BodyName) (owner : Owner) : Type 0 where
    pub parent : parent_of owner.function owner.parent ≡ name
    pub function : owner_of linear name ≡ Some owner.function

module _ (program : Program) (linear : LinearProgram) (callees : HasCallees program linear)
    (own : ℕ) where
  -- ---- the code and the regions of a body

  -- the funclet of a region is one of the body
  abbrev IsNamed : BodyName → RegionKind → Type 0
  IsNamed name (kinds.Finally k) = IsFuncletOf linear name IsFinallyKind k
  IsNamed name (kinds.Filter k target) = IsFuncletOf linear name IsFilterKind k
  IsNamed name (kinds.Always target) = Unit {0}

  abbrev AreNamed : BodyName → List Region → Type 0
  AreNamed name rs = AllByRecursion (λ (r : Region). IsNamed name r.kind) rs

  module _ (name : BodyName) (b : LinearBody) (there : body_of linear name ≡ Some b) where
    abbrev All : List Instruction → Type 0
    All code = AllCall program linear callees name code

    -- what is claimed of code in its place, where the funclets of its regions are the body's
    abbrev IsTyped : ℕ → List Instruction → List Region → Type 0
    IsTyped at xs rs = AreNamed name rs → IsSegmentAt b.code at xs
        → All xs × AllByRecursion (IsRegionOf linear name) rs

    value : (names : Names) (e : Expression) (at : ℕ) (rest : List Instruction)
        → ExpressionFits program own false e → All rest
        → All (expression_code names e 0 at ++ rest)
    value names e at rest fits h = append program linear callees name
        (expression_code names e 0 at) rest
        (expression_calls program linear callees name own false names e 0 at fits) h

    exit_calls : (w : Way) → All (return_code w)
    exit_calls Nowhere = (tt, (tt, tt))
    exit_calls (Jumps label) = (tt, (tt, tt))
    exit_calls (Unwinds label) = (tt, (tt, tt))

    returned : (names : Names) (e : Option Expression) (exit : Way) (at : ℕ)
        → OptionalHas (ExpressionFits program own false) e
        → All (returned_code names e at ++ return_code exit)
    returned names None exit at fits = (tt, exit_calls exit)
    returned names (Some e) exit at fits = value names e at (return_code exit) fits
        (exit_calls exit)

    kind_is : (f : Filter) (end x : ℕ) → IsNamed name (except_kind f end)
        → slice_get b.code end ≡ Some (instructions.Landing (Local x))
        → IsKindOf linear name end (except_kind f end)
    kind_is Always end x h landing =
        ((x, ap (λ p. instruction_in p end) there ∙ landing), refl)
    kind_is (Funclet k e) end x h landing =
        (h, (x, ap (λ p. instruction_in p end) there ∙ landing), refl)

    reset_calls : (part : Option DataPart) → IsInstructionOf linear name (reset_code part)
    reset_calls None = tt
    reset_calls (Some p) = tt

    begin_calls : (part : Option DataPart) (x : ℕ) → All (finally_begin part x)
    begin_calls None x = (tt, (tt, (tt, tt)))
    begin_calls (Some p) x = (tt, (tt, (tt, tt)))

    pieces_typed : HoldsOfPieces IsTyped (λ at xs. Unit {0}) (λ label. Unit {0})
        (λ label. Unit {0}) (λ names m. Unit {0}) (ExpressionFits program own false)
        (λ x. x < own)
    pieces_typed = record {
      none = λ at r s. (tt, tt);
      both = λ at to xs ys rs qs e h k r s.
          (let x = h (all_front (λ (r : Region). IsNamed name r.kind) rs qs r)
          (front b.code at xs ys s) in
          let y = k (all_back (λ (r : Region). IsNamed name r.kind) rs qs r)
          (back b.code at to xs ys e s) in (
            append program linear callees name xs ys x.0 y.0,
            all_append (IsRegionOf linear name) rs qs x.1 y.1,
          ));
      of_separator = λ at r s. ((tt, tt), tt);
      of_jump = λ at label l r s. ((tt, tt), tt);
      of_unwind = λ at label l r s. ((tt, (tt, tt)), tt);
      of_landing = λ names m begin end at f le n o b' t l r s. (
        (tt, (tt, (reset_calls names.part, tt))),
        (
          record {
            begins = omega arith;
            kind = kind_is f (at + 1) names.free r.0 s.1.0;
          },
          tt,
        ),
      );
      of_finally = λ k begin at o b' t r s.
          ((tt, (r.0, (tt, tt))), (record { begins = omega arith; kind = r.0 }, tt));
      of_zeroed = λ x at d r s. ((tt, tt), tt);
      of_put_zero = λ v at d r s. ((tt, (tt, (tt, tt))), tt);
      of_put_initialiser = λ names m v e at n d h c r s. (value names e at _ h (tt, (tt, tt)), tt);
      of_counted = λ names m k at le n r s. ((tt, tt), tt);
      of_clearing = λ names m v end begin at le n d l b' r s. ((tt, (tt, (tt, tt))), tt);
      of_discarded = λ names m e at n h c r s. (value names e at _ h (tt, tt), tt);
      of_condition = λ names m e label at n h l c r s. (value names e at _ h (tt, tt), tt);
      of_initialiser = λ names m x e at n d h c r s. (value names e at _ h (tt, (tt, tt)), tt);
      of_repeated = λ names m e end begin at n h l b' c r s.
          (value names e at _ h (tt, (tt, (tt, tt))), tt);
      of_return = λ names m e exit at n h w c r s. (returned names e exit at h, tt);
    }

    -- the code and the regions of statements
    pub typed : (ss : Statements) (scope : LoweringContext) (at : ℕ) → StatementsFit program own ss
        → IsTyped at (statements_code scope ss at) (statements_regions ss at)
    typed ss scope at fits = statements_every IsTyped (λ at xs. Unit {0}) (λ xs. Unit {0})
        (λ label. Unit {0}) (λ label. Unit {0}) (λ names m. Unit {0})
        (ExpressionFits program own false) (ExpressionFits program own true) (λ x. x < own)
        any_neutral any_place (λ names m k le n. tt) pieces_typed ss scope at
        (statements_notes ss) (omega arith) tt (any_ways scope) fits tt

  -- ---- funclets

  -- what is claimed of the regions of a part and of its funclets
  pub record AreFine (name : BodyName) (rs : List Region) (j n : ℕ) : Type 0 where
    pub named : AreNamed name rs
    pub funclets : Range (Fine linear) j (j + n)

  -- where these are its funclets and their numbers
  abbrev HasFunclets : BodyName → List Region → List LinearFunclet → List ℕ → Type 0
  HasFunclets name rs fs ks =
      (j : ℕ) → IsSegmentAt linear.funclets j fs → count_up (j + 1) ks ≡ true
      → AreFine name rs j (length fs)

  no_funclets : (name : BodyName) → HasFunclets name [] [] []
  no_funclets name j s n =
      record { named = tt; funclets = no_part (Fine linear) j (j + 0) (omega arith) }

  both : (name : BodyName) (rs qs : List Region) (fs gs : List LinearFunclet) (ks js : List ℕ)
      → length fs ≡ length ks → HasFunclets name rs fs ks → HasFunclets name qs gs js
      → HasFunclets name (rs ++ qs) (fs ++ gs) (ks ++ js)
  both name rs qs fs gs ks js e h k j s n =
      let l = length-append fs gs in
      let x = h j (front linear.funclets j fs gs s) (count_front (j + 1) ks js n) in
      let y = k (j + length fs) (back linear.funclets j (j + length fs) fs gs refl s)
      (count_back (j + 1) (j + length fs + 1) ks js (omega arith) n) in
      let end = j + length fs + length gs in
      record {
        named = all_append (λ (r : Region). IsNamed name r.kind) rs qs x.named y.named;
        funclets = part_of (Fine linear) j end j _ (omega arith) (omega arith)
            (both_parts (Fine linear) j (j + length fs) end x.funclets y.funclets);
      }

  fine : (i : ℕ) (f : LinearFunclet) → slice_get linear.funclets i ≡ Some f
      → IsBodyOf linear (FuncletBody i) f.body → Fine linear i
  fine i f e h b g = subst (IsBodyOf linear (FuncletBody i))
      (same_it f.body b (sym (ap funclet_body e) ∙ g)) h

  filter_has : (name : BodyName) (owner : Owner) → IsOwner linear name owner → (names : Names)
      (f : Filter) (begin end : ℕ) → FilterHas (ExpressionFits program own true) f
      → HasFunclets name (region begin end (except_kind f end) ∷ [])
      (filter_funclets owner (filter_names names) f) (filter_funclet f)
  filter_has name owner o names Always begin end fits j s n =
      record { named = (tt, tt); funclets = no_part (Fine linear) j (j + 0) (omega arith) }
  filter_has name owner o names (Funclet k e) begin end fits j s n =
      let numbered = counted (j + 1) k [] n in
      let same : k - 1 ≡ j = omega arith in
      record {
        named = (
          record {
            funclet = funclets_of.filter_funclet owner (filter_names names) e;
            there = ap (slice_get linear.funclets) same ∙ s.0;
            parent = o.parent;
            owner = o.function;
            fits = tt;
          },
          tt,
        );
        funclets = one_part (Fine linear) j (fine j _ s.0 (record {
          regions = tt;
          code = append program linear callees (FuncletBody j)
              (expression_code (filter_names names) e 0 0) (_ ∷ [])
              (expression_calls program linear callees (FuncletBody j) own true
              (filter_names names) e 0 0 fits) (tt, tt);
        }));
      }

  -- a `__finally` block, with the funclets in it
  block_has : (last : Statements) (name : BodyName) (owner : Owner) → IsOwner linear name owner
      → (names : Names) (k begin end : ℕ) → StatementsFit program own last
      → (IsOwner linear (FuncletBody (k - 1)) (in_funclet (k - 1) owner)
      → HasFunclets (FuncletBody (k - 1)) (statements_regions last 3)
      (statements_funclets (in_funclet (k - 1) owner) (finally_names names) last) (funclets last))
      → HasFunclets name (region begin end (kinds.Finally (k - 1)) ∷ [])
      (finally_funclet owner names last
      ∷ statements_funclets (in_funclet (k - 1) owner) (finally_names names) last)
      (k ∷ funclets last)
  block_has last name owner o names k begin end fits all j s n =
      let funclet = finally_funclet owner names last in
      let numbered = counted (j + 1) k (funclets last) n in
      let same : k - 1 ≡ j = omega arith in
      let there : slice_get linear.funclets (k - 1)
      ≡ Some funclet = ap (slice_get linear.funclets) same ∙ s.0 in
      let name' = FuncletBody (k - 1) in
      let begins = finally_begin names.part names.free in
      let code = statements_code (finally_scope names) last 3 in
      let ends = instructions.Return (Local names.free) ∷ [] in
      let three = begin_three names.part names.free in
      let inner = all (record { parent = refl; function = ap function_of there }) (j + 1) s.1
      (both_right _ _ n) in
      let own_body = typed name' funclet.body (ap funclet_body there) last (finally_scope names) 3
      fits inner.named (front funclet.body.code 3 code ends
      (back funclet.body.code 0 3 begins (code ++ ends) (omega arith)
      (whole_is_at funclet.body.code))) in
      let fl = statements_funclets (in_funclet (k - 1) owner) (finally_names names) last in
      record {
        named = (
          record {
            funclet = funclet;
            there = there;
            parent = o.parent;
            owner = o.function;
            fits = tt;
          },
          tt,
        );
        funclets = part_of (Fine linear) j (j + 1 + length fl) j _ (omega arith) (omega arith)
            (both_parts (Fine linear) j (j + 1) (j + 1 + length fl)
            (one_part (Fine linear) j (subst (Fine linear) same
            (fine (k - 1) funclet there (record {
              regions = own_body.1;
              code = append program linear callees name' begins (code ++ ends)
                  (begin_calls name' funclet.body (ap funclet_body there) names.part names.free)
                  (append program linear callees name' code ends own_body.0 (tt, tt));
            })))) inner.funclets);
      }

  mutual
    statement_has : (s : Statement) (name : BodyName) (owner : Owner) → IsOwner linear name owner
        → (names : Names) (at : ℕ)
        → StatementHas (ExpressionFits program own false) (ExpressionFits program own true)
        (λ x. x < own) s
        → HasFunclets name (statement_regions s at) (statement_funclets owner names s)
        (funclets_in s)
    statement_has (Declare d) name owner o names at fits = no_funclets name
    statement_has (Block ss) name owner o names at fits = statements_have ss name owner o names at
        fits
    statement_has (Evaluate e) name owner o names at fits = no_funclets name
    statement_has (If c s) name owner o names at fits = statement_has s name owner o names
        (at + expression_size c + 1) fits.1
    statement_has (IfElse c s t) name owner o names at fits =
        both name _ _ (statement_funclets owner names s) (statement_funclets owner names t)
        (funclets_in s) (funclets_in t) (statement_count owner names s)
        (statement_has s name owner o names (at + expression_size c + 1) fits.1)
        (statement_has t name owner o names
        (at + expression_size c + 1 + statement_size s + 1) fits.2)
    statement_has (For ds first c next s) name owner o names at fits =
        statement_has s name owner o names
        (at + all_declared_size ds + discarded_size first + condition_size c) fits.4
    statement_has (DoWhile s c) name owner o names at fits = statement_has s name owner o names at
        fits.0
    statement_has (Return e) name owner o names at fits = no_funclets name
    statement_has Break name owner o names at fits = no_funclets name
    statement_has Continue name owner o names at fits = no_funclets name
    statement_has Leave name owner o names at fits = no_funclets name
    statement_has (TryExcept body filter block) name owner o names at fits =
        let target = at + statements_size body + 1 in
        let fb = statements_funclets owner names body in
        let ff = filter_funclets owner (filter_names names) filter in
        let fh = statements_funclets owner (except_names names) block in
        let nf = filter_funclet filter in
        subst (HasFunclets name _ (fb ++ (ff ++ fh)))
        (sym (append_assoc (funclets body) nf (funclets block)))
        (both name _ _ fb (ff ++ fh) (funclets body) (nf ++ funclets block)
        (statements_count owner names body)
        (statements_have body name owner o names at fits.0)
        (both name (region at target (except_kind filter target) ∷ []) _ ff fh nf (funclets block)
        (filter_count owner (filter_names names) filter)
        (filter_has name owner o names filter at target fits.1)
        (statements_have block name owner o (except_names names) (target + 2) fits.2)))
    statement_has (TryFinally body k last) name owner o names at fits =
        both name _ _ (statements_funclets owner names body) _ (funclets body) (k ∷ funclets last)
        (statements_count owner names body)
        (statements_have body name owner o names at fits.0)
        (block_has last name owner o names k at (at + statements_size body + 1) fits.1
        (λ inside. statements_have last (FuncletBody (k - 1)) (in_funclet (k - 1) owner) inside
        (finally_names names) 3 fits.1))

    pub statements_have : (ss : Statements) (name : BodyName) (owner : Owner) → IsOwner linear name
        owner
        → (names : Names) (at : ℕ) → StatementsFit program own ss
        → HasFunclets name (statements_regions ss at) (statements_funclets owner names ss)
        (funclets ss)
    statements_have Empty name owner o names at fits = no_funclets name
    statements_have (Then s ss) name owner o names at fits =
        both name _ _ (statement_funclets owner names s) (statements_funclets owner names ss)
        (funclets_in s) (funclets ss) (statement_count owner names s)
        (statement_has s name owner o names at fits.0)
        (statements_have ss name owner o names (at + statement_size s) fits.1)
