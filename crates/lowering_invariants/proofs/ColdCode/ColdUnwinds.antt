-- No local unwind leads into a cold part.
use Rattle.std.proofs.Common.{◌≡◌, inl, inr, ℕ, ◌+◌, ◌≤◌, Bool, true, false, List, [], ◌∷◌, ◌++◌, length, refl, sym, subst, arith, length-append}
use Rattle.std.specs.Prelude.{if◌then◌else◌}
use Rattle.std.specs.List.{AllByRecursion}
use Rattle.linear_code.specs.declared.program.LabelRange.{LabelRange}
use Rattle.linear_code.specs.declared.instruction.Instruction.TheVariants as instructions
use Rattle.seh_ir.specs.ColdParts.{cold_range, is_cold, statement_tries}
use Rattle.c_checked.specs.declared.function.DataPart.{DataPart}
use Rattle.seh_ir.specs.Statements.{reset_code}
use Rattle.std.specs.Prelude.{Option, None, Some}
use Rattle.lowering_invariants.specs.Words.{Statement, Declare, Block, Evaluate, If, IfElse, For, DoWhile, Return, Break, Continue, Leave, TryExcept, TryFinally, Statements, Empty, Then, Instruction, LoweringContext, in_loop, expression_size, discarded_size, condition_size, all_declared_size, statement_size, statements_size, expression_code, discarded_code, condition_code, all_declared_code, statement_code, statements_code, statement_cold, statements_cold}
use Rattle.lowering_sizes.specs.Sizes.{statement_notes}
use Rattle.lowering_invariants.specs.ColdParts.{IsOutOf}
use Rattle.seh_ir.proofs.EveryStatement.{statement_every}
use Rattle.seh_ir.proofs.StatementParts.{statement_has}
use Rattle.lowering_invariants.proofs.Lemmas.{all_append, WaysHave, IsPlaced, any_neutral, HoldsOfInstructions, all_pieces, statement_length}
use Rattle.lowering_invariants.proofs.Stacks.StackTargets.{all_map}
use Rattle.lowering_invariants.proofs.Regions.NoBlocks.{MayBeCold, AllMayBeCold, expression_may_be_cold}
use Rattle.lowering_invariants.proofs.Labels.UnwindTargets.{discarded_may_be_cold, condition_may_be_cold, declared_may_be_cold}
use Rattle.lowering_invariants.proofs.ColdCode.ColdRanges.{Rising, IsBetween, all_between, rising_cases, statement_rising, statements_rising, no_try}
use Rattle.lowering_invariants.proofs.ColdCode.ColdInstructions.{HasJumps, in_loop_jumps, statement_ordinary}

-- ---- labels beside cold parts

abbrev pub AreOutOf : ℕ → List LabelRange → Type 0
AreOutOf label ps = AllByRecursion (IsOutOf label) ps

pub out_before : (label low high : ℕ) (ps : List LabelRange) → label ≤ low → Rising low high ps
    → AreOutOf label ps
out_before label low high ps l r =
    all_map (IsBetween low high) (IsOutOf label) ps
    (λ p w. (let b = w.begins in inl (omega arith))) (all_between low high ps r)

pub out_after : (label low high : ℕ) (ps : List LabelRange) → high ≤ label → Rising low high ps
    → AreOutOf label ps
out_after label low high ps l r =
    all_map (IsBetween low high) (IsOutOf label) ps
    (λ p w. (let e = w.ends in inr (omega arith))) (all_between low high ps r)

module _ (cold : List LabelRange) where
  -- a label in no cold part of the body
  abbrev pub IsHot : ℕ → Type 0
  IsHot label = AreOutOf label cold

  abbrev pub GoesHot : Instruction → Type 0
  GoesHot (instructions.LocalUnwind label) = IsHot label
  GoesHot i = Unit {0}

  abbrev pub AllGoHot : List Instruction → Type 0
  AllGoHot is = AllByRecursion GoesHot is

  ordinary_hot : (i : Instruction) → MayBeCold i → GoesHot i
  ordinary_hot (instructions.LocalUnwind label) h = absurd (cc)
  ordinary_hot i h = tt

  pub ordinary_go_hot : (is : List Instruction) → AllMayBeCold is → AllGoHot is
  ordinary_go_hot is = all_map MayBeCold GoesHot is ordinary_hot

  both : (xs ys : List Instruction) → AllMayBeCold xs → AllGoHot ys → AllGoHot (xs ++ ys)
  both xs ys h k = all_append GoesHot xs ys (ordinary_go_hot xs h) k

  -- ---- where no label is in a cold part

  abbrev AllHot : ℕ → List Instruction → Type 0
  AllHot at xs = (label : ℕ) → at ≤ label → label ≤ at + length xs → IsHot label

  places_hot : IsPlaced AllHot (λ xs. Unit {0}) IsHot
  places_hot = record {
    front = λ at xs ys c label a b. (let l = length-append xs ys in c label a (omega arith));
    back = λ at to xs ys e m c label a b.
        (let l = length-append xs ys in c label (omega arith) (omega arith));
    begins = λ at xs c. c at (omega arith) (omega arith);
    ends = λ at to xs e m c. c to (omega arith) (omega arith);
  }

  reset_goes_hot : (part : Option DataPart) → GoesHot (reset_code part)
  reset_goes_hot None = tt
  reset_goes_hot (Some p) = tt

  instructions_go_hot : HoldsOfInstructions GoesHot IsHot IsHot (λ names m. Unit {0})
      (λ e. Unit {0}) (λ x. Unit {0})
  instructions_go_hot = record {
    of_value = λ names m e at k h. ordinary_go_hot (expression_code names e 0 at)
        (expression_may_be_cold names e 0 at);
    of_constant = tt;
    of_zeroed = λ x d. tt;
    of_kept = λ x d. tt;
    of_separator = tt;
    of_jump = λ label l. tt;
    of_test = λ label l. tt;
    of_unwind = λ label l. l;
    of_exit_jump = λ label l. tt;
    of_exit = λ label l. l;
    of_put = λ v d. tt;
    of_counted = λ names m k le n. tt;
    of_rest_test = λ names m label le n l. tt;
    of_cleared = λ names m v le n d. tt;
    of_reset = λ names m le n. reset_goes_hot names.part;
    of_landing = λ names m le k. tt;
    of_finally = λ k. tt;
  }

  all_hot : (s : Statement) (scope : LoweringContext) (at : ℕ) → WaysHave IsHot IsHot scope
      → AllHot at (statement_code scope s at) → AllGoHot (statement_code scope s at)
  all_hot s scope at v c =
      statement_every (λ at xs rs. AllGoHot xs) AllHot (λ xs. Unit {0}) IsHot IsHot
      (λ names m. Unit {0}) (λ e. Unit {0}) (λ e. Unit {0}) (λ x. Unit {0})
      any_neutral places_hot (λ names m k le h. tt)
      (all_pieces GoesHot AllHot IsHot IsHot (λ names m. Unit {0})
      (λ e. Unit {0}) (λ x. Unit {0}) instructions_go_hot) s scope at (statement_notes s)
      (omega arith) tt v (statement_has (λ e. Unit {0}) (λ e. Unit {0}) (λ x. Unit {0}) (λ e. tt)
      (λ e. tt) (λ x. tt) s) c

  -- ---- statements, of whose labels those out of these cold parts are out of all

  abbrev HasOwn : ℕ → ℕ → List LabelRange → Type 0
  HasOwn at to ps = (label : ℕ) → at ≤ label → label ≤ to → AreOutOf label ps → IsHot label

  -- what holds a `__try` has no cold part around that
  guarded_hot : (s : Statement) (scope : LoweringContext) (at : ℕ) → WaysHave IsHot IsHot scope
      → HasOwn at (at + statement_size s) [] → AllGoHot (statement_code scope s at)
  guarded_hot s scope at v own =
      let l = statement_length scope s at in
      all_hot s scope at v (λ label a b. own label a (omega arith) tt)

  looped : (end again : ℕ) (scope : LoweringContext) → IsHot end → IsHot again
      → WaysHave IsHot IsHot scope → WaysHave IsHot IsHot (in_loop end again scope)
  looped end again scope e a v =
      record { exit = v.exit; loop_end = e; loop_next = a; leave = v.leave }

  simple_hot : (s : Statement) (scope : LoweringContext) (at : ℕ) → HasJumps scope
      → statement_tries s ≡ false → AllGoHot (statement_code scope s at)
  simple_hot s scope at w h =
      ordinary_go_hot (statement_code scope s at) (statement_ordinary s scope at w h)

  branch_hot : (t : Statement) (b : Bool) (scope : LoweringContext) (at : ℕ) → HasJumps scope
      → is_cold t ≡ b → (is_cold t ≡ false → AllGoHot (statement_code scope t at))
      → AllGoHot (statement_code scope t at)
  branch_hot t true scope at w e f = simple_hot t scope at w (no_try t e)
  branch_hot t false scope at w e f = f e

  mutual
    pub statement_goes_hot : (s : Statement) (scope : LoweringContext) (at : ℕ)
        → HasJumps scope → WaysHave IsHot IsHot scope
        → HasOwn at (at + statement_size s) (statement_cold s at)
        → AllGoHot (statement_code scope s at)
    statement_goes_hot (Declare d) scope at w v own = simple_hot (Declare d) scope at w refl
    statement_goes_hot (Block ss) scope at w v own = statements_go_hot ss scope at w v own
    statement_goes_hot (Evaluate e) scope at w v own = simple_hot (Evaluate e) scope at w refl
    statement_goes_hot (If c s) scope at w v own =
        let yes = at + expression_size c + 1 in
        both (expression_code scope.names c 0 at) _ (expression_may_be_cold scope.names c 0 at) (
          tt,
          statement_goes_hot s scope yes w v
              (λ label a b h. own label (omega arith) (omega arith) h),
        )
    statement_goes_hot (IfElse c s t) scope at w v own =
        let yes = at + expression_size c + 1 in
        let skips = yes + statement_size s in
        let otherwise = skips + 1 in
        let last = otherwise + statement_size t in
        let ps = statement_cold s yes in
        let qs = statement_cold t otherwise in
        let later = rising_cases (is_cold t) skips otherwise (statement_size t) (last + 1) qs
        (omega arith) (omega arith) (statement_rising t otherwise) in
        both (expression_code scope.names c 0 at) _ (expression_may_be_cold scope.names c 0 at) (
          tt,
          all_append GoesHot (statement_code scope s yes) _
              (statement_goes_hot s scope yes w v (λ label a b h. own label (omega arith)
              (omega arith) (all_append (IsOutOf label) ps _ h
              (out_before label skips (last + 1) _ (omega arith) later)))) (
                tt,
                all_append GoesHot (statement_code scope t otherwise) _
                    (branch_hot t (is_cold t) scope otherwise w refl
                    (λ e. statement_goes_hot t scope otherwise w v (λ label a b h. own label
                    (omega arith) (omega arith) (all_append (IsOutOf label) ps _
                    (out_after label yes skips ps (omega arith) (statement_rising s yes))
                    (subst (λ x. AreOutOf label (if x then cold_range otherwise (last + 1) ∷ []
                    else qs)) (sym e) h))))) (tt, tt),
              ),
        )
    statement_goes_hot (For ds first c next s) scope at w v own =
        let names = scope.names in
        let begin = at + all_declared_size ds in
        let iteration = begin + discarded_size first in
        let start = iteration + condition_size c in
        let again = start + statement_size s in
        let end = again + 1 + discarded_size next + 1 in
        let inner = in_loop end again scope in
        let ps = statement_cold s start in
        let rising = statement_rising s start in
        let hot_end = own end (omega arith) (omega arith)
        (out_after end start again ps (omega arith) rising) in
        let hot_next = own again (omega arith) (omega arith)
        (out_after again start again ps (omega arith) rising) in
        both (all_declared_code names ds at) _ (declared_may_be_cold names ds at)
        (both (discarded_code names first begin) _ (discarded_may_be_cold names first begin)
        (both (condition_code names c end iteration) _
        (condition_may_be_cold names c end iteration)
        (all_append GoesHot (statement_code inner s start) _
        (statement_goes_hot s inner start (in_loop_jumps end again scope w)
        (looped end again scope hot_end hot_next v)
        (λ label a b h. own label (omega arith) (omega arith) h)) (
          tt,
          both (discarded_code names next (again + 1)) _
              (discarded_may_be_cold names next (again + 1)) (tt, (tt, tt)),
        ))))
    statement_goes_hot (DoWhile s c) scope at w v own =
        let again = at + statement_size s in
        let end = again + 1 + expression_size c + 2 in
        let inner = in_loop end again scope in
        let ps = statement_cold s at in
        let rising = statement_rising s at in
        let hot_end = own end (omega arith) (omega arith)
        (out_after end at again ps (omega arith) rising) in
        let hot_next = own again (omega arith) (omega arith)
        (out_after again at again ps (omega arith) rising) in
        all_append GoesHot (statement_code inner s at) _
        (statement_goes_hot s inner at (in_loop_jumps end again scope w)
        (looped end again scope hot_end hot_next v)
        (λ label a b h. own label (omega arith) (omega arith) h)) (
          tt,
          both (expression_code scope.names c 0 (again + 1)) _
              (expression_may_be_cold scope.names c 0 (again + 1)) (tt, (tt, (tt, tt))),
        )
    statement_goes_hot (Return e) scope at w v own = simple_hot (Return e) scope at w refl
    statement_goes_hot Break scope at w v own = simple_hot Break scope at w refl
    statement_goes_hot Continue scope at w v own = simple_hot Continue scope at w refl
    statement_goes_hot Leave scope at w v own = simple_hot Leave scope at w refl
    statement_goes_hot (TryExcept body filter block) scope at w v own =
        guarded_hot (TryExcept body filter block) scope at v own
    statement_goes_hot (TryFinally body k last) scope at w v own =
        guarded_hot (TryFinally body k last) scope at v own

    pub statements_go_hot : (ss : Statements) (scope : LoweringContext) (at : ℕ)
        → HasJumps scope → WaysHave IsHot IsHot scope
        → HasOwn at (at + statements_size ss) (statements_cold ss at)
        → AllGoHot (statements_code scope ss at)
    statements_go_hot Empty scope at w v own = tt
    statements_go_hot (Then s ss) scope at w v own =
        let next = at + statement_size s in
        let to = next + statements_size ss in
        let ps = statement_cold s at in
        let qs = statements_cold ss next in
        all_append GoesHot (statement_code scope s at) _
        (statement_goes_hot s scope at w v (λ label a b h. own label (omega arith)
        (omega arith) (all_append (IsOutOf label) ps qs h
        (out_before label next to qs (omega arith) (statements_rising ss next)))))
        (statements_go_hot ss scope next w v (λ label a b h. own label (omega arith)
        (omega arith) (all_append (IsOutOf label) ps qs
        (out_after label at next ps (omega arith) (statement_rising s at)) h)))
