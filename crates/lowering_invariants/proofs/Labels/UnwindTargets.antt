-- In lowered code a local unwind leads forth, to an instruction of its own, and no region that
-- holds its target begins between, or at the target.
use Rattle.std.proofs.Common.{◌≡◌, ◌⊎◌, inl, inr, ℕ, zero, suc, ◌+◌, ◌-◌, ◌<◌, ◌≤◌, List, [], ◌∷◌, ◌++◌, length, refl, subst, arith}
use Rattle.std.specs.List.{AllByRecursion}
use Rattle.std.specs.Prelude.{true, slice_get, Option, Some, None}
use Rattle.c_checked.specs.declared.statement.StackedVariable.{StackedVariable}
use Rattle.seh_ir.specs.Statements.{put_initialiser_code, stacked_declared_code, declared_at_code}
use Rattle.c_checked.specs.declared.function.DataPart.{DataPart}
use Rattle.seh_ir.specs.Statements.{reset_code}
use Rattle.lowering_invariants.specs.Words.{Expression, Declared, Statement, Declare, Block, Evaluate, If, IfElse, For, DoWhile, Return, Break, Continue, Leave, TryExcept, TryFinally, Statements, Empty, Then, Temporary, Instruction, Jump, JumpIfZero, Separator, LocalUnwind, Region, expression_size, discarded_size, condition_size, all_declared_size, statement_size, statements_size, Names, Way, Nowhere, Jumps, LoweringContext, expression_code, jump_code, return_code, leave_code, returned_code, discarded_code, condition_code, declared_code, all_declared_code, initialiser_code, repeated, statement_code, statements_code, except_kind, region, statement_regions, statements_regions, in_loop, in_try, in_except, in_guarded, is_target}
use Rattle.linear_code.specs.declared.program.RegionKind.TheVariants as kinds
use Rattle.lowering_expressions.specs.declared.scope.Way.TheVariants.{Unwinds}
use Rattle.lowering_sizes.specs.Sizes.{returned_size}
use Rattle.seh_ir.proofs.EveryStatement.{unwound_has}
use Rattle.seh_ir.proofs.StatementCodes.{returned_length}
use Rattle.lowering_invariants.proofs.Lemmas.{expression_length, statements_length, statement_length, discarded_length, condition_length, all_declared_length, WayHas, all_append, IsSegmentAt, front, back}
use Rattle.lowering_invariants.proofs.Stacks.StackTargets.{all_map, same_it}
use Rattle.lowering_invariants.proofs.Regions.NoBlocks.{MayBeCold, AllMayBeCold, expression_may_be_cold}
use Rattle.lowering_invariants.proofs.Regions.RegionRanges.{IsWithin, AreWithin, statement_within, statements_within}

-- ---- code that may be cold

module _ (names : Names) where
  used : (e : Expression) (at : ℕ) (rest : List Instruction) → AllMayBeCold rest
      → AllMayBeCold (expression_code names e 0 at ++ rest)
  used e at rest h = all_append MayBeCold (expression_code names e 0 at) rest
      (expression_may_be_cold names e 0 at) h

  pub discarded_may_be_cold : (e : Option Expression) (at : ℕ)
      → AllMayBeCold (discarded_code names e at)
  discarded_may_be_cold None at = tt
  discarded_may_be_cold (Some e) at = used e at (Separator ∷ []) (refl, tt)

  pub condition_may_be_cold : (e : Option Expression) (label at : ℕ)
      → AllMayBeCold (condition_code names e label at)
  condition_may_be_cold None label at = tt
  condition_may_be_cold (Some e) label at = used e at _ (refl, tt)

  pub returned_may_be_cold : (e : Option Expression) (at : ℕ)
      → AllMayBeCold (returned_code names e at)
  returned_may_be_cold None at = (refl, tt)
  returned_may_be_cold (Some e) at = expression_may_be_cold names e 0 at

  pub initialiser_may_be_cold : (x : ℕ) (e : Option Expression) (at : ℕ)
      → AllMayBeCold (initialiser_code names x e at)
  initialiser_may_be_cold x None at = tt
  initialiser_may_be_cold x (Some e) at = used e at _ (refl, (refl, tt))

  put_may_be_cold : (v : StackedVariable) (e : Option Expression) (at : ℕ)
      → AllMayBeCold (put_initialiser_code names v e at)
  put_may_be_cold v None at = tt
  put_may_be_cold v (Some e) at = used e at _ (refl, (refl, tt))

  stacked_may_be_cold : (v : StackedVariable) (n : Option ℕ) (e : Option Expression) (at : ℕ)
      → AllMayBeCold (stacked_declared_code names v n e at)
  stacked_may_be_cold v (Some n) e at = (refl, (refl, (refl, (refl, (refl, tt)))))
  stacked_may_be_cold v None e at = (refl, (refl, (refl, put_may_be_cold v e (at + 3))))

  pub declared_at_may_be_cold : (v : Option StackedVariable) (x : ℕ) (e : Option Expression)
      (at : ℕ) → AllMayBeCold (declared_at_code names v x e at)
  declared_at_may_be_cold None x e at = (refl, initialiser_may_be_cold x e (at + 1))
  declared_at_may_be_cold (Some v) x e at = stacked_may_be_cold v v.elements e at

  pub declared_may_be_cold : (ds : List Declared) (at : ℕ)
      → AllMayBeCold (all_declared_code names ds at)
  declared_may_be_cold [] at = tt
  declared_may_be_cold (d ∷ ds) at =
      all_append MayBeCold (declared_code names d at) _
      (declared_at_may_be_cold d.stacked d.local d.value at) (declared_may_be_cold ds _)

-- ---- ranges

-- a region doesn't begin between these labels, or at the second, if it doesn't end before that
abbrev pub IsClear : ℕ → ℕ → Region → Type 0
IsClear low high r = (r.begin ≤ low) ⊎ (high < r.begin) ⊎ (r.end ≤ high)

abbrev pub AreClear : ℕ → ℕ → List Region → Type 0
AreClear low high rs = AllByRecursion (IsClear low high) rs

-- a region doesn't begin in this range
abbrev IsOutside : ℕ → ℕ → Region → Type 0
IsOutside low high r = (r.begin ≤ low) ⊎ (high ≤ r.begin)

abbrev AreOutside : ℕ → ℕ → List Region → Type 0
AreOutside low high rs = AllByRecursion (IsOutside low high) rs

clear_later : (low low' high : ℕ) (r : Region) → low ≤ low' → IsClear low high r
    → IsClear low' high r
clear_later low low' high r l (inl b) = inl (omega arith)
clear_later low low' high r l (inr e) = inr e

outside_clear : (at to low high : ℕ) (r : Region) → at ≤ low → high < to → IsOutside at to r
    → IsClear low high r
outside_clear at to low high r a b (inl p) = inl (omega arith)
outside_clear at to low high r a b (inr p) = inr (inl (omega arith))

pub within_clear : (at to low high : ℕ) (rs : List Region) → to ≤ high → AreWithin at to rs
    → AreClear low high rs
within_clear at to low high rs l =
    all_map (IsWithin at to) (IsClear low high) rs
    (λ r w. (let e = w.ends in inr (inr (omega arith))))

earlier_outside : (low high at to : ℕ) (rs : List Region) → high ≤ at → AreWithin low high rs
    → AreOutside at to rs
earlier_outside low high at to rs l =
    all_map (IsWithin low high) (IsOutside at to) rs
    (λ r w. (let s = w.some in let e = w.ends in inl (omega arith)))

later_outside : (low high at to : ℕ) (rs : List Region) → to ≤ low → AreWithin low high rs
    → AreOutside at to rs
later_outside low high at to rs l =
    all_map (IsWithin low high) (IsOutside at to) rs
    (λ r w. (let b = w.begins in inr (omega arith)))

-- ---- in a body with these regions and this code

module _ (regions : List Region) (code : List Instruction) where
  -- within this range what is clear of these regions is clear of all
  abbrev pub HasOwn : ℕ → ℕ → List Region → Type 0
  HasOwn at to rs = (low high : ℕ) → at ≤ low → high < to → AreClear low high rs
      → AreClear low high regions

  narrower : (at to at' to' : ℕ) (rs : List Region) → at ≤ at' → to' ≤ to → HasOwn at to rs
      → HasOwn at' to' rs
  narrower at to at' to' rs a b own low high p q h = own low high (omega arith) (omega arith) h

  front_own : (at to at' to' : ℕ) (rs qs : List Region) → at ≤ at' → to' ≤ to
      → AreOutside at' to' qs → HasOwn at to (rs ++ qs) → HasOwn at' to' rs
  front_own at to at' to' rs qs a b out own low high p q h =
      own low high (omega arith) (omega arith) (all_append (IsClear low high) rs qs h
      (all_map (IsOutside at' to') (IsClear low high) qs
      (λ r o. outside_clear at' to' low high r p q o) out))

  back_own : (at to at' to' : ℕ) (rs qs : List Region) → at ≤ at' → to' ≤ to
      → AreOutside at' to' rs → HasOwn at to (rs ++ qs) → HasOwn at' to' qs
  back_own at to at' to' rs qs a b out own low high p q h =
      own low high (omega arith) (omega arith) (all_append (IsClear low high) rs qs
      (all_map (IsOutside at' to') (IsClear low high) rs
      (λ r o. outside_clear at' to' low high r p q o) out) h)

  -- ---- ways out

  -- an instruction of its own is at a label
  abbrev pub IsOwn : ℕ → Type 0
  IsOwn label = (i : Instruction) × (slice_get code label ≡ Some i) × (is_target i ≡ true)

  -- such a label after this range
  abbrev pub LeadsOn : ℕ → ℕ → ℕ → Type 0
  LeadsOn at to label = (to ≤ label) × AreClear at label regions × IsOwn label

  pub record WaysLead (at to : ℕ) (scope : LoweringContext) : Type 0 where
    pub exit : WayHas (LeadsOn at to) scope.exit
    pub loop_end : WayHas (LeadsOn at to) scope.loop_end
    pub loop_next : WayHas (LeadsOn at to) scope.loop_next

  on_from : (at to at' to' label : ℕ) → at ≤ at' → to' ≤ to → LeadsOn at to label
      → LeadsOn at' to' label
  on_from at to at' to' label a b h = (
    omega arith,
    all_map (IsClear at label) (IsClear at' label) regions
        (λ r c. clear_later at at' label r a c) h.1,
    h.2,
  )

  way_from : (at to at' to' : ℕ) (w : Way) → at ≤ at' → to' ≤ to → WayHas (LeadsOn at to) w
      → WayHas (LeadsOn at' to') w
  way_from at to at' to' Nowhere a b h = tt
  way_from at to at' to' (Jumps label) a b h = on_from at to at' to' label a b h
  way_from at to at' to' (Unwinds label) a b h = on_from at to at' to' label a b h

  ways_from : (at to at' to' : ℕ) (scope : LoweringContext) → at ≤ at' → to' ≤ to
      → WaysLead at to scope → WaysLead at' to' scope
  ways_from at to at' to' scope a b w = record {
    exit = way_from at to at' to' scope.exit a b w.exit;
    loop_end = way_from at to at' to' scope.loop_end a b w.loop_end;
    loop_next = way_from at to at' to' scope.loop_next a b w.loop_next;
  }

  -- ---- code at its place

  -- a local unwind leads on
  abbrev pub Leads : ℕ → Instruction → Type 0
  Leads at (LocalUnwind label) = LeadsOn at (at + 1) label
  Leads at i = Unit {0}

  abbrev pub AllLead : ℕ → List Instruction → Type 0
  AllLead at [] = Unit {0}
  AllLead at (i ∷ is) = Leads at i × AllLead (at + 1) is

  pub lead_append : (at to : ℕ) (xs ys : List Instruction) → at + length xs ≡ to → AllLead at xs
      → AllLead to ys → AllLead at (xs ++ ys)
  lead_append at to [] ys e h k = let same : to ≡ at = omega arith in
      subst (λ n. AllLead n ys) same k
  lead_append at to (x ∷ xs) ys e h k = (h.0, lead_append (at + 1) to xs ys (omega arith) h.1 k)

  plain_leads : (at : ℕ) (i : Instruction) → MayBeCold i → Leads at i
  plain_leads at (LocalUnwind label) e = absurd (cc)
  plain_leads at i e = tt

  pub plain_lead : (at : ℕ) (is : List Instruction) → AllMayBeCold is → AllLead at is
  plain_lead at [] h = tt
  plain_lead at (i ∷ is) h = (plain_leads at i h.0, plain_lead (at + 1) is h.1)

  jump_leads : (at : ℕ) (w : Way) → WayHas (LeadsOn at (at + 2)) w → AllLead at (jump_code w)
  jump_leads at Nowhere h = (tt, (tt, tt))
  jump_leads at (Jumps label) h = (tt, (tt, tt))
  jump_leads at (Unwinds label) h = ((omega arith, h.1, h.2), (tt, tt))

  return_leads : (at : ℕ) (w : Way) → WayHas (LeadsOn at (at + 2)) w → AllLead at (return_code w)
  return_leads at w h = jump_leads at w h

  leave_leads : (at : ℕ) (w : Option ℕ) → AllLead at (leave_code w ∷ [])
  leave_leads at None = (tt, tt)
  leave_leads at (Some label) = (tt, tt)

  when : (names : Names) (c : Expression) (label at : ℕ) (rest : List Instruction)
      → AllLead (at + expression_size c + 1) rest
      → AllLead at (expression_code names c 0 at ++ JumpIfZero (Temporary 0) label ∷ rest)
  when names c label at rest h =
      let l = expression_length names c 0 at in
      lead_append at (at + expression_size c) (expression_code names c 0 at) _ (omega arith)
      (plain_lead at (expression_code names c 0 at) (expression_may_be_cold names c 0 at)) (tt, h)

  -- what comes after a condition with its jump
  pub after_test : (names : Names) (c : Expression) (label at : ℕ) (rest : List Instruction)
      → IsSegmentAt code at (expression_code names c 0 at ++ JumpIfZero (Temporary 0) label ∷ rest)
      → IsSegmentAt code (at + expression_size c + 1) rest
  after_test names c label at rest g =
      let l = expression_length names c 0 at in
      (back code at (at + expression_size c) (expression_code names c 0 at)
      (JumpIfZero (Temporary 0) label ∷ rest) (omega arith) g).1

  -- the ways out in the body of a loop
  looped : (s : Statement) (scope : LoweringContext) (at to start again end : ℕ)
      → at ≤ start → start + statement_size s ≡ again → again ≤ end → end < to
      → slice_get code again ≡ Some Separator → slice_get code end ≡ Some Separator
      → HasOwn at to (statement_regions s start) → WaysLead at to scope
      → WaysLead start again (in_loop end again scope)
  looped s scope at to start again end a e b c g f own w =
      let rs = statement_regions s start in
      let inside = statement_within s start in
      record {
        exit = way_from at to start again scope.exit a (omega arith) w.exit;
        loop_end = (
          b,
          own start end a c (within_clear start (start + statement_size s) start end rs
              (omega arith) inside),
          (Separator, f, refl),
        );
        loop_next = (
          omega arith,
          own start again a (omega arith) (within_clear start (start + statement_size s) start
              again rs (omega arith) inside),
          (Separator, g, refl),
        );
      }

  reset_lead : (at : ℕ) (part : Option DataPart) → Leads at (reset_code part)
  reset_lead at None = tt
  reset_lead at (Some p) = tt

  mutual
    -- the local unwinds of a statement, where its ways out lead on
    pub statement_leads : (s : Statement) (scope : LoweringContext) (at to : ℕ)
        → at + statement_size s ≡ to → IsSegmentAt code at (statement_code scope s at)
        → WaysLead at to scope → HasOwn at to (statement_regions s at)
        → AllLead at (statement_code scope s at)
    statement_leads (Declare d) scope at to e g w own =
        plain_lead at (declared_code scope.names d at)
        (declared_at_may_be_cold scope.names d.stacked d.local d.value at)
    statement_leads (Block ss) scope at to e g w own = statements_lead ss scope at to e g w own
    statement_leads (Evaluate x) scope at to e g w own =
        plain_lead at (discarded_code scope.names x at) (discarded_may_be_cold scope.names x at)
    statement_leads (If c s) scope at to e g w own =
        let then = at + expression_size c + 1 in
        let g1 = after_test scope.names c _ at _ g in
        when scope.names c _ at _ (statement_leads s scope then to (omega arith) g1
        (ways_from at to then to scope (omega arith) (omega arith) w)
        (narrower at to then to (statement_regions s then) (omega arith) (omega arith) own))
    statement_leads (IfElse c s t) scope at to e g w own =
        let then = at + expression_size c + 1 in
        let skips = then + statement_size s in
        let otherwise = skips + 1 in
        let last = otherwise + statement_size t in
        let rs = statement_regions s then in
        let qs = statement_regions t otherwise in
        let l = statement_length scope s then in
        let k = statement_length scope t otherwise in
        let yes = statement_code scope s then in
        let no = statement_code scope t otherwise in
        let g1 = after_test scope.names c _ at _ g in
        let g2 = back code then skips yes _ (omega arith) g1 in
        when scope.names c _ at _ (lead_append then skips yes _ (omega arith)
        (statement_leads s scope then skips refl (front code then yes _ g1)
        (ways_from at to then skips scope (omega arith) (omega arith) w)
        (front_own at to then skips rs qs (omega arith) (omega arith)
        (later_outside otherwise last then skips qs (omega arith)
        (statement_within t otherwise)) own)) (
          tt,
          lead_append otherwise last no _ (omega arith)
              (statement_leads t scope otherwise last refl (front code otherwise no _ g2.1)
              (ways_from at to otherwise last scope (omega arith) (omega arith) w)
              (back_own at to otherwise last rs qs (omega arith) (omega arith)
              (earlier_outside then skips otherwise last rs (omega arith) (statement_within s then))
              own)) (tt, tt),
        ))
    statement_leads (For ds first c next s) scope at to e g w own =
        let names = scope.names in
        let begin = at + all_declared_size ds in
        let iteration = begin + discarded_size first in
        let start = iteration + condition_size c in
        let again = start + statement_size s in
        let step = again + 1 + discarded_size next in
        let end = step + 1 in
        let inner = in_loop end again scope in
        let rs = statement_regions s start in
        let ld = all_declared_length names ds at in
        let lf = discarded_length names first begin in
        let lt = condition_length names c end iteration in
        let ls = statement_length inner s start in
        let ln = discarded_length names next (again + 1) in
        let declares = all_declared_code names ds at in
        let begins = discarded_code names first begin in
        let tests = condition_code names c end iteration in
        let turns = statement_code inner s start in
        let steps = discarded_code names next (again + 1) in
        let g1 = back code at begin declares _ (omega arith) g in
        let g2 = back code begin iteration begins _ (omega arith) g1 in
        let g3 = back code iteration start tests _ (omega arith) g2 in
        let g4 = back code start again turns _ (omega arith) g3 in
        let g5 = back code (again + 1) step steps _ (omega arith) g4.1 in
        lead_append at begin declares _ (omega arith)
        (plain_lead at declares (declared_may_be_cold names ds at))
        (lead_append begin iteration begins _ (omega arith)
        (plain_lead begin begins (discarded_may_be_cold names first begin))
        (lead_append iteration start tests _ (omega arith)
        (plain_lead iteration tests (condition_may_be_cold names c end iteration))
        (lead_append start again turns _ (omega arith)
        (statement_leads s inner start again refl (front code start turns _ g3)
        (looped s scope at to start again end (omega arith) refl (omega arith) (omega arith) g4.0
        g5.1.0 own w)
        (narrower at to start again rs (omega arith) (omega arith) own)) (
          tt,
          lead_append (again + 1) step steps _ (omega arith)
              (plain_lead (again + 1) steps (discarded_may_be_cold names next (again + 1)))
              (tt, (tt, tt)),
        ))))
    statement_leads (DoWhile s c) scope at to e g w own =
        let again = at + statement_size s in
        let end = again + 1 + expression_size c + 2 in
        let inner = in_loop end again scope in
        let rs = statement_regions s at in
        let l = statement_length inner s at in
        let turns = statement_code inner s at in
        let last = again + 1 + expression_size c + 1 + 1 in
        let same : last ≡ end = omega arith in
        let g1 = back code at again turns _ (omega arith) g in
        let g2 = after_test scope.names c end (again + 1) (Jump at ∷ Separator ∷ []) g1.1 in
        lead_append at again turns _ (omega arith)
        (statement_leads s inner at again refl (front code at turns _ g)
        (looped s scope at to at again end (omega arith) refl (omega arith) (omega arith) g1.0
        (subst (λ k. slice_get code k ≡ Some Separator) same g2.1.0) own w)
        (narrower at to at again rs (omega arith) (omega arith) own)) (
          tt,
          plain_lead (again + 1) (expression_code scope.names c 0 (again + 1) ++ repeated end at)
              (used scope.names c (again + 1) (repeated end at) (refl, (refl, (refl, tt)))),
        )
    statement_leads (Return x) scope at to e g w own =
        let mid = at + returned_size x in
        let l = returned_length scope.names x at in
        lead_append at mid (returned_code scope.names x at) (return_code scope.exit) (omega arith)
        (plain_lead at (returned_code scope.names x at) (returned_may_be_cold scope.names x at))
        (return_leads mid scope.exit (way_from at to mid (mid + 2) scope.exit (omega arith)
        (omega arith) w.exit))
    statement_leads Break scope at to e g w own = jump_leads at scope.loop_end
        (way_from at to at (at + 2) scope.loop_end (omega arith) (omega arith) w.loop_end)
    statement_leads Continue scope at to e g w own = jump_leads at scope.loop_next
        (way_from at to at (at + 2) scope.loop_next (omega arith) (omega arith) w.loop_next)
    statement_leads Leave scope at to e g w own = leave_leads at scope.leave
    statement_leads (TryExcept body filter block) scope at to e g w own =
        let ends = at + statements_size body in
        let target = ends + 1 in
        let end = target + 2 + statements_size block in
        let inner = in_try end scope in
        let mine = region at target (except_kind filter target) in
        let rs = statements_regions body at in
        let qs = statements_regions block (target + 2) in
        let l = statements_length inner body at in
        let v = ways_from at to at ends scope (omega arith) (omega arith) w in
        let u = ways_from at to (target + 2) to scope (omega arith) (omega arith) w in
        let guarded = statements_code inner body at in
        let g1 = back code at ends guarded _ (omega arith) g in
        lead_append at ends guarded _ (omega arith)
        (statements_lead body inner at ends refl (front code at guarded _ g)
        (record { exit = v.exit; loop_end = v.loop_end; loop_next = v.loop_next })
        (front_own at to at ends rs (mine ∷ qs) (omega arith) (omega arith) (
          inl (omega arith),
          later_outside (target + 2) (target + 2 + statements_size block) at ends qs (omega arith)
              (statements_within block (target + 2)),
        ) own)) (
          tt,
          (
            tt,
            (
              reset_lead (target + 1) scope.names.part,
              subst (λ p. AllLead p (statements_code (in_except scope) block (target + 2)))
                  (omega arith)
                  (statements_lead block (in_except scope) (target + 2) to (omega arith)
                  (subst (λ p. IsSegmentAt code p
                  (statements_code (in_except scope) block (target + 2))) (omega arith) g1.1.1.1)
                  (record { exit = u.exit; loop_end = u.loop_end; loop_next = u.loop_next })
                  (back_own (target + 2) to (target + 2) to (mine ∷ []) qs (omega arith)
                  (omega arith) (inl (omega arith), tt)
                  (back_own at to (target + 2) to rs (mine ∷ qs) (omega arith) (omega arith)
                  (earlier_outside at ends (target + 2) to rs (omega arith)
                  (statements_within body at)) own))),
            ),
          ),
        )
    statement_leads (TryFinally body k last) scope at to e g w own =
        let ends = at + statements_size body in
        let inner = in_guarded ends scope in
        let mine = region at (ends + 1) (kinds.Finally (k - 1)) in
        let rs = statements_regions body at in
        let l = statements_length inner body at in
        let v = ways_from at to at ends scope (omega arith) (omega arith) w in
        let guarded = statements_code inner body at in
        lead_append at ends guarded _ (omega arith)
        (statements_lead body inner at ends refl (front code at guarded _ g) (record {
          exit = unwound_has (LeadsOn at ends) scope.exit v.exit;
          loop_end = unwound_has (LeadsOn at ends) scope.loop_end v.loop_end;
          loop_next = unwound_has (LeadsOn at ends) scope.loop_next v.loop_next;
        })
        (front_own at to at ends rs (mine ∷ []) (omega arith) (omega arith) (inl (omega arith), tt)
        own)) (tt, (tt, (tt, tt)))

    pub statements_lead : (ss : Statements) (scope : LoweringContext) (at to : ℕ)
        → at + statements_size ss ≡ to → IsSegmentAt code at (statements_code scope ss at)
        → WaysLead at to scope → HasOwn at to (statements_regions ss at)
        → AllLead at (statements_code scope ss at)
    statements_lead Empty scope at to e g w own = tt
    statements_lead (Then s ss) scope at to e g w own =
        let next = at + statement_size s in
        let rs = statement_regions s at in
        let qs = statements_regions ss next in
        let l = statement_length scope s at in
        let begins = statement_code scope s at in
        lead_append at next begins _ (omega arith)
        (statement_leads s scope at next refl (front code at begins _ g)
        (ways_from at to at next scope (omega arith) (omega arith) w)
        (front_own at to at next rs qs (omega arith) (omega arith)
        (later_outside next (next + statements_size ss) at next qs (omega arith)
        (statements_within ss next)) own))
        (statements_lead ss scope next to (omega arith) (back code at next begins _ (omega arith) g)
        (ways_from at to next to scope (omega arith) (omega arith) w)
        (back_own at to next to rs qs (omega arith) (omega arith)
        (earlier_outside at next next to rs (omega arith) (statement_within s at)) own))

  -- ---- an instruction of it

  pub lead_at : (is : List Instruction) (at label place to : ℕ) → at + label ≡ place
      → AllLead at is → slice_get is label ≡ Some (LocalUnwind to) → LeadsOn place (place + 1) to
  lead_at [] at label place to p h e = absurd (cc)
  lead_at (i ∷ is) at zero place to p h e =
      let same : at ≡ place = omega arith in
      subst (Leads place) (same_it i (LocalUnwind to) e) (subst (λ n. Leads n i) same h.0)
  lead_at (i ∷ is) at (suc label) place to p h e = lead_at is (at + 1) label place to (omega arith)
      h.1 e
