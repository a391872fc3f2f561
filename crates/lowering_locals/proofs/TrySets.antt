-- `__try` statements beside their sets.
use Rattle.std.proofs.Common.{◌≡◌, ℕ, ◌+◌, ◌-◌, ◌<◌, ◌≤◌, List, [], ◌∷◌, ◌++◌, refl, sym, subst, arith}
use Rattle.std.specs.Prelude.{replicate}
use Rattle.lowering_locals.specs.Words.{Filter, TryExcept, TryFinally, Statements, Instruction, Separator, CallFinally, LinearProgram, BodyName, statement_size, statements_size, LoweringContext, in_try, in_except, in_guarded, statement_code, statements_code, landed, reset_code, SeenNames, with_local, IsPart, locals_at, FinallyBegins, statement_sets, statements_sets, set_in}
use Rattle.lowering_locals.proofs.Lemmas.{statements_length, IsSegmentAt, front, back, sees_before, itself, within}
use Rattle.lowering_locals.proofs.StraightCode.{is_same, is_same_back, head_recorded, Even, even_part, even_list, AllLead, both_lead, straight}
use Rattle.lowering_locals.proofs.ExpressionSets.{IsAround}
use Rattle.lowering_locals.proofs.SetLists.{statements_long, statements_first, begins}
use Rattle.lowering_locals.proofs.StatementPieces.{base_kept, below_with, reset_fine, from_here}

module _ (linear : LinearProgram) (lists : BodyName → List SeenNames) (name : BodyName) (locals : ℕ)
    (room : locals_at linear name ≡ locals) (scope : LoweringContext) (before seen : SeenNames)
    (around : IsAround locals scope.names before seen) where
  abbrev sets : BodyName → ℕ → SeenNames
  sets n label = set_in (lists n) label

  abbrev At : ℕ → List SeenNames → Type 0
  At at ys = IsSegmentAt (lists name) at ys

  abbrev IsRecordedAt : ℕ → SeenNames → Type 0
  IsRecordedAt label recorded = IsPart (sets name label) recorded

  abbrev Lead : ℕ → List Instruction → Type 0
  Lead at code = AllLead linear sets name at code

  abbrev free : ℕ
  free = scope.names.free

  pub record ExceptParts (body : Statements) (filter : Filter) (block : Statements) (at : ℕ) : Type
      0 where
    pub is_there : At at (statements_sets free seen body)
    pub end : sets name (at + statements_size body) ≡ seen
    pub target : IsRecordedAt (at + statements_size body + 1) seen
    pub block_is_at : At (at + statements_size body + 1 + 2)
        (statements_sets (free + 1) (with_local free seen) block)
    pub leaves : IsRecordedAt (at + statements_size body + 1 + 2 + statements_size block) seen
    pub leads : Lead at (statements_code (in_try
        (at + statements_size body + 1 + 2 + statements_size block) scope) body at)
        → Lead (at + statements_size body + 1 + 2)
        (statements_code (in_except scope) block (at + statements_size body + 1 + 2))
        → Lead at (statement_code scope (TryExcept body filter block) at)

  pub except_parts : (body : Statements) (filter : Filter) (block : Statements) (at : ℕ)
      → free < locals → At at (statement_sets free seen (TryExcept body filter block))
      → IsRecordedAt (at + statement_size (TryExcept body filter block)) seen
      → ExceptParts body filter block at
  except_parts body filter block at lt h end =
      let more = with_local free seen in
      let skip = at + statements_size body in
      let target = skip + 1 in
      let out = target + 2 + statements_size block in
      let bl = statements_sets free seen body in
      let kl = statements_sets (free + 1) more block in
      let lb = statements_long body free seen in
      let lk = statements_long block (free + 1) more in
      let cb = statements_length (in_try out scope) body at in
      let same : at + (statements_size body + (3 + statements_size block)) ≡ out = omega arith in
      let leaves : IsRecordedAt out seen = subst (λ k. IsRecordedAt k seen) same end in
      let own = seen ∷ (seen ∷ (more ∷ kl)) in
      let h1 = back (lists name) at skip bl own (omega arith) h in
      let here_skip = head_recorded (lists name) skip seen (seen ∷ (more ∷ kl)) h1 in
      let here_target = head_recorded (lists name) target seen (more ∷ kl) h1.1 in
      let here_reset = head_recorded (lists name) (target + 1) more kl h1.1.1 in
      let two : target + 1 + 1 ≡ target + 2 = omega arith in
      let block_at = subst (λ n. At n kl) two h1.1.1.1 in
      let start = begins (lists name) (target + 2) out kl more more block_at
      (statements_first block (free + 1) more more (itself more)) (omega arith)
      (within (sets name out) seen more leaves (sees_before seen free)) in
      let start' : IsRecordedAt (target + 1 + 1) more = subst (λ n. IsRecordedAt n more) (sym two)
      start in
      let even : Even (sets name) more (target + 1) (target + 1 + 1) = even_list (lists name) more 1
      (target + 1) (target + 1 + 1) refl (h1.1.1.0, tt) start' in
      let base = base_kept seen more scope.names.part (sees_before seen free) around.base in
      let below = below_with locals free seen around.below lt in
      let reset = straight linear sets name locals room more (target + 1) (target + 1 + 1) even
      (target + 1) (reset_code scope.names.part ∷ []) (omega arith) (omega arith)
      (reset_fine locals (target + 1) (target + 1 + 1) scope.names.part more base below, tt) in
      let next = is_same (sets name (target + 1)) more here_reset in
      record {
        is_there = front (lists name) at bl own h;
        end = here_skip;
        target = is_same (sets name target) seen here_target;
        block_is_at = block_at;
        leaves = leaves;
        leads = λ x z. both_lead linear sets name at skip
            (statements_code (in_try out scope) body at)
            (landed scope.names.part out free
            ++ statements_code (in_except scope) block (target + 2)) (omega arith)
            x (
              from_here linear lists name skip out seen here_skip leaves,
              (
                (
                  subst (λ n. free < n) (sym room) lt,
                  subst (λ (s : SeenNames). IsPart (sets name (target + 1)) (with_local free s))
                      (sym here_target) next,
                ),
                (
                  reset.0,
                  subst (λ n. Lead n (statements_code (in_except scope) block
                      (target + 2))) (sym two) z,
                ),
              ),
            );
      }

  pub record FinallyParts (body : Statements) (k : ℕ) (last : Statements) (at : ℕ) : Type 0 where
    pub is_there : At at (statements_sets free seen body)
    pub end : sets name (at + statements_size body) ≡ seen
    pub leads : ((s : SeenNames) → IsPart seen s → FinallyBegins linear sets (k - 1) s)
        → Lead at (statements_code (in_guarded (at + statements_size body) scope) body at)
        → Lead at (statement_code scope (TryFinally body k last) at)

  pub finally_parts : (body : Statements) (k : ℕ) (last : Statements) (at : ℕ)
      → At at (statement_sets free seen (TryFinally body k last))
      → IsRecordedAt (at + statement_size (TryFinally body k last)) seen
      → FinallyParts body k last at
  finally_parts body k last at h end =
      let ends = at + statements_size body in
      let bl = statements_sets free seen body in
      let lb = statements_long body free seen in
      let cb = statements_length (in_guarded ends scope) body at in
      let same : at + (statements_size body + 3) ≡ ends + 3 = omega arith in
      let h1 = back (lists name) at ends bl (replicate 3 seen) (omega arith) h in
      let even = even_list (lists name) seen 3 ends (ends + 3) refl h1
      (subst (λ n. IsRecordedAt n seen) same end) in
      let here = λ (n : ℕ) (a : ends ≤ n) (b : n < ends + 3). even.inside n a b in
      let recorded_at = λ (n : ℕ) (a : ends ≤ n)
      (b : n ≤ ends + 3). (even_part (sets name) seen ends (ends + 3) n n even a (omega arith)
      b).end in
      let here_end = here ends (omega arith) (omega arith) in
      let here_call = here (ends + 1) (omega arith) (omega arith) in
      let here_last = here (ends + 1 + 1) (omega arith) (omega arith) in
      let first = from_here linear lists name ends (ends + 1) seen here_end
      (recorded_at (ends + 1) (omega arith) (omega arith)) in
      let second = from_here linear lists name (ends + 1) (ends + 1 + 1) seen here_call
      (recorded_at (ends + 1 + 1) (omega arith) (omega arith)) in
      let third = from_here linear lists name (ends + 1 + 1) (ends + 1 + 1 + 1) seen here_last
      (recorded_at (ends + 1 + 1 + 1) (omega arith) (omega arith)) in
      record {
        is_there = front (lists name) at bl (replicate 3 seen) h;
        end = here_end;
        leads = λ begun x. both_lead linear sets name at ends
            (statements_code (in_guarded ends scope) body at)
            (Separator ∷ CallFinally (k - 1) ∷ Separator ∷ []) (omega arith) x (
              first,
              (
                (
                  begun (sets name (ends + 1))
                      (is_same_back (sets name (ends + 1)) seen here_call),
                  second,
                ),
                (third, tt),
              ),
            );
      }
