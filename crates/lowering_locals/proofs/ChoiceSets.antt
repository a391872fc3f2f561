-- Choices and returns beside their sets.
use Rattle.std.proofs.Common.{◌≡◌, ℕ, suc, ◌+◌, List, [], ◌∷◌, ◌++◌, subst, arith}
use Rattle.std.proofs.lemmas.List.{length-replicate}
use Rattle.std.specs.Prelude.{true, replicate, Option}
use Rattle.lowering_locals.specs.Words.{Expression, Statement, If, IfElse, Return, Statements, Then, Temporary, Instruction, Jump, JumpIfZero, LinearProgram, BodyName, expression_size, returned_size, statement_size, statements_size, LoweringContext, expression_code, returned_code, return_code, statement_code, statements_code, SeenNames, IsPart, after_statement, expression_within, optional_within, locals_at, statement_sets, statements_sets, set_in}
use Rattle.lowering_locals.proofs.Lemmas.{expression_length, returned_length, statement_length, IsSegmentAt, front, back, itself, within}
use Rattle.lowering_locals.proofs.StraightCode.{is_same, head_recorded, even_part, even_list, AllLead, both_lead}
use Rattle.lowering_locals.proofs.ExpressionSets.{IsAround}
use Rattle.lowering_locals.proofs.SetLists.{statement_long, statements_long, grows, statement_first, statements_first, begins}
use Rattle.lowering_locals.proofs.StatementPieces.{WayIn, return_leads, value_leads, returned_leads, test_leads, from_here}

module _ (linear : LinearProgram) (lists : BodyName → List SeenNames) (name : BodyName) (locals : ℕ)
    (room : locals_at linear name ≡ locals) (scope : LoweringContext) (before seen : SeenNames)
    (around : IsAround locals scope.names before seen) where
  abbrev sets : BodyName → ℕ → SeenNames
  sets n label = set_in (lists n) label

  abbrev At : ℕ → List SeenNames → Type 0
  At at ys = IsSegmentAt (lists name) at ys

  abbrev IsRecordedAt : ℕ → SeenNames → Type 0
  IsRecordedAt label recorded = IsPart (sets name label) recorded

  abbrev Lead : ℕ → List Instruction → Type 0
  Lead at code = AllLead linear sets name at code

  abbrev free : ℕ
  free = scope.names.free

  -- what a choice's statement is given
  pub record IfParts (c : Expression) (s : Statement) (at : ℕ) : Type 0 where
    pub is_there : At (at + expression_size c + 1) (statement_sets free seen s)
    pub end : IsRecordedAt (at + expression_size c + 1 + statement_size s) (after_statement seen s)
    pub leads : Lead (at + expression_size c + 1)
        (statement_code scope s (at + expression_size c + 1))
        → Lead at (statement_code scope (If c s) at)

  pub if_parts : (c : Expression) (s : Statement) (at : ℕ) → expression_within before c ≡ true
      → At at (statement_sets free seen (If c s)) → IsRecordedAt (at + statement_size (If c s)) seen
      → IfParts c s at
  if_parts c s at w h end =
      let n = expression_size c in
      let place = at + n in
      let then = place + 1 in
      let out = then + statement_size s in
      let tests = replicate (suc n) seen in
      let body = statement_sets free seen s in
      let ln = length-replicate (suc n) seen in
      let ls = statement_long s free seen in
      let l = expression_length scope.names c 0 at in
      let same : at + (n + (1 + statement_size s)) ≡ out = omega arith in
      let leaves : IsRecordedAt out seen = subst (λ k. IsRecordedAt k seen) same end in
      let hs = back (lists name) at then tests body (omega arith) h in
      let end' = within (sets name out) seen (after_statement seen s) leaves (grows s seen) in
      let start = begins (lists name) then out body seen (after_statement seen s) hs
      (statement_first s free seen) (omega arith) end' in
      let even = even_list (lists name) seen (suc n) at then (omega arith)
      (front (lists name) at tests body h) start in
      record {
        is_there = hs;
        end = end';
        leads = λ x. both_lead linear sets name at place (expression_code scope.names c 0 at)
            (JumpIfZero (Temporary 0) out ∷ statement_code scope s then) (omega arith)
            (value_leads linear lists name locals room scope.names before seen around c at w
            (even_part (sets name) seen at then at place even (omega arith) (omega arith)
            (omega arith))) (
              test_leads linear lists name locals room scope.names before seen around place out 0
                  (even.inside place (omega arith) (omega arith)) leaves start,
              x,
            );
      }

  pub record IfElseParts (c : Expression) (s t : Statement) (at : ℕ) : Type 0 where
    pub is_there : At (at + expression_size c + 1) (statement_sets free seen s)
    pub end : IsRecordedAt (at + expression_size c + 1 + statement_size s) (after_statement seen s)
    pub other_is_at : At (at + expression_size c + 1 + statement_size s + 1)
        (statement_sets free seen t)
    pub other_end : IsRecordedAt (at + expression_size c + 1 + statement_size s + 1
        + statement_size t) (after_statement seen t)
    pub leads : Lead (at + expression_size c + 1)
        (statement_code scope s (at + expression_size c + 1))
        → Lead (at + expression_size c + 1 + statement_size s + 1)
        (statement_code scope t (at + expression_size c + 1 + statement_size s + 1))
        → Lead at (statement_code scope (IfElse c s t) at)

  pub if_else_parts : (c : Expression) (s t : Statement) (at : ℕ)
      → expression_within before c ≡ true → At at (statement_sets free seen (IfElse c s t))
      → IsRecordedAt (at + statement_size (IfElse c s t)) seen → IfElseParts c s t at
  if_else_parts c s t at w h end =
      let n = expression_size c in
      let place = at + n in
      let then = place + 1 in
      let skip = then + statement_size s in
      let otherwise = skip + 1 in
      let last = otherwise + statement_size t in
      let out = last + 1 in
      let tests = replicate (suc n) seen in
      let yes = statement_sets free seen s in
      let branch = statement_sets free seen t in
      let no = branch ++ seen ∷ [] in
      let ln = length-replicate (suc n) seen in
      let ls = statement_long s free seen in
      let lt = statement_long t free seen in
      let l = expression_length scope.names c 0 at in
      let ly = statement_length scope s then in
      let lo = statement_length scope t otherwise in
      let same : at + (n + (1 + (statement_size s + (1 + (statement_size t + 1))))) ≡ out = omega
      arith in
      let leaves : IsRecordedAt out seen = subst (λ k. IsRecordedAt k seen) same end in
      let h1 = back (lists name) at then tests (yes ++ (seen ∷ no)) (omega arith) h in
      let h2 = back (lists name) then skip yes (seen ∷ no) (omega arith) h1 in
      let h3 = back (lists name) otherwise last branch (seen ∷ []) (omega arith) h2.1 in
      let here_last = head_recorded (lists name) last seen [] h3 in
      let end_no = within (sets name last) seen (after_statement seen t)
      (is_same (sets name last) seen here_last) (grows t seen) in
      let other = front (lists name) otherwise branch (seen ∷ []) h2.1 in
      let start_no = begins (lists name) otherwise last branch seen (after_statement seen t) other
      (statement_first t free seen) (omega arith) end_no in
      let here_skip = head_recorded (lists name) skip seen no h2 in
      let end_yes = within (sets name skip) seen (after_statement seen s)
      (is_same (sets name skip) seen here_skip) (grows s seen) in
      let first = front (lists name) then yes (seen ∷ no) h1 in
      let start = begins (lists name) then skip yes seen (after_statement seen s) first
      (statement_first s free seen) (omega arith) end_yes in
      let even = even_list (lists name) seen (suc n) at then (omega arith)
      (front (lists name) at tests (yes ++ (seen ∷ no)) h) start in
      record {
        is_there = first;
        end = end_yes;
        other_is_at = other;
        other_end = end_no;
        leads = λ x y. both_lead linear sets name at place (expression_code scope.names c 0 at)
            (JumpIfZero (Temporary 0) otherwise ∷ (statement_code scope s then
            ++ (Jump out ∷ (statement_code scope t otherwise ++ Jump out ∷ []))))
            (omega arith)
            (value_leads linear lists name locals room scope.names before seen around c at w
            (even_part (sets name) seen at then at place even (omega arith) (omega arith)
            (omega arith))) (
              test_leads linear lists name locals room scope.names before seen around place
                  otherwise 0 (even.inside place (omega arith) (omega arith)) start_no start,
              both_lead linear sets name then skip (statement_code scope s then)
                  (Jump out ∷ (statement_code scope t otherwise ++ Jump out ∷ [])) (omega arith) x (
                    from_here linear lists name skip out seen here_skip leaves,
                    both_lead linear sets name otherwise last (statement_code scope t otherwise)
                        (Jump out ∷ []) (omega arith) y
                        (from_here linear lists name last out seen here_last leaves, tt),
                  ),
            );
      }

  pub returns_lead : (e : Option Expression) (at : ℕ) → optional_within before e ≡ true
      → WayIn linear lists name seen scope.exit → At at (statement_sets free seen (Return e))
      → IsRecordedAt (at + statement_size (Return e)) seen
      → Lead at (statement_code scope (Return e) at)
  returns_lead e at w exit h end =
      let n = returned_size e in
      let mid = at + n in
      let same : at + (n + 2) ≡ mid + 2 = omega arith in
      let even = even_list (lists name) seen (n + 2) at (mid + 2) (omega arith) h
      (subst (λ k. IsRecordedAt k seen) same end) in
      let l = returned_length scope.names e at in
      both_lead linear sets name at mid (returned_code scope.names e at) (return_code scope.exit)
      (omega arith)
      (returned_leads linear lists name locals room scope.names before seen around e at w
      (even_part (sets name) seen at (mid + 2) at mid even (omega arith) (omega arith)
      (omega arith)))
      (return_leads linear lists name scope.exit mid seen exit
      (even_part (sets name) seen at (mid + 2) mid (mid + 2) even (omega arith) (omega arith)
      (omega arith)))

  -- a statement, and those after it
  pub record ThenParts (s : Statement) (ss : Statements) (at : ℕ) : Type 0 where
    pub is_there : At at (statement_sets free seen s)
    pub end : IsRecordedAt (at + statement_size s) (after_statement seen s)
    pub other_is_at : At (at + statement_size s) (statements_sets free (after_statement seen s) ss)
    pub other_end : IsRecordedAt (at + statement_size s + statements_size ss)
        (after_statement seen s)
    pub leads : Lead at (statement_code scope s at)
        → Lead (at + statement_size s) (statements_code scope ss (at + statement_size s))
        → Lead at (statements_code scope (Then s ss) at)

  pub then_parts : (s : Statement) (ss : Statements) (at : ℕ)
      → At at (statements_sets free seen (Then s ss))
      → IsRecordedAt (at + statements_size (Then s ss)) seen → ThenParts s ss at
  then_parts s ss at h end =
      let more = after_statement seen s in
      let next = at + statement_size s in
      let out = next + statements_size ss in
      let sl = statement_sets free seen s in
      let rl = statements_sets free more ss in
      let ls = statement_long s free seen in
      let lr = statements_long ss free more in
      let l = statement_length scope s at in
      let same : at + (statement_size s + statements_size ss) ≡ out = omega arith in
      let end' = within (sets name out) seen more (subst (λ k. IsRecordedAt k seen) same end)
      (grows s seen) in
      let rest = back (lists name) at next sl rl (omega arith) h in
      record {
        is_there = front (lists name) at sl rl h;
        end = begins (lists name) next out rl more more rest
            (statements_first ss free more more (itself more)) (omega arith) end';
        other_is_at = rest;
        other_end = end';
        leads = λ x y. both_lead linear sets name at next (statement_code scope s at)
            (statements_code scope ss next) (omega arith) x y;
      }
