-- Loops beside their sets.
use Rattle.std.proofs.Common.{◌≡◌, ℕ, suc, ◌+◌, ◌≤◌, List, [], ◌∷◌, ◌++◌, length, refl, sym, subst, arith}
use Rattle.std.proofs.lemmas.List.{length-replicate}
use Rattle.std.specs.Prelude.{true, replicate, Option}
use Rattle.lowering_locals.specs.Words.{Expression, all_declared_sound, Declared, Statement, For, DoWhile, Instruction, Jump, Separator, LinearProgram, BodyName, expression_size, discarded_size, condition_size, all_declared_size, declared_notes, statement_size, LoweringContext, in_loop, expression_code, discarded_code, condition_code, all_declared_code, statement_code, repeated, SeenNames, IsPart, after_all_declared, after_statement, expression_within, optional_within, all_declared_within, locals_at, statement_sets, all_declared_sets, set_in}
use Rattle.c_checked.specs.Sound as sound
use Rattle.lowering_locals.proofs.Lemmas.{expression_length, discarded_length, condition_length, all_declared_length, statement_length, IsSegmentAt, front, back, within}
use Rattle.lowering_locals.proofs.StraightCode.{is_same, Even, even_part, even_list, AllLead, both_lead}
use Rattle.lowering_locals.proofs.ExpressionSets.{IsAround}
use Rattle.lowering_locals.proofs.SetLists.{all_declared_long, statement_long, grows, all_grow, statement_first, begins}
use Rattle.lowering_locals.proofs.StatementPieces.{value_leads, discarded_leads, test_leads, condition_leads, all_declared_leads, around_all_declared, from_here}

module _ (linear : LinearProgram) (lists : BodyName → List SeenNames) (name : BodyName) (locals : ℕ)
    (room : locals_at linear name ≡ locals) (scope : LoweringContext) (before seen : SeenNames)
    (around : IsAround locals scope.names before seen) where
  abbrev sets : BodyName → ℕ → SeenNames
  sets n label = set_in (lists n) label

  abbrev At : ℕ → List SeenNames → Type 0
  At at ys = IsSegmentAt (lists name) at ys

  abbrev IsRecordedAt : ℕ → SeenNames → Type 0
  IsRecordedAt label recorded = IsPart (sets name label) recorded

  abbrev Lead : ℕ → List Instruction → Type 0
  Lead at code = AllLead linear sets name at code

  abbrev free : ℕ
  free = scope.names.free

  -- where a loop's body ends, and where the loop does
  pub record LoopParts (recorded : SeenNames) (s : Statement) (start : ℕ) (again out : ℕ)
      (code : List Instruction) (at : ℕ) : Type 0 where
    pub is_there : At start (statement_sets free recorded s)
    pub end : IsRecordedAt again (after_statement recorded s)
    pub next : IsRecordedAt again recorded
    pub leaves : IsRecordedAt out recorded
    pub leads : Lead start (statement_code (in_loop out again scope) s start) → Lead at code

  -- its places
  abbrev pub for_start : List Declared → Option Expression → Option Expression → ℕ → ℕ
  for_start ds first c at = at + all_declared_size ds + discarded_size first + condition_size c

  abbrev pub for_again : List Declared → Option Expression → Option Expression → Statement → ℕ → ℕ
  for_again ds first c s at = for_start ds first c at + statement_size s

  abbrev pub for_out : List Declared → Option Expression → Option Expression → Option Expression
      → Statement → ℕ → ℕ
  for_out ds first c next s at = for_again ds first c s at + 1 + discarded_size next + 1

  for_leads : (scope' : sound.TypingContext) (ds : List Declared) (first c next : Option Expression)
      (s : Statement) (at begin iteration start again step : ℕ)
      → begin ≡ at + all_declared_size ds → iteration ≡ begin + discarded_size first
      → start ≡ iteration + condition_size c → again ≡ start + statement_size s
      → step ≡ again + 1 + discarded_size next → free + declared_notes ds ≤ locals
      → length scope'.sizes ≤ locals → all_declared_sound scope' ds ≡ true
      → all_declared_within before ds ≡ true
      → optional_within (after_all_declared before ds) first ≡ true
      → optional_within (after_all_declared before ds) c ≡ true
      → optional_within (after_all_declared before ds) next ≡ true
      → At at (all_declared_sets free seen ds) → Even (sets name) (after_all_declared seen ds) begin
      start → Even (sets name) (after_all_declared seen ds) again (step + 1 + 1)
      → Lead start (statement_code (in_loop (step + 1) again scope) s start)
      → Lead at (all_declared_code scope.names ds at
      ++ (discarded_code scope.names first begin
      ++ (condition_code scope.names c (step + 1) iteration
      ++ (statement_code (in_loop (step + 1) again scope) s start
      ++ (Separator ∷ (discarded_code scope.names next (again + 1)
      ++ Jump iteration ∷ Separator ∷ []))))))
  for_leads scope' ds first c next s at begin iteration start again step e1 e2 e3 e4 e5 few fits ok
      w_ds w_first w_c w_next d even last x =
      let names = scope.names in
      let inner = after_all_declared seen ds in
      let outer = after_all_declared before ds in
      let out = step + 1 in
      let a = around_all_declared locals names scope' ds before seen fits ok around in
      let cd = all_declared_length names ds at in
      let cf = discarded_length names first begin in
      let ct = condition_length names c out iteration in
      let cs = statement_length (in_loop out again scope) s start in
      let cn = discarded_length names next (again + 1) in
      let even_first = even_part (sets name) inner begin start begin (begin + discarded_size first)
      even (omega arith) (omega arith) (omega arith) in
      let even_test = even_part (sets name) inner begin start iteration
      (iteration + condition_size c) even (omega arith) (omega arith) (omega arith) in
      let recorded_begin = (even_part (sets name) inner begin start begin begin even (omega arith)
      (omega arith) (omega arith)).end in
      let recorded_iteration = (even_part (sets name) inner begin start iteration iteration even
      (omega arith) (omega arith) (omega arith)).end in
      let recorded_next = (even_part (sets name) inner again (out + 1) (again + 1) (again + 1) last
      (omega arith) (omega arith) (omega arith)).end in
      let even_next = even_part (sets name) inner again (out + 1) (again + 1)
      (again + 1 + discarded_size next) last (omega arith) (omega arith) (omega arith) in
      let lands = last.inside out (omega arith) (omega arith) in
      let leaves = is_same (sets name out) inner lands in
      let repeats = Jump iteration ∷ Separator ∷ [] in
      both_lead linear sets name at begin (all_declared_code names ds at)
      (discarded_code names first begin ++ (condition_code names c out iteration
      ++ (statement_code (in_loop out again scope) s start
      ++ (Separator ∷ (discarded_code names next (again + 1) ++ repeats)))))
      (omega arith)
      (all_declared_leads linear lists name locals room names scope' fits ds before seen at begin
      (sym e1) few around ok w_ds d recorded_begin)
      (both_lead linear sets name begin iteration (discarded_code names first begin)
      (condition_code names c out iteration
      ++ (statement_code (in_loop out again scope) s start
      ++ (Separator ∷ (discarded_code names next (again + 1) ++ repeats))))
      (omega arith)
      (discarded_leads linear lists name locals room names outer inner a first begin w_first
      even_first)
      (both_lead linear sets name iteration start (condition_code names c out iteration)
      (statement_code (in_loop out again scope) s start
      ++ (Separator ∷ (discarded_code names next (again + 1) ++ repeats)))
      (omega arith)
      (condition_leads linear lists name locals room names outer inner a c out iteration w_c leaves
      even_test)
      (both_lead linear sets name start again (statement_code (in_loop out again scope) s start)
      (Separator ∷ (discarded_code names next (again + 1) ++ repeats)) (omega arith) x (
        from_here linear lists name again (again + 1) inner
            (last.inside again (omega arith) (omega arith)) recorded_next,
        both_lead linear sets name (again + 1) step (discarded_code names next (again + 1))
            repeats (omega arith)
            (discarded_leads linear lists name locals room names outer inner a next (again + 1)
            w_next
            even_next) (
              from_here linear lists name step iteration inner
                  (last.inside step (omega arith) (omega arith)) recorded_iteration,
              (from_here linear lists name out (out + 1) inner lands last.end, tt),
            ),
      ))))

  pub for_parts : (scope' : sound.TypingContext) (ds : List Declared)
      (first c next : Option Expression) (s : Statement) (at : ℕ)
      → free + declared_notes ds ≤ locals → length scope'.sizes ≤ locals
      → all_declared_sound scope' ds ≡ true → all_declared_within before ds ≡ true
      → optional_within (after_all_declared before ds) first ≡ true
      → optional_within (after_all_declared before ds) c ≡ true
      → optional_within (after_all_declared before ds) next ≡ true
      → At at (statement_sets free seen (For ds first c next s))
      → IsRecordedAt (at + statement_size (For ds first c next s)) seen
      → LoopParts (after_all_declared seen ds) s (for_start ds first c at)
      (for_again ds first c s at) (for_out ds first c next s at)
      (statement_code scope (For ds first c next s) at) at
  for_parts scope' ds first c next s at few fits ok w_ds w_first w_c w_next h end =
      let names = scope.names in
      let inner = after_all_declared seen ds in
      let outer = after_all_declared before ds in
      let begin = at + all_declared_size ds in
      let iteration = begin + discarded_size first in
      let start = iteration + condition_size c in
      let again = start + statement_size s in
      let step = again + 1 + discarded_size next in
      let out = step + 1 in
      let dl = all_declared_sets free seen ds in
      let tl = replicate (discarded_size first + condition_size c) inner in
      let bl = statement_sets free inner s in
      let rl = replicate (suc (discarded_size next + 2)) inner in
      let ld = all_declared_long ds free seen in
      let lt = length-replicate (discarded_size first + condition_size c) inner in
      let ls = statement_long s free inner in
      let same : at + (all_declared_size ds +
      (discarded_size first + (condition_size c
      + (statement_size s + (1 + (discarded_size next + 2)))))) ≡ out + 1 = omega arith in
      let past : IsRecordedAt (out + 1) inner = within (sets name (out + 1)) seen inner
      (subst (λ k. IsRecordedAt k seen) same end) (all_grow ds seen) in
      let h1 = back (lists name) at begin dl (tl ++ (bl ++ rl)) (omega arith) h in
      let h2 = back (lists name) begin start tl (bl ++ rl) (omega arith) h1 in
      let h3 = back (lists name) start again bl rl (omega arith) h2 in
      let body = front (lists name) start bl rl h2 in
      let last = even_list (lists name) inner (suc (discarded_size next + 2)) again (out + 1)
      (omega arith) h3 past in
      let recorded_again = is_same (sets name again) inner
      (last.inside again (omega arith) (omega arith)) in
      let end' = within (sets name again) inner (after_statement inner s) recorded_again
      (grows s inner) in
      let recorded_start = begins (lists name) start again bl inner (after_statement inner s) body
      (statement_first s free inner) (omega arith) end' in
      let even = even_list (lists name) inner (discarded_size first + condition_size c) begin start
      (omega arith) (front (lists name) begin tl (bl ++ rl) h1) recorded_start in
      record {
        is_there = body;
        end = end';
        next = recorded_again;
        leaves = is_same (sets name out) inner (last.inside out (omega arith) (omega arith));
        leads = for_leads scope' ds first c next s at begin iteration start again step refl refl
            refl refl refl few fits ok w_ds w_first w_c w_next
            (front (lists name) at dl (tl ++ (bl ++ rl)) h) even last;
      }

  -- a `do`
  abbrev pub do_again : Statement → ℕ → ℕ
  do_again s at = at + statement_size s

  abbrev pub do_out : Statement → Expression → ℕ → ℕ
  do_out s c at = do_again s at + 1 + expression_size c + 2

  pub do_parts : (s : Statement) (c : Expression) (at : ℕ) → expression_within before c ≡ true
      → At at (statement_sets free seen (DoWhile s c))
      → IsRecordedAt (at + statement_size (DoWhile s c)) seen
      → LoopParts seen s at (do_again s at) (do_out s c at) (statement_code scope (DoWhile s c) at)
      at
  do_parts s c at w h end =
      let n = expression_size c in
      let again = at + statement_size s in
      let test = again + 1 + n in
      let out = test + 2 in
      let bl = statement_sets free seen s in
      let rl = replicate (suc (n + 3)) seen in
      let ls = statement_long s free seen in
      let l = expression_length scope.names c 0 (again + 1) in
      let cs = statement_length (in_loop out again scope) s at in
      let same : at + (statement_size s + (1 + (n + 3))) ≡ out + 1 = omega arith in
      let past : IsRecordedAt (out + 1) seen = subst (λ k. IsRecordedAt k seen) same end in
      let body = front (lists name) at bl rl h in
      let last = even_list (lists name) seen (suc (n + 3)) again (out + 1) (omega arith)
      (back (lists name) at again bl rl (omega arith) h) past in
      let here_again = last.inside again (omega arith) (omega arith) in
      let recorded_again = is_same (sets name again) seen here_again in
      let end' = within (sets name again) seen (after_statement seen s) recorded_again
      (grows s seen) in
      let start = begins (lists name) at again bl seen (after_statement seen s) body
      (statement_first s free seen) (omega arith) end' in
      let recorded_at = λ (k : ℕ) (a : again ≤ k) (b : k ≤ out + 1).
      (even_part (sets name) seen again (out + 1) k k last a (omega arith) b).end in
      let leaves = recorded_at out (omega arith) (omega arith) in
      let even_test = even_part (sets name) seen again (out + 1) (again + 1) test last
      (omega arith) (omega arith) (omega arith) in
      record {
        is_there = body;
        end = end';
        next = recorded_again;
        leaves = leaves;
        leads = λ x. both_lead linear sets name at again
            (statement_code (in_loop out again scope) s at)
            (Separator ∷ (expression_code scope.names c 0 (again + 1) ++ repeated out at))
            (omega arith) x (
              from_here linear lists name again (again + 1) seen here_again
                  (recorded_at (again + 1) (omega arith) (omega arith)),
              both_lead linear sets name (again + 1) test (expression_code scope.names c 0
                  (again + 1))
                  (repeated out at) (omega arith) (value_leads linear lists name locals room
                  scope.names
                  before seen around c (again + 1) w even_test) (
                    test_leads linear lists name locals room scope.names before seen around test out
                        0
                        (last.inside test (omega arith) (omega arith)) leaves
                        (recorded_at (test + 1) (omega arith) (omega arith)),
                    (
                      from_here linear lists name (test + 1) at seen
                          (last.inside (test + 1) (omega arith) (omega arith)) start,
                      (
                        from_here linear lists name (test + 1 + 1) (test + 1 + 1 + 1) seen
                            (last.inside (test + 1 + 1) (omega arith) (omega arith))
                            (recorded_at (test + 1 + 1 + 1) (omega arith) (omega arith)),
                        tt,
                      ),
                    ),
                  ),
            );
      }
