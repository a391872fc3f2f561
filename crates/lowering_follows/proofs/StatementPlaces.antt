-- Code of sound statements that is in a body, with its regions and its funclets, is placed.
use Rattle.std.proofs.Common.{◌≡◌, inl, inr, ℕ, ◌+◌, ◌-◌, ◌<◌, ◌≤◌, List, [], ◌∷◌, ◌++◌, length, refl, ap, subst, ◌∙◌, arith, length-append}
use Rattle.std.proofs.lemmas.Bool.{ltb-true}
use Rattle.std.specs.Prelude.{true, false, slice_get, Option, Some, None}
use Rattle.lowering_follows.specs.Words.{DataPart, Program, Inside, funclets, count_up, declared_sound, all_declared_sound, filter_sound, statement_sound, statements_sound, funclets_in, filter_funclet, Declared, Filter, Always, Funclet, Statement, Declare, Block, Evaluate, If, IfElse, For, DoWhile, Break, Continue, Leave, TryExcept, TryFinally, Statements, Empty, Then, Temporary, Instruction, Jump, JumpIfZero, CallFinally, Landing, Separator, Region, LinearProgram, LinearBody, BodyName, FuncletBody, body_of, funclet_body, regions_at, instruction_in, Owner, Names, LoweringContext, except_names, filter_names, finally_names, finally_scope, in_try, in_except, in_guarded, expression_size, discarded_size, condition_size, declared_size, all_declared_size, returned_size, statement_size, statements_size, expression_code, jump_code, return_code, leave_code, discarded_code, statements_code, returned_code, condition_code, declared_code, all_declared_code, landed, reset_code, repeated, statement_code, except_kind, region, statement_regions, statements_regions, statements_funclets, filter_funclets, finally_funclet, finally_begin, in_funclet, statement_funclets, HasAt, DeclaredPlaced, AllDeclaredPlaced, FilterPlaced, Placed, AllPlaced, statement_weight, statements_weight, filter_weight, Return, in_loop}
use Rattle.linear_code.specs.declared.slot.Slot.TheVariants.{Local}
use Rattle.c_checked.specs.Sound as sound
use Rattle.linear_code.specs.declared.instruction.Instruction.TheVariants as instructions
use Rattle.linear_code.specs.declared.program.RegionKind.TheVariants as regions
use Rattle.seh_ir.specs.Funclets as funclets_of
use Rattle.lowering_expressions.proofs.Codes.{expression_length}
use Rattle.lowering_follows.proofs.Lemmas.{jump_length, return_length, discarded_length, returned_length, condition_length, declared_length, all_declared_length, statement_length, statements_length, filter_count, statement_count, statements_count}
use Rattle.lowering_follows.proofs.AlikeScopes as scopes
use Rattle.lowering_follows.proofs.AlikeScopes.{in_finally, loop_alike, try_alike, except_alike, guarded_alike, finally_alike}
use Rattle.lowering_follows.proofs.RegionCovers.{Cover, part, bare, inside_own, whole_cover}
use Rattle.lowering_follows.proofs.Segments.{IsSegmentAt, moved, front, back, with_next, whole_is_at}
use Rattle.lowering_follows.proofs.SoundExpressions.{both_left, both_right, Knows, expression_fits}
use Rattle.lowering_follows.proofs.SoundParts.{optional_fits, test_fits, value_optional, result_fits, stacked_fits}
use Rattle.lowering_follows.proofs.FuncletNumbers.{count_front, count_back, counted}
use Rattle.lowering_follows.proofs.Regions.{own_out, own_in, left_only, right_only, outside, all_outside}

begin_length : (part : Option DataPart) (x : ℕ) → length (finally_begin part x) ≡ 3
begin_length None x = refl
begin_length (Some part) x = refl

module _ (program : Program) (linear : LinearProgram) (rate most own : ℕ) where
  abbrev pub Alike : Inside → LoweringContext → Type 0
  Alike i scope = scopes.Alike program linear rate most own i scope

  -- ---- code in a body

  module _ (b : BodyName) (lb : LinearBody) (there : body_of linear b ≡ Some lb) where
    abbrev Plain : List Region → ℕ → ℕ → Type 0
    Plain rs lo hi = (q : ℕ) → lo ≤ q → q < hi → regions_at linear b q ≡ rs

    pub code_is_at : (rs : List Region) (pc : ℕ) (is : List Instruction) → IsSegmentAt lb.code pc is
        → Plain rs pc (pc + length is) → HasAt linear b rs pc is
    code_is_at rs pc [] h c = tt
    code_is_at rs pc (i ∷ is) h c = (
      ap (λ o. instruction_in o pc) there ∙ h.0,
      c pc (omega arith) (omega arith),
      code_is_at rs
          (pc + 1) is h.1 (λ q lo hi. c q (omega arith) (omega arith)),
    )

    declared_placed : (s : sound.TypingContext) (k : Knows program own false s) (names : Names)
        (d : Declared) (rs : List Region) (at : ℕ) → declared_sound s d ≡ true
        → IsSegmentAt lb.code at (declared_code names d at) → Plain rs at (at + declared_size d)
        → DeclaredPlaced program linear rate most own b names d rs at
    declared_placed s k names d rs at ok h c =
        let n = declared_length names d at in (
          subst (λ m. d.local < m) k.sizes
              (ltb-true d.local (length s.sizes) (both_left _ _ (both_left _ _ ok))),
          value_optional program linear rate most own s k (slice_get s.sizes d.local) d.value
              (both_right _ _ (both_left _ _ ok)),
          stacked_fits program linear rate most own s k d.stacked d.value (both_right _ _ ok),
          code_is_at rs at (declared_code names d at) h (λ q lo hi. c q lo (omega arith)),
        )

    all_declared_placed : (s : sound.TypingContext) (k : Knows program own false s) (names : Names)
        (ds : List Declared) (rs : List Region) (at : ℕ) → all_declared_sound s ds ≡ true
        → IsSegmentAt lb.code at (all_declared_code names ds at)
        → Plain rs at (at + all_declared_size ds) → AllDeclaredPlaced program linear rate most
        own b names ds rs at
    all_declared_placed s k names [] rs at ok h c = tt
    all_declared_placed s k names (d ∷ ds) rs at ok h c =
        let n = declared_length names d at in
        let code = declared_code names d at in
        let rest = all_declared_code names ds (at + declared_size d) in (
          declared_placed s k names d rs at (both_left _ _ ok) (front lb.code at code rest h)
              (λ q lo hi. c q lo (omega arith)),
          all_declared_placed s k names ds rs (at + declared_size d) (both_right _ _ ok)
              (back lb.code at (at + declared_size d) code rest (omega arith) h)
              (λ q lo hi. c q (omega arith) (omega arith)),
        )

  module _ (quick : most + most + 4 ≤ rate) where
    -- ---- filters

    filter_placed : (i : Inside) (scope : LoweringContext) → Alike i scope
        → (owner : Owner) (f : Filter) (j : ℕ) → filter_sound i.scope f ≡ true
        → filter_weight f ≤ most
        → IsSegmentAt linear.funclets j (filter_funclets owner (filter_names scope.names) f)
        → count_up (j + 1) (filter_funclet f) ≡ true
        → FilterPlaced program linear rate most own scope.names f
    filter_placed i scope a owner Always j ok light h n = tt
    filter_placed i scope a owner (Funclet k e) j ok light h n =
        let numbered = counted (j + 1) k [] n in
        let funclet = funclets_of.filter_funclet owner (filter_names scope.names) e in
        let same : k - 1 ≡ j = omega arith in
        let there : slice_get linear.funclets (k - 1) ≡ Some funclet = ap
        (slice_get linear.funclets) same ∙ h.0 in
        let home : body_of linear (FuncletBody (k - 1)) ≡ Some funclet.body = ap funclet_body there
        in
        let knows : Knows program own true (record i.scope { code = true; information = true }) =
        record { functions = a.knows.functions; sizes = a.knows.sizes; information = refl } in
        record {
          numbered = omega arith;
          funclet = (funclet, there, refl);
          code = code_is_at (FuncletBody (k - 1)) funclet.body home [] 0 funclet.body.code
              (whole_is_at funclet.body.code)
              (whole_cover linear (FuncletBody (k - 1)) funclet.body home 0
              (0 + length funclet.body.code));
          fits = expression_fits program own true
              (record i.scope { code = true; information = true }) knows e (both_left _ _ ok);
          light = omega arith;
        }

    -- ---- statements

    mutual
      pub place : (s : Statement) (b : BodyName) (lb : LinearBody) → body_of linear b ≡ Some lb
          → (i : Inside) (scope : LoweringContext) → Alike i scope
          → (owner : Owner) (rs : List Region) (at j : ℕ)
          → statement_sound i s ≡ true → statement_weight s ≤ most
          → IsSegmentAt lb.code at (statement_code scope s at)
          → Cover linear b rs at (at + statement_size s) (statement_regions s at)
          → IsSegmentAt linear.funclets j (statement_funclets owner scope.names s)
          → count_up (j + 1) (funclets_in s) ≡ true → Placed program linear rate most own b
          scope s rs at
      place (Declare d) b lb there i scope a owner rs at j ok light h c f n = declared_placed b lb
          there i.scope a.knows scope.names d rs at ok h c
      place (Block ss) b lb there i scope a owner rs at j ok light h c f n = place_all ss b lb there
          i scope a owner rs at j ok (omega arith) h c f n
      place (Evaluate e) b lb there i scope a owner rs at j ok light h c f n =
          let l = discarded_length scope.names e at in (
            optional_fits program linear rate most own i.scope a.knows e ok,
            code_is_at b lb there rs at
                (discarded_code scope.names e at) h (λ q lo hi. c q lo (omega arith)),
          )
      place (If t s) b lb there i scope a owner rs at j ok light h c f n =
          let code = expression_code scope.names t 0 at in
          let l = expression_length scope.names t 0 at in
          let then = at + expression_size t + 1 in
          let test = JumpIfZero (Temporary 0) (then + statement_size s) in
          let rest = statement_code scope s then in
          let tested = length-append code (test ∷ []) in (
            expression_fits program own false i.scope a.knows t (both_left _ _ (both_left _ _ ok)),
            code_is_at b lb there rs at (code ++ test ∷ []) (with_next lb.code at code test rest h)
                (λ q lo hi. bare linear b rs (statement_regions s then) q
                (outside s then q (inl (omega arith))) (c q lo (omega arith))),
            place s b lb there i scope a owner rs then j (both_right _ _ ok) (omega arith)
                (back lb.code at (at + expression_size t) code (test ∷ rest) (omega arith) h).1
                (λ q lo hi. c q (omega arith) (omega arith)) f n,
          )
      place (IfElse t s u) b lb there i scope a owner rs at j ok light h c f n =
          let code = expression_code scope.names t 0 at in
          let l = expression_length scope.names t 0 at in
          let then = at + expression_size t + 1 in let otherwise = then + statement_size s + 1 in
          let test = JumpIfZero (Temporary 0) otherwise in let end = otherwise + statement_size u in
          let yes = statement_code scope s then in let no = statement_code scope u otherwise in
          let skip = Jump (end + 1) in let rest = no ++ skip ∷ [] in
          let tested = length-append code (test ∷ []) in
          let ly = statement_length scope s then in let ln = statement_length scope u otherwise in
          let ry = statement_regions s then in let rn = statement_regions u otherwise in
          let fy = statement_funclets owner scope.names s in
          let fn = statement_funclets owner scope.names u in
          let count = statement_count owner scope.names s in
          let after = (back lb.code at (at + expression_size t) code (test ∷ (yes ++ skip ∷ rest))
          (omega arith) h).1 in
          let after_yes = back lb.code then (then + statement_size s) yes (skip ∷ rest)
          (omega arith) after in record {
            condition = expression_fits program own false i.scope a.knows t
                (both_left _ _ (both_left _ _ (both_left _ _ ok)));
            test = code_is_at b lb there rs at (code ++ test ∷ [])
                (with_next lb.code at code test (yes ++ skip ∷ rest) h)
                (λ q lo hi. bare linear b rs (ry ++ rn) q
                (right_only ry rn q (outside s then q (inl (omega arith)))
                ∙ outside u otherwise q (inl (omega arith))) (c q lo (omega arith)));
            yes = place s b lb there i scope a owner rs then j (both_right _ _ (both_left _ _ ok))
                (omega arith) (front lb.code then yes (skip ∷ rest) after)
                (λ q lo hi. part linear b rs (ry ++ rn) ry q
                (left_only ry rn q (outside u otherwise q (inl (omega arith))))
                (c q (omega arith) (omega arith)))
                (front linear.funclets j fy fn f)
                (count_front (j + 1) (funclets_in s) (funclets_in u) n);
            skip = code_is_at b lb there rs (then + statement_size s) (skip ∷ []) (after_yes.0, tt)
                (λ q lo hi. bare linear b rs (ry ++ rn) q
                (right_only ry rn q (outside s then q (inr (omega arith)))
                ∙ outside u otherwise q (inl (omega arith))) (c q (omega arith) (omega arith)));
            no = place u b lb there i scope a owner rs otherwise (j + length fy) (both_right _ _ ok)
                (omega arith) (front lb.code otherwise no (skip ∷ []) after_yes.1)
                (λ q lo hi. part linear b rs (ry ++ rn) rn q
                (right_only ry rn q (outside s then q (inr (omega arith))))
                (c q (omega arith) (omega arith)))
                (back linear.funclets j (j + length fy) fy fn refl f)
                (count_back (j + 1) (j + length fy + 1) (funclets_in s) (funclets_in u)
                (omega arith) n);
            joins = code_is_at b lb there rs end (skip ∷ [])
                (back lb.code otherwise end no (skip ∷ []) (omega arith) after_yes.1)
                (λ q lo hi. bare linear b rs (ry ++ rn) q
                (right_only ry rn q (outside s then q (inr (omega arith)))
                ∙ outside u otherwise q (inr (omega arith))) (c q (omega arith) (omega arith)));
          }
      place (For ds first' t next s) b lb there i scope a owner rs at j ok light h c f n =
          let names = scope.names in
          let begin = at + all_declared_size ds in
          let iteration = begin + discarded_size first' in
          let start = iteration + condition_size t in
          let again = start + statement_size s in
          let end = again + 1 + discarded_size next + 1 in
          let inner = in_loop end again scope in
          let declares = all_declared_code names ds at in
          let begins = discarded_code names first' begin in
          let tests = condition_code names t end iteration in
          let body = statement_code inner s start in
          let steps = discarded_code names next (again + 1) in
          let repeat = Jump iteration ∷ Separator ∷ [] in
          let ld = all_declared_length names ds at in
          let lf = discarded_length names first' begin in
          let lt = condition_length names t end iteration in
          let ls = statement_length inner s start in
          let ln = discarded_length names next (again + 1) in
          let h1 = back lb.code at begin declares
          (begins ++ (tests ++ (body ++ (Separator ∷ (steps ++ repeat))))) (omega arith) h
          in
          let h2 = back lb.code begin iteration begins
          (tests ++ (body ++ (Separator ∷ (steps ++ repeat)))) (omega arith) h1 in
          let h3 = back lb.code iteration start tests (body ++ (Separator ∷ (steps ++ repeat)))
          (omega arith) h2 in
          let h4 = back lb.code start again body (Separator ∷ (steps ++ repeat)) (omega arith) h3 in
          let h5 = back lb.code (again + 1) (again + 1 + discarded_size next) steps repeat
          (omega arith) h4.1 in
          let r = statement_regions s start in
          let before = λ (q : ℕ) (lo : at ≤ q) (hi : q < start). bare linear b rs r q
          (outside s start q (inl hi)) (c q lo (omega arith)) in
          let following = λ (q : ℕ) (lo : again ≤ q) (hi : q < end + 1). bare linear b rs r q
          (outside s start q (inr lo)) (c q (omega arith) (omega arith)) in record {
            declared = all_declared_placed b lb there i.scope a.knows names ds rs at
                (both_left _ _ (both_left _ _ (both_left _ _ (both_left _ _ ok))))
                (front lb.code at declares _ h) (λ q lo hi. before q lo (omega arith));
            first = optional_fits program linear rate most own i.scope a.knows first'
                (both_right _ _ (both_left _ _ (both_left _ _ (both_left _ _ ok))));
            begins = code_is_at b lb there rs begin begins (front lb.code begin begins _ h1)
                (λ q lo hi. before q (omega arith) (omega arith));
            iterations = record {
              condition = test_fits program linear rate most own i.scope a.knows t
                  (both_right _ _ (both_left _ _ (both_left _ _ ok)));
              next = optional_fits program linear rate most own i.scope a.knows next
                  (both_right _ _ (both_left _ _ ok));
              tests = code_is_at b lb there rs iteration tests (front lb.code iteration tests _ h2)
                  (λ q lo hi. before q (omega arith) (omega arith));
              body = place s b lb there (record i { loop = true }) inner
                  (loop_alike program linear rate most own i scope end again a) owner rs start j
                  (both_right _ _ ok) (omega arith)
                  (front lb.code start body _ h3) (λ q lo hi. c q (omega arith) (omega arith)) f n;
              end = code_is_at b lb there rs again (Separator ∷ []) (h4.0, tt)
                  (λ q lo hi. following q lo (omega arith));
              steps = code_is_at b lb there rs (again + 1) steps
                  (front lb.code (again + 1) steps repeat h4.1)
                  (λ q lo hi. following q (omega arith) (omega arith));
              repeats = code_is_at b lb there rs (again + 1 + discarded_size next)
                  (Jump iteration ∷ []) (h5.0, tt)
                  (λ q lo hi. following q (omega arith) (omega arith));
              lands = code_is_at b lb there rs end (Separator ∷ []) h5.1
                  (λ q lo hi. following q (omega arith) (omega arith));
            };
          }
      place (DoWhile s t) b lb there i scope a owner rs at j ok light h c f n =
          let names = scope.names in
          let again = at + statement_size s in
          let end = again + 1 + expression_size t + 2 in
          let inner = in_loop end again scope in
          let body = statement_code inner s at in
          let code = expression_code names t 0 (again + 1) in
          let test = JumpIfZero (Temporary 0) end in
          let ls = statement_length inner s at in
          let lt = expression_length names t 0 (again + 1) in
          let tested = length-append code (test ∷ []) in
          let h1 = back lb.code at again body (Separator ∷ (code ++ repeated end at)) (omega arith)
          h in
          let h2 = back lb.code (again + 1) (again + 1 + expression_size t) code (repeated end at)
          (omega arith) h1.1 in
          let r = statement_regions s at in
          let following = λ (q : ℕ) (lo : again ≤ q) (hi : q < end + 1). bare linear b rs r q
          (outside s at q (inr lo)) (c q (omega arith) (omega arith)) in record {
            condition = expression_fits program own false i.scope a.knows t
                (both_left _ _ (both_left _ _ ok));
            body = place s b lb there (record i { loop = true }) inner
                (loop_alike program linear rate most own i scope end again a) owner rs at j
                (both_right _ _ ok) (omega arith)
                (front lb.code at body _ h) (λ q lo hi. c q lo (omega arith)) f n;
            end = code_is_at b lb there rs again (Separator ∷ []) (h1.0, tt)
                (λ q lo hi. following q lo (omega arith));
            tests = code_is_at b lb there rs (again + 1) (code ++ test ∷ [])
                (with_next lb.code (again + 1) code test (Jump at ∷ Separator ∷ []) h1.1)
                (λ q lo hi. following q (omega arith) (omega arith));
            repeats = code_is_at b lb there rs (again + 1 + expression_size t + 1) (Jump at ∷ [])
                (h2.1.0, tt) (λ q lo hi. following q (omega arith) (omega arith));
            lands = code_is_at b lb there rs end (Separator ∷ [])
                (moved lb.code (again + 1 + expression_size t + 1 + 1) end (Separator ∷ [])
                (omega arith) h2.1.1) (λ q lo hi. following q (omega arith) (omega arith));
          }
      place (Return e) b lb there i scope a owner rs at j ok light h c f n =
          let code = returned_code scope.names e at in
          let l = returned_length scope.names e at in
          let m = return_length scope.exit in record {
            value = result_fits program linear rate most own i a.knows e (both_right _ _ ok);
            computes = code_is_at b lb there rs at code
                (front lb.code at code (return_code scope.exit) h)
                (λ q lo hi. c q lo (omega arith));
            returns = code_is_at b lb there rs (at + returned_size e) (return_code scope.exit)
                (back lb.code at (at + returned_size e) code (return_code scope.exit) (omega arith)
                h)
                (λ q lo hi. c q (omega arith) (omega arith));
            leads = a.exits (both_left _ _ ok);
          }
      place Break b lb there i scope a owner rs at j ok light h c f n =
          let l = jump_length scope.loop_end in (
            a.ends ok,
            code_is_at b lb there rs at (jump_code scope.loop_end) h
                (λ q lo hi. c q lo (omega arith)),
          )
      place Continue b lb there i scope a owner rs at j ok light h c f n =
          let l = jump_length scope.loop_next in (
            a.again ok,
            code_is_at b lb there rs at (jump_code scope.loop_next) h
                (λ q lo hi. c q lo (omega arith)),
          )
      place Leave b lb there i scope a owner rs at j ok light h c f n = (
        a.leaves ok,
        code_is_at b lb there rs at (leave_code scope.leave ∷ []) h
            (λ q lo hi. c q lo (omega arith)),
      )
      place (TryExcept body filter block) b lb there i scope a owner rs at j ok light h c f n =
          let names = scope.names in
          let at_jump = at + statements_size body in
          let target = at_jump + 1 in
          let end = target + 2 + statements_size block in
          let inner = in_try end scope in
          let guarded = statements_code inner body at in
          let handles = statements_code (in_except scope) block (target + 2) in
          let l = statements_length inner body at in
          let h1 = back lb.code at at_jump guarded (landed names.part end names.free ++ handles)
          (omega arith) h in
          let h2 = moved lb.code (at_jump + 1 + 1 + 1) (target + 2) handles (omega arith) h1.1.1.1
          in
          let rb = statements_regions body at in
          let rh = statements_regions block (target + 2) in
          let try = region at target (except_kind filter target) in
          let fb = statements_funclets owner names body in
          let ff = filter_funclets owner (filter_names names) filter in
          let fh = statements_funclets owner (except_names names) block in
          let f1 = back linear.funclets j (j + length fb) fb (ff ++ fh) refl f in
          let f2 = back linear.funclets (j + length fb) (j + length fb + length ff) ff fh refl f1 in
          let cb = statements_count owner names body in
          let numbers = sound.filter_funclet filter in
          let cf = filter_count owner (filter_names names) filter in
          let cn = length-append (funclets body) numbers in
          let nb = count_front (j + 1) (funclets body ++ numbers) (funclets block) n in
          let alone = λ (q : ℕ) (lo : at ≤ q) (hi : q < target). own_in try rh q lo hi
          ∙ ap (λ x. try ∷ x) (all_outside block (target + 2) q (inl (omega arith))) in
          let past = λ (q : ℕ) (lo : target ≤ q). right_only rb (try ∷ rh) q
          (all_outside body at q (inr (omega arith))) ∙ own_out try rh q (inr lo) in
          record {
            body = place_all body b lb there (record i { body = true }) inner
                (try_alike program linear rate most own i scope end a) owner (try ∷ rs) at j
                (both_left _ _ (both_left _ _ ok))
                (omega arith) (front lb.code at guarded _ h)
                (λ q lo hi. inside_own linear b rs try rb (try ∷ rh) q (alone q lo (omega arith))
                (c q lo (omega arith)))
                (front linear.funclets j fb (ff ++ fh) f)
                (count_front (j + 1) (funclets body) numbers nb);
            end = code_is_at b lb there (try ∷ rs) at_jump (Jump end ∷ []) (h1.0, tt)
                (λ q lo hi. c q (omega arith) (omega arith) ∙ ap (λ x. x ++ rs)
                (right_only rb (try ∷ rh) q (all_outside body at q (inr lo))
                ∙ alone q (omega arith) (omega arith)));
            landing = code_is_at b lb there rs target (Landing (Local names.free)
                ∷ reset_code names.part ∷ []) (h1.1.0, (h1.1.1.0, tt))
                (λ q lo hi. bare linear b rs (rb ++ (try ∷ rh)) q
                (past q lo ∙ all_outside block (target + 2) q (inl (omega arith)))
                (c q (omega arith) (omega arith)));
            block = place_all block b lb there (record i { scope = record i.scope { code = true } })
                (in_except scope) (except_alike program linear rate most own i scope a) owner rs
                (target + 2)
                (j + length fb + length ff) (both_right _ _ ok) (omega arith) h2
                (λ q lo hi. part linear b rs (rb ++ (try ∷ rh)) rh q (past q (omega arith))
                (c q (omega arith) (omega arith)))
                f2 (count_back (j + 1) (j + length fb + length ff + 1) (funclets body ++ numbers)
                (funclets block) (omega arith) n);
            filter = filter_placed i scope a owner filter (j + length fb)
                (both_right _ _ (both_left _ _ ok)) (omega arith)
                (front linear.funclets (j + length fb) ff fh f1)
                (count_back (j + 1) (j + length fb + 1) (funclets body) numbers (omega arith) nb);
          }
      place (TryFinally body k last) b lb there i scope a owner rs at j ok light h c f n =
          let names = scope.names in
          let at_end = at + statements_size body in
          let inner = in_guarded at_end scope in
          let guarded = statements_code inner body at in
          let l = statements_length inner body at in
          let h1 = back lb.code at at_end guarded (Separator ∷ CallFinally (k - 1) ∷ Separator ∷ [])
          (omega arith) h in
          let rb = statements_regions body at in
          let try = region at (at_end + 1) (regions.Finally (k - 1)) in
          let fb = statements_funclets owner names body in
          let fl = statements_funclets (in_funclet (k - 1) owner) (finally_names names) last in
          let funclet = finally_funclet owner names last in
          let f1 = back linear.funclets j (j + length fb) fb (funclet ∷ fl) refl f in
          let cb = statements_count owner names body in
          let n1 = count_back (j + 1) (j + length fb + 1) (funclets body) (k ∷ funclets last)
          (omega arith) n in
          let numbered = counted (j + length fb + 1) k (funclets last) n1 in
          let same : k - 1 ≡ j + length fb = omega arith in
          let is_there : slice_get linear.funclets (k - 1) ≡ Some funclet = ap
          (slice_get linear.funclets) same ∙ f1.0 in
          let home : body_of linear (FuncletBody (k - 1)) ≡ Some funclet.body = ap funclet_body
          is_there in
          let whole = whole_is_at funclet.body.code in
          let begins = finally_begin names.part names.free in
          let code = statements_code (finally_scope names) last 3 in
          let ends = instructions.Return (Local names.free) ∷ [] in
          let ll = statements_length (finally_scope names) last 3 in
          let lb' = begin_length names.part names.free in
          let after = back funclet.body.code 0 3 begins (code ++ ends) (omega arith) whole in
          let cover = whole_cover linear (FuncletBody (k - 1)) funclet.body home 0
          (length funclet.body.code) in
          let wide = length-append code ends in
          let wider = length-append begins (code ++ ends) in
          let past = λ (q : ℕ) (lo : at_end + 1 ≤ q). right_only rb (try ∷ []) q
          (all_outside body at q (inr (omega arith))) ∙ own_out try [] q (inr lo) in
          record {
            body = place_all body b lb there (record i { body = true }) inner
                (guarded_alike program linear rate most own i scope at_end a) owner (try ∷ rs) at j
                (both_left _ _ ok)
                (omega arith) (front lb.code at guarded _ h)
                (λ q lo hi. inside_own linear b rs try rb (try ∷ []) q
                (own_in try [] q lo (omega arith))
                (c q lo (omega arith)))
                (front linear.funclets j fb (funclet ∷ fl) f)
                (count_front (j + 1) (funclets body) (k ∷ funclets last) n);
            end = code_is_at b lb there (try ∷ rs) at_end (Separator ∷ []) (h1.0, tt)
                (λ q lo hi. c q (omega arith) (omega arith) ∙ ap (λ x. x ++ rs)
                (right_only rb (try ∷ []) q (all_outside body at q (inr lo))
                ∙ own_in try [] q (omega arith) (omega arith)));
            calls = code_is_at b lb there rs (at_end + 1) (CallFinally (k - 1) ∷ Separator ∷ [])
                h1.1
                (λ q lo hi. bare linear b rs (rb ++ (try ∷ [])) q (past q lo)
                (c q (omega arith) (omega arith)));
            block = record {
              numbered = omega arith;
              funclet = (funclet, is_there, refl);
              begins = code_is_at (FuncletBody (k - 1)) funclet.body home [] 0 begins
                  (front funclet.body.code 0 begins (code ++ ends) whole)
                  (λ q lo hi. bare linear (FuncletBody (k - 1)) [] (statements_regions last 3) q
                  (all_outside last 3 q (inl (omega arith))) (cover q lo (omega arith)));
              code = place_all last (FuncletBody (k - 1)) funclet.body home (in_finally i)
                  (finally_scope names) (finally_alike program linear rate most own i scope names a)
                  (in_funclet (k - 1) owner) []
                  3 (j + length fb + 1) (both_right _ _ ok) (omega arith)
                  (front funclet.body.code 3 code ends after)
                  (λ q lo hi. cover q (omega arith) (omega arith))
                  f1.1 (both_right _ _ n1);
              returns = code_is_at (FuncletBody (k - 1)) funclet.body home []
                  (3 + statements_size last) ends (back funclet.body.code 3
                  (3 + statements_size last) code ends (omega arith) after)
                  (λ q lo hi. bare linear (FuncletBody (k - 1)) [] (statements_regions last 3) q
                  (all_outside last 3 q (inr (omega arith)))
                  (cover q (omega arith) (omega arith)));
            };
          }

      pub place_all : (ss : Statements) (b : BodyName) (lb : LinearBody)
          → body_of linear b ≡ Some lb → (i : Inside) (scope : LoweringContext) → Alike i scope
          → (owner : Owner) (rs : List Region) (at j : ℕ)
          → statements_sound i ss ≡ true → statements_weight ss ≤ most
          → IsSegmentAt lb.code at (statements_code scope ss at)
          → Cover linear b rs at (at + statements_size ss) (statements_regions ss at)
          → IsSegmentAt linear.funclets j (statements_funclets owner scope.names ss)
          → count_up (j + 1) (funclets ss) ≡ true → AllPlaced program linear rate most own b
          scope ss rs at
      place_all Empty b lb there i scope a owner rs at j ok light h c f n = tt
      place_all (Then s ss) b lb there i scope a owner rs at j ok light h c f n =
          let next = at + statement_size s in
          let l = statement_length scope s at in
          let code = statement_code scope s at in
          let rest = statements_code scope ss next in
          let r = statement_regions s at in
          let more = statements_regions ss next in
          let fs = statement_funclets owner scope.names s in
          let fm = statements_funclets owner scope.names ss in
          let count = statement_count owner scope.names s in (
            place s b lb there i scope a owner rs at j (both_left _ _ ok) (omega arith)
                (front lb.code at code rest h)
                (λ q lo hi. part linear b rs (r ++ more) r q
                (left_only r more q (all_outside ss next q (inl hi))) (c q lo (omega arith)))
                (front linear.funclets j fs fm f)
                (count_front (j + 1) (funclets_in s) (funclets ss) n),
            place_all ss b lb there i scope a owner rs next (j + length fs) (both_right _ _ ok)
                (omega arith) (back lb.code at next code rest (omega arith) h)
                (λ q lo hi. part linear b rs (r ++ more) more q
                (right_only r more q (outside s at q (inr lo)))
                (c q (omega arith) (omega arith)))
                (back linear.funclets j (j + length fs) fs fm refl f)
                (count_back (j + 1) (j + length fs + 1) (funclets_in s) (funclets ss)
                (omega arith) n),
          )
