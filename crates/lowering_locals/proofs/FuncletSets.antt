-- Filters, `__finally` blocks and the funclets of a `__try` are beside their sets.
use Rattle.std.proofs.Common.{◌≡◌, ℕ, suc, ◌+◌, ◌-◌, ◌<◌, ◌≤◌, List, [], ◌∷◌, ◌++◌, length, refl, sym, ap, subst, ◌∙◌, arith, length-append, append_assoc}
use Rattle.std.proofs.lemmas.Bool.{leb-true, ltb-true}
use Rattle.std.proofs.lemmas.List.{length-replicate}
use Rattle.std.specs.List.{AllByRecursion}
use Rattle.std.specs.Prelude.{true, false, replicate, slice_get, Option, Some, None}
use Rattle.lowering_locals.specs.Words.{DataPart, Expression, funclets_in, funclets, filter_funclet, count_up, Filter, Always, Funclet, TryExcept, TryFinally, Statements, Local, Temporary, RegionKind, BodyName, FuncletBody, holds, flag_of, expression_size, statements_size, Owner, Names, LoweringContext, filter_names, finally_names, except_names, finally_scope, expression_code, statements_code, owner_of, function_of, SeenNames, with_local, IsPart, expression_within, filter_within, with_flag, function_locals, owner_locals, locals_at, FinallyBegins, statements_sets, filter_sets, finally_sets, statement_funclet_sets, statements_funclet_sets, except_kind, region, statements_regions, filter_funclets, finally_begin, finally_funclet, in_funclet, statement_funclets, statements_funclets}
use Rattle.linear_code.specs.declared.instruction.Instruction.TheVariants as instructions
use Rattle.linear_code.specs.declared.program.RegionKind.TheVariants as kinds
use Rattle.lowering_locals.proofs.Lemmas.{Range, part_of, both_parts, no_part, one_part, expression_length, statements_length, filter_count, statements_count, IsSegmentAt, front, back, whole_is_at, same_it, both_left, both_right, sees_own, itself, within, part_with, counted}
use Rattle.lowering_locals.proofs.Lemmas.{all_append}
use Rattle.seh_ir.specs.Funclets as funclets_of
use Rattle.lowering_locals.proofs.StraightCode.{is_same, head_recorded, past_end, even_list, Fine, AllFine, both_lead, straight}
use Rattle.lowering_locals.proofs.ExpressionSets.{BaseIn, IsAround, expression_fine}
use Rattle.lowering_locals.proofs.SetLists.{statements_long, filter_many, statements_many, statements_first, begins}
use Rattle.lowering_locals.proofs.Around.{around_finally, around_filter}
use Rattle.lowering_locals.proofs.SetPlaces.{WithSets, sets, IsRecordedAt, Lead, IsFine, IsGuarded, IsPlace, HasFunclets, has_front, has_back, whole_body, fine_body}

-- ---- the beginning of a `__finally` block

finally_begin_length : (part : Option DataPart) (x : ℕ) → length (finally_begin part x) ≡ 3
finally_begin_length None x = refl
finally_begin_length (Some part) x = refl

finally_begin_fine : (locals : ℕ) (part : Option DataPart) (x : ℕ) (seen : SeenNames)
    → seen x ≡ true → BaseIn seen part → ((y : ℕ) → seen y ≡ true → y < locals)
    → AllFine locals 0 3 seen (finally_begin part x)
finally_begin_fine locals None x seen h b below = (tt, (tt, (tt, tt)))
finally_begin_fine locals (Some part) x seen h b below = (
  (h, (omega arith, omega arith)),
  (((b, b), below part.base b), (tt, tt)),
)

module _ (program : WithSets) where
  open program use {linear, lists, funclet_lists, listed}

  -- ---- filters

  -- the first place of a filter, and its body
  pub record FilterIsSetAt (k : ℕ) (seen : SeenNames) : Type 0 where
    pub first : sets program (FuncletBody k) 0 ≡ seen
    pub fine : IsFine program k

  filter_alone : (owner : Owner) (names : Names) (e : Expression) (before seen : SeenNames) (k : ℕ)
      → function_locals (slice_get linear.functions owner.function) ≡ owner.locals
      → IsAround owner.locals names before seen → expression_within before e ≡ true
      → slice_get linear.funclets k ≡ Some (funclets_of.filter_funclet owner (filter_names names) e)
      → slice_get funclet_lists k ≡ Some (replicate (suc (expression_size e)) seen)
      → FilterIsSetAt k seen
  filter_alone owner names e before seen k room a w there recorded =
      let name = FuncletBody k in
      let n = expression_size e in
      let inner = filter_names names in
      let f = funclets_of.filter_funclet owner inner e in
      let list = replicate (suc n) seen in
      let code = expression_code inner e 0 0 in
      let l = expression_length inner e 0 0 in
      let is : list ≡ lists name = sym (listed k list recorded) in
      let is_there : IsSegmentAt (lists name) 0 list =
      subst (λ (ls : List SeenNames). IsSegmentAt ls 0 list) is (whole_is_at list) in
      let long : length (lists name) ≡ suc n = ap (λ (ls : List SeenNames). length ls) (sym is)
      ∙ length-replicate (suc n) seen in
      let none = past_end (lists name) (suc n) (omega arith) in
      let ended : IsRecordedAt program name (suc n) seen =
      λ x h. absurd (differ (sym (ap (λ (s : SeenNames). s x) none) ∙ h)) in
      let even = even_list (lists name) seen (suc n) 0 (suc n) (omega arith) is_there ended in
      let owned : owner_of linear name ≡ Some owner.function = ap function_of there in
      let own = ap (owner_locals linear) owned ∙ room in
      let m = length-append code (instructions.Return (Temporary 0) ∷ []) in
      record {
        first = head_recorded (lists name) 0 seen (replicate n seen) is_there;
        fine = record {
          body = fine_body program k f there (whole_body program name f.body
              (straight linear (sets program) name owner.locals own seen 0
              (suc n) even 0 f.body.code (omega arith) (omega arith)
              (all_append (Fine owner.locals 0 (suc n) seen) code (instructions.Return (Temporary 0)
              ∷ [])
              (expression_fine owner.locals inner before seen
              (around_filter owner.locals names before seen a) 0 (suc n) e 0 0 w (omega arith)
              (omega arith)) (tt, tt))) tt);
          flag = λ x g. absurd (none_flag (sym (ap flag_of there) ∙ g));
        };
      }
    where
      differ : false ≡ true → ⊥
      differ e = cc

      none_flag : {x : ℕ} → None ≡ Some x → ⊥
      none_flag e = cc

  -- ---- regions

  pub in_region : (begin end label : ℕ) (kind : RegionKind)
      → holds label (region begin end kind) ≡ true → (begin ≤ label) × (label < end)
  in_region begin end label kind h = (
    leb-true begin label (both_left _ _ h),
    ltb-true label end (both_right _ _ h),
  )

  pub filter_is_set : (name : BodyName) (owner : Owner) (scope : LoweringContext)
      (before seen : SeenNames) → IsPlace program name owner scope before seen
      → (f : Filter) (j at target : ℕ) → filter_within before f ≡ true
      → HasFunclets program j (filter_funclets owner (filter_names scope.names) f)
      (filter_sets seen f) (filter_funclet f) → ((label : ℕ) → at ≤ label → label < target
      → IsPart seen (sets program name label)) → IsRecordedAt program name target seen
      → IsGuarded program name (region at target (except_kind f target)) × Range (IsFine program) j
      (j + length (filter_funclet f))
  filter_is_set name owner scope before seen p Always j at target w h above t = (
    (λ label k. let r = in_region at target label (kinds.Always target) k in
        within (sets program name target) seen (sets program name label) t (above label r.0 r.1)),
    no_part (IsFine program) j (j + 0) (omega arith),
  )
  filter_is_set name owner scope before seen p (Funclet k e) j at target w h above t =
      let numbered = counted (j + 1) k [] h.numbers in
      let same : k - 1 ≡ j = omega arith in
      let x = filter_alone owner scope.names e before seen j p.room p.around w h.funclets.0
      h.recorded.0 in
      let first : IsPart (sets program (FuncletBody (k - 1)) 0) seen =
      subst (λ n. IsPart (sets program (FuncletBody n) 0) seen) (sym same)
      (is_same (sets program (FuncletBody j) 0) seen x.first) in (
        (λ label q.
            let r = in_region at target label (kinds.Filter (k - 1) target) q in
            let g = above label r.0 r.1 in (
              within (sets program (FuncletBody (k - 1)) 0) seen (sets program name label) first g,
              within (sets program name target) seen (sets program name label) t g,
            )),
        one_part (IsFine program) j x.fine,
      )

  -- ---- `__finally` blocks

  pub record FinallyIsSetAt (k : ℕ) (owner : Owner) (names : Names) (last : Statements)
      (before seen : SeenNames) : Type 0 where
    pub place : IsPlace program (FuncletBody k) (in_funclet k owner) (finally_scope names) before
        (with_local names.free seen)
    pub is_there : IsSegmentAt (lists (FuncletBody k)) 3
        (statements_sets (names.free + 1) (with_local names.free seen) last)
    pub end : IsRecordedAt program (FuncletBody k) (3 + statements_size last)
        (with_local names.free seen)
    pub begun : (s : SeenNames) → IsPart seen s → FinallyBegins linear (sets program) k s
    pub fine : Lead program (FuncletBody k) 3 (statements_code (finally_scope names) last 3)
        → AllByRecursion (IsGuarded program (FuncletBody k)) (statements_regions last 3)
        → IsFine program k

  pub finally_alone : (owner : Owner) (names : Names) (last : Statements) (before seen : SeenNames)
      (k : ℕ) → function_locals (slice_get linear.functions owner.function) ≡ owner.locals
      → IsAround owner.locals names before seen → names.free < owner.locals
      → slice_get linear.funclets k ≡ Some (finally_funclet owner names last)
      → slice_get funclet_lists k ≡ Some (finally_sets names.free seen last)
      → FinallyIsSetAt k owner names last before seen
  finally_alone owner names last before seen k room a lt there recorded =
      let home = FuncletBody k in
      let free = names.free in
      let more = with_local free seen in
      let list = finally_sets free seen last in
      let f = finally_funclet owner names last in
      let owned : owner_of linear home ≡ Some owner.function = ap function_of there in
      let size = statements_size last in
      let ll = statements_sets (free + 1) more last in
      let long = statements_long last (free + 1) more in
      let lc = statements_length (finally_scope names) last 3 in
      let first = finally_begin names.part free in
      let lb = finally_begin_length names.part free in
      let own = ap (owner_locals linear) owned ∙ room in
      let end = 3 + size in
      let whole : IsSegmentAt (lists home) 0 list =
      subst (λ (ls : List SeenNames). IsSegmentAt ls 0 list) (sym (listed k list recorded))
      (whole_is_at list) in
      let after = back (lists home) 0 3 (replicate 3 more) (ll ++ replicate 1 more) refl whole in
      let here_last : sets program home end ≡ more =
      head_recorded (lists home) end more [] (back (lists home) 3 end ll (replicate 1 more)
      (omega arith) after) in
      let recorded_last : IsRecordedAt program home end more =
      is_same (sets program home end) more here_last in
      let is_there = front (lists home) 3 ll (replicate 1 more) after in
      let start = begins (lists home) 3 end ll more more is_there
      (statements_first last (free + 1) more more (itself more)) (omega arith) recorded_last in
      let even = even_list (lists home) more 3 0 3 refl
      (front (lists home) 0 (replicate 3 more) (ll ++ replicate 1 more) whole) start in
      let begun = is_same (sets program home 0) more (even.inside 0 (omega arith) (omega arith)) in
      let around = around_finally owner.locals names before seen lt a in
      let first_leads = straight linear (sets program) home owner.locals own more 0 3 even 0 first
      (omega arith) (omega arith) (finally_begin_fine owner.locals names.part free more
      (sees_own seen free) around.base around.below) in
      let seen_flag : sets program home end free ≡ true = ap (λ (s : SeenNames). s free) here_last
      ∙ sees_own seen free in
      record {
        place = record {
          owned = owned;
          room = room;
          around = around;
          exit = tt;
          loop_end = tt;
          loop_next = tt;
          leave = tt;
        };
        is_there = is_there;
        end = recorded_last;
        begun = λ s q. subst (λ o. IsPart (sets program home 0) (with_flag o s))
            (sym (ap flag_of there)) (within (sets program home 0) more (with_local free s) begun
            (part_with seen s free q));
        fine = λ x r. record {
          body = fine_body program k f there (whole_body program home f.body
              (both_lead linear (sets program) home 0 3 first
              (statements_code (finally_scope names) last 3 ++ instructions.Return (Local free)
              ∷ []) (omega arith) first_leads (both_lead linear (sets program) home 3 end
              (statements_code (finally_scope names) last 3) (instructions.Return (Local free)
              ∷ []) (omega arith) x (seen_flag, tt))) r);
          flag = λ n g. subst (λ m. m < locals_at linear home)
              (same_it free n (sym (ap flag_of there) ∙ g))
              (subst (λ m. free < m) (sym own) lt);
        };
      }

  -- ---- funclets of a `__try`

  pub record ExceptFunclets (j : ℕ) (owner : Owner) (names : Names) (seen : SeenNames)
      (body : Statements) (filter : Filter) (block : Statements) : Type 0 where
    pub of_body : HasFunclets program j (statements_funclets owner names body)
        (statements_funclet_sets names.free seen body) (funclets body)
    pub of_filter : HasFunclets program (j + length (funclets body))
        (filter_funclets owner (filter_names names) filter) (filter_sets seen filter)
        (filter_funclet filter)
    pub of_block : HasFunclets program (j + length (funclets body) + length (filter_funclet filter))
        (statements_funclets owner (except_names names) block)
        (statements_funclet_sets (names.free + 1) (with_local names.free seen) block)
        (funclets block)

  pub except_funclets : (j : ℕ) (owner : Owner) (scope : LoweringContext) (seen : SeenNames)
      (body : Statements) (filter : Filter) (block : Statements)
      → HasFunclets program j (statement_funclets owner scope.names (TryExcept body filter block))
      (statement_funclet_sets scope.names.free seen (TryExcept body filter block))
      (funclets_in (TryExcept body filter block))
      → ExceptFunclets j owner scope.names seen body filter block
  except_funclets j owner scope seen body filter block f =
      let names = scope.names in
      let free = names.free in
      let fb = statements_funclets owner names body in
      let ff = filter_funclets owner (filter_names names) filter in
      let fk = statements_funclets owner (except_names names) block in
      let sb = statements_funclet_sets free seen body in
      let sf = filter_sets seen filter in
      let sk = statements_funclet_sets (free + 1) (with_local free seen) block in
      let nb = funclets body in
      let nf = filter_funclet filter in
      let nk = funclets block in
      let all : HasFunclets program j (fb ++ (ff ++ fk)) (sb ++ (sf ++ sk)) (nb ++ (nf ++ nk)) =
      record {
        funclets = f.funclets;
        recorded = f.recorded;
        numbers =
            subst (λ ns. count_up (j + 1) ns ≡ true) (append_assoc nb nf nk) f.numbers;
      } in
      let mid = j + length nb in
      let rest = has_back program j mid fb (ff ++ fk) sb (sf ++ sk) nb (nf
      ++ nk) refl (statements_count owner names body) (statements_many body free seen) all in
      record {
        of_body = has_front program j fb (ff ++ fk) sb (sf ++ sk) nb (nf ++ nk) all;
        of_filter = has_front program mid ff fk sf sk nf nk rest;
        of_block = has_back program mid (mid + length nf) ff fk sf sk nf nk refl
            (filter_count owner (filter_names names) filter) (filter_many filter seen) rest;
      }

  pub record FinallyFunclets (j : ℕ) (owner : Owner) (names : Names) (seen : SeenNames)
      (body : Statements) (k : ℕ) (last : Statements) : Type 0 where
    pub of_body : HasFunclets program j (statements_funclets owner names body)
        (statements_funclet_sets names.free seen body) (funclets body)
    pub same : k - 1 ≡ j + length (funclets body)
    pub there : slice_get linear.funclets (k - 1) ≡ Some (finally_funclet owner names last)
    pub recorded : slice_get funclet_lists (k - 1) ≡ Some (finally_sets names.free seen last)
    pub of_last : HasFunclets program (j + length (funclets body) + 1)
        (statements_funclets (in_funclet (k - 1) owner) (finally_names names) last)
        (statements_funclet_sets (names.free + 1) (with_local names.free seen) last) (funclets last)

  pub finally_funclets : (j : ℕ) (owner : Owner) (scope : LoweringContext) (seen : SeenNames)
      (body : Statements) (k : ℕ) (last : Statements)
      → HasFunclets program j (statement_funclets owner scope.names (TryFinally body k last))
      (statement_funclet_sets scope.names.free seen (TryFinally body k last))
      (funclets_in (TryFinally body k last))
      → FinallyFunclets j owner scope.names seen body k last
  finally_funclets j owner scope seen body k last f =
      let names = scope.names in
      let free = names.free in
      let fb = statements_funclets owner names body in
      let fl = finally_funclet owner names last
      ∷ statements_funclets (in_funclet (k - 1) owner) (finally_names names) last in
      let sb = statements_funclet_sets free seen body in
      let sl = finally_sets free seen last ∷ statements_funclet_sets (free + 1)
      (with_local free seen) last in
      let nb = funclets body in
      let mid = j + length nb in
      let rest = has_back program j mid fb fl sb sl nb (k ∷ funclets last) refl
      (statements_count owner names body) (statements_many body free seen) f in
      let numbered = counted (mid + 1) k (funclets last) rest.numbers in
      let same : k - 1 ≡ mid = omega arith in
      record {
        of_body = has_front program j fb fl sb sl nb (k ∷ funclets last) f;
        same = same;
        there = ap (slice_get linear.funclets) same ∙ rest.funclets.0;
        recorded = ap (slice_get funclet_lists) same ∙ rest.recorded.0;
        of_last = record {
          funclets = rest.funclets.1;
          recorded = rest.recorded.1;
          numbers =
              both_right _ _ rest.numbers;
        };
      }

  -- ---- ranges of funclets

  pub two_ranges : (j : ℕ) (ns os : List ℕ) → Range (IsFine program) j (j + length ns)
      → Range (IsFine program) (j + length ns) (j + length ns + length os)
      → Range (IsFine program) j (j + length (ns ++ os))
  two_ranges j ns os x y = let l = length-append ns os in
      part_of (IsFine program) j (j + length ns + length os) j (j + length (ns ++ os)) (omega arith)
      (omega arith) (both_parts (IsFine program) j (j + length ns) (j + length ns + length os) x y)

  pub three_ranges : (j : ℕ) (ns os ps : List ℕ) → Range (IsFine program) j (j + length ns)
      → Range (IsFine program) (j + length ns) (j + length ns + length os)
      → Range (IsFine program) (j + length ns + length os) (j + length ns + length os + length ps)
      → Range (IsFine program) j (j + length ((ns ++ os) ++ ps))
  three_ranges j ns os ps x y z =
      let mid = j + length ns + length os in
      let last = mid + length ps in
      let l = length-append ns os in
      let m = length-append (ns ++ os) ps in
      part_of (IsFine program) j last j (j + length ((ns ++ os) ++ ps)) (omega arith) (omega arith)
      (both_parts (IsFine program) j (j + length ns) last x
      (both_parts (IsFine program) (j + length ns) mid last y z))

  pub block_ranges : (j : ℕ) (ns : List ℕ) (k : ℕ) (os : List ℕ)
      → Range (IsFine program) j (j + length ns) → IsFine program (j + length ns)
      → Range (IsFine program) (j + length ns + 1) (j + length ns + 1 + length os)
      → Range (IsFine program) j (j + length (ns ++ k ∷ os))
  block_ranges j ns k os x f z =
      let mid = j + length ns in
      let last = mid + 1 + length os in
      let l = length-append ns (k ∷ os) in
      part_of (IsFine program) j last j (j + length (ns ++ k ∷ os)) (omega arith) (omega arith)
      (both_parts (IsFine program) j mid last x (both_parts (IsFine program) mid (mid + 1) last
      (one_part (IsFine program) mid f) z))
