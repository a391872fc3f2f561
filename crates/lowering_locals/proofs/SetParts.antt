-- Each part of a program is beside its sets: its instructions lead to places that tell no more,
-- its regions guard no more, and so it is in its filters and `__finally` blocks.
use Rattle.std.proofs.Common.{◌≡◌, ℕ, ◌+◌, ◌-◌, ◌<◌, ◌≤◌, [], ◌∷◌, length, refl, subst, arith}
use Rattle.std.specs.Prelude.{true, false}
use Rattle.lowering_locals.specs.Words.{Inside, funclets_in, funclets, filter_funclet, statement_sound, statements_sound, Statement, Declare, Block, Evaluate, If, IfElse, For, DoWhile, Return, Break, Continue, Leave, TryExcept, TryFinally, Statements, Empty, Then, BodyName, FuncletBody, expression_size, discarded_size, statement_size, statements_size, declared_notes, statement_notes, statements_notes, Owner, LoweringContext, in_loop, in_try, in_except, in_guarded, finally_scope, statement_code, statements_code, SeenNames, with_local, after_all_declared, after_statement, statement_within, statements_within, statement_sets, statements_sets, statement_funclet_sets, statements_funclet_sets, except_kind, region, statement_regions, statements_regions, in_funclet, statement_funclets, statements_funclets}
use Rattle.linear_code.specs.declared.program.RegionKind.TheVariants as kinds
use Rattle.lowering_locals.proofs.Lemmas.{statement_count, IsSegmentAt, both_left, both_right, sees_before, within, all_append}
use Rattle.lowering_locals.proofs.StraightCode.{is_same, even_list}
use Rattle.lowering_locals.proofs.SetLists.{statement_many, grows, all_grow}
use Rattle.lowering_locals.proofs.StatementPieces.{around_all_declared, jump_leads, leave_leads, discarded_leads, declared_leads}
use Rattle.lowering_locals.proofs.ChoiceSets.{if_parts, if_else_parts, returns_lead, then_parts}
use Rattle.lowering_locals.proofs.LoopSets as loops
use Rattle.lowering_locals.proofs.Around.{around_after, above_body}
use Rattle.lowering_locals.proofs.TrySets.{except_parts, finally_parts}
use Rattle.lowering_locals.proofs.SetPlaces.{HasFunclets, IsFine, IsGuarded, IsPlace, IsRecordedAt, IsSetAt, WithSets, except_place, guarded_place, has_back, has_front, locals_are, loop_place, more_place, plain, sets, try_place}
use Rattle.lowering_locals.proofs.FuncletSets.{block_ranges, except_funclets, filter_is_set, finally_alone, finally_funclets, in_region, three_ranges, two_ranges}

module _ (program : WithSets) where
  open program use {linear, lists, funclet_lists, listed}

  mutual
    pub statement_is_set : (s : Statement) (name : BodyName) (owner : Owner) (i : Inside)
        (scope : LoweringContext) (before seen : SeenNames) (at j : ℕ)
        → IsPlace program name owner scope before seen → length i.scope.sizes ≤ owner.locals
        → scope.names.free + statement_notes s ≤ owner.locals → statement_sound i s ≡ true
        → statement_within before s ≡ true
        → IsSegmentAt (lists name) at (statement_sets scope.names.free seen s)
        → IsRecordedAt program name (at + statement_size s) (after_statement seen s)
        → HasFunclets program j (statement_funclets owner scope.names s)
        (statement_funclet_sets scope.names.free seen s) (funclets_in s)
        → IsSetAt program name at (statement_code scope s at) (statement_regions s at) j
        (j + length (funclets_in s))
    statement_is_set (Declare d) name owner i scope before seen at j p fits notes ok w h end f =
        plain program name at _ j (declared_leads linear lists name owner.locals
        (locals_are program name owner scope before seen p) scope.names i.scope fits d before
        seen at notes p.around ok w h end)
    statement_is_set (Block ss) name owner i scope before seen at j p fits notes ok w h end f =
        statements_are_set ss name owner i scope before seen at j p fits notes ok w h end f
    statement_is_set (Evaluate e) name owner i scope before seen at j p fits notes ok w h end f =
        let n = discarded_size e in
        plain program name at _ j (discarded_leads linear lists name owner.locals
        (locals_are program name owner scope before seen p) scope.names before seen p.around e
        at w (even_list (lists name) seen n at (at + n) refl h end))
    statement_is_set (If c s) name owner i scope before seen at j p fits notes ok w h end f =
        let q = if_parts linear lists name owner.locals
        (locals_are program name owner scope before seen p) scope before seen p.around c s at
        (both_left _ _ w) h end in
        let x = statement_is_set s name owner i scope before seen
        (at + expression_size c + 1) j p fits notes (both_right _ _ ok)
        (both_right _ _ w) q.is_there q.end f in
        record { leads = q.leads x.leads; regions = x.regions; funclets = x.funclets }
    statement_is_set (IfElse c s t) name owner i scope before seen at j p fits notes ok w h end f =
        let free = scope.names.free in
        let then = at + expression_size c + 1 in
        let otherwise = then + statement_size s + 1 in
        let q = if_else_parts linear lists name owner.locals
        (locals_are program name owner scope before seen p) scope before seen p.around c s t at
        (both_left _ _ (both_left _ _ w)) h end in
        let fs = statement_funclets owner scope.names s in
        let ft = statement_funclets owner scope.names t in
        let ss = statement_funclet_sets free seen s in
        let st = statement_funclet_sets free seen t in
        let mid = j + length (funclets_in s) in
        let notes_s : free + statement_notes s ≤ owner.locals = omega arith in
        let notes_t : free + statement_notes t ≤ owner.locals = omega arith in
        let x = statement_is_set s name owner i scope before seen
        then j p fits notes_s (both_right _ _ (both_left _ _ ok))
        (both_right _ _ (both_left _ _ w)) q.is_there q.end
        (has_front program j fs ft ss st (funclets_in s) (funclets_in t) f) in
        let y = statement_is_set t name owner i scope before seen otherwise mid p fits notes_t
        (both_right _ _ ok) (both_right _ _ w) q.other_is_at q.other_end
        (has_back program j mid fs ft ss st (funclets_in s) (funclets_in t) refl
        (statement_count owner scope.names s) (statement_many s free seen) f) in
        record {
          leads = q.leads x.leads y.leads;
          regions = all_append (IsGuarded program name) (statement_regions s then)
              (statement_regions t otherwise) x.regions y.regions;
          funclets = two_ranges program j (funclets_in s) (funclets_in t) x.funclets y.funclets;
        }
    statement_is_set (For ds first c next s) name owner i scope before seen at j p fits notes ok w h
        end f =
        let notes_ds : scope.names.free + declared_notes ds ≤ owner.locals = omega arith in
        let notes_s : scope.names.free + statement_notes s ≤ owner.locals = omega arith in
        let ok_ds = both_left _ _ (both_left _ _ (both_left _ _ (both_left _ _ ok))) in
        let w1 = both_left _ _ w in
        let w2 = both_left _ _ w1 in
        let w3 = both_left _ _ w2 in
        let inner = after_all_declared seen ds in
        let outer = after_all_declared before ds in
        let around = around_all_declared owner.locals scope.names i.scope ds before seen fits ok_ds
        p.around in
        let more = more_place program name owner scope before seen outer inner
        (all_grow ds seen) around p in
        let start = loops.for_start linear lists name owner.locals
        (locals_are program name owner scope before seen p) scope before seen p.around ds first
        c at in
        let again = start + statement_size s in
        let out = again + 1 + discarded_size next + 1 in
        let q = loops.for_parts linear lists name owner.locals
        (locals_are program name owner scope before seen p) scope before seen p.around i.scope
        ds first c next s at notes_ds fits ok_ds (both_left _ _ w3) (both_right _ _ w3)
        (both_right _ _ w2) (both_right _ _ w1) h end in
        let x = statement_is_set s name owner (record i { loop = true })
        (in_loop out again scope) outer inner start j
        (loop_place program name owner scope outer inner out again q.leaves q.next more) fits
        notes_s (both_right _ _ ok) (both_right _ _ w) q.is_there q.end f in
        record { leads = q.leads x.leads; regions = x.regions; funclets = x.funclets }
    statement_is_set (DoWhile s c) name owner i scope before seen at j p fits notes ok w h end f =
        let again = at + statement_size s in
        let out = again + 1 + expression_size c + 2 in
        let q = loops.do_parts linear lists name owner.locals
        (locals_are program name owner scope before seen p) scope before seen p.around s c at
        (both_left _ _ w) h end in
        let x = statement_is_set s name owner (record i { loop = true })
        (in_loop out again scope) before seen at j
        (loop_place program name owner scope before seen out again q.leaves q.next p) fits notes
        (both_right _ _ ok) (both_right _ _ w) q.is_there q.end f in
        record { leads = q.leads x.leads; regions = x.regions; funclets = x.funclets }
    statement_is_set (Return e) name owner i scope before seen at j p fits notes ok w h end f =
        plain program name at _ j (returns_lead linear lists name owner.locals
        (locals_are program name owner scope before seen p) scope before seen p.around e at w
        p.exit h end)
    statement_is_set Break name owner i scope before seen at j p fits notes ok w h end f =
        plain program name at _ j (jump_leads linear lists name scope.loop_end at seen p.loop_end
        (even_list (lists name) seen 2 at (at + 2) refl h end))
    statement_is_set Continue name owner i scope before seen at j p fits notes ok w h end f =
        plain program name at _ j (jump_leads linear lists name scope.loop_next at seen p.loop_next
        (even_list (lists name) seen 2 at (at + 2) refl h end))
    statement_is_set Leave name owner i scope before seen at j p fits notes ok w h end f =
        plain program name at _ j (leave_leads linear lists name scope.leave at seen p.leave
        (even_list (lists name) seen 1 at (at + 1) refl h end))
    statement_is_set (TryExcept body filter block) name owner i scope before seen at j p fits notes
        ok w h end f =
        let free = scope.names.free in
        let more = with_local free seen in
        let skip = at + statements_size body in
        let target = skip + 1 in
        let out = target + 2 + statements_size block in
        let room : free < owner.locals = omega arith in
        let notes_body : free + statements_notes body ≤ owner.locals = omega arith in
        let notes_block : free + 1 + statements_notes block ≤ owner.locals = omega arith in
        let q = except_parts linear lists name owner.locals
        (locals_are program name owner scope before seen p) scope before seen p.around body
        filter block at room h end in
        let fs = except_funclets program j owner scope seen body filter block f in
        let nb = length (funclets body) in
        let nf = length (filter_funclet filter) in
        let x = statements_are_set body name owner (record i { body = true })
        (in_try out scope) before seen at j
        (try_place program name owner scope before seen out q.leaves p) fits notes_body
        (both_left _ _ (both_left _ _ ok)) (both_left _ _ (both_left _ _ w))
        q.is_there (is_same (sets program name skip) seen q.end) fs.of_body in
        let y = filter_is_set program name owner scope before seen p filter (j + nb) at target
        (both_right _ _ (both_left _ _ w)) fs.of_filter
        (λ label a b. above_body linear lists name body free seen at label q.is_there q.end a b)
        q.target in
        let z = statements_are_set block name owner
        (record i { scope = record i.scope { code = true } }) (in_except scope) before more
        (target + 2) (j + nb + nf) (except_place program name owner scope before seen room p) fits
        notes_block (both_right _ _ ok) (both_right _ _ w)
        q.block_is_at (within (sets program name out) seen more q.leaves (sees_before seen free))
        fs.of_block in
        record {
          leads = q.leads x.leads z.leads;
          regions = all_append (IsGuarded program name) (statements_regions body at)
              (region at target (except_kind filter target)
              ∷ statements_regions block (target + 2)) x.regions (y.0, z.regions);
          funclets = three_ranges program j (funclets body) (filter_funclet filter)
              (funclets block) x.funclets y.1 z.funclets;
        }
    statement_is_set (TryFinally body k last) name owner i scope before seen at j p fits notes ok w
        h end f =
        let names = scope.names in
        let free = names.free in
        let more = with_local free seen in
        let ends = at + statements_size body in
        let room : free < owner.locals = omega arith in
        let notes_body : free + statements_notes body ≤ owner.locals = omega arith in
        let notes_last : free + 1 + statements_notes last ≤ owner.locals = omega arith in
        let q = finally_parts linear lists name owner.locals
        (locals_are program name owner scope before seen p) scope before seen p.around body k
        last at h end in
        let fs = finally_funclets program j owner scope seen body k last f in
        let b = finally_alone program owner names last before seen
        (k - 1) p.room p.around room fs.there fs.recorded in
        let nb = length (funclets body) in
        let mid = j + nb in
        let x = statements_are_set body name owner (record i { body = true })
        (in_guarded ends scope) before seen at j
        (guarded_place program name owner scope before seen ends
        (is_same (sets program name ends) seen q.end) p) fits notes_body (both_left _ _ ok)
        (both_left _ _ w)
        q.is_there (is_same (sets program name ends) seen q.end) fs.of_body in
        let y = statements_are_set last (FuncletBody (k - 1)) (in_funclet (k - 1) owner)
        (record {
          scope = record i.scope { abnormal = true };
          returns = i.returns;
          loop = false;
          body = false;
          function = false;
        }) (finally_scope names) before more 3 (mid + 1)
        b.place fits notes_last (both_right _ _ ok)
        (both_right _ _ w) b.is_there b.end fs.of_last in
        let fine : IsFine program mid = subst (IsFine program) fs.same (b.fine y.leads y.regions) in
        let begun : IsGuarded program name (region at (ends + 1) (kinds.Finally (k - 1))) = λ label
        r. let g = in_region program at (ends + 1) label (kinds.Finally (k - 1)) r in
        b.begun (sets program name label)
        (above_body linear lists name body free seen at label q.is_there q.end g.0 g.1) in
        record {
          leads = q.leads b.begun x.leads;
          regions = all_append (IsGuarded program name) (statements_regions body at)
              (region at (ends + 1) (kinds.Finally (k - 1)) ∷ []) x.regions (begun, tt);
          funclets = block_ranges program j (funclets body) k
              (funclets last) x.funclets fine y.funclets;
        }

    pub statements_are_set : (ss : Statements) (name : BodyName) (owner : Owner) (i : Inside)
        (scope : LoweringContext) (before seen : SeenNames) (at j : ℕ)
        → IsPlace program name owner scope before seen → length i.scope.sizes ≤ owner.locals
        → scope.names.free + statements_notes ss ≤ owner.locals → statements_sound i ss ≡ true
        → statements_within before ss ≡ true
        → IsSegmentAt (lists name) at (statements_sets scope.names.free seen ss)
        → IsRecordedAt program name (at + statements_size ss) seen
        → HasFunclets program j (statements_funclets owner scope.names ss)
        (statements_funclet_sets scope.names.free seen ss) (funclets ss)
        → IsSetAt program name at (statements_code scope ss at) (statements_regions ss at) j
        (j + length (funclets ss))
    statements_are_set Empty name owner i scope before seen at j p fits notes ok w h end f =
        plain program name at [] j tt
    statements_are_set (Then s ss) name owner i scope before seen at j p fits notes ok w h end f =
        let free = scope.names.free in
        let next = at + statement_size s in
        let more = after_statement seen s in
        let q = then_parts linear lists name owner.locals
        (locals_are program name owner scope before seen p) scope before seen p.around s ss at h
        end in
        let a = around_after s i owner.locals scope.names before seen fits
        (both_left _ _ ok) p.around in
        let fs = statement_funclets owner scope.names s in
        let fr = statements_funclets owner scope.names ss in
        let ts = statement_funclet_sets free seen s in
        let tr = statements_funclet_sets free more ss in
        let mid = j + length (funclets_in s) in
        let notes_s : free + statement_notes s ≤ owner.locals = omega arith in
        let notes_ss : free + statements_notes ss ≤ owner.locals = omega arith in
        let x = statement_is_set s name owner i scope before seen at j p fits notes_s
        (both_left _ _ ok) (both_left _ _ w) q.is_there q.end
        (has_front program j fs fr ts tr (funclets_in s) (funclets ss) f) in
        let y = statements_are_set ss name owner i scope (after_statement before s) more next mid
        (more_place program name owner scope before seen (after_statement before s) more
        (grows s seen) a p) fits notes_ss (both_right _ _ ok) (both_right _ _ w)
        q.other_is_at q.other_end (has_back program j mid fs fr ts tr (funclets_in s)
        (funclets ss) refl (statement_count owner scope.names s) (statement_many s free seen) f)
        in
        record {
          leads = q.leads x.leads y.leads;
          regions = all_append (IsGuarded program name) (statement_regions s at)
              (statements_regions ss next) x.regions y.regions;
          funclets = two_ranges program j (funclets_in s) (funclets ss) x.funclets y.funclets;
        }
