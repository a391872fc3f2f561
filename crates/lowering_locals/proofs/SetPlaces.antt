-- The places of a program beside their sets: what is recorded around a part,
-- and what is claimed of one.
use Rattle.std.proofs.Common.{◌≡◌, ℕ, ◌+◌, ◌<◌, List, [], ◌++◌, length, sym, ap, subst, ◌∙◌, arith}
use Rattle.std.specs.List.{AllByRecursion}
use Rattle.std.specs.Prelude.{true, slice_get, Some}
use Rattle.lowering_locals.specs.Words.{Instruction, Region, LinearProgram, LinearBody, LinearFunclet, BodyName, FuncletBody, funclet_body, body_of, holds, flag_of, Owner, LoweringContext, in_loop, in_try, in_except, in_guarded, owner_of, SeenNames, with_local, IsPart, function_locals, owner_locals, locals_at, Leads, Guards, IsSetBody, set_in, count_up}
use Rattle.lowering_locals.proofs.Lemmas.{Range, no_part, IsSegmentAt, front, back, same_it, all_map, sees_own, sees_before, within, count_front, count_back}
use Rattle.lowering_locals.proofs.StraightCode.{AllLead, lead_at}
use Rattle.lowering_locals.proofs.ExpressionSets.{IsAround}
use Rattle.lowering_locals.proofs.StatementPieces.{flag_kept, base_kept, below_with, WayIn, LabelIn}
use Rattle.lowering_locals.proofs.Around.{way_more, label_more, unwound_in}

-- a linear program with the sets of its bodies, those of the funclets by their numbers
pub record WithSets : Type 0 where
  pub linear : LinearProgram
  pub lists : BodyName → List SeenNames
  pub funclet_lists : List (List SeenNames)
  pub listed : (k : ℕ) (list : List SeenNames) → slice_get funclet_lists k ≡ Some list
      → lists (FuncletBody k) ≡ list

module _ (program : WithSets) where
  open program use {linear, lists, funclet_lists, listed}

  abbrev pub sets : BodyName → ℕ → SeenNames
  sets name label = set_in (lists name) label

  abbrev pub IsRecordedAt : BodyName → ℕ → SeenNames → Type 0
  IsRecordedAt name label seen = IsPart (sets name label) seen

  abbrev pub Lead : BodyName → ℕ → List Instruction → Type 0
  Lead name at code = AllLead linear sets name at code

  -- the funclet of a number
  pub record IsFine (k : ℕ) : Type 0 where
    pub body : (b : LinearBody) → body_of linear (FuncletBody k) ≡ Some b
        → IsSetBody linear sets (FuncletBody k) b
    pub flag : (x : ℕ) → flag_of (slice_get linear.funclets k) ≡ Some x
        → x < locals_at linear (FuncletBody k)

  abbrev pub IsGuarded : BodyName → Region → Type 0
  IsGuarded name r = (label : ℕ) → holds label r ≡ true → Guards linear sets name label r.kind

  -- whose body a part is in, and what is recorded around it
  pub record IsPlace (name : BodyName) (owner : Owner) (scope : LoweringContext)
      (before seen : SeenNames) : Type 0 where
    pub owned : owner_of linear name ≡ Some owner.function
    pub room : function_locals (slice_get linear.functions owner.function) ≡ owner.locals
    pub around : IsAround owner.locals scope.names before seen
    pub exit : WayIn linear lists name seen scope.exit
    pub loop_end : WayIn linear lists name seen scope.loop_end
    pub loop_next : WayIn linear lists name seen scope.loop_next
    pub leave : LabelIn linear lists name seen scope.leave

  -- the funclets of a part, with their sets and numbers
  pub record HasFunclets (j : ℕ) (fs : List LinearFunclet) (ls : List (List SeenNames))
      (ns : List ℕ) : Type 0 where
    pub funclets : IsSegmentAt linear.funclets j fs
    pub recorded : IsSegmentAt funclet_lists j ls
    pub numbers : count_up (j + 1) ns ≡ true

  pub has_front : (j : ℕ) (fs gs : List LinearFunclet) (ls ms : List (List SeenNames))
      (ns os : List ℕ) → HasFunclets j (fs ++ gs) (ls ++ ms) (ns ++ os) → HasFunclets j fs ls ns
  has_front j fs gs ls ms ns os h = record {
    funclets = front linear.funclets j fs gs h.funclets;
    recorded = front funclet_lists j ls ms h.recorded;
    numbers =
        count_front (j + 1) ns os h.numbers;
  }

  pub has_back : (j to : ℕ) (fs gs : List LinearFunclet) (ls ms : List (List SeenNames))
      (ns os : List ℕ) → j + length ns ≡ to → length fs ≡ length ns → length ls ≡ length ns
      → HasFunclets j (fs ++ gs) (ls ++ ms) (ns ++ os) → HasFunclets to gs ms os
  has_back j to fs gs ls ms ns os e p q h = record {
    funclets = back linear.funclets j to fs gs (omega arith) h.funclets;
    recorded = back funclet_lists j to ls ms (omega arith) h.recorded;
    numbers = count_back (j + 1) (to + 1) ns os (omega arith) h.numbers;
  }

  -- what is claimed of a part
  pub record IsSetAt (name : BodyName) (at : ℕ) (code : List Instruction) (rs : List Region)
      (j to : ℕ) : Type 0 where
    pub leads : Lead name at code
    pub regions : AllByRecursion (IsGuarded name) rs
    pub funclets : Range IsFine j to

  pub plain : (name : BodyName) (at : ℕ) (code : List Instruction) (j : ℕ) → Lead name at code
      → IsSetAt name at code [] j (j + 0)
  plain name at code j h = record {
    leads = h;
    regions = tt;
    funclets =
        no_part IsFine j (j + 0) (omega arith);
  }

  -- ---- places

  pub locals_are : (name : BodyName) (owner : Owner) (scope : LoweringContext)
      (before seen : SeenNames) → IsPlace name owner scope before seen
      → locals_at linear name ≡ owner.locals
  locals_are name owner scope before seen p = ap (owner_locals linear) p.owned ∙ p.room

  -- after a declaration
  pub more_place : (name : BodyName) (owner : Owner) (scope : LoweringContext)
      (before seen before' seen' : SeenNames) → IsPart seen seen'
      → IsAround owner.locals scope.names before' seen' → IsPlace name owner scope before seen
      → IsPlace name owner scope before' seen'
  more_place name owner scope before seen before' seen' g a p = record {
    owned = p.owned;
    room = p.room;
    around = a;
    exit = way_more linear lists name seen seen' scope.exit g p.exit;
    loop_end = way_more linear lists name seen seen' scope.loop_end g p.loop_end;
    loop_next = way_more linear lists name seen seen' scope.loop_next g p.loop_next;
    leave = label_more linear lists name seen seen' scope.leave g p.leave;
  }

  pub loop_place : (name : BodyName) (owner : Owner) (scope : LoweringContext)
      (before seen : SeenNames) (end next : ℕ) → IsRecordedAt name end seen
      → IsRecordedAt name next seen → IsPlace name owner scope before seen
      → IsPlace name owner (in_loop end next scope) before seen
  loop_place name owner scope before seen end next e n p = record {
    owned = p.owned;
    room = p.room;
    around = p.around;
    exit = p.exit;
    loop_end = e;
    loop_next = n;
    leave = p.leave;
  }

  pub try_place : (name : BodyName) (owner : Owner) (scope : LoweringContext)
      (before seen : SeenNames) (end : ℕ) → IsRecordedAt name end seen
      → IsPlace name owner scope before seen → IsPlace name owner (in_try end scope) before seen
  try_place name owner scope before seen end e p = record {
    owned = p.owned;
    room = p.room;
    around =
        p.around;
    exit = p.exit;
    loop_end = p.loop_end;
    loop_next = p.loop_next;
    leave = e;
  }

  pub guarded_place : (name : BodyName) (owner : Owner) (scope : LoweringContext)
      (before seen : SeenNames) (end : ℕ) → IsRecordedAt name end seen
      → IsPlace name owner scope before seen → IsPlace name owner (in_guarded end scope) before seen
  guarded_place name owner scope before seen end e p = record {
    owned = p.owned;
    room = p.room;
    around = p.around;
    exit = unwound_in linear lists name seen scope.exit p.exit;
    loop_end = unwound_in linear lists name seen scope.loop_end p.loop_end;
    loop_next = unwound_in linear lists name seen scope.loop_next p.loop_next;
    leave = e;
  }

  pub except_place : (name : BodyName) (owner : Owner) (scope : LoweringContext)
      (before seen : SeenNames) → scope.names.free < owner.locals
      → IsPlace name owner scope before seen → IsPlace name owner (in_except scope) before
      (with_local scope.names.free seen)
  except_place name owner scope before seen lt p =
      let free = scope.names.free in
      let more = with_local free seen in
      let g = sees_before seen free in
      record {
        owned = p.owned;
        room = p.room;
        around = record {
          part = within before seen more p.around.part g;
          below =
              below_with owner.locals free seen p.around.below lt;
          code = sees_own seen free;
          flag =
              flag_kept seen more scope.names.abnormal g p.around.flag;
          base = base_kept seen more scope.names.part g p.around.base;
        };
        exit = way_more linear lists name seen more scope.exit g p.exit;
        loop_end = way_more linear lists name seen more scope.loop_end g p.loop_end;
        loop_next = way_more linear lists name seen more scope.loop_next g p.loop_next;
        leave = label_more linear lists name seen more scope.leave g p.leave;
      }

  -- ---- whole bodies

  pub whole_body : (name : BodyName) (b : LinearBody) → Lead name 0 b.code
      → AllByRecursion (IsGuarded name) b.regions → IsSetBody linear sets name b
  whole_body name b h g = record {
    code = λ label i e. let same : 0 + label ≡ label = omega arith in
        subst (λ n. Leads linear sets name n i) same
        (lead_at linear sets name 0 b.code label i h e);
    regions = λ label. all_map (IsGuarded name) (λ (r : Region). holds label r ≡ true
        → Guards linear sets name label r.kind) b.regions (λ r k. k label) g;
  }

  pub fine_body : (k : ℕ) (f : LinearFunclet) → slice_get linear.funclets k ≡ Some f
      → IsSetBody linear sets (FuncletBody k) f.body → (b : LinearBody)
      → body_of linear (FuncletBody k) ≡ Some b → IsSetBody linear sets (FuncletBody k) b
  fine_body k f e h b g = subst (IsSetBody linear sets (FuncletBody k))
      (same_it f.body b (sym (ap funclet_body e) ∙ g)) h
