-- What holds of each piece of which the code of statements is made holds of all of it.
use Rattle.std.proofs.Common.{◌≡◌, ℕ, ◌+◌, ◌-◌, ◌≤◌, List, [], ◌∷◌, ◌++◌, length, Option, None, Some, sym, subst, arith, append_assoc, append-nil}
use Rattle.std.specs.Prelude.{◌*◌}
use Rattle.seh_num.specs.Widths.{bytes_of}
use Rattle.seh_ir.specs.Words.{StackedVariable, Expression, Declared, Statement, Declare, Block, Evaluate, If, IfElse, For, DoWhile, Break, Continue, Leave, TryExcept, TryFinally, Statements, Empty, Then, Temporary, Instruction, Jump, JumpIfZero, Separator, Region, Names, Way, Nowhere, Jumps, Unwinds, LoweringContext, in_loop, in_try, in_except, in_guarded, expression_size, discarded_size, condition_size, declared_size, all_declared_size, statement_size, statements_size, elements_notes, stacked_notes, declared_notes, statement_notes, statements_notes, constant, expression_code, jump_code, leave_code, discarded_code, condition_code, initialiser_code, put_code, put_initialiser_code, clearing, stacked_declared_code, declared_at_code, declared_code, all_declared_code, landed, repeated, finally_called, statement_code, statements_code, except_kind, region, statement_regions, statements_regions}
use Rattle.c_checked.specs.Statement as statements
use Rattle.linear_code.specs.declared.program.RegionKind.TheVariants as kinds
use Rattle.seh_ir.proofs.DeclaredCodes.{declared_length}
use Rattle.seh_ir.proofs.StatementCodes.{discarded_length, condition_length, all_declared_length, statement_length, statements_length}
use Rattle.seh_ir.proofs.StatementParts.{OptionalHas, StackedHas, DeclaredHas, AllDeclaredHave, StatementHas, StatementsHave}
pub use Rattle.seh_ir.proofs.Pieces.{WayHas, PlaceHas, WaysHave, unwound_has, any_ways, IsNeutral, IsPlaced, any_neutral, any_place, InExcept, HoldsOfPieces}

module _ (P : ℕ → List Instruction → List Region → Type 0) (C : ℕ → List Instruction → Type 0)
    (M : List Instruction → Type 0) (L X : ℕ → Type 0) (N : Names → ℕ → Type 0)
    (E F : Expression → Type 0) (D : ℕ → Type 0) (neutral : IsNeutral M) (placed : IsPlaced C M L)
    (in_block : InExcept N) (holds : HoldsOfPieces P C L X N E D) where
  -- an instruction, and what comes after it
  next : (at : ℕ) (i : Instruction) (ys : List Instruction) (rs : List Region) → P at (i ∷ []) []
      → P (at + 1) ys rs → P at (i ∷ ys) rs
  next at i ys rs h k = holds.both at (at + 1) (i ∷ []) ys [] rs (omega arith) h k

  -- what has regions, and what comes after it and has none
  before_plain : (at to : ℕ) (xs ys : List Instruction) (rs : List Region) → at + length xs ≡ to
      → P at xs rs → P to ys [] → P at (xs ++ ys) rs
  before_plain at to xs ys rs e h k = subst (P at (xs ++ ys)) (append-nil rs)
      (holds.both at to xs ys rs [] e h k)

  next_placed : (at : ℕ) (i : Instruction) (ys : List Instruction) → M (i ∷ []) → C at (i ∷ ys)
      → C (at + 1) ys
  next_placed at i ys m c = placed.back at (at + 1) (i ∷ []) ys (omega arith) m c

  -- ---- pieces

  discarded_every : (names : Names) (m : ℕ) (e : Option Expression) (at : ℕ) → N names m
      → OptionalHas E e → C at (discarded_code names e at) → P at (discarded_code names e at) []
  discarded_every names m None at n h c = holds.none at
  discarded_every names m (Some e) at n h c = holds.of_discarded names m e at n h c

  condition_every : (names : Names) (m : ℕ) (e : Option Expression) (label at : ℕ) → N names m
      → OptionalHas E e → L label → C at (condition_code names e label at)
      → P at (condition_code names e label at) []
  condition_every names m None label at n h l c = holds.none at
  condition_every names m (Some e) label at n h l c = holds.of_condition names m e label at n h l c

  initialiser_every : (names : Names) (m x : ℕ) (e : Option Expression) (at : ℕ) → N names m
      → D x → OptionalHas E e → C at (initialiser_code names x e at)
      → P at (initialiser_code names x e at) []
  initialiser_every names m x None at n d h c = holds.none at
  initialiser_every names m x (Some e) at n d h c = holds.of_initialiser names m x e at n d h c

  put_initialiser_every : (names : Names) (m : ℕ) (v : StackedVariable) (e : Option Expression)
      (at : ℕ) → N names m → D v.base → OptionalHas E e → C at (put_initialiser_code names v e at)
      → P at (put_initialiser_code names v e at) []
  put_initialiser_every names m v None at n d h c = holds.none at
  put_initialiser_every names m v (Some e) at n d h c = holds.of_put_initialiser names m v e at n d
      h c

  -- a variable on the data stack
  stacked_every : (names : Names) (m : ℕ) (v : StackedVariable) (k : Option ℕ)
      (e : Option Expression) (at : ℕ) → elements_notes k ≤ m → N names m → D v.base
      → OptionalHas E e → C at (stacked_declared_code names v k e at)
      → P at (stacked_declared_code names v k e at) []
  stacked_every names m v None e at le n d h c =
      let first = constant 0 0 ∷ put_code v in
      let rest = put_initialiser_code names v e (at + 3) in
      holds.both at (at + 3) first rest [] [] (omega arith) (holds.of_put_zero v at d)
      (put_initialiser_every names m v e (at + 3) n d h
      (placed.back at (at + 3) first rest (omega arith) (neutral.put_zero v) c))
  stacked_every names m v (Some k) e at le n d h c =
      let x = names.free in
      let turn = clearing x v (at + 4) (at + 1) in
      let c1 = next_placed at _ (turn ++ Separator ∷ []) (neutral.counted x (bytes_of v.width * k))
      c in
      let c2 = placed.back (at + 1) (at + 4) turn (Separator ∷ []) (omega arith)
      (neutral.clearing x v (at + 4) (at + 1)) c1 in
      next at _ (turn ++ Separator ∷ []) []
      (holds.of_counted names m (bytes_of v.width * k) at le n)
      (holds.both (at + 1) (at + 4) turn (Separator ∷ []) [] [] (omega arith)
      (holds.of_clearing names m v (at + 4) (at + 1) (at + 1) le n d (placed.begins (at + 4) _ c2)
      (placed.begins (at + 1) _ c1)) (holds.of_separator (at + 4)))

  declared_at_every : (names : Names) (m : ℕ) (v : Option StackedVariable) (x : ℕ)
      (e : Option Expression) (at : ℕ) → stacked_notes v ≤ m → N names m → D x → OptionalHas E e
      → StackedHas D v → C at (declared_at_code names v x e at)
      → P at (declared_at_code names v x e at) []
  declared_at_every names m None x e at le n d h s c =
      next at _ (initialiser_code names x e (at + 1)) [] (holds.of_zeroed x at d)
      (initialiser_every names m x e (at + 1) n d h
      (next_placed at _ (initialiser_code names x e (at + 1)) (neutral.zeroed x) c))
  declared_at_every names m (Some v) x e at le n d h s c = stacked_every names m v v.elements e at
      le n s h c

  declared_every : (names : Names) (m : ℕ) (d : Declared) (at : ℕ) → stacked_notes d.stacked ≤ m
      → N names m → DeclaredHas E D d → C at (declared_code names d at)
      → P at (declared_code names d at) []
  declared_every names m d at le n h c = declared_at_every names m d.stacked d.local d.value at le n
      h.0 h.1 h.2 c

  all_declared_every : (names : Names) (m : ℕ) (ds : List Declared) (at : ℕ)
      → declared_notes ds ≤ m → N names m → AllDeclaredHave E D ds
      → C at (all_declared_code names ds at) → P at (all_declared_code names ds at) []
  all_declared_every names m [] at le n h c = holds.none at
  all_declared_every names m (d ∷ ds) at le n h c =
      let to = at + declared_size d in
      let first = declared_code names d at in
      let rest = all_declared_code names ds to in
      let l = declared_length names d at in
      holds.both at to first rest [] [] (omega arith)
      (declared_every names m d at (omega arith) n h.0 (placed.front at first rest c))
      (all_declared_every names m ds to (omega arith) n h.1
      (placed.back at to first rest (omega arith) (neutral.declared names d at) c))

  way_every : (w : Way) (at : ℕ) → WayHas L w → P at (jump_code w) []
  way_every Nowhere at h = next at Separator (Separator ∷ []) [] (holds.of_separator at)
      (holds.of_separator (at + 1))
  way_every (Jumps label) at h = next at (Jump label) (Separator ∷ []) []
      (holds.of_jump at label h) (holds.of_separator (at + 1))
  way_every (Unwinds label) at h = holds.of_unwind at label h

  leave_every : (w : Option ℕ) (at : ℕ) → PlaceHas L w → P at (leave_code w ∷ []) []
  leave_every None at h = holds.of_separator at
  leave_every (Some label) at h = holds.of_jump at label h

  -- ---- a condition with a jump, and what comes after it

  tested : (names : Names) (e : Expression) (label at : ℕ) (rest : List Instruction)
      → C at (expression_code names e 0 at ++ JumpIfZero (Temporary 0) label ∷ rest)
      → C at (condition_code names (Some e) label at ++ rest)
  tested names e label at rest c =
      subst (C at) (sym (append_assoc (expression_code names e 0 at)
      (JumpIfZero (Temporary 0) label ∷ []) rest)) c

  after_test : (names : Names) (e : Expression) (label at : ℕ) (rest : List Instruction)
      → C at (expression_code names e 0 at ++ JumpIfZero (Temporary 0) label ∷ rest)
      → C (at + expression_size e + 1) rest
  after_test names e label at rest c =
      let l = condition_length names (Some e) label at in
      placed.back at (at + expression_size e + 1) (condition_code names (Some e) label at) rest
      (omega arith) (neutral.condition names (Some e) label at) (tested names e label at rest c)

  when : (names : Names) (m : ℕ) (e : Expression) (label at : ℕ) (rest : List Instruction)
      (rs : List Region) → N names m → E e → L label
      → C at (expression_code names e 0 at ++ JumpIfZero (Temporary 0) label ∷ rest)
      → P (at + expression_size e + 1) rest rs
      → P at (expression_code names e 0 at ++ JumpIfZero (Temporary 0) label ∷ rest) rs
  when names m e label at rest rs n h l c p =
      let test = condition_code names (Some e) label at in
      let long = condition_length names (Some e) label at in
      subst (λ xs. P at xs rs) (append_assoc (expression_code names e 0 at)
      (JumpIfZero (Temporary 0) label ∷ []) rest)
      (holds.both at (at + expression_size e + 1) test rest [] rs (omega arith)
      (holds.of_condition names m e label at n h l
      (placed.front at test rest (tested names e label at rest c))) p)

  -- the label where a statement ends
  ended : (s : Statement) (scope : LoweringContext) (at to : ℕ) → at + statement_size s ≡ to
      → C at (statement_code scope s at) → L to
  ended s scope at to e c =
      let l = statement_length scope s at in
      placed.ends at to (statement_code scope s at) (omega arith) (neutral.statement scope s at) c

  -- ---- statements

  mutual
    -- it holds of the code of a statement
    pub statement_every : (s : Statement) (scope : LoweringContext) (at m : ℕ)
        → statement_notes s ≤ m → N scope.names m → WaysHave L X scope → StatementHas E F D s
        → C at (statement_code scope s at)
        → P at (statement_code scope s at) (statement_regions s at)
    statement_every (Declare d) scope at m le n w h c = declared_every scope.names m d at le n h c
    statement_every (Block ss) scope at m le n w h c = statements_every ss scope at m le n w h c
    statement_every (Evaluate e) scope at m le n w h c = discarded_every scope.names m e at n h c
    statement_every (If e s) scope at m le n w h c =
        let then = at + expression_size e + 1 in
        let label = then + statement_size s in
        let body = statement_code scope s then in
        when scope.names m e label at body (statement_regions s then) n h.0
        (ended (If e s) scope at label (omega arith) c) c
        (statement_every s scope then m le n w h.1 (after_test scope.names e label at body c))
    statement_every (IfElse e s t) scope at m le n w h c =
        let then = at + expression_size e + 1 in
        let skips = then + statement_size s in
        let otherwise = skips + 1 in
        let last = otherwise + statement_size t in
        let end = last + 1 in
        let yes = statement_code scope s then in
        let branch = statement_code scope t otherwise in
        let no = branch ++ Jump end ∷ [] in
        let l = statement_length scope s then in
        let k = statement_length scope t otherwise in
        let c1 = after_test scope.names e otherwise at (yes ++ Jump end ∷ no) c in
        let c2 = placed.back then skips yes (Jump end ∷ no) (omega arith)
        (neutral.statement scope s then) c1 in
        let c3 = next_placed skips (Jump end) no (neutral.jump end) c2 in
        let ended' = ended (IfElse e s t) scope at end (omega arith) c in
        let rs = statement_regions s then in
        let qs = statement_regions t otherwise in
        when scope.names m e otherwise at (yes ++ Jump end ∷ no) (rs ++ qs) n h.0
        (placed.begins otherwise no c3) c
        (holds.both then skips yes (Jump end ∷ no) rs qs (omega arith)
        (statement_every s scope then m (omega arith) n w h.1
        (placed.front then yes (Jump end ∷ no) c1))
        (next skips (Jump end) no qs (holds.of_jump skips end ended')
        (before_plain otherwise last branch (Jump end ∷ []) qs (omega arith)
        (statement_every t scope otherwise m (omega arith) n w h.2
        (placed.front otherwise branch (Jump end ∷ []) c3))
        (holds.of_jump last end ended'))))
    statement_every (For ds first t next' s) scope at m le n w h c =
        let names = scope.names in
        let begin = at + all_declared_size ds in
        let iteration = begin + discarded_size first in
        let start = iteration + condition_size t in
        let again = start + statement_size s in
        let step = again + 1 + discarded_size next' in
        let end = step + 1 in
        let inner = in_loop end again scope in
        let declares = all_declared_code names ds at in
        let begins = discarded_code names first begin in
        let tests = condition_code names t end iteration in
        let body = statement_code inner s start in
        let steps = discarded_code names next' (again + 1) in
        let jumps = Jump iteration ∷ Separator ∷ [] in
        let last = steps ++ jumps in
        let ld = all_declared_length names ds at in
        let lf = discarded_length names first begin in
        let lt = condition_length names t end iteration in
        let ls = statement_length inner s start in
        let ln = discarded_length names next' (again + 1) in
        let c1 = placed.back at begin declares (begins ++ (tests ++ (body ++ (Separator ∷ last))))
        (omega arith) (neutral.all_declared names ds at) c in
        let c2 = placed.back begin iteration begins (tests ++ (body ++ (Separator ∷ last)))
        (omega arith) (neutral.discarded names first begin) c1 in
        let c3 = placed.back iteration start tests (body ++ (Separator ∷ last)) (omega arith)
        (neutral.condition names t end iteration) c2 in
        let c4 = placed.back start again body (Separator ∷ last) (omega arith)
        (neutral.statement inner s start) c3 in
        let c5 = next_placed again Separator last neutral.separator c4 in
        let c6 = placed.back (again + 1) step steps jumps (omega arith)
        (neutral.discarded names next' (again + 1)) c5 in
        let c7 = next_placed step (Jump iteration) (Separator ∷ []) (neutral.jump iteration) c6 in
        let ended' = placed.begins end _ c7 in
        let rs = statement_regions s start in
        holds.both at begin declares _ [] rs (omega arith)
        (all_declared_every names m ds at (omega arith) n h.0 (placed.front at declares _ c))
        (holds.both begin iteration begins _ [] rs (omega arith)
        (discarded_every names m first begin n h.1 (placed.front begin begins _ c1))
        (holds.both iteration start tests _ [] rs (omega arith)
        (condition_every names m t end iteration n h.2 ended' (placed.front iteration tests _ c2))
        (before_plain start again body _ rs (omega arith)
        (statement_every s inner start m (omega arith) n
        (record {
          exit = w.exit;
          loop_end = ended';
          loop_next = placed.begins again _ c4;
          leave = w.leave;
        }) h.4 (placed.front start body _ c3))
        (next again Separator last [] (holds.of_separator again)
        (holds.both (again + 1) step steps _ [] [] (omega arith)
        (discarded_every names m next' (again + 1) n h.3 (placed.front (again + 1) steps _ c5))
        (next step (Jump iteration) (Separator ∷ []) []
        (holds.of_jump step iteration (placed.begins iteration _ c2))
        (holds.of_separator end)))))))
    statement_every (DoWhile s e) scope at m le n w h c =
        let again = at + statement_size s in
        let end = again + 1 + expression_size e + 2 in
        let inner = in_loop end again scope in
        let body = statement_code inner s at in
        let last = expression_code scope.names e 0 (again + 1) ++ repeated end at in
        let l = statement_length inner s at in
        let c1 = placed.back at again body (Separator ∷ last) (omega arith)
        (neutral.statement inner s at) c in
        let c2 = next_placed again Separator last neutral.separator c1 in
        let step = again + 1 + expression_size e + 1 in
        let c3 = after_test scope.names e end (again + 1) (Jump at ∷ Separator ∷ []) c2 in
        let c4 = next_placed step (Jump at) (Separator ∷ []) (neutral.jump at) c3 in
        let same : step + 1 ≡ end = omega arith in
        let ended' = subst L same (placed.begins (step + 1) _ c4) in
        before_plain at again body (Separator ∷ last) (statement_regions s at) (omega arith)
        (statement_every s inner at m le n
        (record {
          exit = w.exit;
          loop_end = ended';
          loop_next = placed.begins again (Separator ∷ last) c1;
          leave = w.leave;
        }) h.0 (placed.front at body (Separator ∷ last) c))
        (next again Separator last [] (holds.of_separator again)
        (holds.of_repeated scope.names m e end at (again + 1) n h.1 ended' (placed.begins at _ c)
        c2))
    statement_every (statements.Return e) scope at m le n w h c = holds.of_return scope.names m e
        scope.exit at n h w.exit c
    statement_every Break scope at m le n w h c = way_every scope.loop_end at w.loop_end
    statement_every Continue scope at m le n w h c = way_every scope.loop_next at w.loop_next
    statement_every Leave scope at m le n w h c = leave_every scope.leave at w.leave
    statement_every (TryExcept body filter block) scope at m le n w h c =
        let names = scope.names in
        let ends = at + statements_size body in
        let target = ends + 1 in
        let end = target + 2 + statements_size block in
        let inner = in_try end scope in
        let guarded = statements_code inner body at in
        let jumps = landed names.part end names.free in
        let handles = statements_code (in_except scope) block (target + 2) in
        let l = statements_length inner body at in
        let c1 = placed.back at ends guarded (jumps ++ handles) (omega arith)
        (neutral.statements inner body at) c in
        let c2 = placed.back ends (target + 2) jumps handles (omega arith)
        (neutral.landing names.part end names.free) c1 in
        let ended' = ended (TryExcept body filter block) scope at end (omega arith) c in
        let own = region at target (except_kind filter target) in
        let qs = statements_regions block (target + 2) in
        holds.both at ends guarded (jumps ++ handles) (statements_regions body at) (own ∷ qs)
        (omega arith)
        (statements_every body inner at m (omega arith) n
        (record {
          exit = w.exit;
          loop_end = w.loop_end;
          loop_next = w.loop_next;
          leave = ended';
        }) h.0 (placed.front at guarded (jumps ++ handles) c))
        (holds.both ends (target + 2) jumps handles (own ∷ []) qs (omega arith)
        (holds.of_landing names m at end ends filter (omega arith) n (omega arith)
        (placed.begins at _ c) (placed.begins target _ (next_placed ends (Jump end) _
        (neutral.jump end) c1)) ended')
        (statements_every block (in_except scope) (target + 2) (statements_notes block)
        (omega arith) (in_block names m (statements_notes block) (omega arith) n)
        (record {
          exit = w.exit;
          loop_end = w.loop_end;
          loop_next = w.loop_next;
          leave = w.leave;
        }) h.2 c2))
    statement_every (TryFinally body k last) scope at m le n w h c =
        let ends = at + statements_size body in
        let inner = in_guarded ends scope in
        let guarded = statements_code inner body at in
        let called = finally_called (k - 1) in
        let l = statements_length inner body at in
        let c1 = placed.back at ends guarded called (omega arith)
        (neutral.statements inner body at) c in
        holds.both at ends guarded called (statements_regions body at)
        (region at (ends + 1) (kinds.Finally (k - 1)) ∷ []) (omega arith)
        (statements_every body inner at m (omega arith) n
        (record {
          exit = unwound_has X scope.exit w.exit;
          loop_end = unwound_has L scope.loop_end w.loop_end;
          loop_next = unwound_has L scope.loop_next w.loop_next;
          leave = placed.begins ends called c1;
        }) h.0 (placed.front at guarded called c))
        (holds.of_finally (k - 1) at ends (omega arith) (placed.begins at _ c)
        (placed.begins (ends + 1) _ (next_placed ends Separator _ neutral.separator c1)))

    -- it holds of the code of statements
    pub statements_every : (ss : Statements) (scope : LoweringContext) (at m : ℕ)
        → statements_notes ss ≤ m → N scope.names m → WaysHave L X scope → StatementsHave E F D ss
        → C at (statements_code scope ss at)
        → P at (statements_code scope ss at) (statements_regions ss at)
    statements_every Empty scope at m le n w h c = holds.none at
    statements_every (Then s ss) scope at m le n w h c =
        let to = at + statement_size s in
        let first = statement_code scope s at in
        let rest = statements_code scope ss to in
        let l = statement_length scope s at in
        holds.both at to first rest (statement_regions s at) (statements_regions ss to)
        (omega arith)
        (statement_every s scope at m (omega arith) n w h.0 (placed.front at first rest c))
        (statements_every ss scope to m (omega arith) n w h.1
        (placed.back at to first rest (omega arith) (neutral.statement scope s at) c))
