-- In one frame an unwinding runs the same `__finally` block first, or leaves the frame or stops
-- there.
use Rattle.std.proofs.Common.{◌≡◌, ◌≢◌, ◌⊎◌, inl, inr, ℕ, suc, ◌+◌, Bool, true, false, cond, Some, List, [], ◌∷◌, length, drop, refl, sym, ap, ◌∙◌, arith}
use Rattle.std.specs.Prelude.{filter, ◌==◌, ◌&&◌, ◌||◌}
use Rattle.std.specs.List.{AllByRecursion}
use Rattle.std.proofs.lemmas.Bool.{eq-eqb, ne_eqb}
use Rattle.match_stack.specs.Words.{ScopeRecord, Functions, distance, AskedRecord, holding, is_end, until, first_finally, Funclet, row_before, Region, RegionKind, LinearProgram, Target, Waits, Unwinds, Store, Configuration, Seen, Next, pick, holds, left_store, unwind_body, ImagePlan, InCode, IsOfKind, AreRegions, HasRows, HasNoRows, NoBlock, Arrives, FirstBlock, leads_to, stops, arrive, run_finally, leave_region, IsFinallyRow, target_rva, UnwindingRunsTheBlocks, UnwindingStopsAtTheTarget}
use Rattle.seh_walk.specs.Asked as rows
use Rattle.linear_code.specs.declared.program.RegionKind.TheVariants as kinds
use Rattle.match_stack.proofs.ScopeRows.{row_before_dropped, regions_dropped, dropped_again, all_dropped, none_asked, none_held_from}

module _ (t : Functions) (fs : List Funclet) (program : LinearProgram) (p : ImagePlan)
    (target : Target) (c : Configuration) (label rip : ℕ) (inside : InCode p c.frame.body label rip)
  where
    abbrev rva : ℕ
    rva = distance t.base rip

    abbrev held : List Region → List Region
    held rs = filter (holds c.frame.next) rs

    -- the regions that hold the one instruction hold the other
    abbrev pub Same : List Region → Type 0
    Same rs = AllByRecursion (λ (r : Region). holds label r ≡ holds c.frame.next r) rs

    abbrev body : Next → (Store → Seen) → List Region → Seen
    body next out rs = unwind_body program next target out rs c

    -- the first block of a rear part, by its place there
    pub record First (n : ℕ) (asked : List AskedRecord) (xs : List ScopeRecord)
        (rs : List Region) : Type 0 where
      pub off : ℕ
      pub row : ScopeRecord
      pub funclet : ℕ
      pub first : first_finally asked ≡ Some (n + off, row)
      pub is : IsFinallyRow t fs program p c.frame.body row funclet
      pub runs :
          (next : Next) (out : Store → Seen) → body next out (held rs)
          ≡ run_finally program funclet true target.held
          (Unwinds (held (drop (suc off) rs)) target ∷ Waits c.frame ∷ c.below) next c
      pub before : row_before xs (suc off) ≡ Some row

    -- one of the rest is one of the whole
    first_deeper : (n : ℕ) (asked rest : List AskedRecord) (x : ScopeRecord) (xs : List ScopeRecord)
        (r : Region) (rs : List Region) → first_finally asked ≡ first_finally rest
        → ((next : Next) (out : Store → Seen) → body next out (held (r ∷ rs))
        ≡ body next out (held rs)) → First (n + 1) rest xs rs → First n asked (x ∷ xs) (r ∷ rs)
    first_deeper n asked rest x xs r rs e h f =
        record {
          off = suc f.off;
          row = f.row;
          funclet = f.funclet;
          first = e ∙ f.first ∙ ap (λ k. Some (k, f.row))
              (let a : n + 1 + f.off ≡ n + suc f.off = omega arith in a);
          is = f.is;
          runs = λ next out. h next out ∙ f.runs next out;
          before = f.before;
        }

    -- ---- one region of the linear code

    -- a region that doesn't hold the instruction isn't among those left
    not_held : (r : Region) (rs : List Region) → holds c.frame.next r ≡ false
        → held (r ∷ rs) ≡ held rs
    not_held r rs h = ap (λ b. cond b (r ∷ held rs) (held rs)) h

    first_held : (r : Region) (rs : List Region) → holds c.frame.next r ≡ true
        → held (r ∷ rs) ≡ r ∷ held rs
    first_held r rs h = ap (λ b. cond b (r ∷ held rs) (held rs)) h

    -- a region at which the unwinding doesn't stop
    passed : (r : Region) (rs : List Region) (k : RegionKind) (next : Next) (out : Store → Seen)
        → holds c.frame.next r ≡ true → stops target r (length c.below) ≡ false → r.kind ≡ k
        → body next out (held (r ∷ rs)) ≡ leave_region program next target k (held rs)
        (body next out (held rs)) c
    unfolding pick
    passed r rs k next out h s q =
        ap (body next out) (first_held r rs h)
        ∙ ap (λ b. pick b (arrive target target.code next c)
        (leave_region program next target r.kind (held rs) (body next out (held rs)) c)) s
        ∙ ap (λ (k : RegionKind). leave_region program next target k (held rs)
        (body next out (held rs)) c) q

    stopped : (r : Region) (rs : List Region) (next : Next) (out : Store → Seen)
        → holds c.frame.next r ≡ true → stops target r (length c.below) ≡ true
        → body next out (held (r ∷ rs)) ≡ arrive target target.code next c
    unfolding pick
    stopped r rs next out h s =
        ap (body next out) (first_held r rs h)
        ∙ ap (λ b. pick b (arrive target target.code next c)
        (leave_region program next target r.kind (held rs) (body next out (held rs)) c)) s

    -- ---- a frame that isn't the target's

    abbrev pub Left : ℕ → List ScopeRecord → List Region → Type 0
    Left n xs rs = NoBlock t fs program p target c (holding rva n xs) (held rs)
        ⊎ First n (holding rva n xs) xs rs

    left_deeper : (n : ℕ) (x : ScopeRecord) (xs : List ScopeRecord) (r : Region) (rs : List Region)
        → first_finally (holding rva n (x ∷ xs)) ≡ first_finally (holding rva (n + 1) xs)
        → ((next : Next) (out : Store → Seen) → body next out (held (r ∷ rs))
        ≡ body next out (held rs)) → Left (n + 1) xs rs → Left n (x ∷ xs) (r ∷ rs)
    left_deeper n x xs r rs e h (inl none) = inl
        (record { first = e ∙ none.first; leaves = λ next out. h next out ∙ none.leaves next out })
    left_deeper n x xs r rs e h (inr f) = inr (first_deeper n _ _ x xs r rs e h f)

    module _ (away : target.depth ≢ length c.below) where
      never : (r : Region) → stops target r (length c.below) ≡ false
      never r = ap (λ b. b && (holds target.label r || leads_to r.kind target.label))
          (ne_eqb target.depth (length c.below) away)

      module _ (n : ℕ) (x : ScopeRecord) (xs : List ScopeRecord) (r : Region) (rs : List Region)
        where
          left_skipped : rows.holds x rva ≡ false → holds c.frame.next r ≡ false
              → Left (n + 1) xs rs
              → Left n (x ∷ xs) (r ∷ rs)
          left_skipped e h more =
              left_deeper n x xs r rs
              (ap (λ b. first_finally (cond b ((n, x) ∷ holding rva (n + 1) xs)
              (holding rva (n + 1) xs))) e)
              (λ next out. ap (body next out) (not_held r rs h)) more

          module _ (e : rows.holds x rva ≡ true) (h : holds c.frame.next r ≡ true) where
            row_first : (b : Bool) → (x.jump_target == 0) ≡ b
                → first_finally (holding rva n (x ∷ xs))
                ≡ cond b (Some (n, x)) (first_finally (holding rva (n + 1) xs))
            row_first b q =
                ap (λ b. first_finally (cond b ((n, x) ∷ holding rva (n + 1) xs)
                (holding rva (n + 1) xs))) e
                ∙ ap (λ b. cond b (Some (n, x)) (first_finally (holding rva (n + 1) xs))) q

            left_asked : (k : RegionKind) → r.kind ≡ k → IsOfKind t fs program p c.frame.body x k
                → Left (n + 1) xs rs → Left n (x ∷ xs) (r ∷ rs)
            left_asked (kinds.Finally k) q is more =
                inr (record {
                  off = 0;
                  row = x;
                  funclet = k;
                  first = row_first true is.none ∙ ap (λ k. Some (k, x))
                      (let a : n ≡ n + 0 = omega arith in a);
                  is = is;
                  runs = λ next out. passed r rs (kinds.Finally k) next out h (never r) q;
                  before = refl;
                })
            left_asked (kinds.Filter k label) q is more = left_deeper n x xs r rs
                (row_first false is.to.jumps)
                (λ next out. passed r rs (kinds.Filter k label) next out
                h
                (never r) q) more
            left_asked (kinds.Always label) q is more = left_deeper n x xs r rs
                (row_first false is.to.jumps)
                (λ next out. passed r rs (kinds.Always label) next out h
                (never r) q) more

      pub leaves_the_frame : (n : ℕ) (xs : List ScopeRecord) (rs : List Region)
          → AreRegions t fs program p c.frame.body xs rs → Same rs → Left n xs rs
      unfolding pick
      leaves_the_frame n [] [] s same =
          inl (record {
            first = refl;
            leaves = λ next out. ap (λ b. pick b (arrive target target.code next c)
                (out (left_store c.frame.body c.frame.activation c.store)))
                (ne_eqb target.depth (length c.below) away);
          })
      leaves_the_frame n (x ∷ xs) (r ∷ rs) s same = by (leaves_the_frame (n + 1) xs rs s.1 same.1)
          (holds c.frame.next r) refl
        where
          by : Left (n + 1) xs rs → (b : Bool) → holds c.frame.next r ≡ b → Left n (x ∷ xs) (r ∷ rs)
          by more true h = left_asked n x xs r rs (s.0.holds label rip inside ∙ same.0 ∙ h) h r.kind
              refl s.0.kind more
          by more false h = left_skipped n x xs r rs (s.0.holds label rip inside ∙ same.0 ∙ h) h
              more
      leaves_the_frame n [] (r ∷ rs) s same = absurd s
      leaves_the_frame n (x ∷ xs) [] s same = absurd s

    -- ---- the target's frame

    abbrev goal : ℕ
    goal = target_rva t fs program p c.frame.body target.label

    abbrev pub Reached : ℕ → List ScopeRecord → List Region → Type 0
    Reached n xs rs = Arrives t fs program p target c (until goal (holding rva n xs)) (held rs)
        ⊎ First n (until goal (holding rva n xs)) xs rs

    reached_deeper : (n : ℕ) (x : ScopeRecord) (xs : List ScopeRecord) (r : Region)
        (rs : List Region)
        → first_finally (until goal (holding rva n (x ∷ xs)))
        ≡ first_finally (until goal (holding rva (n + 1) xs))
        → ((next : Next) (out : Store → Seen) → body next out (held (r ∷ rs))
        ≡ body next out (held rs)) → Reached (n + 1) xs rs → Reached n (x ∷ xs) (r ∷ rs)
    reached_deeper n x xs r rs e h (inl none) = inl
        (record {
          first = e ∙ none.first;
          arrives = λ next out. h next out ∙ none.arrives next
              out;
        })
    reached_deeper n x xs r rs e h (inr f) = inr (first_deeper n _ _ x xs r rs e h f)

    module _ (here : target.depth ≡ length c.below) where
      by_label : (r : Region) → stops target r (length c.below)
          ≡ (holds target.label r || leads_to r.kind target.label)
      by_label r = ap (λ b. b && (holds target.label r || leads_to r.kind target.label))
          (eq-eqb target.depth (length c.below) here)

      module _ (n : ℕ) (x : ScopeRecord) (xs : List ScopeRecord) (r : Region) (rs : List Region)
        where
          reached_skipped : rows.holds x rva ≡ false → holds c.frame.next r ≡ false
              → Reached (n + 1) xs rs → Reached n (x ∷ xs) (r ∷ rs)
          reached_skipped e h more =
              reached_deeper n x xs r rs
              (ap (λ b. first_finally (until goal
              (cond b ((n, x) ∷ holding rva (n + 1) xs) (holding rva (n + 1) xs)))) e)
              (λ next out. ap (body next out) (not_held r rs h)) more

          module _ (e : rows.holds x rva ≡ true) (h : holds c.frame.next r ≡ true) where
            until_first : (b : Bool) → is_end goal x ≡ b
                → first_finally (until goal (holding rva n (x ∷ xs)))
                ≡ first_finally (cond b [] ((n, x) ∷ until goal (holding rva (n + 1) xs)))
            until_first b q =
                ap (λ b. first_finally (until goal
                (cond b ((n, x) ∷ holding rva (n + 1) xs) (holding rva (n + 1) xs)))) e
                ∙ ap (λ b. first_finally (cond b [] ((n, x) ∷ until goal (holding rva (n + 1) xs))))
                q

            row_here : (b : Bool) → is_end goal x ≡ false → (x.jump_target == 0) ≡ b
                → first_finally (until goal (holding rva n (x ∷ xs)))
                ≡ cond b (Some (n, x)) (first_finally (until goal (holding rva (n + 1) xs)))
            row_here b q j = until_first false q ∙ ap
                (λ b. cond b (Some (n, x)) (first_finally (until goal (holding rva (n + 1) xs)))) j

            reached_asked : (k : RegionKind) → r.kind ≡ k → is_end goal x ≡ false
                → stops target r (length c.below) ≡ false → IsOfKind t fs program p c.frame.body x k
                → Reached (n + 1) xs rs → Reached n (x ∷ xs) (r ∷ rs)
            reached_asked (kinds.Finally k) q z s is more =
                inr (record {
                  off = 0;
                  row = x;
                  funclet = k;
                  first = row_here true z is.none
                      ∙ ap (λ k. Some (k, x)) (let a : n ≡ n + 0 = omega arith in a);
                  is = is;
                  runs = λ next out. passed r rs (kinds.Finally k) next out h s q;
                  before = refl;
                })
            reached_asked (kinds.Filter k label) q z s is more = reached_deeper n x xs r rs
                (row_here false z is.to.jumps) (λ next out. passed r rs (kinds.Filter k label) next
                out h
                s q) more
            reached_asked (kinds.Always label) q z s is more = reached_deeper n x xs r rs
                (row_here false z is.to.jumps)
                (λ next out. passed r rs (kinds.Always label) next out
                h s
                q) more

            reached_held : (b : Bool) → is_end goal x ≡ b → stops target r (length c.below) ≡ b
                → IsOfKind t fs program p c.frame.body x r.kind → Reached (n + 1) xs rs
                → Reached n (x ∷ xs) (r ∷ rs)
            reached_held true z s is more = inl (record
                { first = until_first true z; arrives = λ next out. stopped r rs next out h s })
            reached_held false z s is more = reached_asked r.kind refl z s is more

      pub stops_at_the_target : p.lands c.frame.body target.label ≡ true
          → (n : ℕ) (xs : List ScopeRecord) (rs : List Region)
          → AreRegions t fs program p c.frame.body xs rs → Same rs → Reached n xs rs
      unfolding pick
      stops_at_the_target lands n [] [] s same =
          inl (record {
            first = refl;
            arrives = λ next out. ap (λ b. pick b (arrive target target.code next c)
                (out (left_store c.frame.body c.frame.activation c.store)))
                (eq-eqb target.depth (length c.below) here);
          })
      stops_at_the_target lands n (x ∷ xs) (r ∷ rs) s same = by
          (stops_at_the_target lands (n + 1) xs rs s.1 same.1) (holds c.frame.next r) refl
        where
          by : Reached (n + 1) xs rs → (b : Bool) → holds c.frame.next r ≡ b
              → Reached n (x ∷ xs) (r ∷ rs)
          by more true h =
              reached_held n x xs r rs (s.0.holds label rip inside ∙ same.0 ∙ h) h
              (stops target r (length c.below))
              (s.0.ends target.label lands ∙ sym (by_label r)) refl s.0.kind more
          by more false h = reached_skipped n x xs r rs (s.0.holds label rip inside ∙ same.0 ∙ h) h
              more
      stops_at_the_target lands n [] (r ∷ rs) s same = absurd s
      stops_at_the_target lands n (x ∷ xs) [] s same = absurd s

    -- ---- counted from the frame's first record

    pub counted : (row : ℕ) (scopes : List ScopeRecord) (rs : List Region)
        (asked : List AskedRecord)
        → First row asked (drop row scopes) (drop row rs)
        → FirstBlock t fs program p target c scopes asked (held (drop row rs))
        (λ row. held (drop row rs))
    counted row scopes rs asked f = record {
      index = row + f.off;
      row = f.row;
      funclet = f.funclet;
      first = f.first;
      is = f.is;
      runs = λ next out.
          f.runs next out
          ∙ ap (λ (rs : List Region). run_finally program f.funclet true target.held
          (Unwinds (held rs) target ∷ Waits c.frame ∷ c.below) next c)
          (dropped_again row f.off (row + f.off) rs refl);
      before = ap (row_before scopes) (let a : row + f.off + 1 ≡ suc (row + f.off) = omega arith
          in a)
          ∙ row_before_dropped row f.off scopes f.row f.before;
    }

    pub left_or_run : (row : ℕ) (scopes : List ScopeRecord) (rs : List Region)
        → Left row (drop row scopes) (drop row rs)
        → NoBlock t fs program p target c (holding rva row (drop row scopes)) (held (drop row rs))
        ⊎ FirstBlock t fs program p target c scopes (holding rva row (drop row scopes))
        (held (drop row rs)) (λ row. held (drop row rs))
    left_or_run row scopes rs (inl none) = inl none
    left_or_run row scopes rs (inr f) = inr (counted row scopes rs _ f)

    pub reached_or_run : (row : ℕ) (scopes : List ScopeRecord) (rs : List Region)
        → Reached row (drop row scopes) (drop row rs)
        → Arrives t fs program p target c (until goal (holding rva row (drop row scopes)))
        (held (drop row rs)) ⊎ FirstBlock t fs program p target c scopes
        (until goal (holding rva row (drop row scopes))) (held (drop row rs))
        (λ row. held (drop row rs))
    reached_or_run row scopes rs (inl none) = inl none
    reached_or_run row scopes rs (inr f) = inr (counted row scopes rs _ f)

-- without rows it leaves the frame, or stops there
module _ (t : Functions) (fs : List Funclet) (program : LinearProgram) (p : ImagePlan)
    (target : Target) (c : Configuration) (label rip row : ℕ) (scopes : List ScopeRecord)
    (rs : List Region) (inside : InCode p c.frame.body label rip)
    (same : AllByRecursion (λ (r : Region). holds label r ≡ holds c.frame.next r) rs)
    (bare : HasNoRows t fs program p label scopes rs) where
  none_here : filter (holds c.frame.next) (drop row rs) ≡ []
  none_here = none_held_from label c.frame.next row rs bare.unheld same

  asked_here : holding (distance t.base rip) row (drop row scopes) ≡ []
  asked_here = none_asked (distance t.base rip) row scopes bare.none

  leaves_unheld : target.depth ≢ length c.below
      → NoBlock t fs program p target c (holding (distance t.base rip) row (drop row scopes))
      (filter (holds c.frame.next) (drop row rs))
  unfolding pick
  leaves_unheld away = record {
    first = ap first_finally asked_here;
    leaves = λ next out.
        ap (λ (rs : List Region). unwind_body program next target out rs c) none_here
        ∙ ap (λ b. pick b (arrive target target.code next c)
        (out (left_store c.frame.body c.frame.activation c.store)))
        (ne_eqb target.depth (length c.below) away);
  }

  arrives_unheld : target.depth ≡ length c.below
      → Arrives t fs program p target c (until (target_rva t fs program p c.frame.body target.label)
      (holding (distance t.base rip) row (drop row scopes)))
      (filter (holds c.frame.next) (drop row rs))
  unfolding pick
  arrives_unheld here = record {
    first = ap (λ (xs : List AskedRecord). first_finally
        (until (target_rva t fs program p c.frame.body target.label) xs)) asked_here;
    arrives = λ next out.
        ap (λ (rs : List Region). unwind_body program next target out rs c) none_here
        ∙ ap (λ b. pick b (arrive target target.code next c)
        (out (left_store c.frame.body c.frame.activation c.store)))
        (eq-eqb target.depth (length c.below) here);
  }

pub unwinding_runs_the_blocks : UnwindingRunsTheBlocks
unwinding_runs_the_blocks t fs program p rip row scopes rs target c s away = by s.rows
  where
    by : HasRows t fs program p c.frame.body s.label scopes rs
        → NoBlock t fs program p target c (holding (distance t.base rip) row (drop row scopes))
        (filter (holds c.frame.next) (drop row rs))
        ⊎ FirstBlock t fs program p target c scopes
        (holding (distance t.base rip) row (drop row scopes))
        (filter (holds c.frame.next) (drop row rs))
        (λ row. filter (holds c.frame.next) (drop row rs))
    by (inl rows) = left_or_run t fs program p target c s.label rip s.inside row scopes rs
        (leaves_the_frame t fs program p target c s.label rip s.inside away row (drop row scopes)
        (drop row rs) (regions_dropped t fs program p c.frame.body row scopes rs rows)
        (all_dropped (λ (r : Region). holds s.label r ≡ holds c.frame.next r) row rs s.same))
    by (inr bare) = inl
        (leaves_unheld t fs program p target c s.label rip row scopes rs s.inside s.same bare away)

pub unwinding_stops_at_the_target : UnwindingStopsAtTheTarget
unwinding_stops_at_the_target t fs program p rip row scopes rs target c s here lands = by s.rows
  where
    asked : List AskedRecord
    asked = until (target_rva t fs program p c.frame.body target.label)
        (holding (distance t.base rip) row (drop row scopes))

    by : HasRows t fs program p c.frame.body s.label scopes rs
        → Arrives t fs program p target c asked (filter (holds c.frame.next) (drop row rs))
        ⊎ FirstBlock t fs program p target c scopes asked
        (filter (holds c.frame.next) (drop row rs))
        (λ row. filter (holds c.frame.next) (drop row rs))
    by (inl rows) = reached_or_run t fs program p target c s.label rip s.inside row scopes rs
        (stops_at_the_target t fs program p target c s.label rip s.inside here lands row
        (drop row scopes) (drop row rs)
        (regions_dropped t fs program p c.frame.body row scopes rs rows)
        (all_dropped (λ (r : Region). holds s.label r ≡ holds c.frame.next r) row rs s.same))
    by (inr bare) = inl
        (arrives_unheld t fs program p target c s.label rip row scopes rs s.inside s.same bare here)
