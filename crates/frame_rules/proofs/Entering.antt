-- Each state of a prologue has the frame of the codes that have been run.
use Rattle.std.proofs.Common.{◌≡◌, ℕ, ◌+◌, ◌^◌, ◌<◌, ◌≤◌, true, List, [], ◌∷◌, ◌++◌, refl, sym, ap, subst, ◌∙◌, arith, inr}
use Rattle.std.proofs.lemmas.Bool.{false≢true, and_parts}
use Rattle.frame_rules.specs.Words.{State, UnwindOperation, Allocate, UnwindCode, operations, FetchedInstr, run_by, is_allowed, are_allowed, bytes, does, sets_size, is_call, subtracts, PrologueStep, items, codes_onto, are_sized, ArePrologueSteps, registers, RunsOne, RunsThrough, IsEntry}
use Rattle.frame_rules.proofs.Order.{Ordered, allocate, Follows, AllFollow}
use Rattle.frame_rules.proofs.Steps.{Running}
use Rattle.frame_rules.proofs.Prologues.{Good, good_rest, good_done, follow_done, AtMost, run_done, skips_first, first_positive, cons_head, cons_tail, same_turn, turn_plain, turn_call, does_plain, does_step, Sized, sized, size_plain, sized_running, called_running, subtracts_plain, subtracted_step, IsLarge, large_of}

module _ (f offset back n : ℕ) (e : State) (entry : IsEntry n e) (small : offset < 2 ^ 16) where
  -- the frame of the codes run at a distance
  abbrev pub At : ℕ → List UnwindCode → State → Type 0
  At d codes t = Running f offset e back (operations (run_by d codes)) t

  -- a step of one instruction
  one : (x : FetchedInstr) (op : UnwindOperation) (ops : List UnwindOperation) (s u : State)
      → does f offset op x.instr ≡ true → Good f n (op ∷ ops) → Follows f op ops
      → Running f offset e back ops s → RunsOne s x u (is_call x.instr)
      → Running f offset e back (op ∷ ops) u
  one x op ops s u d g fo run turn = does_step f offset back n _ e s u op ops x.instr entry small
      g.deep (and_parts (is_allowed f ops op) (are_allowed f ops) g.allowed).0
      (and_parts (is_allowed f ops op) (are_allowed f ops) g.allowed).1 g.ordered fo d run
      (turn_plain s u x (does_plain f offset op x.instr d) turn)

  -- a step of three
  first_of_three : (x : FetchedInstr) (k : ℕ) (ops : List UnwindOperation) (s u : State)
      → sets_size k x.instr ≡ true → Running f offset e back ops s → RunsOne s x u (is_call x.instr)
      → Sized k s u
  first_of_three x k ops s u h run turn = sized s u _ k x.instr run.length h
      (turn_plain s u x (size_plain k x.instr h) turn)

  third_of_three : (z : FetchedInstr) (k : ℕ) (ops : List UnwindOperation) (s u : State)
      → subtracts z.instr ≡ true → Good f n (Allocate k ∷ ops) → registers s 0 ≡ k
      → Running f offset e back ops s → RunsOne s z u (is_call z.instr)
      → Running f offset e back (Allocate k ∷ ops) u
  third_of_three z k ops s u h g rax run turn = go g.ordered
    where
      go : Ordered (Allocate k ∷ ops) → Running f offset e back (Allocate k ∷ ops) u
      go (allocate p o) = subtracted_step f offset back n _ k e s u ops z.instr entry g.deep p h rax
          run (turn_plain s u z (subtracts_plain z.instr h) turn)

  -- the first of the three instructions of a large allocation has been run, and the second
  record FirstRun (k : ℕ) (ops : List UnwindOperation) (u : State) : Type 0 where
    running : Running f offset e back ops u
    rax : registers u 0 ≡ k

  after_first : (x : FetchedInstr) (k : ℕ) (c : UnwindCode) (done : List UnwindCode) (s u : State)
      → sets_size k x.instr ≡ true → Good f n (operations (c ∷ done))
      → Running f offset e back (operations done) s → RunsOne s x u (is_call x.instr)
      → FirstRun k (operations done) u
  after_first x k c done s u h g run turn =
      let ops = operations done in
      let first = first_of_three x k ops s u h run turn in
      record {
        running = sized_running f offset back k e s u ops
            (good_rest f n c.operation ops g).allowed run first;
        rax = first.rax;
      }

  after_second : (y : FetchedInstr) (k : ℕ) (c : UnwindCode) (done : List UnwindCode) (u v : State)
      → is_call y.instr ≡ true → Good f n (operations (c ∷ done)) → FirstRun k (operations done) u
      → RunsOne u y v (is_call y.instr) → FirstRun k (operations done) v
  after_second y k c done u v h g first turn =
      let ops = operations done in
      let called = turn_call u v y h turn in
      record {
        running = called_running f offset back e u v ops (good_rest f n c.operation ops g).allowed
            first.running called;
        rax = called.kept 0 (inr refl) ∙ first.rax;
      }

  -- neither the second nor the third is empty
  later_positive : (x y z : FetchedInstr) → are_sized (x ∷ y ∷ z ∷ []) ≡ true
      → (0 < y.size) × (0 < z.size)
  later_positive x y z h =
      let more = (and_parts _ (are_sized (y ∷ z ∷ [])) h).1 in (
        first_positive y (z ∷ []) more,
        first_positive z []
            (and_parts _ (are_sized (z ∷ [])) more).1,
      )

  same_size : (x y : FetchedInstr) → x ≡ y → x.size ≡ y.size
  same_size x y e = ap (λ (w : FetchedInstr). w.size) e

  -- before a step's end
  within : (at d : ℕ) (done : List UnwindCode) (s : PrologueStep) (ss : List PrologueStep)
      (t : State) → ArePrologueSteps f offset at (s ∷ ss) → AtMost at done → at ≤ d
      → d < at + bytes s.items → Running f offset e back (operations done) t
      → At d (codes_onto done (s ∷ ss)) t
  within at d done s ss t h m le lt run =
      let e1 = skips_first f offset at d done s ss lt h ∙ run_done d done (later done m) in
      subst (λ (cs : List UnwindCode). Running f offset e back (operations cs) t) (sym e1) run
    where
      later : (done : List UnwindCode) → AtMost at done → AtMost d done
      later [] m = tt
      later (c ∷ cs) m = omega (arith, m)

  by_items : (at : ℕ) (done : List UnwindCode) (c : UnwindCode) (ss : List PrologueStep)
      (its xs ys : List FetchedInstr) (s t : State)
      → let st : PrologueStep = record { code = c; items = its } in
      ArePrologueSteps f offset at (st ∷ ss) → AtMost at done → Good f n (operations (c ∷ done))
      → Follows f c.operation (operations done) → its ++ items ss ≡ xs ++ ys
      → Running f offset e back (operations done) s
      → RunsThrough s xs t
      → ((xs : List FetchedInstr) (s : State) → items ss ≡ xs ++ ys
      → Running f offset e back (operations (c ∷ done)) s → RunsThrough s xs t
      → At (at + bytes its + bytes xs) (codes_onto (c ∷ done) ss) t)
      → At (at + bytes xs) (codes_onto (c ∷ done) ss) t
  by_items at done c ss [] xs ys s t h m g fo same run runs rest = absurd (false≢true h.0.does)
  by_items at done c ss (x ∷ []) [] ys s t h m g fo same run runs rest =
      let pos = first_positive x [] h.0.sized in
      within at (at + 0) done (record { code = c; items = x ∷ [] }) ss t h m (omega arith)
      (omega arith) (subst (λ w. Running f offset e back (operations done) w) runs run)
  by_items at done c ss (x ∷ []) (x' ∷ xs) ys s t h m g fo same run runs rest =
      let head : x ≡ x' = cons_head same in
      let sizes = same_size x x' head in
      let u = runs.0 in
      let after = one x c.operation (operations done) s u h.0.does g fo run
      (same_turn s u x x' head runs.1) in
      let d : at + (x.size + 0) + bytes xs ≡ at + (x'.size + bytes xs) = omega arith in
      subst (λ k. At k (codes_onto (c ∷ done) ss) t) d (rest xs u (cons_tail same) after runs.2)
  by_items at done c ss (x ∷ y ∷ []) xs ys s t h m g fo same run runs rest = absurd
      (false≢true h.0.does)
  by_items at done c ss (x ∷ y ∷ z ∷ w ∷ its) xs ys s t h m g fo same run runs rest = absurd
      (false≢true h.0.does)
  by_items at done c ss (x ∷ y ∷ z ∷ []) [] ys s t h m g fo same run runs rest =
      let pos = first_positive x (y ∷ z ∷ []) h.0.sized in
      within at (at + 0) done (record { code = c; items = x ∷ y ∷ z ∷ [] }) ss t h m (omega arith)
      (omega arith) (subst (λ w. Running f offset e back (operations done) w) runs run)
  by_items at done c ss (x ∷ y ∷ z ∷ []) (x' ∷ []) ys s t h m g fo same run runs rest =
      let large = large_of c.operation x.instr y.instr z.instr h.0.does in
      let later = later_positive x y z h.0.sized in
      let more = later.0 in
      let hx : x ≡ x' = cons_head same in
      let ex = same_size x x' hx in
      let first = after_first x large.size c done s runs.0 large.sets g run
      (same_turn s runs.0 x x' hx runs.1) in
      within at (at + (x'.size + 0)) done (record { code = c; items = x ∷ y ∷ z ∷ [] }) ss t h m
      (omega arith) (omega arith) (subst (λ w. Running f offset e back (operations done) w) runs.2
      first.running)
  by_items at done c ss (x ∷ y ∷ z ∷ []) (x' ∷ y' ∷ xs) ys s t h m g fo same run runs rest =
      let large = large_of c.operation x.instr y.instr z.instr h.0.does in
      let hx : x ≡ x' = cons_head same in
      let hy : y ≡ y' = cons_head (cons_tail same) in
      let second = runs.2 in
      let first = after_first x large.size c done s runs.0 large.sets g run
      (same_turn s runs.0 x x' hx runs.1) in
      let called = after_second y large.size c done runs.0 second.0 large.calls g first
      (same_turn runs.0 second.0 y y' hy second.1) in
      by_third large (same_size x x' hx) (same_size y y' hy) xs second.0 called
      (cons_tail (cons_tail same)) second.2
    where
      by_third : (large : IsLarge c.operation x.instr y.instr z.instr) → x.size ≡ x'.size
          → y.size ≡ y'.size → (xs : List FetchedInstr) (v : State)
          → FirstRun large.size (operations done) v → z ∷ items ss ≡ xs ++ ys → RunsThrough v xs t
          → At (at + (x'.size + (y'.size + bytes xs))) (codes_onto (c ∷ done) ss) t
      by_third large ex ey [] v called same runs =
          let later = later_positive x y z h.0.sized in
          let more = later.1 in
          within at (at + (x'.size + (y'.size + 0))) done
          (record { code = c; items = x ∷ y ∷ z ∷ [] }) ss t h m (omega arith) (omega arith)
          (subst (λ w. Running f offset e back (operations done) w) runs called.running)
      by_third large ex ey (z' ∷ xs) v called same runs =
          let ops = operations done in
          let hz : z ≡ z' = cons_head same in
          let ez = same_size z z' hz in
          let w = runs.0 in
          let good : Good f n (Allocate large.size ∷ ops) = subst (λ o. Good f n (o ∷ ops)) large.is
          g in
          let third = third_of_three z large.size ops v w large.takes good called.rax called.running
          (same_turn v w z z' hz runs.1) in
          let d : at + (x.size + (y.size + (z.size + 0))) + bytes xs
          ≡ at + (x'.size + (y'.size + (z'.size + bytes xs))) = omega arith in
          subst (λ q. At q (codes_onto (c ∷ done) ss) t) d
          (rest xs w (cons_tail same) (subst (λ o. Running f offset e back (o ∷ ops) w)
          (sym large.is) third) runs.2)

  pub entering : (at : ℕ) (done : List UnwindCode) (ss : List PrologueStep)
      (xs ys : List FetchedInstr) (s t : State) → ArePrologueSteps f offset at ss → AtMost at done
      → Good f n (operations (codes_onto done ss)) → AllFollow f (operations (codes_onto done ss))
      → items ss ≡ xs ++ ys → Running f offset e back (operations done) s → RunsThrough s xs t
      → At (at + bytes xs) (codes_onto done ss) t
  entering at done [] [] ys s t h m g fo same run runs =
      let d : at ≡ at + 0 = omega arith in
      subst (λ k. At k done t) d (subst (λ (cs : List UnwindCode). Running f offset e back
      (operations cs) t) (sym (run_done at done m))
      (subst (λ w. Running f offset e back (operations done) w) runs run))
  entering at done [] (x ∷ xs) ys s t h m g fo same run runs = absurd cc
  entering at done (st ∷ ss) xs ys s t h m g fo same run runs =
      by_items at done st.code ss st.items xs ys s t h m (good_done f n (st.code ∷ done) ss g)
      (follow_done f (st.code ∷ done) ss fo).0 same run runs
      (λ xs' s' same' run' runs'. entering (at + bytes st.items) (st.code ∷ done) ss xs' ys s' t
      h.1 (let end = h.0.ends in omega arith) g fo same' run' runs')
