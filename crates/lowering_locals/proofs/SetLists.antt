-- The lists of sets: as long as the code, what their first one tells, and what each of them tells.
use Rattle.std.proofs.Common.{◌≡◌, ◌⊎◌, inl, inr, ℕ, zero, suc, ◌+◌, ◌<◌, ◌≤◌, List, [], ◌∷◌, ◌++◌, length, refl, sym, ap, subst, ◌∙◌, arith, length-append}
use Rattle.std.proofs.lemmas.Bool.{cases_lt}
use Rattle.std.proofs.lemmas.List.{length-replicate}
use Rattle.std.specs.List.{AllByRecursion}
use Rattle.std.specs.Prelude.{replicate, Option, Some, None}
use Rattle.lowering_locals.specs.Words.{Expression, StackedVariable, funclets_in, funclets, filter_funclet, Declared, Filter, Always, Funclet, Statement, Declare, Block, Evaluate, If, IfElse, For, DoWhile, Return, Break, Continue, Leave, TryExcept, TryFinally, Statements, Empty, Then, expression_size, discarded_size, condition_size, returned_size, initialiser_size, stacked_size, declared_at_size, declared_size, all_declared_size, statement_size, statements_size, SeenNames, with_local, with_declared, IsPart, after_declared, after_all_declared, after_statement, stacked_sets, declared_at_sets, declared_sets, all_declared_sets, statement_sets, statements_sets, filter_sets, finally_sets, statement_funclet_sets, statements_funclet_sets, set_in}
use Rattle.lowering_locals.proofs.Lemmas.{IsSegmentAt, sees_before, after_before, itself, within, all_append}
use Rattle.lowering_locals.proofs.StraightCode.{is_same, is_same_back, head_recorded}

-- ---- lengths

two : {X : Type 0} (a b : List X) (m n : ℕ) → length a ≡ m → length b ≡ n → length (a ++ b) ≡ m + n
two a b m n p q = let l = length-append a b in omega arith

stacked_long : (n : Option ℕ) (value : Option Expression) (free : ℕ) (seen : SeenNames)
    → length (stacked_sets free seen n value) ≡ stacked_size n value
stacked_long None value free seen =
    let l = length-replicate (suc (suc (suc (initialiser_size value)))) seen in
    omega arith
stacked_long (Some n) value free seen = refl

declared_at_long : (v : Option StackedVariable) (x : ℕ) (value : Option Expression) (free : ℕ)
    (seen : SeenNames) → length (declared_at_sets free seen v x value) ≡ declared_at_size v value
declared_at_long None x value free seen =
    let l = length-replicate (initialiser_size value) (with_local x seen) in
    omega arith
declared_at_long (Some v) x value free seen = stacked_long v.elements value free seen

pub declared_long : (d : Declared) (free : ℕ) (seen : SeenNames)
    → length (declared_sets free seen d) ≡ declared_size d
declared_long d free seen = declared_at_long d.stacked d.local d.value free seen

pub all_declared_long : (ds : List Declared) (free : ℕ) (seen : SeenNames)
    → length (all_declared_sets free seen ds) ≡ all_declared_size ds
all_declared_long [] free seen = refl
all_declared_long (d ∷ ds) free seen =
    two (declared_sets free seen d) (all_declared_sets free (after_declared seen d) ds)
    (declared_size d) (all_declared_size ds) (declared_long d free seen)
    (all_declared_long ds free (after_declared seen d))

mutual
  pub statement_long : (s : Statement) (free : ℕ) (seen : SeenNames)
      → length (statement_sets free seen s) ≡ statement_size s
  statement_long (Declare d) free seen = declared_long d free seen
  statement_long (Block ss) free seen = statements_long ss free seen
  statement_long (Evaluate e) free seen = length-replicate (discarded_size e) seen
  statement_long (If c s) free seen =
      let l = length-replicate (suc (expression_size c)) seen in
      two (replicate (suc (expression_size c)) seen) (statement_sets free seen s)
      (suc (expression_size c)) (statement_size s) l (statement_long s free seen) ∙ omega arith
  statement_long (IfElse c s t) free seen =
      let l = length-replicate (suc (expression_size c)) seen in
      let no = statement_sets free seen t ++ seen ∷ [] in
      let m = two (statement_sets free seen t) (seen ∷ []) (statement_size t) 1
      (statement_long t free seen) refl in
      let n = two (statement_sets free seen s) (seen ∷ no) (statement_size s)
      (suc (statement_size t + 1)) (statement_long s free seen) (ap suc m) in
      two (replicate (suc (expression_size c)) seen) (statement_sets free seen s ++ (seen ∷ no))
      (suc (expression_size c)) (statement_size s + suc (statement_size t + 1)) l n ∙ omega arith
  statement_long (For ds first c next s) free seen =
      let inner = after_all_declared seen ds in
      let tests = replicate (discarded_size first + condition_size c) inner in
      let body = statement_sets free inner s in
      let again = replicate (suc (discarded_size next + 2)) inner in
      let l = all_declared_long ds free seen in
      let m = length-replicate (discarded_size first + condition_size c) inner in
      let n = statement_long s free inner in
      let k = length-replicate (suc (discarded_size next + 2)) inner in
      let a = length-append (all_declared_sets free seen ds) (tests ++ (body ++ again)) in
      let b = length-append tests (body ++ again) in
      let d = length-append body again in
      omega arith
  statement_long (DoWhile s c) free seen =
      let l = length-replicate (suc (expression_size c + 3)) seen in
      two (statement_sets free seen s) (replicate (suc (expression_size c + 3)) seen)
      (statement_size s) (suc (expression_size c + 3)) (statement_long s free seen) l
      ∙ omega arith
  statement_long (Return e) free seen = length-replicate (returned_size e + 2) seen
  statement_long Break free seen = refl
  statement_long Continue free seen = refl
  statement_long Leave free seen = refl
  statement_long (TryExcept body filter block) free seen =
      let more = with_local free seen in
      let rest = statements_sets (free + 1) more block in
      let l = statements_long block (free + 1) more in
      let m = statements_long body free seen in
      let a = length-append (statements_sets free seen body) (seen ∷ (seen ∷ (more ∷ rest))) in
      omega arith
  statement_long (TryFinally body k last) free seen = two (statements_sets free seen body)
      (replicate 3 seen) (statements_size body) 3 (statements_long body free seen) refl

  pub statements_long : (ss : Statements) (free : ℕ) (seen : SeenNames)
      → length (statements_sets free seen ss) ≡ statements_size ss
  statements_long Empty free seen = refl
  statements_long (Then s ss) free seen =
      two (statement_sets free seen s) (statements_sets free (after_statement seen s) ss)
      (statement_size s) (statements_size ss) (statement_long s free seen)
      (statements_long ss free (after_statement seen s))

-- ---- as many funclets as numbers

pub filter_many : (f : Filter) (seen : SeenNames)
    → length (filter_sets seen f) ≡ length (filter_funclet f)
filter_many Always seen = refl
filter_many (Funclet k e) seen = refl

added : {X Y : Type 0} (xs ys : List X) (ks js : List Y) → length xs ≡ length ks
    → length ys ≡ length js → length (xs ++ ys) ≡ length (ks ++ js)
added xs ys ks js e f = two xs ys (length ks) (length js) e f ∙ sym (length-append ks js)

mutual
  pub statement_many : (s : Statement) (free : ℕ) (seen : SeenNames)
      → length (statement_funclet_sets free seen s) ≡ length (funclets_in s)
  statement_many (Declare d) free seen = refl
  statement_many (Block ss) free seen = statements_many ss free seen
  statement_many (Evaluate e) free seen = refl
  statement_many (If c s) free seen = statement_many s free seen
  statement_many (IfElse c s t) free seen = added (statement_funclet_sets free seen s)
      (statement_funclet_sets free seen t) (funclets_in s) (funclets_in t)
      (statement_many s free seen) (statement_many t free seen)
  statement_many (For ds first c next s) free seen = statement_many s free
      (after_all_declared seen ds)
  statement_many (DoWhile s c) free seen = statement_many s free seen
  statement_many (Return e) free seen = refl
  statement_many Break free seen = refl
  statement_many Continue free seen = refl
  statement_many Leave free seen = refl
  statement_many (TryExcept body f block) free seen =
      let inner = filter_sets seen f in
      let own = statements_funclet_sets (free + 1) (with_local free seen) block in
      let rest = added inner own (filter_funclet f) (funclets block) (filter_many f seen)
      (statements_many block (free + 1) (with_local free seen)) in
      let a = length-append (funclets body) (filter_funclet f) in
      let b = length-append (funclets body ++ filter_funclet f) (funclets block) in
      let c = length-append (filter_funclet f) (funclets block) in
      let d = length-append (statements_funclet_sets free seen body) (inner ++ own) in
      let e = statements_many body free seen in
      omega arith
  statement_many (TryFinally body k last) free seen =
      let own = statements_funclet_sets (free + 1) (with_local free seen) last in
      added (statements_funclet_sets free seen body) (finally_sets free seen last ∷ own)
      (funclets body) (k ∷ funclets last) (statements_many body free seen)
      (ap suc (statements_many last (free + 1) (with_local free seen)))

  pub statements_many : (ss : Statements) (free : ℕ) (seen : SeenNames)
      → length (statements_funclet_sets free seen ss) ≡ length (funclets ss)
  statements_many Empty free seen = refl
  statements_many (Then s ss) free seen =
      added (statement_funclet_sets free seen s)
      (statements_funclet_sets free (after_statement seen s) ss) (funclets_in s) (funclets ss)
      (statement_many s free seen) (statements_many ss free (after_statement seen s))

-- ---- what is declared is seen beside what was

pub grows : (s : Statement) (seen : SeenNames) → IsPart seen (after_statement seen s)
grows (Declare d) seen = after_before seen d
grows (Block ss) seen = itself seen
grows (Evaluate e) seen = itself seen
grows (If c s) seen = itself seen
grows (IfElse c s t) seen = itself seen
grows (For ds first c next s) seen = itself seen
grows (DoWhile s c) seen = itself seen
grows (Return e) seen = itself seen
grows Break seen = itself seen
grows Continue seen = itself seen
grows Leave seen = itself seen
grows (TryExcept body filter block) seen = itself seen
grows (TryFinally body k last) seen = itself seen

pub all_grow : (ds : List Declared) (seen : SeenNames) → IsPart seen (after_all_declared seen ds)
all_grow [] seen = itself seen
all_grow (d ∷ ds) seen = within seen (after_declared seen d)
    (after_all_declared (after_declared seen d) ds) (after_before seen d)
    (all_grow ds (after_declared seen d))

-- ---- where a part begins, no more is recorded than is seen before it

-- the first of a list, or where that is empty what comes after it
abbrev pub IsFirst : SeenNames → SeenNames → List SeenNames → Type 0
IsFirst seen end [] = IsPart end seen
IsFirst seen end (y ∷ ys) = IsPart y seen

lower : (seen more end : SeenNames) (ys : List SeenNames) → IsPart more seen → IsFirst more end ys
    → IsFirst seen end ys
lower seen more end [] p h = within end more seen h p
lower seen more end (y ∷ ys) p h = within y more seen h p

first_join : (seen mid end : SeenNames) (xs ys : List SeenNames) → IsFirst seen mid xs
    → IsFirst mid end ys → IsFirst seen end (xs ++ ys)
first_join seen mid end [] ys h k = lower seen mid end ys h k
first_join seen mid end (x ∷ xs) ys h k = h

pub replicate_first : (n : ℕ) (seen : SeenNames) → IsFirst seen seen (replicate n seen)
replicate_first zero seen = itself seen
replicate_first (suc n) seen = itself seen

stacked_first : (n : Option ℕ) (value : Option Expression) (free : ℕ) (seen : SeenNames)
    → IsFirst seen seen (stacked_sets free seen n value)
stacked_first None value free seen = itself seen
stacked_first (Some n) value free seen = itself seen

declared_at_first : (v : Option StackedVariable) (x : ℕ) (value : Option Expression) (free : ℕ)
    (seen : SeenNames)
    → IsFirst seen (with_declared v x seen) (declared_at_sets free seen v x value)
declared_at_first None x value free seen = itself seen
declared_at_first (Some v) x value free seen = stacked_first v.elements value free seen

declared_first : (d : Declared) (free : ℕ) (seen : SeenNames)
    → IsFirst seen (after_declared seen d) (declared_sets free seen d)
declared_first d free seen = declared_at_first d.stacked d.local d.value free seen

pub all_declared_first : (ds : List Declared) (free : ℕ) (seen : SeenNames)
    → IsFirst seen (after_all_declared seen ds) (all_declared_sets free seen ds)
all_declared_first [] free seen = itself seen
all_declared_first (d ∷ ds) free seen =
    first_join seen (after_declared seen d) (after_all_declared (after_declared seen d) ds)
    (declared_sets free seen d) (all_declared_sets free (after_declared seen d) ds)
    (declared_first d free seen) (all_declared_first ds free (after_declared seen d))

mutual
  pub statement_first : (s : Statement) (free : ℕ) (seen : SeenNames)
      → IsFirst seen (after_statement seen s) (statement_sets free seen s)
  statement_first (Declare d) free seen = declared_first d free seen
  statement_first (Block ss) free seen = statements_first ss free seen seen (itself seen)
  statement_first (Evaluate e) free seen = replicate_first (discarded_size e) seen
  statement_first (If c s) free seen = itself seen
  statement_first (IfElse c s t) free seen = itself seen
  statement_first (For ds first c next s) free seen =
      let inner = after_all_declared seen ds in
      let tests = replicate (discarded_size first + condition_size c) inner in
      let body = statement_sets free inner s in
      let again = replicate (suc (discarded_size next + 2)) inner in
      first_join seen inner seen (all_declared_sets free seen ds) (tests ++ (body ++ again))
      (all_declared_first ds free seen)
      (first_join inner inner seen tests (body ++ again)
      (replicate_first (discarded_size first + condition_size c) inner)
      (first_join inner (after_statement inner s) seen body again (statement_first s free inner)
      (grows s inner)))
  statement_first (DoWhile s c) free seen = first_join seen (after_statement seen s) seen
      (statement_sets free seen s) (replicate (suc (expression_size c + 3)) seen)
      (statement_first s free seen) (grows s seen)
  statement_first (Return e) free seen = replicate_first (returned_size e + 2) seen
  statement_first Break free seen = itself seen
  statement_first Continue free seen = itself seen
  statement_first Leave free seen = itself seen
  statement_first (TryExcept body filter block) free seen =
      first_join seen seen seen (statements_sets free seen body)
      (seen ∷ (seen ∷ (with_local free seen
      ∷ statements_sets (free + 1) (with_local free seen) block)))
      (statements_first body free seen seen (itself seen)) (itself seen)
  statement_first (TryFinally body k last) free seen = first_join seen seen seen
      (statements_sets free seen body) (replicate 3 seen)
      (statements_first body free seen seen (itself seen)) (itself seen)

  pub statements_first : (ss : Statements) (free : ℕ) (seen end : SeenNames) → IsPart end seen
      → IsFirst seen end (statements_sets free seen ss)
  statements_first Empty free seen end h = h
  statements_first (Then s ss) free seen end h =
      let more = after_statement seen s in
      first_join seen more end (statement_sets free seen s) (statements_sets free more ss)
      (statement_first s free seen) (statements_first ss free more end
      (within end seen more h (grows s seen)))

pub begins : (list : List SeenNames) (at to : ℕ) (ys : List SeenNames) (seen end : SeenNames)
    → IsSegmentAt list at ys → IsFirst seen end ys → at + length ys ≡ to
    → IsPart (set_in list to) end → IsPart (set_in list at) seen
begins list at to [] seen end h k e p = let same : to ≡ at = omega arith in
    within (set_in list at) end seen (subst (λ n. IsPart (set_in list n) end) same p) k
begins list at to (y ∷ ys) seen end h k e p = within (set_in list at) y seen
    (is_same (set_in list at) y (head_recorded list at y ys h)) k

-- ---- in a part at least what is seen before it is recorded

abbrev pub Above : SeenNames → List SeenNames → Type 0
Above base ys = AllByRecursion (λ (y : SeenNames). IsPart base y) ys

joined : (base : SeenNames) (xs ys : List SeenNames) → Above base xs → Above base ys
    → Above base (xs ++ ys)
joined base xs ys h k = all_append (λ (y : SeenNames). IsPart base y) xs ys h k

replicate_above : (n : ℕ) (base seen : SeenNames) → IsPart base seen → Above base (replicate n seen)
replicate_above zero base seen p = tt
replicate_above (suc n) base seen p = (p, replicate_above n base seen p)

more_above : (x n : ℕ) (base seen : SeenNames) → IsPart base seen
    → Above base (seen ∷ replicate n (with_local x seen))
more_above x n base seen p =
    let more = with_local x seen in
    (p, replicate_above n base more (within base seen more p (sees_before seen x)))

stacked_above : (n : Option ℕ) (value : Option Expression) (free : ℕ) (base seen : SeenNames)
    → IsPart base seen → Above base (stacked_sets free seen n value)
stacked_above None value free base seen p =
    replicate_above (suc (suc (suc (initialiser_size value)))) base seen p
stacked_above (Some n) value free base seen p = more_above free 4 base seen p

declared_at_above : (v : Option StackedVariable) (x : ℕ) (value : Option Expression) (free : ℕ)
    (base seen : SeenNames) → IsPart base seen → Above base (declared_at_sets free seen v x value)
declared_at_above None x value free base seen p =
    more_above x (initialiser_size value) base seen p
declared_at_above (Some v) x value free base seen p =
    stacked_above v.elements value free base seen p

declared_above : (d : Declared) (free : ℕ) (base seen : SeenNames) → IsPart base seen
    → Above base (declared_sets free seen d)
declared_above d free base seen p = declared_at_above d.stacked d.local d.value free base seen p

all_declared_above : (ds : List Declared) (free : ℕ) (base seen : SeenNames) → IsPart base seen
    → Above base (all_declared_sets free seen ds)
all_declared_above [] free base seen p = tt
all_declared_above (d ∷ ds) free base seen p =
    joined base (declared_sets free seen d) (all_declared_sets free (after_declared seen d) ds)
    (declared_above d free base seen p) (all_declared_above ds free base (after_declared seen d)
    (within base seen (after_declared seen d) p (after_before seen d)))

mutual
  pub statement_above : (s : Statement) (free : ℕ) (base seen : SeenNames) → IsPart base seen
      → Above base (statement_sets free seen s)
  statement_above (Declare d) free base seen p = declared_above d free base seen p
  statement_above (Block ss) free base seen p = statements_above ss free base seen p
  statement_above (Evaluate e) free base seen p = replicate_above (discarded_size e) base seen p
  statement_above (If c s) free base seen p = joined base (replicate (suc (expression_size c)) seen)
      (statement_sets free seen s) (replicate_above (suc (expression_size c)) base seen p)
      (statement_above s free base seen p)
  statement_above (IfElse c s t) free base seen p =
      let no = statement_sets free seen t ++ seen ∷ [] in
      joined base (replicate (suc (expression_size c)) seen)
      (statement_sets free seen s ++ (seen ∷ no))
      (replicate_above (suc (expression_size c)) base seen p)
      (joined base (statement_sets free seen s) (seen ∷ no) (statement_above s free base seen p) (
        p,
        joined base (statement_sets free seen t) (seen ∷ []) (statement_above t free base seen p)
            (p, tt),
      ))
  statement_above (For ds first c next s) free base seen p =
      let inner = after_all_declared seen ds in
      let tests = replicate (discarded_size first + condition_size c) inner in
      let body = statement_sets free inner s in
      let again = replicate (suc (discarded_size next + 2)) inner in
      let q = within base seen inner p (all_grow ds seen) in
      joined base (all_declared_sets free seen ds) (tests ++ (body ++ again))
      (all_declared_above ds free base seen p)
      (joined base tests (body ++ again) (replicate_above (discarded_size first + condition_size c)
      base inner q)
      (joined base body again (statement_above s free base inner q)
      (replicate_above (suc (discarded_size next + 2)) base inner q)))
  statement_above (DoWhile s c) free base seen p = joined base (statement_sets free seen s)
      (replicate (suc (expression_size c + 3)) seen) (statement_above s free base seen p)
      (replicate_above (suc (expression_size c + 3)) base seen p)
  statement_above (Return e) free base seen p = replicate_above (returned_size e + 2) base seen p
  statement_above Break free base seen p = replicate_above 2 base seen p
  statement_above Continue free base seen p = replicate_above 2 base seen p
  statement_above Leave free base seen p = replicate_above 1 base seen p
  statement_above (TryExcept body filter block) free base seen p =
      let more = with_local free seen in
      let q = within base seen more p (sees_before seen free) in
      joined base (statements_sets free seen body)
      (seen ∷ (seen ∷ (more ∷ statements_sets (free + 1) more block)))
      (statements_above body free base seen p)
      (p, (p, (q, statements_above block (free + 1) base more q)))
  statement_above (TryFinally body k last) free base seen p = joined base
      (statements_sets free seen body) (replicate 3 seen) (statements_above body free base seen p)
      (replicate_above 3 base seen p)

  pub statements_above : (ss : Statements) (free : ℕ) (base seen : SeenNames) → IsPart base seen
      → Above base (statements_sets free seen ss)
  statements_above Empty free base seen p = tt
  statements_above (Then s ss) free base seen p =
      let more = after_statement seen s in
      joined base (statement_sets free seen s) (statements_sets free more ss)
      (statement_above s free base seen p) (statements_above ss free base more
      (within base seen more p (grows s seen)))

pub above_at : (list : List SeenNames) (at : ℕ) (ys : List SeenNames) (base : SeenNames)
    → IsSegmentAt list at ys → Above base ys → (label : ℕ) → at ≤ label → label < at + length ys
    → IsPart base (set_in list label)
above_at list at [] base h p label le lt = absurd (omega arith)
above_at list at (y ∷ ys) base h p label le lt = of (cases_lt at label)
    (λ more. above_at list (at + 1) ys base h.1 p.1 label (omega arith) (omega arith))
  where
    of : (at < label) ⊎ (label ≤ at) → (at < label → IsPart base (set_in list label))
        → IsPart base (set_in list label)
    of (inl more) go = go more
    of (inr last) go =
        let same : at ≡ label = omega arith in
        subst (λ n. IsPart base (set_in list n)) same
        (within base y (set_in list at) p.0
        (is_same_back (set_in list at) y (head_recorded list at y ys h)))
