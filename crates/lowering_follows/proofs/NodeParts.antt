-- Parts of nodes: subexpressions, conversions, and numbers that are 0 or 1.
use Rattle.std.proofs.Common.{◌≡◌, ◌<◌, ◌≤◌, ℕ, suc, ◌+◌, ◌*◌, ◌^◌, List, [], ◌∷◌, ◌++◌, length, refl, ap, sym, subst, ◌∙◌, arith}
use Rattle.std.proofs.lemmas.Nat.{mul-mod}
use Rattle.std.specs.Prelude.{Bool, true, false, nat_eq, if◌then◌else◌}
use Rattle.lowering_follows.specs.Words.{W64, low, Operation, Long, width, extended, result_of, Conversion, Kept, Extend, Scale, Expression, Lvalue, State, Value, Outcome, Gives, with_value, Eval, Locate, converted, operate, locate, read, within, Temporary, Compute, Store, Seen, pick, is_constant, exec, read_size, conversion_size, expression_size, locate_size, constant, choice_code, conversion_code, expression_code, read_code, locate_code, ExpressionFits, LvalueFits, expression_weight, lvalue_weight, HasAt}
use Rattle.c_operations.specs.declared.operation.Pure.TheVariants as pures
use Rattle.lowering_follows.proofs.Lemmas.{Part, at, conf, Ways, price, Claim, value_ways, joins, more, then_value, first, still, prefix_self}
use Rattle.lowering_follows.proofs.NodeSettings.{NodeSetting}
use Rattle.lowering_follows.proofs.Places.{has_at}
use Rattle.lowering_follows.proofs.TaskClaims.{located, pushed, with_address, Operands, Within, SameOperation'}
use Rattle.lowering_follows.proofs.Turns.{changing, pure_turn, constant_turn, jump_turn, test_turn}
use Rattle.lowering_follows.proofs.Operations.{ReadFits, push_put, locate_runs, read_runs, operate_runs}

scaled_same : (y by : ℕ) → low W64 (low W64 y * low W64 by) ≡ low W64 (y * by)
scaled_same y by = sym (mul-mod y by (2 ^ 64))

pub value_self : (o : Outcome) → with_value o (λ v st. Gives (Value v) st) ≡ o
unfolding with_value
value_self (Gives (Value v) st) = refl
value_self (Gives r st) = refl

pub pick_yes : (c : Bool) (x y : Seen) → c ≡ true → pick c x y ≡ x
unfolding pick
pick_yes c x y e = ap (λ b. pick b x y) e

pub pick_no : (c : Bool) (x y : Seen) → c ≡ false → pick c x y ≡ y
unfolding pick
pick_no c x y e = ap (λ b. pick b x y) e

module _ (setting : NodeSetting) (roomy : 4 ≤ setting.rate) where
  open setting use {program, linear, rate, body, n, ih, code_place, code_place.{names, info, z, shapes, context, site, base}}

  abbrev pub Kp : State → Store → Type 0
  Kp = Within program linear rate body shapes base

  abbrev pub Wv : (ℕ → State → Store → Part) → Ways
  Wv v = value_ways v Kp context site

  -- a place from which a claim is made
  abbrev pub From : (pc : ℕ) (temps : List ℕ) (st : State) (store : Store) (t x s o : ℕ)
      (part : ℕ → State → Store → Part) → Outcome → Type 0
  From pc temps st store t x s o part out = Claim linear rate
      (at (conf context site pc temps st store)) st (price t x s o) (Wv part) out

  pub from_at : (pc pc' : ℕ) (temps : List ℕ) (st : State) (store : Store) (t x s o : ℕ)
      (part : ℕ → State → Store → Part) (out : Outcome) → pc ≡ pc'
      → From pc temps st store t x s o part out → From pc' temps st store t x s o part out
  from_at pc pc' temps st store t x s o part out e h = subst
      (λ p. From p temps st store t x s o part out) e h

  -- a subexpression, and what is done with its value
  pub sub_eval : (e : Expression) (pc : ℕ) (temps : List ℕ) (st : State) (store : Store)
      (t x s o : ℕ) (part : ℕ → State → Store → Part) (k : ℕ → State → Outcome) → st.steps_left ≤
      n
      → expression_weight e + body + 4 ≤ rate → x + expression_weight e ≤ o
      → ExpressionFits program z.own info e
      → HasAt linear site.body site.regions pc (expression_code names e (length temps) pc)
      → Kp st store → st.held ≡ site.held
      → ((v : ℕ) (mid : State) (after : Store) → mid.steps_left ≤ n → Kp mid after
      → mid.held ≡ site.held → From (pc + expression_size e) (temps ++ v ∷ []) mid after t
      (x + expression_weight e) s o part (k v mid))
      → From pc temps st store t x s o part (with_value (within program n (Eval e) context st) k)
  sub_eval e pc temps st store t x s o part k steps light fit_o fits has kept held go =
      then_value linear rate _ (pushed context site (pc + expression_size e) temps) (Wv part) st
      (price 0 0 (expression_weight e) (expression_weight e))
      (price t (x + expression_weight e) s o) (price t x s o)
      (within program n (Eval e) context st) k
      (joins (omega arith) (omega arith) (omega arith) (omega arith))
      (ih.eval e code_place pc temps st store steps light fits has kept held)
      (λ v mid after lower kept held. go v mid after (omega arith) kept held)

  -- a target, and what is done with its address
  pub sub_target : (p : Lvalue) (pc : ℕ) (temps : List ℕ) (st : State) (store : Store)
      (t x s o : ℕ) (part : ℕ → State → Store → Part) (k : ℕ → State → Outcome) → st.steps_left ≤
      n
      → 1 + lvalue_weight p + body + 4 ≤ rate → x + (1 + lvalue_weight p) ≤ o
      → LvalueFits program z.own info p → HasAt linear site.body site.regions pc
      (locate_code names p (length temps) pc) → Kp st store → st.held ≡ site.held
      → ((a : ℕ) (mid : State) (after : Store) → mid.steps_left ≤ n → Kp mid after
      → mid.held ≡ site.held → From (pc + locate_size p) (located p temps a) mid after t
      (x + (1 + lvalue_weight p)) s o part (k a mid))
      → From pc temps st store t x s o part
      (with_value (within program n (Locate p) context st) k)
  sub_target p pc temps st store t x s o part k steps light fit_o fits has kept held go =
      then_value linear rate _ (with_address context site (pc + locate_size p) p temps) (Wv part)
      st (price 0 0 (1 + lvalue_weight p) (1 + lvalue_weight p))
      (price t (x + (1 + lvalue_weight p)) s o) (price t x s o)
      (within program n (Locate p) context st) k
      (joins (omega arith) (omega arith) (omega arith) (omega arith))
      (ih.locate p code_place pc temps st store steps light fits has kept held)
      (λ v mid after lower kept held. go v mid after (omega arith) kept held)

  -- a place that is no target
  pub sub_locate : (p : Lvalue) (pc : ℕ) (temps : List ℕ) (st : State) (store : Store)
      (t x s o : ℕ) (part : ℕ → State → Store → Part) (k : ℕ → State → Outcome) → st.steps_left ≤
      n
      → lvalue_weight p + body + 4 ≤ rate → x + lvalue_weight p ≤ o
      → LvalueFits program z.own info p → HasAt linear site.body site.regions pc
      (locate_code names p (length temps) pc) → Kp st store → st.held ≡ site.held
      → ((a : ℕ) (mid : State) (after : Store) → mid.steps_left ≤ n → Kp mid after
      → mid.held ≡ site.held → From (pc + locate_size p) (located p temps a) mid after t
      (x + lvalue_weight p) s o part (k a mid))
      → From pc temps st store (2 + t) x s o part
      (with_value (locate (within program n) p context st) k)
  sub_locate p pc temps st store t x s o part k steps light fit_o fits has kept held go =
      then_value linear rate _ (with_address context site (pc + locate_size p) p temps) (Wv part)
      st (price 2 0 (lvalue_weight p) (lvalue_weight p)) (price t (x + lvalue_weight p) s o)
      (price (2 + t) x s o) (locate (within program n) p context st) k
      (joins (omega arith) (omega arith) (omega arith) (omega arith))
      (locate_runs setting roomy p pc temps st store steps light fits has kept held)
      (λ v mid after lower kept held. go v mid after (omega arith) kept held)

  pub sub_read : (p : Lvalue) (a address : ℕ) (ts : List ℕ) (pc : ℕ) (temps : List ℕ) (st : State)
      (store : Store) (t x s o : ℕ) (part : ℕ → State → Store → Part) (k : ℕ → State → Outcome)
      → st.steps_left ≤ n → x + 1 ≤ rate → x ≤ o
      → LvalueFits program z.own info p → HasAt linear site.body site.regions pc
      (read_code p address (length ts)) → ReadFits setting roomy p temps address a ts → Kp st store
      → st.held ≡ site.held
      → ((v : ℕ) (mid : State) (after : Store) → mid.steps_left ≤ n → Kp mid after
      → mid.held ≡ site.held → From (pc + read_size p) (ts ++ v ∷ []) mid after t 0 s o part
      (k v mid))
      → From pc temps st store (2 + t) x s o part
      (with_value (read program (within program n) p a context st) k)
  sub_read p a address ts pc temps st store t x s o part k steps le fit_o fits has r kept held
      go =
      then_value linear rate _ (pushed context site (pc + read_size p) ts) (Wv part) st
      (price 2 x 0 x) (price t 0 s o) (price (2 + t) x s o)
      (read program (within program n) p a context st) k
      (joins (omega arith) (omega arith) (omega arith) (omega arith))
      (read_runs setting roomy p a address ts pc temps st store x steps le fits has r kept held)
      (λ v mid after lower kept held. go v mid after (omega arith) kept held)

  pub sub_operate : (op : Operation) (x' y to left right a b : ℕ) (result : ℕ → List ℕ) (pc : ℕ)
      (temps : List ℕ) (st : State) (store : Store) (t x s o : ℕ)
      (part : ℕ → State → Store → Part)
      (k : ℕ → State → Outcome)
      → is_constant op ≡ false → st.steps_left ≤ n → x + 1 ≤ rate → x ≤ o
      → HasAt linear site.body site.regions pc
      (Compute (Temporary to) op (Temporary left) (Temporary right) ∷ [])
      → Operands temps to left right a b result
      → SameOperation' program linear rate body op x' y a b → Kp st store → st.held ≡ site.held
      → ((v : ℕ) (mid : State) (after : Store) → mid.steps_left ≤ n → Kp mid after
      → mid.held ≡ site.held → From (pc + 1) (result v) mid after t 0 s o part (k v mid))
      → From pc temps st store (1 + t) x s o part
      (with_value (operate program (within program n) op x' y context st) k)
  sub_operate op x' y to left right a b result pc temps st store t x s o part k c steps le fit_o
      has r alike kept held go =
      then_value linear rate _ (λ v st store. at (conf context site (pc + 1) (result v) st store))
      (Wv part) st (price 1 x 0 x) (price t 0 s o) (price (1 + t) x s o)
      (operate program (within program n) op x' y context st) k
      (joins (omega arith) (omega arith) (omega arith) (omega arith))
      (operate_runs setting roomy op x' y to left right a b result pc temps st store x c steps le
      has r alike kept held)
      (λ v mid after lower kept held. go v mid after (omega arith) kept held)

  -- a turn that changes temporaries alone
  pub turn : (pc pc' : ℕ) (temps temps' : List ℕ) (st : State) (store : Store) (t x s o : ℕ)
      (part : ℕ → State → Store → Part) (out : Outcome)
      → ((k : ℕ) → exec linear (suc k) (conf context site pc temps st store)
      ≡ exec linear k (conf context site pc' temps' st store))
      → From pc' temps' st store t x s o part out → From pc temps st store (1 + t) x s o part out
  turn pc pc' temps temps' st store t x s o part out h q =
      first linear rate (conf context site pc temps st store)
      (at (conf context site pc' temps' st store)) st st (price t x s o) (price (1 + t) x s o)
      (Wv part) out (omega arith, omega arith, omega arith) refl refl
      (prefix_self st.events) h q

  -- the value is there
  pub here_value : (pc : ℕ) (temps : List ℕ) (v : ℕ) (st : State) (store : Store) (t x s o : ℕ)
      → x ≤ s → Kp st store → st.held ≡ site.held
      → From pc (temps ++ v ∷ []) st store t x s o (pushed context site pc temps)
      (Gives (Value v) st)
  here_value pc temps v st store t x s o le kept held =
      record {
        store = store;
        fits = kept;
        same = held;
        reaches = still linear rate (at (conf context site pc (temps ++ v ∷ []) st store))
            (at (conf context site pc (temps ++ v ∷ []) st store)) st st t x s refl le
            (prefix_self st.events) (λ k. refl);
      }

  pub here_other : (pc pc' : ℕ) (temps : List ℕ) (v : ℕ) (st : State) (store : Store)
      (t x s o : ℕ) → pc ≡ pc' → x ≤ s → Kp st store → st.held ≡ site.held
      → From pc (temps ++ v ∷ []) st store t x s o (pushed context site pc' temps)
      (Gives (Value v) st)
  here_other pc pc' temps v st store t x s o e le kept held =
      subst (λ p. From pc (temps ++ v ∷ []) st store t x s o (pushed context site p temps)
      (Gives (Value v) st)) e (here_value pc temps v st store t x s o le kept held)

  -- ---- conversions

  pub conversion_then : (c : Conversion) (v : ℕ) (ts : List ℕ) (pc : ℕ) (st : State)
      (store : Store) (t x s o : ℕ) (part : ℕ → State → Store → Part) (out : Outcome)
      → HasAt linear site.body site.regions pc (conversion_code c (length ts))
      → From (pc + conversion_size c) (ts ++ converted c v ∷ []) st store t x s o part out
      → From pc (ts ++ v ∷ []) st store (2 + t) x s o part out
  conversion_then Kept v ts pc st store t x s o part out has h =
      from_at (pc + 0) pc (ts ++ v ∷ []) st store (2 + t) x s o part out (omega arith)
      (more linear rate _ st (price t x s o) (price (2 + t) x s o) (Wv part) out
      (omega arith, omega arith, omega arith) h)
  conversion_then (Extend sign from size) v ts pc st store t x s o part out has h =
      let d = length ts in
      more linear rate _ st (price (1 + t) x s o) (price (2 + t) x s o) (Wv part) out
      (omega arith, omega arith, omega arith)
      (turn pc (pc + 1) (ts ++ v ∷ []) (ts ++ extended sign from (width size) v ∷ []) st store t x
      s o part out (λ k. pure_turn linear rate context site (pures.Extend sign from size) d d d v v
      (λ u. ts ++ u ∷ []) pc (ts ++ v ∷ []) st store k refl has (changing ts v)) h)
  conversion_then (Scale sign from by) v ts pc st store t x s o part out has h =
      let d = length ts in
      let y = extended sign from W64 v in
      let last = result_of (pures.MultiplyBy by) y y in
      let e : pc + 1 + 1 ≡ pc + 2 = omega arith in
      more linear rate _ st (price (1 + (1 + t)) x s o) (price (2 + t) x s o) (Wv part) out
      (omega arith, omega arith, omega arith)
      (turn pc (pc + 1) (ts ++ v ∷ []) (ts ++ y ∷ []) st store (1 + t) x s o part out
      (λ k. pure_turn linear rate context site (pures.Extend sign from Long) d d d v v
      (λ u. ts ++ u ∷ []) pc (ts ++ v ∷ []) st store k refl (has.0, has.1, tt) (changing ts v))
      (turn (pc + 1) (pc + 1 + 1) (ts ++ y ∷ []) (ts ++ last ∷ []) st store t x s o part out
      (λ k. pure_turn linear rate context site (pures.MultiplyBy by) d d d y y
      (λ u. ts ++ u ∷ []) (pc + 1) (ts ++ y ∷ []) st store k refl has.2 (changing ts y))
      (from_at (pc + 2) (pc + 1 + 1) (ts ++ last ∷ []) st store t x s o part out (sym e)
      (subst (λ u. From (pc + 2) (ts ++ u ∷ []) st store t x s o part out)
      (sym (scaled_same y by)) h))))

  -- ---- 0 or another number

  pub choice_then : (v instead other : ℕ) (b : Bool) (ts : List ℕ) (pc : ℕ) (st : State)
      (store : Store) (t x s o : ℕ) → nat_eq v 0 ≡ b → instead < 2 ^ 64 → other < 2 ^ 64
      → HasAt linear site.body site.regions pc (choice_code (length ts) pc instead other) → x ≤ s
      → Kp st store → st.held ≡ site.held
      → From pc (ts ++ v ∷ []) st store (3 + t) x s o (pushed context site (pc + 4) ts)
      (Gives (Value (if b then instead else other)) st)
  choice_then v instead other true ts pc st store t x s o e small small' has le kept held =
      let d = length ts in
      let target : pc + 1 + 1 + 1 ≡ pc + 3 = omega arith in
      let last : HasAt linear site.body site.regions (pc + 3) (constant d instead ∷ []) = has_at
      linear site.body site.regions (pc + 1 + 1 + 1) (pc + 3) (constant d instead ∷ []) target
      has.2.2.2 in
      let end : pc + 3 + 1 ≡ pc + 4 = omega arith in
      more linear rate _ st (price (1 + (1 + t)) x s o) (price (3 + t) x s o)
      (Wv (pushed context site (pc + 4) ts)) (Gives (Value instead) st)
      (omega arith, omega arith, omega arith)
      (turn pc (pc + 3) (ts ++ v ∷ []) ts st store (1 + t) x s o (pushed context site (pc + 4) ts)
      (Gives (Value instead) st)
      (λ k. test_turn linear rate context site (pc + 3) v pc ts st store k (has.0, has.1, tt)
      ∙ pick_yes (nat_eq v 0) (exec linear k (conf context site (pc + 3) ts st store))
      (exec linear k (conf context site (pc + 1) ts st store)) e)
      (turn (pc + 3) (pc + 3 + 1) ts (ts ++ instead ∷ []) st store t x s o
      (pushed context site (pc + 4) ts) (Gives (Value instead) st)
      (λ k. constant_turn linear rate context site instead d (ts ++ instead ∷ []) (pc + 3) ts st
      store k small last (push_put ts instead))
      (here_other (pc + 3 + 1) (pc + 4) ts instead st store t x s o end le kept held)))
  choice_then v instead other false ts pc st store t x s o e small small' has le kept held =
      let d = length ts in
      more linear rate _ st (price (1 + (1 + (1 + t))) x s o) (price (3 + t) x s o)
      (Wv (pushed context site (pc + 4) ts)) (Gives (Value other) st)
      (omega arith, omega arith, omega arith)
      (turn pc (pc + 1) (ts ++ v ∷ []) ts st store (1 + (1 + t)) x s o
      (pushed context site (pc + 4) ts) (Gives (Value other) st)
      (λ k. test_turn linear rate context site (pc + 3) v pc ts st store k (has.0, has.1, tt)
      ∙ pick_no (nat_eq v 0) (exec linear k (conf context site (pc + 3) ts st store))
      (exec linear k (conf context site (pc + 1) ts st store)) e)
      (turn (pc + 1) (pc + 1 + 1) ts (ts ++ other ∷ []) st store (1 + t) x s o
      (pushed context site (pc + 4) ts) (Gives (Value other) st)
      (λ k. constant_turn linear rate context site other d (ts ++ other ∷ []) (pc + 1) ts st store
      k small' (has.2.0, has.2.1, tt) (push_put ts other))
      (turn (pc + 1 + 1) (pc + 4) (ts ++ other ∷ []) (ts ++ other ∷ []) st store t x s o
      (pushed context site (pc + 4) ts) (Gives (Value other) st)
      (λ k. jump_turn linear rate context site (pc + 4) (pc + 1 + 1) (ts ++ other ∷ []) st store k
      (has.2.2.0, has.2.2.1, tt)) (here_value (pc + 4) ts other st store t x s o le kept held))))
