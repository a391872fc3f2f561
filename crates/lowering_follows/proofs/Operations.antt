-- Operations, and places that are located, read and written.
use Rattle.std.proofs.Common.{◌≡◌, ◌≤◌, ℕ, suc, ◌+◌, List, [], ◌∷◌, ◌++◌, length, refl, ap, sym, subst, ◌∙◌, arith, append-nil}
use Rattle.std.proofs.lemmas.List.{length_push}
use Rattle.std.specs.Prelude.{false, slice_get, Some}
use Rattle.lowering_follows.specs.Words.{W8, Operation, Long, width, extended, result_of, performed, Lvalue, Global, Stacked, Indirection, Element, Exception, State, Value, Outcome, Gives, set_memory, with_value, and_then, Eval, Raise, Retry, is_reserved, operate, locate, read, write, value_width, value_of, tried, load, within, Temporary, Compute, Store, Configuration, with_temporary, SameOperation, raise, is_constant, computed, exec, address_count, read_size, expression_size, locate_size, combine, expression_code, read_code, write_code, locate_code, size_of, load_code, LvalueFits, expression_weight, lvalue_weight, HasAt, Local, IsStackedPlace, stacked_code, stacked_address}
use Rattle.seh_num.specs.declared.width.Width.{Width}
use Rattle.c_operations.specs.declared.operation.Operation.TheVariants.{Pure, Load, Store as StoreTo}
use Rattle.c_operations.specs.declared.operation.Pure.TheVariants as pures
use Rattle.c_operations.specs.Performed as performing
use Rattle.c_checked.specs.declared.expression.Access.{Access}
use Rattle.source_meaning.specs.State.{local_of, set_local}
use Rattle.linear_machine.specs.Frames as machine
use Rattle.lowering_follows.proofs.Lemmas.{Part, at, conf, Ways, Price, price, Claim, value_ways, joins, more, then_value, then_plain, first, still, stepped, prefix_self, prefix_same}
use Rattle.linear_machine.proofs.Stretch.{Kept}
use Rattle.lowering_follows.proofs.NodeSettings.{NodeSetting}
use Rattle.lowering_follows.proofs.Stores.{Shape, memory_alike, local_set_alike, everywhere, kept_through, kept_set}
use Rattle.lowering_follows.proofs.Places.{has_front, has_after}
use Rattle.lowering_follows.proofs.Lengths.{expression_length}
use Rattle.lowering_follows.proofs.TaskClaims.{located, pushed, with_address, Operands, Within, SameOperation'}
use Rattle.lowering_follows.proofs.Turns.{top_get, top_put, changing, combining, computed_gives, computes, pure_turn, pure_above_turn, constant_turn, fetch_local_turn, put_local_turn}

-- one temporary more
pub push_put : (ts : List ℕ) (v : ℕ) → with_temporary ts (length ts) v ≡ Some (ts ++ v ∷ [])
push_put ts v = ap (λ us. with_temporary us (length ts) v) (sym (append-nil ts)) ∙ top_put ts [] v

pub located_length : (p : Lvalue) (temps : List ℕ) (a : ℕ)
    → length (located p temps a) ≡ length temps + address_count p
located_length (Local x) temps a = omega arith
located_length (Global access n) temps a = length_push temps a
located_length (Stacked access base offset) temps a = length_push temps a
located_length (Indirection access e) temps a = length_push temps a
located_length (Element access e i) temps a = length_push temps a

loaded_width : (w : Width) → width (size_of w) ≡ value_width w
loaded_width W8 = refl
loaded_width w = refl

module _ (setting : NodeSetting) (roomy : 4 ≤ setting.rate) where
  open setting use {program, linear, rate, body, same_globals, n, ih, code_place, code_place.{names, info, z, shapes, context, site, base, around}}

  abbrev pub K : Kept
  K = Within program linear rate body shapes base

  abbrev pub W : (ℕ → State → Store → Part) → Ways
  W v = value_ways v K context site

  -- a result at another place
  pub value_at : (s : Part) (st : State) (p : Price) (pc pc' : ℕ) (temps : List ℕ) (o : Outcome)
      → pc ≡ pc' → Claim linear rate s st p (W (pushed context site pc temps)) o
      → Claim linear rate s st p (W (pushed context site pc' temps)) o
  value_at s st p pc pc' temps o e q = subst
      (λ pc. Claim linear rate s st p (W (pushed context site pc temps)) o) e q

  -- ---- operations

  operated : (o : Operation) (x y to first second a b : ℕ) (after : ℕ → List ℕ) (pc : ℕ)
      (temps : List ℕ) (st : State) (store : Store) (e : ℕ) (out : performing.OperationResult)
      → performed (is_reserved program.globals) o x y st.memory ≡ out
      → is_constant o ≡ false → st.steps_left ≤ n → e + 1 ≤ rate
      → HasAt linear site.body site.regions pc
      (Compute (Temporary to) o (Temporary first) (Temporary second) ∷ [])
      → Operands temps to first second a b after
      → SameOperation' program linear rate body o x y a b → K st store → st.held ≡ site.held
      → Claim linear rate (at (conf context site pc temps st store)) st (price 1 e 0 e)
      (W (λ v st store. at (conf context site (pc + 1) (after v) st store)))
      (tried (within program n) o x y context st out)
  operated o x y to left right a b after pc temps st store e (performing.Gives v m) q c steps le
      has r alike kept held =
      let st' : State = set_memory st m in
      let store' : Store = record store { memory = m } in
      record {
        store = store';
        fits = (memory_alike shapes st.memory st.frames store m kept.0, kept.1, kept.2);
        same = held;
        reaches = stepped linear rate (conf context site pc temps st store)
            (at (conf context site (pc + 1) (after v) st' store')) st st' 1 e 0 refl (omega arith)
            (omega arith) refl (prefix_self st.events)
            (λ k. computes linear rate context site o to left right a b after pc temps st store k
            c has r ∙ ap (computed linear (exec linear k) (Temporary to)
            (conf context site pc temps st store)) (seen st store kept alike q)
            ∙ computed_gives linear rate context site to pc temps (after v) st store v m
            (exec linear k) (r.writes v));
      }
    where
      seen : (st : State) (store : Store) → K st store
          → SameOperation' program linear rate body o x y a b
          → performed (is_reserved program.globals) o x y st.memory ≡ performing.Gives v m
          → performed (is_reserved linear.globals) o a b store.memory ≡ performing.Gives v m
      seen st store kept alike q = ap (λ g. performed (is_reserved g) o a b store.memory)
          same_globals ∙ ap (performed (is_reserved program.globals) o a b) kept.0.same_memory
          ∙ alike st.memory ∙ q
  operated o x y to left right a b after pc temps st store e (performing.Raises code access) q c
      steps le has r alike kept held =
      let cc = conf context site pc temps st store in
      let exc : Exception = record { code = code.0; flag = false; access = access } in
      let part : Part = λ next. raise linear next exc SameOperation cc in
      let w = W (λ v st store. at (conf context site (pc + 1) (after v) st store)) in
      let seen : performed (is_reserved linear.globals) o a b store.memory
      ≡ performing.Raises code access = ap (λ g. performed (is_reserved g) o a b store.memory)
      same_globals ∙ ap (performed (is_reserved program.globals) o a b) kept.0.same_memory
      ∙ alike st.memory ∙ q in
      let again : State → Outcome = λ st. within program n (Retry o x y) context st in
      first linear rate cc part st st (price 0 0 1 rate) (price 1 e 0 e) w
      (and_then (within program n (Raise exc) context st) again)
      (omega arith, omega arith, omega arith) refl refl (prefix_self st.events)
      (λ k. computes linear rate context site o to left right a b after pc temps st store k c has
      r ∙ ap (computed linear (exec linear k) (Temporary to) cc) seen)
      (then_plain linear rate part (λ st store. at (conf context site pc temps st store)) w st
      (price 0 0 1 rate) (price 0 0 0 1) (price 0 0 1 rate)
      (within program n (Raise exc) context st) again
      (joins (omega arith) (omega arith) (omega arith) (omega arith))
      (ih.raised exc SameOperation code_place pc temps st store steps has.1 kept held)
      (λ mid after' lower fits same. ih.retry o x y to left right a b after code_place pc temps mid
      after' c (omega arith) has r alike fits same))
  operated o x y to left right a b after pc temps st store e (performing.Undefined a') q c steps
      le has r alike kept held =
      let seen : performed (is_reserved linear.globals) o a b store.memory
      ≡ performing.Undefined a' = ap (λ g. performed (is_reserved g) o a b store.memory)
      same_globals ∙ ap (performed (is_reserved program.globals) o a b) kept.0.same_memory
      ∙ alike st.memory ∙ q in
      record {
        by = (
          1,
          omega arith,
          computes linear rate context site o to left right a b after
              pc temps st store 0 c has r ∙ ap (computed linear (exec linear 0) (Temporary to)
              (conf context site pc temps st store)) seen,
        );
      }

  pub operate_runs : (o : Operation) (x y to first second a b : ℕ) (after : ℕ → List ℕ) (pc : ℕ)
      (temps : List ℕ) (st : State) (store : Store) (e : ℕ)
      → is_constant o ≡ false → st.steps_left ≤ n → e + 1 ≤ rate
      → HasAt linear site.body site.regions pc
      (Compute (Temporary to) o (Temporary first) (Temporary second) ∷ [])
      → Operands temps to first second a b after
      → SameOperation' program linear rate body o x y a b → K st store → st.held ≡ site.held
      → Claim linear rate (at (conf context site pc temps st store)) st (price 1 e 0 e)
      (W (λ v st store. at (conf context site (pc + 1) (after v) st store)))
      (operate program (within program n) o x y context st)
  operate_runs o x y to left right a b after pc temps st store e c steps le has r alike kept
      held =
      operated o x y to left right a b after pc temps st store e
      (performed (is_reserved program.globals) o x y st.memory) refl c steps le has r alike kept
      held

  -- a last turn, and its value
  pub ends_by : (c : Configuration) (v t e s o : ℕ) (part : ℕ → State → Store → Part)
      (st st' : State) (store : Store) → 1 ≤ t → e ≤ rate → c.events ≡ st.events
      → st'.steps_left ≡ st.steps_left → st'.events ≡ st.events → K st' store → st'.held ≡
      site.held
      → ((k : ℕ) → exec linear (suc k) c ≡ part v st' store (exec linear k))
      → Claim linear rate (at c) st (price t e s o) (W part) (Gives (Value v) st')
  ends_by c v t e s o part st st' store lt le same steps events kept held h =
      record {
        store = store;
        fits = kept;
        same = held;
        reaches = stepped linear rate c (part v st' store) st st' t e s steps lt (omega arith)
            same (prefix_same st.events st'.events (sym events)) h;
      }

  -- ---- places

  -- where a variable on the data stack stands
  pub stacked_runs : (b offset pc : ℕ) (temps : List ℕ) (st : State) (store : Store)
      → IsStackedPlace z.own b offset
      → HasAt linear site.body site.regions pc (stacked_code b offset (length temps))
      → K st store → st.held ≡ site.held
      → Claim linear rate (at (conf context site pc temps st store)) st (price 2 0 0 0)
      (W (pushed context site (pc + 2) temps))
      (Gives (Value (stacked_address b offset context st)) st)
  stacked_runs b offset pc temps st store fits has kept held =
      let d = length temps in
      let two = temps ++ offset ∷ [] in
      let v = stacked_address b offset context st in
      let out : Outcome = Gives (Value v) st in
      let read = machine.local_of store context.activation b in
      let same : read ≡ local_of st context.activation b =
      (kept.0.each context.activation z around.shape).reads b fits.is_local in
      let e_pc : pc + 1 + 1 ≡ pc + 2 = omega arith in
      value_at _ st (price 2 0 0 0) (pc + 1 + 1) (pc + 2) temps out e_pc
      (first linear rate (conf context site pc temps st store)
      (at (conf context site (pc + 1) two st store)) st st (price 1 0 0 0) (price 2 0 0 0)
      (W (pushed context site (pc + 1 + 1) temps)) out (omega arith, omega arith, omega arith)
      refl refl (prefix_self st.events)
      (λ k. constant_turn linear rate context site offset d two pc temps st store k fits.small
      (has.0, has.1, tt) (push_put temps offset))
      (ends_by (conf context site (pc + 1) two st store) v 1 0 0 0
      (pushed context site (pc + 1 + 1) temps) st st store (omega arith) (omega arith) refl refl
      refl kept held (λ k. pure_above_turn linear rate context site (pures.Add Long) d b d offset
      (temps ++ result_of (pures.Add Long) read offset ∷ []) (pc + 1) two st store k refl has.2
      (top_get temps offset) (top_put temps (offset ∷ []) (result_of (pures.Add Long) read offset))
      ∙ ap (λ a. exec linear k (conf context site (pc + 1 + 1)
      (temps ++ result_of (pures.Add Long) a offset ∷ []) st store)) same)))

  pub locate_runs : (p : Lvalue) (pc : ℕ) (temps : List ℕ) (st : State) (store : Store)
      → st.steps_left ≤ n → lvalue_weight p + body + 4 ≤ rate → LvalueFits program z.own info p
      → HasAt linear site.body site.regions pc (locate_code names p (length temps) pc)
      → K st store → st.held ≡ site.held
      → Claim linear rate (at (conf context site pc temps st store)) st
      (price 2 0 (lvalue_weight p) (lvalue_weight p))
      (W (with_address context site (pc + locate_size p) p temps))
      (locate (within program n) p context st)
  locate_runs (Local x) pc temps st store steps light fits has kept held =
      let e : pc ≡ pc + 0 = omega arith in
      record {
        store = store;
        fits = kept;
        same = held;
        reaches = still linear rate (at (conf context site pc temps st store))
            (at (conf context site (pc + 0) temps st store)) st st 2 0 0 refl (omega arith)
            (prefix_self st.events)
            (λ k. ap (λ p. exec linear k (conf context site p temps st store)) e);
      }
  locate_runs (Global access a) pc temps st store steps light fits has kept held =
      ends_by (conf context site pc temps st store) a 2 0 0 0
      (with_address context site (pc + 1) (Global access a) temps) st st store (omega arith)
      (omega arith) refl refl refl kept held
      (λ k. constant_turn linear rate context site a (length temps) (temps ++ a ∷ []) pc temps st
      store k fits has (push_put temps a))
  locate_runs (Stacked access b offset) pc temps st store steps light fits has kept held =
      stacked_runs b offset pc temps st store fits has kept held
  locate_runs (Indirection access e) pc temps st store steps light fits has kept held =
      more linear rate _ st (price 0 0 (expression_weight e) (expression_weight e))
      (price 2 0 (expression_weight e) (expression_weight e))
      (W (pushed context site (pc + expression_size e) temps))
      (within program n (Eval e) context st)
      (omega arith, omega arith, omega arith)
      (ih.eval e code_place pc temps st store steps light fits has kept held)
  locate_runs (Element access e i) pc temps st store steps light fits has kept held =
      let we = expression_weight e in
      let wi = expression_weight i in
      let d = length temps in
      let pc1 = pc + expression_size e in
      let pc2 = pc1 + expression_size i in
      let first_code = expression_code names e d pc in
      let second_code = expression_code names i (d + 1) pc1 in
      let rest = has_after linear site.body site.regions pc (expression_size e) first_code
      (second_code ++ combine d (Pure (pures.Add Long)) ∷ []) (expression_length names e d pc)
      has in
      let last = has_after linear site.body site.regions pc1 (expression_size i) second_code
      (combine d (Pure (pures.Add Long)) ∷ []) (expression_length names i (d + 1) pc1) rest in
      let second = has_front linear site.body site.regions pc1 second_code
      (combine d (Pure (pures.Add Long)) ∷ []) rest in
      let w = W (pushed context site (pc2 + 1) temps) in
      let e_pc : pc2 + 1 ≡ pc + (expression_size e + (expression_size i + 1)) = omega arith in
      let keep : ℕ → ℕ → State → Outcome = λ a k st. Gives
      (Value (result_of (pures.Add Long) a k)) st in
      value_at _ st (price 2 0 (we + wi) (we + wi)) (pc2 + 1)
      (pc + (expression_size e + (expression_size i + 1))) temps _ e_pc
      (then_value linear rate _ (pushed context site pc1 temps) w st (price 0 0 we we)
      (price 1 we (we + wi) (we + wi)) (price 2 0 (we + wi) (we + wi))
      (within program n (Eval e) context st)
      (λ a st. with_value (within program n (Eval i) context st) (λ k st. keep a k st))
      (joins (omega arith) (omega arith) (omega arith) (omega arith))
      (ih.eval e code_place pc temps st store steps (omega arith)
      fits.0 (has_front linear site.body site.regions pc first_code
      (second_code ++ combine d (Pure (pures.Add Long)) ∷ []) has) kept held)
      (λ a mid store1 lower1 kept1 held1.
      then_value linear rate _ (pushed context site pc2 (temps ++ a ∷ [])) w mid (price 0 0 wi wi)
      (price 1 (we + wi) (we + wi) (we + wi)) (price 1 we (we + wi) (we + wi))
      (within program n (Eval i) context mid) (λ k st. keep a k st)
      (joins (omega arith) (omega arith) (omega arith) (omega arith))
      (ih.eval i code_place pc1 (temps ++ a ∷ []) mid store1
      (omega arith) (omega arith) fits.1 (subst
      (λ j. HasAt linear site.body site.regions pc1 (expression_code names i j pc1))
      (sym (length_push temps a)) second) kept1 held1) (λ k end store2 lower2 kept2 held2.
      ends_by (conf context site pc2 ((temps ++ a ∷ []) ++ k ∷ []) end store2)
      (result_of (pures.Add Long) a k) 1 (we + wi) (we + wi) (we + wi)
      (pushed context site (pc2 + 1) temps) end end store2 (omega arith) (omega arith) refl refl
      refl kept2 held2 (λ j. pure_turn linear rate context site (pures.Add Long) d d (d + 1) a k
      (λ v. temps ++ v ∷ []) pc2 ((temps ++ a ∷ []) ++ k ∷ []) end store2 j refl last
      (combining temps a k)))))

  -- ---- what is at a place

  -- what was located is read to the temporary after these
  abbrev pub ReadFits : Lvalue → List ℕ → ℕ → ℕ → List ℕ → Type 0
  ReadFits (Local x) temps address a ts = (v : ℕ)
      → with_temporary temps (length ts) v ≡ Some (ts ++ v ∷ [])
  ReadFits (Global access g) temps address a ts = Operands temps (length ts) address address a a
      (λ v. ts ++ v ∷ [])
  ReadFits (Stacked access b o) temps address a ts = Operands temps (length ts) address address a
      a (λ v. ts ++ v ∷ [])
  ReadFits (Indirection access e) temps address a ts = Operands temps (length ts) address address
      a a (λ v. ts ++ v ∷ [])
  ReadFits (Element access e i) temps address a ts = Operands temps (length ts) address address a
      a (λ v. ts ++ v ∷ [])

  load_runs : (access : Access) (a address : ℕ) (ts : List ℕ) (pc : ℕ) (temps : List ℕ)
      (st : State) (store : Store) (e : ℕ) → st.steps_left ≤ n → e + 1 ≤ rate
      → HasAt linear site.body site.regions pc (load_code access address (length ts))
      → Operands temps (length ts) address address a a (λ v. ts ++ v ∷ []) → K st store
      → st.held ≡ site.held
      → Claim linear rate (at (conf context site pc temps st store)) st (price 2 e 0 e)
      (W (pushed context site (pc + 2) ts))
      (load program (within program n) access a context st)
  load_runs access a address ts pc temps st store e steps le has r kept held =
      let to = length ts in
      let w = W (pushed context site (pc + 1 + 1) ts) in
      let keep : ℕ → State → Outcome = λ v st. Gives (Value (value_of access v)) st in
      let e_pc : pc + 1 + 1 ≡ pc + 2 = omega arith in
      value_at _ st (price 2 e 0 e) (pc + 1 + 1) (pc + 2) ts _ e_pc
      (then_value linear rate _ (pushed context site (pc + 1) ts) w st (price 1 e 0 e)
      (price 1 0 0 0) (price 2 e 0 e) (operate program (within program n) (Load access.width) a
      0 context st) keep (joins (omega arith) (omega arith) (omega arith) (omega arith))
      (operate_runs (Load access.width) a 0 to address address a a (λ v. ts ++ v ∷ []) pc temps st
      store e refl steps le (has.0, has.1, tt) r (λ m. refl) kept held)
      (λ v mid after lower kept held.
      let k = pures.Extend access.signedness access.width (size_of access.width) in
      let same : result_of k v v ≡ value_of access v = ap
      (λ u. extended access.signedness access.width u v) (loaded_width access.width) in
      ends_by (conf context site (pc + 1) (ts ++ v ∷ []) mid after) (value_of access v) 1 0 0 0
      (pushed context site (pc + 1 + 1) ts) mid mid after (omega arith) (omega arith) refl refl
      refl kept held
      (λ j. pure_turn linear rate context site k to to to v v (λ u. ts ++ u ∷ []) (pc + 1)
      (ts ++ v ∷ []) mid after j refl has.2 (changing ts v)
      ∙ ap (λ u. exec linear j (conf context site (pc + 1 + 1) (ts ++ u ∷ []) mid after))
      same)))

  pub read_runs : (p : Lvalue) (a address : ℕ) (ts : List ℕ) (pc : ℕ) (temps : List ℕ)
      (st : State) (store : Store) (e : ℕ) → st.steps_left ≤ n → e + 1 ≤ rate
      → LvalueFits program z.own info p
      → HasAt linear site.body site.regions pc (read_code p address (length ts))
      → ReadFits p temps address a ts → K st store → st.held ≡ site.held
      → Claim linear rate (at (conf context site pc temps st store)) st (price 2 e 0 e)
      (W (pushed context site (pc + read_size p) ts))
      (read program (within program n) p a context st)
  read_runs (Local x) a address ts pc temps st store e steps le fits has r kept held =
      let v = local_of st context.activation x in
      let same : machine.local_of store context.activation x
      ≡ v = (kept.0.each context.activation z around.shape).reads x fits in
      ends_by (conf context site pc temps st store) v 2 e 0 e (pushed context site (pc + 1) ts) st
      st store (omega arith) (omega arith) refl refl refl kept held
      (λ k. fetch_local_turn linear rate context site x (length ts) (ts ++ v ∷ []) pc temps st
      store k has (ap (with_temporary temps (length ts)) same ∙ r v))
  read_runs (Global access g) a address ts pc temps st store e steps le fits has r kept held =
      load_runs access a address ts pc temps st store e steps le has r kept held
  read_runs (Stacked access b o) a address ts pc temps st store e steps le fits has r kept held =
      load_runs access a address ts pc temps st store e steps le has r kept held
  read_runs (Indirection access f) a address ts pc temps st store e steps le fits has r kept
      held =
      load_runs access a address ts pc temps st store e steps le has r kept held
  read_runs (Element access f i) a address ts pc temps st store e steps le fits has r kept held =
      load_runs access a address ts pc temps st store e steps le has r kept held

  -- ---- what goes to a place

  -- a temporary goes to what was located, and its number is the result
  abbrev pub WriteFits : Lvalue → List ℕ → (address from to a v : ℕ) → (ℕ → List ℕ) → Type 0
  WriteFits (Local x) temps address from to a v after = (slice_get temps from ≡ Some v)
      × (temps ≡ after v)
  WriteFits (Global access g) temps address from to a v after = Operands temps to address from a v
      after
  WriteFits (Stacked access b o) temps address from to a v after = Operands temps to address from
      a v after
  WriteFits (Indirection access e) temps address from to a v after = Operands temps to address
      from a v after
  WriteFits (Element access e i) temps address from to a v after = Operands temps to address from
      a v after

  abbrev written : ℕ → (ℕ → List ℕ) → ℕ → State → Store → Part
  written pc after v st store = at (conf context site pc (after v) st store)

  pub write_runs : (p : Lvalue) (a v address from to : ℕ) (after : ℕ → List ℕ) (pc : ℕ)
      (temps : List ℕ) (st : State) (store : Store) (e : ℕ) → st.steps_left ≤ n → e + 1 ≤ rate
      → LvalueFits program z.own info p
      → HasAt linear site.body site.regions pc (write_code p address from to ∷ [])
      → WriteFits p temps address from to a v after → K st store → st.held ≡ site.held
      → Claim linear rate (at (conf context site pc temps st store)) st (price 1 e 0 e)
      (W (written (pc + 1) after)) (write program (within program n) p a v context st)
  write_runs (Local x) a v address from to after pc temps st store e steps le fits has r kept
      held =
      let st' : State = set_local st context.activation x v in
      let store' : Store = machine.set_local store context.activation x v in
      let apart : (y : Shape) → slice_get shapes context.activation ≡ Some y → y.own ≤ x
      → everywhere context.activation x → ⊥ =
      λ y h l o. let same : z ≡ y = let g = around.shape in cc in
      let far : z.own ≤ x = subst (λ y. y.own ≤ x) (sym same) l in omega arith in
      let kept' : K st' store' = (
        local_set_alike shapes st store context.activation x v z around.shape fits kept.0,
        kept_through everywhere shapes base store store' kept.1
            (kept_set everywhere shapes store context.activation x v apart),
        kept.2,
      ) in
      ends_by (conf context site pc temps st store) v 1 e 0 e (written (pc + 1) after) st st'
      store' (omega arith) (omega arith) refl refl refl kept' held
      (λ k. put_local_turn linear rate context site x from v pc temps st store k has r.0
      ∙ ap (λ ts. exec linear k (conf context site (pc + 1) ts st store')) r.1)
  write_runs (Global access g) a v address from to after pc temps st store e steps le fits has r
      kept held =
      operate_runs (StoreTo access.width) a v to address from a v after pc temps st store e refl
      steps le has r (λ m. refl) kept held
  write_runs (Stacked access b o) a v address from to after pc temps st store e steps le fits has
      r kept held =
      operate_runs (StoreTo access.width) a v to address from a v after pc temps st store e refl
      steps le has r (λ m. refl) kept held
  write_runs (Indirection access f) a v address from to after pc temps st store e steps le fits
      has r kept held =
      operate_runs (StoreTo access.width) a v to address from a v after pc temps st store e refl
      steps le has r (λ m. refl) kept held
  write_runs (Element access f i) a v address from to after pc temps st store e steps le fits has
      r kept held =
      operate_runs (StoreTo access.width) a v to address from a v after pc temps st store e refl
      steps le has r (λ m. refl) kept held
