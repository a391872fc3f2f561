-- Assignments that change what is at a place.
use Rattle.std.proofs.Common.{◌≡◌, ◌≤◌, ℕ, ◌+◌, List, [], ◌∷◌, ◌++◌, length, refl, ap, sym, subst, ◌∙◌, arith, append_assoc}
use Rattle.std.proofs.lemmas.List.{length_push}
use Rattle.std.specs.Prelude.{Some}
use Rattle.lowering_follows.specs.Words.{Operation, Conversion, Expression, Lvalue, Global, Stacked, Indirection, Element, State, Value, Outcome, Gives, with_value, Eval, converted, operate, read, write, incremented_value, within, Temporary, Instruction, Store, with_temporary, address_count, read_size, conversion_size, expression_size, locate_size, node_size, constant, combine, copy, conversion_code, expression_code, read_code, write_code, locate_code, node_code, chosen_of, NodeFits, expression_weight, lvalue_weight, node_weight, HasAt, Local}
use Rattle.c_operations.specs.declared.operation.Pure.TheVariants as pures
use Rattle.c_checked.specs.declared.expression.Fixity.{Fixity}
use Rattle.c_checked.specs.declared.expression.Fixity.TheVariants.{Postfix, Prefix}
use Rattle.c_checked.specs.Expression as nodes
use Rattle.lowering_follows.proofs.Lemmas.{Part, at, conf, price, joins, more, then_value}
use Rattle.lowering_follows.proofs.NodeSettings.{NodeSetting}
use Rattle.lowering_follows.proofs.Places.{has_front, has_after}
use Rattle.lowering_follows.proofs.Lengths.{conversion_length, read_length, expression_length, locate_length}
use Rattle.lowering_follows.proofs.TaskClaims.{located, pushed, Operands}
use Rattle.lowering_follows.proofs.Turns.{top_get, get_front, under_get, next_get, top_put, combining, pure_turn, constant_turn}
use Rattle.lowering_follows.proofs.Operations.{WriteFits, located_length, push_put, write_runs}
use Rattle.lowering_follows.proofs.NodeParts.{Kp, Wv, From, sub_eval, sub_target, sub_read, sub_operate, turn, here_other, conversion_then}
use Rattle.lowering_follows.proofs.LvalueNodes.{keep_fits, assign_fits}
use Rattle.lowering_follows.proofs.Nodes.{NodeRuns}

module _ (setting : NodeSetting) (roomy : 4 ≤ setting.rate) where
  open setting use {program, linear, rate, body, n, code_place.{names, info, z, context, site}}

  abbrev G' : (pc : ℕ) (temps : List ℕ) (st : State) (store : Store) (t x s o : ℕ)
      (part : ℕ → State → Store → Part) → Outcome → Type 0
  G' = From setting roomy

  abbrev Km' : State → Store → Type 0
  Km' = Kp setting roomy

  abbrev At' : ℕ → List Instruction → Type 0
  At' pc is = HasAt linear site.body site.regions pc is

  pub compound_node : (p : Lvalue) (before : Conversion) (o : Operation) (e : Expression)
      (after : Conversion) (pc : ℕ) (temps : List ℕ) (st : State) (store : Store)
      → st.steps_left ≤ n → 1 + node_weight (nodes.CompoundAssign p before o e after) + body + 4
      ≤ rate
      → NodeFits program z.own info (nodes.CompoundAssign p before o e after)
      → At' pc (node_code names (nodes.CompoundAssign p before o e after) (length temps) pc)
      → Km' st store → st.held ≡ site.held → NodeRuns setting roomy
      (nodes.CompoundAssign p before o e after) pc temps st store
  compound_node p before o e after pc temps st store steps light fits has kept held =
      let d = length temps in
      let w = 1 + (1 + lvalue_weight p + expression_weight e) in
      let we = expression_weight e in
      let pc1 = pc + locate_size p in
      let pc2 = pc1 + read_size p in
      let pc3 = pc2 + conversion_size before in
      let pc4 = pc3 + expression_size e in
      let pc6 = pc4 + 1 + conversion_size after in
      let last_pc = pc + node_size (nodes.CompoundAssign p before o e after) in
      let cl = locate_code names p d pc in
      let tail : ℕ → List Instruction = λ old. conversion_code after old ++ write_code p d old d
      ∷ [] in
      let from_value : ℕ → ℕ → List Instruction = λ old place. expression_code names e (old + 1)
      place ++ (combine old o ∷ tail old) in
      let rest : ℕ → ℕ → List Instruction = λ old place. read_code p d old
      ++ (conversion_code before old ++ from_value old place) in
      let place = pc + (locate_size p + (read_size p + conversion_size before)) in
      let same_place : place ≡ pc3 = omega arith in
      let back = has_after linear site.body site.regions pc (locate_size p) cl
      (rest (d + address_count p) place) (locate_length names p d pc) has in
      let end : pc6 + 1 ≡ last_pc = omega arith in
      let part = pushed context site last_pc temps in
      sub_target setting roomy p pc temps st store 13 1 w w part
      (λ a st. with_value (read program (within program n) p a context st)
      (λ x st. with_value (within program n (Eval e) context st)
      (λ y st. with_value (operate program (within program n) o (converted before x) y context
      st) (λ u st. write program (within program n) p a (converted after u) context st))))
      steps (omega arith) (omega arith) fits.0
      (has_front linear site.body site.regions pc cl (rest (d + address_count p) place) has)
      kept held
      (λ a mid after_target steps kept held.
      let ts = located p temps a in
      let l = length ts in
      let h1 = subst (λ q. At' pc1 (rest l q)) same_place
      (subst (λ old. At' pc1 (rest old place)) (sym (located_length p temps a)) back) in
      let h2 = has_after linear site.body site.regions pc1 (read_size p) (read_code p d l)
      (conversion_code before l ++ from_value l pc3) (read_length p d l) h1 in
      let h3 = has_after linear site.body site.regions pc2 (conversion_size before)
      (conversion_code before l) (from_value l pc3) (conversion_length before l) h2 in
      let ce = expression_code names e (l + 1) pc3 in
      let h4 = has_after linear site.body site.regions pc3 (expression_size e) ce
      (combine l o ∷ tail l) (expression_length names e (l + 1) pc3) h3 in
      let h6 = has_after linear site.body site.regions (pc4 + 1) (conversion_size after)
      (conversion_code after l) (write_code p d l d ∷ []) (conversion_length after l) h4.2 in
      sub_read setting roomy p a d ts pc1 ts mid after_target 11
      (1 + (1 + lvalue_weight p)) w w part
      (λ x st. with_value (within program n (Eval e) context st)
      (λ y st. with_value (operate program (within program n) o (converted before x) y context
      st) (λ u st. write program (within program n) p a (converted after u) context st)))
      steps (omega arith) (omega arith) fits.0
      (has_front linear site.body site.regions pc1 (read_code p d l)
      (conversion_code before l ++ from_value l pc3) h1)
      (keep_fits setting roomy p a temps) kept held (λ x mid after_read steps kept held.
      let x' = converted before x in
      conversion_then setting roomy before x ts pc2 mid after_read 9 0 w w part
      (with_value (within program n (Eval e) context mid)
      (λ y st. with_value (operate program (within program n) o x' y context st)
      (λ u st. write program (within program n) p a (converted after u) context st)))
      (has_front linear site.body site.regions pc2 (conversion_code before l) (from_value l pc3)
      h2) (sub_eval setting roomy e pc3 (ts ++ x' ∷ []) mid after_read 9 0 w w part
      (λ y st. with_value (operate program (within program n) o x' y context st)
      (λ u st. write program (within program n) p a (converted after u) context st))
      steps (omega arith) (omega arith) fits.1
      (subst (λ j. At' pc3 (expression_code names e j pc3)) (sym (length_push ts x'))
      (has_front linear site.body site.regions pc3 ce (combine l o ∷ tail l) h3)) kept held
      (λ y mid after_value steps kept held.
      sub_operate setting roomy o x' y l l (l + 1) x' y (λ v. ts ++ v ∷ []) pc4
      ((ts ++ x' ∷ []) ++ y ∷ []) mid after_value 8 (0 + we) w w part
      (λ u st. write program (within program n) p a (converted after u) context st)
      fits.2 steps (omega arith) (omega arith) (h4.0, h4.1, tt) (combining ts x' y) (λ m. refl)
      kept held (λ u mid after_operation steps kept held.
      let u' = converted after u in
      conversion_then setting roomy after u ts (pc4 + 1) mid after_operation 6 0 w w part
      (write program (within program n) p a u' context mid)
      (has_front linear site.body site.regions (pc4 + 1) (conversion_code after l)
      (write_code p d l d ∷ []) h4.2)
      (subst (λ q. G' pc6 (ts ++ u' ∷ []) mid after_operation 6 0 w w
      (pushed context site q temps) (write program (within program n) p a u' context mid)) end
      (more linear rate _ mid (price 1 0 0 0) (price 6 0 w w)
      (Wv setting roomy (pushed context site (pc6 + 1) temps))
      (write program (within program n) p a u' context mid) (omega arith, omega arith, omega arith)
      (write_runs setting roomy p a u' d l d (λ v. temps ++ v ∷ []) pc6 (ts ++ u' ∷ []) mid
      after_operation 0 steps (omega arith) fits.0 h6
      (assign_fits setting roomy p a u' temps) kept held))))))))

  -- ---- `++` and `--`

  new_memory : (a x v : ℕ) (temps : List ℕ)
      → Operands (((temps ++ a ∷ []) ++ x ∷ []) ++ v ∷ []) (length ((temps ++ a ∷ []) ++ x ∷ []))
      (length temps) (length ((temps ++ a ∷ []) ++ x ∷ [])) a v
      (λ v. ((temps ++ a ∷ []) ++ x ∷ []) ++ v ∷ [])
  new_memory a x v temps = record {
    reads_first = get_front ((temps ++ a ∷ []) ++ x ∷ []) (v ∷ []) (length temps) a
        (under_get temps a x);
    reads_second = top_get ((temps ++ a ∷ []) ++ x ∷ []) v;
    writes = top_put ((temps ++ a ∷ []) ++ x ∷ []) (v ∷ []);
  }

  -- the value before the change, and the one after it, below which the address is
  new_fits : (p : Lvalue) (a x v : ℕ) (temps : List ℕ)
      → WriteFits setting roomy p ((located p temps a ++ x ∷ []) ++ v ∷ []) (length temps)
      (length (located p temps a ++ x ∷ [])) (length (located p temps a ++ x ∷ [])) a v
      (λ v. (located p temps a ++ x ∷ []) ++ v ∷ [])
  new_fits (Local y) a x v temps = (top_get (temps ++ x ∷ []) v, refl)
  new_fits (Global access g) a x v temps = new_memory a x v temps
  new_fits (Stacked access b o) a x v temps = new_memory a x v temps
  new_fits (Indirection access e) a x v temps = new_memory a x v temps
  new_fits (Element access e i) a x v temps = new_memory a x v temps

  all_memory : (a x new : ℕ) (temps : List ℕ) (v : ℕ)
      → with_temporary (((temps ++ a ∷ []) ++ x ∷ []) ++ new ∷ []) (length temps) v
      ≡ Some (temps ++ v ∷ [])
  all_memory a x new temps v =
      let e = ap (λ us. us ++ new ∷ []) (append_assoc temps (a ∷ []) (x ∷ []))
      ∙ append_assoc temps (a ∷ x ∷ []) (new ∷ []) in
      ap (λ us. with_temporary us (length temps) v) e ∙ top_put temps (a ∷ x ∷ new ∷ []) v

  all_put : (p : Lvalue) (a x new : ℕ) (temps : List ℕ) (v : ℕ)
      → with_temporary ((located p temps a ++ x ∷ []) ++ new ∷ []) (length temps) v
      ≡ Some (temps ++ v ∷ [])
  all_put (Local y) a x new temps v = (combining temps x new).writes v
  all_put (Global access g) a x new temps v = all_memory a x new temps v
  all_put (Stacked access b o) a x new temps v = all_memory a x new temps v
  all_put (Indirection access e) a x new temps v = all_memory a x new temps v
  all_put (Element access e i) a x new temps v = all_memory a x new temps v

  -- the one of two that is the value
  chosen_fits : (m : Fixity) (p : Lvalue) (a x new : ℕ) (temps : List ℕ)
      → Operands ((located p temps a ++ x ∷ []) ++ new ∷ []) (length temps)
      (chosen_of m (length (located p temps a))) (chosen_of m (length (located p temps a)))
      (incremented_value m x new) (incremented_value m x new) (λ v. temps ++ v ∷ [])
  chosen_fits Postfix p a x new temps = record {
    reads_first = under_get (located p temps a) x
        new;
    reads_second = under_get (located p temps a) x new;
    writes = all_put p a x new temps;
  }
  chosen_fits Prefix p a x new temps = record {
    reads_first = next_get (located p temps a) x new;
    reads_second = next_get (located p temps a) x new;
    writes = all_put p a x new temps;
  }

  pub increment_node : (m : Fixity) (p : Lvalue) (before : Conversion) (o : Operation)
      (amount : ℕ) (after : Conversion) (pc : ℕ) (temps : List ℕ) (st : State) (store : Store)
      → st.steps_left ≤ n → 1 + node_weight (nodes.Increment m p before o amount after) + body + 4
      ≤ rate
      → NodeFits program z.own info (nodes.Increment m p before o amount after)
      → At' pc (node_code names (nodes.Increment m p before o amount after) (length temps) pc)
      → Km' st store → st.held ≡ site.held → NodeRuns setting roomy
      (nodes.Increment m p before o amount after) pc temps st store
  increment_node m p before o amount after pc temps st store steps light fits has kept held =
      let d = length temps in
      let w = 1 + (1 + lvalue_weight p) in
      let pc1 = pc + locate_size p in
      let pc2 = pc1 + read_size p in
      let pc3 = pc2 + 1 in
      let pc4 = pc3 + conversion_size before in
      let pc5 = pc4 + 1 + 1 in
      let pc6 = pc5 + conversion_size after in
      let last_pc = pc + node_size (nodes.Increment m p before o amount after) in
      let cl = locate_code names p d pc in
      let tail : ℕ → ℕ → List Instruction = λ i old. conversion_code after i ++ write_code p d i i
      ∷ copy (Temporary d) (Temporary (chosen_of m old)) ∷ [] in
      let middle : ℕ → ℕ → List Instruction = λ i old. conversion_code before i
      ++ (constant (old + 2) amount ∷ combine i o ∷ tail i old) in
      let rest : ℕ → List Instruction = λ old. read_code p d old
      ++ (copy (Temporary (old + 1)) (Temporary old) ∷ middle (old + 1) old) in
      let back = has_after linear site.body site.regions pc (locate_size p) cl
      (rest (d + address_count p)) (locate_length names p d pc) has in
      let end : pc6 + 1 + 1 ≡ last_pc = omega arith in
      let part = pushed context site last_pc temps in
      sub_target setting roomy p pc temps st store 13 1 w w part
      (λ a st. with_value (read program (within program n) p a context st)
      (λ x st. with_value (operate program (within program n) o (converted before x) amount
      context st) (λ u st. with_value (write program (within program n) p a (converted after u)
      context st) (λ new st. Gives (Value (incremented_value m x new)) st))))
      steps (omega arith) (omega arith) fits.0
      (has_front linear site.body site.regions pc cl (rest (d + address_count p)) has) kept held
      (λ a mid after_target steps kept held.
      let ts = located p temps a in
      let l = length ts in
      let h1 = subst (λ old. At' pc1 (rest old)) (sym (located_length p temps a)) back in
      let h2 = has_after linear site.body site.regions pc1 (read_size p) (read_code p d l)
      (copy (Temporary (l + 1)) (Temporary l) ∷ middle (l + 1) l) (read_length p d l) h1 in
      sub_read setting roomy p a d ts pc1 ts mid after_target 11
      (1 + (1 + lvalue_weight p)) w w part
      (λ x st. with_value (operate program (within program n) o (converted before x) amount
      context st) (λ u st. with_value (write program (within program n) p a (converted after u)
      context st) (λ new st. Gives (Value (incremented_value m x new)) st)))
      steps (omega arith) (omega arith) fits.0
      (has_front linear site.body site.regions pc1 (read_code p d l)
      (copy (Temporary (l + 1)) (Temporary l) ∷ middle (l + 1) l) h1)
      (keep_fits setting roomy p a temps) kept held (λ x mid after_read steps kept held.
      let us = ts ++ x ∷ [] in
      let i = length us in
      let x' = converted before x in
      let copied : Operands us (l + 1) l l x x
      (λ v. us ++ v ∷ []) = record {
        reads_first = top_get ts x;
        reads_second = top_get ts x;
        writes = λ v. ap (λ j. with_temporary us j v) (sym (length_push ts x))
            ∙ push_put us v;
      } in
      let h3 = subst (λ j. At' pc3 (middle j l)) (sym (length_push ts x)) h2.2 in
      let h4 = has_after linear site.body site.regions pc3 (conversion_size before)
      (conversion_code before i) (constant (l + 2) amount ∷ combine i o ∷ tail i l)
      (conversion_length before i) h3 in
      let h6 = has_after linear site.body site.regions pc5 (conversion_size after)
      (conversion_code after i) (write_code p d i i
      ∷ copy (Temporary d) (Temporary (chosen_of m l)) ∷ []) (conversion_length after i)
      h4.2.2 in
      let two : l + 2 ≡ length (us ++ x' ∷ []) = let e = length_push ts x in
      let f = length_push us x' in omega arith in
      let operated = λ (u : ℕ) (st : State). with_value
      (write program (within program n) p a (converted after u) context st)
      (λ new st. Gives (Value (incremented_value m x new)) st) in
      turn setting roomy pc2 pc3 us (us ++ x ∷ []) mid after_read 10 0 w w part
      (with_value (operate program (within program n) o x' amount context mid) operated)
      (λ k. pure_turn linear rate context site pures.First (l + 1) l l x x (λ v. us ++ v ∷ []) pc2
      us mid after_read k refl (h2.0, h2.1, tt) copied)
      (conversion_then setting roomy before x us pc3 mid after_read 8 0 w w part
      (with_value (operate program (within program n) o x' amount context mid) operated)
      (has_front linear site.body site.regions pc3 (conversion_code before i)
      (constant (l + 2) amount ∷ combine i o ∷ tail i l) h3)
      (turn setting roomy pc4 (pc4 + 1) (us ++ x' ∷ [])
      ((us ++ x' ∷ []) ++ amount ∷ []) mid after_read 7 0 w
      w part (with_value (operate program (within program n) o x' amount context mid) operated)
      (λ k. constant_turn linear rate context site amount (l + 2) ((us ++ x' ∷ []) ++ amount ∷ [])
      pc4 (us ++ x' ∷ []) mid after_read k fits.1 (h4.0, h4.1, tt)
      (ap (λ j. with_temporary (us ++ x' ∷ []) j amount) two ∙ push_put (us ++ x' ∷ []) amount))
      (sub_operate setting roomy o x' amount i i (i + 1) x' amount (λ v. us ++ v ∷ []) (pc4 + 1)
      ((us ++ x' ∷ []) ++ amount ∷ []) mid after_read 6 0 w w part operated
      fits.2 steps (omega arith) (omega arith) (h4.2.0, h4.2.1, tt) (combining us x' amount)
      (λ m. refl) kept held (λ u mid after_operation steps kept held.
      let u' = converted after u in
      conversion_then setting roomy after u us pc5 mid after_operation 4 0 w w part (operated u mid)
      (has_front linear site.body site.regions pc5 (conversion_code after i)
      (write_code p d i i ∷ copy (Temporary d) (Temporary (chosen_of m l)) ∷ []) h4.2.2)
      (then_value linear rate _ (λ v st store. at
      (conf context site (pc6 + 1) (us ++ v ∷ []) st store))
      (Wv setting roomy part) mid (price 1 0 0 0) (price 3 0 w w) (price 4 0 w w)
      (write program (within program n) p a u' context mid)
      (λ new st. Gives (Value (incremented_value m x new)) st)
      (joins (omega arith) (omega arith) (omega arith) (omega arith))
      (write_runs setting roomy p a u' d i i (λ v. us ++ v ∷ []) pc6
      (us ++ u' ∷ []) mid after_operation
      0 steps (omega arith) fits.0 (h6.0, h6.1, tt) (new_fits p a x u' temps) kept held)
      (λ new mid after_write lower kept held.
      let v = incremented_value m x new in
      turn setting roomy (pc6 + 1) (pc6 + 1 + 1) (us ++ new ∷ [])
      (temps ++ v ∷ []) mid after_write 2 0 w w part (Gives (Value v) mid)
      (λ k. pure_turn linear rate context site pures.First d (chosen_of m l) (chosen_of m l) v v
      (λ v. temps ++ v ∷ []) (pc6 + 1) (us ++ new ∷ []) mid after_write k refl h6.2
      (chosen_fits m p a x new temps))
      (here_other setting roomy (pc6 + 1 + 1) last_pc temps v mid after_write 2 0 w w end
      (omega arith) kept held)))))))))
