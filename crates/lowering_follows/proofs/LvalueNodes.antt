-- Places in expressions: reads, addresses and assignments.
use Rattle.std.proofs.Common.{◌≡◌, ◌≤◌, ℕ, ◌+◌, List, [], ◌∷◌, ◌++◌, length, refl, sym, subst, arith}
use Rattle.c_checked.specs.Expression as nodes
use Rattle.lowering_follows.specs.Words.{Expression, Node, Lvalue, Global, Stacked, Indirection, Element, State, Outcome, with_value, Eval, Locate, read, write, within, Instruction, Store, address_count, read_size, expression_size, locate_size, expression_code, read_code, write_code, locate_code, node_code, LvalueFits, NodeFits, expression_weight, lvalue_weight, node_weight, HasAt, Local}
use Rattle.lowering_follows.proofs.Lemmas.{Part, at, conf, price, Claim, more}
use Rattle.lowering_follows.proofs.NodeSettings.{NodeSetting}
use Rattle.lowering_follows.proofs.Places.{has_front, has_after}
use Rattle.lowering_follows.proofs.Lengths.{expression_length, locate_length}
use Rattle.lowering_follows.proofs.TaskClaims.{located, pushed, with_address, Operands}
use Rattle.lowering_follows.proofs.Turns.{top_get, under_get, changing, combining}
use Rattle.lowering_follows.proofs.Operations.{ReadFits, WriteFits, located_length, push_put, write_runs, read_runs}
use Rattle.lowering_follows.proofs.NodeParts.{Kp, Wv, From, sub_eval, sub_target, sub_locate}
use Rattle.lowering_follows.proofs.Nodes.{NodeRuns}

module _ (setting : NodeSetting) (roomy : 4 ≤ setting.rate) where
  open setting use {program, linear, rate, body, n, ih, code_place, code_place.{names, info, z, context, site}}

  abbrev G : (pc : ℕ) (temps : List ℕ) (st : State) (store : Store) (t x s o : ℕ)
      (part : ℕ → State → Store → Part) → Outcome → Type 0
  G = From setting roomy

  abbrev Km : State → Store → Type 0
  Km = Kp setting roomy

  abbrev At : ℕ → List Instruction → Type 0
  At pc is = HasAt linear site.body site.regions pc is

  abbrev Node' : Node → ℕ → List ℕ → State → Store → Type 0
  Node' nd pc temps st store = NodeRuns setting roomy nd pc temps st store

  read_fits : (p : Lvalue) (a : ℕ) (temps : List ℕ)
      → ReadFits setting roomy p (located p temps a) (length temps) a temps
  read_fits (Local x) a temps = push_put temps
  read_fits (Global access g) a temps = changing temps a
  read_fits (Stacked access b o) a temps = changing temps a
  read_fits (Indirection access e) a temps = changing temps a
  read_fits (Element access e i) a temps = changing temps a

  -- what was located stays below what is read
  top_reads : (a : ℕ) (temps : List ℕ) → Operands (temps ++ a ∷ []) (length (temps ++ a ∷ []))
      (length temps) (length temps) a a (λ v. (temps ++ a ∷ []) ++ v ∷ [])
  top_reads a temps = record {
    reads_first = top_get temps a;
    reads_second = top_get temps a;
    writes = push_put (temps ++ a ∷ []);
  }

  pub keep_fits : (p : Lvalue) (a : ℕ) (temps : List ℕ)
      → ReadFits setting roomy p (located p temps a) (length temps) a (located p temps a)
  keep_fits (Local x) a temps = push_put temps
  keep_fits (Global access g) a temps = top_reads a temps
  keep_fits (Stacked access b o) a temps = top_reads a temps
  keep_fits (Indirection access e) a temps = top_reads a temps
  keep_fits (Element access e i) a temps = top_reads a temps

  -- a value after what was located goes there
  pub assign_fits : (p : Lvalue) (a v : ℕ) (temps : List ℕ)
      → WriteFits setting roomy p (located p temps a ++ v ∷ []) (length temps)
      (length (located p temps a))
      (length temps) a v (λ v. temps ++ v ∷ [])
  assign_fits (Local x) a v temps = (top_get temps v, refl)
  assign_fits (Global access g) a v temps =
      record {
        reads_first = under_get temps a v;
        reads_second = top_get (temps ++ a ∷ []) v;
        writes = (combining temps a v).writes;
      }
  assign_fits (Stacked access b o) a v temps =
      record {
        reads_first = under_get temps a v;
        reads_second = top_get (temps ++ a ∷ []) v;
        writes = (combining temps a v).writes;
      }
  assign_fits (Indirection access e) a v temps =
      record {
        reads_first = under_get temps a v;
        reads_second = top_get (temps ++ a ∷ []) v;
        writes = (combining temps a v).writes;
      }
  assign_fits (Element access e i) a v temps =
      record {
        reads_first = under_get temps a v;
        reads_second = top_get (temps ++ a ∷ []) v;
        writes = (combining temps a v).writes;
      }

  pub read_node : (p : Lvalue) (pc : ℕ) (temps : List ℕ) (st : State) (store : Store)
      → st.steps_left ≤ n → 1 + node_weight (nodes.Read p) + body + 4 ≤ rate
      → NodeFits program z.own info (nodes.Read p)
      → At pc (node_code names (nodes.Read p) (length temps) pc)
      → Km st store → st.held ≡ site.held → Node' (nodes.Read p) pc temps st store
  read_node p pc temps st store steps light fits has kept held =
      let d = length temps in
      let w = 1 + lvalue_weight p in
      let pc1 = pc + locate_size p in
      let cl = locate_code names p d pc in
      let cr = read_code p d d in
      let end : pc1 + read_size p ≡ pc + (locate_size p + read_size p) = omega arith in
      let part = pushed context site (pc + (locate_size p + read_size p)) temps in
      sub_locate setting roomy p pc temps st store 11 1 w w part
      (λ a st. read program (within program n) p a context st) steps (omega arith) (omega arith)
      fits (has_front linear site.body site.regions pc cl cr has) kept held
      (λ a mid after steps kept held.
      subst (λ q. G pc1 (located p temps a) mid after 11 w w w (pushed context site q temps)
      (read program (within program n) p a context mid)) end
      (more linear rate _ mid (price 2 w 0 w) (price 11 w w w)
      (Wv setting roomy (pushed context site (pc1 + read_size p) temps))
      (read program (within program n) p a context mid) (omega arith, omega arith, omega arith)
      (read_runs setting roomy p a d temps pc1 (located p temps a) mid after w steps
      (omega arith) fits (has_after linear site.body site.regions pc (locate_size p) cl cr
      (locate_length names p d pc) has) (read_fits p a temps) kept held)))

  address_of : (p : Lvalue) (pc : ℕ) (temps : List ℕ) (st : State) (store : Store)
      → st.steps_left ≤ n → 1 + node_weight (nodes.AddressOf p) + body + 4 ≤ rate
      → LvalueFits program z.own info p → At pc (locate_code names p (length temps) pc)
      → Km st store → st.held ≡ site.held → Claim linear rate
      (at (conf context site pc temps st store)) st
      (price 13 1 (1 + node_weight (nodes.AddressOf p)) (1 + node_weight (nodes.AddressOf p)))
      (Wv setting roomy (with_address context site (pc + locate_size p) p temps))
      (within program n (Locate p) context st)
  address_of p pc temps st store steps light fits has kept held =
      let w = 1 + (1 + lvalue_weight p) in
      more linear rate _ st (price 0 0 (1 + lvalue_weight p) (1 + lvalue_weight p))
      (price 13 1 w w) (Wv setting roomy (with_address context site (pc + locate_size p) p temps))
      (within program n (Locate p) context st) (omega arith, omega arith, omega arith)
      (ih.locate p code_place pc temps st store steps (omega arith) fits has kept held)

  pub address_node : (p : Lvalue) (pc : ℕ) (temps : List ℕ) (st : State) (store : Store)
      → st.steps_left ≤ n → 1 + node_weight (nodes.AddressOf p) + body + 4 ≤ rate
      → NodeFits program z.own info (nodes.AddressOf p)
      → At pc (node_code names (nodes.AddressOf p) (length temps) pc)
      → Km st store → st.held ≡ site.held → Node' (nodes.AddressOf p) pc temps st store
  address_node (Local x) pc temps st store steps light fits has kept held = let no = fits.1 in
      absurd (cc)
  address_node (Global access a) pc temps st store steps light fits has kept held = address_of
      (Global access a) pc temps st store steps light fits.0 has kept held
  address_node (Stacked access b o) pc temps st store steps light fits has kept held = address_of
      (Stacked access b o) pc temps st store steps light fits.0 has kept held
  address_node (Indirection access e) pc temps st store steps light fits has kept held =
      address_of (Indirection access e) pc temps st store steps light fits.0 has kept held
  address_node (Element access e i) pc temps st store steps light fits has kept held = address_of
      (Element access e i) pc temps st store steps light fits.0 has kept held

  pub assign_node : (p : Lvalue) (e : Expression) (pc : ℕ) (temps : List ℕ) (st : State)
      (store : Store) → st.steps_left ≤ n → 1 + node_weight (nodes.Assign p e) + body + 4 ≤ rate
      → NodeFits program z.own info (nodes.Assign p e)
      → At pc (node_code names (nodes.Assign p e) (length temps) pc)
      → Km st store → st.held ≡ site.held → Node' (nodes.Assign p e) pc temps st store
  assign_node p e pc temps st store steps light fits has kept held =
      let d = length temps in
      let w = 1 + (1 + lvalue_weight p + expression_weight e) in
      let debt = 1 + (1 + lvalue_weight p) in
      let pc1 = pc + locate_size p in
      let pc2 = pc1 + expression_size e in
      let cl = locate_code names p d pc in
      let rest : ℕ → List Instruction = λ old. expression_code names e old pc1
      ++ write_code p d old d ∷ [] in
      let back = has_after linear site.body site.regions pc (locate_size p) cl
      (rest (d + address_count p)) (locate_length names p d pc) has in
      let end : pc2 + 1 ≡ pc + (locate_size p + (expression_size e + 1)) = omega arith in
      let part = pushed context site (pc + (locate_size p + (expression_size e + 1))) temps in
      sub_target setting roomy p pc temps st store 13 1 w w part
      (λ a st. with_value (within program n (Eval e) context st)
      (λ v st. write program (within program n) p a v context st)) steps (omega arith)
      (omega arith) fits.0
      (has_front linear site.body site.regions pc cl (rest (d + address_count p)) has) kept held
      (λ a mid after steps kept held.
      let ts = located p temps a in
      let here = subst (λ old. At pc1 (rest old)) (sym (located_length p temps a)) back in
      let ce = expression_code names e (length ts) pc1 in
      let last = has_after linear site.body site.regions pc1 (expression_size e) ce
      (write_code p d (length ts) d ∷ []) (expression_length names e (length ts) pc1) here in
      sub_eval setting roomy e pc1 ts mid after 13 debt w w part
      (λ v st. write program (within program n) p a v context st) steps (omega arith)
      (omega arith) fits.1 (has_front linear site.body site.regions pc1 ce
      (write_code p d (length ts) d ∷ []) here) kept held (λ v mid after steps kept held.
      subst (λ q. G pc2 (ts ++ v ∷ []) mid after 13 (debt + expression_weight e) w w
      (pushed context site q temps) (write program (within program n) p a v context mid)) end
      (more linear rate _ mid (price 1 (debt + expression_weight e) 0
      (debt + expression_weight e)) (price 13 (debt + expression_weight e) w w)
      (Wv setting roomy (pushed context site (pc2 + 1) temps))
      (write program (within program n) p a v context mid) (omega arith, omega arith, omega arith)
      (write_runs setting roomy p a v d (length ts) d (λ v. temps ++ v ∷ []) pc2
      (ts ++ v ∷ []) mid after
      (debt + expression_weight e) steps (omega arith) fits.0 last (assign_fits p a v temps)
      kept held))))
