-- Constants, codes, flags and fields in expressions.
use Rattle.std.proofs.Common.{◌≡◌, ◌<◌, ◌≤◌, ℕ, suc, ◌+◌, ◌^◌, List, [], ◌∷◌, ◌++◌, length, refl, ap, sym, subst, ◌∙◌, arith}
use Rattle.std.specs.Prelude.{Option, Some, None}
use Rattle.lowering_follows.specs.Words.{Field, Size, Node, State, Value, Outcome, Gives, of_test, field_of, Temporary, Instruction, Information, Store, with_temporary, exec, ExceptionSource, NoException, OfFilter, KeptIn, constant, copy, node_code, code_code, abnormal_code, NodeFits, HasAt, stacked_address}
use Rattle.c_operations.specs.declared.field.Field.TheVariants as fields
use Rattle.c_checked.specs.Expression as nodes
use Rattle.linear_code.specs.declared.slot.Slot.TheVariants.{Local as LocalSlot}
use Rattle.linear_machine.specs.Frames as machine
use Rattle.lowering_follows.proofs.Lemmas.{Part, conf, price, more}
use Rattle.lowering_follows.proofs.NodeSettings.{NodeSetting}
use Rattle.lowering_follows.proofs.Stores.{everywhere}
use Rattle.lowering_follows.proofs.Environments.{CodeBound, FlagBound, IsNoted}
use Rattle.lowering_follows.proofs.TaskClaims.{pushed}
use Rattle.lowering_follows.proofs.Turns.{constant_turn, fetch_local_turn, information_turn}
use Rattle.lowering_follows.proofs.Operations.{push_put, stacked_runs}
use Rattle.lowering_follows.proofs.NodeParts.{Kp, Wv, From, turn, here_value}
use Rattle.lowering_follows.proofs.Nodes.{NodeRuns}

module _ (setting : NodeSetting) (roomy : 4 ≤ setting.rate) where
  open setting use {program, linear, rate, code_place.{names, info, z, context, site, base, around}}

  abbrev G : (pc : ℕ) (temps : List ℕ) (st : State) (store : Store) (t x s o : ℕ)
      (part : ℕ → State → Store → Part) → Outcome → Type 0
  G = From setting roomy

  abbrev Km : State → Store → Type 0
  Km = Kp setting roomy

  abbrev At : ℕ → List Instruction → Type 0
  At pc is = HasAt linear site.body site.regions pc is

  abbrev Node' : Node → ℕ → List ℕ → State → Store → Type 0
  Node' nd pc temps st store = NodeRuns setting roomy nd pc temps st store

  -- a number that one instruction gives
  leaf_runs : (v pc : ℕ) (temps : List ℕ) (st : State) (store : Store) → Km st store
      → st.held ≡ site.held
      → ((k : ℕ) → exec linear (suc k) (conf context site pc temps st store)
      ≡ exec linear k (conf context site (pc + 1) (temps ++ v ∷ []) st store))
      → G pc temps st store 13 1 1 1 (pushed context site (pc + 1) temps) (Gives (Value v) st)
  leaf_runs v pc temps st store kept held h =
      turn setting roomy pc (pc + 1) temps (temps ++ v ∷ []) st store 12 1 1 1
      (pushed context site (pc + 1) temps) (Gives (Value v) st) h
      (here_value setting roomy (pc + 1) temps v st store 12 1 1 1 (omega arith) kept held)

  constant_is : (v v' pc : ℕ) (temps : List ℕ) (st : State) (store : Store) → v ≡ v' → v < 2 ^ 64
      → At pc (constant (length temps) v ∷ []) → Km st store → st.held ≡ site.held
      → G pc temps st store 13 1 1 1 (pushed context site (pc + 1) temps) (Gives (Value v') st)
  constant_is v v' pc temps st store e small has kept held =
      subst (λ w. G pc temps st store 13 1 1 1 (pushed context site (pc + 1) temps)
      (Gives (Value w) st)) e
      (leaf_runs v pc temps st store kept held
      (λ k. constant_turn linear rate context site v (length temps) (temps ++ v ∷ []) pc temps
      st store k small has (push_put temps v)))

  -- a slot that has kept its number
  noted_runs : (x v pc : ℕ) (temps : List ℕ) (st : State) (store : Store)
      → IsNoted everywhere z context.activation base x v
      → At pc (copy (Temporary (length temps)) (LocalSlot x) ∷ []) → Km st store
      → st.held ≡ site.held
      → G pc temps st store 13 1 1 1 (pushed context site (pc + 1) temps) (Gives (Value v) st)
  noted_runs x v pc temps st store b has kept held =
      let same : machine.local_of store context.activation x
      ≡ v = kept.1 context.activation z around.shape x b.0 tt ∙ b.2 in
      leaf_runs v pc temps st store kept held
      (λ k. fetch_local_turn linear rate context site x (length temps) (temps ++ v ∷ []) pc temps
      st store k has (ap (with_temporary temps (length temps)) same ∙ push_put temps v))

  code_runs : (source : ExceptionSource) (pc : ℕ) (temps : List ℕ) (st : State) (store : Store)
      → CodeBound everywhere z source context site.exception base
      → At pc (code_code source (length temps) ∷ []) → Km st store → st.held ≡ site.held
      → G pc temps st store 13 1 1 1 (pushed context site (pc + 1) temps)
      (Gives (Value context.exception.code) st)
  code_runs NoException pc temps st store b has kept held = constant_is 0 context.exception.code
      pc temps st store (sym b) (omega arith) has kept held
  code_runs OfFilter pc temps st store b has kept held =
      leaf_runs context.exception.code pc temps st store kept held
      (λ k. information_turn linear rate context site fields.ExceptionCode (length temps)
      (temps ++ context.exception.code ∷ []) pc temps st store k has
      (ap (λ e. with_temporary temps (length temps) e.code) b
      ∙ push_put temps context.exception.code))
  code_runs (KeptIn x) pc temps st store b has kept held = noted_runs x context.exception.code pc
      temps st store b has kept held

  flag_runs : (source : Option ℕ) (pc : ℕ) (temps : List ℕ) (st : State) (store : Store)
      → FlagBound everywhere z source context.activation context.abnormal base
      → At pc (abnormal_code source (length temps) ∷ []) → Km st store → st.held ≡ site.held
      → G pc temps st store 13 1 1 1 (pushed context site (pc + 1) temps)
      (Gives (Value (of_test context.abnormal)) st)
  flag_runs None pc temps st store b has kept held = constant_is 0 (of_test context.abnormal) pc
      temps st store (sym (ap of_test b)) (omega arith) has kept held
  flag_runs (Some x) pc temps st store b has kept held = noted_runs x (of_test context.abnormal)
      pc temps st store b has kept held

  field_runs : (f : Field) (pc : ℕ) (temps : List ℕ) (st : State) (store : Store)
      → site.exception ≡ context.exception → At pc (Information (Temporary (length temps)) f ∷ [])
      → Km st store → st.held ≡ site.held
      → G pc temps st store 13 1 1 1 (pushed context site (pc + 1) temps)
      (Gives (Value (field_of f context.exception)) st)
  field_runs f pc temps st store e has kept held =
      let v = field_of f context.exception in
      leaf_runs v pc temps st store kept held
      (λ k. information_turn linear rate context site f (length temps) (temps ++ v ∷ []) pc temps
      st store k has (ap (λ e. with_temporary temps (length temps) (field_of f e)) e
      ∙ push_put temps v))

  pub constant_node : (size : Size) (v pc : ℕ) (temps : List ℕ) (st : State) (store : Store)
      → NodeFits program z.own info (nodes.Constant size v)
      → At pc (node_code names (nodes.Constant size v) (length temps) pc) → Km st store
      → st.held ≡ site.held
      → Node' (nodes.Constant size v) pc temps st store
  constant_node size v pc temps st store fits has kept held = constant_is v v pc temps st store
      refl fits has kept held

  -- the address of a local array
  pub array_node : (b offset pc : ℕ) (temps : List ℕ) (st : State) (store : Store)
      → NodeFits program z.own info (nodes.StackedArray b offset)
      → At pc (node_code names (nodes.StackedArray b offset) (length temps) pc) → Km st store
      → st.held ≡ site.held
      → Node' (nodes.StackedArray b offset) pc temps st store
  array_node b offset pc temps st store fits has kept held =
      more linear rate _ st (price 2 0 0 0) (price 13 1 1 1)
      (Wv setting roomy (pushed context site (pc + 2) temps))
      (Gives (Value (stacked_address b offset context st)) st)
      (omega arith, omega arith, omega arith)
      (stacked_runs setting roomy b offset pc temps st store fits has kept held)

  pub code_node : (pc : ℕ) (temps : List ℕ) (st : State) (store : Store)
      → At pc (node_code names nodes.ExceptionCode (length temps) pc) → Km st store
      → st.held ≡ site.held → Node' nodes.ExceptionCode pc temps st store
  code_node pc temps st store has kept held = code_runs names.exception pc temps st store
      around.code has kept held

  pub flag_node : (pc : ℕ) (temps : List ℕ) (st : State) (store : Store)
      → At pc (node_code names nodes.AbnormalTermination (length temps) pc) → Km st store
      → st.held ≡ site.held → Node' nodes.AbnormalTermination pc temps st store
  flag_node pc temps st store has kept held = flag_runs names.abnormal pc temps st store
      around.flag has kept held

  pub field_node : (f : Field) (pc : ℕ) (temps : List ℕ) (st : State) (store : Store)
      → NodeFits program z.own info (nodes.Information f)
      → At pc (node_code names (nodes.Information f) (length temps) pc) → Km st store
      → st.held ≡ site.held
      → Node' (nodes.Information f) pc temps st store
  field_node f pc temps st store fits has kept held = field_runs f pc temps st store
      (around.informed fits) has kept held
