-- Where an expression changes one place at its end, the machine's steps lead to its value.
use Rattle.std.proofs.Common.{◌≡◌, ℕ, suc, List, ◌∷◌, refl, sym, ap, subst}
use Rattle.std.specs.Prelude.{Bool, true, Option, Some, None}
use Rattle.std.proofs.lemmas.Option.{same_Some, none-some}
use Rattle.flat_memory.specs.Memory.{Memory}
use Rattle.c_operations.specs.declared.operation.Operation.{Operation}
use Rattle.c_operations.specs.declared.operation.Operation.TheVariants as operations
use Rattle.c_operations.specs.Performed as performing
use Rattle.c_checked.specs.declared.expression.Access.{Access}
use Rattle.c_checked.specs.declared.expression.Conversion.{Conversion}
use Rattle.c_checked.specs.declared.expression.Fixity.{Fixity}
use Rattle.c_checked.specs.Expression as nodes
use Rattle.c_checked.specs.Expression.{Expression, On, Node, Lvalue, Local, Global, Stacked, Indirection}
use Rattle.c_checked.specs.Expression.{Element}
use Rattle.c_checked.specs.Program.{Program}
use Rattle.source_meaning.specs.Source.{is_reserved}
use Rattle.source_meaning.specs.State.{State, Value}
use Rattle.source_meaning.specs.Expressions.{converted, incremented_value}
use Rattle.source_meaning.specs.Tasks as tasks
use Rattle.source_meaning.specs.Tasks.{Handler}
use Rattle.source_machine.specs.Frames as frames
use Rattle.source_machine.specs.Frames.{Place, ContinuationFrame, Operand, Assignment, Next, Give, Start}
use Rattle.source_machine.specs.Machine as model
use Rattle.source_machine.specs.Machine.{Machine}
use Rattle.source_operations.specs.Outcomes.{computed}
use Rattle.source_values.specs.Leading.{Leads}
use Rattle.source_values.specs.Direct as spec
use Rattle.source_values.specs.Direct.{then_with, with_left, Change}
use Rattle.source_values.proofs.Steps.{leads_on, leads_then}
use Rattle.source_values.proofs.ValueSteps.{counted_from, then_from, left_from, at, here, value_leads}
use Rattle.source_values.proofs.ValueSteps.{address_leads, read_leads, computed_leads}

old_from : (a : ℕ) (o : Option ℕ) (n : ℕ) (r : (ℕ × ℕ) × ℕ) → spec.with_old a o n ≡ Some r
    → (x : ℕ) × (o ≡ Some x) × (((a, x), n) ≡ r)
old_from a None n r e = absurd (none-some r e)
old_from a (Some x) n r e = (x, refl, same_Some _ _ e)

fetched_from : {A : Type 0} (k : spec.Surroundings) (l : Lvalue) (n : ℕ)
    (go : ℕ → ℕ → ℕ → Option A) (r : A)
    → spec.then_fetched (spec.fetched k l n) go ≡ Some r
    → (m : ℕ) × (n ≡ suc m) × (a : ℕ × ℕ) × (spec.address k l m ≡ Some a) × (x : ℕ)
    × (spec.read k l a.0 ≡ Some x) × (go a.0 x a.1 ≡ Some r)
fetched_from k l n go r e =
    let f = some_fetched (spec.fetched k l n) go r e in
    let next = λ (a left : ℕ). spec.with_old a (spec.read k l a) left in
    let c = counted_from n (λ left. then_with (spec.address k l left) next) f.0 f.1 in
    let a = then_from (spec.address k l c.0) next f.0 c.2 in
    let x = old_from a.0.0 (spec.read k l a.0.0) a.0.1 f.0 a.2 in (
      c.0,
      c.1,
      a.0,
      a.1,
      x.0,
      x.1,
      subst (λ (y : (ℕ × ℕ) × ℕ). go y.0.0 y.0.1 y.1 ≡ Some r)
          (sym x.2) f.2,
    )
  where
    some_fetched : {A : Type 0} (q : Option ((ℕ × ℕ) × ℕ)) (go : ℕ → ℕ → ℕ → Option A) (r : A)
        → spec.then_fetched q go ≡ Some r
        → (x : (ℕ × ℕ) × ℕ) × (q ≡ Some x) × (go x.0.0 x.0.1 x.1 ≡ Some r)
    some_fetched None go r e = absurd (none-some r e)
    some_fetched (Some x) go r e = (x, refl, e)

abbrev change_made : Lvalue → ℕ → ℕ → ℕ → ℕ → Change
change_made l a written value left =
    record { target = l; address = a; written = written; value = value; left = left }

module _ (program : Program) (st : State) (p : Place) (hs : List Handler) where
  abbrev reserved : ℕ → Bool
  reserved = is_reserved program.globals

  abbrev now : List ContinuationFrame → ℕ → Next → Machine
  now = at program st p hs

  abbrev then' : State → List ContinuationFrame → ℕ → Next → Machine
  then' st' = at program st' p hs

  abbrev k : spec.Surroundings
  k = here program st p hs

  -- ---- a place is written to

  stored_leads : (st' : State) (o : Operation) (a v : ℕ) (fs : List ContinuationFrame) (n : ℕ)
      (x y : Option ℕ) (memory : Memory)
      → spec.stored st (performing.unless_reserved x (performing.unless_refused true y
      (performing.Gives v memory))) ≡ Some st'
      → model.operated (now fs n (frames.Operate o a v p)) o a v p
      (performing.unless_reserved x (performing.unless_refused true y
      (performing.Gives v memory))) ≡ then' st' fs n (Give (Value v))
  stored_leads st' o a v fs n None None memory e =
      ap (λ st. then' st fs n (Give (Value v))) (same_Some _ _ e)
  stored_leads st' o a v fs n None (Some y) memory e = absurd (none-some st' e)
  stored_leads st' o a v fs n (Some x) y memory e = absurd (none-some st' e)

  access_leads : (st' : State) (access : Access) (a v : ℕ) (fs : List ContinuationFrame) (n : ℕ)
      → spec.stored st (performing.performed reserved (operations.Store access.width) a v st.memory)
      ≡ Some st'
      → Leads program (now fs n (frames.Operate (operations.Store access.width) a v p))
      (then' st' fs n (Give (Value v)))
  access_leads st' access a v fs n e = record {
    steps = 1;
    is = stored_leads st' (operations.Store access.width) a v fs n _ _ _ e;
  }

  written_leads : (st' : State) (l : Lvalue) (a v : ℕ) (fs : List ContinuationFrame) (n : ℕ)
      → spec.written reserved st p l a v ≡ Some st'
      → Leads program (now fs n (frames.Put l a v p)) (then' st' fs n (Give (Value v)))
  written_leads st' (Local x) a v fs n e =
      record { steps = 1; is = ap (λ st. then' st fs n (Give (Value v))) (same_Some _ _ e) }
  written_leads st' (Global access _) a v fs n e =
      leads_on program 1 _ _ _ refl (access_leads st' access a v fs n e)
  written_leads st' (Stacked access _ _) a v fs n e =
      leads_on program 1 _ _ _ refl (access_leads st' access a v fs n e)
  written_leads st' (Indirection access _) a v fs n e =
      leads_on program 1 _ _ _ refl (access_leads st' access a v fs n e)
  written_leads st' (Element access _ _) a v fs n e =
      leads_on program 1 _ _ _ refl (access_leads st' access a v fs n e)

  -- ---- expressions

  abbrev Changes : State → Node → List ContinuationFrame → ℕ → Change → Type 0
  Changes st' x fs n c =
      spec.written reserved st p c.target c.address c.written ≡ Some st'
      → Leads program (now fs n (frames.Evaluate x p)) (then' st' fs c.left (Give (Value c.value)))

  assign_leads : (st' : State) (l : Lvalue) (f : Expression) (fs : List ContinuationFrame) (n : ℕ)
      (c : Change) → spec.change k (nodes.Assign l f) n ≡ Some c
      → Changes st' (nodes.Assign l f) fs n c
  assign_leads st' l f fs n c e =
      let go = λ (a left : ℕ). then_with (spec.value k f left)
      (λ v left. Some (change_made l a v v left)) in
      let b = counted_from n (λ left. then_with (spec.address k l left) go) c e in
      let a = then_from (spec.address k l b.0) go c b.2 in
      let v = then_from (spec.value k f a.0.1) (λ v left. Some (change_made l a.0.0 v v left)) c a.2
      in
      let first = Assignment (frames.EvaluatesAssigned l f p) ∷ fs in
      let second = Assignment (frames.Assigns l a.0.0 p) ∷ fs in
      subst (λ (c : Change). Changes st' (nodes.Assign l f) fs n c) (same_Some _ _ v.2) (λ is.
      subst (λ (n : ℕ). Leads program (now fs n (frames.Evaluate (nodes.Assign l f) p))
      (then' st' fs v.0.1 (Give (Value v.0.0)))) (sym b.1)
      (leads_on program 3 _ (now first b.0 (frames.Find l p)) _ refl
      (leads_then program _ _ _ (address_leads program st p hs l first b.0 a.0 a.1)
      (leads_on program 1 _ _ _ refl
      (leads_then program _ _ _ (value_leads program st p hs f second a.0.1 v.0 v.1)
      (leads_on program 1 _ _ _ refl (written_leads st' l a.0.0 v.0.0 fs v.0.1 is)))))))

  compound_leads : (st' : State) (l : Lvalue) (before : Conversion) (o : Operation) (f : Expression)
      (to : Conversion) (fs : List ContinuationFrame) (n : ℕ) (c : Change)
      → spec.change k (nodes.CompoundAssign l before o f to) n ≡ Some c
      → Changes st' (nodes.CompoundAssign l before o f to) fs n c
  compound_leads st' l before o f to fs n c e =
      let x = nodes.CompoundAssign l before o f to in
      let made = λ (a : ℕ) (z left : ℕ). Some (change_made l a (converted to z)
      (converted to z) left) in
      let of : frames.Compound = record {
        target = l;
        before = before;
        operation = o;
        value = f;
        after = to;
      } in
      let a = fetched_from k l n (λ a x left.
      then_with (spec.operated k o (spec.value k f left) (converted before x)) (made a)) c e in
      let old = a.4 in
      let z = then_from (spec.operated k o (spec.value k f a.2.1) (converted before old))
      (made a.2.0) c a.6 in
      let y = then_from (spec.value k f a.2.1)
      (λ y left. with_left (computed reserved o (converted before old) y st.memory) left) z.0 z.1 in
      let w = left_from (computed reserved o (converted before old) y.0.0 st.memory) y.0.1 z.0
      y.2 in
      let fs1 = Assignment (frames.ReadsCompound of p) ∷ fs in
      let fs2 = Assignment (frames.EvaluatesCompound of a.2.0 p) ∷ fs in
      let fs3 = Assignment (frames.OperatesCompound of a.2.0 old p) ∷ fs in
      let fs4 = Assignment (frames.AssignsCompound of a.2.0 p) ∷ fs in
      subst (λ (c : Change). Changes st' x fs n c) (same_Some _ _ z.2)
      (subst (λ (r : ℕ × ℕ). Changes st' x fs n (change_made l a.2.0 (converted to r.0)
      (converted to r.0) r.1)) w.2 (λ is.
      subst (λ (n : ℕ). Leads program (now fs n (frames.Evaluate x p))
      (then' st' fs y.0.1 (Give (Value (converted to w.0))))) (sym a.1)
      (leads_on program 3 _ (now fs1 a.0 (frames.Find l p)) _ refl
      (leads_then program _ _ _ (address_leads program st p hs l fs1 a.0 a.2 a.3)
      (leads_on program 1 _ _ _ refl
      (leads_then program _ _ _
      (read_leads program st p hs l a.2.0 fs2 a.2.1 old (old, a.2.1) a.5 refl)
      (leads_on program 1 _ _ _ refl
      (leads_then program _ _ _ (value_leads program st p hs f fs3 a.2.1 y.0 y.1)
      (leads_on program 1 _
      (now fs4 y.0.1 (frames.Operate o (converted before old) y.0.0 p)) _ refl
      (leads_on program 1 _ (now fs4 y.0.1 (Give (Value w.0))) _
      (computed_leads program st p hs o (converted before old) y.0.0 fs4 y.0.1 w.0 w.1)
      (leads_on program 1 _ _ _ refl
      (written_leads st' l a.2.0 (converted to w.0) fs y.0.1 is))))))))))))

  increment_leads : (st' : State) (m : Fixity) (l : Lvalue) (before : Conversion) (o : Operation)
      (by : ℕ) (to : Conversion) (fs : List ContinuationFrame) (n : ℕ) (c : Change)
      → spec.change k (nodes.Increment m l before o by to) n ≡ Some c
      → Changes st' (nodes.Increment m l before o by to) fs n c
  increment_leads st' m l before o by to fs n c e =
      let x = nodes.Increment m l before o by to in
      let made = λ (a old : ℕ) (z left : ℕ). Some (change_made l a (converted to z)
      (incremented_value m old (converted to z)) left) in
      let of : frames.Stepped = record {
        fixity = m;
        target = l;
        before = before;
        operation = o;
        amount = by;
        after = to;
      } in
      let a = fetched_from k l n (λ a x left. then_with
      (with_left (computed reserved o (converted before x) by st.memory) left) (made a x)) c e in
      let old = a.4 in
      let z = then_from (with_left (computed reserved o (converted before old) by st.memory) a.2.1)
      (made a.2.0 old) c a.6 in
      let w = left_from (computed reserved o (converted before old) by st.memory) a.2.1 z.0 z.1 in
      let fs1 = Assignment (frames.ReadsStepped of p) ∷ fs in
      let fs2 = Assignment (frames.OperatesStepped of a.2.0 p) ∷ fs in
      let fs3 = Assignment (frames.AssignsStepped of a.2.0 old p) ∷ fs in
      let fs4 = Assignment (frames.GivesStepped m old) ∷ fs in
      subst (λ (c : Change). Changes st' x fs n c) (same_Some _ _ z.2)
      (subst (λ (r : ℕ × ℕ). Changes st' x fs n (change_made l a.2.0 (converted to r.0)
      (incremented_value m old (converted to r.0)) r.1)) w.2 (λ is.
      subst (λ (n : ℕ). Leads program (now fs n (frames.Evaluate x p))
      (then' st' fs a.2.1 (Give (Value (incremented_value m old (converted to w.0))))))
      (sym a.1)
      (leads_on program 3 _ (now fs1 a.0 (frames.Find l p)) _ refl
      (leads_then program _ _ _ (address_leads program st p hs l fs1 a.0 a.2 a.3)
      (leads_on program 1 _ _ _ refl
      (leads_then program _ _ _
      (read_leads program st p hs l a.2.0 fs2 a.2.1 old (old, a.2.1) a.5 refl)
      (leads_on program 1 _
      (now fs3 a.2.1 (frames.Operate o (converted before old) by p)) _ refl
      (leads_on program 1 _ (now fs3 a.2.1 (Give (Value w.0))) _
      (computed_leads program st p hs o (converted before old) by fs3 a.2.1 w.0 w.1)
      (leads_on program 1 _ _ _ refl
      (leads_then program _ _ _
      (written_leads st' l a.2.0 (converted to w.0) fs4 a.2.1 is)
      (record { steps = 1; is = refl })))))))))))

  change_leads : (st' : State) (x : Node) (fs : List ContinuationFrame) (n : ℕ) (c : Change)
      → spec.change k x n ≡ Some c → Changes st' x fs n c
  change_leads st' (nodes.Assign l f) fs n c e = assign_leads st' l f fs n c e
  change_leads st' (nodes.CompoundAssign l before o f to) fs n c e =
      compound_leads st' l before o f to fs n c e
  change_leads st' (nodes.Increment m l before o by to) fs n c e =
      increment_leads st' m l before o by to fs n c e
  change_leads st' x fs n c e = absurd (none-some c e)

  -- with its step and its conversion
  pub changed_leads : (st' : State) (x : Node) (to : Conversion) (fs : List ContinuationFrame)
      (n : ℕ) (c : Change) → spec.change k x n ≡ Some c
      → spec.written reserved st p c.target c.address c.written ≡ Some st'
      → Leads program (now fs (suc n) (Start (tasks.Eval (On x to)) p))
      (then' st' fs c.left (Give (Value (converted to c.value))))
  changed_leads st' x to fs n c e is =
      let fs' = Operand (frames.Converts to) ∷ fs in
      leads_on program 2 _ (now fs' n (frames.Evaluate x p)) _ refl
      (leads_then program _ _ _ (change_leads st' x fs' n c e is)
      (record { steps = 1; is = refl }))
