-- Where an expression has a value at once, the machine's steps lead to it.
use Rattle.std.proofs.Common.{◌≡◌, ℕ, zero, suc, ◌-◌, List, ◌∷◌, refl, sym, ap, ◌∙◌, subst, arith}
use Rattle.std.specs.Prelude.{Bool, true, false, not, nat_eq, slice_index, Option, Some, None, option_map}
use Rattle.std.specs.Prelude.{Result, Ok, Err, ℤ}
use Rattle.std.proofs.lemmas.Bool.{ne_eqb}
use Rattle.std.proofs.lemmas.Option.{same_Some, none-some}
use Rattle.flat_memory.specs.Memory.{Memory}
use Rattle.c_operations.specs.declared.operation.Operation.{Operation}
use Rattle.c_operations.specs.declared.operation.Operation.TheVariants as operations
use Rattle.c_operations.specs.declared.operation.Pure.TheVariants.{Add}
use Rattle.c_operations.specs.declared.operation.Size.TheVariants.{Long}
use Rattle.c_operations.specs.declared.operation.Signedness.{Signedness}
use Rattle.c_operations.specs.declared.operation.Signedness.TheVariants.{Unsigned, Signed}
use Rattle.seh_num.specs.declared.width.Width.{Width}
use Rattle.seh_num.specs.declared.division.DivFault.{DivFault}
use Rattle.seh_num.specs.declared.division.DivFault.TheVariants as faults
use Rattle.c_operations.specs.Numbers.{result_of, width}
use Rattle.c_operations.specs.Performed as performing
use Rattle.c_operations.specs.Performed.{performed}
use Rattle.c_checked.specs.declared.expression.Access.{Access}
use Rattle.c_checked.specs.Expression as nodes
use Rattle.c_checked.specs.Expression.{Expression, On, Node, Lvalue, Local, Global, Stacked}
use Rattle.c_checked.specs.Expression.{Indirection, Element}
use Rattle.c_checked.specs.Program.{Program}
use Rattle.source_meaning.specs.Source.{is_reserved}
use Rattle.source_meaning.specs.State.{State, Value}
use Rattle.source_meaning.specs.Expressions.{converted, value_of, of_test, apart, field_of}
use Rattle.source_meaning.specs.Tasks as tasks
use Rattle.source_meaning.specs.Tasks.{Handler}
use Rattle.source_machine.specs.Frames as frames
use Rattle.source_machine.specs.Frames.{Place, ContinuationFrame, Operand, Assignment, Next, Give, Start}
use Rattle.source_machine.specs.Frames.{Then}
use Rattle.source_machine.specs.Plans as plans
use Rattle.source_machine.specs.Plans.{chosen}
use Rattle.source_machine.specs.Machine.{Machine, step, follow, operated}
use Rattle.source_machine.specs.Runs.{after}
use Rattle.source_operations.specs.Outcomes.{computed, number_of}
use Rattle.source_values.specs.Leading.{Leads}
use Rattle.source_values.specs.Direct as spec
use Rattle.source_values.specs.Direct.{Surroundings, counted, then_with, with_left}
use Rattle.source_values.specs.Surrounding.{around}
use Rattle.source_values.proofs.Steps.{leads_on, leads_then}

-- ---- what an answer comes from

pub counted_from : {A : Type 0} (n : ℕ) (go : ℕ → Option A) (r : A)
    → counted (nat_eq n 0) n go ≡ Some r → (m : ℕ) × (n ≡ suc m) × (go m ≡ Some r)
counted_from zero go r e = absurd (none-some r e)
counted_from (suc m) go r e =
    let more : nat_eq (suc m) 0 ≡ false = ne_eqb (suc m) 0 (λ (z : suc m ≡ 0). omega (arith, z)) in
    let less : suc m - 1 ≡ m = omega arith in
    let at : counted false (suc m) go ≡ Some r =
    subst (λ (b : Bool). counted b (suc m) go ≡ Some r) more e in
    (m, refl, subst (λ (k : ℕ). go k ≡ Some r) less at)

pub then_from : {A : Type 0} (q : Option (ℕ × ℕ)) (go : ℕ → ℕ → Option A) (r : A)
    → then_with q go ≡ Some r → (x : ℕ × ℕ) × (q ≡ Some x) × (go x.0 x.1 ≡ Some r)
then_from None go r e = absurd (none-some r e)
then_from (Some x) go r e = (x, refl, e)

pub left_from : (o : Option ℕ) (n : ℕ) (r : ℕ × ℕ) → with_left o n ≡ Some r
    → (v : ℕ) × (o ≡ Some v) × ((v, n) ≡ r)
left_from None n r e = absurd (none-some r e)
left_from (Some v) n r e = (v, refl, same_Some _ _ e)

map_from : (f : ℕ → ℕ) (o : Option ℕ) (v : ℕ) → option_map f o ≡ Some v
    → (x : ℕ) × (o ≡ Some x) × (f x ≡ v)
map_from f None v e = absurd (none-some v e)
map_from f (Some x) v e = (x, refl, same_Some _ _ e)

-- ---- an operation that changes nothing

number_from : (number : ℕ) (m : Memory) (v : ℕ) → number_of (performing.Gives number m) ≡ Some v
    → performing.Gives number m ≡ performing.Gives v m
number_from number m v e = ap (λ w. performing.Gives w m) (same_Some _ _ e)

fault_gives : (x : DivFault) (m : Memory) (v : ℕ) → number_of (performing.fault_of x) ≡ Some v
    → performing.fault_of x ≡ performing.Gives v m
fault_gives faults.Zero m v e = absurd (none-some v e)
fault_gives faults.Overflow m v e = absurd (none-some v e)

signed_gives : (part : ℤ × ℤ → ℤ) (w : Width) (m : Memory) (x : Result (ℤ × ℤ) DivFault) (v : ℕ)
    → number_of (performing.signed_part part w m x) ≡ Some v
    → performing.signed_part part w m x ≡ performing.Gives v m
signed_gives part w m (Ok x) v e = number_from _ m v e
signed_gives part w m (Err x) v e = fault_gives x m v e

unsigned_gives : (part : ℕ × ℕ → ℕ) (m : Memory) (x : Result (ℕ × ℕ) DivFault) (v : ℕ)
    → number_of (performing.unsigned_part part m x) ≡ Some v
    → performing.unsigned_part part m x ≡ performing.Gives v m
unsigned_gives part m (Ok x) v e = number_from _ m v e
unsigned_gives part m (Err x) v e = fault_gives x m v e

quotient_gives : (s : Signedness) (w : Width) (a b : ℕ) (m : Memory) (v : ℕ)
    → number_of (performing.quotient s w a b m) ≡ Some v
    → performing.quotient s w a b m ≡ performing.Gives v m
quotient_gives Signed w a b m v e = signed_gives (λ x. x.0) w m _ v e
quotient_gives Unsigned w a b m v e = unsigned_gives (λ x. x.0) m _ v e

remainder_gives : (s : Signedness) (w : Width) (a b : ℕ) (m : Memory) (v : ℕ)
    → number_of (performing.remainder s w a b m) ≡ Some v
    → performing.remainder s w a b m ≡ performing.Gives v m
remainder_gives Signed w a b m v e = signed_gives (λ x. x.1) w m _ v e
remainder_gives Unsigned w a b m v e = unsigned_gives (λ x. x.1) m _ v e

access_gives : (o o' : Option ℕ) (number : ℕ) (m : Memory) (v : ℕ)
    → number_of (performing.unless_reserved o (performing.unless_refused false o'
    (performing.Gives number m))) ≡ Some v
    → performing.unless_reserved o (performing.unless_refused false o' (performing.Gives number m))
    ≡ performing.Gives v m
access_gives None None number m v e = number_from number m v e
access_gives None (Some a) number m v e = absurd (none-some v e)
access_gives (Some a) o' number m v e = absurd (none-some v e)

computed_gives : (reserved : ℕ → Bool) (o : Operation) (a b : ℕ) (m : Memory) (v : ℕ)
    → computed reserved o a b m ≡ Some v → performed reserved o a b m ≡ performing.Gives v m
computed_gives reserved (operations.Pure o) a b m v e = number_from _ m v e
computed_gives reserved (operations.Divide s z) a b m v e = quotient_gives s (width z) a b m v e
computed_gives reserved (operations.Remainder s z) a b m v e = remainder_gives s (width z) a b m v e
computed_gives reserved (operations.Load w) a b m v e = access_gives _ _ _ m v e
computed_gives reserved (operations.Store w) a b m v e = absurd (none-some v e)
computed_gives reserved (operations.Allocate n) a b m v e = absurd (none-some v e)
computed_gives reserved (operations.SetPointer n) a b m v e = absurd (none-some v e)
computed_gives reserved (operations.Place w offset) a b m v e = absurd (none-some v e)
computed_gives reserved (operations.Clear w offset) a b m v e = absurd (none-some v e)

-- ---- at a place in a state, with so many steps left

module _ (program : Program) (st : State) (p : Place) (hs : List Handler) where
  abbrev pub at : List ContinuationFrame → ℕ → Next → Machine
  at fs n next = record {
    state = record st { steps_left = n };
    handlers = hs;
    stack = fs;
    next = next;
  }

  abbrev pub here : Surroundings
  here = around (is_reserved program.globals) st p

  abbrev gave : List ContinuationFrame → ℕ × ℕ → Machine
  gave fs r = at fs r.1 (Give (Value r.0))

  gives : (k : ℕ) (a : Machine) (fs : List ContinuationFrame) (x r : ℕ × ℕ)
      → after program k a ≡ gave fs x → x ≡ r → Leads program a (gave fs r)
  gives k a fs x r e same = record { steps = k; is = e ∙ ap (gave fs) same }

  pub computed_leads : (o : Operation) (a b : ℕ) (fs : List ContinuationFrame) (n v : ℕ)
      → computed (is_reserved program.globals) o a b st.memory ≡ Some v
      → after program 1 (at fs n (frames.Operate o a b p)) ≡ at fs n (Give (Value v))
  computed_leads o a b fs n v e =
      ap (operated (at fs n (frames.Operate o a b p)) o a b p)
      (computed_gives (is_reserved program.globals) o a b st.memory v e)

  load_leads : (access : Access) (a : ℕ) (fs : List ContinuationFrame) (n v : ℕ) (r : ℕ × ℕ)
      → spec.loaded here access a ≡ Some v → (v, n) ≡ r
      → Leads program (at (Assignment (frames.Extends access) ∷ fs) n
      (frames.Operate (operations.Load access.width) a 0 p)) (gave fs r)
  load_leads access a fs n v r e same =
      let x = map_from (value_of access)
      (computed (is_reserved program.globals) (operations.Load access.width) a 0 st.memory) v e in
      let fs' = Assignment (frames.Extends access) ∷ fs in
      leads_on program 1 _ (at fs' n (Give (Value x.0))) _
      (computed_leads (operations.Load access.width) a 0 fs' n x.0 x.1)
      (gives 1 _ fs (value_of access x.0, n) r refl (ap (λ (v : ℕ). (v, n)) x.2 ∙ same))

  pub read_leads : (l : Lvalue) (a : ℕ) (fs : List ContinuationFrame) (n v : ℕ) (r : ℕ × ℕ)
      → spec.read here l a ≡ Some v → (v, n) ≡ r
      → Leads program (at fs n (frames.Fetch l a p)) (gave fs r)
  read_leads (Local x) a fs n v r e same =
      gives 1 _ fs (slice_index here.locals x, n) r refl
      (ap (λ (v : ℕ). (v, n)) (same_Some _ _ e) ∙ same)
  read_leads (Global access _) a fs n v r e same =
      leads_on program 1 _ _ _ refl (load_leads access a fs n v r e same)
  read_leads (Stacked access _ _) a fs n v r e same =
      leads_on program 1 _ _ _ refl (load_leads access a fs n v r e same)
  read_leads (Indirection access _) a fs n v r e same =
      leads_on program 1 _ _ _ refl (load_leads access a fs n v r e same)
  read_leads (Element access _ _) a fs n v r e same =
      leads_on program 1 _ _ _ refl (load_leads access a fs n v r e same)

  abbrev ValueLeads : Expression → List ContinuationFrame → Type 0
  ValueLeads e fs =
      (n : ℕ) (r : ℕ × ℕ) → spec.value here e n ≡ Some r
      → Leads program (at fs n (Start (tasks.Eval e) p)) (gave fs r)

  test_leads : (f : Expression) (fs : List ContinuationFrame) (n : ℕ) (r : ℕ × ℕ)
      → ValueLeads f (Operand frames.Tests ∷ fs)
      → spec.tested (spec.value here f n) ≡ Some r
      → Leads program (at (Operand frames.Tests ∷ fs) n (Start (tasks.Eval f) p)) (gave fs r)
  test_leads f fs n r leads e =
      let a = then_from (spec.value here f n)
      (λ y left. Some (of_test (not (nat_eq y 0)), left)) r e in
      leads_then program _ _ _ (leads n a.0 a.1)
      (gives 1 _ fs (of_test (not (nat_eq a.0.0 0)), a.0.1) r refl (same_Some _ _ a.2))

  and_leads : (b : Bool) (a : Machine) (next : Next) (f : Expression) (fs : List ContinuationFrame)
      (n : ℕ) (r : ℕ × ℕ)
      → step program a ≡ follow (at fs n next) (chosen b (plans.gives 0)
      (plans.operand frames.Tests f p))
      → ValueLeads f (Operand frames.Tests ∷ fs)
      → spec.either b (Some (0, n)) (spec.tested (spec.value here f n)) ≡ Some r
      → Leads program a (gave fs r)
  and_leads true a next f fs n r is leads e = gives 1 a fs (0, n) r is (same_Some _ _ e)
  and_leads false a next f fs n r is leads e =
      leads_on program 1 a _ _ is (test_leads f fs n r leads e)

  or_leads : (b : Bool) (a : Machine) (next : Next) (f : Expression) (fs : List ContinuationFrame)
      (n : ℕ) (r : ℕ × ℕ)
      → step program a ≡ follow (at fs n next) (chosen b (plans.operand frames.Tests f p)
      (plans.gives 1))
      → ValueLeads f (Operand frames.Tests ∷ fs)
      → spec.either b (spec.tested (spec.value here f n)) (Some (1, n)) ≡ Some r
      → Leads program a (gave fs r)
  or_leads true a next f fs n r is leads e =
      leads_on program 1 a _ _ is (test_leads f fs n r leads e)
  or_leads false a next f fs n r is leads e = gives 1 a fs (1, n) r is (same_Some _ _ e)

  choice_leads : (b : Bool) (a : Machine) (next : Next) (f g : Expression)
      (fs : List ContinuationFrame) (n : ℕ) (r : ℕ × ℕ)
      → step program a ≡ follow (at fs n next) (chosen b (Then (plans.evaluates g p))
      (Then (plans.evaluates f p)))
      → ValueLeads f fs → ValueLeads g fs
      → spec.either b (spec.value here g n) (spec.value here f n) ≡ Some r
      → Leads program a (gave fs r)
  choice_leads true a next f g fs n r is first second e = leads_on program 1 a _ _ is (second n r e)
  choice_leads false a next f g fs n r is first second e = leads_on program 1 a _ _ is (first n r e)

  mutual
    pub value_leads : (e : Expression) (fs : List ContinuationFrame) (n : ℕ) (r : ℕ × ℕ)
        → spec.value here e n ≡ Some r
        → Leads program (at fs n (Start (tasks.Eval e) p)) (gave fs r)
    value_leads (On x c) fs n r e =
        let a = counted_from n (λ left. then_with (spec.node_value here x left)
        (λ v left. Some (converted c v, left))) r e in
        let b = then_from (spec.node_value here x a.0) (λ v left. Some (converted c v, left)) r a.2
        in
        let fs' = Operand (frames.Converts c) ∷ fs in
        subst (λ (n : ℕ). Leads program (at fs n (Start (tasks.Eval (On x c)) p)) (gave fs r))
        (sym a.1)
        (leads_on program 2 _ (at fs' a.0 (frames.Evaluate x p)) _ refl
        (leads_then program _ _ _ (node_leads x fs' a.0 b.0 b.1)
        (gives 1 _ fs (converted c b.0.0, b.0.1) r refl (same_Some _ _ b.2))))

    pub address_leads : (l : Lvalue) (fs : List ContinuationFrame) (n : ℕ) (r : ℕ × ℕ)
        → spec.address here l n ≡ Some r
        → Leads program (at fs n (frames.Find l p)) (gave fs r)
    address_leads (Local x) fs n r e = gives 1 _ fs (0, n) r refl (same_Some _ _ e)
    address_leads (Global access a) fs n r e = gives 1 _ fs (a, n) r refl (same_Some _ _ e)
    address_leads (Stacked access base offset) fs n r e =
        gives 2 _ fs (spec.stacked_address here base offset, n) r refl (same_Some _ _ e)
    address_leads (Indirection access f) fs n r e =
        leads_on program 1 _ _ _ refl (value_leads f fs n r e)
    address_leads (Element access f i) fs n r e =
        let sum = λ (a n : ℕ) (left : ℕ). Some (result_of (Add Long) a n, left) in
        let a = then_from (spec.value here f n)
        (λ a left. then_with (spec.value here i left) (sum a)) r e in
        let b = then_from (spec.value here i a.0.1) (sum a.0.0) r a.2 in
        let first = Operand (frames.EvaluatesIndex i p) ∷ fs in
        let second = Operand (frames.AddsIndex a.0.0) ∷ fs in
        leads_on program 1 _ _ _ refl (leads_then program _ _ _ (value_leads f first n a.0 a.1)
        (leads_on program 1 _ _ _ refl (leads_then program _ _ _
        (value_leads i second a.0.1 b.0 b.1)
        (gives 1 _ fs (result_of (Add Long) a.0.0 b.0.0, b.0.1) r refl (same_Some _ _ b.2)))))

    node_leads : (x : Node) (fs : List ContinuationFrame) (n : ℕ) (r : ℕ × ℕ)
        → spec.node_value here x n ≡ Some r
        → Leads program (at fs n (frames.Evaluate x p)) (gave fs r)
    node_leads (nodes.Constant z v) fs n r e = gives 1 _ fs (v, n) r refl (same_Some _ _ e)
    node_leads (nodes.StackedArray base offset) fs n r e =
        gives 2 _ fs (spec.stacked_address here base offset, n) r refl (same_Some _ _ e)
    node_leads (nodes.Read l) fs n r e =
        let a = then_from (spec.address here l n)
        (λ a left. with_left (spec.read here l a) left) r e in
        let b = left_from (spec.read here l a.0.0) a.0.1 r a.2 in
        let fs' = Assignment (frames.ReadsPlace l p) ∷ fs in
        leads_on program 1 _ _ _ refl (leads_then program _ _ _ (address_leads l fs' n a.0 a.1)
        (leads_on program 1 _ _ _ refl (read_leads l a.0.0 fs a.0.1 b.0 r b.1 b.2)))
    node_leads (nodes.AddressOf l) fs n r e =
        let a = counted_from n (λ left. spec.address here l left) r e in
        subst (λ (n : ℕ). Leads program (at fs n (frames.Evaluate (nodes.AddressOf l) p))
        (gave fs r)) (sym a.1)
        (leads_on program 3 _ (at fs a.0 (frames.Find l p)) _ refl (address_leads l fs a.0 r a.2))
    node_leads (nodes.Unary o f) fs n r e =
        let a = then_from (spec.value here f n) (λ v left. Some (result_of o v 0, left)) r e in
        leads_on program 1 _ _ _ refl (leads_then program _ _ _
        (value_leads f (Operand (frames.Applies o) ∷ fs) n a.0 a.1)
        (gives 1 _ fs (result_of o a.0.0 0, a.0.1) r refl (same_Some _ _ a.2)))
    node_leads (nodes.Binary o f g) fs n r e =
        let made = λ (x y left : ℕ). with_left (computed here.reserved o x y here.memory) left in
        let a = then_from (spec.value here f n)
        (λ x left. then_with (spec.value here g left) (made x)) r e in
        let b = then_from (spec.value here g a.0.1) (made a.0.0) r a.2 in
        let c = left_from (computed here.reserved o a.0.0 b.0.0 here.memory) b.0.1 r b.2 in
        let first = Operand (frames.EvaluatesRight o g p) ∷ fs in
        let second = Operand (frames.Operates o a.0.0 p) ∷ fs in
        leads_on program 1 _ _ _ refl (leads_then program _ _ _ (value_leads f first n a.0 a.1)
        (leads_on program 1 _ _ _ refl (leads_then program _ _ _
        (value_leads g second a.0.1 b.0 b.1)
        (leads_on program 1 _ (at fs b.0.1 (frames.Operate o a.0.0 b.0.0 p)) _ refl
        (gives 1 _ fs (c.0, b.0.1) r (computed_leads o a.0.0 b.0.0 fs b.0.1 c.0 c.1) c.2)))))
    node_leads (nodes.PointerDifference size f g) fs n r e =
        let made = λ (x y left : ℕ). Some (apart size x y, left) in
        let a = then_from (spec.value here f n)
        (λ x left. then_with (spec.value here g left) (made x)) r e in
        let b = then_from (spec.value here g a.0.1) (made a.0.0) r a.2 in
        let first = Operand (frames.EvaluatesSubtrahend size g p) ∷ fs in
        let second = Operand (frames.Measures size a.0.0) ∷ fs in
        leads_on program 1 _ _ _ refl (leads_then program _ _ _ (value_leads f first n a.0 a.1)
        (leads_on program 1 _ _ _ refl (leads_then program _ _ _
        (value_leads g second a.0.1 b.0 b.1)
        (gives 1 _ fs (apart size a.0.0 b.0.0, b.0.1) r refl (same_Some _ _ b.2)))))
    node_leads (nodes.Not f) fs n r e =
        let a = then_from (spec.value here f n) (λ v left. Some (of_test (nat_eq v 0), left)) r e in
        leads_on program 1 _ _ _ refl (leads_then program _ _ _
        (value_leads f (Operand frames.Inverts ∷ fs) n a.0 a.1)
        (gives 1 _ fs (of_test (nat_eq a.0.0 0), a.0.1) r refl (same_Some _ _ a.2)))
    node_leads (nodes.And f g) fs n r e =
        let a = then_from (spec.value here f n) (λ x left. spec.either (nat_eq x 0) (Some (0, left))
        (spec.tested (spec.value here g left))) r e in
        leads_on program 1 _ _ _ refl (leads_then program _ _ _
        (value_leads f (Operand (frames.EvaluatesIfTrue g p) ∷ fs) n a.0 a.1)
        (and_leads (nat_eq a.0.0 0) _ (Give (Value a.0.0)) g fs a.0.1 r refl
        (value_leads g (Operand frames.Tests ∷ fs)) a.2))
    node_leads (nodes.Or f g) fs n r e =
        let a = then_from (spec.value here f n) (λ x left. spec.either (nat_eq x 0)
        (spec.tested (spec.value here g left)) (Some (1, left))) r e in
        leads_on program 1 _ _ _ refl (leads_then program _ _ _
        (value_leads f (Operand (frames.EvaluatesIfFalse g p) ∷ fs) n a.0 a.1)
        (or_leads (nat_eq a.0.0 0) _ (Give (Value a.0.0)) g fs a.0.1 r refl
        (value_leads g (Operand frames.Tests ∷ fs)) a.2))
    node_leads (nodes.Conditional f g h) fs n r e =
        let a = then_from (spec.value here f n) (λ x left. spec.either (nat_eq x 0)
        (spec.value here h left) (spec.value here g left)) r e in
        leads_on program 1 _ _ _ refl (leads_then program _ _ _
        (value_leads f (Operand (frames.Chooses g h p) ∷ fs) n a.0 a.1)
        (choice_leads (nat_eq a.0.0 0) _ (Give (Value a.0.0)) g h fs a.0.1 r refl
        (value_leads g fs) (value_leads h fs) a.2))
    node_leads (nodes.Comma f g) fs n r e =
        let a = then_from (spec.value here f n) (λ x left. spec.value here g left) r e in
        leads_on program 1 _ _ _ refl (leads_then program _ _ _
        (value_leads f (Operand (frames.Discards g p) ∷ fs) n a.0 a.1)
        (leads_on program 1 _ _ _ refl (value_leads g fs a.0.1 r a.2)))
    node_leads nodes.ExceptionCode fs n r e =
        gives 1 _ fs (p.exception.code, n) r refl (same_Some _ _ e)
    node_leads (nodes.Information f) fs n r e =
        gives 1 _ fs (field_of f p.exception, n) r refl (same_Some _ _ e)
    node_leads nodes.AbnormalTermination fs n r e =
        gives 1 _ fs (of_test p.abnormal, n) r refl (same_Some _ _ e)
    node_leads x fs n r e = absurd (none-some r e)
