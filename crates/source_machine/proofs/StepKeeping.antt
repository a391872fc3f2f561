-- Each step keeps what the machine comes to.
use Rattle.std.proofs.Common.{◌≡◌, ℕ, zero, suc, ◌+◌, ◌-◌, List, [], ◌∷◌, ◌++◌, length, take, refl}
use Rattle.std.proofs.Common.{sym, ap, ◌∙◌, arith, Option, Some, None}
use Rattle.std.specs.Prelude.{nat_lt, ◌^◌, slice_get}
use Rattle.std.proofs.lemmas.List.{append_assoc, append-nil, reverse-append, length-append}
use Rattle.std.proofs.Math.Seq.{take-append_seam}
use Rattle.source_machine.specs.Words.{StackedVariable, W32, low, let_go, at_state, Expression, Normal, ends, evaluated, put_variable, close_part, part_of, declare_stacked, declare_at, declared_stacked, declared_at, BuiltIn, Put, Protect, RaiseException, Walk, AddVectored, RemoveVectored, Operation, performed, Program, Function, weight, surplus, Node, Lvalue, Local, Arguments, Done, Filter, Statements, Empty, Declared, Undefined, is_reserved, End, Gives, deeper, counting, with_value, and_then, Handler, Task, Does, counted, tried, locate, read, write, each, all, ended_call, enter, call_built_in, node, declare_each, statement, perform, does, Place, context_at, Callee, Next, Over, Give, Start, Begin, node_plan, find_plan, pass_plan, proceed_plan, declare_plan, Machine, follow, started, fetched, put, operated, entered, built_in, called, with_local, handler_at, guarded, without_last, done, is_deep, call, through, through_all, reaches, KeepsMeaning}
use Rattle.c_operations.specs.Performed as performing
use Rattle.c_checked.specs.Expression as nodes
use Rattle.c_checked.specs.Expression.{Next as Another}
use Rattle.c_checked.specs.Statement as statements
use Rattle.c_checked.specs.Statement.{Then as Followed}
use Rattle.source_meaning.specs.Tasks as tasks
use Rattle.source_meaning.proofs.RemainingSteps.{does_is}
use Rattle.source_machine.specs.Frames as frames
use Rattle.source_machine.proofs.FrameKeeping.{comes, from, over_keeps, deep_keeps, few_keeps, evaluated_keeps}
use Rattle.source_machine.proofs.FrameKeeping.{given_keeps, vectored_keeps}
use Rattle.source_machine.proofs.StackKeeping.{end_of_call, opened_keeps, put_stacked_keeps, cleared_keeps}
use Rattle.source_machine.proofs.TaskKeeping.{begun_keeps, searched_keeps, asked_vectored_keeps}

module _ (program : Program) (d : Does) where
  node_keeps : (m : Machine) (n : Node) (p : Place)
      → comes program d (follow m (node_plan n p))
      ≡ from program d m (node program d n (context_at m.handlers p) m.state)
  unfolding with_value
  node_keeps m (nodes.Constant z n) p = refl
  node_keeps m x p = refl

  find_keeps : (m : Machine) (l : Lvalue) (p : Place)
      → comes program d (follow m (find_plan l p))
      ≡ from program d m (locate d l (context_at m.handlers p) m.state)
  unfolding with_value
  find_keeps m (Local x) p = refl
  find_keeps m y p = refl

  fetch_keeps : (m : Machine) (l : Lvalue) (a : ℕ) (p : Place)
      → comes program d (fetched m l a p) ≡ from program d m
      (read program d l a (context_at m.handlers p) m.state)
  unfolding with_value
  fetch_keeps m (Local x) a p = refl
  fetch_keeps m y a p = refl

  put_keeps : (m : Machine) (l : Lvalue) (a v : ℕ) (p : Place)
      → comes program d (put m l a v p) ≡ from program d m
      (write program d l a v (context_at m.handlers p) m.state)
  put_keeps m (Local x) a v p = refl
  put_keeps m y a v p = refl

  operated_keeps : (m : Machine) (o : Operation) (a b : ℕ) (p : Place)
      (x : performing.OperationResult)
      → comes program d (operated m o a b p x)
      ≡ from program d m (tried d o a b (context_at m.handlers p) m.state x)
  unfolding and_then
  operated_keeps m o a b p (performing.Gives v memory) = refl
  operated_keeps m o a b p (performing.Raises code access) = refl
  operated_keeps m o a b p (performing.Undefined a') = over_keeps program d m (Some (Undefined a'))

  pass_keeps : (m : Machine) (callee : Callee) (vs : List ℕ) (es : Arguments) (p : Place)
      → comes program d (follow m (pass_plan callee vs es p))
      ≡ from program d m (each d es (context_at m.handlers p) m.state
      (λ ws st. call program d callee (vs ++ ws) m.handlers p st))
  unfolding with_value
  pass_keeps m callee vs Done p =
      ap (λ ws. from program d m (call program d callee ws m.handlers p m.state))
      (sym (append-nil vs))
  pass_keeps m callee vs (Another e es) p = λ i.
      from program d m
      (with_value (d (tasks.Eval e) (context_at m.handlers p) m.state)
      (λ v st. each d es (context_at m.handlers p) st
      (λ ws st. call program d callee (append_assoc vs (v ∷ []) ws i) m.handlers p st)))

  entered_keeps : (m : Machine) (number : ℕ) (f : Option Function) (vs : List ℕ) (p : Place)
      → comes program d (entered program m number f vs) ≡ from program d m
      (enter program d number f vs (context_at m.handlers p) m.state)
  unfolding deeper counting
  entered_keeps m number None vs p = refl
  entered_keeps m number (Some f) vs p =
      deep_keeps program d (is_deep m.state (weight f)) m _ _
      (few_keeps program d (nat_lt m.state.steps_left (surplus f)) m _ _
      (opened_keeps program d m f.data_frame (length m.state.frames) _
      (λ o. ended_call (length m.state.frames) (surplus f)
      (close_part (part_of f.data_frame) (length m.state.frames) o)) _
      (end_of_call (length m.state.frames) (surplus f) (part_of f.data_frame)) (λ st. refl) _))

  built_in_keeps : (m : Machine) (k : BuiltIn) (vs : List ℕ) (p : Place)
      → comes program d (built_in m k vs p) ≡ from program d m
      (call_built_in d k vs (context_at m.handlers p) m.state)
  unfolding and_then
  built_in_keeps m Put vs p = refl
  built_in_keeps m Protect vs p = refl
  built_in_keeps m RaiseException vs p = refl
  built_in_keeps m Walk vs p = refl
  built_in_keeps m (AddVectored f) vs p = refl
  built_in_keeps m (RemoveVectored f) vs p = refl

  called_keeps : (m : Machine) (callee : Callee) (vs : List ℕ) (p : Place)
      → comes program d (called program m callee vs p)
      ≡ from program d m (call program d callee vs m.handlers p m.state)
  called_keeps m (frames.Defined f) vs p = entered_keeps m f (slice_get program.functions f) vs p
  called_keeps m (frames.BuiltInOf k) vs p = built_in_keeps m k vs p

  proceed_keeps : (m : Machine) (ss : Statements) (p : Place)
      → comes program d (follow m (proceed_plan ss p))
      ≡ from program d m (all d ss (context_at m.handlers p) m.state)
  unfolding and_then
  proceed_keeps m Empty p = refl
  proceed_keeps m (Followed s ss) p = refl

  declare_keeps : (m : Machine) (ds : List Declared) (p : Place)
      → comes program d (follow m (declare_plan ds p))
      ≡ from program d m (declare_each d ds (context_at m.handlers p) m.state)
  unfolding and_then
  declare_keeps m [] p = refl
  declare_keeps m (e ∷ es) p = refl

  stacked_keeps : (m : Machine) (v : StackedVariable) (n : Option ℕ) (e : Option Expression)
      (p : Place)
      → comes program d (declared_stacked program m v n e p)
      ≡ from program d m (declare_stacked program d v n e (context_at m.handlers p) m.state)
  stacked_keeps m v (Some n) e p = refl
  stacked_keeps m v None None p =
      put_stacked_keeps program d m v 0 p ends (λ st. Gives Normal st) (λ st. refl)
  stacked_keeps m v None (Some e) p =
      put_stacked_keeps program d m v 0 p
      (evaluated (frames.InitialisesStacked v p) (Some e) p ends)
      (λ st. with_value (d (tasks.Eval e) (context_at m.handlers p) st)
      (λ x st. put_variable program v p.activation x st (λ st. Gives Normal st))) (λ st. refl)

  declared_keeps : (m : Machine) (v : Option StackedVariable) (x : ℕ) (e : Option Expression)
      (p : Place)
      → comes program d (declared_at program m v x e p)
      ≡ from program d m (declare_at program d v x e (context_at m.handlers p) m.state)
  declared_keeps m None x e p =
      evaluated_keeps program d (with_local m p x 0) (frames.Initialises x p) e p _ 0 refl
  declared_keeps m (Some v) x e p = stacked_keeps m v v.elements e p

  -- ---- a `__try` with an `__except`

  without_added : (hs : List Handler) (h : Handler) → without_last (hs ++ h ∷ []) ≡ hs
  without_added hs h =
      let one : length (hs ++ h ∷ []) ≡ length hs + 1 = length-append hs (h ∷ []) in
      let less : length (hs ++ h ∷ []) - 1 ≡ length hs = omega arith in
      ap (λ n. take n (hs ++ h ∷ [])) less ∙ take-append_seam hs (h ∷ [])

  guarded_keeps : (m : Machine) (body : Statements) (filter : Filter) (block : Statements)
      (p : Place)
      → comes program d (guarded m body filter block p)
      ≡ from program d m (statement program d (statements.TryExcept body filter block)
      (context_at m.handlers p) m.state)
  guarded_keeps m body filter block p =
      let h = handler_at filter p in
      ap (λ hs. through_all program d hs m.stack
      (through program d hs (frames.Lands m.state.held block p)
      (d (tasks.TryBody body) (context_at (m.handlers ++ h ∷ []) p) m.state)))
      (without_added m.handlers h)
      ∙ ap (λ hs. from program d m (through program d m.handlers (frames.Lands m.state.held block p)
      (d (tasks.TryBody body)
      (record {
        handlers = hs;
        activation = p.activation;
        data_part = p.data_part;
        exception = p.exception;
        abnormal =
            p.abnormal;
      }) m.state)))
      (reverse-append m.handlers (h ∷ []))

  -- ---- any step but a task's

  started_keeps : ((task : Task) (p : Place) (m : Machine)
      → d task (context_at m.handlers p) m.state
      ≡ counted m.state (λ st. perform program d task (context_at m.handlers p) st))
      → (m : Machine) (task : Task) (p : Place)
      → comes program d (started m task p m.state.steps_left)
      ≡ from program d m (d task (context_at m.handlers p) m.state)
  unfolding counted
  started_keeps is m task p = by_left m.state.steps_left ∙ sym (ap (from program d m) (is task p m))
    where
      by_left : (n : ℕ) → comes program d (started m task p n)
          ≡ from program d m
          (elim n [
            | zero ↦ Gives (End None) m.state
            | suc n ↦
                perform program d task (context_at m.handlers p) (record m.state { steps_left = n })
          ])
      by_left zero = over_keeps program d m None
      by_left (suc n) = refl

  done_keeps : ((task : Task) (p : Place) (m : Machine)
      → d task (context_at m.handlers p) m.state
      ≡ counted m.state (λ st. perform program d task (context_at m.handlers p) st))
      → (m : Machine) (next : Next) → comes program d (done program m next)
      ≡ reaches program d m.handlers m.stack m.state next
  done_keeps is m (Over how) = refl
  done_keeps is m (Give how) = given_keeps program d m how m.stack
  done_keeps is m (Start task p) = started_keeps is m task p
  done_keeps is m (Begin task p) = begun_keeps program d m task p
  done_keeps is m (frames.Evaluate n p) = node_keeps m n p
  done_keeps is m (frames.Find l p) = find_keeps m l p
  done_keeps is m (frames.FindStacked base offset p) = refl
  done_keeps is m (frames.Fetch l a p) = fetch_keeps m l a p
  done_keeps is m (frames.Put l a v p) = put_keeps m l a v p
  done_keeps is m (frames.Operate o a b p) =
      operated_keeps m o a b p (performed (is_reserved program.globals) o a b m.state.memory)
  done_keeps is m (frames.Pass callee vs es p) = pass_keeps m callee vs es p
  done_keeps is m (frames.Call callee vs p) = called_keeps m callee vs p
  done_keeps is m (frames.Proceed ss p) = proceed_keeps m ss p
  done_keeps is m (frames.DeclareEach ds p) = declare_keeps m ds p
  done_keeps is m (frames.DeclareName e p) = declared_keeps m e.stacked e.local e.value p
  done_keeps is m (frames.SetLocal x v p) = refl
  done_keeps is m (frames.PutStacked v x p) =
      put_stacked_keeps program d m v x p ends (λ st. Gives Normal st) (λ st. refl)
  done_keeps is m (frames.ClearElements v n p) = cleared_keeps program d m v n p
  done_keeps is m (frames.Guard body filter block p) = guarded_keeps m body filter block p
  done_keeps is m (frames.Answer v) = refl
  done_keeps is m frames.LetGo = refl
  done_keeps is m (frames.AskFrom place exc p) = asked_vectored_keeps program d m place exc p
  done_keeps is m (frames.VectoredAnswer v place exc p) =
      vectored_keeps program d (nat_lt (low W32 v) (2 ^ 31)) exc.flag (at_state m (let_go m.state))
      place exc p
  done_keeps is m (frames.Search level exc p) = searched_keeps program d m level exc p

pub keeps_meaning : KeepsMeaning
keeps_meaning program m =
    done_keeps program (does program) (λ task p m. does_is program task (context_at m.handlers p)
    m.state) m m.next
