-- The control addresses of a stack: a walk comes to them, and they have the numbers of the
-- functions that wait.
use Rattle.std.proofs.Common.{◌≡◌, ℕ, zero, suc, ◌+◌, List, [], ◌∷◌, Option, map, refl, ap, ◌∙◌, arith}
use Rattle.std.specs.List.{filter_map, cons_option}
use Rattle.match_stack.specs.Words.{Memory, Context, context_of, Functions, Funclet, LinearProgram, Item, Waits, Searches, Unwinds, Frame, BodyName, FunctionBody, FuncletBody, StackItem, Framed, Leaf, Searching, Unwinding, after_frame, after_leaf, ImagePlan, Activation, activations_below, BodyWaits, Linked, with_function, functions_in, state, control_addresses, number_of, NumbersFunctions, ControlsAreOfTheList, ControlAddressesAreOfFunctions}
use Rattle.seh_walk.specs.Controls.{controls, controls_from, with_address}
use Rattle.match_stack.proofs.ItemVisits.{frame_is_visited, leaf_is_visited, search_is_passed, unwinding_is_passed, stack_is_over}

-- in more steps than there are items
pub controls_are_of_the_list : ControlsAreOfTheList
unfolding controls
controls_are_of_the_list t m c row is zero s lt = absurd (omega arith)
controls_are_of_the_list t m c row [] (suc k) s lt =
    ap (controls_from (controls k t m) (state c row)) (stack_is_over t m c row s)
controls_are_of_the_list t m c row (Framed f ∷ is) (suc k) s lt =
    ap (controls_from (controls k t m) (state c row)) (frame_is_visited t m c row f s.0)
    ∙ ap (with_address c.rip)
    (controls_are_of_the_list t m (after_frame c f) 0 is k s.1 (omega arith))
controls_are_of_the_list t m c row (Leaf back ∷ is) (suc k) s lt =
    ap (controls_from (controls k t m) (state c row)) (leaf_is_visited t m c row back s.0)
    ∙ ap (with_address c.rip)
    (controls_are_of_the_list t m (after_leaf c back) 0 is k s.1 (omega arith))
controls_are_of_the_list t m c row (Searching r ∷ is) (suc k) s lt =
    ap (controls_from (controls k t m) (state c row)) (search_is_passed t m c row r s.0)
    ∙ controls_are_of_the_list t m (context_of r.saved) 0 is k s.1 (omega arith)
controls_are_of_the_list t m c row (Unwinding r ∷ is) (suc k) s lt =
    ap (controls_from (controls k t m) (state c row)) (unwinding_is_passed t m c row r s.0)
    ∙ controls_are_of_the_list t m r.walk r.row is k s.1 (omega arith)

-- a number more, where there is one, is a function more
one_more : (name : BodyName) (numbers functions : List ℕ)
    → numbers ≡ map (λ (f : ℕ). f + 1) functions
    → cons_option (number_of name) numbers ≡ map (λ f. f + 1) (with_function name functions)
one_more (FunctionBody f) numbers functions e = ap (λ ns. (f + 1) ∷ ns) e
one_more (FuncletBody k) numbers functions e = e

module _ (t : Functions) (fs : List Funclet) (program : LinearProgram) (p : ImagePlan)
    (number : ℕ → Option ℕ) (numbers : NumbersFunctions program p number) where
  waiting : (m : Memory) (c : Context) (now : ℕ → ℕ) (size end : ℕ) (b : Frame)
      (acts : List Activation) (addresses functions : List ℕ)
      → BodyWaits t fs program p m c now size end b acts
      → filter_map number addresses ≡ map (λ (f : ℕ). f + 1) functions
      → filter_map number (c.rip ∷ addresses)
      ≡ map (λ f. f + 1) (with_function b.body functions)
  waiting m c now size end b acts addresses functions w e =
      ap (λ (o : Option ℕ). cons_option o (filter_map number addresses))
      (numbers b.body w.code w.label c.rip w.body w.instruction)
      ∙ one_more b.body (filter_map number addresses) functions e

  of_functions : (m : Memory) (c : Context) (is : List StackItem) (items : List Item)
      (acts : List Activation) → Linked t fs program p m c is items acts
      → filter_map number (control_addresses c is) ≡ map (λ f. f + 1) (functions_in items)
  of_functions m c [] [] acts l = refl
  of_functions m c (Framed f ∷ is) (Waits b ∷ below) acts l =
      waiting m c _ _ _ b acts (control_addresses (after_frame c f) is) (functions_in below)
      l.0.waits
      (of_functions m (after_frame c f) is below (activations_below b.body acts) l.2)
  of_functions m c (Leaf back ∷ is) (Waits b ∷ below) acts l =
      waiting m c _ _ _ b acts (control_addresses (after_leaf c back) is) (functions_in below)
      l.0.waits
      (of_functions m (after_leaf c back) is below (activations_below b.body acts) l.2)
  of_functions m c (Searching r ∷ is) (Searches exception resumption asked ∷ below) acts l =
      of_functions m (context_of r.saved) is below acts l.1
  of_functions m c (Unwinding r ∷ is) (Unwinds rest target ∷ below) acts l =
      of_functions m r.walk is below acts l.1
  of_functions m c is items acts l = absurd l

pub control_addresses_are_of_functions : ControlAddressesAreOfFunctions
control_addresses_are_of_functions t fs program p number m c is items acts numbers l =
    of_functions t fs program p number numbers m c is items acts l
