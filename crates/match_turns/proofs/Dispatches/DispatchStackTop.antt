-- What is on top of the machine's stack where a search or an unwinding waits: its record, at the
-- host's return address.
use Rattle.std.proofs.Common.{◌≡◌, ℕ, List, [], ◌∷◌, refl, ap, ◌∙◌}
use Rattle.match_turns.specs.Words.{Memory, Context, Functions, DispatchRecord, filter_return, finally_return, vectored_return, answer_return, Funclet, Exception, Region, LinearProgram, Asked, FilterOf, VectoredAt, Target, Resumption, Item, Waits, Searches, Unwinds, StackItem, Searching, Unwinding, IsStack, ImagePlan, Activation, Linked, AreWaiting, NoneLanded}

-- no body that waits has just taken over
pub none_landed : (program : LinearProgram) (items : List Item) → AreWaiting program items
    → NoneLanded items
none_landed program [] h = tt
none_landed program (Waits f ∷ below) h = (h.0.landed, none_landed program below h.2)
none_landed program (Searches exception resumption asked ∷ below) h = none_landed program below
    h.2
none_landed program (Unwinds rest target ∷ below) h = none_landed program below h.2

-- where what a search has asked returns to
abbrev pub return_after : Asked → ℕ
return_after (FilterOf h rest) = filter_return
return_after (VectoredAt place) = vectored_return

pub record IsSearchOnTop (c : Context) (is : List StackItem) (back : ℕ) : Type 0 where
  pub dispatch : DispatchRecord
  pub others : List StackItem
  pub items : is ≡ Searching dispatch ∷ others
  pub at_host : c.rip ≡ back

pub record IsUnwindingOnTop (c : Context) (is : List StackItem) : Type 0 where
  pub dispatch : DispatchRecord
  pub others : List StackItem
  pub items : is ≡ Unwinding dispatch ∷ others
  pub at_host : c.rip ≡ finally_return

module _ (t : Functions) (fs : List Funclet) (program : LinearProgram) (p : ImagePlan) where
  pub search_on_top : (m : Memory) (c : Context) (is : List StackItem) (exception : Exception)
      (resumption : Resumption) (asked : Asked) (items : List Item)
      (acts : List Activation)
      → IsStack t m c is → Linked t fs program p m c is
      (Searches exception resumption asked ∷ items) acts → IsSearchOnTop c is (return_after asked)
  search_on_top m c (Searching r ∷ is) exception resumption (FilterOf asked rest) items acts s h =
      record {
        dispatch = r;
        others = is;
        items = refl;
        at_host = s.0.at_host ∙ ap answer_return h.0.asks.kind;
      }
  search_on_top m c (Searching r ∷ is) exception resumption (VectoredAt place) items acts s h =
      record {
        dispatch = r;
        others = is;
        items = refl;
        at_host = s.0.at_host ∙ ap answer_return h.0.asks.kind;
      }
  search_on_top m c is exception resumption asked items acts s h = absurd h

  pub unwinding_on_top : (m : Memory) (c : Context) (is : List StackItem) (rest : List Region)
      (target : Target) (items : List Item) (acts : List Activation)
      → IsStack t m c is → Linked t fs program p m c is (Unwinds rest target ∷ items) acts
      → IsUnwindingOnTop c is
  unwinding_on_top m c (Unwinding r ∷ is) rest target items acts s h =
      record { dispatch = r; others = is; items = refl; at_host = s.0.at_host }
  unwinding_on_top m c is rest target items acts s h = absurd h
