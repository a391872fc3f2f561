-- Operations that raise nothing: where they are undefined, the linear code ends as the meaning
-- does.
use Rattle.std.proofs.Common.{◌≡◌, ℕ, zero, suc, List, [], ◌∷◌, refl, ap, sym, ◌∙◌, arith}
use Rattle.std.specs.Prelude.{Bool, set, get_or, Option, Some, None}
use Rattle.lowering_follows.specs.Words.{Memory, OperationResult, performed, before_last, State, Outcome, set_memory, given, LinearProgram, Store, Configuration, Finished, computed, exec, set_local, local_of}
use Rattle.seh_num.specs.declared.width.Width.{Width}
use Rattle.c_operations.specs.declared.operation.Operation.TheVariants as operations
use Rattle.c_operations.specs.Performed as performing
use Rattle.source_meaning.specs.declared.ended.Ended.TheVariants.{Undefined}
use Rattle.linear_code.specs.declared.slot.Slot.{Slot}
use Rattle.lowering_follows.proofs.Lemmas.{at, Ways, Price, Joined, Claim, first, prefix_self}
use Rattle.lowering_follows.proofs.Stores.{at_list, set_itself}

abbrev pub IsCalm : OperationResult → Type 0
IsCalm (performing.Gives v m) = Unit {0}
IsCalm (performing.Raises code access) = ⊥
IsCalm (performing.Undefined a) = Unit {0}

unless_calm : (o : Option ℕ) (v : ℕ) (m : Memory)
    → IsCalm (performing.unless_reserved o (performing.Gives v m))
unless_calm None v m = tt
unless_calm (Some a) v m = tt

pub place_calm : (reserved : ℕ → Bool) (w : Width) (offset a b : ℕ) (m : Memory)
    → IsCalm (performed reserved (operations.Place w offset) a b m)
place_calm reserved w offset a b m = unless_calm _ _ _

pub clear_calm : (reserved : ℕ → Bool) (w : Width) (offset a b : ℕ) (m : Memory)
    → IsCalm (performed reserved (operations.Clear w offset) a b m)
clear_calm reserved w offset a b m = unless_calm _ _ _

-- ---- what they give

given_is : (o : Option ℕ) (a u : ℕ) (m' m : Memory)
    → performing.unless_reserved o (performing.Gives a m') ≡ performing.Gives u m → u ≡ a
given_is None a u m' m e =
    sym (ap (λ (r : OperationResult). elim r [
      | performing.Gives v m ↦ v
      | performing.Raises code access ↦ 0
      | performing.Undefined a ↦ 0
    ]) e)
given_is (Some b) a u m' m e = absurd (cc)

pub clear_gives : (reserved : ℕ → Bool) (w : Width) (offset a b u : ℕ) (m' m : Memory)
    → performed reserved (operations.Clear w offset) a b m' ≡ performing.Gives u m
    → u ≡ before_last w b
clear_gives reserved w offset a b u m' m e = given_is _ _ u _ m e

pub place_gives : (reserved : ℕ → Bool) (w : Width) (offset a b u : ℕ) (m' m : Memory)
    → performed reserved (operations.Place w offset) a b m' ≡ performing.Gives u m → u ≡ b
place_gives reserved w offset a b u m' m e = given_is _ _ u _ m e

-- ---- a local that takes its own number

value_itself : (xs : List ℕ) (x : ℕ) → set xs x (get_or xs x 0) ≡ xs
value_itself [] x = refl
value_itself (y ∷ ys) zero = refl
value_itself (y ∷ ys) (suc x) = ap (λ zs. y ∷ zs) (value_itself ys x)

pub local_itself : (store : Store) (k x : ℕ) → set_local store k x (local_of store k x) ≡ store
local_itself store k x = ap (λ a. record store { activations = a })
    (ap (set store.activations k) (value_itself (at_list store.activations k) x)
    ∙ set_itself store.activations k)

module _ (linear : LinearProgram) (rate : ℕ) where
  -- a turn that makes such an operation, whose result goes to a slot
  pub calm_turn : (slot : Slot) (c : Configuration) (out : OperationResult)
      (after : ℕ → Memory → Configuration) (st : State) (q r : Price) (w : Ways)
      (go : ℕ → State → Outcome) → IsCalm out → Joined linear rate 1 rate 0 q r
      → c.events ≡ st.events
      → ((k : ℕ) → exec linear (suc k) c ≡ computed linear (exec linear k) slot c out)
      → ((k v : ℕ) (m : Memory) → computed linear (exec linear k) slot c (performing.Gives v m)
      ≡ exec linear k (after v m))
      → ((v : ℕ) (m : Memory) → out ≡ performing.Gives v m
      → Claim linear rate (at (after v m)) (set_memory st m) q w (go v (set_memory st m)))
      → Claim linear rate (at c) st r w (given out st go)
  unfolding given
  calm_turn slot c (performing.Gives v m) after st q r w go calm j e turn next claim =
      first linear rate c (at (after v m)) st (set_memory st m) q r w (go v (set_memory st m)) j
      refl e (prefix_self st.events) (λ k. turn k ∙ next k v m) (claim v m refl)
  calm_turn slot c (performing.Raises code access) after st q r w go calm j e turn next claim =
      absurd calm
  calm_turn slot c (performing.Undefined a) after st q r w go calm j e turn next claim =
      let lr = j.0 in
      record { by = (1, omega arith, turn 0 ∙ ap (Finished (Undefined a)) e) }
