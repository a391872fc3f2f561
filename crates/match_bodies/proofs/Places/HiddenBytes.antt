-- What an operation comes to, where the language says something of it, it comes to also where fewer
-- bytes are refused: those alone that the machine's memory has for itself.
use Rattle.std.proofs.Common.{◌≡◌, ℕ, zero, suc, ◌+◌, ◌<◌, Bool, true, false, cond, not, ◌&&◌, ◌||◌, leb, ltb, List, Option, Some, None, refl, sym, ap, subst, ◌∙◌, arith}
use Rattle.std.proofs.lemmas.Bool.{and_left, or_parts, lt-leb}
use Rattle.host_layout.specs.declared.range.TheConstants.{GUARD_START}
use Rattle.seh_num.specs.declared.width.Width.{Width}
use Rattle.seh_num.specs.Widths.{bytes_of}
use Rattle.flat_memory.specs.Memory.{next}
use Rattle.c_operations.specs.declared.operation.Operation.TheVariants as operations
use Rattle.c_operations.specs.Performed.{Raises, Undefined, accessed, placed, unless_reserved}
use Rattle.c_operations.specs.Performed as performing
use Rattle.match_bodies.specs.Words.{Memory, first_refused, may_read, may_write, Operation, OperationResult, Gives, performed, is_between, is_data, is_reserved, is_hidden, DATA_STACK_START, FIRST_DATA_STACK, STACK_END, IMAGE_BASE, IMAGE_RANGE_END}

-- the language says what comes
abbrev pub IsSaid : OperationResult → Type 0
IsSaid (Gives v m) = Unit {0}
IsSaid (Raises code access) = Unit {0}
IsSaid (Undefined a) = ⊥

module _ (more fewer : ℕ → Bool) (among : (a : ℕ) → more a ≡ false → fewer a ≡ false) where
  none_refused : (n at : ℕ) → first_refused (λ a. not (more a)) n at ≡ None
      → first_refused (λ a. not (fewer a)) n at ≡ None
  unfolding first_refused
  none_refused zero at e = refl
  none_refused (suc n) at e = by (none_refused n (next at)) (more at) refl e
    where
      by : (first_refused (λ a. not (more a)) n (next at) ≡ None
          → first_refused (λ a. not (fewer a)) n (next at) ≡ None) → (b : Bool) → more at ≡ b
          → cond (not b) (first_refused (λ a. not (more a)) n (next at)) (Some at) ≡ None
          → cond (not (fewer at)) (first_refused (λ a. not (fewer a)) n (next at)) (Some at) ≡ None
      by rest true is e = absurd cc
      by rest false is e =
          ap (λ b. cond (not b) (first_refused (λ a. not (fewer a)) n (next at)) (Some at))
          (among at is) ∙ rest e

  unless : (x y : Option ℕ) (out : OperationResult) → (x ≡ None → y ≡ None)
      → IsSaid (unless_reserved x out) → unless_reserved y out ≡ unless_reserved x out
  unless None y out free h = ap (λ z. unless_reserved z out) (free refl)
  unless (Some a) y out free h = absurd h

  said_access : (write : Bool) (may : ℕ → Bool) (n at : ℕ) (out : OperationResult)
      → IsSaid (accessed more write may n at out)
      → accessed fewer write may n at out ≡ accessed more write may n at out
  said_access write may n at out h =
      unless (first_refused (λ a. not (more a)) n at) (first_refused (λ a. not (fewer a)) n at)
      (performing.unless_refused write (first_refused may n at) out) (none_refused n at) h

  none_refused_both : (may : ℕ → Bool) (n at : ℕ)
      → first_refused (λ a. not (more a) && may a) n at ≡ None
      → first_refused (λ a. not (fewer a) && may a) n at ≡ None
  unfolding first_refused
  none_refused_both may zero at e = refl
  none_refused_both may (suc n) at e =
      by (none_refused_both may n (next at)) (more at) (may at) refl refl e
    where
      by : (first_refused (λ a. not (more a) && may a) n (next at) ≡ None
          → first_refused (λ a. not (fewer a) && may a) n (next at) ≡ None) → (b w : Bool)
          → more at ≡ b → may at ≡ w
          → cond (not b && w) (first_refused (λ a. not (more a) && may a) n (next at)) (Some at)
          ≡ None
          → cond (not (fewer at) && may at)
          (first_refused (λ a. not (fewer a) && may a) n (next at)) (Some at) ≡ None
      by rest true w is so e = absurd cc
      by rest false true is so e =
          ap (λ b. cond (not b && may at)
          (first_refused (λ a. not (fewer a) && may a) n (next at)) (Some at)) (among at is)
          ∙ ap (λ b. cond b (first_refused (λ a. not (fewer a) && may a) n (next at)) (Some at)) so
          ∙ rest e
      by rest false false is so e = absurd cc

  said_placed : (w : Width) (at v result : ℕ) (m : Memory) → IsSaid (placed more w at v result m)
      → placed fewer w at v result m ≡ placed more w at v result m
  said_placed w at v result m h =
      unless (first_refused (λ a. not (more a) && may_write m a) (bytes_of w) at)
      (first_refused (λ a. not (fewer a) && may_write m a) (bytes_of w) at) _
      (none_refused_both (may_write m) (bytes_of w) at) h

  said_more : (o : Operation) (a b : ℕ) (m : Memory) → IsSaid (performed more o a b m)
      → performed fewer o a b m ≡ performed more o a b m
  said_more (operations.Pure p) a b m h = refl
  said_more (operations.Divide s z) a b m h = refl
  said_more (operations.Remainder s z) a b m h = refl
  said_more (operations.Load w) a b m h = said_access false (may_read m) (bytes_of w) a _ h
  said_more (operations.Store w) a b m h = said_access true (may_write m) (bytes_of w) a _ h
  said_more (operations.Allocate n) a b m h = refl
  said_more (operations.SetPointer n) a b m h = refl
  said_more (operations.Place w offset) a b m h = said_placed w _ _ _ m h
  said_more (operations.Clear w offset) a b m h = said_placed w _ _ _ m h

module _ (globals : List ℕ) where
  seen : (a : ℕ) → is_reserved globals a ≡ false → is_hidden globals a ≡ false
  seen a e = (or_parts (is_hidden globals a) (is_between DATA_STACK_START FIRST_DATA_STACK a) e).0

  -- what comes where the meaning's reserved bytes are refused comes where the hidden ones are
  pub said_of_hidden : (o : Operation) (a b : ℕ) (m : Memory) (out : OperationResult)
      → IsSaid out → performed (is_reserved globals) o a b m ≡ out
      → performed (is_hidden globals) o a b m ≡ out
  said_of_hidden o a b m out h e =
      said_more (is_reserved globals) (is_hidden globals) seen o a b m (subst IsSaid (sym e) h) ∙ e

  neither : (x y : Bool) → x ≡ false → y ≡ false → (x || y) ≡ false
  neither x y e f = ap (λ t. t || y) e ∙ f

  -- the data stack's pointer isn't hidden
  pub pointer_is_seen : (a : ℕ) → a < DATA_STACK_START + 8 → is_hidden globals a ≡ false
  pointer_is_seen a high =
      neither (is_between GUARD_START STACK_END a)
      (is_between IMAGE_BASE IMAGE_RANGE_END a && not (is_data globals a))
      (and_left (leb GUARD_START a) (ltb a STACK_END) (lt-leb GUARD_START a (omega arith)))
      (and_left (is_between IMAGE_BASE IMAGE_RANGE_END a) (not (is_data globals a))
      (and_left (leb IMAGE_BASE a) (ltb a IMAGE_RANGE_END) (lt-leb IMAGE_BASE a (omega arith))))
