-- What an operation gives is a number of 64 bits, and a fault has a code of 32.
use Rattle.std.proofs.Common.{◌≡◌, ℕ, zero, suc, ◌+◌, ◌*◌, ◌/◌, ◌%◌, ◌^◌, ◌<◌, ◌≤◌, refl, sym, ap, subst, arith}
use Rattle.std.proofs.Math.Nat.{div-le_self, mod-le, pow-suc}
use Rattle.std.specs.Prelude.{Bool, true, false, cond, not, ◌&&◌, ◌==◌, nat_lt, if◌then◌else◌, ℤ, Option, Some, None, Result, Ok, Err}
use Rattle.lowering_invariants.specs.Words.{Width, W32, W64, W8, W16, low, signed, wrapped, limit, bytes_of, Memory, next, first_refused, may_read, may_write, number_at, with_number, with_bytes, Signed, Unsigned, Operation, OperationResult, Gives, Raises, Undefined, performed, fault_of, signed_part, unsigned_part, unless_reserved, unless_refused, accessed, IsSmallAccess}
use Rattle.flat_memory.specs.Memory as memory
use Rattle.flat_memory.specs.Memory.{is_among, distance, with_pointer}
use Rattle.c_operations.specs.Performed.{placed, before_last}
use Rattle.seh_num.specs.declared.division.DivFault.{DivFault}
use Rattle.seh_num.specs.declared.division.DivFault.TheVariants.{Zero, Overflow}
use Rattle.seh_num.proofs.Below.{low_below, wrapped_below}
use Rattle.seh_num.specs.Division.{divided_signed, divided_unsigned}
use Rattle.c_operations.specs.declared.operation.Operation.TheVariants as operations
use Rattle.c_operations.specs.Numbers.{width}
use Rattle.host_layout.specs.declared.range.TheConstants.{DATA_STACK_START}
use Rattle.lowering_invariants.specs.SmallNumbers.{HasSmallPointer}
use Rattle.c_operations.proofs.SmallResults.{result_small}

-- ---- widths

of_width : (w : Width) (n : ℕ) → n < limit w → n < 2 ^ 64
of_width W8 n lt = omega arith
of_width W16 n lt = omega arith
of_width W32 n lt = omega arith
of_width W64 n lt = lt

-- ---- all operations

abbrev pub IsSmallOutcome : OperationResult → Type 0
IsSmallOutcome (Gives v m) = v < 2 ^ 64
IsSmallOutcome (Raises code access) = (code.0 < 2 ^ 32) × IsSmallAccess access
IsSmallOutcome (Undefined a) = Unit {0}

fault_small : (e : DivFault) → IsSmallOutcome (fault_of e)
fault_small Zero = (omega arith, tt)
fault_small Overflow = (omega arith, tt)

signed_small : (part : ℤ × ℤ → ℤ) (w : Width) (m : Memory) (r : Result (ℤ × ℤ) DivFault)
    → IsSmallOutcome (signed_part part w m r)
signed_small part w m (Ok x) = of_width w (wrapped w (part x)) (wrapped_below w (part x))
signed_small part w m (Err e) = fault_small e

unsigned_small : (part : ℕ × ℕ → ℕ) (m : Memory) (r : Result (ℕ × ℕ) DivFault)
    → ((x : ℕ × ℕ) → r ≡ Ok x → part x < 2 ^ 64) → IsSmallOutcome (unsigned_part part m r)
unsigned_small part m (Ok x) h = h x refl
unsigned_small part m (Err e) h = fault_small e

divided : (b c : Bool) (q x : ℕ × ℕ) → (if b then Err Zero else (if c then Ok q else Err Overflow))
    ≡ Ok x → q ≡ x
divided true c q x e = absurd (cc)
divided false false q x e = absurd (cc)
divided false true q x e = ap (λ r. elim r [ Ok y ↦ y | Err f ↦ q ]) e

module _ (w : Width) (a b : ℕ) where
  numerator : low w a < 2 ^ 64
  numerator = of_width w (low w a) (low_below w a)

  quotient_small : (x : ℕ × ℕ) → divided_unsigned w (low w a) (low w b) ≡ Ok x → x.0 < 2 ^ 64
  quotient_small x e =
      let p = divided (low w b == 0) (nat_lt (low w a / low w b) (limit w))
      (low w a / low w b, low w a % low w b) x e in
      let d = div-le_self (low w a) (low w b) in
      let n = numerator in
      subst (λ (y : ℕ × ℕ). y.0 < 2 ^ 64) p (omega arith)

  remainder_small : (x : ℕ × ℕ) → divided_unsigned w (low w a) (low w b) ≡ Ok x → x.1 < 2 ^ 64
  remainder_small x e =
      let p = divided (low w b == 0) (nat_lt (low w a / low w b) (limit w))
      (low w a / low w b, low w a % low w b) x e in
      let d = mod-le (low w a) (low w b) in
      let n = numerator in
      subst (λ (y : ℕ × ℕ). y.1 < 2 ^ 64) p (omega arith)

refused_small : (may : ℕ → Bool) (n at a : ℕ) → at < 2 ^ 64 → first_refused may n at ≡ Some a
    → a < 2 ^ 64
unfolding first_refused
refused_small may zero at a lt e = absurd (cc)
refused_small may (suc n) at a lt e = go (refused_small may n (next at) a (omega arith)) (may at) e
  where
    go : (first_refused may n (next at) ≡ Some a → a < 2 ^ 64) → (b : Bool)
        → cond b (first_refused may n (next at)) (Some at) ≡ Some a → a < 2 ^ 64
    go more true e = more e
    go more false e = subst (λ x. x < 2 ^ 64) (ap (λ o. elim o [ None ↦ at | Some y ↦ y ]) e) lt

accessed_small : (reserved : ℕ → Bool) (write : Bool) (may : ℕ → Bool) (n at : ℕ)
    (o : OperationResult) → at < 2 ^ 64 → IsSmallOutcome o
    → IsSmallOutcome (accessed reserved write may n at o)
accessed_small reserved write may n at o lt h = outer (first_refused (λ a. not (reserved a)) n at)
  where
    inner : (r : Option ℕ) → first_refused may n at ≡ r → IsSmallOutcome (unless_refused write r o)
    inner None e = h
    inner (Some a) e = (omega arith, refused_small may n at a lt e)

    outer : (r : Option ℕ) → IsSmallOutcome (unless_reserved r
        (unless_refused write (first_refused may n at) o))
    outer None = inner (first_refused may n at) refl
    outer (Some a) = tt

-- bytes of 8 bits make a number of as many bits as they have
digit_more : (x p n : ℕ) → x < 256 → n < p → x + 256 * n < p * 256
digit_more x p n lx ln = omega arith

few_bits : (f : ℕ → ℕ) (n at : ℕ) → at + n < 2 ^ 64
    → ((a : ℕ) → at ≤ a → a < at + n → f a < 256) → number_at f n at < 256 ^ n
unfolding number_at
few_bits f zero at lt h = omega arith
few_bits f (suc n) at lt h =
    let e : next at ≡ at + 1 = omega arith in
    let r = few_bits f n (at + 1) (omega arith) (λ a p q. h a (omega arith) (omega arith)) in
    let s : number_at f n (next at) < 256 ^ n =
    subst (λ a. number_at f n a < 256 ^ n) (sym e) r in
    subst (λ p. f at + 256 * number_at f n (next at) < p) (sym (pow-suc 256 n))
    (digit_more (f at) (256 ^ n) (number_at f n (next at)) (h at (omega arith) (omega arith)) s)

placed_small : (o : Option ℕ) (v : ℕ) (m : Memory) → v < 2 ^ 64
    → IsSmallOutcome (unless_reserved o (Gives v m))
placed_small None v m lt = lt
placed_small (Some a) v m lt = tt

pub outcome_small : (reserved : ℕ → Bool) (o : Operation) (a b : ℕ) (m : Memory) → a < 2 ^ 64
    → b < 2 ^ 64 → HasSmallPointer m → IsSmallOutcome (performed reserved o a b m)
outcome_small reserved (operations.Pure p) a b m la lb lp = result_small p a b la
outcome_small reserved (operations.Divide Signed z) a b m la lb lp = signed_small (λ x. x.0)
    (width z)
    m (divided_signed (width z) (signed (width z) a) (signed (width z) b))
outcome_small reserved (operations.Divide Unsigned z) a b m la lb lp = unsigned_small (λ x. x.0) m
    (divided_unsigned (width z) (low (width z) a) (low (width z) b)) (quotient_small (width z) a b)
outcome_small reserved (operations.Remainder Signed z) a b m la lb lp = signed_small (λ x. x.1)
    (width z) m (divided_signed (width z) (signed (width z) a) (signed (width z) b))
outcome_small reserved (operations.Remainder Unsigned z) a b m la lb lp = unsigned_small
    (λ x. x.1) m
    (divided_unsigned (width z) (low (width z) a) (low (width z) b)) (remainder_small (width z) a b)
outcome_small reserved (operations.Load w) a b m la lb lp = accessed_small reserved false
    (may_read m)
    (bytes_of w) a (Gives (low w (number_at m.byte (bytes_of w) a)) m) la
    (of_width w (low w (number_at m.byte (bytes_of w) a))
    (low_below w (number_at m.byte (bytes_of w) a)))
outcome_small reserved (operations.Store w) a b m la lb lp = accessed_small reserved true
    (may_write m)
    (bytes_of w) a (Gives b (with_bytes m (with_number m.byte (bytes_of w) a (low w b)))) la lb
outcome_small reserved (operations.Allocate n) a b m la lb lp =
    few_bits m.byte 8 DATA_STACK_START (omega arith) lp
outcome_small reserved (operations.SetPointer n) a b m la lb lp = la
outcome_small reserved (operations.Place w n) a b m la lb lp = placed_small _ b _ lb
outcome_small reserved (operations.Clear w n) a b m la lb lp = placed_small _ _ _ (low_below W64 _)

-- ---- the data stack's pointer, after an operation

-- what an operation gives keeps it
abbrev pub KeepsPointer : OperationResult → Type 0
KeepsPointer (Gives v m) = HasSmallPointer m
KeepsPointer (Raises code access) = Unit {0}
KeepsPointer (Undefined a) = Unit {0}

pub written_keeps : (byte : ℕ → ℕ) (n at v a : ℕ) → byte a < 256 → with_number byte n at v a < 256
unfolding with_number
written_keeps byte n at v a lt = of (is_among n at a)
  where
    of : (b : Bool) → (if b then v / 256 ^ distance at a % 256 else byte a) < 256
    of true = omega arith
    of false = lt

stored_keeps : (m : Memory) (n at v : ℕ) → HasSmallPointer m
    → HasSmallPointer (with_bytes m (with_number m.byte n at v))
stored_keeps m n at v h a l r = written_keeps m.byte n at v a (h a l r)

pub pointed_keeps : (m : Memory) (v : ℕ) → HasSmallPointer m → HasSmallPointer (with_pointer m v)
pointed_keeps m v h = of (first_refused (may_write m) (bytes_of W64) DATA_STACK_START)
  where
    of : (o : Option ℕ) → HasSmallPointer (memory.unless_refused o
        (with_bytes m (with_number m.byte (bytes_of W64) DATA_STACK_START v)) m)
    of None = stored_keeps m (bytes_of W64) DATA_STACK_START v h
    of (Some a) = h

reserved_keeps : (o : Option ℕ) (r : OperationResult) → KeepsPointer r
    → KeepsPointer (unless_reserved o r)
reserved_keeps None r h = h
reserved_keeps (Some a) r h = tt

refused_keeps : (write : Bool) (o : Option ℕ) (r : OperationResult) → KeepsPointer r
    → KeepsPointer (unless_refused write o r)
refused_keeps write None r h = h
refused_keeps write (Some a) r h = tt

accessed_keeps : (reserved : ℕ → Bool) (write : Bool) (may : ℕ → Bool) (n at : ℕ)
    (o : OperationResult) → KeepsPointer o → KeepsPointer (accessed reserved write may n at o)
accessed_keeps reserved write may n at o h =
    reserved_keeps (first_refused (λ a. not (reserved a)) n at) _
    (refused_keeps write (first_refused may n at) o h)

signed_keeps : (part : ℤ × ℤ → ℤ) (w : Width) (m : Memory) (r : Result (ℤ × ℤ) DivFault)
    → HasSmallPointer m → KeepsPointer (signed_part part w m r)
signed_keeps part w m (Ok x) h = h
signed_keeps part w m (Err Zero) h = tt
signed_keeps part w m (Err Overflow) h = tt

unsigned_keeps : (part : ℕ × ℕ → ℕ) (m : Memory) (r : Result (ℕ × ℕ) DivFault)
    → HasSmallPointer m → KeepsPointer (unsigned_part part m r)
unsigned_keeps part m (Ok x) h = h
unsigned_keeps part m (Err Zero) h = tt
unsigned_keeps part m (Err Overflow) h = tt

placed_keeps : (reserved : ℕ → Bool) (w : Width) (at v result : ℕ) (m : Memory)
    → HasSmallPointer m → KeepsPointer (placed reserved w at v result m)
placed_keeps reserved w at v result m h =
    reserved_keeps (first_refused (λ a. not (reserved a) && may_write m a) (bytes_of w) at)
    (Gives result (with_bytes m (with_number m.byte (bytes_of w) at (low w v))))
    (stored_keeps m (bytes_of w) at (low w v) h)

pub outcome_keeps : (reserved : ℕ → Bool) (o : Operation) (a b : ℕ) (m : Memory)
    → HasSmallPointer m → KeepsPointer (performed reserved o a b m)
outcome_keeps reserved (operations.Pure p) a b m h = h
outcome_keeps reserved (operations.Divide Signed z) a b m h =
    signed_keeps (λ x. x.0) (width z) m _ h
outcome_keeps reserved (operations.Divide Unsigned z) a b m h = unsigned_keeps (λ x. x.0) m _ h
outcome_keeps reserved (operations.Remainder Signed z) a b m h =
    signed_keeps (λ x. x.1) (width z) m _ h
outcome_keeps reserved (operations.Remainder Unsigned z) a b m h = unsigned_keeps (λ x. x.1) m _ h
outcome_keeps reserved (operations.Load w) a b m h =
    accessed_keeps reserved false (may_read m) (bytes_of w) a _ h
outcome_keeps reserved (operations.Store w) a b m h =
    accessed_keeps reserved true (may_write m) (bytes_of w) a _
    (stored_keeps m (bytes_of w) a (low w b) h)
outcome_keeps reserved (operations.Allocate n) a b m h = pointed_keeps m _ h
outcome_keeps reserved (operations.SetPointer n) a b m h = pointed_keeps m _ h
outcome_keeps reserved (operations.Place w n) a b m h =
    placed_keeps reserved w (low W64 (a + n)) b b m h
outcome_keeps reserved (operations.Clear w n) a b m h =
    placed_keeps reserved w (low W64 (a + n + before_last w b)) 0 (before_last w b) m h
