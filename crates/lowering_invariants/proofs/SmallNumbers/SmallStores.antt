-- Stores and configurations whose numbers have 64 bits.
use Rattle.std.proofs.Common.{◌≡◌, ℕ, ◌-◌, ◌^◌, ◌<◌, List, ◌∷◌, refl, sym, ap, subst, arith}
use Rattle.std.proofs.lemmas.Bool.{lt-ltb}
use Rattle.vectored_list.specs.Laws.{IsProper}
use Rattle.host_layout.specs.declared.range.TheConstants.{DATA_STACK_START, FIRST_DATA_STACK, FIRST_DATA}
use Rattle.flat_memory.specs.Memory.{Memory, first_byte, protected, rights_asked, with_rights}
use Rattle.flat_memory.specs.declared.protection.Rights.{Rights}
use Rattle.source_meaning.specs.Source.{first_memory}
use Rattle.lowering_invariants.specs.SmallNumbers.{HasSmallPointer}
use Rattle.std.specs.Prelude.{true, nat_lt, if◌then◌else◌, get_or, ℤ, Option, Some, None}
use Rattle.lowering_invariants.specs.Words.{BodyName, FunctionBody, FuncletBody, Frame, Item, Waits, Store, Configuration, set_local, left_store, AreSmall, IsSmallFrame, AreSmallItems, HasSmallNumbers}
use Rattle.lowering_invariants.proofs.Moves.{Turn, Moves}
use Rattle.lowering_invariants.proofs.Results.{written_keeps}
use Rattle.lowering_invariants.proofs.SmallNumbers.SmallLists.{AllSmall, left_small, local_small}

pub record IsSmallStore (s : Store) : Type 0 where
  pub locals : AllSmall s.activations
  pub pointer : HasSmallPointer s.memory
  pub handlers : IsProper s.vectored

abbrev pub Over : List Item → Store → Type 0
Over items store = AreSmallItems items × IsSmallStore store

abbrev pub at_rest : Configuration → Type 0
at_rest c = Over (Waits c.frame ∷ c.below) c.store

pub goes : (d : Configuration) → at_rest d → Turn HasSmallNumbers (λ next. next d)
goes d o = Moves d (record {
  items = o.0;
  locals = o.1.locals;
  pointer = o.1.pointer;
  handlers = o.1.handlers;
}) (λ next. refl)

-- this body with other temporaries, and no exception taken over
pub frame_with : (f : Frame) (ts : List ℕ) → AreSmall ts → IsSmallFrame f
    → IsSmallFrame (record f { temporaries = ts })
frame_with f ts h s = record { temporaries = h; exception = s.exception; landed = s.landed }

pub with_local : (s : Store) (k x v : ℕ) → IsSmallStore s → v < 2 ^ 64
    → IsSmallStore (set_local s k x v)
with_local s k x v h lt = record {
  locals = local_small s k x v h.locals lt;
  pointer = h.pointer;
  handlers = h.handlers;
}

pub left_behind : (name : BodyName) (k : ℕ) (s : Store) → IsSmallStore s
    → IsSmallStore (left_store name k s)
left_behind (FunctionBody f) k s h = record {
  locals = left_small (FunctionBody f) k s h.locals;
  pointer = h.pointer;
  handlers = h.handlers;
}
left_behind (FuncletBody j) k s h = h

-- the rights of pages are no bytes
pub protected_keeps : (m : Memory) (at : ℕ) (n : ℤ) → HasSmallPointer m
    → HasSmallPointer (protected m at n)
protected_keeps m at n h = of (rights_asked at n)
  where
    of : (o : Option Rights) → HasSmallPointer (with_rights m at o)
    of None = h
    of (Some r) = h

-- the data stack's pointer, as a run begins
pub first_small : (globals : List ℕ) → HasSmallPointer (first_memory globals)
first_small globals a l r =
    subst (λ b. b < 256) (sym (low_byte a (lt-ltb a FIRST_DATA (omega arith)) globals))
    (started a)
  where
    low_byte : (a : ℕ) → nat_lt a FIRST_DATA ≡ true → (globals : List ℕ)
        → (first_memory globals).byte a ≡ first_byte a
    low_byte a e globals = ap (λ b. if b then first_byte a else get_or globals (a - FIRST_DATA) 0) e

    started : (a : ℕ) → first_byte a < 256
    started a = written_keeps (λ x. 0) 8 DATA_STACK_START FIRST_DATA_STACK a (omega arith)
