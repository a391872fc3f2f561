-- The flag of a `__finally` block, and the configuration in which the block begins.
use Rattle.std.proofs.Common.{◌≡◌, ℕ, zero, suc, ◌+◌, ◌<◌, Bool, true, false, Option, Some, None, List, [], ◌∷◌, length, refl, ap, arith}
use Rattle.std.specs.Prelude.{slice_get, slice_set}
use Rattle.match_turns.specs.Words.{W32, low, Event, of_test, no_exception, FuncletKind, LinearBody, FuncletBody, Item, Store, Configuration, set_local, flag_in}
use Rattle.linear_code.specs.declared.program.FuncletKind.TheVariants as funclets

pub same_number : (a b : ℕ) → Some a ≡ Some b → a ≡ b
same_number a b e = cc

pub same_body : (a b : LinearBody) → Some a ≡ Some b → a ≡ b
same_body a b e = cc

pub same_list : (a b : List ℕ) → Some a ≡ Some b → a ≡ b
same_list a b e = cc

-- ---- a place of a list is set

pub set_count : {A : Type 0} → (xs : List A) (i : ℕ) (x : A) → length (slice_set xs i x) ≡ length xs
set_count [] i x = refl
set_count (y ∷ xs) zero x = refl
set_count (y ∷ xs) (suc i) x = ap suc (set_count xs i x)

pub set_here : {A : Type 0} → (xs : List A) (i : ℕ) (x : A) → i < length xs
    → slice_get (slice_set xs i x) i ≡ Some x
set_here [] i x lt = absurd (omega arith)
set_here (y ∷ xs) zero x lt = refl
set_here (y ∷ xs) (suc i) x lt = set_here xs i x (omega arith)

-- ---- flags

pub kind_of_flag : (kind : FuncletKind) (flag : ℕ) → flag_in kind ≡ Some flag
    → kind ≡ funclets.Finally flag
kind_of_flag funclets.Filter flag e = cc
kind_of_flag (funclets.Finally f) flag e = ap (λ n. funclets.Finally n) (same_number f flag e)

pub low_test : (b : Bool) → low W32 (of_test b) ≡ of_test b
low_test true = let z : low W32 1 ≡ 1 = omega arith in z
low_test false = let z : low W32 0 ≡ 0 = omega arith in z

pub nothing_landed : (x : ℕ) → ◌≡◌ {A = Option ℕ} None (Some x) → ⊥
nothing_landed x e = cc

-- the configuration in which a block begins
abbrev pub block_begins : (k flag activation held : ℕ) (abnormal : Bool) → List Item → Store
    → List Event → Configuration
block_begins k flag activation held abnormal items store events = record {
  frame = record {
    body = FuncletBody k;
    next = 0;
    activation = activation;
    exception =
        no_exception;
    held = held + 2;
    temporaries = [];
    landed = None;
  };
  below = items;
  store = set_local store activation flag (of_test abnormal);
  events = events;
}
