-- Codes that save no vector register, undone with vector registers and without.
use Rattle.std.proofs.Common.{◌≡◌, ℕ, Bool, true, false, not, leb, List, [], ◌∷◌, Ok, Err, refl, ap, ◌∙◌}
use Rattle.std.proofs.lemmas.Bool.{and_parts}
use Rattle.flat_memory.specs.Memory.{Memory}
use Rattle.seh_num.specs.Answers.{◌>>=◌}
use Rattle.eh_tables.specs.declared.range.RuntimeFunction.{RuntimeFunction}
use Rattle.eh_tables.specs.declared.code.UnwindOperation.{UnwindOperation}
use Rattle.eh_tables.specs.declared.code.UnwindOperation.TheVariants.{Push, Allocate, SetFrame, Save, SaveVector, MachineFrame}
use Rattle.eh_tables.specs.declared.code.UnwindCode.{UnwindCode}
use Rattle.eh_tables.specs.Infos.{Info}
use Rattle.virtual_unwind.specs.Undone as general
use Rattle.virtual_unwind.specs.Undone.{Answer, Undo, operations, all_undone}
use Rattle.virtual_unwind.specs.CallerOf.{distance, run_or, run_by}
use Rattle.abi_unwind.specs.Undone.{AbiUndo, undone_one, undone}
use Rattle.abi_unwind.specs.Caller.{codes_at, parent_or, chain_undone}
use Rattle.abi_unwind.specs.Laws.{saves_vector, are_run, chain_run}

-- an answer about general registers, with vector registers beside it
abbrev pub beside : List ℕ → Answer Undo → Answer AbiUndo
beside vs r = r >>= λ g. Ok (record { general = g; vectors = vs })

not_true : (a : Bool) → not a ≡ true → a ≡ false
not_true true e = absurd cc
not_true false e = refl

-- all codes are those that have been run
pub all_run : (d : ℕ) (codes : List UnwindCode) → are_run d codes ≡ true → run_by d codes ≡ codes
all_run d [] e = refl
all_run d (x ∷ xs) e = go (leb x.offset d) (and_parts _ _ e).0
  where
    go : (b : Bool) → b ≡ true → run_or (x ∷ xs) (run_by d xs) b ≡ x ∷ xs
    go true h = refl
    go false h = absurd cc

one_beside : (m : Memory) (base : ℕ) (i : Info) (u : AbiUndo) (x : UnwindOperation)
    → saves_vector x ≡ false
    → undone_one m base i u x ≡ beside u.vectors (general.undone_one m base i u.general x)
one_beside m base i u (SaveVector r n) e = absurd cc
one_beside m base i u (Push r) e = refl
one_beside m base i u (Allocate n) e = refl
one_beside m base i u SetFrame e = refl
one_beside m base i u (Save r n) e = refl
one_beside m base i u (MachineFrame n) e = refl

-- what follows an answer that is beside vector registers
beside_then : (vs : List ℕ) (r : Answer Undo) (f : AbiUndo → Answer AbiUndo)
    (g : Undo → Answer Undo)
    → ((w : Undo) → f (record { general = w; vectors = vs }) ≡ beside vs (g w))
    → (beside vs r >>= f) ≡ beside vs (r >>= g)
beside_then vs (Ok w) f g h = h w
beside_then vs (Err e) f g h = refl

pub undone_beside : (m : Memory) (base : ℕ) (i : Info) (codes : List UnwindCode) (d : ℕ)
    (u : AbiUndo) → are_run d codes ≡ true
    → undone m base i (operations codes) u
    ≡ beside u.vectors (general.undone m base i (operations codes) u.general)
undone_beside m base i [] d u e = refl
undone_beside m base i (x ∷ xs) d u e =
    let here = and_parts _ _ e in
    let rest = and_parts _ _ here.1 in
    ap (λ r. r >>= undone m base i (operations xs))
    (one_beside m base i u x.operation (not_true _ rest.0))
    ∙ beside_then u.vectors (general.undone_one m base i u.general x.operation)
    (undone m base i (operations xs)) (general.undone m base i (operations xs))
    (λ w. undone_beside m base i xs d (record { general = w; vectors = u.vectors }) rest.1)

own_beside : (m : Memory) (base d : ℕ) (i : Info) (u : AbiUndo) → are_run d i.codes ≡ true
    → undone m base i (codes_at i d) u
    ≡ beside u.vectors (general.undone m base i (operations i.codes) u.general)
own_beside m base d i u e =
    ap (λ cs. undone m base i (operations cs) u) (all_run d i.codes e)
    ∙ undone_beside m base i i.codes d u e

pub chain_beside : (m : Memory) (base rva : ℕ) (r : RuntimeFunction) (i : Info) (ps : List Info)
    (u : AbiUndo) → chain_run rva r i ps ≡ true
    → chain_undone m base rva r i ps u
    ≡ beside u.vectors
    (general.undone m base i (operations i.codes) u.general >>= all_undone m base ps)
chain_beside m base rva r i [] u e =
    own_beside m base (distance r.begin rva) i u e
    ∙ ap (beside u.vectors) (last (general.undone m base i (operations i.codes) u.general))
  where
    last : (r : Answer Undo) → r ≡ (r >>= all_undone m base [])
    last (Ok w) = refl
    last (Err e) = refl
chain_beside m base rva r i (p ∷ ps) u e =
    let parts = and_parts _ _ e in
    ap (λ x. x >>= chain_undone m base rva (parent_or r i.parent) p ps)
    (own_beside m base (distance r.begin rva) i u parts.0)
    ∙ beside_then u.vectors (general.undone m base i (operations i.codes) u.general)
    (chain_undone m base rva (parent_or r i.parent) p ps) (all_undone m base (p ∷ ps))
    (λ w. chain_beside m base rva (parent_or r i.parent) p ps
    (record { general = w; vectors = u.vectors }) parts.1)
