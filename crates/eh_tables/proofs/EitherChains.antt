-- One info more of a chain whose infos have version 1 or 2.
use Rattle.std.proofs.Common.{◌≡◌, ℕ, zero, suc, ◌+◌, ◌<◌, Some, None, Ok, Err, List, [], ◌∷◌, ◌++◌, sym, ap, ◌∙◌, arith}
use Rattle.std.proofs.lemmas.List.{append-nil}
use Rattle.eh_tables.specs.Words.{Image, RuntimeFunction, TableErr, ◌>>=◌, onto, prepend, Table, Info}
use Rattle.eh_tables.specs.declared.refusal.TableErr.TheVariants as refusals
use Rattle.eh_tables.specs.EitherInfos.{info}
use Rattle.eh_tables.specs.EitherEntries.{parents}
use Rattle.eh_tables.proofs.Chains.{onto_more}

module _ (image : Image) (index : ℕ) (xs : List Info) where
  pub none_follows : (n : ℕ) → Ok xs ≡ onto xs (parents n image index None)
  none_follows zero = sym (ap (λ (t : List Info). Ok t) (append-nil xs))
  none_follows (suc n) = sym (ap (λ (t : List Info). Ok t) (append-nil xs))

  pub no_room : (n : ℕ) (r : RuntimeFunction) → n ≡ 0
      → Err (refusals.ChainLong index) ≡ onto xs (parents n image index (Some r))
  no_room zero r e = cc
  no_room (suc n) r e = absurd (omega arith)

  pub refused_there : (n : ℕ) (r : RuntimeFunction) (e : TableErr) → 0 < n
      → info image index r.unwind_info ≡ Err e
      → Err e ≡ onto xs (parents n image index (Some r))
  refused_there zero r e lt is = absurd (omega arith)
  refused_there (suc n) r e lt is = sym (ap
      (λ (t : Table Info). onto xs (t >>= λ i. prepend i (parents n image index i.parent))) is)

  pub one_more : (n m : ℕ) (r : RuntimeFunction) (i : Info) → n ≡ m + 1
      → info image index r.unwind_info ≡ Ok i
      → onto (xs ++ (i ∷ [])) (parents m image index i.parent)
      ≡ onto xs (parents n image index (Some r))
  one_more zero m r i e is = absurd (omega arith)
  one_more (suc n) m r i e is =
      let h : n ≡ m = omega arith in
      ap (λ k. onto (xs ++ (i ∷ [])) (parents k image index i.parent)) (sym h)
      ∙ sym (onto_more xs i (parents n image index i.parent))
      ∙ sym (ap
      (λ (t : Table Info). onto xs (t >>= λ j. prepend j (parents n image index j.parent))) is)

pub ruleset chain_steps = (none_follows, no_room, refused_there, one_more)
