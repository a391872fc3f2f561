-- A record that is placed below a stack is one item more.
use Rattle.std.proofs.Common.{◌≡◌, ◌⊎◌, ℕ, ◌+◌, ◌%◌, ◌^◌, ◌<◌, ◌≤◌, Bool, true, false, List, refl, sym, ap, ◌∙◌, arith, inl, inr}
use Rattle.std.proofs.lemmas.Bool.{cases_lt}
use Rattle.match_stack.specs.Words.{answer_return, is_asking, Memory, first_refused, may_read, Context, context_of, rsp, Functions, DispatchRecord, placed, RECORD_SIZE, Kind, is_unwinding, finally_return, StackItem, IsStack, IsBetween, RecordIsAt, context_below, Owned, CanBePlaced, RecordIsOneMore}
use Rattle.match_stack.proofs.Lemmas.{none_within, placed_is_fetched, placing_leaves_others}
use Rattle.match_stack.proofs.ExceptionPointers.{placed_points}
use Rattle.match_stack.proofs.StackKeeping.{kept_by_other_stores, nothing_below_is_owned}

-- an executable byte isn't one of the record's
not_executable : (m : Memory) (at x : ℕ) → ((y : ℕ) → IsBetween y (at + 32) (at + RECORD_SIZE)
    → (m.protection y).execute ≡ false) → (m.protection x).execute ≡ true
    → (x < at + 32) ⊎ (at + RECORD_SIZE ≤ x)
not_executable m at x h e = low (cases_lt x (at + 32)) (cases_lt x (at + RECORD_SIZE))
  where
    low : (x < at + 32) ⊎ (at + 32 ≤ x) → (x < at + RECORD_SIZE) ⊎ (at + RECORD_SIZE ≤ x)
        → (x < at + 32) ⊎ (at + RECORD_SIZE ≤ x)
    low (inl p) q = inl p
    low (inr p) (inr q) = inr q
    low (inr p) (inl q) = let f : (m.protection x).execute
        ≡ false = h x (record { low = p; high = q }) in absurd cc

module _ (t : Functions) (m : Memory) (is : List StackItem) (r : DispatchRecord) (at : ℕ)
    (others : List ℕ) where
  top_of : (above : Context) → CanBePlaced m at r above
      → (at + RECORD_SIZE < 2 ^ 64) ⊎ (2 ^ 64 ≤ at + RECORD_SIZE) → at + RECORD_SIZE < 2 ^ 64
  top_of above p (inl q) = q
  top_of above p (inr q) = let a = p.below in let b = p.small in absurd (omega arith)

  -- the record is there, and what was above it still is
  is_there : (address : ℕ) (is_of_kind : Kind → Bool) (above : Context)
      → is_of_kind r.kind ≡ true → CanBePlaced m at r above
      → RecordIsAt (placed m at r) (context_below address at others) r address is_of_kind above
  is_there address is_of_kind above kind p =
      let top = top_of above p (cases_lt (at + RECORD_SIZE) (2 ^ 64)) in
      record {
        at_host = refl;
        fetches = placed_is_fetched m at r top p.bytes p.fits p.readable;
        pointers = placed_points m at r top (let e : (at + 80) % 2 ^ 64 ≡ at + 80 = omega arith in
            ap (first_refused (may_read m) 8) (sym e)
            ∙ none_within (may_read m) RECORD_SIZE 80 8 at (omega arith) (omega arith) p.readable);
        kind = kind;
        above = p.below;
        small = p.small;
      }

  rest_is_at : (above : Context) → CanBePlaced m at r above → IsStack t m above is
      → IsStack t (placed m at r) above is
  unfolding placed
  rest_is_at above p s =
      let top = top_of above p (cases_lt (at + RECORD_SIZE) (2 ^ 64)) in
      kept_by_other_stores t m (placed m at r).byte above is
      (record {
        code = λ x e. placing_leaves_others m at r x top p.fits
            (not_executable m at x p.not_code e);
        owned = λ x o. placing_leaves_others m at r x top p.fits
            (high x o (cases_lt x (rsp above)));
      }) s
    where
      high : (x : ℕ) → Owned above is x → (x < rsp above) ⊎ (rsp above ≤ x)
          → (x < at + 32) ⊎ (at + RECORD_SIZE ≤ x)
      high x o (inl q) = absurd (nothing_below_is_owned t m above is x s q o)
      high x o (inr q) = let a = p.below in inr (omega arith)

pub record_is_one_more : RecordIsOneMore
record_is_one_more t m is r at others = record {
  search = λ k p s. (
    is_there t m is r at others (answer_return r.kind) is_asking (context_of r.saved) k
        p,
    rest_is_at t m is r at others (context_of r.saved) p s,
  );
  unwinding = λ k p s. (
    is_there t m is r at others finally_return is_unwinding r.walk k p,
    rest_is_at t m is r at others r.walk p s,
  );
}
