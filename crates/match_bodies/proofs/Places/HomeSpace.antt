-- The home space at the bottom of a caller's frame is its callee's (Microsoft x64 ABI, "Stack
-- allocation"): a change of it leaves the list as it is.
use Rattle.std.proofs.Common.{◌≡◌, inr, ℕ, ◌+◌, ◌≤◌, false, List, [], ◌∷◌, refl, ◌∙◌, arith}
use Rattle.match_bodies.specs.Words.{STACK_START, STACK_END, Memory, with_bytes, Context, context_of, rsp, Functions, Funclet, LinearProgram, DispatchRecord, RECORD_SIZE, Exception, Resumption, FilterOf, VectoredAt, Item, Waits, Searches, Unwinds, StackItem, Framed, Leaf, Searching, Unwinding, IsStack, ItemIsAt, is_asking, answer_return, ImagePlan, Activation, IsLinkedStack, AreLaidOut, KeepsStackBut}
use Rattle.match_bodies.proofs.Lemmas.{in_stack, reads_other, higher, list_kept, own_kept, record_is_at, record_same}
use Rattle.match_stack.proofs.ListKeeping.{misplaced_same}
use Rattle.match_bodies.proofs.Places.ArgumentSpace.{outgoing_is_free}

-- a body that waits at the top has a frame; where nothing waits, there is nothing to keep; the home
-- space of a vectored handler is at the begin of the record, where it has nothing
abbrev pub CallerHasFrame : ImagePlan → List Item → Type 0
CallerHasFrame p [] = Unit {0}
CallerHasFrame p (Waits w ∷ below) = p.leaf w.body ≡ false
CallerHasFrame p (Searches exception resumption (VectoredAt place) ∷ below) = Unit {0}
CallerHasFrame p items = ⊥

module _ (m m' : Memory) (t : Functions) (fs : List Funclet) (program : LinearProgram)
    (p : ImagePlan) (layouts : AreLaidOut program p) where
  module _ (c : Context) (keeps : KeepsStackBut m m' (rsp c) (rsp c) (rsp c + 32))
      (start : STACK_START ≤ rsp c) where
    -- the same bytes with the rights that there were: a record is read past its home space
    abbrev moved : Memory
    moved = with_bytes m m'.byte

    record_moved : (d : DispatchRecord) (is : List StackItem) → IsStack t m c (Searching d ∷ is)
        → rsp c + RECORD_SIZE ≤ STACK_END → ItemIsAt t moved c (Searching d)
    record_moved d is s top = record_same m m'.byte c d (answer_return d.kind) is_asking
        (context_of d.saved)
        (λ a between. let l = between.low in let h = between.high in
        keeps.bytes a (omega arith) (omega arith) (inr (omega arith))) s.0

    -- a suspended search whose vectored handler writes its home space
    under_record : (d : DispatchRecord) (is : List StackItem) (exception : Exception)
        (resumption : Resumption) (place : ℕ) (below : List Item) (acts : List Activation)
        → IsLinkedStack t fs program p m c (Searching d ∷ is)
        (Searches exception resumption (VectoredAt place) ∷ below) acts
        → IsLinkedStack t fs program p m' c (Searching d ∷ is)
        (Searches exception resumption (VectoredAt place) ∷ below) acts
    under_record d is exception resumption place below acts s =
        let high : rsp c + RECORD_SIZE ≤ rsp (context_of d.saved) = s.stack.0.above in
        let l = in_stack t fs program p m (context_of d.saved) is below acts s.stack.1 s.linked.1 in
        let outer = list_kept m m' t fs program p (context_of d.saved) is below acts
        (higher m m' STACK_END (rsp c + 32) (rsp (context_of d.saved)) (omega arith)
        (reads_other m m' (rsp c + 32) STACK_END (record {
          bytes = λ x l u. keeps.bytes x (omega arith) u (inr l);
          protection = keeps.protection;
          code = keeps.code;
          no_more_code = keeps.no_more_code;
        }) (omega arith) (omega arith))) s.stack.1 s.linked.1 in
        let there = reads_other moved m' (rsp c) STACK_END (record {
          bytes = λ x l u. refl;
          protection = keeps.protection;
          code = λ x e. (refl, (keeps.code x e).1);
          no_more_code = keeps.no_more_code;
        }) (omega arith) (omega arith) in
        record {
          stack = (
            record_is_at moved m' STACK_END t fs program p c d (answer_return d.kind) is_asking
                (context_of d.saved) there (omega arith) (record_moved d is s.stack (omega arith)),
            outer.stack,
          );
          linked = (
            record {
              own = own_kept moved m' STACK_END t fs program p (rsp c) d there (omega arith)
                  (record {
                    fits = s.linked.0.own.fits;
                    room = misplaced_same m m'.byte (rsp c) ∙ s.linked.0.own.room;
                  });
              carries = s.linked.0.carries;
              resumes = s.linked.0.resumes;
              asks = s.linked.0.asks;
              near = s.linked.0.near;
            },
            outer.linked,
          );
        }

    pub home_is_free : (is : List StackItem) (items : List Item) (acts : List Activation)
        → CallerHasFrame p items → IsLinkedStack t fs program p m c is items acts
        → IsLinkedStack t fs program p m' c is items acts
    home_is_free [] [] acts o s = record { stack = s.stack; linked = s.linked }
    home_is_free (Framed f ∷ is) [] acts o s = absurd s.linked
    home_is_free (Leaf back ∷ is) [] acts o s = absurd s.linked
    home_is_free (Searching d ∷ is) [] acts o s = absurd s.linked
    home_is_free (Unwinding d ∷ is) [] acts o s = absurd s.linked
    home_is_free is (Waits b ∷ below) acts o s = outgoing_is_free m m' t fs program p layouts 32 c
        keeps start is b below acts (λ code e. omega arith) o s
    home_is_free (Searching d ∷ is) (Searches exception resumption (VectoredAt place) ∷ below) acts
        o
        s = under_record d is exception resumption place below acts s
    home_is_free [] (Searches exception resumption (VectoredAt place) ∷ below) acts o s =
        absurd s.linked
    home_is_free (Framed f ∷ is) (Searches exception resumption (VectoredAt place) ∷ below) acts o
        s = absurd s.linked
    home_is_free (Leaf back ∷ is) (Searches exception resumption (VectoredAt place) ∷ below) acts o
        s = absurd s.linked
    home_is_free (Unwinding d ∷ is) (Searches exception resumption (VectoredAt place) ∷ below) acts
        o s = absurd s.linked
    home_is_free is (Searches exception resumption (FilterOf asked rest) ∷ below) acts o s = absurd
        o
    home_is_free is (Unwinds rest target ∷ below) acts o s = absurd o
