-- A suspended search or unwinding is one item more.
use Rattle.std.proofs.Common.{ℕ, ◌^◌, ◌<◌, List, ◌∷◌, refl, sym, subst, ◌∙◌, arith}
use Rattle.match_stack.specs.Words.{Memory, with_bytes, Context, context_of, rsp, Functions, DispatchRecord, placed, filter_return, finally_return, vectored_return, answer_return, Funclet, LinearProgram, Item, Searches, Unwinds, StackItem, Searching, Unwinding, context_below, ImagePlan, Activation, IsLinkedStack, On, RecordHasRoom, RecordLeavesTheList, SearchIsOneMore, UnwindingIsOneMore}
use Rattle.seh_records.specs.declared.dispatch.Kind.{Kind}
use Rattle.seh_records.specs.declared.dispatch.Kind.TheVariants as kinds
use Rattle.match_stack.proofs.ListKeeping.{misplaced_same, kept_by_stores_below}
use Rattle.match_stack.proofs.RecordMemory.{bytes, pushed_is, keeps_above, data_pushed, record_pushed, pointers_pushed, placed_keeps_above, data_placed}

module _ (t : Functions) (fs : List Funclet) (program : LinearProgram) (p : ImagePlan) (m : Memory)
    (at : ℕ) (r : DispatchRecord) (back : ℕ) (c : Context) (is : List StackItem) (items : List Item)
    (acts : List Activation) (on : On t fs program p m c is items acts)
    (room : RecordHasRoom m at r (rsp c)) (small : back < 2 ^ 64) where
  -- what was above is there still
  pub others_are_at : IsLinkedStack t fs program p
      (with_bytes m (bytes m at r back (rsp c) on.data_alone room small)) c is items acts
  others_are_at =
      kept_by_stores_below t fs program p m (bytes m at r back (rsp c) on.data_alone room small) c
      is items acts (keeps_above m at r back (rsp c) on.data_alone room small (rsp c) room.below)
      on.is_there

pub record_leaves_the_list : RecordLeavesTheList
unfolding placed
record_leaves_the_list t fs program p m at r c is items acts on room = record {
  is_there = kept_by_stores_below t fs program p m (placed m at r).byte c is items acts
      (placed_keeps_above m at r 0 (rsp c) on.data_alone room (omega arith) (rsp c) room.below)
      on.is_there;
  data_alone = data_placed m at r 0 (rsp c) on.data_alone room (omega arith);
}

-- the host's return addresses are low
pub return_small : (k : Kind) → answer_return k < 2 ^ 64
return_small kinds.Search = let e : filter_return < 2 ^ 64 = omega arith in e
return_small kinds.ExceptionUnwind = let e : filter_return < 2 ^ 64 = omega arith in e
return_small kinds.LocalUnwind = let e : filter_return < 2 ^ 64 = omega arith in e
return_small kinds.Vectored = let e : vectored_return < 2 ^ 64 = omega arith in e

pub search_is_one_more : SearchIsOneMore
search_is_one_more t fs program p m at r is items acts exception resumption asked others on kind
    room s =
    let c = context_of r.saved in
    let back = answer_return r.kind in
    let small : back < 2 ^ 64 = return_small r.kind in
    let new = bytes m at r back (rsp c) on.data_alone room small in
    let outer = others_are_at t fs program p m at r back c is items acts on room small in
    subst (λ (n : Memory). On t fs program p n (context_below back at others)
    (Searching r ∷ is) (Searches exception resumption asked ∷ items) acts)
    (sym (pushed_is m at r back (rsp c) on.data_alone room small))
    (record {
      is_there = record {
        stack = (
          record {
            at_host = refl;
            fetches = record_pushed m at r back (rsp c) on.data_alone
                room small;
            pointers = pointers_pushed m at r back (rsp c) on.data_alone room
                small;
            kind = kind;
            above = room.below;
            small = room.small;
          },
          outer.stack,
        );
        linked = (
          record {
            own = record { fits = s.own.fits; room = misplaced_same m new at ∙ s.own.room };
            carries = s.carries;
            resumes = s.resumes;
            asks = s.asks;
            near = s.near;
          },
          outer.linked,
        );
      };
      data_alone = data_pushed m at r back (rsp c) on.data_alone room small;
    })

pub unwinding_is_one_more : UnwindingIsOneMore
unwinding_is_one_more t fs program p m at r is items acts rest target others on kind room s =
    let small : finally_return < 2 ^ 64 = omega arith in
    let new = bytes m at r finally_return (rsp r.walk) on.data_alone room small in
    let outer = others_are_at t fs program p m at r finally_return r.walk is items acts on room
    small in
    subst (λ (n : Memory). On t fs program p n (context_below finally_return at others)
    (Unwinding r ∷ is) (Unwinds rest target ∷ items) acts)
    (sym (pushed_is m at r finally_return (rsp r.walk) on.data_alone room small))
    (record {
      is_there = record {
        stack = (
          record {
            at_host = refl;
            fetches = record_pushed m at r finally_return (rsp r.walk)
                on.data_alone room small;
            pointers = pointers_pushed m at r finally_return (rsp r.walk)
                on.data_alone room small;
            kind = kind;
            above = room.below;
            small = room.small;
          },
          outer.stack,
        );
        linked = (
          record {
            own = record { fits = s.own.fits; room = misplaced_same m new at ∙ s.own.room };
            purpose = s.purpose;
            row = s.row;
            aimed = s.aimed;
            space = s.space;
          },
          outer.linked,
        );
      };
      data_alone = data_pushed m at r finally_return (rsp r.walk) on.data_alone room small;
    })
