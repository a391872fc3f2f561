-- The frames of a stack that linear code's list describes are the live ones.
use Rattle.std.proofs.Common.{◌≡◌, ℕ, ◌+◌, Bool, Some, List, [], ◌∷◌, length, drop, refl, sym, ap, subst, ◌∙◌, arith}
use Rattle.std.specs.Prelude.{slice_set}
use Rattle.std.proofs.lemmas.Bool.{false≢true}
use Rattle.virtual_unwind.specs.Contexts.{get}
use Rattle.image_runs.specs.Words.{Memory, Context, context_of, rsp, Functions, Funclet, LinearProgram, Asked, FilterOf, VectoredAt, Item, Waits, Searches, Unwinds, StackItem, Framed, Leaf, Searching, Unwinding, IsStack, after_frame, after_leaf, ImagePlan, Activation, activations_below, BodyWaits, Linked, temporaries_end, ReturnsTo, Sites, IsProgramImage, slots_end, last_temporary, back_to, AreFrames}
use Rattle.image_runs.proofs.Lemmas.{set_head, leaf_layout, frame_size, frame_told}
use Rattle.seh_records.specs.declared.dispatch.DispatchRecord.{DispatchRecord}
use Rattle.match_stack.specs.Stack.{answer_return}
use Rattle.match_stack.specs.ItemMatches.{Awaits}
use Rattle.image_runs.specs.LiveFrames.{answers_to, KeepsCaller}
use Rattle.image_runs.proofs.WalkFrames.{frames}

set_rest : (kept : List ℕ) (v : ℕ) → drop 1 (slice_set kept 0 v) ≡ drop 1 kept
set_rest [] v = refl
set_rest (k ∷ ks) v = refl

module _ (t : Functions) (fs : List Funclet) (program : LinearProgram) (p : ImagePlan) where
  -- as many items on both sides
  pub as_many : (m : Memory) (c : Context) (is : List StackItem) (items : List Item)
      (acts : List Activation) → Linked t fs program p m c is items acts → length is ≡ length items
  as_many m c [] [] acts l = refl
  as_many m c (Framed f ∷ is) (Waits b ∷ below) acts l = let n = as_many m (after_frame c f) is
      below (activations_below b.body acts) l.2 in omega arith
  as_many m c (Leaf back ∷ is) (Waits b ∷ below) acts l = let n = as_many m (after_leaf c back) is
      below (activations_below b.body acts) l.2 in omega arith
  as_many m c (Searching r ∷ is) (Searches exception resumption asked ∷ below) acts l =
      let n = as_many m (context_of r.saved) is below acts l.1 in omega arith
  as_many m c (Unwinding r ∷ is) (Unwinds rest target ∷ below) acts l = let n = as_many m r.walk is
      below acts l.1 in omega arith
  as_many m c is items acts l = absurd l

  -- what a record waits for returns to the host's address for it
  answers : (r : DispatchRecord) (asked : Asked) (is : List StackItem) (below : List Item)
      → Awaits t fs program p r asked is below → answer_return r.kind ≡ answers_to asked
  answers r (FilterOf h rest) is below a = ap answer_return a.kind
  answers r (VectoredAt place) is below a = ap answer_return a.kind

  -- a body returns to where the walk continues
  back : (m : Memory) (c : Context) (is : List StackItem) (items : List Item)
      (acts : List Activation) → IsStack t m c is → Linked t fs program p m c is items acts
      → ReturnsTo t fs program p items c.rip → back_to t fs program p items ≡ Some c.rip
  back m c [] [] acts s l r = ap (λ (a : ℕ). Some a) (sym r)
  back m c (Framed f ∷ is) (Waits b ∷ below) acts s l r = r
  back m c (Leaf up ∷ is) (Waits b ∷ below) acts s l r = r
  back m c (Searching d ∷ is) (Searches exception resumption asked ∷ below) acts s l r = ap
      (λ (a : ℕ). Some a) (sym (s.0.at_host ∙ answers d asked is below l.0.asks))
  back m c (Unwinding d ∷ is) (Unwinds rest target ∷ below) acts s l r = ap (λ (a : ℕ). Some a)
      (sym s.0.at_host)
  back m c is items acts s l r = absurd l

  module _ (q : Sites) (image : IsProgramImage t fs program p q) where
    pub are_frames : (m : Memory) (c : Context) (is : List StackItem) (items : List Item)
        (acts : List Activation) → IsStack t m c is → Linked t fs program p m c is items acts
        → AreFrames t fs program p m c items acts (frames c is)
    are_frames m c [] [] acts s l = (s, l.0)
    are_frames m c (Framed f ∷ is) (Waits b ∷ below) acts s l =
        let y = p.layout b.body in
        let w = l.0.waits in
        let size = frame_size t fs program p q image m c f b.body w.code w.label w.body l.0.framed
        l.0.entry s.0 in
        let caller = after_frame c f in (
          record {
            now = get c;
            found = λ e. refl;
            waits = subst (λ (leaf : Bool). BodyWaits t fs program p m c (get c) (slots_end y leaf)
                (last_temporary y b.body leaf) b acts) (sym l.0.framed)
                (subst (λ n. BodyWaits t fs program p m c (get c) n (temporaries_end y b.body n) b
                acts) l.0.slots w);
            at = refl;
            back = back m (after_frame c f) is below (activations_below b.body acts) s.1 l.2
                l.0.returns;
            after = ap (λ n. rsp c + n + 8) size;
            kept = subst (λ (leaf : Bool). KeepsCaller t fs program p m c b.body leaf caller)
                (sym l.0.framed)
                (frame_told t fs program p q image m c f b.body w.code w.label w.body l.0.framed
                l.0.entry l.0.slots s.0);
          },
          are_frames m (after_frame c f) is below (activations_below b.body acts) s.1 l.2,
        )
    are_frames m c (Leaf up ∷ is) (Waits b ∷ below) acts s l =
        let y = p.layout b.body in
        let w = l.0.waits in
        let none = leaf_layout t fs program p q b.body w.code l.0.leaf
        (image.laid_out b.body w.code w.body) in
        let next = rsp c + 8 in (
          record {
            now = l.0.now;
            found = λ e. absurd (false≢true (sym e ∙ l.0.leaf));
            waits = subst (λ (leaf : Bool). BodyWaits t fs program p m c l.0.now (slots_end y leaf)
                (last_temporary y b.body leaf) b acts) (sym l.0.leaf) w;
            at = refl;
            back = back m (after_leaf c up) is below (activations_below b.body acts) s.1 l.2
                l.0.returns;
            after = set_head c.kept next (let k = s.0.kept in omega arith)
                ∙ (let z = none.frame in let e : next ≡ rsp c + y.frame + 8 = omega arith in e);
            kept = subst (λ (leaf : Bool). KeepsCaller t fs program p m c b.body leaf
                (after_leaf c up)) (sym l.0.leaf) (set_rest c.kept next);
          },
          are_frames m (after_leaf c up) is below (activations_below b.body acts) s.1 l.2,
        )
    are_frames m c (Searching r ∷ is) (Searches exception resumption asked ∷ below) acts s l
        = (
          r,
          record {
            here = s.0.at_host ∙ answers r asked is below l.0.asks;
            is = s.0.fetches;
          },
          are_frames m (context_of r.saved) is below acts s.1 l.1,
        )
    are_frames m c (Unwinding r ∷ is) (Unwinds rest target ∷ below) acts s l = (
      r,
      record { here = s.0.at_host; is = s.0.fetches },
      are_frames m r.walk is below acts s.1 l.1,
    )
    are_frames m c is items acts s l = absurd l
