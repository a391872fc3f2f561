-- A step that is matched from the actual configuration is matched.
use Rattle.std.proofs.Common.{◌≡◌, inl, ℕ, ◌+◌, ◌*◌, List, length, ◌++◌, sym, ap, ◌∙◌, arith}
use Rattle.seh_num.specs.declared.event.Event.{Event}
use Rattle.image_runs.specs.Words.{State, Functions, Funclet, Instruction, LinearProgram, Configuration, ImagePlan, Moves, IsMatched, Marks, AreAlike, AgreeOnSet, StepsAgree, Sites, turns_left, held_below, RepresentsAt, Represents, RepresentsWhereSet}
use Rattle.match_runs.proofs.Turns.{comes_nowhere}
use Rattle.match_runs.proofs.Matches.{StepCarries, matched_by}

-- as many temporaries are held
pub same_left : (marks : Marks) (c d : Configuration) → AreAlike marks c d
    → turns_left d ≡ turns_left c
same_left marks c d a = let f = a.frame in let b = a.below in
    λ j. 3 * (length (f j).temporaries + held_below (b j))

module _ (t : Functions) (fs : List Funclet) (program : LinearProgram) (p : ImagePlan) (q : Sites)
    (c d : Configuration) (agreement : AgreeOnSet program c d) (s : State) (i : Instruction)
    (go : StepsAgree program i c d) where
  carries : StepCarries t fs program turns_left (Represents t fs program p q)
      (RepresentsWhereSet t fs program p q) c d i
  carries = record {
    events = agreement.alike.events;
    ends = go.end;
    continues = λ u e acts there. (let g = go.back e acts in record {
      configuration = g.on;
      acts = g.goes;
      events = sym g.agreement.alike.events;
      left = let same = same_left g.agreement.marks g.on e g.agreement.alike in omega arith;
      is_there = record { actual = e; agreement = g.agreement; is_there = there };
    });
  }

  pub carried : (most : ℕ)
      → IsMatched t fs program most turns_left (Represents t fs program p q) s d i
      → IsMatched t fs program most turns_left (RepresentsWhereSet t fs program p q) s c i
  carried most m =
      let same = same_left agreement.marks c d agreement.alike in
      matched_by t fs program turns_left 0 most most
      (Represents t fs program p q) (RepresentsWhereSet t fs program p q) s s c d i
      (comes_nowhere t fs s) (omega arith) carries m

  -- a step that leads to the beginning of an instruction
  pub carried_there : (most : ℕ)
      → Moves t fs program most turns_left (RepresentsAt t fs program p q) s d i
      → Moves t fs program most turns_left (RepresentsWhereSet t fs program p q) s c i
  carried_there most v =
      let x = carries.continues v.state v.configuration v.acts (inl v.is_there) in
      let left = x.left in
      let few = v.few in
      let same = same_left agreement.marks c d agreement.alike in
      record {
        turns = v.turns;
        some = v.some;
        configuration = x.configuration;
        few = omega arith;
        state = v.state;
        events = v.events;
        comes = v.comes;
        acts = x.acts;
        shown = x.events ∙ v.shown
            ∙ ap (λ (es : List Event). es ++ v.events) agreement.alike.events;
        is_there = x.is_there;
      }
