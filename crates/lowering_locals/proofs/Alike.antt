-- Configurations that are alike continue alike.
use Rattle.std.proofs.Common.{◌≡◌, ℕ, zero, suc, ◌-◌, List, ◌∷◌, refl, sym, ap, subst, ◌∙◌}
use Rattle.std.proofs.lemmas.List.{length-replicate}
use Rattle.std.specs.Prelude.{replicate}
use Rattle.lowering_locals.specs.Words.{Instruction, LinearProgram, Waits, Configuration, waiting, act, main_arguments, exec, IsTurn, Comes, Marks, next_marks, AreActivationsAlike, AreAlike, GoAlike, ComesMarked, called, StepsAreAlike, CallsAreAlike, called_with, StartsAreAlike, MarkedIsReached, MarkedContinues}
use Rattle.linear_code.specs.declared.instruction.Instruction.TheVariants as instructions
use Rattle.lowering_invariants.proofs.Same.{alike_is_same}
use Rattle.lowering_locals.proofs.Lists.{as_long, begun_alike}
use Rattle.lowering_locals.proofs.TurnPairs.{over, Both, Halt, Move, ends_or_moves}
use Rattle.lowering_locals.proofs.Steps.{Led, called_alike, act_both}

-- ---- the one with the other's locals

pub is_over : (marks : Marks) (c d : Configuration) → AreAlike marks c d
    → over c d.store.activations ≡ d
is_over marks c d a =
    let f = sym a.frame in
    let b = sym a.below in
    let m = sym a.memory in
    let v = sym a.handlers in
    let e = sym a.events in
    λ j. record {
      frame = f j;
      below = b j;
      store =
          record { memory = m j; activations = d.store.activations; vectored = v j };
      events = e j;
    }

pub over_alike : (marks : Marks) (c : Configuration) (ys : List (List ℕ))
    → AreActivationsAlike marks c.store.activations ys → AreAlike marks c (over c ys)
over_alike marks c ys h = record {
  frame = refl;
  below = refl;
  memory = refl;
  handlers = refl;
  events = refl;
  activations = h;
}

-- ---- steps

module _ (program : LinearProgram) (i : Instruction) (marks : Marks) (c : Configuration)
    (ys : List (List ℕ)) (h : AreActivationsAlike marks c.store.activations ys) where
  both_alike : Both (Led program marks c ys h i) (λ next. act program i next c)
      (λ next. act program i next (over c ys)) → GoAlike program i marks c (over c ys)
  unfolding exec
  both_alike (Halt s e g) = record {
    forth = λ d t. absurd (ends_or_moves (λ next. act program i next c) s d e t);
    back = λ d t. absurd (ends_or_moves (λ next. act program i next (over c ys)) s d g t);
    end = λ seen t next. g next ∙ sym (e next) ∙ t next;
    back_end = λ seen t next. e next ∙ sym (g next) ∙ t next;
    seen = g (exec program 0) ∙ sym (e (exec program 0));
  }
  both_alike (Move d zs r e g) = record {
    forth = λ d' t. (
      over d zs,
      record {
        one = t;
        other = g;
        alike = subst (λ z. AreAlike (next_marks program i c z marks) z (over d zs))
            (alike_is_same d d' (λ next. sym (e next) ∙ t next))
            (over_alike (next_marks program i c d marks) d zs r);
      },
    );
    back = λ d' t. (
      d,
      record {
        one = e;
        other = t;
        alike = subst (λ z. AreAlike (next_marks program i c d marks) d z)
            (alike_is_same (over d zs) d' (λ next. sym (g next) ∙ t next))
            (over_alike (next_marks program i c d marks) d zs r);
      },
    );
    end = λ seen t. absurd (ends_or_moves (λ next. act program i next c) seen d t e);
    back_end = λ seen t. absurd (ends_or_moves (λ next. act program i next (over c ys)) seen
        (over d zs) t g);
    seen = g (exec program 0) ∙ sym (e (exec program 0));
  }

pub steps_are_alike : StepsAreAlike
steps_are_alike program i marks c d a s =
    subst (λ z. GoAlike program i marks c z) (is_over marks c d a)
    (both_alike program i marks c d.store.activations a.activations
    (act_both program marks c d.store.activations a.activations i s))

-- ---- functions that begin

pub calls_are_alike : CallsAreAlike
calls_are_alike program marks c d f first count function arguments values a e g n =
    let ys = d.store.activations in
    let x = called c d f first function arguments values in
    let same : called_with c (over c ys) f first function arguments values
    ≡ called_with c d f first function arguments values =
    ap (λ z. called_with c z f first function arguments values) (is_over marks c d a) in
    subst (λ z. AreAlike (next_marks program (instructions.Call f first count) c x marks) x z) same
    (record {
      frame = ap (λ k. record x.frame { activation = k })
          (as_long marks c.store.activations ys a.activations);
      below = refl;
      memory = refl;
      handlers = refl;
      events = refl;
      activations = called_alike program marks c ys a.activations f first count function arguments
          values (Waits (waiting c first).frame ∷ c.below) e g n;
    })

pub starts_are_alike : StartsAreAlike
starts_are_alike program arg main values n =
    let rest = main.body.locals - main.parameters in
    record {
      frame = refl;
      below = refl;
      memory = refl;
      handlers = refl;
      events = refl;
      activations = (
        begun_alike (main_arguments main.parameters arg) (replicate rest 0) values rest
            (length-replicate rest 0) n,
        tt,
      );
    }

-- ---- runs with their marks

module _ (program : LinearProgram) where
  without_marks : (n : ℕ) (c : Configuration) (marks : Marks) (d : Configuration) (ends : Marks)
      → ComesMarked program n c marks d ends → Comes program n c d
  without_marks zero c marks d ends h = h.0
  without_marks (suc n) c marks d ends h = (
    h.0,
    h.1,
    without_marks n h.0 (next_marks program h.1.instruction c h.0 marks) d ends h.2,
  )

  one_turn : (c d e : Configuration) (marks ends : Marks) → c ≡ d → marks ≡ ends
      → (t : IsTurn program d e) → ComesMarked program (suc zero) c marks e
      (next_marks program t.instruction d e ends)
  one_turn c d e marks ends same marked =
      subst (λ z. (t : IsTurn program z e) → ComesMarked program (suc zero) c marks e
      (next_marks program t.instruction z e ends)) same
      (λ t. (e, t, (refl, ap (λ m. next_marks program t.instruction c e m) marked)))

  one_more_turn : (n : ℕ) (c : Configuration) (marks : Marks) (d e : Configuration) (ends : Marks)
      → ComesMarked program n c marks d ends → (t : IsTurn program d e)
      → ComesMarked program (suc n) c marks e (next_marks program t.instruction d e ends)
  one_more_turn zero c marks d e ends h t = one_turn c d e marks ends h.0 h.1 t
  one_more_turn (suc n) c marks d e ends h t = (
    h.0,
    h.1,
    one_more_turn n h.0 (next_marks program h.1.instruction c h.0 marks) d e ends h.2
        t,
  )

pub marked_is_reached : MarkedIsReached
marked_is_reached program c marks r = record {
  argument = r.argument;
  main = r.main;
  is_main = r.is_main;
  turns = r.turns;
  comes = without_marks program r.turns _ _ c marks r.comes;
}

pub marked_continues : MarkedContinues
marked_continues program c d marks r t = record {
  argument = r.argument;
  main = r.main;
  is_main = r.is_main;
  turns = suc r.turns;
  comes = one_more_turn program r.turns _ _ c d marks r.comes t;
}
