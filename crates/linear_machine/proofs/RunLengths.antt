-- With more turns a run shows more, and an end stays.
use Rattle.std.proofs.Common.{◌≡◌, ℕ, zero, suc, ◌+◌, List, ◌++◌, ◌∷◌, [], refl, subst, arith}
use Rattle.std.specs.Prelude.{Option}
use Rattle.linear_machine.specs.Words.{Event, Exception, IsPrefixOf, LinearProgram, Resumption, Configuration, Seen, Running, Finished, Stuck, ask_at, exec, shown}
use Rattle.source_meaning.specs.State.{walk_events}
use Rattle.linear_machine.proofs.Lemmas.{prefix_self, prefix_then}
use Rattle.linear_machine.proofs.RunEvents.{SeenRelation, turn_keeps, ask_at_keeps}

abbrev pub events_of : Seen → List Event
events_of seen = (shown seen).events

-- b shows what a shows and maybe more, and has ended as a has
abbrev pub More : Seen → Seen → Type 0
More (Running es) b = IsPrefixOf es (events_of b)
More (Finished e es) b = b ≡ Finished e es
More (Stuck es) b = b ≡ Stuck es

-- a shows these events and maybe others, and b more than a
record Keeps (es : List Event) (a b : Seen) : Type 0 where
  front : IsPrefixOf es (events_of a)
  grows : More a b

keeps_less : (es x : List Event) (a b : Seen) → Keeps (es ++ x) a b → Keeps es a b
keeps_less es x a b k = record {
  front = prefix_then es (es ++ x) (events_of a) (x, refl) k.front;
  grows = k.grows;
}

module _ (program : LinearProgram) where
  abbrev keeping : SeenRelation program
  keeping = record {
    keeps = Keeps;
    event = λ es e a b other. keeps_less es (e ∷ []) a b;
    walk = λ called es functions. keeps_less es (walk_events functions);
    finished = λ es e. record { front = prefix_self es; grows = refl };
    stuck = λ es. record { front = prefix_self es; grows = refl };
  }

  none_keeps : (c : Configuration) → Keeps c.events (exec program zero c) (exec program zero c)
  unfolding exec
  none_keeps c = record {
    front = prefix_self c.events;
    grows = prefix_self c.events;
  }

  itself_keeps : (m : ℕ) (c : Configuration) → Keeps c.events (exec program m c) (exec program m c)
  itself_keeps zero c = none_keeps c
  itself_keeps (suc m) c = turn_keeps program keeping m m (itself_keeps m) c

  pub from_none : (m : ℕ) (c : Configuration)
      → IsPrefixOf c.events (events_of (exec program m c))
  from_none m c = (itself_keeps m c).front

  running_more : (m : ℕ) (c : Configuration) → More (exec program zero c) (exec program m c)
  unfolding exec
  running_more m c = from_none m c

  longer_keeps : (n m : ℕ) (c : Configuration)
      → Keeps c.events (exec program n c) (exec program (n + m) c)
  longer_keeps zero m c =
      let e : m ≡ 0 + m = omega arith in
      record {
        front = (none_keeps c).front;
        grows = subst
            (λ k. More (exec program zero c) (exec program k c)) e (running_more m c);
      }
  longer_keeps (suc n) m c =
      let e : suc (n + m) ≡ suc n + m = omega arith in
      subst (λ k. Keeps c.events (exec program (suc n) c) (exec program k c)) e
      (turn_keeps program keeping n (n + m) (longer_keeps n m) c)

  pub longer : (n m : ℕ) (c : Configuration) → More (exec program n c) (exec program (n + m) c)
  longer n m c = (longer_keeps n m c).grows

-- what is shown before any turn where a vectored handler is asked, or the handlers of frames
pub ask_shows : (program : LinearProgram) (handler : Option ℕ) (place : ℕ) (exception : Exception)
    (resumption : Resumption) (c : Configuration) → IsPrefixOf c.events
    (events_of (ask_at program (exec program zero) handler place exception resumption c))
ask_shows program handler place exception resumption c =
    (ask_at_keeps program (keeping program) (exec program zero) (exec program zero)
    (none_keeps program) handler place exception resumption c).front
