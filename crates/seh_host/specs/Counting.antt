-- How many events there were.
use Rattle.std.proofs.Common.{◌≡◌, ◌+◌, List, [], ◌++◌, length, length-append, add-zero, min, arith, refl, sym, ap, ◌∙◌}
use Rattle.seh_num.specs.declared.event.Event.{Event}
use Rattle.seh_io.specs.Streams.{HasCount, last_count}
use Rattle.seh_host.specs.declared.counting.Counting.{Counting}

-- a receiver gave another one these events, and counted them
pub record CountedEvents {X : Type 0} (took : X → List Event → X → Type 0) (old : Counting X)
    (events : List Event) (new : Counting X) : Type 0 where
  pub given : took old.to.now events new.to.now
  pub count : HasCount (old.count + length events) new.count
  pub same_reference : new.to.ghost_name ≡ old.to.ghost_name

-- ---- no events, and some and then others: lemmas that an impl of `Events` gives as its ghost
-- ---- members, which can cite nothing but specs

pub counted_none : {X : Type 0} (took : X → List Event → X → Type 0) (none : (x : X) → took x [] x)
    (x : Counting X) → CountedEvents took x [] x
counted_none took none x = record {
  given = none x.to.now;
  count = ap (λ n. min n last_count) (sym (add-zero x.count));
  same_reference = refl;
}

pub counted_more : {X : Type 0} (took : X → List Event → X → Type 0)
    (more : (x y z : X) (es fs : List Event) → took x es y → took y fs z → took x (es ++ fs) z)
    (x y z : Counting X) (es fs : List Event) → CountedEvents took x es y
    → CountedEvents took y fs z → CountedEvents took x (es ++ fs) z
counted_more took more x y z es fs p q = record {
  given = more x.to.now y.to.now z.to.now es fs p.given q.given;
  count = omega (arith, p.count, q.count, length-append es fs);
  same_reference = q.same_reference ∙ p.same_reference;
}
