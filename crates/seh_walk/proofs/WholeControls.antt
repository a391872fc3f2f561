-- The control addresses of a walk, which no bound cuts off.
use Rattle.std.proofs.Common.{◌≡◌, ℕ, zero, suc, ◌+◌, ◌^◌, ◌<◌, ◌≤◌, refl, ap, arith}
use Rattle.flat_memory.specs.Memory.{Memory}
use Rattle.virtual_unwind.specs.Contexts.{rsp}
use Rattle.virtual_unwind.specs.CallerOf.{Functions}
use Rattle.seh_records.specs.Laws.{AreBytes}
use Rattle.seh_walk.specs.declared.walk.WalkState.{WalkState}
use Rattle.seh_walk.specs.Walk.{Visited, Over, Past, Frame, Broken, visited, steps}
use Rattle.seh_walk.specs.Controls.{Controls, controls, controls_from, with_address}
use Rattle.seh_walk.specs.Laws.{ContinuesAt, ControlsAreOfTheWalk}
use Rattle.seh_walk.proofs.Walking.{walks_rise, walks_stay_below}

module _ (t : Functions) (m : Memory) (octets : AreBytes m.byte) where
  -- where two walks agree from wherever this one continues, they agree here
  agree : (w : WalkState) (x : Visited) (others others' : WalkState → Controls)
      → ((u : WalkState) → ContinuesAt x u → others u ≡ others' u)
      → controls_from others w x ≡ controls_from others' w x
  agree w Over others others' h = refl
  agree w (Past u) others others' h = h u refl
  agree w (Frame f u) others others' h = ap (with_address w.context.rip) (h u refl)
  agree w (Broken y) others others' h = refl

  -- as many steps as there are addresses from RSP on are enough
  enough : (n k : ℕ) (w : WalkState) → rsp w.context < 2 ^ 64 → 2 ^ 64 ≤ n + rsp w.context
      → n ≤ k → controls n t m w ≡ controls k t m w
  unfolding controls
  enough zero k w below many le = absurd (omega arith)
  enough (suc n) zero w below many le = absurd (omega arith)
  enough (suc n) (suc k) w below many le = agree w (visited t m w) (controls n t m)
      (controls k t m)
      (λ u there. let rises = walks_rise t m w u there in
      enough n k u (walks_stay_below t m w u octets below there) (omega arith) (omega arith))

  one_more : (n k : ℕ) (w : WalkState) → n ≡ k + 1 → rsp w.context < 2 ^ 64
      → 2 ^ 64 ≤ n + rsp w.context
      → controls n t m w ≡ controls_from (controls n t m) w (visited t m w)
  unfolding controls
  one_more zero k w e below many = absurd (omega arith)
  one_more (suc n) k w e below many = agree w (visited t m w) (controls n t m)
      (controls (suc n) t m)
      (λ u there. let rises = walks_rise t m w u there in
      enough n (suc n) u (walks_stay_below t m w u octets below there) (omega arith) (omega arith))

pub controls_are_of_the_walk : ControlsAreOfTheWalk
controls_are_of_the_walk t m w octets above below =
    one_more t m octets steps 0xFFFF_FFFF_FFFF_FFFE w refl below (omega arith)
