-- A state that represents a configuration hasn't ended.
use Rattle.std.proofs.Common.{◌≡◌, ◌<◌, inl, inr, arith}
use Rattle.std.proofs.lemmas.Bool.{ne_eqb}
use Rattle.std.specs.Prelude.{List}
use Rattle.image_runs.specs.Words.{State, Functions, Funclet, LinearProgram, Configuration, ImagePlan, Sites, IsProgramImage, InBody, Represents, IsLive}
use Rattle.match_bodies.specs.Setting.{setting_of}
use Rattle.image_runs.proofs.Lemmas.{label_near}

module _ (t : Functions) (fs : List Funclet) (program : LinearProgram) (p : ImagePlan) (q : Sites)
    (image : IsProgramImage t fs program p q) where
  -- a body's code is in the image, above 0
  above : (s : State) (c : Configuration) → InBody t fs program p q s c
      → 0 < p.address c.frame.body c.frame.next
  above s c b =
      let low = (label_near (setting_of t fs program p q image) c.frame.body b.slots.code
      b.slots.body c.frame.next).0 in
      omega arith

  is_live : (s : State) → 0 < s.cpu.rip → IsLive s
  is_live s h = ne_eqb s.cpu.rip 0 (λ e. (let z : s.cpu.rip ≡ 0 = e in omega arith))

  pub live : (s : State) (c : Configuration) → Represents t fs program p q s c → IsLive s
  live s c (inl b) = let z = above s c b.body in let e = b.rip in is_live s (omega arith)
  live s c (inr w) = let z = above s c w.body in let e = w.again.here in is_live s (omega arith)
