-- A memory in which no byte of the image has changed is the machine's, as before.
use Rattle.std.proofs.Common.{◌≡◌, ℕ, List, sym, ap, ◌∙◌}
use Rattle.match_bodies.specs.Words.{Protection, is_writable, Memory, Functions, Funclet, is_hidden, LinearProgram, Agrees, ImagePlan, Sites, IsProgramImage, AreBytes, IsMachineMemory}
use Rattle.match_bodies.proofs.Keeping.ProgramKeeping.{KeepsImage, program_stays}

module _ (t : Functions) (fs : List Funclet) (program : LinearProgram) (p : ImagePlan) (q : Sites)
    (image : IsProgramImage t fs program p q) where
  -- where each page may be used as before
  pub memory_stays : (m m' old source : Memory) → KeepsImage program.globals m m' → AreBytes m'.byte
      → ((a : ℕ) → m'.protection a ≡ m.protection a)
      → Agrees (is_hidden program.globals) m' source
      → IsMachineMemory t fs program p q m old → IsMachineMemory t fs program p q m' source
  memory_stays m m' old source keeps bytes same agrees h = record {
    data_alone = record {
      bytes = bytes;
      no_code = λ a w. ap (λ (g : Protection). g.execute) (same a)
          ∙ h.data_alone.no_code a (ap (λ (g : Protection). is_writable g.rights) (sym (same a)) ∙
          w);
    };
    agrees = agrees;
    stack = λ a l u. ap (λ (g : Protection). is_writable g.rights) (same a) ∙ h.stack a l u;
    arena = λ a e. ap (λ (g : Protection). g.execute) (same a) ∙ h.arena a e;
    code = program_stays t fs program p q image m m' keeps h.code;
  }
