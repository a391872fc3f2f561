-- What the run of a prologue rests on: the sizes of its instructions, its codes in the order of
-- execution, and registers.
use Rattle.std.proofs.Common.{◌≡◌, ◌≢◌, ℕ, ◌+◌, true, false, List, [], ◌∷◌, length, Ok, refl, sym, ap, ◌∙◌, arith}
use Rattle.std.proofs.lemmas.Bool.{false≢true}
use Rattle.std.specs.Prelude.{slice_index}
use Rattle.x64_templates.specs.Straight.{local_registers, other_registers}
use Rattle.x64_templates.specs.Words.{Instr, Steps, is_encodable, chosen, State, with_rip, effect, MachineView, machine, size, sizes, HasCode}
use Rattle.eh_tables.specs.declared.code.UnwindOperation.{UnwindOperation}
use Rattle.eh_tables.specs.declared.code.UnwindOperation.TheVariants.{Allocate}
use Rattle.virtual_unwind.specs.Contexts.{is_nonvolatile}
use Rattle.frame_rules.specs.Bytes.{spell}
use Rattle.frame_rules.specs.Codes.{are_pushes}
use Rattle.frame_rules.specs.Plan.{spelled_by, turned}
use Rattle.frame_rules.specs.Prologue.{bytes}
use Rattle.frame_rules.proofs.Order.{Ordered, allocate}
use Rattle.frame_rules.proofs.Order.{AllFollow}
use Rattle.frame_rules.proofs.Prologues.{Good, good_rest}
use Rattle.x64_templates.proofs.PlacedCode.{bytes_split}
use Rattle.x64_templates.proofs.Straight.{one_steps}

-- ---- sizes

-- those of fetched instructions
pub bytes_sizes : (is : List Instr) → bytes (spelled_by spell is) ≡ sizes is
unfolding size
bytes_sizes [] = refl
bytes_sizes (i ∷ is) = ap (λ (n : ℕ). size i + n) (bytes_sizes is)

-- ---- codes in the order of execution

pub turned_back : (done xs : List UnwindOperation) → turned [] (turned done xs) ≡ turned xs done
turned_back done [] = refl
turned_back done (x ∷ xs) = turned_back (x ∷ done) xs

pub good_before : (f n : ℕ) (done xs : List UnwindOperation) → Good f n (turned done xs)
    → Good f n done
good_before f n done [] g = g
good_before f n done (x ∷ xs) g = good_rest f n x done (good_before f n (x ∷ done) xs g)

pub follow_before : (f : ℕ) (done xs : List UnwindOperation) → AllFollow f (turned done xs)
    → AllFollow f done
follow_before f done [] g = g
follow_before f done (x ∷ xs) g = (follow_before f (x ∷ done) xs g).1

-- ---- registers as templates see them

-- they are those of their numbers
pub registers_are : (rs : List ℕ) → length rs ≡ 16
    → rs ≡ slice_index rs 0 ∷ slice_index rs 1 ∷ slice_index rs 2 ∷ slice_index rs 3
    ∷ slice_index rs 4 ∷ slice_index rs 5 ∷ slice_index rs 6 ∷ slice_index rs 7 ∷ slice_index rs 8
    ∷ slice_index rs 9 ∷ slice_index rs 10 ∷ slice_index rs 11 ∷ slice_index rs 12
    ∷ slice_index rs 13 ∷ slice_index rs 14 ∷ slice_index rs 15 ∷ []
registers_are (a ∷ b ∷ c ∷ d ∷ e ∷ f ∷ g ∷ h ∷ i ∷ j ∷ k ∷ l ∷ m ∷ n ∷ o ∷ p ∷ []) z = refl
registers_are rs z = absurd (omega arith)

pub record Seen (s : State) : Type 0 where
  pub view : MachineView
  pub is : s ≡ machine view s.cpu.rip s.cpu.flags

pub seen : (s : State) → length s.cpu.registers ≡ 16 → Seen s
seen s e = record {
  view = record {
    rax = slice_index s.cpu.registers 0;
    rcx = slice_index s.cpu.registers 1;
    rdx = slice_index s.cpu.registers 2;
    locals = local_registers s.cpu.registers;
    rest = other_registers s.cpu.registers;
    memory = s.memory;
    vectored = s.vectored;
  };
  is = ap (λ (rs : List ℕ). let u : State = record s {
    cpu = record { registers = rs; rip = s.cpu.rip; flags = s.cpu.flags };
  } in u) (registers_are s.cpu.registers e);
}

-- the instruction at RIP is run
pub first_steps : (i : Instr) (s u : State) → is_encodable i ≡ true
    → HasCode s.memory s.cpu.rip (i ∷ []) → effect (with_rip s (s.cpu.rip + size i)) i ≡ Ok u
    → Steps s u
first_steps i s u enc code is =
    let l = code.placed.low in
    let h = code.placed.high in
    one_steps i s u (enc, tt) (bytes_split s.memory s.cpu.rip (chosen i) [] code.is_there).0
    (record { low = l; high = omega arith }) is

-- a volatile register is no nonvolatile one
pub other_kind : (q r : ℕ) → is_nonvolatile q ≡ false → is_nonvolatile r ≡ true → q ≢ r
other_kind q r vol nv z = false≢true (sym vol ∙ ap is_nonvolatile z ∙ nv)

-- pushes come before an allocation
pub pushes_before : (k : ℕ) (ops : List UnwindOperation) → Ordered (Allocate k ∷ ops)
    → are_pushes ops ≡ true
pushes_before k ops (allocate p o) = p
