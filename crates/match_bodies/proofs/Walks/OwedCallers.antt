-- Codes that are still to be undone: what they rest on, and that a walk finds the caller by the
-- return address at RSP where there are none.
use Rattle.std.specs.Prelude.{slice_set}
use Rattle.std.proofs.Common.{◌≡◌, ◌≢◌, ℕ, ◌+◌, ◌^◌, ◌<◌, ◌≤◌, Bool, true, false, Ok, List, [], ◌∷◌, length, drop, refl, sym, ap, subst, ◌∙◌, arith, inl, inr}
use Rattle.std.proofs.lemmas.Bool.{cases_eq, false≢true}
use Rattle.match_bodies.specs.Words.{frame_info, Memory, Protection, with_bytes, Context, rsp, get, Functions, word, caller_above, caller_owed, HasCaller, FindsReturn, Owed, IsOwed, nothing_owed, owed_by, owed_of, ImagePlan, BodyName, StackFrame, IsAsTold, Reg}
use Rattle.eh_tables.specs.Infos.{Info}
use Rattle.eh_tables.specs.declared.code.UnwindOperation.{UnwindOperation}
use Rattle.eh_tables.specs.declared.code.UnwindOperation.TheVariants.{Push, Allocate, SetFrame, Save, SaveVector, MachineFrame}
use Rattle.x64_instr.specs.Registers.{number}
use Rattle.virtual_unwind.specs.Contexts.{is_nonvolatile}
use Rattle.x64_templates.specs.Locals.{is_of_local}
use Rattle.frame_rules.specs.Codes.{depth, is_saved}
use Rattle.frame_rules.specs.Frame as rules
use Rattle.match_stack.specs.Stack.{teller, AreAbove, IsSavedAt}
use Rattle.match_stack.proofs.FrameWords.{saved_low, saved_high, stack_same}
use Rattle.virtual_unwind.specs.CallerOf.{base_if, sets_frame}
use Rattle.frame_rules.proofs.Order.{Ordered, framed_above}
use Rattle.frame_rules.proofs.Undoing.{stack_depth, return_word, saved_register, framed_saved}
use Rattle.match_bodies.proofs.Lemmas.{word-is, is_word, others_same, rest_numbers, eight_numbers}

-- ---- registers of a context

-- the registers of a context beside RSP
pub rest_length : (ks : List ℕ) → length ks ≡ 9 → length (drop 1 ks) ≡ 8
rest_length [] n = absurd (omega arith)
rest_length (k ∷ ks) n = omega arith

-- a context with another RSP
pub first_set : (ks : List ℕ) (v : ℕ) → length ks ≡ 9 → v ∷ drop 1 ks ≡ slice_set ks 0 v
first_set [] v n = absurd (omega arith)
first_set (k ∷ ks) v n = refl

-- ---- the same elsewhere

-- where the nonvolatile registers are the same
pub owed_with : (m : Memory) (c c' : Context) (o : Owed) (size back : ℕ) (others : List ℕ)
    → c'.kept ≡ c.kept → IsOwed m c o size back others → IsOwed m c' o size back others
owed_with m c c' o size back others e h = subst (λ (ks : List ℕ).
    let x : Context = record { rip = c'.rip; kept = ks } in IsOwed m x o size back others) (sym e)
    (record {
      kept = h.kept;
      eight = h.eight;
      room = h.room;
      small = h.small;
      allowed = h.allowed;
      stack = h.stack;
      framed = h.framed;
      unsaved = h.unsaved;
    })

-- where the words are the same
pub owed_in : (m m' : Memory) (c : Context) (o : Owed) (size back : ℕ) (others : List ℕ)
    → m'.protection ≡ m.protection
    → ((a : ℕ) → IsSavedAt (rsp c) (rsp c) o.codes a → m'.byte a ≡ m.byte a)
    → IsOwed m c o size back others → IsOwed m' c o size back others
owed_in m m' c o size back others protection bytes h =
    let old = get (caller_owed c size back others) in
    let is_m : with_bytes m m'.byte ≡ m' = ap (λ (f : ℕ → Protection).
    let x : Memory = record { protection = f; byte = m'.byte } in x) (sym protection) in
    record {
      kept = h.kept;
      eight = h.eight;
      room = h.room;
      small = h.small;
      allowed = h.allowed;
      stack = subst (λ (x : Memory). rules.Stack x old back (rsp c) (rsp c) o.codes) is_m
          (stack_same m m old back m'.byte (rsp c) (rsp c) o.codes bytes h.stack);
      framed = h.framed;
      unsaved = h.unsaved;
    }

-- with the words of another memory, read from the same RSP with other registers
pub owed_both : (m m' : Memory) (c c' : Context) (o : Owed) (size back : ℕ) (others : List ℕ)
    → rsp c' ≡ rsp c → IsOwed m c o size back others → IsOwed m' c' o size back others
    → IsOwed m' c o size back others
owed_both m m' c c' o size back others same h h' = record {
  kept = h.kept;
  eight = h.eight;
  room = h.room;
  small = h.small;
  allowed = h.allowed;
  stack = subst (λ n. rules.Stack m' (get (record { rip = back; kept = (n + size) ∷ others })) back
      n n o.codes) same h'.stack;
  framed = h.framed;
  unsaved = h.unsaved;
}

-- a register of a local that these codes save, and that isn't the frame register
pub record IsOwn (o : Owed) (r : Reg) : Type 0 where
  pub local : is_of_local r ≡ true
  pub saved : is_saved (number r) o.codes ≡ true
  pub apart : number r ≢ o.register

-- whatever is in it
pub owed_beside : (m : Memory) (c c' : Context) (o : Owed) (size back : ℕ) (others : List ℕ)
    (r : Reg) → IsOwn o r → length c'.kept ≡ 9 → rsp c' ≡ rsp c
    → ((n : ℕ) → is_nonvolatile n ≡ true → n ≢ number r → get c' n ≡ get c n)
    → IsOwed m c o size back others → IsOwed m c' o size back others
owed_beside m c c' o size back others r own nine same beside h =
    let caller : ℕ → Context = λ n. record { rip = back; kept = (n + size) ∷ others } in
    let up = sym same in
    record {
      kept = nine;
      eight = h.eight;
      room = subst (λ n. n + size + 8 < 2 ^ 64) up h.room;
      small = h.small;
      allowed = h.allowed;
      stack = subst (λ n. rules.Stack m (get (caller n)) back n n o.codes) up h.stack;
      framed = subst (λ n. rules.Framed o.register o.offset (get c') n o.codes) up
          (framed_saved o.register o.offset (get c) (get c') (rsp c) o.codes h.allowed
          (λ s. sym (beside o.register (saved_register o.register o.register o.codes h.allowed s).0
          (λ z. own.apart (sym z)))) h.framed);
      unsaved = λ n nv ne free. elim (cases_eq n (number r)) [
        | inl e ↦ absurd (false≢true (sym free ∙ (ap (λ k. is_saved k o.codes) e ∙ own.saved)))
        | inr other ↦ beside n nv other ∙ h.unsaved n nv ne free ∙ ap (λ k. get (caller k) n) up
      ];
    }

-- ---- the base of the allocation

-- where a frame register is set it leads to RSP
pub base_is : (i : Info) (c : Context) (ops : List UnwindOperation) (b : Bool) → Ordered ops
    → (b ≡ true → sets_frame ops ≡ true) → rsp c < 2 ^ 64 → i.frame_offset ≤ 2 ^ 64
    → rules.Framed i.frame_register i.frame_offset (get c) (rsp c) ops → base_if i c b ≡ rsp c
base_is i c ops false o sets high small h = refl
base_is i c ops true o sets high small h =
    let e = framed_above i.frame_register i.frame_offset (get c) (rsp c) ops o (sets refl) h in
    omega arith

-- ---- where the words are

above_low : (low base at : ℕ) (ops : List UnwindOperation) → low ≤ base → low ≤ at
    → AreAbove low base at ops
above_low low base at [] le up = up
above_low low base at (Push r ∷ ops) le up = (up, above_low low base (at + 8) ops le (omega arith))
above_low low base at (Allocate n ∷ ops) le up = above_low low base (at + n) ops le (omega arith)
above_low low base at (SetFrame ∷ ops) le up = above_low low base at ops le up
above_low low base at (Save r n ∷ ops) le up = (omega arith, above_low low base at ops le up)
above_low low base at (SaveVector r n ∷ ops) le up = above_low low base at ops le up
above_low low base at (MachineFrame n ∷ ops) le up = above_low low base at ops le up

module _ (m : Memory) (c : Context) (o : Owed) (size back : ℕ) (others : List ℕ)
    (h : IsOwed m c o size back others) where
  abbrev old : ℕ → ℕ
  old = get (caller_owed c size back others)

  -- they lead up to the return address
  pub owed_depth : rsp c + depth o.codes ≡ rsp c + size
  owed_depth = stack_depth m old back (rsp c) (rsp c) o.codes h.stack

  pub owed_low : (a : ℕ) → IsSavedAt (rsp c) (rsp c) o.codes a → rsp c ≤ a
  owed_low a s =
      let le : rsp c ≤ rsp c = omega arith in
      saved_low (rsp c) (rsp c) (rsp c) o.codes a (above_low (rsp c) (rsp c) (rsp c) o.codes le le)
      s

  pub owed_high : (a : ℕ) → IsSavedAt (rsp c) (rsp c) o.codes a → a < rsp c + size + 8
  owed_high a s =
      let d = owed_depth in
      let e = saved_high o.register (rsp c) (rsp c) o.codes a h.allowed (omega arith) s in
      omega arith

  -- the return address is there
  pub owed_return : word m (rsp c + size) ≡ Ok back
  owed_return = word-is m (rsp c + size) back
      (return_word m old back (rsp c) (rsp c) o.codes h.stack)

-- of a body that waits the codes of its frame are owed
pub frame_is_owed : (p : ImagePlan) (name : BodyName) (m : Memory) (c : Context) (f : StackFrame)
    → p.leaf name ≡ false → teller f.entry ≡ frame_info p name → length c.kept ≡ 9
    → length f.others ≡ 8 → rsp c + f.size + 8 < 2 ^ 64 → IsAsTold m c f
    → IsOwed m c (owed_of p name) f.size f.return_address f.others
frame_is_owed p name m c f framed same kept eight room h =
    subst (λ (leaf : Bool). IsOwed m c (owed_by (frame_info p name) leaf) f.size f.return_address
    f.others) (sym framed)
    (subst (λ (i : Info). IsOwed m c (owed_by i false) f.size f.return_address f.others) same
    (record {
      kept = kept;
      eight = eight;
      room = room;
      small = h.offset;
      allowed = h.allowed;
      stack = h.stack;
      framed = h.framed;
      unsaved = h.others;
    }))

-- ---- where nothing is left

-- the caller has the registers that are there
pub same_others : (c : Context) (size back : ℕ) (others : List ℕ) → length c.kept ≡ 9
    → length others ≡ 8 → rules.Others (get (caller_owed c size back others)) (get c) []
    → drop 1 c.kept ≡ others
same_others c size back others kept eight o = rest_numbers c.kept kept
    ∙ (λ i. o 3 refl (λ e. absurd (omega arith)) refl i
    ∷ o 5 refl (λ e. absurd (omega arith)) refl i
    ∷ o 6 refl (λ e. absurd (omega arith)) refl i
    ∷ o 7 refl (λ e. absurd (omega arith)) refl i
    ∷ o 12 refl (λ e. absurd (omega arith)) refl i
    ∷ o 13 refl (λ e. absurd (omega arith)) refl i
    ∷ o 14 refl (λ e. absurd (omega arith)) refl i
    ∷ o 15 refl (λ e. absurd (omega arith)) refl i ∷ [])
    ∙ eight_numbers others eight

pub record AtReturn (m : Memory) (c : Context) (size back : ℕ) (others : List ℕ) : Type 0 where
  pub none : rsp c + size ≡ rsp c
  pub returns : word m (rsp c) ≡ Ok back
  pub others_are : drop 1 c.kept ≡ others

pub at_return : (m : Memory) (c : Context) (size back : ℕ) (others : List ℕ)
    → IsOwed m c nothing_owed size back others → AtReturn m c size back others
at_return m c size back others h =
    let at : rsp c ≡ rsp c + size = h.stack.0 in
    record {
      none = sym at;
      returns = word-is m (rsp c) back h.stack.1;
      others_are = same_others c size back others h.kept h.eight h.unsaved;
    }

-- the return address alone is at RSP
pub returns_alone : (m : Memory) (c : Context) (back : ℕ) → length c.kept ≡ 9
    → rsp c + 8 < 2 ^ 64 → word m (rsp c) ≡ Ok back
    → IsOwed m c nothing_owed 0 back (drop 1 c.kept)
returns_alone m c back kept room w =
    let at : rsp c ≡ rsp c + 0 = omega arith in
    record {
      kept = kept;
      eight = rest_length c.kept kept;
      room = omega arith;
      small = omega arith;
      allowed = refl;
      stack = (at, is_word m (rsp c) back (omega arith) w);
      framed = tt;
      unsaved = λ r nv ne z. others_same c back (rsp c + 0) r (omega arith) nv ne;
    }

-- so it is enough that the return address is there
pub finds_return : (t : Functions) (m : Memory) (rip : ℕ) → FindsReturn t m rip
    → (c : Context) (back : ℕ) → c.rip ≡ rip → length c.kept ≡ 9 → rsp c + 0 + 8 < 2 ^ 64
    → word m (rsp c + 0) ≡ Ok back → HasCaller t m c (caller_above c 0 back)
finds_return t m rip finds c back at kept room w =
    let flat : rsp c + 0 ≡ rsp c = omega arith in
    let h = finds c 0 back (drop 1 c.kept) at
    (returns_alone m c back kept (omega arith) (sym (ap (word m) flat) ∙ w)) in
    subst (λ (ks : List ℕ). let x : Context = record { rip = back; kept = ks } in HasCaller t m c x)
    (first_set c.kept (rsp c + 0 + 8) kept) h
