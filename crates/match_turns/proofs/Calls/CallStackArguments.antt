-- Arguments from the fifth on go to their places at the bottom of the caller's frame, above the
-- home space.
use Rattle.std.proofs.Common.{◌≡◌, ℕ, zero, suc, ◌+◌, ◌*◌, ◌%◌, ◌^◌, ◌<◌, ◌≤◌, true, false, Option, Some, None, [], ◌∷◌, refl, sym, ap, subst, ◌∙◌, arith, inl, inr}
use Rattle.std.specs.Prelude.{◌⊎◌}
use Rattle.std.proofs.lemmas.Bool.{cases_eq, cases_lt}
use Rattle.match_turns.specs.Words.{Memory, may_write, number_at, with_number, with_bytes, Protection, is_writable, Rax, Rsp, Slot, Temporary, BodyState, temporary_at, fetched, keep_register, passing_code, MachineView, Executes, sp_of, slot_at, IsBytes, MemoryKeepsBase, FramePlace, Roomy, FrameHolds, IsThere, LocalRegisters}
use Rattle.x64_templates.proofs.Bodies.{slot_by_words}
use Rattle.match_turns.proofs.Lemmas.{untouched, stored_is_loaded, all_may, same_number, executes_then, executes_nothing, put, slot_high, fetch_does, Fine, near, kept_at, keeps_register}
use Rattle.x64_templates.proofs.Accesses.{digits}

-- ---- a number that is stored below all slots

beside_at : (m : Memory) (at x a : ℕ) → at + 8 < 2 ^ 63 → (a < at) ⊎ (at + 8 ≤ a)
    → with_number m.byte 8 at x a ≡ m.byte a
beside_at m at x a high out = untouched m.byte 8 at x a
    (λ i lt e. absurd (elim out [ inl l ↦ omega arith | inr r ↦ omega arith ])) (omega arith)

-- the bottom of a frame, up to the slots and the place of the base
pub record HasOutgoing (p : FramePlace) (m : Memory) (room : ℕ) : Type 0 where
  pub slots : (x : Slot) → IsThere p x → p.sp + room ≤ slot_at p.layout p.sp p.base x
  pub base : (k : ℕ) → p.layout.base ≡ Some k → room ≤ k
  pub writable : (a : ℕ) → p.sp ≤ a → a < p.sp + room → may_write m a ≡ true
  pub own : (a : ℕ) → p.sp ≤ a → a < p.sp + room → p.reserved a ≡ true
  pub near : room < 2 ^ 31

abbrev pub stored : Memory → (at x : ℕ) → Memory
stored m at x = with_bytes m (with_number m.byte 8 at x)

module _ (p : FramePlace) (roomy : Roomy p) (room : ℕ) where
  still_outgoing : (m m' : Memory) → m'.protection ≡ m.protection → HasOutgoing p m room
      → HasOutgoing p m' room
  still_outgoing m m' e h = record {
    slots = h.slots;
    base = h.base;
    writable = λ a l u. ap (λ (f : ℕ → Protection). is_writable (f a).rights) e ∙ h.writable a l u;
    own = h.own;
    near = h.near;
  }

  base_beside : (m : Memory) (at x : ℕ) (o : Option ℕ) → at + 8 ≤ p.sp + room → at + 8 < 2 ^ 63
      → ((k : ℕ) → o ≡ Some k → (room ≤ k) × (p.sp + k + 8 < 2 ^ 64))
      → MemoryKeepsBase o p.sp p.base m → MemoryKeepsBase o p.sp p.base (stored m at x)
  base_beside m at x None le high up h = tt
  base_beside m at x (Some k) le high up h =
      let u = up k refl in
      let l = u.0 in (
        same_number (stored m at x).byte m.byte 8 (p.sp + k) u.1
            (λ a g l. beside_at m at x a high (inr (omega arith))) ∙ h.0,
        h.1,
      )

  pub holds_beside : (l : LocalRegisters) (m : Memory) (at x : ℕ) (b : BodyState)
      → HasOutgoing p m room → p.sp ≤ at
      → at + 8 ≤ p.sp + room → ((k : ℕ) → p.layout.base ≡ Some k → p.sp + k + 8 < 2 ^ 64)
      → FrameHolds p l m b → FrameHolds p l (stored m at x) b
  holds_beside l m at x b out low le base_high h =
      let hi = roomy.high in
      let n = out.near in
      record {
        slot = slot_by_words p.layout p.counts p.reserved p.sp p.base p.arrived roomy l m
            (stored m at x) b
            (λ z iz. (let up = out.slots z iz in
            same_number (stored m at x).byte m.byte 8 (slot_at p.layout p.sp p.base z)
            (slot_high p.layout p.counts p.reserved p.sp p.base p.arrived roomy z iz)
            (λ a g k. beside_at m at x a (omega arith) (inr (omega arith))))) h;
        small = h.small;
        kept_base = base_beside m at x p.layout.base le (omega arith)
            (λ k e. (out.base k e, base_high k e)) h.kept_base;
        writable = h.writable;
        own = h.own;
        own_base = h.own_base;
        source = record {
          byte = λ a r. beside_at m at x a (omega arith) (outside a r) ∙ h.source.byte a r;
          protection = h.source.protection;
          guard = h.source.guard;
          pointer = h.source.pointer;
        };
      }
    where
      outside : (a : ℕ) → p.reserved a ≡ false → (a < at) ⊎ (at + 8 ≤ a)
      outside a r = elim (cases_lt a at) [
        | inl l ↦ inl l
        | inr g ↦ elim (cases_lt a (at + 8)) [
          | inl l ↦ absurd
              (let z : true ≡ false = sym (out.own a (omega arith) (omega arith)) ∙ r in cc)
          | inr
              u ↦ inr u
        ]
      ]

  -- ---- the arguments, one after another

  pub record AllPassed (first i n : ℕ) (v : MachineView) (b : BodyState) : Type 0 where
    pub rax : ℕ
    pub memory : Memory
    pub does : Executes (passing_code p.layout first i n) v
        (record v { rax = rax; memory = memory })
    pub holds : FrameHolds p v.locals memory b
    pub number : (j : ℕ) → i ≤ j → j < i + n → number_at memory.byte 8 (p.sp + 8 * j)
        ≡ b.slots (Temporary (first + j))
    pub same : (a : ℕ) → (a < p.sp + 8 * i) ⊎ (p.sp + 8 * (i + n) ≤ a)
        → memory.byte a ≡ v.memory.byte a
    pub protection : memory.protection ≡ v.memory.protection
    pub bytes : IsBytes v.memory → IsBytes memory

  pub passes : p.layout.arrivals ≡ 0 → (first i n : ℕ) (v : MachineView) (b : BodyState)
      → ((k : ℕ) → p.layout.base ≡ Some k → p.sp + k + 8 < 2 ^ 64)
      → first + i + n ≤ p.counts.temporaries → 8 * (i + n) ≤ room → HasOutgoing p v.memory room
      → sp_of v ≡ p.sp → FrameHolds p v.locals v.memory b → AllPassed first i n v b
  passes none first i zero v b base_high le fits out at h = record {
    rax = v.rax;
    memory = v.memory;
    does = executes_nothing v;
    holds = h;
    number = λ j l u. absurd (omega arith);
    same = λ a o. refl;
    protection = refl;
    bytes = λ x. x;
  }
  passes none first i (suc n) v b base_high le fits out at h =
      let y = p.layout in
      let hi = roomy.high in
      let near_room = out.near in
      let there : first + i < p.counts.temporaries = omega arith in
      let x = b.slots (Temporary (first + i)) in
      let small = h.small (Temporary (first + i)) there in
      let to = p.sp + 8 * i in
      let w = put true v x in
      let d1 : Executes (fetched Rax Rsp (temporary_at y (first + i)) ∷ []) v w = fetch_does y
      p.counts p.reserved p.sp p.base p.arrived roomy true (Temporary (first + i)) v b there
      (λ j lt. absurd (omega arith)) at h in
      let spot : (sp_of w + 0 + 8 * i) % 2 ^ 64 ≡ to = omega (arith, at) in
      let may = all_may (may_write v.memory) 8 to (omega arith)
      (λ a l u. out.writable a (omega arith) (omega arith)) in
      let d2 = keeps_register Rax w (8 * i) to x refl spot may small in
      let u = kept_at w to x in
      let r = passes none first (i + 1) n u b base_high (omega arith) (omega arith)
      (still_outgoing v.memory u.memory refl out) at
      (holds_beside v.locals v.memory to x b out (omega arith) (omega arith) base_high h) in
      let last : MachineView = record v { rax = r.rax; memory = r.memory } in
      let here : number_at r.memory.byte 8 to ≡ x =
      same_number r.memory.byte u.memory.byte 8 to (omega arith)
      (λ a l g. r.same a (inl (omega arith)))
      ∙ stored_is_loaded v.memory.byte 8 to x (omega arith) (omega arith)
      ∙ (let q : x % 256 ^ 8 ≡ x = omega arith in q) in
      record {
        rax = r.rax;
        memory = r.memory;
        does = executes_then (fetched Rax Rsp (temporary_at y (first + i)) ∷ [])
            (keep_register Rax (8 * i) ∷ passing_code y first (i + 1) n) v w last d1
            (executes_then (keep_register Rax (8 * i) ∷ []) (passing_code y first (i + 1) n) w u
            last d2 r.does);
        holds = r.holds;
        number = λ j l g. elim (cases_eq j i) [
          | inl e ↦ subst (λ k. number_at r.memory.byte 8 (p.sp + 8 * k)
              ≡ b.slots (Temporary (first + k))) (sym e) here
          | inr ne ↦ r.number j (omega arith) (omega arith)
        ];
        same = λ a o. r.same a (elim o [ inl l ↦ inl (omega arith) | inr g ↦ inr (omega arith) ])
            ∙ beside_at v.memory to x a (omega arith)
            (elim o [ inl l ↦ inl (omega arith) | inr g ↦ inr (omega arith) ]);
        protection = r.protection;
        bytes = λ bs. r.bytes (λ a. digits v.memory.byte 8 to x a (bs a));
      }

  pub passing_fine : (first i n : ℕ) → first + i + n ≤ p.counts.temporaries → 8 * (i + n) < 2 ^ 31
      → Fine (passing_code p.layout first i n)
  passing_fine first i zero le lt = tt
  passing_fine first i (suc n) le lt =
      let t = roomy.temporaries in (
        near (temporary_at p.layout (first + i)) (omega arith),
        refl,
        refl,
        (
          near (8 * i) (omega arith),
          refl,
          refl,
          passing_fine first (i + 1) n (omega arith) (omega arith),
        ),
      )
