-- The rights of a page of the arena are set: the stack, the code and all bytes stay.
use Rattle.std.proofs.Common.{◌≡◌, ℕ, ◌/◌, ◌<◌, ◌≤◌, Bool, true, false, cond, leb, ltb, ℤ, Option, Some, None, refl, sym, ap, ◌∙◌, arith, inl, inr}
use Rattle.std.specs.Prelude.{◌⊎◌, nat_eq}
use Rattle.std.proofs.lemmas.Bool.{and_parts, and_from, leb-true, ltb-true, eqb-true, ne_eqb, le-leb, lt-ltb, cases_lt}
use Rattle.match_turns.specs.Words.{Protection, is_writable, rights_numbered, Memory, may_write, rights_asked, protected, with_rights, is_hidden, Agrees, KeepsStack, Setting, IsMachineMemory, ARENA_START, ARENA_END}
use Rattle.host_layout.specs.Ranges.{in_arena}
use Rattle.flat_memory.specs.declared.protection.Rights.{Rights}
use Rattle.match_turns.proofs.Lemmas.{program_stays}

-- what a change of rights leaves
record KeepsRest (m m' : Memory) : Type 0 where
  byte : m'.byte ≡ m.byte
  execute : (a : ℕ) → (m'.protection a).execute ≡ (m.protection a).execute
  outside : (a : ℕ) → (a < ARENA_START) ⊎ (ARENA_END ≤ a) → m'.protection a ≡ m.protection a
  writes : (a : ℕ) → may_write m' a ≡ true → (may_write m a ≡ true) ⊎ (in_arena a ≡ true)

arena_range : (a : ℕ) → in_arena a ≡ true → (ARENA_START ≤ a) × (a < ARENA_END)
arena_range a e = let q = and_parts (leb ARENA_START a) (ltb a ARENA_END) e in
    (leb-true ARENA_START a q.0, ltb-true a ARENA_END q.1)

in_range : (a : ℕ) → ARENA_START ≤ a → a < ARENA_END → in_arena a ≡ true
in_range a l u = and_from (leb ARENA_START a) (ltb a ARENA_END) (le-leb ARENA_START a l)
    (lt-ltb a ARENA_END u)

module _ (m : Memory) (at : ℕ) where
  nothing_set : KeepsRest m m
  nothing_set = record {
    byte = refl;
    execute = λ a. refl;
    outside = λ a o. refl;
    writes = λ a w. inl w;
  }

  page_set : (r : Rights) → in_arena at ≡ true → KeepsRest m (with_rights m at (Some r))
  page_set r e = record {
    byte = refl;
    execute = λ a. same a (nat_eq (a / 4096) (at / 4096));
    outside = λ a o. ap (λ b. cond b (record (m.protection a) { rights = r }) (m.protection a))
        (ne_eqb (a / 4096) (at / 4096) (λ h. past a o h));
    writes = λ a w. by a (nat_eq (a / 4096) (at / 4096)) refl w;
  }
    where
      range : (ARENA_START ≤ at) × (at < ARENA_END)
      range = arena_range at e

      same : (a : ℕ) (b : Bool) → (let x : Protection = cond b
          (record (m.protection a) { rights = r }) (m.protection a) in x).execute
          ≡ (m.protection a).execute
      same a true = refl
      same a false = refl

      -- pages are whole in the arena
      past : (a : ℕ) → (a < ARENA_START) ⊎ (ARENA_END ≤ a) → a / 4096 ≡ at / 4096 → ⊥
      past a (inl l) h = let p = range.0 in absurd (omega arith)
      past a (inr g) h = let p = range.1 in absurd (omega arith)

      by : (a : ℕ) (b : Bool) → nat_eq (a / 4096) (at / 4096) ≡ b
          → is_writable (let x : Protection = cond b (record (m.protection a) { rights = r })
          (m.protection a) in x).rights ≡ true → (may_write m a ≡ true) ⊎ (in_arena a ≡ true)
      by a false h w = inl w
      by a true h w =
          let same_page = eqb-true (a / 4096) (at / 4096) h in
          let p = range.0 in
          let q = range.1 in
          inr (in_range a (omega arith) (omega arith))

  rights_set : (n : ℤ) → KeepsRest m (protected m at n)
  rights_set n = by (in_arena at) refl
    where
      of_rights : (o : Option Rights) → in_arena at ≡ true → KeepsRest m (with_rights m at o)
      of_rights None e = nothing_set
      of_rights (Some r) e = page_set r e

      by : (b : Bool) → in_arena at ≡ b → KeepsRest m
          (with_rights m at (cond b (rights_numbered n) None))
      by true e = of_rights (rights_numbered n) e
      by false e = nothing_set

module _ (setting : Setting) (m source : Memory) (at : ℕ) (n : ℤ)
    (h : IsMachineMemory setting m source) where
  open setting use {functions as t, funclets as fs, program, plan as p, sites as q, image}

  abbrev pub after : Memory
  after = protected m at n

  kept : KeepsRest m after
  kept = rights_set m at n

  same_byte : (a : ℕ) → after.byte a ≡ m.byte a
  same_byte a = ap (λ (f : ℕ → ℕ). f a) kept.byte

  no_code : (a : ℕ) → may_write after a ≡ true → (after.protection a).execute ≡ false
  no_code a w = kept.execute a ∙ elim (kept.writes a w)
      [ inl x ↦ h.data_alone.no_code a x | inr x ↦ h.arena a x ]

  -- the source has the same rights there
  same_rights : (a : ℕ) (o : Option Rights) → m.protection a ≡ source.protection a
      → (with_rights m at o).protection a ≡ (with_rights source at o).protection a
  same_rights a None e = e
  same_rights a (Some r) e = ap (λ (x : Protection). cond (nat_eq (a / 4096) (at / 4096))
      (record x { rights = r }) x) e

  agrees : Agrees (is_hidden program.globals) after (protected source at n)
  agrees = record {
    byte = λ a r. same_byte a ∙ h.agrees.byte a r
        ∙ sym (ap (λ (f : ℕ → ℕ). f a) (rights_set source at n).byte);
    protection = λ a r. same_rights a (rights_asked at n) (h.agrees.protection a r);
    guard = h.agrees.guard;
    pointer = λ a l u. (let old = h.agrees.pointer a l u in
        let e = ap (λ (f : ℕ → ℕ). f a) (rights_set source at n).byte in
        let few = old.small in
        record {
          seen = old.seen;
          writable = ap (λ (x : Protection). is_writable x.rights)
              ((rights_set source at n).outside a (inr (omega arith))) ∙ old.writable;
          small = omega arith;
        });
  }

  pub arena_memory : IsMachineMemory setting after (protected source at n)
  arena_memory = record {
    data_alone = record {
      bytes = λ a. (let e = same_byte a in let s = h.data_alone.bytes a in
          omega arith);
      no_code = no_code;
    };
    agrees = agrees;
    stack = λ a l u. ap (λ (x : Protection). is_writable x.rights)
        (kept.outside a (inr (omega arith))) ∙ h.stack a l u;
    arena = λ a e. kept.execute a ∙ h.arena a e;
    code = program_stays t fs program p q image m after
        (record {
          byte = λ a l u own. same_byte a;
          protection = λ a l u own. kept.outside a (inr (omega arith));
        }) h.code;
  }

  -- what is code isn't in the arena
  code_outside : (a : ℕ) → (m.protection a).execute ≡ true → (a < ARENA_START) ⊎ (ARENA_END ≤ a)
  code_outside a e = elim (cases_lt a ARENA_START) [
    | inl l ↦ inl l
    | inr g ↦ elim (cases_lt a ARENA_END) [
      | inl l ↦ absurd (let z : true ≡ false = sym e ∙ h.arena a (in_range a g l) in cc)
      | inr u ↦ inr u
    ]
  ]

  pub arena_stack : (low : ℕ) → KeepsStack m after low
  arena_stack low = record {
    bytes = λ a l u. same_byte a;
    protection = λ a l u. kept.outside a (inr (omega arith));
    code = λ a e. (same_byte a, kept.outside a (code_outside a e));
    no_more_code = λ a e. kept.execute a ∙ e;
  }
