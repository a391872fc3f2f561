-- Memory that differs in a range alone.
use Rattle.std.proofs.Common.{◌≡◌, ℕ, ◌+◌, ◌^◌, ◌<◌, ◌≤◌, Bool, true, false, List, refl, sym, ap, ◌∙◌, arith, inl, inr}
use Rattle.std.specs.Prelude.{◌⊎◌}
use Rattle.std.proofs.lemmas.Bool.{cases_lt}
use Rattle.x64_templates.specs.Words.{Memory, Protection, Agrees, may_write, with_bytes, with_number, Instr, spelled, HasCode, Within}
use Rattle.x64_templates.proofs.Lemmas.{untouched}
use Rattle.x64_templates.proofs.PlacedCode.{bytes_kept}
use Rattle.x64_templates.proofs.Accesses.{digits}

pub within_same : (lo hi : ℕ) (m : Memory) → Within lo hi m m
within_same lo hi m = record { byte = λ a out. refl; protection = refl; bytes = λ h. h }

pub within_then : (lo hi : ℕ) (a b c : Memory) → Within lo hi a b → Within lo hi b c
    → Within lo hi a c
within_then lo hi a b c p q = record {
  byte = λ x out. q.byte x out ∙ p.byte x out;
  protection = q.protection ∙ p.protection;
  bytes = λ h. q.bytes (p.bytes h);
}

cell_beside : (m : Memory) (at x a : ℕ) → at + 8 < 2 ^ 63 → (a < at) ⊎ (at + 8 ≤ a)
    → with_number m.byte 8 at x a ≡ m.byte a
cell_beside m at x a high out = untouched m.byte 8 at x a
    (λ i lt e. absurd (elim out [ inl l ↦ omega arith | inr r ↦ omega arith ])) (omega arith)

-- a word is stored in it
pub within_cell : (m : Memory) (lo hi at x : ℕ) → lo ≤ at → at + 8 ≤ hi → at + 8 < 2 ^ 63
    → Within lo hi m (with_bytes m (with_number m.byte 8 at x))
within_cell m lo hi at x le up high = record {
  byte = λ a out. cell_beside m at x a high
      (elim out [ inl l ↦ inl (omega arith) | inr r ↦ inr (omega arith) ]);
  protection = refl;
  bytes = λ h a. digits m.byte 8 at x a (h a);
}

-- what isn't true in the range is so outside of it
outside : (f : ℕ → Bool) (lo hi : ℕ) → ((a : ℕ) → lo ≤ a → a < hi → f a ≡ true) → (a : ℕ)
    → f a ≡ false → (a < lo) ⊎ (hi ≤ a)
outside f lo hi all a not = elim (cases_lt a lo) [
  | inl lt ↦ inl lt
  | inr le ↦ elim (cases_lt a hi) [
    | inl lt ↦ let x : true ≡ false = sym (all a le lt) ∙ not in absurd cc
    | inr ge ↦ inr ge
  ]
]

-- code is there where the range may be written
pub within_keeps_code : (lo hi : ℕ) (m m' : Memory) (at : ℕ) (code : List Instr)
    → ((a : ℕ) → lo ≤ a → a < hi → may_write m a ≡ true) → Within lo hi m m' → HasCode m at code
    → HasCode m' at code
within_keeps_code lo hi m m' at code writable w
    h = record {
      is_there = bytes_kept m m' at (spelled code)
          (λ a fixed. w.byte a (outside (may_write m) lo hi writable a fixed)) w.protection
          h.is_there;
      placed = h.placed;
    }

-- and the source's memory is where the range is reserved
pub within_agrees : (reserved : ℕ → Bool) (lo hi : ℕ) (m m' source : Memory)
    → ((a : ℕ) → lo ≤ a → a < hi → reserved a ≡ true) → Within lo hi m m'
    → Agrees reserved m source → Agrees reserved m' source
within_agrees reserved lo hi m m' source own w agrees = record {
  byte = λ a free. w.byte a (outside reserved lo hi own a free) ∙ agrees.byte a free;
  protection = λ a free. ap (λ (g : ℕ → Protection). g a) w.protection ∙ agrees.protection a free;
  guard = agrees.guard;
  pointer = agrees.pointer;
}
