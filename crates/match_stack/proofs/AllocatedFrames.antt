-- Frames that save nothing.
use Rattle.std.proofs.Common.{◌≡◌, ◌≢◌, ℕ, zero, suc, ◌+◌, ◌^◌, ◌<◌, ◌≤◌, true, false, not, eqb, Option, Some, None, Ok, List, [], ◌∷◌, length, drop, get_or, refl, sym, ap, subst, ◌∙◌, arith}
use Rattle.match_stack.specs.Words.{Memory, first_refused, may_read, number_at, access, Context, rsp, readable, word, operations, base_if, IsWord, teller, told, at_entry}
use Rattle.eh_tables.specs.declared.code.UnwindOperation.TheVariants.{Allocate}
use Rattle.virtual_unwind.specs.Contexts.{get, kept_at, kept_index, is_nonvolatile}
use Rattle.frame_rules.specs.Codes.{are_allowed}
use Rattle.frame_rules.specs.Frame as rules
use Rattle.match_stack.specs.Stack.{AreAbove}
use Rattle.match_stack.specs.AllocatedFrames.{allocated_frame, AllocationsAreTold, ToldAllocations}
use Rattle.match_stack.proofs.Lemmas.{word-is}
use Rattle.match_stack.proofs.FrameWords.{eight_numbers}

-- a word that is read may be read
pub is_word : (m : Memory) (at v : ℕ) → at + 8 ≤ 2 ^ 64 → word m at ≡ Ok v → IsWord m at v
is_word m at v high e = go (first_refused (may_read m) 8 at) refl e
  where
    go : (o : Option ℕ) → first_refused (may_read m) 8 at ≡ o
        → readable at (access false o (number_at m.byte 8 at)) ≡ Ok v → IsWord m at v
    go None r h = record { readable = r; value = cc; high = high }
    go (Some a) r h = absurd cc

-- any register but RSP is after the first that a context keeps
behind : (kept : List ℕ) (sp k : ℕ) → 0 < length kept
    → get_or (sp ∷ drop 1 kept) (suc k) 0 ≡ get_or kept (suc k) 0
behind [] sp k lt = absurd (omega arith)
behind (x ∷ xs) sp k lt = refl

four_is_first : (r : ℕ) → kept_index r ≡ Some 0 → r ≡ 4
four_is_first r e = grind (arith, e)

pub others_same : (c : Context) (rip sp r : ℕ) → 0 < length c.kept → is_nonvolatile r ≡ true → r ≢ 4
    → get c r ≡ get (record { rip = rip; kept = sp ∷ drop 1 c.kept }) r
others_same c rip sp r lt nv ne = go (kept_index r) refl
  where
    go : (o : Option ℕ) → kept_index r ≡ o
        → kept_at c o ≡ kept_at (record { rip = rip; kept = sp ∷ drop 1 c.kept }) o
    go None e = refl
    go (Some zero) e = absurd (ne (four_is_first r e))
    go (Some (suc k)) e = sym (behind c.kept sp k lt)

pub allocations_are_told : AllocationsAreTold
allocations_are_told m c entry offset size back codes none small nine room returns =
    let f = allocated_frame entry size back c in
    let old = at_entry c f in
    let tells : told f ≡ Allocate size ∷ [] = ap operations codes in
    let is = is_word m (rsp c + size) back (omega arith) returns in
    let allowed : are_allowed (teller entry).frame_register (Allocate size ∷ []) ≡ true = refl in
    record {
      offset = omega arith;
      allowed = subst (λ ops. are_allowed (teller entry).frame_register ops ≡ true) (sym tells)
          allowed;
      base = ap (λ r. base_if (teller entry) c (not (eqb r 0))) none;
      stack = subst (rules.Stack m old back (rsp c) (rsp c)) (sym tells) (refl, is);
      framed = subst (rules.Framed (teller entry).frame_register (teller entry).frame_offset (get c)
          (rsp c)) (sym tells) tt;
      others = λ r nv ne z. others_same c back (rsp c + size) r (omega arith) nv ne;
      above = subst (AreAbove (rsp c + size) (rsp c) (rsp c)) (sym tells) (omega arith);
    }

-- nine numbers after their first
pub rest_numbers : (ks : List ℕ) → length ks ≡ 9
    → drop 1 ks ≡ get_or ks 1 0 ∷ get_or ks 2 0 ∷ get_or ks 3 0 ∷ get_or ks 4 0 ∷ get_or ks 5 0
    ∷ get_or ks 6 0 ∷ get_or ks 7 0 ∷ get_or ks 8 0 ∷ []
rest_numbers [] n = absurd (omega arith)
rest_numbers (k ∷ ks) n = sym (eight_numbers ks (omega arith))

pub told_allocations : ToldAllocations
told_allocations m c f offset codes kept eight h =
    let old = at_entry c f in
    let tells : told f ≡ Allocate f.size ∷ [] = ap operations codes in
    let s = subst (rules.Stack m old f.return_address (rsp c) (rsp c)) tells h.stack in
    let o = subst (rules.Others old (get c)) tells h.others in
    record {
      returns = word-is m (rsp c + f.size) f.return_address s.1;
      others = rest_numbers c.kept kept
          ∙ (λ i. o 3 refl (λ e. absurd (omega arith)) refl i
          ∷ o 5 refl (λ e. absurd (omega arith)) refl i
          ∷ o 6 refl (λ e. absurd (omega arith)) refl i
          ∷ o 7 refl (λ e. absurd (omega arith)) refl i
          ∷ o 12 refl (λ e. absurd (omega arith)) refl i
          ∷ o 13 refl (λ e. absurd (omega arith)) refl i
          ∷ o 14 refl (λ e. absurd (omega arith)) refl i
          ∷ o 15 refl (λ e. absurd (omega arith)) refl i ∷ [])
          ∙ eight_numbers f.others eight;
    }
