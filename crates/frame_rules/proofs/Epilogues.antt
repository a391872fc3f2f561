-- What is left of an epilogue gives the caller.
use Rattle.std.proofs.Common.{◌≡◌, ◌≢◌, ℕ, ◌+◌, ◌%◌, ◌^◌, ◌<◌, true, false, cond, not, ◌&&◌, eqb, List, [], ◌∷◌, length, Option, Some, None, Ok, refl, sym, ap, subst, ◌∙◌, arith, inl, inr}
use Rattle.std.proofs.lemmas.Bool.{cases_eq, and_parts, or_cases, false≢true, not-true, eqb-false, eqb-true, eq-eqb, ne_eqb}
use Rattle.frame_rules.specs.Words.{W64, Memory, Rsp, Base, Index, Add, Indirect, Instr, number, Context, UnwindOperation, Info, is_nonvolatile, get, set, rsp, with_rsp, rsp_raised, ◌>>=◌, word, popped, is_of, base_value, left_by, left, sets_frame, allocation, pushes, pushed, is_saved, may_save, are_allowed, Stack, Framed, Others, left_to, is_end, is_pop, pops, gives_back, PopsRestore, EpilogueRestores}
use Rattle.x64_instr.specs.declared.operand.Base.TheVariants as bases
use Rattle.x64_instr.specs.declared.operand.RegisterOrMemory.TheVariants as places
use Rattle.x64_instr.specs.declared.operand.Operand.TheVariants as operands
use Rattle.x64_instr.specs.declared.instruction.Instr.TheVariants as instrs
use Rattle.virtual_unwind.specs.Undone.{Answer}
use Rattle.frame_rules.proofs.Lemmas.{get-set_same, get-set_other, get-rsp_same, get-rsp_other, length-set}
use Rattle.frame_rules.proofs.Undoing.{word-is, others_after, stack_depth, return_word, popped_is, rsp_length}
use Rattle.frame_rules.proofs.Order.{Ordered, ordered, framed_above, stack_opened, pushes_allowed}

-- ---- the end

pub end_pops : (m : Memory) (x : Instr) (c : Context) → is_end x ≡ true → left_by m x c ≡ popped m c
end_pops m instrs.Return c e = refl
end_pops m (instrs.Jump (Indirect (places.Memory a))) c e = refl
end_pops m x c e = absurd (false≢true e)

pub one_left : (m : Memory) (x : Instr) (c d : Context) → left_by m x c ≡ Ok d
    → left m (x ∷ []) c ≡ Ok d
one_left m x c d e = ap (λ (a : Answer Context). a >>= left m []) e

-- ---- pops

pop_by : (m : Memory) (c : Context) (r v : ℕ) (x : Instr) → is_pop r x ≡ true
    → word m (rsp c) ≡ Ok v → left_by m x c ≡ Ok (set (rsp_raised c 8) r v)
pop_by m c r v (instrs.Pop q) e w = ap (λ (a : Answer ℕ). a
    >>= λ n. Ok (set (rsp_raised c 8) (number q) n)) w
    ∙ ap (λ k. Ok (set (rsp_raised c 8) k v)) (eqb-true (number q) r e)
pop_by m c r v x e w = absurd (false≢true e)

-- a register popped
pub record Popped (old : ℕ → ℕ) (c : Context) (r : ℕ) (rs : List ℕ) : Type 0 where
  pub kept : length (set (rsp_raised c 8) r (old r)).kept ≡ 9
  pub top : get (set (rsp_raised c 8) r (old r)) 4 ≡ rsp c + 8
  pub others : Others old (get (set (rsp_raised c 8) r (old r))) (pushed rs)

popped_one : (old : ℕ → ℕ) (c : Context) (r : ℕ) (rs : List ℕ) → length c.kept ≡ 9
    → rsp c + 8 < 2 ^ 64 → may_save r (pushed rs) ≡ true → Others old (get c) (pushed (r ∷ rs))
    → Popped old c r rs
popped_one old c r rs n lt m o =
    let once = and_parts (is_nonvolatile r) (not (eqb r 4) && not (is_saved r (pushed rs))) m in
    let ne : r ≢ 4 = eqb-false r 4 (not-true (eqb r 4)
    (and_parts (not (eqb r 4)) (not (is_saved r (pushed rs))) once.1).0) in
    let up : (rsp c + 8) % 2 ^ 64 ≡ rsp c + 8 = omega arith in
    let kept : length (rsp_raised c 8).kept ≡ 9 = rsp_length c ((rsp c + 8) % 2 ^ 64) n in
    let top : get (set (rsp_raised c 8) r (old r)) 4
    ≡ rsp c + 8 = get-set_other (rsp_raised c 8) r 4 (old r) ne
    ∙ get-rsp_same c ((rsp c + 8) % 2 ^ 64) n ∙ up in
    record {
      kept = length-set (rsp_raised c 8) r (old r) ∙ kept;
      top = top;
      others = others_after old (get c) (get (set (rsp_raised c 8) r (old r))) r (pushed rs)
          (get-set_same (rsp_raised c 8) r (old r) kept once.0)
          (λ q a b. get-set_other (rsp_raised c 8) r q (old r) a
          ∙ get-rsp_other c q ((rsp c + 8) % 2 ^ 64) b) o;
    }

pub pops_restore : PopsRestore
pops_restore f m c base old back [] [] n lt a s o p = absurd (false≢true p)
pops_restore f m c base old back [] (x ∷ []) n lt a s o p =
    let now : (r : ℕ) → is_nonvolatile r ≡ true → get c r ≡ old r = λ r nv. elim (cases_eq r 4) [
      | inl e ↦ subst (λ q. get c q ≡ old q) (sym e) s.0
      | inr ne ↦ o r nv ne refl
    ] in
    one_left m x c (left_to old back) (end_pops m x c p
    ∙ popped_is m old back c n now lt (return_word m old back base (get c 4) [] s))
pops_restore f m c base old back [] (x ∷ y ∷ is) n lt a s o p = absurd (false≢true p)
pops_restore f m c base old back (r ∷ rs) [] n lt a s o p = absurd (false≢true p)
pops_restore f m c base old back (r ∷ rs) (x ∷ is) n lt a s o p =
    let parts = and_parts (may_save r (pushed rs)) (are_allowed f (pushed rs)) a in
    let here = and_parts (is_pop r x) (pops rs is) p in
    let d = stack_depth m old back base (rsp c + 8) (pushed rs) s.1 in
    let q = popped_one old c r rs n (omega arith) parts.0 o in
    ap (λ (b : Answer Context). b >>= left m is)
    (pop_by m c r (old r) x here.0 (word-is m (rsp c) (old r) s.0))
    ∙ pops_restore f m (set (rsp_raised c 8) r (old r)) base old back rs is q.kept lt parts.1
    (subst (λ y. Stack m old back base y (pushed rs)) (sym q.top) s.1) q.others here.1

-- ---- the allocation given back

of_frame : (f : ℕ) (c : Context) (b : Base) (x : Option Index) → is_of f b x ≡ true
    → (f ≢ 0) × (base_value c b ≡ get c f)
of_frame f c (bases.Register r) None e = elim (cases_eq f 0) [
  | inl z ↦ absurd (false≢true (sym (ap (λ b. cond b false (eqb (number r) f)) (eq-eqb f 0 z)) ∙ e))
  | inr ne ↦ (
    ne,
    ap (get c) (eqb-true (number r) f
        (sym (ap (λ b. cond b false (eqb (number r) f)) (ne_eqb f 0 ne)) ∙ e)),
  )
]
of_frame f c (bases.Register r) (Some x) e = absurd (false≢true e)
of_frame f c bases.Nothing x e = absurd (false≢true e)
of_frame f c bases.Rip x e = absurd (false≢true e)

pub given_back : (m : Memory) (i : Info) (c : Context) (n : ℕ) (x : Instr)
    → gives_back i.frame_register i.frame_offset n x ≡ true
    → (i.frame_register ≢ 0 → get c i.frame_register ≡ rsp c + i.frame_offset) → rsp c + n < 2 ^ 64
    → left_by m x c ≡ Ok (with_rsp c (rsp c + n))
given_back m i c n (instrs.Arithmetic Add W64 (places.Register Rsp) (operands.Immediate v)) e framed
    lt =
    let same : v ≡ n = eqb-true v n e in
    let up : (rsp c + v) % 2 ^ 64 ≡ rsp c + n = omega arith in
    ap (λ a. Ok (with_rsp c a)) up
given_back m i c n (instrs.LoadAddress W64 Rsp a) e framed lt =
    let parts = and_parts (is_of i.frame_register a.base a.index)
    (eqb ((i.frame_offset + a.displacement) % 2 ^ 64) n) e in
    let b = of_frame i.frame_register c a.base a.index parts.0 in
    let at = b.1 ∙ framed b.0 in
    let same : (i.frame_offset + a.displacement) % 2 ^ 64
    ≡ n = eqb-true ((i.frame_offset + a.displacement) % 2 ^ 64) n parts.1 in
    let up : (base_value c a.base + a.displacement) % 2 ^ 64 ≡ rsp c + n = omega arith in
    ap (λ v. Ok (with_rsp c v)) up
given_back m i c n x e framed lt = absurd (false≢true e)

-- where the frame register is, if there is one
pub above : (i : Info) (now : ℕ → ℕ) (at : ℕ) (ops : List UnwindOperation) → Ordered ops
    → (i.frame_register ≢ 0 → sets_frame ops ≡ true)
    → Framed i.frame_register i.frame_offset now at ops → i.frame_register ≢ 0
    → now i.frame_register ≡ at + i.frame_offset
above i now at ops o has f ne = framed_above i.frame_register i.frame_offset now at ops o (has ne) f

pub epilogue_restores : EpilogueRestores
epilogue_restores i m c base old back ops [] n lt ord a has s f o e = absurd (false≢true e)
epilogue_restores i m c base old back ops (x ∷ is) n lt ord a has s f o e =
    let order = ordered ops ord in
    let open' = stack_opened m old back base (rsp c) ops order s in
    let allowed = pushes_allowed i.frame_register ops order a in
    let d = stack_depth m old back base (rsp c + allocation ops) (pushed (pushes ops)) open' in
    elim (or_cases (gives_back i.frame_register i.frame_offset (allocation ops) x
    && pops (pushes ops) is) (eqb (allocation ops) 0 && pops (pushes ops) (x ∷ is)) e) [
      | inl given ↦
          let p = and_parts (gives_back i.frame_register i.frame_offset (allocation ops) x)
          (pops (pushes ops) is) given in
          let c' = with_rsp c (rsp c + allocation ops) in
          let top : get c' 4 ≡ rsp c + allocation ops = get-rsp_same c (rsp c + allocation ops) n in
          ap (λ (b : Answer Context). b >>= left m is)
          (given_back m i c (allocation ops) x p.0 (above i (get c) (rsp c) ops order has f)
          (omega arith))
          ∙ pops_restore i.frame_register m c' base old back (pushes ops) is
          (rsp_length c (rsp c + allocation ops) n) lt allowed
          (subst (λ y. Stack m old back base y (pushed (pushes ops))) (sym top) open')
          (λ q nv four r. get-rsp_other c q (rsp c + allocation ops) four ∙ o q nv four r) p.1
      | inr none ↦
          let p = and_parts (eqb (allocation ops) 0) (pops (pushes ops) (x ∷ is)) none in
          let z = eqb-true (allocation ops) 0 p.0 in
          let at : rsp c + allocation ops ≡ rsp c = omega arith in
          pops_restore i.frame_register m c base old back (pushes ops) (x ∷ is) n lt allowed
          (subst (λ y. Stack m old back base y (pushed (pushes ops))) at open') o p.1
    ]
