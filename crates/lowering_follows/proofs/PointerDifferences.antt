-- How far two pointers are apart.
use Rattle.std.proofs.Common.{◌≡◌, ◌<◌, ◌≤◌, ℕ, zero, suc, ◌+◌, ◌^◌, List, [], ◌∷◌, ◌++◌, length, refl, ap, sym, ◌∙◌, arith}
use Rattle.std.proofs.lemmas.Bool.{lt-ltb, ltb-true, ltb-false}
use Rattle.std.proofs.lemmas.List.{length_push}
use Rattle.std.specs.Prelude.{◌-◌, ◌/◌, nat_lt, negsuc, ◌-ℤ◌, int_div, neg_ℤ, Bool, true, false, if◌then◌else◌, ℤ, pos}
use Rattle.lowering_follows.specs.Words.{W64, low, signed, wrapped, limit, half, Expression, State, Value, Gives, Temporary, Store, with_temporary, exec, expression_size, constant, combine, node_code, NodeFits, expression_weight, node_weight, HasAt, Long, result_of, performed, signed_part, is_reserved, Memory, computed, apart}
use Rattle.c_operations.specs.declared.operation.Operation.TheVariants as operations
use Rattle.c_operations.specs.declared.operation.Pure.TheVariants as pures
use Rattle.c_checked.specs.Expression as nodes
use Rattle.lowering_follows.proofs.Lemmas.{conf}
use Rattle.lowering_follows.proofs.NodeSettings.{NodeSetting}
use Rattle.lowering_follows.proofs.TaskClaims.{pushed}
use Rattle.lowering_follows.proofs.Turns.{combining, pure_turn, constant_turn}
use Rattle.lowering_follows.proofs.Operations.{push_put}
use Rattle.lowering_follows.proofs.NodeParts.{Kp, turn, here_other}
use Rattle.lowering_follows.proofs.Nodes.{NodeRuns}
use Rattle.seh_num.specs.Division.{is_signed, divided_signed}
use Rattle.seh_num.proofs.Quotients.{divided}
use Rattle.c_operations.specs.declared.operation.Signedness.TheVariants.{Signed}
use Rattle.c_operations.specs.Performed as performing
use Rattle.lowering_follows.proofs.Turns.{computed_gives, computes}
use Rattle.lowering_follows.proofs.Nodes.{two_runs}

-- ---- division by a positive number of 63 bits

negative_small : (k : ℕ) → k ≤ 2 ^ 63 → is_signed W64 (neg_ℤ (pos k)) ≡ true
negative_small zero h = refl
negative_small (suc k) h = lt-ltb k (2 ^ 63) (omega arith)

quotient_small : (x : ℤ) (n : ℕ) → is_signed W64 x ≡ true → 0 < n
    → is_signed W64 (int_div x (pos n)) ≡ true
quotient_small (pos a) n h p =
    let small = ltb-true a (2 ^ 63) h in
    let less : a / n ≤ a = grind arith in
    lt-ltb (a / n) (2 ^ 63) (omega arith)
quotient_small (negsuc a) n h p =
    let small = ltb-true a (2 ^ 63) h in
    let less : suc a / n ≤ suc a = grind arith in
    negative_small (suc a / n) (omega arith)

low_negative : (m : ℕ) → 2 ^ 63 ≤ m → m < 2 ^ 64 → is_signed W64 (pos m -ℤ pos (2 ^ 64)) ≡ true
low_negative m h l = ap (λ b. is_signed W64 (if b then negsuc (2 ^ 64 - suc m) else pos
    (m - 2 ^ 64))) (lt-ltb m (2 ^ 64) l) ∙ lt-ltb (2 ^ 64 - suc m) (2 ^ 63) (omega arith)

signed_is : (q : ℕ) → is_signed W64 (signed W64 q) ≡ true
signed_is q = by_half (nat_lt (low W64 q) (half W64)) refl
  where
    by_half : (b : Bool) → nat_lt (low W64 q) (half W64) ≡ b
        → is_signed W64 (if b then pos (low W64 q) else pos (low W64 q) -ℤ pos (limit W64)) ≡ true
    by_half true e = e
    by_half false e = low_negative (low W64 q) (ltb-false (low W64 q) (half W64) e) (omega arith)

positive_is : (n : ℕ) → n < 2 ^ 63 → signed W64 n ≡ pos n
positive_is n h =
    let same : low W64 n ≡ n = omega arith in
    ap (λ b. if b then pos (low W64 n) else pos (low W64 n) -ℤ pos (limit W64))
    (lt-ltb (low W64 n) (2 ^ 63) (omega arith)) ∙ ap pos same

divides : (reserved : ℕ → Bool) (q n : ℕ) (m : Memory) → 0 < n → n < 2 ^ 63
    → performed reserved (operations.Divide Signed Long) q n m
    ≡ performing.Gives (wrapped W64 (int_div (signed W64 q) (pos n))) m
divides reserved q n m p h =
    ap (λ d. signed_part (λ x. x.0) W64 m (divided_signed W64 (signed W64 q) d)) (positive_is n h)
    ∙ ap (signed_part (λ x. x.0) W64 m) (sym (divided W64 (signed W64 q) (pos n) p
    (quotient_small (signed W64 q) n (signed_is q) p)))

module _ (setting : NodeSetting) (roomy : 4 ≤ setting.rate) where
  open setting use {program, linear, rate, body, n, code_place.{names, info, z, context, site}}

  pub difference_node : (size : ℕ) (e f : Expression) (pc : ℕ) (temps : List ℕ) (st : State)
      (store : Store) → st.steps_left ≤ n → 1 + node_weight (nodes.PointerDifference size e f)
      + body + 4 ≤ rate → NodeFits program z.own info (nodes.PointerDifference size e f)
      → HasAt linear site.body site.regions pc
      (node_code names (nodes.PointerDifference size e f) (length temps) pc)
      → Kp setting roomy st store → st.held ≡ site.held
      → NodeRuns setting roomy (nodes.PointerDifference size e f) pc temps st store
  difference_node size e f pc temps st store steps light fits has kept held =
      let d = length temps in
      let w = 1 + (expression_weight e + expression_weight f) in
      let debt = 1 + expression_weight e + expression_weight f in
      let pc2 = pc + expression_size e + expression_size f in
      let last_pc = pc + (expression_size e + (expression_size f + 3)) in
      let part = pushed context site last_pc temps in
      let end : pc2 + 1 + 1 + 1 ≡ last_pc = omega arith in
      two_runs setting roomy e f
      (combine d (operations.Pure (pures.Subtract Long)) ∷ constant (d + 1) size
      ∷ combine d (operations.Divide Signed Long) ∷ []) pc temps st store 13 w part
      (λ x y st. Gives (Value (apart size x y)) st) steps (omega arith) (omega arith) fits.0
      fits.1 has kept held
      (λ x y mid after steps kept held last.
      let q = result_of (pures.Subtract Long) x y in
      let v = apart size x y in
      let small : size < 2 ^ 64 = let s = fits.2.small in omega arith in
      turn setting roomy pc2 (pc2 + 1) ((temps ++ x ∷ []) ++ y ∷ [])
      (temps ++ q ∷ []) mid after 12 debt w w part (Gives (Value v) mid)
      (λ k. pure_turn linear rate context site (pures.Subtract Long) d d (d + 1) x y
      (λ u. temps ++ u ∷ []) pc2 ((temps ++ x ∷ []) ++ y ∷ []) mid after k refl
      (last.0, last.1, tt) (combining temps x y))
      (turn setting roomy (pc2 + 1) (pc2 + 1 + 1) (temps ++ q ∷ [])
      ((temps ++ q ∷ []) ++ size ∷ []) mid after 11 debt w w part (Gives (Value v) mid)
      (λ k. constant_turn linear rate context site size (d + 1) ((temps ++ q ∷ []) ++ size ∷ [])
      (pc2 + 1) (temps ++ q ∷ []) mid after k small (last.2.0, last.2.1, tt)
      (ap (λ i. with_temporary (temps ++ q ∷ []) i size) (sym (length_push temps q))
      ∙ push_put (temps ++ q ∷ []) size))
      (turn setting roomy (pc2 + 1 + 1) (pc2 + 1 + 1 + 1) ((temps ++ q ∷ []) ++ size ∷ [])
      (temps ++ v ∷ []) mid after 10 debt w w part (Gives (Value v) mid) (λ k.
      computes linear rate context site (operations.Divide Signed Long) d d (d + 1) q size
      (λ u. temps ++ u ∷ []) (pc2 + 1 + 1) ((temps ++ q ∷ []) ++ size ∷ []) mid after k refl
      last.2.2 (combining temps q size)
      ∙ ap (computed linear (exec linear k) (Temporary d)
      (conf context site (pc2 + 1 + 1) ((temps ++ q ∷ []) ++ size ∷ []) mid after))
      (divides (is_reserved linear.globals) q size after.memory fits.2.positive fits.2.small)
      ∙ computed_gives linear rate context site d (pc2 + 1 + 1) ((temps ++ q ∷ []) ++ size ∷ [])
      (temps ++ v ∷ []) mid after v after.memory (exec linear k)
      ((combining temps q size).writes v))
      (here_other setting roomy (pc2 + 1 + 1 + 1) last_pc temps v mid after 10 debt w w end
      (omega arith) kept held))))
