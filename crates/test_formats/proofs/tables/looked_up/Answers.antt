use Rattle.std.proofs.Common.{◌≡◌, ℕ, zero, suc, ◌+◌, ◌-◌, ◌*◌, ◌^◌, ◌≤◌, ◌<◌, arith}
use Rattle.std.proofs.Math.Nat.{pow-suc}
use Rattle.test_formats.proofs.tables.looked_up.Goals as goal

some_power : (n : ℕ) → 0 < 2 ^ n
some_power zero = omega arith
some_power (suc n) = omega (arith, pow-suc 2 n, some_power n)

-- n steps of a search among so few entries
none : (n : ℕ) → 2 ^ n ≤ 1 → n ≡ 0
none zero le = omega arith
none (suc n) le = absurd (omega (arith, pow-suc 2 n, some_power n))

at_most_two : (n : ℕ) → 2 ^ n ≤ 7 → n ≤ 2
at_most_two zero le = omega arith
at_most_two (suc zero) le = omega arith
at_most_two (suc (suc zero)) le = omega arith
at_most_two (suc (suc (suc n))) le = absurd (omega
    (arith, pow-suc 2 (suc (suc n)), pow-suc 2 (suc n), pow-suc 2 n, some_power n))

module _ (old new count : ℕ) (start : old ≡ 0) (cost : 2 ^ (new - old) ≤ 2 * count + 1) where
  of_none : count ≡ 0 → new ≡ 0
  of_none e = let few : 2 ^ (new - old) ≤ 1 = omega arith in let steps = none (new - old) few in
      omega arith

  of_three : count ≡ 3 → new ≤ 2
  of_three e = let few : 2 ^ (new - old) ≤ 7 = omega arith in
      let steps = at_most_two (new - old) few in omega arith

pub returns : goal.returns
returns c = λ c'. record {
  of_none = of_none _ _ _ c'.new-steps.ensures c'.lookup_counted-found.ensures.cost;
  of_three = of_three _ _ _ c'.new-steps.ensures c'.lookup_counted-found.ensures.cost;
}
