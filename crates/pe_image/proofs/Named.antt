-- Where names end, by the ends that were found before.
use Rattle.std.proofs.Common.{◌≡◌, ℕ, ◌+◌, ◌-◌, ◌<◌, ◌≤◌, Bool, true, false, cond, leb, List, length, take, drop, position, option_map, Option, Some, None, refl, ap, sym, subst, ◌∙◌, inl, inr, arith}
use Rattle.std.specs.Ordering.{nat_cmp}
use Rattle.std.specs.BTreeMap.{BTreeMap, get, is_at}
use Rattle.std.proofs.lemmas.Bool.{cases_eq, le-leb}
use Rattle.std.proofs.lemmas.List.{length-drop}
use Rattle.std.proofs.lemmas.List.Quantifiers.{position-Some}
use Rattle.pe_image.specs.Image.{Section, AreAscending, section_at, stored_in}
use Rattle.pe_image.specs.Imports.{hinted, unless_short, name_at}
use Rattle.pe_image.specs.Names.{EndsAt, AreEnds}
use Rattle.pe_image.proofs.Inserted.{at_key, off_key}
use Rattle.pe_image.proofs.Stored.{stored_after}
use Rattle.pe_image.proofs.Zeros.{is_zero, first_after}

-- the first 0 from an address on is that from each address up to it
pub ends_after : (ss : List Section) → AreAscending 0 ss → (from at end : ℕ) → EndsAt ss from end
    → from ≤ at → at ≤ end → position is_zero (stored_in at (section_at at ss)) ≡ Some (end - at)
ends_after ss up from at end h begun passed =
    let bytes = stored_in from (section_at from ss) in
    let there = position-Some is_zero bytes (end - from) 0 h.first in
    let n : ℕ = at - from in
    let here : from + (at - from) ≡ at = omega arith in
    let left : end - from - (at - from) ≡ end - at = omega arith in
    ap (λ k. position is_zero (stored_in k (section_at k ss))) (sym here)
    ∙ ap (position is_zero) (stored_after from (at - from) ss up (omega (arith, there.0)))
    ∙ first_after (at - from) (end - from) bytes (omega arith) h.first
    ∙ ap (λ (k : ℕ). Some k) left

-- a stretch after an address, seen from there
pub known_after : (ss : List Section) → AreAscending 0 ss → (from at end : ℕ) → EndsAt ss from end
    → at ≤ from → from - at < length (stored_in at (section_at at ss))
    → position is_zero (drop (from - at) (stored_in at (section_at at ss)))
    ≡ Some (end - at - (from - at))
known_after ss up from at end h le lt =
    let here : at + (from - at) ≡ from = omega arith in
    let left : end - from ≡ end - at - (from - at) = omega (arith, h.above) in
    ap (position is_zero) (sym (stored_after at (from - at) ss up lt))
    ∙ ap (λ k. position is_zero (stored_in k (section_at k ss))) here
    ∙ h.first
    ∙ ap (λ (k : ℕ). Some k) left

-- a stretch more is kept
pub ends_kept : (ss : List Section) (old new : BTreeMap ℕ ℕ) (at end : ℕ)
    → ((q : ℕ) → get nat_cmp new q ≡ cond (is_at (nat_cmp end) q) (Some at) (get nat_cmp old q))
    → AreEnds ss old → EndsAt ss at end → AreEnds ss new
ends_kept ss old new at end has before this e f found = elim (cases_eq e end) [
  | inl same ↦
      let there : Some at ≡ Some f = sym (at_key old new end at has e same) ∙ found in
      let from : at ≡ f = cc in
      subst (λ (n : ℕ). EndsAt ss n e) from (subst (λ (n : ℕ). EndsAt ss at n) (sym same) this)
  | inr other ↦ before e f (sym (off_key old new end at has e other) ∙ found)
]

-- ---- a name after its hint

none_is_short : (b : Bool) → unless_short None b ≡ None
none_is_short true = refl
none_is_short false = refl

module _ (ss : List Section) (up : AreAscending 0 ss) (at : ℕ) (bytes : List ℕ)
    (is : bytes ≡ stored_in at (section_at at ss)) (long : 2 < length bytes) where
  after_hint : stored_in (at + 2) (section_at (at + 2) ss) ≡ drop 2 bytes
  after_hint =
      let there : 2 < length (stored_in at (section_at at ss)) = subst
      (λ (b : List ℕ). 2 < length b) is long in
      stored_after at 2 ss up there ∙ ap (drop 2) (sym is)

  ended : (o : Option ℕ) → o ≡ position is_zero (stored_in (at + 2) (section_at (at + 2) ss))
      → position is_zero (drop 2 bytes) ≡ o
  ended o e = sym (e ∙ ap (position is_zero) after_hint)

  pub name_fits : (len : ℕ) → Some len ≡ position is_zero
      (stored_in (at + 2) (section_at (at + 2) ss)) → len + 2 < length bytes
  name_fits len e = let p = position-Some is_zero (drop 2 bytes) len 0 (ended (Some len) e) in
      omega (arith, p.0, length-drop 2 bytes)

  pub named : (len : ℕ) → Some len ≡ position is_zero (stored_in (at + 2) (section_at (at + 2) ss))
      → Some (take len (drop 2 bytes)) ≡ name_at ss at
  named len e =
      sym (ap hinted (sym is)
      ∙ ap (λ (o : Option ℕ). unless_short (option_map (λ n. take n (drop 2 bytes)) o)
      (leb 2 (length bytes))) (ended (Some len) e)
      ∙ ap (unless_short (Some (take len (drop 2 bytes)))) (le-leb 2 (length bytes) (omega arith)))

  pub name_ends : (len k : ℕ) → Some len ≡ position is_zero
      (stored_in (at + 2) (section_at (at + 2) ss)) → k ≡ len → EndsAt ss (at + 2) (at + 2 + k)
  name_ends len k e same =
      let left : len ≡ at + 2 + k - (at + 2) = omega (arith, same) in
      record { above = omega arith; first = sym e ∙ ap (λ (n : ℕ). Some n) left }

  pub unnamed : None ≡ position is_zero (stored_in (at + 2) (section_at (at + 2) ss))
      → None ≡ name_at ss at
  unnamed e =
      sym (ap hinted (sym is)
      ∙ ap (λ (o : Option ℕ). unless_short (option_map (λ n. take n (drop 2 bytes)) o)
      (leb 2 (length bytes))) (ended None e)
      ∙ none_is_short (leb 2 (length bytes)))
